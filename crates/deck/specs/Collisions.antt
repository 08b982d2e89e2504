-- Document 01, "Path and plan" as far as it goes about two carriers: collisions and their order. Assumes nothing.
use Rattle.std.specs.Prelude.{ℕ, suc, Bool, ◌&&◌, not, cond, List, [], ◌++◌, map, ltb, eqb, Option}
use Rattle.deck.specs.Lists.{◌at◌, path_of, below, select, each, head_of}
use Rattle.deck.specs.Sheet.{carrier}
use Rattle.deck.specs.declared.Collision.{Collision}
use Rattle.deck.specs.declared.Collision.TheVariants.{Place, Move}

-- the place of carrier i at t
abbrev pub place_at : List (List ℕ) → ℕ → ℕ → ℕ
place_at ps i t = path_of ps i at t

-- the pairs i < j of carriers below m, by i, then by j
unfoldable pub pairs : ℕ → List (ℕ × ℕ)
pairs m = each (λ i. map (λ j. (i, j)) (select (ltb i) (below m))) (below m)

-- "Place collision at t: two carriers on one place"
unfoldable pub place_collides : List (List ℕ) → ℕ → ℕ × ℕ → Bool
place_collides ps t e = eqb (place_at ps e.0 t) (place_at ps e.1 t)

-- "one goes u to v and the other v to u between t and t + 1, u different from v"
unfoldable pub move_collides : List (List ℕ) → ℕ → ℕ × ℕ → Bool
move_collides ps t e =
    eqb (place_at ps e.0 t) (place_at ps e.1 (suc t)) && eqb (place_at ps e.0 (suc t)) (place_at ps e.1 t)
    && not (eqb (place_at ps e.0 t) (place_at ps e.0 (suc t)))

abbrev pub place_collision : List (List ℕ) → ℕ → ℕ × ℕ → Collision
place_collision ps t e = Place t (carrier e.0) (carrier e.1) (place_at ps e.0 t)

abbrev pub move_collision : List (List ℕ) → ℕ → ℕ × ℕ → Collision
move_collision ps t e = Move t (carrier e.0) (carrier e.1) (place_at ps e.0 t) (place_at ps e.0 (suc t))

-- the collisions at t, "place before move, then least pair i < j"; a move collision at t has t < H
unfoldable pub collisions_at : ℕ → ℕ → List (List ℕ) → ℕ → List Collision
collisions_at m h ps t =
    map (place_collision ps t) (select (place_collides ps t) (pairs m))
    ++ cond (ltb t h) (map (move_collision ps t) (select (move_collides ps t) (pairs m))) []

-- all collisions of m paths up to time h, "least t" first. A finished carrier still collides
unfoldable pub collisions : ℕ → ℕ → List (List ℕ) → List Collision
collisions m h ps = each (collisions_at m h ps) (below (suc h))

unfoldable pub first_collision : ℕ → ℕ → List (List ℕ) → Option Collision
first_collision m h ps = head_of (collisions m h ps)
