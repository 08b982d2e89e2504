-- At every place of the loops the first collision is the head of what is left of the list of collisions; the times passed over by the
-- marks have none. Assumes nothing.
use Rattle.std.proofs.Common.{suc, ◌≡◌, ℕ, List}
use Rattle.deck.specs.Lists.{pieces, head_of}
use Rattle.deck.specs.Collisions.{first_collision}
use Rattle.deck.specs.declared.Collision.{Collision}
use Rattle.collision_scan.proofs.Scans.{from_time, places_from, places_from_pair, moves_from, moves_from_pair}
use Rattle.collision_scan.proofs.paths.Paths.first_collision.Given as goal

abbrev pub Left : (m h : ℕ) → List ℕ → List Collision → Type 0
Left m h ws l = first_collision m h (pieces m (suc h) ws) ≡ head_of l

-- times
abbrev pub invariant-loop-t : goal.invariant-loop-t
invariant-loop-t l = Left l.self.count l.self.last l.self.words.now (from_time l.self.count l.self.last (pieces l.self.count (suc l.self.last) l.self.words.now) l.t)

-- place collisions
abbrev pub invariant-loop-i : goal.invariant-loop-i
invariant-loop-i l = Left l.self.count l.self.last l.self.words.now (places_from l.self.count l.self.last (pieces l.self.count (suc l.self.last) l.self.words.now) l.t l.i)

abbrev pub invariant-loop-j : goal.invariant-loop-j
invariant-loop-j l = Left l.self.count l.self.last l.self.words.now (places_from_pair l.self.count l.self.last (pieces l.self.count (suc l.self.last) l.self.words.now) l.t l.i l.j)

-- move collisions
abbrev pub invariant-loop-i-then-t-self : goal.invariant-loop-i-then-t-self
invariant-loop-i-then-t-self l = Left l.self.count l.self.last l.self.words.now (moves_from l.self.count l.self.last (pieces l.self.count (suc l.self.last) l.self.words.now) l.t l.i)

abbrev pub invariant-loop-j-2 : goal.invariant-loop-j-2
invariant-loop-j-2 l = Left l.self.count l.self.last l.self.words.now (moves_from_pair l.self.count l.self.last (pieces l.self.count (suc l.self.last) l.self.words.now) l.t l.i l.j)
