-- One step of a layer on the padded grid. Assumes nothing.
use Rattle.std.specs.Prelude.{ℕ, ◌+◌, ◌-◌, max, min, List, get_or}

-- the greatest label of a padded place and the four around it, where the mask lets it through
abbrev pub spread_at : List ℕ → List ℕ → ℕ → ℕ → ℕ
spread_at x mask wide p =
    min
    (max (max (max (get_or x (p - wide) 0) (get_or x (p - 1) 0)) (max (get_or x p 0) (get_or x (p + 1) 0))) (get_or x (p + wide) 0))
    (get_or mask p 0)

-- the same where each of the five ways to the place has a mask of its own: from above, left, itself, right, below
abbrev pub spread_by : List ℕ → List ℕ → ℕ → ℕ → ℕ
spread_by x ways wide p =
    max
    (max
    (max (min (get_or x (p - wide) 0) (get_or ways p 0)) (min (get_or x (p - 1) 0) (get_or ways (1156 + p) 0)))
    (max (min (get_or x p 0) (get_or ways (2312 + p) 0)) (min (get_or x (p + 1) 0) (get_or ways (3468 + p) 0))))
    (min (get_or x (p + wide) 0) (get_or ways (4624 + p) 0))
