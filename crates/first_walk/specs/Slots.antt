-- Where it is remembered that a spot failed. Assumes nothing.
use Rattle.std.specs.Prelude.{ℕ, ◌+◌, ◌*◌, ◌%◌}

-- the slot, and the spot's number there
abbrev pub slot_of : ℕ → ℕ → ℕ
slot_of t u = (31 * t + u) % 1024

abbrev pub code_of : ℕ → ℕ → ℕ → ℕ
code_of t u k = 1 + u + 1024 * k + 16384 * t
