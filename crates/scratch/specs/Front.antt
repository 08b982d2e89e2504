-- What a least path within the search's workspace leaves. Assumes nothing.
use Rattle.std.specs.Prelude.{ℕ, ◌+◌, ◌*◌, ◌≡◌, List, take}

-- the words of the nodes, records and keys, are as they were
abbrev pub Front : ℕ → List ℕ → List ℕ → Type 0
Front limit before after = take (512 * limit + 4096) after ≡ take (512 * limit + 4096) before
