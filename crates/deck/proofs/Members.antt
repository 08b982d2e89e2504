-- Membership in a list and its laws, by the names that the proofs cite. Declares nothing.
-- Kept: Mem and its laws are imported from mathlib.Core here alone; std has membership only by index (`Contains`), and the meaning is stated by Mem.
pub use mathlib.Core.List.{Memᴰ as Mem}
pub use mathlib.Core.List.Memᴰ.{head as here, tail as there, not-nil, cases_cons, cast, eq_of_singleton as only, append_left as in_left, append_right as in_right, append_cases as cases_append, map as map_mem}
