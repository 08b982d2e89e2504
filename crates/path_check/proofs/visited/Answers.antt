-- What is found lies in the range. Assumes nothing.
use Rattle.std.proofs.Common.{rules, ℕ, ◌≤◌, ◌<◌, Option, None, Some, arith, length, ◌/◌, unwrap_or}
use Rattle.std.specs.Option.{MatchOption}
use Rattle.std.proofs.lemmas.Iterator.{first_from_Range}
use Rattle.sheet_parts.proofs.Words.{length_words}
use Rattle.path_check.proofs.visited.Goals as goal

found : (P : Type 0) (Q R : ℕ → Type 0) (k count : ℕ) (r : Option ℕ) → k ≤ count → MatchOption r P (λ i. (k ≤ i) × (i < count) × Q i × R i) → (k ≤ unwrap_or r count) × (unwrap_or r count ≤ count)
found P Q R k count None l h = (l, omega arith)
found P Q R k count (Some i) l h = (h.0, omega arith)

pub returns-clause-onward : goal.returns-clause-onward
returns-clause-onward c =
    let first = first_from_Range _ _ _ c.find.result (λ _. Unit {0}) (λ _. Unit {0}) c.find.ensures.ran (λ x q k. tt) (λ x q k. search rules) in
    let f = found _ (λ _. Unit {0}) _ c.args.k (length c.args.goals.now / 2) c.find.result (omega (arith, length_words c.args.goals.now)) first in
    omega (arith, f)

pub returns-clause-upper_bound : goal.returns-clause-upper_bound
returns-clause-upper_bound c =
    let first = first_from_Range _ _ _ c.find.result (λ _. Unit {0}) (λ _. Unit {0}) c.find.ensures.ran (λ x q k. tt) (λ x q k. search rules) in
    let f = found _ (λ _. Unit {0}) _ c.args.k (length c.args.goals.now / 2) c.find.result (omega (arith, length_words c.args.goals.now)) first in
    omega (arith, f, length_words c.args.goals.now)
