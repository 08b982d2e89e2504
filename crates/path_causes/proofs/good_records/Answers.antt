-- All records pass the test. Assumes nothing.
use Rattle.std.proofs.Common.{rules, arith, refl, ◌/◌, ◌%◌, length, eq-eqb, le-leb}
use Rattle.std.proofs.lemmas.Iterator.{YieldsList-from_range}
use Rattle.deck.specs.Sheet.{read}
use Rattle.deck.specs.Calls.{good_record, good_records}
use Rattle.meaning.proofs.Iterators.{all_below}
use Rattle.path_causes.proofs.good_records.Goals as goal

pub returns : goal.returns
unfolding good_records
returns c =
    let all = all_below (length c.args.records.now / 5) (good_record (read c.args.sheet.bytes.now) c.args.records.now) _ _ _ c.all.ensures.ran
    (YieldsList-from_range 0 _ _ refl (omega arith)) (λ x b q k. search rules) in
    rw (eq-eqb (length c.args.records.now % 5) 0 c.if-records-ne0.false, le-leb (length c.args.records.now / 5) 4096 c.if-n-gt4096.false) all
