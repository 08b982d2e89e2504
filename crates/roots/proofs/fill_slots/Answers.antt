-- The slots of carriers below j are filled. Assumes nothing.
use Rattle.std.proofs.Common.{◌∙◌, ap, arith}
use Rattle.prices.specs.Square.{copied}
use Rattle.records.specs.Record.{fields_at, tasks_in}
use Rattle.roots.specs.Choices.{part_in}
use Rattle.tables.specs.declared.Part.{Part}
use Rattle.roots.proofs.Parts.{byte_low}
use Rattle.roots.proofs.Filling.{sofar_more, candidate_read}
use Rattle.roots.proofs.fill_slots.Goals as goal

pub slot_candidate-slot-requires : goal.slot_candidate-slot-requires
slot_candidate-slot-requires c =
    let part = c.part_in-part.ensures ∙ ap part_in c.at.ensures in
    let j = c.loop-j.j in (
      c.requires.0,
      c.loop-j-test.true,
      byte_low (tasks_in (fields_at c.args.work.now c.args.n)) _ j (ap (λ (p : Part). p.tasks) part) (c.requires.2.low j c.loop-j-test.true),
    )

pub loop-j-preserved : goal.loop-j-preserved
loop-j-preserved c =
    let a = c.args in
    let loop = c.loop-j in
    let table = copied a.m a.t.now in
    let part = c.part_in-part.ensures ∙ ap part_in c.at.ensures in
    sofar_more a.m table a.work.now a.n c.requires.0 loop.work _ loop.j c.slot_candidate-slot.result (omega (arith, loop.auto.work)) c.loop-j-test.true
    (candidate_read a.m table (fields_at a.work.now a.n) loop.j c.part_in-part.result c.slot_candidate-slot.result c.requires.2 part c.slot_candidate-slot.ensures) c.set_slot.ensures loop.invariant
