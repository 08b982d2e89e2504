-- Each way out is a case of the definition. Assumes nothing.
use Rattle.std.proofs.Common.{rules, ap, ◌∙◌, ◌≡◌, true, false, Ok}
use Rattle.deck.specs.Lists.{within}
use Rattle.collision.proofs.Calls.{says, count_refused, length_refused, accepted}
use Rattle.collision.proofs.first_collision.Goals as goal

pub returns-then-not-contains : goal.returns-then-not-contains
returns-then-not-contains c =
    let out : within 1 12 c.args.m ≡ false = search rules in
    let s = says _ _ _ _ (count_refused c.args.m c.args.h c.args.paths.now out) in
    record { call = s.call; meant = s.meant }

pub returns-then-paths-count : goal.returns-then-paths-count
returns-then-paths-count c =
    let in_range : within 1 12 c.args.m ≡ true = search rules in
    let s = says _ _ _ _ (length_refused c.args.m c.args.h c.args.paths.now in_range (rw (c.from-count.ensures, c.from-last.ensures) at c.if-paths-count.true)) in
    record { call = s.call; meant = s.meant }

pub returns : goal.returns
returns c =
    let in_range : within 1 12 c.args.m ≡ true = search rules in
    let s = says _ _ _ _ (ap Ok (rw (c.from-count.ensures, c.from-last.ensures) at c.first_among.ensures) ∙ accepted c.args.m c.args.h c.args.paths.now in_range (rw (c.from-count.ensures, c.from-last.ensures) at c.if-paths-count.false)) in
    record { call = s.call; meant = s.meant }
