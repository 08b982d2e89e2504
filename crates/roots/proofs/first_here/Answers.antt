-- `first_here` meets its contract. Assumes nothing.
use Rattle.std.proofs.Common.{length}
use Rattle.roots.proofs.Playing.{win_inside, own_inside, first_inside, here_read}
use Rattle.roots.proofs.first_here.Goals as goal

pub first_choice-first-requires : goal.first_choice-first-requires
first_choice-first-requires c =
    let a = c.args in
    let pre = c.requires in
    let w = a.work.now in
    (win_inside w a.latest pre.3 (length w) _ _ pre.0 c.win_of-left.ensures, own_inside w a.latest pre.3 (length w) a.k _ pre.0 pre.1 c.own_of-own.ensures)

pub first_choice-requires : goal.first_choice-requires
first_choice-requires c =
    let a = c.args in
    let pre = c.requires in
    let w = a.work.now in
    (win_inside w a.latest pre.3 (length w) _ _ pre.0 c.win_of-right.ensures, first_inside w a.latest pre.3 (length w) a.k _ _ _ pre.0 pre.1 c.win_of-left.ensures c.own_of-own.ensures c.first_choice-first.ensures)

pub returns : goal.returns
returns c =
    let a = c.args in
    let pre = c.requires in
    let w = a.work.now in
    here_read w a.latest pre.3 a.k _ _ _ _ _ pre.1 pre.2 c.own_of-own.ensures c.win_of-left.ensures c.win_of-right.ensures c.first_choice-first.ensures c.first_choice.ensures
