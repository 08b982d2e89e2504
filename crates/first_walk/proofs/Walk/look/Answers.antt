-- `Walk::look` meets its contract: a way that is left out does not lead on. Assumes nothing.
use Rattle.first_walk.proofs.Looks.{look_blocked, look_closed, look_label, look_from, next_small, look_late, look_failed, look_no_move, look_no_place, look_open}
use Rattle.first_walk.proofs.Walk.look.Goals as goal
use Rattle.first_walk.proofs.Walk.look.Goals.{else-move_free-via-then-move_free+then-place_free+else-opens, else-move_free-via-then-move_free+else-place_free, else-move_free-via-else-move_free}

pub returns-then-mask-padded-eq0 : goal.returns-then-mask-padded-eq0
returns-then-mask-padded-eq0 c = look_blocked c.args.self.now c.args.at c.requires.on c.args.way c.row.ensures c.from-padded.ensures c.if-mask-padded-eq0.true

pub from-place-requires : goal.from-place-requires
from-place-requires c = look_from c.args.self.now c.args.at c.requires.on c.args.way c.row.ensures c.from-padded.ensures c.if-mask-padded-eq0.false

pub visit-visited-requires : goal.visit-visited-requires
visit-visited-requires c = rw c.all.ensures (look_label c.args.self.now c.args.at c.requires.on c.args.way c.row.ensures c.from-padded.ensures)

pub new-next-requires : goal.new-next-requires
new-next-requires c = next_small c.args.self.now c.args.at c.requires.on c.args.way c.row.ensures c.from-padded.ensures c.if-mask-padded-eq0.false c.requires.before c.from-place.ensures (rw c.all.ensures at c.visit-visited.ensures)

pub returns-then-self-next : goal.returns-then-self-next
returns-then-self-next c = look_late c.args.self.now c.args.at c.requires.on c.args.way c.row.ensures c.from-padded.ensures c.if-mask-padded-eq0.false c.requires.before c.from-place.ensures (rw c.all.ensures at c.visit-visited.ensures) c.new-next.result c.new-next.ensures (rw c.from.ensures at c.if-self-next.true)

pub returns-then-contains : goal.returns-then-contains
returns-then-contains c = look_failed c.args.self.now c.args.at c.requires.on c.args.way c.row.ensures c.from-padded.ensures c.if-mask-padded-eq0.false c.requires.before c.from-place.ensures (rw c.all.ensures at c.visit-visited.ensures) c.new-next.result c.new-next.ensures c.args.failed.now.codes c.requires.remembers _ c.contains.ensures c.if-contains.true

pub returns-then-opens : goal.returns-then-opens
returns-then-opens c = look_open c.args.self.now c.args.at c.requires.on c.args.way c.row.ensures c.from-padded.ensures c.if-mask-padded-eq0.false c.requires.before c.from-place.ensures (rw c.all.ensures at c.visit-visited.ensures) c.new-next.result c.new-next.ensures _ _ _ c.move_free.ensures c.if-move_free.true c.place_free.ensures c.if-place_free.true c.opens.ensures c.if-opens.true

pub returns-else-move_free : goal.returns-else-move_free
returns-else-move_free c =
    let no_move = look_no_move c.args.self.now c.args.at c.requires.on c.args.way c.row.ensures c.from-padded.ensures c.if-mask-padded-eq0.false c.requires.before c.from-place.ensures (rw c.all.ensures at c.visit-visited.ensures) c.new-next.result c.new-next.ensures in
    let no_place = look_no_place c.args.self.now c.args.at c.requires.on c.args.way c.row.ensures c.from-padded.ensures c.if-mask-padded-eq0.false c.requires.before c.from-place.ensures (rw c.all.ensures at c.visit-visited.ensures) c.new-next.result c.new-next.ensures in
    elim c.else-move_free.branch [
      | else-move_free-via-then-move_free+then-place_free+else-opens w ↦ look_closed c.args.self.now c.args.at c.requires.on c.args.way c.row.ensures c.from-padded.ensures _ w.opens.ensures w.if-opens.false
      | else-move_free-via-then-move_free+else-place_free w ↦ no_place _ w.place_free.ensures w.if-place_free.false
      | else-move_free-via-else-move_free w ↦ no_move _ c.move_free.ensures w.if-move_free.false
    ]
