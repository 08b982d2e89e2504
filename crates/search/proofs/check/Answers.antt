-- `check` meets its contract: the causes in order. Assumes nothing.
use Rattle.std.proofs.Common.{rules, ◌≡◌, refl, sym, ◌∙◌, ◌+◌, ◌*◌, arith, None, add-one}
use Rattle.deck.specs.Sheet.{read, sheet_cause}
use Rattle.deck.specs.Calls.{plan_words, workspace_of}
use Rattle.meaning.proofs.Accepted.{none_of_ok, cause_of_err}
use Rattle.search.proofs.Calling.{cause_first, cause_work, cause_out, cause_none}
use Rattle.search.proofs.check.Goals as goal

pub returns-in_err-check : goal.returns-in_err-check
returns-in_err-check c =
    rw (cause_first c.args.s.now c.args.work c.args.out _ (cause_of_err (sheet_cause c.args.s.now) _ _ (sym c.in_err-check.was ∙ c.check.ensures))) (search rules)

pub returns-then-work-room : goal.returns-then-work-room
returns-then-work-room c =
    let accepted : sheet_cause c.args.s.now ≡ None = none_of_ok (sheet_cause c.args.s.now) _ _ (sym c.in_ok-check.was ∙ c.check.ensures) in
    let room_is : c.workspace-room.result ≡ workspace_of (read c.args.s.now) = c.workspace-room.ensures.value in
    rw (cause_work c.args.s.now c.args.work c.args.out accepted (omega (arith, c.if-work-room.true, room_is))) refl

pub returns-then-out-words : goal.returns-then-out-words
returns-then-out-words c =
    let accepted : sheet_cause c.args.s.now ≡ None = none_of_ok (sheet_cause c.args.s.now) _ _ (sym c.in_ok-check.was ∙ c.check.ensures) in
    let words_are : c.count.result * (c.horizon.result + 1) ≡ plan_words (read c.args.s.now) = rw (c.count.ensures.value, c.horizon.ensures.value, add-one) refl in
    let room_is : c.workspace-room.result ≡ workspace_of (read c.args.s.now) = c.workspace-room.ensures.value in
    rw (cause_out c.args.s.now c.args.work c.args.out accepted (omega (arith, c.if-work-room.false, room_is)) (omega (arith, c.if-out-words.true, words_are))) refl

pub returns : goal.returns
returns c =
    let accepted : sheet_cause c.args.s.now ≡ None = none_of_ok (sheet_cause c.args.s.now) _ _ (sym c.in_ok-check.was ∙ c.check.ensures) in
    let words_are : c.count.result * (c.horizon.result + 1) ≡ plan_words (read c.args.s.now) = rw (c.count.ensures.value, c.horizon.ensures.value, add-one) refl in
    let room_is : c.workspace-room.result ≡ workspace_of (read c.args.s.now) = c.workspace-room.ensures.value in
    rw (cause_none c.args.s.now c.args.work c.args.out accepted (omega (arith, c.if-work-room.false, room_is)) (omega (arith, c.if-out-words.false, words_are))) refl
