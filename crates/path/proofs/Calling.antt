-- The whole call: what no cause says, and what the call ensures. Assumes nothing.
use Rattle.std.proofs.Common.{ℕ, suc, ◌≤◌, ◌<◌, ◌≡◌, refl, sym, ap, ◌≢◌, ◌&&◌, List, Option, None, Some, Result, Ok, Err, arith, length, drop, take_at, T, leb, ltb, leb→le, ltb→lt}
use Rattle.deck.specs.declared.cause.Cause.TheVariants.{BadNumber, BadRecords}
use Rattle.deck.specs.Causes.{unless}
use Rattle.deck.specs.Sheet.{read, count_of, horizon_of, cause, sheet_cause}
use Rattle.deck.specs.Paths.{least_path}
use Rattle.deck.specs.Calls.{constraints_of, good_records, workspace_for, workspace_of, workspace_cause, path_found, path_written, path_cause, path_answer_for, path_output_for, PathCall}
use Rattle.deck.specs.Numbers.{path_numbers}
use Rattle.deck.specs.declared.Carrier.{Carrier}
use Rattle.deck.specs.declared.Task.{Task}
use Rattle.deck.specs.declared.Constraint.{Constraint}
use Rattle.deck.specs.declared.cause.Cause.{Cause}
use Rattle.meaning.proofs.Accepted.{first_none, passes_last, accepted_start}
use Rattle.meaning.proofs.Dark.{with_carriers, workspace_with}
use Rattle.meaning.proofs.LeastPath.{LeastMeant, least_path_meant}
use Rattle.kernel.proofs.Both.{and_left, and_right}
use Rattle.bars.specs.Padded.{MaskOf}
use Rattle.passes.specs.Ready.{Ready, room_for}
use Rattle.by_passes.proofs.Finding.{enough_room}
use Rattle.path.specs.Meant.{Meant}

module _ (s : List ℕ) (i : Carrier) (j : Task) (work out : ℕ) (rs : List ℕ) (ok : path_cause s i j work out rs ≡ None) where
  -- what no cause says
  pub record NoCause : Type 0 where
    pub accepted : cause s ≡ None
    pub carrier_in : i.0 < count_of s
    pub task_in : j.0 < count_of s
    pub records : T (good_records (read s) rs)
    pub room : workspace_for (read s) ≤ work
    pub long : suc (horizon_of s) ≤ out

  pub no_cause : NoCause
  unfolding path_cause
  no_cause =
      let c1 = first_none (sheet_cause s) ok in
      let c2 = first_none (unless (ltb i.0 (count_of s) && ltb j.0 (count_of s)) BadNumber) c1.1 in
      let c3 = first_none (unless (good_records (read s) rs) BadRecords) c2.1 in
      let c4 = first_none (workspace_cause (read s) work) c3.1 in
      let b = passes_last (ltb i.0 (count_of s) && ltb j.0 (count_of s)) _ c2.0 in
      let l = ltb→lt i.0 (count_of s) (and_left (ltb i.0 (count_of s)) (ltb j.0 (count_of s)) b) in
      let carriers : 0 < count_of s = omega arith in
      record {
        accepted = with_carriers s c1.0 carriers;
        carrier_in = l;
        task_in = ltb→lt j.0 (count_of s) (and_right (ltb i.0 (count_of s)) (ltb j.0 (count_of s)) b);
        records = passes_last (good_records (read s) rs) _ c3.0;
        room = rw (← workspace_with (read s) carriers) (leb→le (workspace_of (read s)) work (passes_last (leb (workspace_of (read s)) work) _ c4.0));
        long = leb→le (suc (horizon_of s)) out (passes_last (leb (suc (horizon_of s)) out) _ c4.1);
      }

  pub ready_of : (mask : List ℕ) → MaskOf (read s) mask → Ready s i j mask rs
  ready_of mask m =
      let n = no_cause in
      record { accepted = n.accepted; carrier_in = n.carrier_in; task_in = n.task_in; masked = m; records = n.records }

  pub room_of : (mask : List ℕ) → MaskOf (read s) mask → room_for s rs ≤ work
  room_of mask m = enough_room s i j mask rs (ready_of mask m) work no_cause.room

module _ (s : List ℕ) (i : Carrier) (j : Task) (work out rs : List ℕ) where
  abbrev c : Option Cause
  c = path_cause s i j (length work) (length out) rs

  abbrev cs : List Constraint
  cs = constraints_of rs

  -- the definition's answer and output are those that are meant
  meant : Meant s i j work out rs (path_answer_for c (read s) i j rs) (path_output_for c (read s) i j rs out)
  unfolding path_answer_for path_output_for path_found path_written
  meant = by_cause c refl
    where
      found : c ≡ None → (o : Option (List ℕ)) → LeastMeant (read s) i j cs o → Meant s i j work out rs (Ok (path_found (read s) j o)) (path_written o out)
      found z None l = (z, l)
      found z (Some p) l = (z, rw (take_at p (drop (length p) out) (suc (horizon_of s)) l.under.path.long) l)

      by_cause : (n : Option Cause) → n ≡ c → Meant s i j work out rs (path_answer_for n (read s) i j rs) (path_output_for n (read s) i j rs out)
      by_cause None e =
          let ok = no_cause s i j (length work) (length out) rs (sym e) in
          found (sym e) (least_path (read s) i j cs) (least_path_meant (read s) i j cs (accepted_start s ok.accepted i.0 ok.carrier_in))
      by_cause (Some n) e = sym e

  -- what the call ensures of its answer and of the words afterwards
  abbrev pub Ensured : Result (Option ℕ) Cause → (work' out' : List ℕ) → Type 0
  Ensured answer work' out' = PathCall s i j work out rs (path_numbers answer) work' out' × Meant s i j work out rs answer out'

  ensured : (answer : Result (Option ℕ) Cause) (work' out' : List ℕ) → answer ≡ path_answer_for c (read s) i j rs → out' ≡ path_output_for c (read s) i j rs out
      → (c ≢ None → work' ≡ work) → Ensured answer work' out'
  ensured answer work' out' a w k = (record { answered = ap path_numbers a; written = w; refused_work = k }, rw (a, w) meant)

  -- a refused call
  pub call_refused : (d : Cause) → c ≡ Some d → Ensured (Err d) work out
  unfolding path_answer_for path_output_for
  call_refused d e = ensured (Err d) work out (rw e refl) (rw e refl) (λ _. refl)

  -- an accepted call
  pub call_answered : c ≡ None → (answer : Option ℕ) (work' out' : List ℕ)
      → (answer ≡ path_found (read s) j (least_path (read s) i j cs)) × (out' ≡ path_written (least_path (read s) i j cs) out) → Ensured (Ok answer) work' out'
  unfolding path_answer_for path_output_for
  call_answered ok answer work' out' h = ensured (Ok answer) work' out' (rw (ok, h.0) refl) (rw ok h.1) (λ n. absurd (n ok))
