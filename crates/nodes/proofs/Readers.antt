-- What the readers of a record say of its node, and what the gathered records are to the path call. Assumes nothing.
use Rattle.std.specs.Prelude.{None}
use Rattle.std.proofs.Common.{◌≡◌, refl, sym, ◌∙◌, ap, Bool, true, false, ◌&&◌, List, [], ◌∷◌, ◌++◌, ℕ, ◌+◌, ◌*◌, ◌-◌, ◌/◌, ◌%◌, ◌<◌, ◌≤◌, mul-le-mul_left, mul-le-mul_right, arith, T, eqb, leb, ltb, le→leb, lt→ltb, length, get_or, take, drop, replicate, length-append, length-drop, take-append-drop, get_or-take, get_or-drop, ext_get_or, length-take-le}
use Rattle.deck.proofs.Members.{Mem}
use Rattle.std.proofs.lemmas.List.{length-replicate, get_or-replicate}
use Rattle.deck.specs.Lists.{below, all, each}
use Rattle.deck.specs.Sheet.{Sheet, area, carrier, task, cause, read}
use Rattle.deck.specs.Paths.{finish_of}
use Rattle.deck.specs.Search.{task_of, path_at}
use Rattle.deck.specs.Planner.{problem}
use Rattle.deck.specs.Calls.{task_list, record_word, good_record, good_records}
use Rattle.deck.specs.declared.Constraint.{Constraint}
use Rattle.deck.specs.declared.Constraint.TheVariants.{Place, Move}
use Rattle.meaning.proofs.Tests.{says_itself}
use Rattle.meaning.proofs.Lists.{mem_below, each_at}
use Rattle.meaning.proofs.ListTests.{mem_at, says_all}
use Rattle.meaning.proofs.Accepted.{accepted, header_says, accepted_start}
use Rattle.records.specs.Record.{fields_at, root_in, tasks_in, finishes_in, words_of, Small, bytes}
use Rattle.records.proofs.Frames.{length_field}
use Rattle.records.proofs.Words.{bytes_same, length_words}
use Rattle.nodes.specs.Nodes.{path_in, paths_in, stored_path, node_of, node_at}
use Rattle.meaning.specs.Constraints.{InRange}
use Rattle.nodes.specs.Stored.{Fits, Stored}
use Rattle.nodes.proofs.Tables.{map_same}
use Rattle.nodes.proofs.Costs.{path_at_lem}

-- an accepted sheet fits the store
pub accepted_fits : (s : List ℕ) → cause s ≡ None → Fits (read s)
accepted_fits s ok =
    let h = (header_says s).fact (accepted s ok).header in
    let w : (read s).width ≤ 32 = h.0.0.0.0.0.0.1 in
    let g : (read s).height ≤ 32 = h.0.0.0.0.0.1.1 in
    record {
      width = w;
      places = omega (arith, mul-le-mul_right (read s).height w, mul-le-mul_left 32 g);
      count = h.0.0.0.0.1.1;
      horizon = h.0.0.0.1.1;
      starts = λ i b. accepted_start s ok i b;
    }

pub good_small : (d : Sheet) (c : Constraint) → Fits d → InRange d c → Small c
good_small d (Place a u t) f g = (omega (arith, f.count, g.0), omega (arith, f.places, g.1), omega (arith, f.horizon, g.2))
good_small d (Move a u v t) f g = (omega (arith, f.count, g.0), omega (arith, f.places, g.1), omega (arith, f.places, g.2), omega (arith, f.horizon, g.3))

-- THE READERS
module _ (d : Sheet) (work : List ℕ) (n : ℕ) where
  pub root_read : root_in (fields_at work n) ≡ (node_at d work n).root
  unfolding node_of
  root_read = refl

  pub task_read : (i : ℕ) → i < d.count → get_or (tasks_in (fields_at work n)) i 0 ≡ task_of (problem d) (node_at d work n).tasks i
  unfolding node_of
  task_read i h = sym (get_or-take d.count (tasks_in (fields_at work n)) i 0 h)

  pub path_read : (i : ℕ) → i < d.count → path_at (problem d) (node_at d work n).paths i ≡ stored_path d (fields_at work n) i
  unfolding node_of problem
  path_read i h = path_at_lem d (fields_at work n) i h

  -- the paths as they are written, by numbers and starts that are the sheet's
  pub paths_read : (w last m : ℕ) (starts : List ℕ) → w ≡ d.width → last ≡ d.horizon → m ≡ d.count → ((i : ℕ) → i < d.count → get_or starts i 0 ≡ get_or d.starts i 0)
      → paths_in w last starts m (fields_at work n) ≡ (node_at d work n).paths
  unfolding node_of
  paths_read w last m starts ew el em es =
      rw (ew, el, em)
      (map_same (path_in d.width d.horizon starts (fields_at work n)) (stored_path d (fields_at work n)) 0 d.count (λ i a b. rw (es i (omega arith))))

  module _ (limit made : ℕ) (f : Fits d) (s : Stored d limit work made) (b : n < made) (h : 512 * n + 512 ≤ length work) where
    pub finish_read : (i : ℕ) → i < d.count
        → get_or (finishes_in (fields_at work n)) i 0 ≡ finish_of d (task (task_of (problem d) (node_at d work n).tasks i)) (path_at (problem d) (node_at d work n).paths i)
    finish_read i x = rw (← task_read i x, path_read i x) ((s.sound n b).finishes i x)

    pub tasks_length : length (node_at d work n).tasks ≡ d.count
    unfolding node_of
    tasks_length = length-take-le d.count (tasks_in (fields_at work n)) (omega (arith, length_field work n 2 (omega arith) h, f.count))

    -- the tasks as bytes are the task list
    pub tasks_read : bytes (tasks_in (fields_at work n)) ≡ task_list (node_at d work n).tasks
    tasks_read =
        bytes_same (tasks_in (fields_at work n)) (s.sound n b).bytes
        ∙ sym (take-append-drop d.count (tasks_in (fields_at work n)))
        ∙ (unfold node_of in ap (λ (l : List ℕ). take d.count (tasks_in (fields_at work n)) ++ l) (rest ∙ rw tasks_length))
      where
        long : length (tasks_in (fields_at work n)) ≡ 12
        long = length_field work n 2 (omega arith) h

        rest : drop d.count (tasks_in (fields_at work n)) ≡ replicate (12 - d.count) 255
        rest =
            ext_get_or 0 (drop d.count (tasks_in (fields_at work n))) (replicate (12 - d.count) 255)
            (length-drop d.count (tasks_in (fields_at work n)) ∙ rw long (sym (length-replicate {A = ℕ} (12 - d.count) 255)))
            (λ i x. let y : i < 12 - d.count = omega (arith, length-drop d.count (tasks_in (fields_at work n)), long, x) in
            get_or-drop d.count (tasks_in (fields_at work n)) i 0
            ∙ (s.sound n b).past (d.count + i) (omega arith) (omega (arith, f.count))
            ∙ sym (get_or-replicate (12 - d.count) i 255 0 y))

-- THE GATHERED RECORDS are records that the path call accepts
module _ (d : Sheet) where
  both : (a b : Bool) → T a → T b → T (a && b)
  both true b x y = y
  both false b x y = absurd x

  four : (a b c e : Bool) → T a → T b → T c → T e → T (a && b && c && e)
  four a b c e x y z w = both (a && b && c) e (both (a && b) c (both a b x y) z) w

  -- the record of a constraint of the sheet
  good_record_lem : (rs : List ℕ) (k : ℕ) (c : Constraint) → ((n : ℕ) → n < 5 → record_word rs k n ≡ get_or (words_of c) n 0) → InRange d c → T (good_record d rs k)
  unfolding good_record words_of
  good_record_lem rs k (Place a u t) h g =
      rw (h 0 (omega arith), h 1 (omega arith), h 2 (omega arith), h 3 (omega arith), h 4 (omega arith))
      (four (leb 0 1) (ltb a.0 d.count) (ltb u (area d)) (eqb 0 0 && leb t d.horizon) tt (lt→ltb a.0 d.count g.0) (lt→ltb u (area d) g.1)
      (both (eqb 0 0) (leb t d.horizon) tt (le→leb t d.horizon g.2)))
  good_record_lem rs k (Move a u v t) h g =
      rw (h 0 (omega arith), h 1 (omega arith), h 2 (omega arith), h 3 (omega arith), h 4 (omega arith))
      (four (leb 1 1) (ltb a.0 d.count) (ltb u (area d)) (ltb v (area d) && ltb t d.horizon) tt (lt→ltb a.0 d.count g.0) (lt→ltb u (area d) g.1)
      (both (ltb v (area d)) (ltb t d.horizon) (lt→ltb v (area d) g.2) (lt→ltb t d.horizon g.3)))

  pub good_records_lem : (cs : List Constraint) → ((c : Constraint) → Mem c cs → InRange d c) → length cs ≤ 4096 → T (good_records d (each words_of cs))
  unfolding good_records
  good_records_lem cs good few =
      let n : ℕ = length (each words_of cs) in
      let z : n % 5 ≡ 0 = omega (arith, long cs) in
      both (eqb (n % 5) 0 && leb (n / 5) 4096) (all (good_record d (each words_of cs)) (below (n / 5)))
      (both (eqb (n % 5) 0) (leb (n / 5) 4096) (rw z tt) (le→leb (n / 5) 4096 (omega (arith, long cs))))
      ((says_all (good_record d (each words_of cs)) (λ k. T (good_record d (each words_of cs) k)) (λ k. says_itself) (below (n / 5))).test
      (λ k m. at k ((mem_below (n / 5)).0 m)))
    where
      long : (l : List Constraint) → length (each words_of l) ≡ 5 * length l
      long [] = refl
      long (c ∷ l) = length-append (words_of c) (each words_of l) ∙ rw (length_words c, long l) (omega arith)

      none : Constraint
      none = Place (carrier 0) 0 0

      at : (k : ℕ) → k < length (each words_of cs) / 5 → T (good_record d (each words_of cs) k)
      at k h =
          let b : k < length cs = omega (arith, long cs) in
          good_record_lem (each words_of cs) k (get_or cs k none)
          (λ n x. let e : 5 * k + n ≡ k * 5 + n = omega arith in rw e (each_at words_of 5 length_words cs none 0 k n b x))
          (good (get_or cs k none) (mem_at none cs k b))
