-- The records of constraints that are gathered along the links. Assumes nothing.
use Rattle.std.proofs.Common.{◌≡◌, refl, sym, ◌∙◌, ap, ap₂, List, [], ◌∷◌, ◌++◌, map, append_assoc, append-nil, ℕ, zero, suc, ◌+◌, ◌*◌, ◌-◌, ◌/◌, ◌<◌, ◌≤◌, zero-add, arith, length, get_or, take, length-append, length-take-le, get_or-append-add}
use Rattle.deck.specs.Lists.{count_from, below, select, each}
use Rattle.deck.specs.Calls.{constraints_of, constraint_at, record_word}
use Rattle.deck.specs.declared.Carrier.{Carrier}
use Rattle.deck.specs.declared.Constraint.{Constraint}
use Rattle.std.specs.Prelude.{Some, None}
use Rattle.std.proofs.lemmas.List.{get_or_append_left, map-append}
use Rattle.std.proofs.lemmas.Option.{same_Some, none-some}
use Rattle.std.proofs.lemmas.Slice.{take-put_mid}
use borrow.Rule.Slice.PartMut.{put_mid}
use Rattle.records.specs.Record.{fields_at, link_in, own_in, origin_in, origin_of, constraint_in, words_of, Small}
use Rattle.records.proofs.Words.{held_again, length_words}
use Rattle.nodes.specs.Nodes.{constraints_at, binds, binding_at}
use Rattle.nodes.specs.Listed.{recorded, Appended}
use Rattle.nodes.specs.declared.constraint_list.ConstraintList.{ConstraintList}
use Rattle.records.specs.declared.Origin.{Origin}
use Rattle.nodes.specs.Stored.{Linked}
use Rattle.nodes.proofs.Tables.{map_same, count_snoc, select_append}
use Rattle.nodes.proofs.Chains.{Links, chain_up, chain_root}

-- THE LIST OF RECORDS
-- one record more is one constraint more
record_snoc : (rs : List ℕ) (k : ℕ) (c : Constraint) → length rs ≡ 5 * k → constraints_of (rs ++ words_of c) ≡ constraints_of rs ++ (c ∷ [])
unfolding constraints_of
record_snoc rs k c l =
    let n : length (rs ++ words_of c) / 5 ≡ suc k =
    (let q : length (rs ++ words_of c) ≡ 5 * k + 5 = length-append rs (words_of c) ∙ rw (l, length_words c) in omega arith) in
    let m : length rs / 5 ≡ k = omega arith in
    ap (λ (x : ℕ). map (constraint_at (rs ++ words_of c)) (below x)) n
    ∙ ap (map (constraint_at (rs ++ words_of c))) (count_snoc 0 k)
    ∙ map-append (constraint_at (rs ++ words_of c)) (count_from 0 k) ((0 + k) ∷ [])
    ∙ ap₂ (λ (t u : List Constraint). t ++ u)
    (map_same (constraint_at (rs ++ words_of c)) (constraint_at rs) 0 k (λ j a b. old j (omega arith)))
    (ap (λ (x : Constraint). x ∷ []) (ap (constraint_at (rs ++ words_of c)) (zero-add k) ∙ last ∙ held_again c))
    ∙ ap (λ (x : ℕ). map (constraint_at rs) (below x) ++ (c ∷ [])) (sym m)
  where
    word : (j n : ℕ) → j < k → n < 5 → record_word (rs ++ words_of c) j n ≡ record_word rs j n
    word j n h g = get_or_append_left rs (words_of c) 0 (5 * j + n) (omega arith)

    old : (j : ℕ) → j < k → constraint_at (rs ++ words_of c) j ≡ constraint_at rs j
    old j h = rw (word j 0 h (omega arith), word j 1 h (omega arith), word j 2 h (omega arith), word j 3 h (omega arith), word j 4 h (omega arith))

    new : (n : ℕ) → record_word (rs ++ words_of c) k n ≡ get_or (words_of c) n 0
    new n = rw (← l) (get_or-append-add rs (words_of c) n 0)

    last : constraint_at (rs ++ words_of c) k ≡ constraint_in (words_of c)
    last = rw (new 0, new 1, new 2, new 3, new 4)

pub records_append : (rs : List ℕ) (k : ℕ) (cs : List Constraint) → length rs ≡ 5 * k → constraints_of (rs ++ each words_of cs) ≡ constraints_of rs ++ cs
records_append rs k [] l = rw (append-nil rs) (sym (append-nil (constraints_of rs)))
records_append rs k (c ∷ cs) l =
    let m : length (rs ++ words_of c) ≡ 5 * suc k = length-append rs (words_of c) ∙ rw (l, length_words c) (omega arith) in
    rw (← append_assoc rs (words_of c) (each words_of cs), records_append (rs ++ words_of c) (suc k) cs m, record_snoc rs k c l)
    (append_assoc (constraints_of rs) (c ∷ []) cs)

each-append : (l r : List Constraint) → each words_of (l ++ r) ≡ each words_of l ++ each words_of r
each-append [] r = refl
each-append (c ∷ l) r = ap (λ (t : List ℕ). words_of c ++ t) (each-append l r) ∙ sym (append_assoc (words_of c) (each words_of l) (each words_of r))

-- ONE LIST AFTER ANOTHER
pub appended_then : {a b c : ConstraintList} {cs ds : List Constraint} → Appended a cs b → Appended b ds c → Appended a (cs ++ ds) c
appended_then {a} {b} {c} {cs} {ds} v w =
    record {
      same_words = w.same_words ∙ v.same_words;
      room = w.room ∙ v.room;
      words =
          w.words ∙ ap (λ (t : List ℕ). t ++ each words_of ds) v.words
          ∙ append_assoc (recorded a) (each words_of cs) (each words_of ds)
          ∙ ap (λ (t : List ℕ). recorded a ++ t) (sym (each-append cs ds));
      number = omega (arith, w.number, v.number, length-append cs ds);
      constraints =
          w.constraints ∙ ap (λ (t : List Constraint). t ++ ds) v.constraints ∙ append_assoc (constraints_of (recorded a)) cs ds;
    }

-- one record more
module _ (words ys : List ℕ) (count : ℕ) (c : Constraint) (h : 5 * count + 5 ≤ length words) (e : ys ≡ words_of c) where
  pub words_more : take (5 * (count + 1)) (put_mid (5 * count) (5 * count + 5 - 5 * count) words ys) ≡ take (5 * count) words ++ each words_of (c ∷ [])
  words_more =
      let l : length ys ≡ 5 = ap length e ∙ length_words c in
      take-put_mid (5 * count) (5 * count + 5 - 5 * count) words ys (5 * (count + 1)) (omega arith) (omega arith)
      ∙ ap (λ (t : List ℕ). take (5 * count) words ++ t) (e ∙ sym (append-nil (words_of c)))

  pub constraints_more : constraints_of (take (5 * (count + 1)) (put_mid (5 * count) (5 * count + 5 - 5 * count) words ys)) ≡ constraints_of (take (5 * count) words) ++ (c ∷ [])
  constraints_more = ap constraints_of words_more ∙ records_append (take (5 * count) words) count (c ∷ []) (length-take-le (5 * count) words (omega arith))

-- ALONG THE LINKS
module _ (work : List ℕ) (n : ℕ) (i : Carrier) (linked : Linked work n) (at : ℕ) (b : at ≤ n) where
  links : Links (fields_at work) (suc n)
  links k h = linked.earlier k (omega arith)

  -- the origin of a child is an earlier node, and its constraint is followed by those of its parent
  pub origin_up : (o : Origin) → origin_in (fields_at work at) ≡ Some o
      → (o.parent < at) × Small o.constraint × (binding_at work at i ≡ select (binds i) (o.constraint ∷ []) ++ binding_at work o.parent i)
  origin_up o e = go (link_in (fields_at work at)) refl e
    where
      go : (l : ℕ) → link_in (fields_at work at) ≡ l → origin_of l (own_in (fields_at work at)) ≡ Some o
          → (o.parent < at) × Small o.constraint × (binding_at work at i ≡ select (binds i) (o.constraint ∷ []) ++ binding_at work o.parent i)
      go zero z q = absurd (none-some o q)
      go (suc p) z q =
          let own : own_in (fields_at work at) ≡ o.constraint = ap (λ (x : Origin). x.constraint) (same_Some _ _ q) in
          let less : suc p - 1 ≡ p = omega arith in
          let up : p ≡ o.parent = ap (λ (x : Origin). x.parent) (same_Some _ _ q) in (
            omega (arith, linked.earlier at b, z, up),
            rw own at (linked.small at b),
            ap (select (binds i)) (rw (less, own) at (chain_up (fields_at work) (suc n) at (suc p) links (omega arith) (sym z) (λ y. omega arith)))
                ∙ select_append (binds i) (o.constraint ∷ []) (constraints_at work p) ∙ rw up,
          )

  pub origin_none : origin_in (fields_at work at) ≡ None → binding_at work at i ≡ []
  origin_none e = go (link_in (fields_at work at)) refl e
    where
      go : (l : ℕ) → link_in (fields_at work at) ≡ l → origin_of l (own_in (fields_at work at)) ≡ None → binding_at work at i ≡ []
      go zero z q = ap (select (binds i)) (chain_root (fields_at work) at 0 (sym z) refl)
      go (suc p) z q = absurd (none-some _ (sym q))

pub records_of : (cs : List Constraint) → constraints_of (each words_of cs) ≡ cs
records_of cs = records_append [] 0 cs refl ∙ (unfold constraints_of in refl)
