-- What stands at a place, and whether it is refused there, can be settled.
use Rattle.std.proofs.Common.{◌≡◌, ℕ, ◌≤◌, ◌⊎◌, List, length, Some, None, count_by, Option, sym, refl, ap, ◌∙◌, subst, inl, inr, ⊎_elim, arith}
use Rattle.std.proofs.lemmas.Bool.{cases_eq, cases_lt}
use Rattle.std.proofs.lemmas.Option.{same_Some}
use Rattle.refusals.specs.declared.Refusal.{Refusal}
use Rattle.refusals.specs.declared.Refusal.TheVariants.{BadShape, BadCoverage, Empty, BadVirtual, TooManySubtables}
use Rattle.words.specs.Grammar.{StreamTable, Stream}
use Rattle.words.proofs.Saying.{none_some}
use Rattle.coverage.specs.Meaning.{Meant}
use Rattle.model.specs.Forest.{Ligature, LigatureSet, Subtable, Lookup}
use Rattle.model.specs.Tables.{head, lookup_table, subtable_table, set_table}
use Rattle.model.specs.Splitting.{subtable_limit}
use Rattle.model.specs.Rules.{nth}
use Rattle.model.specs.Loading.{slots_of, virtuals_of, bytes_of, TableAt, shared, Loosely, Never, LookupShape, Place, at_lookup, at_extension, at_subtable, at_coverage, at_set, at_ligature, Kind, is_lookup, is_extension, is_subtable, is_coverage, is_set, is_ligature, Stands, root, extension, plain, wrapped, coverage, set, ligature, Shaped, value_at, Few, Filled, Covered, virtuals_at, Fault, misshapen, crowded, bare, uncovered, untied, Faulty}
use Rattle.model.proofs.LoadLists.{nth-map, nth_mapped}
use Rattle.model.proofs.LoadSame.{SameLookup, lookup_same, subtable_same, set_same}
use Rattle.model.proofs.LoadBack.{at_position}
use Rattle.model.proofs.LoadFull.{table_same}
use Rattle.model.proofs.LoadWalk.{shared_table, rooted, roots_same, extended, stands_same, set_under}
use Rattle.model.proofs.LoadOwned.{Passes, passed}
use Rattle.model.proofs.LoadSought.{Settled, settled_both, settled_as, settled_le, settled_lt, nth_settled}
use Rattle.model.proofs.LoadShapes.{settled_list, shaped_settled}

-- a table of a kind at a place that has its shape
pub record Open (s : Stream) (p : Place) (k : Kind) : Type 0 where
  pub vertex : ℕ
  pub table : StreamTable
  pub stands : Stands s p k vertex
  pub is : TableAt s vertex table
  pub shaped : Shaped k table

abbrev There : Stream → Place → Kind → Type 0
There s p k = (v : ℕ) × Stands s p k v

module _ (s : Stream) (tight : Never (Loosely s)) where
  apart : (v : ℕ) (t : StreamTable) → TableAt s v t → (p : ℕ) → count_by (at_position p) (slots_of t.links) ≤ 1
  apart v t e p = ⊎_elim (λ l. absurd (tight v (t, e, shared p l))) (λ l. l) (cases_lt 1 (count_by (at_position p) (slots_of t.links)))

  opened : (p : Place) (k : Kind) → Settled (There s p k) → Settled (Open s p k)
  opened p k h =
      ⊎_elim
      (λ x. ⊎_elim
      (λ t. ⊎_elim
      (λ c. inl (record { vertex = x.0; table = t.0; stands = x.1; is = t.1; shaped = c }))
      (λ o. inr (λ (y : Open s p k). o (subst (Shaped k) (table_same s x.0 y.table t.0 (subst (λ v. TableAt s v y.table) (stands_same s y.stands x.1).1 y.is) t.1) y.shaped)))
      (shaped_settled t.0 (apart x.0 t.0 t.1) k))
      (λ e. inr (λ (y : Open s p k). none_some (sym e ∙ subst (λ v. TableAt s v y.table) (stands_same s y.stands x.1).1 y.is)))
      (nth_settled s.tables x.0))
      (λ o. inr (λ (y : Open s p k). o (y.vertex, y.stands)))
      h

  -- LOOKUPS
  lookup_there : (i : ℕ) → Settled (There s (at_lookup i) is_lookup)
  lookup_there i = ⊎_elim (λ x. inl (x.0, root i x.0 x.1)) (λ e. inr (λ x. none_some (sym e ∙ rooted s x.1))) (nth_settled s.roots i)

  lookup_open : (i : ℕ) → Settled (Open s (at_lookup i) is_lookup)
  lookup_open i = opened (at_lookup i) is_lookup (lookup_there i)

  -- one lookup is read there
  one_lookup : {i v : ℕ} {t : StreamTable} (o : Open s (at_lookup i) is_lookup) (k : Lookup) → Stands s (at_lookup i) is_lookup v → TableAt s v t → LookupShape t k → SameLookup o.shaped.0 k
  one_lookup o k a b c = lookup_same o.table o.shaped.0 k o.shaped.1.table (shared_table s (lookup_table k).table (roots_same s o.stands a) o.is b c.table)

  slot_there : (l k : Lookup) (j : ℕ) (x : Subtable) → SameLookup l k → nth k.subtables j ≡ Some x → nth l.subtables j ≡ None → ⊥
  slot_there l k j x same e f =
      let r = nth_mapped (λ (y : Subtable). head y) l.subtables j (head x) (ap (λ zs. nth zs j) same.heads ∙ nth-map (λ (y : Subtable). head y) k.subtables j x e) in
      none_some (sym f ∙ r.1)

  -- EXTENSION TABLES
  extension_under : (i j : ℕ) (o : Open s (at_lookup i) is_lookup) → Settled (There s (at_extension i j) is_extension)
  extension_under i j o =
      ⊎_elim
      (λ (four : l.kind ≡ 4). inr (λ x. let r = extended s x.1 in let z = (one_lookup o r.lookup r.above r.is r.shape).kind in let w = r.kind in omega arith))
      (λ (seven : l.kind ≡ 7). ⊎_elim
      (λ x. inl (head x.0, extension i j o.vertex o.table l x.0 o.stands o.is o.shaped.1 seven x.1))
      (λ e. inr (λ x. let r = extended s x.1 in slot_there l r.lookup j r.subtable (one_lookup o r.lookup r.above r.is r.shape) r.slot e))
      (nth_settled l.subtables j))
      o.shaped.1.kind
    where
      l : Lookup
      l = o.shaped.0

  extension_there : (i j : ℕ) → Settled (There s (at_extension i j) is_extension)
  extension_there i j =
      ⊎_elim
      (λ o. extension_under i j o)
      (λ n. inr (λ x. let r = extended s x.1 in n (record { vertex = r.vertex; table = r.table; stands = r.above; is = r.is; shaped = (r.lookup, r.shape) })))
      (lookup_open i)

  extension_open : (i j : ℕ) → Settled (Open s (at_extension i j) is_extension)
  extension_open i j = opened (at_extension i j) is_extension (extension_there i j)

  -- SUBTABLES
  -- what stands above a subtable: a lookup of type 4 with that slot, or an extension table
  record Plain (i j : ℕ) : Type 0 where
    vertex : ℕ
    table : StreamTable
    lookup : Lookup
    subtable : Subtable
    above : Stands s (at_lookup i) is_lookup vertex
    is : TableAt s vertex table
    shape : LookupShape table lookup
    kind : lookup.kind ≡ 4
    slot : nth lookup.subtables j ≡ Some subtable

  above_subtable : {i j v : ℕ} {k : Kind} → Stands s (at_subtable i j) k v → Plain i j ⊎ Open s (at_extension i j) is_extension
  above_subtable (plain i j v t l x a b c d e) = inl (record { vertex = v; table = t; lookup = l; subtable = x; above = a; is = b; shape = c; kind = d; slot = e })
  above_subtable (wrapped i j e t v a b c) = inr (record { vertex = e; table = t; stands = a; is = b; shaped = (v, c) })

  subtable_under : (i j : ℕ) (o : Open s (at_lookup i) is_lookup) → Settled (There s (at_subtable i j) is_subtable)
  subtable_under i j o =
      ⊎_elim
      (λ (four : l.kind ≡ 4). ⊎_elim
      (λ x. inl (head x.0, plain i j o.vertex o.table l x.0 o.stands o.is o.shaped.1 four x.1))
      (λ e. inr (λ x. ⊎_elim
      (λ (r : Plain i j). slot_there l r.lookup j r.subtable (one_lookup o r.lookup r.above r.is r.shape) r.slot e)
      (λ (q : Open s (at_extension i j) is_extension). let r = extended s q.stands in let z = (one_lookup o r.lookup r.above r.is r.shape).kind in let w = r.kind in omega arith)
      (above_subtable x.1)))
      (nth_settled l.subtables j))
      (λ (seven : l.kind ≡ 7). ⊎_elim
      (λ (q : Open s (at_extension i j) is_extension). inl (q.shaped.0, wrapped i j q.vertex q.table q.shaped.0 q.stands q.is q.shaped.1))
      (λ n. inr (λ x. ⊎_elim
      (λ (r : Plain i j). let z = (one_lookup o r.lookup r.above r.is r.shape).kind in let w = r.kind in omega arith)
      n
      (above_subtable x.1)))
      (extension_open i j))
      o.shaped.1.kind
    where
      l : Lookup
      l = o.shaped.0

  subtable_there : (i j : ℕ) → Settled (There s (at_subtable i j) is_subtable)
  subtable_there i j =
      ⊎_elim
      (λ o. subtable_under i j o)
      (λ n. inr (λ x. ⊎_elim
      (λ (r : Plain i j). n (record { vertex = r.vertex; table = r.table; stands = r.above; is = r.is; shaped = (r.lookup, r.shape) }))
      (λ (q : Open s (at_extension i j) is_extension). let r = extended s q.stands in n (record { vertex = r.vertex; table = r.table; stands = r.above; is = r.is; shaped = (r.lookup, r.shape) }))
      (above_subtable x.1)))
      (lookup_open i)

  subtable_open : (i j : ℕ) → Settled (Open s (at_subtable i j) is_subtable)
  subtable_open i j = opened (at_subtable i j) is_subtable (subtable_there i j)

  -- ANY PLACE
  abbrev SomeKind : Place → Type 0
  SomeKind p = (k : Kind) × (v : ℕ) × Stands s p k v

  as_lookup : {i v : ℕ} {k : Kind} → Stands s (at_lookup i) k v → Stands s (at_lookup i) is_lookup v
  as_lookup (root i v e) = root i v e

  as_extension : {i j v : ℕ} {k : Kind} → Stands s (at_extension i j) k v → Stands s (at_extension i j) is_extension v
  as_extension (extension i j v t l x a b c d e) = extension i j v t l x a b c d e

  as_subtable : {i j v : ℕ} {k : Kind} → Stands s (at_subtable i j) k v → Stands s (at_subtable i j) is_subtable v
  as_subtable (plain i j v t l x a b c d e) = plain i j v t l x a b c d e
  as_subtable (wrapped i j e t v a b c) = wrapped i j e t v a b c

  above_coverage : {i j v : ℕ} {k : Kind} → Stands s (at_coverage i j) k v → Open s (at_subtable i j) is_subtable
  above_coverage (coverage i j v t x a b c) = record { vertex = v; table = t; stands = a; is = b; shaped = (x, c) }

  -- what a set's slot wants
  record Slotted (i j k : ℕ) : Type 0 where
    above : Open s (at_subtable i j) is_subtable
    entry : LigatureSet
    slot : nth above.shaped.0.sets k ≡ Some entry

  above_set : {i j k v : ℕ} {d : Kind} → Stands s (at_set i j k) d v → Slotted i j k
  above_set (set i j k v t x y a b c d) = record { above = record { vertex = v; table = t; stands = a; is = b; shaped = (x, c) }; entry = y; slot = d }

  set_there : (i j k : ℕ) → Settled ((c : ℕ) × There s (at_set i j k) (is_set c))
  set_there i j k =
      ⊎_elim
      (λ (o : Open s (at_subtable i j) is_subtable). ⊎_elim
      (λ y. inl (o.shaped.0.coverage, (y.0.vertex, set i j k o.vertex o.table o.shaped.0 y.0 o.stands o.is o.shaped.1 y.1)))
      (λ e. inr (λ z. let r = above_set z.1.1 in
      let q = r.above in
      let same = subtable_same o.table o.shaped.0 q.shaped.0 o.shaped.1 (shared_table s (subtable_table q.shaped.0).table (stands_same s o.stands q.stands).1 o.is q.is q.shaped.1) in
      let f = nth_mapped (λ (y : LigatureSet). y.vertex) o.shaped.0.sets k r.entry.vertex (ap (λ zs. nth zs k) same.1 ∙ nth-map (λ (y : LigatureSet). y.vertex) q.shaped.0.sets k r.entry r.slot) in
      none_some (sym e ∙ f.1)))
      (nth_settled o.shaped.0.sets k))
      (λ n. inr (λ z. n (above_set z.1.1).above))
      (subtable_open i j)

  set_open : (i j k : ℕ) → Settled ((c : ℕ) × Open s (at_set i j k) (is_set c))
  set_open i j k =
      ⊎_elim
      (λ x. ⊎_elim
      (λ o. inl (x.0, o))
      (λ n. inr (λ y. n (subst (λ c. Open s (at_set i j k) (is_set c)) (set_under (stands_same s y.1.stands x.1.1).0) y.1)))
      (opened (at_set i j k) (is_set x.0) (inl x.1)))
      (λ n. inr (λ y. n (y.0, (y.1.vertex, y.1.stands))))
      (set_there i j k)

  -- what a ligature's slot wants
  record Listed (i j k n : ℕ) : Type 0 where
    under : ℕ
    above : Open s (at_set i j k) (is_set under)
    entry : Ligature
    slot : nth above.shaped.0.ligatures n ≡ Some entry

  above_ligature : {i j k n v : ℕ} {d : Kind} → Stands s (at_ligature i j k n) d v → Listed i j k n
  above_ligature (ligature i j k n c v t y g a b d e) = record { under = c; above = record { vertex = v; table = t; stands = a; is = b; shaped = (y, d) }; entry = g; slot = e }

  ligature_there : (i j k n : ℕ) → Settled (SomeKind (at_ligature i j k n))
  ligature_there i j k n =
      ⊎_elim
      (λ x. under x.0 x.1)
      (λ m. inr (λ z. let r = above_ligature z.2 in m (r.under, r.above)))
      (set_open i j k)
    where
      under : (c : ℕ) → Open s (at_set i j k) (is_set c) → Settled (SomeKind (at_ligature i j k n))
      under c o =
          ⊎_elim
          (λ g. inl (is_ligature c, g.0.vertex, ligature i j k n c o.vertex o.table o.shaped.0 g.0 o.stands o.is o.shaped.1 g.1))
          (λ e. inr (λ z. let r = above_ligature z.2 in
          let q = r.above in
          let same = set_same o.table 0 0 o.shaped.0 q.shaped.0 o.shaped.1 (shared_table s (set_table 0 q.shaped.0).table (stands_same s o.stands q.stands).1 o.is q.is q.shaped.1) in
          let f = nth_mapped (λ (g : Ligature). g.vertex) o.shaped.0.ligatures n r.entry.vertex (ap (λ zs. nth zs n) same ∙ nth-map (λ (g : Ligature). g.vertex) q.shaped.0.ligatures n r.entry r.slot) in
          none_some (sym e ∙ f.1)))
          (nth_settled o.shaped.0.ligatures n)

  pub standing : (p : Place) → Settled (SomeKind p)
  standing (at_lookup i) = settled_as (There s (at_lookup i) is_lookup) (SomeKind (at_lookup i)) (λ x. (is_lookup, x.0, x.1)) (λ x. (x.1, as_lookup x.2)) (lookup_there i)
  standing (at_extension i j) = settled_as (There s (at_extension i j) is_extension) (SomeKind (at_extension i j)) (λ x. (is_extension, x.0, x.1)) (λ x. (x.1, as_extension x.2)) (extension_there i j)
  standing (at_subtable i j) = settled_as (There s (at_subtable i j) is_subtable) (SomeKind (at_subtable i j)) (λ x. (is_subtable, x.0, x.1)) (λ x. (x.1, as_subtable x.2)) (subtable_there i j)
  standing (at_coverage i j) =
      settled_as (Open s (at_subtable i j) is_subtable) (SomeKind (at_coverage i j))
      (λ o. (is_coverage (length o.shaped.0.sets), o.shaped.0.coverage, coverage i j o.vertex o.table o.shaped.0 o.stands o.is o.shaped.1))
      (λ x. above_coverage x.2) (subtable_open i j)
  standing (at_set i j k) =
      ⊎_elim
      (λ x. inl (is_set x.0, x.1.0, x.1.1))
      (λ n. inr (λ x. n (as-set x.2)))
      (set_there i j k)
    where
      as-set : {a b c v : ℕ} {d : Kind} → Stands s (at_set a b c) d v → (e : ℕ) × There s (at_set a b c) (is_set e)
      as-set (set a b c v t x y f g h l) = (x.coverage, (y.vertex, set a b c v t x y f g h l))
  standing (at_ligature i j k n) = ligature_there i j k n

-- FAULTS
module _ (meaning : List ℕ → Option Meant) where
  few_settled : (k : Kind) (t : StreamTable) → Settled (Few k t)
  few_settled is_lookup t = settled_le (value_at t 2) subtable_limit
  few_settled is_extension t = inl tt
  few_settled is_subtable t = inl tt
  few_settled (is_coverage n) t = inl tt
  few_settled (is_set c) t = inl tt
  few_settled (is_ligature c) t = inl tt

  filled_settled : (k : Kind) (t : StreamTable) → Settled (Filled k t)
  filled_settled is_lookup t = inl tt
  filled_settled is_extension t = inl tt
  filled_settled is_subtable t = settled_lt 0 (value_at t 2)
  filled_settled (is_coverage n) t = inl tt
  filled_settled (is_set c) t = settled_lt 0 (value_at t 0)
  filled_settled (is_ligature c) t = inl tt

  meant_settled : (n : ℕ) (bs : List ℕ) → Settled ((gs : List ℕ) × (meaning bs ≡ Some (gs, length bs)) × (length gs ≡ n))
  meant_settled n bs = by (meaning bs) refl
    where
      by : (o : Option Meant) → meaning bs ≡ o → Settled ((gs : List ℕ) × (meaning bs ≡ Some (gs, length bs)) × (length gs ≡ n))
      by None e = inr (λ x. none_some (sym e ∙ x.1))
      by (Some m) e =
          settled_as ((m.1 ≡ length bs) × (length m.0 ≡ n)) ((gs : List ℕ) × (meaning bs ≡ Some (gs, length bs)) × (length gs ≡ n))
          (λ x. (m.0, e ∙ ap (λ z. Some (m.0, z)) x.0, x.1))
          (λ x. let same : m ≡ (x.0, length bs) = same_Some _ _ (sym e ∙ x.1) in (ap (λ (z : Meant). z.1) same, ap (λ (z : Meant). length z.0) same ∙ x.2))
          (settled_both (m.1 ≡ length bs) (length m.0 ≡ n) (cases_eq m.1 (length bs)) (cases_eq (length m.0) n))

  covered_settled : (k : Kind) (t : StreamTable) → Settled (Covered meaning k t)
  covered_settled is_lookup t = inl tt
  covered_settled is_extension t = inl tt
  covered_settled is_subtable t = inl tt
  covered_settled (is_coverage n) t = meant_settled n (bytes_of t)
  covered_settled (is_set c) t = inl tt
  covered_settled (is_ligature c) t = inl tt

  -- a table of a kind passes all tests or has a first fault
  pub judged : (k : Kind) (v : ℕ) (t : StreamTable) → Settled (Shaped k t) → Passes meaning k t ⊎ ((r : Refusal) × Fault meaning k v t r)
  judged k v t shape =
      ⊎_elim
      (λ a. ⊎_elim
      (λ b. ⊎_elim
      (λ c. ⊎_elim
      (λ d. ⊎_elim
      (λ e. inl (record { shaped = a; few = b; filled = c; covered = d; virtuals = e }))
      (λ o. inr (BadVirtual v, untied a b c d o))
      (settled_list cases_eq (virtuals_of t.links) (virtuals_at k)))
      (λ o. inr (BadCoverage v, uncovered a b c o))
      (covered_settled k t))
      (λ o. inr (Empty v, bare a b o))
      (filled_settled k t))
      (λ o. inr (TooManySubtables v, crowded a o))
      (few_settled k t))
      (λ o. inr (BadShape v, misshapen o))
      shape

  module _ (s : Stream) (tight : Never (Loosely s)) where
    pub judged_at : (k : Kind) (v : ℕ) (t : StreamTable) → TableAt s v t → Passes meaning k t ⊎ ((r : Refusal) × Fault meaning k v t r)
    judged_at k v t e = judged k v t (shaped_settled t (apart s tight v t e) k)

    pub faulty_settled : (p : Place) → ((r : Refusal) × Faulty meaning s p r) ⊎ ((r : Refusal) → Faulty meaning s p r → ⊥)
    faulty_settled p =
        ⊎_elim
        (λ x. at x.0 x.1 x.2)
        (λ n. inr (λ r (f : Faulty meaning s p r). n (f.kind, f.vertex, f.stands)))
        (standing s tight p)
      where
        at : (k : Kind) (v : ℕ) → Stands s p k v → ((r : Refusal) × Faulty meaning s p r) ⊎ ((r : Refusal) → Faulty meaning s p r → ⊥)
        at k v st =
            ⊎_elim
            (λ t. ⊎_elim
            (λ ok. inr (λ r (f : Faulty meaning s p r).
            let e = stands_same s f.stands st in
            let same = table_same s v f.table t.0 (subst (λ w. TableAt s w f.table) e.1 f.is) t.1 in
            passed meaning k v t.0 r ok (subst (λ u. Fault meaning k v u r) same (subst (λ w. Fault meaning k w f.table r) e.1 (subst (λ j. Fault meaning j f.vertex f.table r) e.0 f.fault)))))
            (λ bad. inl (bad.0, record { kind = k; vertex = v; table = t.0; stands = st; is = t.1; fault = bad.1 }))
            (judged_at k v t.0 t.1))
            (λ e. inr (λ r (f : Faulty meaning s p r). none_some (sym e ∙ subst (λ w. TableAt s w f.table) (stands_same s f.stands st).1 f.is)))
            (nth_settled s.tables v)
