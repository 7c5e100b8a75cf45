-- In a stream that is a model's tables every place of the walk has the model's table there, and none of them is refused.
use Rattle.std.proofs.Common.{◌≡◌, ℕ, true, false, List, [], ◌∷◌, ◌++◌, length, get_or, is_some, Some, None, Option, sym, refl, ap, ◌∙◌, subst, inl, inr, ⊎_elim, arith}
use Rattle.std.specs.List.{flat_map, AllByRecursion}
use Rattle.std.specs.Option.{option_to_list}
use Rattle.std.proofs.lemmas.List.{length-map, nil_from_length}
use Rattle.std.proofs.lemmas.List.Sorted.{length_permutation}
use Rattle.refusals.specs.declared.Refusal.{Refusal}
use Rattle.words.specs.Grammar.{StreamTable, Stream}
use Rattle.data_bytes.specs.Values.{value_bytes}
use Rattle.coverage.specs.Meaning.{Meant}
use Rattle.model.specs.Forest.{Ligature, LigatureSet, Subtable, Lookup, Model}
use Rattle.model.specs.Tables.{Placed, zeros, head, head_or, lookup_table, extension_table, subtable_table, coverage_table, set_table, ligature_table, set_walk, extension_walk, subtable_walk, lookup_walk}
use Rattle.model.specs.Rules.{nth}
use Rattle.model.specs.Sound.{GoodSet, GoodSubtable, GoodLookup, glyphs_of}
use Rattle.model.specs.Loading.{slots_of, virtuals_of, bytes_of, TableAt, Spelt, LookupShape, ExtensionShape, SubtableShape, SetShape, Place, at_lookup, Kind, is_lookup, is_extension, is_subtable, is_coverage, is_set, is_ligature, Stands, root, extension, plain, wrapped, coverage, set, ligature, Shaped, value_at, Few, Filled, Covered, virtuals_at, Fault, misshapen, crowded, bare, uncovered, untied, Faulty, Holds, Loaded}
use Rattle.model.proofs.Lists.{all_parts_lem, all_mapped, joined_all, all-nth}
use Rattle.model.proofs.LoadLists.{nth-map, nth_mapped}
use Rattle.model.proofs.LoadSame.{SameLookup, same_values, lookup_same, extension_same, subtable_same, set_same}
use Rattle.model.proofs.LoadFull.{table_same}
use Rattle.model.proofs.LoadWalk.{same_length}
use Rattle.model.proofs.LoadBack.{kinds, Wrapped}

-- the model has such a table
pub record HasLookup (m : Model) (l : Lookup) : Type 0 where
  pub index : ℕ
  pub there : nth m.lookups index ≡ Some l

pub record HasSubtable (m : Model) (x : Subtable) : Type 0 where
  pub lookup : Lookup
  pub above : HasLookup m lookup
  pub index : ℕ
  pub there : nth lookup.subtables index ≡ Some x

pub record HasSet (m : Model) (x : Subtable) (y : LigatureSet) : Type 0 where
  pub above : HasSubtable m x
  pub index : ℕ
  pub there : nth x.sets index ≡ Some y

pub data Owned (m : Model) : Kind → ℕ → Type 0 where
  the_lookup : (l : Lookup) → HasLookup m l → Owned m is_lookup l.vertex
  the_extension : (x : Subtable) (e : ℕ) → HasSubtable m x → x.extension ≡ Some e → Owned m is_extension e
  the_subtable : (x : Subtable) → HasSubtable m x → Owned m is_subtable x.vertex
  the_coverage : (x : Subtable) → HasSubtable m x → Owned m (is_coverage (length x.sets)) x.coverage
  the_set : (x : Subtable) (y : LigatureSet) → HasSet m x y → Owned m (is_set x.coverage) y.vertex
  the_ligature : (x : Subtable) (y : LigatureSet) (g : Ligature) (n : ℕ) → HasSet m x y → nth y.ligatures n ≡ Some g → Owned m (is_ligature x.coverage) g.vertex

-- what a table of a kind has that is not refused
pub record Passes (meaning : List ℕ → Option Meant) (k : Kind) (t : StreamTable) : Type 0 where
  pub shaped : Shaped k t
  pub few : Few k t
  pub filled : Filled k t
  pub covered : Covered meaning k t
  pub virtuals : virtuals_of t.links ≡ virtuals_at k

pub passed : (meaning : List ℕ → Option Meant) (k : Kind) (v : ℕ) (t : StreamTable) (r : Refusal) → Passes meaning k t → Fault meaning k v t r → ⊥
passed meaning k v t r p (misshapen a) = a p.shaped
passed meaning k v t r p (crowded a b) = b p.few
passed meaning k v t r p (bare a b c) = c p.filled
passed meaning k v t r p (uncovered a b c d) = d p.covered
passed meaning k v t r p (untied a b c d e) = e p.virtuals

module _ (meaning : List ℕ → Option Meant) (s : Stream) (m : Model) (h : Loaded meaning s m) where
  good_lookup : (l : Lookup) → HasLookup m l → GoodLookup meaning l
  good_lookup l a = all-nth (GoodLookup meaning) m.lookups a.index l a.there h.good.lookups

  good_subtable : (x : Subtable) → HasSubtable m x → GoodSubtable meaning x
  good_subtable x a = all-nth (GoodSubtable meaning) a.lookup.subtables a.index x a.there (good_lookup a.lookup a.above).subtables

  good_set : (x : Subtable) (y : LigatureSet) → HasSet m x y → GoodSet y
  good_set x y a = all-nth GoodSet x.sets a.index y a.there (good_subtable x a.above).sets

  held_lookup : (l : Lookup) → HasLookup m l → AllByRecursion (Holds s) (lookup_walk l)
  held_lookup l a = all-nth (λ k. AllByRecursion (Holds s) (lookup_walk k)) m.lookups a.index l a.there (joined_all (Holds s) lookup_walk m.lookups h.tables)

  held_subtable : (x : Subtable) → HasSubtable m x → AllByRecursion (Holds s) (extension_walk x.extension x.vertex) × AllByRecursion (Holds s) (subtable_table x ∷ coverage_table x ∷ flat_map (set_walk x.coverage) x.sets)
  held_subtable x a =
      all_parts_lem (Holds s) (extension_walk x.extension x.vertex) (subtable_table x ∷ coverage_table x ∷ flat_map (set_walk x.coverage) x.sets)
      (all-nth (λ y. AllByRecursion (Holds s) (subtable_walk y)) a.lookup.subtables a.index x a.there (joined_all (Holds s) subtable_walk a.lookup.subtables (held_lookup a.lookup a.above).1))

  held_extension : (x : Subtable) (e : ℕ) → HasSubtable m x → x.extension ≡ Some e → Holds s (extension_table e x.vertex)
  held_extension x e a i = (subst (λ o. AllByRecursion (Holds s) (extension_walk o x.vertex)) i (held_subtable x a).0).0

  held_set : (x : Subtable) (y : LigatureSet) → HasSet m x y → AllByRecursion (Holds s) (set_walk x.coverage y)
  held_set x y a = all-nth (λ z. AllByRecursion (Holds s) (set_walk x.coverage z)) x.sets a.index y a.there (joined_all (Holds s) (set_walk x.coverage) x.sets (held_subtable x a.above).1.1.1)

  held_ligature : (x : Subtable) (y : LigatureSet) (g : Ligature) (n : ℕ) → HasSet m x y → nth y.ligatures n ≡ Some g → Holds s (ligature_table x.coverage g)
  held_ligature x y g n a i = all-nth (λ z. Holds s (ligature_table x.coverage z)) y.ligatures n g i (all_mapped (Holds s) (ligature_table x.coverage) y.ligatures (held_set x y a).1)

  -- the table of the stream is the model's
  spelt_at : (p : Placed) (t : StreamTable) → Holds s p → TableAt s p.vertex t → Spelt t p.table × (virtuals_of t.links ≡ p.table.virtuals)
  spelt_at p t a e =
      let same : a.0 ≡ t = table_same s p.vertex a.0 t a.1 e in
      (subst (λ u. Spelt u p.table) same a.2, subst (λ (u : StreamTable). virtuals_of u.links ≡ p.table.virtuals) same a.3)

  -- WHAT STANDS AT A PLACE IS THE MODEL'S
  the_root : (i v : ℕ) → nth s.roots i ≡ Some v → (l : Lookup) × HasLookup m l × (l.vertex ≡ v)
  the_root i v e =
      let r = nth_mapped (λ (l : Lookup). l.vertex) m.lookups i v (ap (λ zs. nth zs i) (sym h.roots) ∙ e) in
      (r.0, record { index = i; there = r.1 }, r.2)

  owned_lookup : {i v : ℕ} {k : Kind} → Stands s (at_lookup i) k v → (l : Lookup) × HasLookup m l × (l.vertex ≡ v)
  owned_lookup (root i v e) = the_root i v e

  same_lookup : (l k : Lookup) (v : ℕ) (t : StreamTable) → HasLookup m l → l.vertex ≡ v → TableAt s v t → LookupShape t k → SameLookup l k
  same_lookup l k v t a e f g = lookup_same t l k (spelt_at (lookup_table l) t (held_lookup l a).0 (subst (λ u. TableAt s u t) (sym e) f)).0 g.table

  -- the subtable that a lookup's slot leads to
  led : (l k : Lookup) (j : ℕ) (x : Subtable) → HasLookup m l → SameLookup l k → nth k.subtables j ≡ Some x → (y : Subtable) × HasSubtable m y × (nth l.subtables j ≡ Some y) × (head y ≡ head x)
  led l k j x a same e =
      let r = nth_mapped (λ (y : Subtable). head y) l.subtables j (head x) (ap (λ zs. nth zs j) same.heads ∙ nth-map (λ (y : Subtable). head y) k.subtables j x e) in
      (r.0, record { lookup = l; above = a; index = j; there = r.1 }, r.1, r.2)

  head_wrapped : (x : Subtable) (v : ℕ) → HasSubtable m x → is_some x.extension ≡ true → head x ≡ v → Owned m is_extension v
  head_wrapped x v a e f = by x.extension refl e f
    where
      by : (o : Option ℕ) → x.extension ≡ o → is_some o ≡ true → head_or o x.vertex ≡ v → Owned m is_extension v
      by None i t g = cc
      by (Some w) i t g = the_extension x v a (i ∙ ap Some g)

  head_plain : (x : Subtable) (v : ℕ) → HasSubtable m x → is_some x.extension ≡ false → head x ≡ v → Owned m is_subtable v
  head_plain x v a e f = by x.extension e f
    where
      by : (o : Option ℕ) → is_some o ≡ false → head_or o x.vertex ≡ v → Owned m is_subtable v
      by None t g = subst (Owned m is_subtable) g (the_subtable x a)
      by (Some w) t g = cc

  wrapped_in : (l : Lookup) → HasLookup m l → l.kind ≡ 7 → Wrapped true l.subtables
  wrapped_in l a e = ⊎_elim (λ k. k.1) (λ k. let z = k.0 in absurd (omega arith)) (kinds meaning l (good_lookup l a))

  plain_in : (l : Lookup) → HasLookup m l → l.kind ≡ 4 → Wrapped false l.subtables
  plain_in l a e = ⊎_elim (λ k. let z = k.0 in absurd (omega arith)) (λ k. k.1) (kinds meaning l (good_lookup l a))

  own_extension : {i v : ℕ} (t : StreamTable) (k : Lookup) (j : ℕ) (x : Subtable) → Stands s (at_lookup i) is_lookup v → TableAt s v t → LookupShape t k → k.kind ≡ 7 → nth k.subtables j ≡ Some x → Owned m is_extension (head x)
  own_extension {v = v} t k j x a b c d e =
      let l = owned_lookup a in
      let same = same_lookup l.0 k v t l.1 l.2 b c in
      let y = led l.0 k j x l.1 same e in
      head_wrapped y.0 (head x) y.1 (all-nth (λ (z : Subtable). is_some z.extension ≡ true) l.0.subtables j y.0 y.2 (wrapped_in l.0 l.1 (same.kind ∙ d))) y.3

  own_plain : {i v : ℕ} (t : StreamTable) (k : Lookup) (j : ℕ) (x : Subtable) → Stands s (at_lookup i) is_lookup v → TableAt s v t → LookupShape t k → k.kind ≡ 4 → nth k.subtables j ≡ Some x → Owned m is_subtable (head x)
  own_plain {v = v} t k j x a b c d e =
      let l = owned_lookup a in
      let same = same_lookup l.0 k v t l.1 l.2 b c in
      let y = led l.0 k j x l.1 same e in
      head_plain y.0 (head x) y.1 (all-nth (λ (z : Subtable). is_some z.extension ≡ false) l.0.subtables j y.0 y.2 (plain_in l.0 l.1 (same.kind ∙ d))) y.3

  own_wrapped : {e : ℕ} (t : StreamTable) (v : ℕ) → Owned m is_extension e → TableAt s e t → ExtensionShape t v → Owned m is_subtable v
  own_wrapped t v (the_extension x e a i) b c =
      subst (Owned m is_subtable) (extension_same t e 0 x.vertex v (spelt_at (extension_table e x.vertex) t (held_extension x e a i) b).0 c) (the_subtable x a)

  own_coverage : {v : ℕ} (t : StreamTable) (y : Subtable) → Owned m is_subtable v → TableAt s v t → SubtableShape t y → Owned m (is_coverage (length y.sets)) y.coverage
  own_coverage t y (the_subtable x a) b c =
      let e = subtable_same t x y (spelt_at (subtable_table x) t (held_subtable x a).1.0 b).0 c in
      subst (λ n. Owned m (is_coverage n) y.coverage) (same_length (λ (z : LigatureSet). z.vertex) x.sets y.sets e.1) (subst (Owned m (is_coverage (length x.sets))) e.0 (the_coverage x a))

  own_set_lem : {v : ℕ} (t : StreamTable) (y : Subtable) (k : ℕ) (z : LigatureSet) → Owned m is_subtable v → TableAt s v t → SubtableShape t y → nth y.sets k ≡ Some z → Owned m (is_set y.coverage) z.vertex
  own_set_lem t y k z (the_subtable x a) b c d =
      let e = subtable_same t x y (spelt_at (subtable_table x) t (held_subtable x a).1.0 b).0 c in
      let r = nth_mapped (λ (w : LigatureSet). w.vertex) x.sets k z.vertex (ap (λ zs. nth zs k) e.1 ∙ nth-map (λ (w : LigatureSet). w.vertex) y.sets k z d) in
      subst (λ w. Owned m (is_set w) z.vertex) e.0 (subst (Owned m (is_set x.coverage)) r.2 (the_set x r.0 (record { above = a; index = k; there = r.1 })))

  own_ligature : {c v : ℕ} (t : StreamTable) (z : LigatureSet) (n : ℕ) (g : Ligature) → Owned m (is_set c) v → TableAt s v t → SetShape t z → nth z.ligatures n ≡ Some g → Owned m (is_ligature c) g.vertex
  own_ligature t z n g (the_set x y a) b d e =
      let i = set_same t x.coverage 0 y z (spelt_at (set_table x.coverage y) t (held_set x y a).0 b).0 d in
      let r = nth_mapped (λ (w : Ligature). w.vertex) y.ligatures n g.vertex (ap (λ zs. nth zs n) i ∙ nth-map (λ (w : Ligature). w.vertex) z.ligatures n g e) in
      subst (Owned m (is_ligature x.coverage)) r.2 (the_ligature x y r.0 n a r.1)

  pub stands_owned : {p : Place} {k : Kind} {v : ℕ} → Stands s p k v → Owned m k v
  stands_owned (root i v e) = let r = the_root i v e in subst (Owned m is_lookup) r.2 (the_lookup r.0 r.1)
  stands_owned (extension i j v t l x a b c d e) = own_extension t l j x a b c d e
  stands_owned (plain i j v t l x a b c d e) = own_plain t l j x a b c d e
  stands_owned (wrapped i j e t v a b c) = own_wrapped t v (stands_owned a) b c
  stands_owned (coverage i j v t x a b c) = own_coverage t x (stands_owned a) b c
  stands_owned (set i j k v t x y a b c d) = own_set_lem t x k y (stands_owned a) b c d
  stands_owned (ligature i j k n c v t y g a b d e) = own_ligature t y n g (stands_owned a) b d e

  -- AND PASSES
  value_of : (t : StreamTable) (vs : List ℕ) (i : ℕ) → bytes_of t ≡ value_bytes vs → value_at t i ≡ get_or vs i 0
  value_of t vs i e = ap (λ zs. get_or zs i 0) (same_values t.values vs e)

  owned_passes : {k : Kind} {v : ℕ} (t : StreamTable) → Owned m k v → TableAt s v t → Passes meaning k t
  owned_passes t (the_lookup l a) e =
      let b = spelt_at (lookup_table l) t (held_lookup l a).0 e in
      let g = good_lookup l a in
      let n = value_of t (l.kind ∷ l.flag ∷ length l.subtables ∷ (zeros (length l.subtables) ++ option_to_list l.mark)) 2 b.0.bytes in
      let f = g.count in
      record {
        shaped = (l, record { kind = ⊎_elim (λ x. inr x.0) (λ x. inl x.0) (kinds meaning l g); asks = g.asks; table = b.0 });
        few = omega arith;
        filled = tt;
        covered = tt;
        virtuals = b.1;
      }
  owned_passes t (the_extension x w a i) e =
      let b = spelt_at (extension_table w x.vertex) t (held_extension x w a i) e in
      record { shaped = (x.vertex, b.0); few = tt; filled = tt; covered = tt; virtuals = b.1 }
  owned_passes t (the_subtable x a) e =
      let b = spelt_at (subtable_table x) t (held_subtable x a).1.0 e in
      let n = value_of t (1 ∷ 0 ∷ length x.sets ∷ zeros (length x.sets)) 2 b.0.bytes in
      let f = (good_subtable x a).some in
      record { shaped = (x, b.0); few = tt; filled = omega arith; covered = tt; virtuals = b.1 }
  owned_passes t (the_coverage x a) e =
      let b = spelt_at (coverage_table x) t (held_subtable x a).1.1.0 e in
      let g = good_subtable x a in
      record {
        shaped = nil_from_length (slots_of t.links) (length_permutation [] (slots_of t.links) b.0.slots);
        few = tt;
        filled = tt;
        covered = (glyphs_of x, subst (λ bs. meaning bs ≡ Some (glyphs_of x, length bs)) (sym b.0.bytes) g.means, length-map x.sets (λ (z : LigatureSet). z.first));
        virtuals = b.1;
      }
  owned_passes t (the_set x y a) e =
      let b = spelt_at (set_table x.coverage y) t (held_set x y a).0 e in
      let n = value_of t (length y.ligatures ∷ zeros (length y.ligatures)) 0 b.0.bytes in
      let f = (good_set x y a).some in
      record { shaped = (y, record { bytes = b.0.bytes; slots = b.0.slots }); few = tt; filled = omega arith; covered = tt; virtuals = b.1 }
  owned_passes t (the_ligature x y g n a i) e =
      let b = spelt_at (ligature_table x.coverage g) t (held_ligature x y g n a i) e in
      record { shaped = (g, record { bytes = b.0.bytes; slots = b.0.slots }); few = tt; filled = tt; covered = tt; virtuals = b.1 }

  pub none_faulty : (p : Place) (r : Refusal) → Faulty meaning s p r → ⊥
  none_faulty p r f = passed meaning f.kind f.vertex f.table r (owned_passes f.table (stands_owned f.stands) f.is) f.fault
