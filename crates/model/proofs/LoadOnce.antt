-- A list of words has one outcome: one refusal or one model.
use Rattle.std.proofs.Common.{◌≡◌, ℕ, Bool, true, false, ◌⊎◌, List, [], ◌∷◌, map, length, is_some, Some, None, Ok, Err, Option, Result, sym, refl, ap, ◌∙◌, subst, inl, inr, ⊎_elim, arith}
use Rattle.std.specs.List.{flat_map, AllByRecursion}
use Rattle.std.proofs.lemmas.Bool.{cases_order}
use Rattle.std.proofs.lemmas.Option.{same_Some}
use Rattle.refusals.specs.declared.Pool.{Pool}
use Rattle.refusals.specs.declared.Refusal.{Refusal}
use Rattle.refusals.specs.declared.Refusal.TheVariants.{BadWord, NoRoom, BadLink, BadEntry}
use Rattle.words.specs.Grammar.{StreamTable, Stream, Spells, Misfit}
use Rattle.words.proofs.Whole.{streams_spell_lem, misfits_tell_lem}
use Rattle.coverage.specs.Meaning.{Meant}
use Rattle.model.specs.Forest.{Ligature, LigatureSet, Subtable, Lookup, Model}
use Rattle.model.specs.Tables.{Placed, head, head_or, lookup_table, extension_table, subtable_table, coverage_table, set_table, ligature_table, set_walk, extension_walk, subtable_walk, lookup_walk}
use Rattle.model.specs.Splitting.{Capacities}
use Rattle.model.specs.Sound.{GoodSubtable, GoodLookup, Lawful, glyphs_of}
use Rattle.model.specs.Loading.{TableAt, Spelt, taken_by, short_of, Loosely, Strays, Lowest, Never, FirstFault, Holds, Loaded, Loads, misfit, short, loose, astray, faulty, accepted}
use Rattle.model.specs.LoadingLaws.{OutcomesUnique}
use Rattle.model.proofs.Lists.{all_parts_lem, joined_all}
use Rattle.model.proofs.LoadBack.{kinds, Wrapped, walk_sound}
use Rattle.model.proofs.LoadSame.{SameLookup, lookup_same, extension_same, subtable_same, set_same, ligature_same}
use Rattle.model.proofs.LoadFull.{table_same, none_loose, none_strays}
use Rattle.model.proofs.LoadWalk.{first_same}
use Rattle.model.proofs.LoadOwned.{none_faulty}

-- ONE MODEL
module _ (s : Stream) where
  -- two tables at one vertex are one
  both_spelt : (p q : Placed) → p.vertex ≡ q.vertex → Holds s p → Holds s q → (t : StreamTable) × Spelt t p.table × Spelt t q.table
  both_spelt p q e a b =
      let same : b.0 ≡ a.0 = sym (table_same s q.vertex a.0 b.0 (subst (λ v. TableAt s v a.0) e a.1) b.1) in
      (a.0, a.2, subst (λ u. Spelt u q.table) same b.2)

  same_ligatures : (c d : ℕ) (gs hs : List Ligature) → map (λ (g : Ligature). g.vertex) gs ≡ map (λ (g : Ligature). g.vertex) hs
      → AllByRecursion (Holds s) (map (ligature_table c) gs) → AllByRecursion (Holds s) (map (ligature_table d) hs) → gs ≡ hs
  same_ligatures c d [] [] e a b = refl
  same_ligatures c d [] (h ∷ hs) e a b = cc
  same_ligatures c d (g ∷ gs) [] e a b = cc
  same_ligatures c d (g ∷ gs) (h ∷ hs) e a b =
      let v : g.vertex ≡ h.vertex = cc in
      let t = both_spelt (ligature_table c g) (ligature_table d h) v a.0 b.0 in
      let r = ligature_same t.0 c d g h t.1 t.2 in
      let same : g ≡ h = λ i. record { vertex = v i; glyph = r.0 i; components = r.1 i } in
      let rest = same_ligatures c d gs hs (cc) a.1 b.1 in
      λ i. same i ∷ rest i

  same_sets : (c d : ℕ) (ys zs : List LigatureSet) → map (λ (y : LigatureSet). y.vertex) ys ≡ map (λ (y : LigatureSet). y.vertex) zs → map (λ (y : LigatureSet). y.first) ys ≡ map (λ (y : LigatureSet). y.first) zs
      → AllByRecursion (λ y. AllByRecursion (Holds s) (set_walk c y)) ys → AllByRecursion (λ y. AllByRecursion (Holds s) (set_walk d y)) zs → ys ≡ zs
  same_sets c d [] [] e f a b = refl
  same_sets c d [] (z ∷ zs) e f a b = cc
  same_sets c d (y ∷ ys) [] e f a b = cc
  same_sets c d (y ∷ ys) (z ∷ zs) e f a b =
      let v : y.vertex ≡ z.vertex = cc in
      let w : y.first ≡ z.first = cc in
      let t = both_spelt (set_table c y) (set_table d z) v a.0.0 b.0.0 in
      let r = same_ligatures c d y.ligatures z.ligatures (set_same t.0 c d y z t.1 t.2) a.0.1 b.0.1 in
      let same : y ≡ z = λ i. record { vertex = v i; first = w i; ligatures = r i } in
      let rest = same_sets c d ys zs (cc) (cc) a.1 b.1 in
      λ i. same i ∷ rest i

  same_heads : (w : Bool) (o p : Option ℕ) (u v : ℕ) → is_some o ≡ w → is_some p ≡ w → head_or o u ≡ head_or p v → AllByRecursion (Holds s) (extension_walk o u) → AllByRecursion (Holds s) (extension_walk p v) → (o ≡ p) × (u ≡ v)
  same_heads w None None u v a b e x y = (refl, e)
  same_heads w None (Some f) u v a b e x y = cc
  same_heads w (Some f) None u v a b e x y = cc
  same_heads w (Some f) (Some g) u v a b e x y =
      let t = both_spelt (extension_table f u) (extension_table g v) e x.0 y.0 in
      (ap Some e, extension_same t.0 f g u v t.1 t.2)

  module _ (meaning : List ℕ → Option Meant) where
    same_meant : (gs hs : List ℕ) (j k : ℕ) → ◌≡◌ {A = Option Meant} (Some (gs, j)) (Some (hs, k)) → gs ≡ hs
    same_meant gs hs j k e = ap (λ (m : Meant). m.0) (same_Some _ _ e)

    same_subtable : (w : Bool) (x y : Subtable) → is_some x.extension ≡ w → is_some y.extension ≡ w → head x ≡ head y
        → AllByRecursion (Holds s) (subtable_walk x) → AllByRecursion (Holds s) (subtable_walk y) → GoodSubtable meaning x → GoodSubtable meaning y → x ≡ y
    same_subtable w x y p q e a b g k =
        let a' = all_parts_lem (Holds s) (extension_walk x.extension x.vertex) (subtable_table x ∷ coverage_table x ∷ flat_map (set_walk x.coverage) x.sets) a in
        let b' = all_parts_lem (Holds s) (extension_walk y.extension y.vertex) (subtable_table y ∷ coverage_table y ∷ flat_map (set_walk y.coverage) y.sets) b in
        let r = same_heads w x.extension y.extension x.vertex y.vertex p q e a'.0 b'.0 in
        let t = both_spelt (subtable_table x) (subtable_table y) r.1 a'.1.0 b'.1.0 in
        let c = subtable_same t.0 x y t.1 t.2 in
        let u = both_spelt (coverage_table x) (coverage_table y) c.0 a'.1.1.0 b'.1.1.0 in
        let bytes : x.covering ≡ y.covering = sym u.1.bytes ∙ u.2.bytes in
        let firsts = same_meant (glyphs_of x) (glyphs_of y) (length x.covering) (length y.covering) (sym g.means ∙ ap meaning bytes ∙ k.means) in
        let sets = same_sets x.coverage y.coverage x.sets y.sets c.1 firsts (joined_all (Holds s) (set_walk x.coverage) x.sets a'.1.1.1) (joined_all (Holds s) (set_walk y.coverage) y.sets b'.1.1.1) in
        λ i. record { extension = r.0 i; vertex = r.1 i; coverage = c.0 i; covering = bytes i; sets = sets i }

    same_subtables : (w : Bool) (xs ys : List Subtable) → Wrapped w xs → Wrapped w ys → map (λ (x : Subtable). head x) xs ≡ map (λ (x : Subtable). head x) ys
        → AllByRecursion (λ x. AllByRecursion (Holds s) (subtable_walk x)) xs → AllByRecursion (λ x. AllByRecursion (Holds s) (subtable_walk x)) ys → AllByRecursion (GoodSubtable meaning) xs → AllByRecursion (GoodSubtable meaning) ys → xs ≡ ys
    same_subtables w [] [] p q e a b g k = refl
    same_subtables w [] (y ∷ ys) p q e a b g k = cc
    same_subtables w (x ∷ xs) [] p q e a b g k = cc
    same_subtables w (x ∷ xs) (y ∷ ys) p q e a b g k =
        let v : head x ≡ head y = cc in
        let same = same_subtable w x y p.0 q.0 v a.0 b.0 g.0 k.0 in
        let rest = same_subtables w xs ys p.1 q.1 (cc) a.1 b.1 g.1 k.1 in
        λ i. same i ∷ rest i

    same_lookup : (l k : Lookup) → l.vertex ≡ k.vertex → AllByRecursion (Holds s) (lookup_walk l) → AllByRecursion (Holds s) (lookup_walk k) → GoodLookup meaning l → GoodLookup meaning k → l ≡ k
    same_lookup l k e a b g j =
        let t = both_spelt (lookup_table l) (lookup_table k) e a.0 b.0 in
        let r = lookup_same t.0 l k t.1 t.2 in
        let ss = by r in
        λ i. record { vertex = e i; kind = r.kind i; flag = r.flag i; mark = r.mark i; subtables = ss i }
      where
        alike : (w : Bool) → Wrapped w l.subtables → Wrapped w k.subtables → map (λ (x : Subtable). head x) l.subtables ≡ map (λ (x : Subtable). head x) k.subtables → l.subtables ≡ k.subtables
        alike w p q h =
            same_subtables w l.subtables k.subtables p q h (joined_all (Holds s) subtable_walk l.subtables a.1) (joined_all (Holds s) subtable_walk k.subtables b.1) g.subtables j.subtables

        by : SameLookup l k → l.subtables ≡ k.subtables
        by r =
            let d = r.kind in
            ⊎_elim
            (λ x. ⊎_elim (λ y. alike true x.1 y.1 r.heads) (λ y. let m = x.0 in let n = y.0 in absurd (omega arith)) (kinds meaning k j))
            (λ x. ⊎_elim (λ y. let m = x.0 in let n = y.0 in absurd (omega arith)) (λ y. alike false x.1 y.1 r.heads) (kinds meaning k j))
            (kinds meaning l g)

    same_lookups : (ls ks : List Lookup) → map (λ (l : Lookup). l.vertex) ls ≡ map (λ (l : Lookup). l.vertex) ks → AllByRecursion (λ l. AllByRecursion (Holds s) (lookup_walk l)) ls → AllByRecursion (λ l. AllByRecursion (Holds s) (lookup_walk l)) ks
        → AllByRecursion (GoodLookup meaning) ls → AllByRecursion (GoodLookup meaning) ks → ls ≡ ks
    same_lookups [] [] e a b g j = refl
    same_lookups [] (k ∷ ks) e a b g j = cc
    same_lookups (l ∷ ls) [] e a b g j = cc
    same_lookups (l ∷ ls) (k ∷ ks) e a b g j =
        let v : l.vertex ≡ k.vertex = cc in
        let same = same_lookup l k v a.0 b.0 g.0 j.0 in
        let rest = same_lookups ls ks (cc) a.1 b.1 g.1 j.1 in
        λ i. same i ∷ rest i

    pub same_model : (m n : Model) → Loaded meaning s m → Loaded meaning s n → m ≡ n
    same_model m n a b =
        let ls = same_lookups m.lookups n.lookups (sym a.roots ∙ b.roots) (joined_all (Holds s) lookup_walk m.lookups a.tables) (joined_all (Holds s) lookup_walk n.lookups b.tables) a.good.lookups b.good.lookups in
        let t = a.taken ∙ sym b.taken in
        λ i. record { lookups = ls i; taken = t i }

-- ONE OUTCOME
pub lowest_same : (P : ℕ → Type 0) (v w : ℕ) → Lowest P v → Lowest P w → v ≡ w
lowest_same P v w a b =
    ⊎_elim (λ e. e) (λ o. ⊎_elim (λ l. absurd (b.lower v l a.holds)) (λ l. absurd (a.lower w l b.holds)) o) (cases_order v w)

pub spells_same : (ws : List ℕ) (s t : Stream) → Spells ws s → Spells ws t → s ≡ t
spells_same ws s t a b = let e = sym ((streams_spell_lem ws s).1 a) ∙ (streams_spell_lem ws t).1 b in cc

misfits_same : (ws : List ℕ) (i j : ℕ) → Misfit ws i → Misfit ws j → i ≡ j
misfits_same ws i j a b = let e = sym ((misfits_tell_lem ws i).1 a) ∙ (misfits_tell_lem ws j).1 b in cc

misfit_spells : (ws : List ℕ) (i : ℕ) (s : Stream) → Misfit ws i → Spells ws s → ⊥
misfit_spells ws i s a b = a.wanting (s, b)

-- what becomes of words that spell a stream
data Read (meaning : List ℕ → Option Meant) (caps : Capacities) (s : Stream) : Result Model Refusal → Type 0 where
  r_short : (p : Pool) → short_of caps (taken_by s) ≡ Some p → Read meaning caps s (Err (NoRoom p))
  r_loose : (v : ℕ) → short_of caps (taken_by s) ≡ None → Lowest (Loosely s) v → Read meaning caps s (Err (BadLink v))
  r_astray : (v : ℕ) → short_of caps (taken_by s) ≡ None → Never (Loosely s) → Lowest (Strays s) v → Read meaning caps s (Err (BadEntry v))
  r_faulty : (r : Refusal) → short_of caps (taken_by s) ≡ None → Never (Loosely s) → Never (Strays s) → FirstFault meaning s r → Read meaning caps s (Err r)
  r_loaded : (m : Model) → short_of caps (taken_by s) ≡ None → Loaded meaning s m → Read meaning caps s (Ok m)

module _ {admits : List ℕ → Type 0} {meaning : List ℕ → Option Meant} {span : List ℕ → ℕ} (law : Lawful admits meaning span) (caps : Capacities) where
  tight : {s : Stream} (m : Model) → Loaded meaning s m → Never (Loosely s)
  tight {s} m h = none_loose meaning s m h (walk_sound law m h.good)

  read_same : {s : Stream} {q r : Result Model Refusal} → Read meaning caps s q → Read meaning caps s r → q ≡ r
  read_same (r_short p e) (r_short q f) = ap (λ x. Err (NoRoom x)) (same_Some _ _ (sym e ∙ f))
  read_same (r_short p e) (r_loose w f b) = cc
  read_same (r_short p e) (r_astray w f b c) = cc
  read_same (r_short p e) (r_faulty w f b c d) = cc
  read_same (r_short p e) (r_loaded n f b) = cc
  read_same (r_loose v e a) (r_short q f) = cc
  read_same {s} (r_loose v e a) (r_loose w f b) = ap (λ x. Err (BadLink x)) (lowest_same (Loosely s) v w a b)
  read_same (r_loose v e a) (r_astray w f b c) = absurd (b v a.holds)
  read_same (r_loose v e a) (r_faulty w f b c d) = absurd (b v a.holds)
  read_same (r_loose v e a) (r_loaded n f b) = absurd (tight n b v a.holds)
  read_same (r_astray v e a x) (r_short q f) = cc
  read_same (r_astray v e a x) (r_loose w f b) = absurd (a w b.holds)
  read_same {s} (r_astray v e a x) (r_astray w f b c) = ap (λ z. Err (BadEntry z)) (lowest_same (Strays s) v w x c)
  read_same (r_astray v e a x) (r_faulty w f b c d) = absurd (c v x.holds)
  read_same {s} (r_astray v e a x) (r_loaded n f b) = absurd (none_strays meaning s n b v x.holds)
  read_same (r_faulty v e a x y) (r_short q f) = cc
  read_same (r_faulty v e a x y) (r_loose w f b) = absurd (a w b.holds)
  read_same (r_faulty v e a x y) (r_astray w f b c) = absurd (x w c.holds)
  read_same {s} (r_faulty v e a x y) (r_faulty w f b c d) = ap Err (first_same meaning s v w y d)
  read_same {s} (r_faulty v e a x y) (r_loaded n f b) = absurd (none_faulty meaning s n b y.place v y.faulty)
  read_same (r_loaded m e a) (r_short q f) = cc
  read_same (r_loaded m e a) (r_loose w f b) = absurd (tight m a w b.holds)
  read_same {s} (r_loaded m e a) (r_astray w f b c) = absurd (none_strays meaning s m a w c.holds)
  read_same {s} (r_loaded m e a) (r_faulty w f b c d) = absurd (none_faulty meaning s m a d.place w d.faulty)
  read_same {s} (r_loaded m e a) (r_loaded n f b) = ap Ok (same_model s meaning m n a b)

  abbrev Seen : List ℕ → Result Model Refusal → Type 0
  Seen ws r = ((i : ℕ) × Misfit ws i × (r ≡ Err (BadWord i))) ⊎ ((s : Stream) × Spells ws s × Read meaning caps s r)

  seen : {ws : List ℕ} {r : Result Model Refusal} → Loads meaning caps ws r → Seen ws r
  seen (misfit i a) = inl (i, a, refl)
  seen (short s p a e) = inr (s, a, r_short p e)
  seen (loose s v a e b) = inr (s, a, r_loose v e b)
  seen (astray s v a e b c) = inr (s, a, r_astray v e b c)
  seen (faulty s r a e b c d) = inr (s, a, r_faulty r e b c d)
  seen (accepted s m a e b) = inr (s, a, r_loaded m e b)

  seen_same : (ws : List ℕ) (q r : Result Model Refusal) → Seen ws q → Seen ws r → q ≡ r
  seen_same ws q r a b =
      ⊎_elim
      (λ x. ⊎_elim
      (λ y. x.2 ∙ ap (λ i. Err (BadWord i)) (misfits_same ws x.0 y.0 x.1 y.1) ∙ sym y.2)
      (λ y. absurd (misfit_spells ws x.0 y.0 x.1 y.1))
      b)
      (λ x. ⊎_elim
      (λ y. absurd (misfit_spells ws y.0 x.0 y.1 x.1))
      (λ y. read_same (subst (λ s. Read meaning caps s q) (spells_same ws x.0 y.0 x.1 y.1) x.2) y.2)
      b)
      a

pub outcomes_unique : {admits : List ℕ → Type 0} {meaning : List ℕ → Option Meant} {span : List ℕ → ℕ} → Lawful admits meaning span → OutcomesUnique meaning
outcomes_unique law caps ws q r a b = seen_same law caps ws q r (seen law caps a) (seen law caps b)
