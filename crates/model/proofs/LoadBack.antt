-- A well-formed model is loaded from the words of its tables.
use Rattle.std.proofs.Common.{◌≡◌, ℕ, zero, suc, ◌+◌, ◌*◌, ◌^◌, ◌<◌, ◌≤◌, Bool, true, false, cond, ◌&&◌, eqb, ltb, leb, ◌⊎◌, List, [], ◌∷◌, ◌++◌, map, length, is_some, IfSome, Some, None, Ok, sum_by, count_by, Option, sym, refl, ap, ◌∙◌, subst, inl, inr, ⊎_elim, arith}
use Rattle.std.specs.List.{flat_map, AllByRecursion, range_with_len}
use Rattle.std.specs.Option.{option_to_list}
use Rattle.std.proofs.lemmas.List.{length-append, length-map, length-replicate}
use Rattle.std.proofs.lemmas.List.Sums.{sum_by-cons}
use Rattle.std.proofs.ByRecursion.{All-append, All-map, All-weaker}
use Rattle.std.proofs.lemmas.List.FromFn.{length-map-range_with_len}
use Rattle.std.proofs.lemmas.List.Sorted.{IsPermutation-refl}
use Rattle.std.proofs.lemmas.Bool.{cases_eq, eq-eqb, eqb-true, ne_eqb, cond-true, cond-false, cond_both, and_parts, leb-true}
use Rattle.std.specs.List.Sorted.{IsPermutation}
use Rattle.std.proofs.lemmas.Bool.Decides.{nat_tests}
use Rattle.words.specs.declared.Width.TheVariants.{Two, Four}
use Rattle.words.specs.Grammar.{virtual, FineLink, FineTable, Fine, spelled}
use Rattle.words.specs.Reading.{links_in, bytes_in}
use Rattle.data_bytes.specs.Values.{value_bytes, values}
use Rattle.data_bytes.proofs.ValueLists.{length-value_bytes, values_value_bytes}
use Rattle.coverage.specs.Glyphs.{GlyphList, is_glyph_list_of, rises, small}
use Rattle.coverage.specs.Meaning.{Meant}
use Rattle.model.specs.Forest.{Ligature, LigatureSet, Subtable, Lookup, Taken, Model}
use Rattle.model.specs.Tables.{Slot, slot, slots_from, Table, Placed, zeros, head, head_or, lookup_table, extension_table, subtable_table, coverage_table, set_table, ligature_table, set_walk, extension_walk, subtable_walk, lookup_walk, model_walk, vertex_of, count_of, targets}
use Rattle.model.specs.Splitting.{Capacities, subtable_limit}
use Rattle.model.specs.Sound.{Value, GoodLigature, GoodSet, GoodSubtable, GoodLookup, Good, Lawful, Distinct, glyphs_of}
use Rattle.model.specs.Loading.{width_of, slots_of, virtuals_of, TableAt, Spelt, taken_by, short_of, Holds, Loaded, Loads, accepted, no_table, table_in, link_of, spell_table, stream_of, tidy}
use Rattle.model.specs.LoadingLaws.{Enough, ModelsLoad}
use Rattle.model.proofs.Lists.{all_both, all_parts_lem, all_mapped, all_any, joined_all, one, one_same, one_other, option_few, option_all}
use Rattle.model.proofs.LoadLists.{count_cons, nth_counting, sum_one, sum_zero, value_bytes_values, values_small}

-- WHAT EACH TABLE OF A WELL-FORMED MODEL IS LIKE, of a model of n vertices
pub record SoundSlot (n size : ℕ) (l : Slot) : Type 0 where
  pub width : (l.width ≡ 2) ⊎ (l.width ≡ 4)
  pub within : l.position + l.width ≤ size
  pub target : l.target < n

abbrev pub at_position : ℕ → Slot → Bool
at_position p l = eqb l.position p

pub record Sound (n : ℕ) (t : Table) : Type 0 where
  pub spelt : value_bytes (values t.bytes) ≡ t.bytes
  pub small : AllByRecursion (λ v. v < 65536) (values t.bytes)
  pub size : length t.bytes < 2 ^ 24
  pub slots : AllByRecursion (SoundSlot n (length t.bytes)) t.slots
  pub apart : (p : ℕ) → count_by (at_position p) t.slots ≤ 1
  pub virtuals : AllByRecursion (λ v. v < n) t.virtuals

-- slots one behind the other
slots_sound : (n size p : ℕ) (ts : List ℕ) → AllByRecursion (λ t. t < n) ts → p + 2 * length ts ≤ size → AllByRecursion (SoundSlot n size) (slots_from p ts)
slots_sound n size p [] h l = tt
slots_sound n size p (t ∷ ts) h l = (record { width = inl refl; within = omega arith; target = h.0 }, slots_sound n size (p + 2) ts h.1 (omega arith))

slots_below : (p q : ℕ) (ts : List ℕ) → q < p → count_by (at_position q) (slots_from p ts) ≡ 0
slots_below p q [] l = refl
slots_below p q (t ∷ ts) l =
    let c = count_cons (at_position q) (slot p 2 t) (slots_from (p + 2) ts) in
    let e : one (eqb p q) ≡ 0 = one_other p q (λ x. omega arith) in
    let r = slots_below (p + 2) q ts (omega arith) in
    omega arith

slots_apart : (p q : ℕ) (ts : List ℕ) → count_by (at_position q) (slots_from p ts) ≤ 1
slots_apart p q [] = omega arith
slots_apart p q (t ∷ ts) =
    let c = count_cons (at_position q) (slot p 2 t) (slots_from (p + 2) ts) in
    ⊎_elim
    (λ (e : p ≡ q).
    let a : one (eqb p q) ≡ 1 = one_same p q e in
    let r = slots_below (p + 2) q ts (omega arith) in
    omega arith)
    (λ (o : p ≡ q → ⊥).
    let a : one (eqb p q) ≡ 0 = one_other p q o in
    let r = slots_apart (p + 2) q ts in
    omega arith)
    (cases_eq p q)

-- a table of values
by_values : (n : ℕ) (vs : List ℕ) (ls : List Slot) (us : List ℕ) → AllByRecursion Value vs → 2 * length vs < 2 ^ 24
    → AllByRecursion (SoundSlot n (2 * length vs)) ls → ((p : ℕ) → count_by (at_position p) ls ≤ 1) → AllByRecursion (λ v. v < n) us
    → Sound n (record { bytes = value_bytes vs; slots = ls; virtuals = us })
by_values n vs ls us small short slots apart virtuals =
    record {
      spelt = ap value_bytes (values_value_bytes vs);
      small = subst (AllByRecursion (λ v. v < 65536)) (sym (values_value_bytes vs)) small;
      size = let e = length-value_bytes vs in omega arith;
      slots = subst (λ k. AllByRecursion (SoundSlot n k) ls) (sym (length-value_bytes vs)) slots;
      apart = apart;
      virtuals = virtuals;
    }

zeros_small : (k : ℕ) → AllByRecursion Value (zeros k)
zeros_small zero = tt
zeros_small (suc k) = (omega arith, zeros_small k)

-- THE KINDS
ligature_sound : (n c : ℕ) (g : Ligature) → c < n → GoodLigature g → Sound n (ligature_table c g).table
ligature_sound n c g l h =
    let k = h.count in
    by_values n (g.glyph ∷ suc (length g.components) ∷ g.components) [] (c ∷ []) (h.glyph, (h.count, h.components)) (omega arith) tt (λ p. omega arith) (l, tt)

set_sound : (n c : ℕ) (t : LigatureSet) → c < n → AllByRecursion (λ (g : Ligature). g.vertex < n) t.ligatures → GoodSet t → Sound n (set_table c t).table
set_sound n c t l below h =
    let k = h.count in
    let z : length (zeros (length t.ligatures)) ≡ length t.ligatures = length-replicate (length t.ligatures) 0 in
    let m : length (map (λ (g : Ligature). g.vertex) t.ligatures) ≡ length t.ligatures = length-map t.ligatures (λ (g : Ligature). g.vertex) in
    by_values n (length t.ligatures ∷ zeros (length t.ligatures)) (slots_from 2 (map (λ (g : Ligature). g.vertex) t.ligatures)) (c ∷ [])
    (h.count, zeros_small (length t.ligatures)) (omega arith)
    (slots_sound n _ 2 (map (λ (g : Ligature). g.vertex) t.ligatures) (All-map (λ v. v < n) (λ (g : Ligature). g.vertex) t.ligatures below) (omega arith))
    (λ p. slots_apart 2 p (map (λ (g : Ligature). g.vertex) t.ligatures))
    (l, tt)

-- one slot more in front
apart_before : (w p a q : ℕ) (ts : List ℕ) (t : ℕ) → p < a → count_by (at_position q) (slot p w t ∷ slots_from a ts) ≤ 1
apart_before w p a q ts t l =
    let c = count_cons (at_position q) (slot p w t) (slots_from a ts) in
    ⊎_elim
    (λ (e : p ≡ q).
    let b : one (eqb p q) ≡ 1 = one_same p q e in
    let r = slots_below a q ts (omega arith) in
    omega arith)
    (λ (o : p ≡ q → ⊥).
    let b : one (eqb p q) ≡ 0 = one_other p q o in
    let r = slots_apart a q ts in
    omega arith)
    (cases_eq p q)

subtable_sound : (n : ℕ) (s : Subtable) → s.coverage < n → AllByRecursion (λ (t : LigatureSet). t.vertex < n) s.sets → length s.sets < 65536 → Sound n (subtable_table s).table
subtable_sound n s l below k =
    let z : length (zeros (length s.sets)) ≡ length s.sets = length-replicate (length s.sets) 0 in
    let m : length (map (λ (t : LigatureSet). t.vertex) s.sets) ≡ length s.sets = length-map s.sets (λ (t : LigatureSet). t.vertex) in
    by_values n (1 ∷ 0 ∷ length s.sets ∷ zeros (length s.sets)) (slot 2 2 s.coverage ∷ slots_from 6 (map (λ (t : LigatureSet). t.vertex) s.sets)) []
    (omega arith, (omega arith, (k, zeros_small (length s.sets)))) (omega arith) (
      record { width = inl refl; within = omega arith; target = l },
      slots_sound n _ 6 (map (λ (t : LigatureSet). t.vertex) s.sets) (All-map (λ v. v < n) (λ (t : LigatureSet). t.vertex) s.sets below) (omega arith),
    )
    (λ p. apart_before 2 2 6 p (map (λ (t : LigatureSet). t.vertex) s.sets) s.coverage (omega arith))
    tt

extension_sound : (n e v : ℕ) → v < n → Sound n (extension_table e v).table
extension_sound n e v l =
    record {
      spelt = refl;
      small = (omega arith, (omega arith, (omega arith, (omega arith, tt))));
      size = omega arith;
      slots = (record { width = inr refl; within = omega arith; target = l }, tt);
      apart = λ p. apart_before 4 4 6 p [] v (omega arith);
      virtuals = tt;
    }

lookup_sound : (n : ℕ) (l : Lookup) → AllByRecursion (λ (s : Subtable). head s < n) l.subtables → Value l.kind → Value l.flag → IfSome l.mark Value → length l.subtables ≤ subtable_limit
    → Sound n (lookup_table l).table
lookup_sound n l below kind flag mark k =
    let z : length (zeros (length l.subtables)) ≡ length l.subtables = length-replicate (length l.subtables) 0 in
    let a : length (zeros (length l.subtables) ++ option_to_list l.mark) ≡ length (zeros (length l.subtables)) + length (option_to_list l.mark) = length-append (zeros (length l.subtables)) (option_to_list l.mark) in
    let b : length (option_to_list l.mark) ≤ 1 = option_few l.mark in
    let m : length (map (λ (s : Subtable). head s) l.subtables) ≡ length l.subtables = length-map l.subtables (λ (s : Subtable). head s) in
    by_values n (l.kind ∷ l.flag ∷ length l.subtables ∷ (zeros (length l.subtables) ++ option_to_list l.mark)) (slots_from 6 (map (λ (s : Subtable). head s) l.subtables)) []
    (kind, (flag, (omega arith, All-append Value (zeros (length l.subtables)) (option_to_list l.mark) (zeros_small (length l.subtables)) (option_all Value l.mark mark)))) (omega arith)
    (slots_sound n _ 6 (map (λ (s : Subtable). head s) l.subtables) (All-map (λ v. v < n) (λ (s : Subtable). head s) l.subtables below) (omega arith))
    (λ p. slots_apart 6 p (map (λ (s : Subtable). head s) l.subtables))
    tt

-- THE WALK
-- a codec's meanings are lists of at most 65,535 glyphs
glyphs_few : (gs : List ℕ) → GlyphList gs → length gs < 65536
unfolding is_glyph_list_of
glyphs_few gs h =
    let a = and_parts (ltb 0 (length gs)) (leb (length gs) 65535 && (rises gs && small gs)) h in
    let b = and_parts (leb (length gs) 65535) (rises gs && small gs) a.1 in
    let c = leb-true (length gs) 65535 b.0 in
    omega arith

-- a lookup has type 7 and extension tables, or type 4 and none
abbrev pub Wrapped : Bool → List Subtable → Type 0
Wrapped b ss = AllByRecursion (λ (s : Subtable). is_some s.extension ≡ b) ss

pub kinds : (meaning : List ℕ → Option Meant) (l : Lookup) → GoodLookup meaning l → ((l.kind ≡ 7) × Wrapped true l.subtables) ⊎ ((l.kind ≡ 4) × Wrapped false l.subtables)
kinds meaning l h = by (eqb l.kind 7) refl h.kind
  where
    by : (b : Bool) → eqb l.kind 7 ≡ b → cond b (Wrapped true l.subtables) ((l.kind ≡ 4) × Wrapped false l.subtables)
        → ((l.kind ≡ 7) × Wrapped true l.subtables) ⊎ ((l.kind ≡ 4) × Wrapped false l.subtables)
    by true e k = inl (eqb-true l.kind 7 e, k)
    by false e k = inr k

abbrev pub Below : ℕ → Placed → Type 0
Below n p = p.vertex < n

abbrev pub SoundAt : ℕ → Placed → Type 0
SoundAt n p = Sound n p.table

module _ {admits : List ℕ → Type 0} {meaning : List ℕ → Option Meant} {span : List ℕ → ℕ} (law : Lawful admits meaning span) (n : ℕ) where
  ligatures_sound : (c : ℕ) (gs : List Ligature) → c < n → AllByRecursion GoodLigature gs → AllByRecursion (SoundAt n) (map (ligature_table c) gs)
  ligatures_sound c [] l h = tt
  ligatures_sound c (g ∷ gs) l h = (ligature_sound n c g l h.0, ligatures_sound c gs l h.1)

  set_walk_sound : (c : ℕ) (t : LigatureSet) → c < n → AllByRecursion (Below n) (set_walk c t) → GoodSet t → AllByRecursion (SoundAt n) (set_walk c t)
  set_walk_sound c t l b h = (set_sound n c t l (all_mapped (Below n) (ligature_table c) t.ligatures b.1) h, ligatures_sound c t.ligatures l h.ligatures)

  sets_sound : (c : ℕ) (ts : List LigatureSet) → c < n → AllByRecursion (λ t. AllByRecursion (Below n) (set_walk c t)) ts → AllByRecursion GoodSet ts → AllByRecursion (SoundAt n) (flat_map (set_walk c) ts)
  sets_sound c [] l b h = tt
  sets_sound c (t ∷ ts) l b h = All-append (SoundAt n) (set_walk c t) (flat_map (set_walk c) ts) (set_walk_sound c t l b.0 h.0) (sets_sound c ts l b.1 h.1)

  coverage_sound : (s : Subtable) → GoodSubtable meaning s → Sound n (coverage_table s).table
  coverage_sound s h =
      let gs = glyphs_of s in
      let k : length gs < 65536 = glyphs_few gs (law.listed gs (law.sound s.covering gs (length s.covering) h.means)) in
      let e = law.even s.covering gs (length s.covering) h.means in
      let short = law.short s.covering gs (length s.covering) h.means in
      record {
        spelt = value_bytes_values s.covering h.bytes e;
        small = values_small s.covering h.bytes;
        size = omega arith;
        slots = tt;
        apart = λ p. omega arith;
        virtuals = tt;
      }

  pub few_sets : (s : Subtable) → GoodSubtable meaning s → length s.sets < 65536
  few_sets s h =
      let k = glyphs_few (glyphs_of s) (law.listed (glyphs_of s) (law.sound s.covering (glyphs_of s) (length s.covering) h.means)) in
      let m : length (glyphs_of s) ≡ length s.sets = length-map s.sets (λ (t : LigatureSet). t.first) in
      omega arith

  extension_walk_sound : (o : Option ℕ) (v : ℕ) → v < n → AllByRecursion (SoundAt n) (extension_walk o v)
  extension_walk_sound None v l = tt
  extension_walk_sound (Some e) v l = (extension_sound n e v l, tt)

  subtable_walk_sound : (s : Subtable) → AllByRecursion (Below n) (subtable_walk s) → GoodSubtable meaning s → AllByRecursion (SoundAt n) (subtable_walk s)
  subtable_walk_sound s b h =
      let r = all_parts_lem (Below n) (extension_walk s.extension s.vertex) (subtable_table s ∷ coverage_table s ∷ flat_map (set_walk s.coverage) s.sets) b in
      let sets = joined_all (Below n) (set_walk s.coverage) s.sets r.1.1.1 in
      All-append (SoundAt n) (extension_walk s.extension s.vertex) (subtable_table s ∷ coverage_table s ∷ flat_map (set_walk s.coverage) s.sets)
      (extension_walk_sound s.extension s.vertex r.1.0) (
        subtable_sound n s r.1.1.0 (All-weaker (λ t. AllByRecursion (Below n) (set_walk s.coverage t)) (λ (t : LigatureSet). t.vertex < n) (λ t a. a.0) s.sets sets) (few_sets s h),
        (coverage_sound s h, sets_sound s.coverage s.sets r.1.1.0 sets h.sets),
      )

  pub head_below : (s : Subtable) → AllByRecursion (Below n) (subtable_walk s) → head s < n
  head_below s b = from s.extension b
    where
      from : (o : Option ℕ) → AllByRecursion (Below n) (extension_walk o s.vertex ++ (subtable_table s ∷ coverage_table s ∷ flat_map (set_walk s.coverage) s.sets)) → head_or o s.vertex < n
      from None h = h.0
      from (Some e) h = h.0

  subtables_sound : (ss : List Subtable) → AllByRecursion (λ s. AllByRecursion (Below n) (subtable_walk s)) ss → AllByRecursion (GoodSubtable meaning) ss → AllByRecursion (SoundAt n) (flat_map subtable_walk ss)
  subtables_sound [] b h = tt
  subtables_sound (s ∷ ss) b h = All-append (SoundAt n) (subtable_walk s) (flat_map subtable_walk ss) (subtable_walk_sound s b.0 h.0) (subtables_sound ss b.1 h.1)

  kind_small : (l : Lookup) → GoodLookup meaning l → Value l.kind
  kind_small l h = ⊎_elim (λ a. let e = a.0 in omega arith) (λ a. let e = a.0 in omega arith) (kinds meaning l h)

  lookup_walk_sound : (l : Lookup) → AllByRecursion (Below n) (lookup_walk l) → GoodLookup meaning l → AllByRecursion (SoundAt n) (lookup_walk l)
  lookup_walk_sound l b h =
      let each = joined_all (Below n) subtable_walk l.subtables b.1 in (
        lookup_sound n l (All-weaker (λ s. AllByRecursion (Below n) (subtable_walk s)) (λ (s : Subtable). head s < n) (λ s a. head_below s a) l.subtables each) (kind_small l h) h.flag h.mark h.count,
        subtables_sound l.subtables each h.subtables,
      )

  lookups_sound : (ls : List Lookup) → AllByRecursion (λ l. AllByRecursion (Below n) (lookup_walk l)) ls → AllByRecursion (GoodLookup meaning) ls → AllByRecursion (SoundAt n) (flat_map lookup_walk ls)
  lookups_sound [] b h = tt
  lookups_sound (l ∷ ls) b h = All-append (SoundAt n) (lookup_walk l) (flat_map lookup_walk ls) (lookup_walk_sound l b.0 h.0) (lookups_sound ls b.1 h.1)

pub walk_sound : {admits : List ℕ → Type 0} {meaning : List ℕ → Option Meant} {span : List ℕ → ℕ} → Lawful admits meaning span → (m : Model) → Good meaning m → AllByRecursion (SoundAt m.taken.vertices) (model_walk m)
walk_sound law m h = lookups_sound law m.taken.vertices m.lookups (joined_all (Below m.taken.vertices) lookup_walk m.lookups h.below) h.lookups

-- TABLES BY VERTEX
empty_sound : (n : ℕ) → Sound n no_table
empty_sound n = record { spelt = refl; small = tt; size = omega arith; slots = tt; apart = λ p. omega arith; virtuals = tt }

pub table_of : (P : Table → Type 0) → P no_table → (ps : List Placed) (v : ℕ) → AllByRecursion (λ (p : Placed). P p.table) ps → P (table_in ps v)
table_of P z [] v h = z
table_of P z (p ∷ ps) v h = cond_both (eqb p.vertex v) p.table (table_in ps v) P (λ e. h.0) (λ e. table_of P z ps v h.1)

-- none of them has that number
pub none_are : (v : ℕ) (ps : List Placed) → count_of v (map vertex_of ps) ≡ 0 → AllByRecursion (λ (p : Placed). p.vertex ≡ v → ⊥) ps
none_are v [] h = tt
none_are v (p ∷ ps) h = ((λ e. let o = one_same p.vertex v e in omega arith), none_are v ps (omega arith))

pub not_in : (v : ℕ) (ps : List Placed) → count_of v (map vertex_of ps) ≡ 0 → table_in ps v ≡ no_table
not_in v [] h = refl
not_in v (p ∷ ps) h = grind (arith, nat_tests, not_in v ps)

pub found : (ps : List Placed) → Distinct (map vertex_of ps) → AllByRecursion (λ (p : Placed). table_in ps p.vertex ≡ p.table) ps
found [] h = tt
found (p ∷ ps) h = (
  cond-true (eqb p.vertex p.vertex) p.table (table_in ps p.vertex) (eq-eqb p.vertex p.vertex refl),
  All-weaker (λ (q : Placed). (q.vertex ≡ p.vertex → ⊥) × (table_in ps q.vertex ≡ q.table)) (λ (q : Placed). table_in (p ∷ ps) q.vertex ≡ q.table)
      (λ q a. cond-false (eqb p.vertex q.vertex) p.table (table_in ps q.vertex) (ne_eqb p.vertex q.vertex (λ e. a.0 (sym e))) ∙ a.1)
      ps
      (all_both (λ (q : Placed). q.vertex ≡ p.vertex → ⊥) (λ (q : Placed). table_in ps q.vertex ≡ q.table) ps (none_are p.vertex ps h.0) (found ps h.1)),
)

-- a sum over the numbers is the sum over the tables
pub tally : (g : Table → ℕ) → g no_table ≡ 0 → (n : ℕ) (ps : List Placed) → Distinct (map vertex_of ps) → AllByRecursion (Below n) ps
    → sum_by (λ v. g (table_in ps v)) (range_with_len 0 n) ≡ sum_by (λ (p : Placed). g p.table) ps
tally g z n [] d b = sum_zero (λ v. g no_table) 0 n (λ v. z)
tally g z n (p ∷ ps) d b =
    sum_one (λ v. g (table_in (p ∷ ps) v)) (λ v. g (table_in ps v)) 0 n p.vertex (g p.table) (omega arith) (let l = b.0 in omega arith)
    (λ v o. ap g (cond-false (eqb p.vertex v) p.table (table_in ps v) (ne_eqb p.vertex v (λ e. o (sym e)))))
    (ap g (not_in p.vertex ps d.0) ∙ z)
    (ap g (cond-true (eqb p.vertex p.vertex) p.table (table_in ps p.vertex) (eq-eqb p.vertex p.vertex refl)))
    ∙ ap (λ x. g p.table + x) (tally g z n ps d.1 b.1)
    ∙ sym (sum_by-cons (λ (q : Placed). g q.table) p ps)

-- A TABLE SPELT AND READ AGAIN
width_back : (w : ℕ) → (w ≡ 2) ⊎ (w ≡ 4) → width_of (cond (eqb w 4) Four Two) ≡ w
width_back w h =
    ⊎_elim
    (λ e. ap (λ x. width_of (cond x Four Two)) (ne_eqb w 4 (λ f. omega arith)) ∙ sym e)
    (λ e. ap (λ x. width_of (cond x Four Two)) (eq-eqb w 4 e) ∙ sym e)
    h

slots_back : (n k : ℕ) (ls : List Slot) (vs : List ℕ) → AllByRecursion (SoundSlot n k) ls → slots_of (map link_of ls ++ map virtual vs) ≡ ls
slots_back n k [] [] h = refl
slots_back n k [] (v ∷ vs) h = slots_back n k [] vs h
slots_back n k (l ∷ ls) vs h =
    ap (λ w. slot l.position w l.target ∷ slots_of (map link_of ls ++ map virtual vs)) (width_back l.width h.0.width)
    ∙ ap (λ x. l ∷ x) (slots_back n k ls vs h.1)

virtuals_back : (ls : List Slot) (vs : List ℕ) → virtuals_of (map link_of ls ++ map virtual vs) ≡ vs
virtuals_back [] [] = refl
virtuals_back [] (v ∷ vs) = ap (λ x. v ∷ x) (virtuals_back [] vs)
virtuals_back (l ∷ ls) vs = virtuals_back ls vs

spelt_back : (n : ℕ) (t : Table) → Sound n t → Spelt (spell_table t) t
spelt_back n t h =
    record {
      bytes = h.spelt;
      slots = subst (IsPermutation t.slots) (sym (slots_back n (length t.bytes) t.slots t.virtuals h.slots)) (IsPermutation-refl t.slots);
    }

links_fine : (n k : ℕ) (ls : List Slot) (vs : List ℕ) → n < 2 ^ 24 → k < 2 ^ 24 → AllByRecursion (SoundSlot n k) ls → AllByRecursion (λ v. v < n) vs → AllByRecursion FineLink (map link_of ls ++ map virtual vs)
links_fine n k [] [] ln lk h g = tt
links_fine n k [] (v ∷ vs) ln lk h g = (let l = g.0 in omega arith, links_fine n k [] vs ln lk h g.1)
links_fine n k (l ∷ ls) vs ln lk h g = ((let w = h.0.within in omega arith, let t = h.0.target in omega arith), links_fine n k ls vs ln lk h.1 g)

table_size : (n : ℕ) (t : Table) → Sound n t → 2 * length (values t.bytes) ≡ length t.bytes
table_size n t h = sym (length-value_bytes (values t.bytes)) ∙ ap length h.spelt

table_fine : (n : ℕ) (t : Table) → n < 2 ^ 24 → Sound n t → FineTable (spell_table t)
table_fine n t l h =
    record {
      values = h.small;
      size = let e = table_size n t h in let s = h.size in omega arith;
      links = links_fine n (length t.bytes) t.slots t.virtuals l h.size h.slots h.virtuals;
    }

-- THE COUNTS
links_said : (ls : List Slot) (vs : List ℕ) → length (map link_of ls ++ map virtual vs) ≡ length (map (λ (s : Slot). s.target) ls ++ vs)
links_said ls vs =
    length-append (map link_of ls) (map virtual vs)
    ∙ ap (λ x. x + length (map virtual vs)) (length-map ls link_of ∙ sym (length-map ls (λ (s : Slot). s.target)))
    ∙ ap (λ x. length (map (λ (s : Slot). s.target) ls) + x) (length-map vs virtual)
    ∙ sym (length-append (map (λ (s : Slot). s.target) ls) vs)

links_sum : (f : ℕ → Table) (cs : List ℕ) → links_in (map (λ v. spell_table (f v)) cs) ≡ sum_by (λ v. length (targets (f v))) cs
links_sum f [] = refl
links_sum f (c ∷ cs) =
    ap (λ x. x + links_in (map (λ v. spell_table (f v)) cs)) (links_said (f c).slots (f c).virtuals)
    ∙ ap (λ x. length (targets (f c)) + x) (links_sum f cs)
    ∙ sym (sum_by-cons (λ v. length (targets (f v))) c cs)

bytes_sum : (n : ℕ) (f : ℕ → Table) → ((v : ℕ) → Sound n (f v)) → (cs : List ℕ) → bytes_in (map (λ v. spell_table (f v)) cs) ≡ sum_by (λ v. length (f v).bytes) cs
bytes_sum n f h [] = refl
bytes_sum n f h (c ∷ cs) =
    ap (λ x. x + bytes_in (map (λ v. spell_table (f v)) cs)) (table_size n (f c) (h c))
    ∙ ap (λ x. length (f c).bytes + x) (bytes_sum n f h cs)
    ∙ sym (sum_by-cons (λ v. length (f v).bytes) c cs)

same_taken : (v l b v' l' b' : ℕ) → v ≡ v' → l ≡ l' → b ≡ b' → ◌≡◌ {A = Taken} (record { vertices = v; links = l; bytes = b }) (record { vertices = v'; links = l'; bytes = b' })
same_taken v l b v' l' b' e f g = cc

-- THE THEOREM
roots_below : (n : ℕ) (ls : List Lookup) → AllByRecursion (λ l. AllByRecursion (Below n) (lookup_walk l)) ls → AllByRecursion (λ r. r < n) (map (λ (l : Lookup). l.vertex) ls)
roots_below n [] h = tt
roots_below n (l ∷ ls) h = (h.0.0, roots_below n ls h.1)

module _ {admits : List ℕ → Type 0} {meaning : List ℕ → Option Meant} {span : List ℕ → ℕ} (law : Lawful admits meaning span) (m : Model) (h : Good meaning m) where
  abbrev count : ℕ
  count = m.taken.vertices

  sound_at : (v : ℕ) → Sound count (table_in (model_walk m) v)
  sound_at v = table_of (Sound count) (empty_sound count) (model_walk m) v (walk_sound law m h)

  held : (p : Placed) → (p.vertex < count) × (table_in (model_walk m) p.vertex ≡ p.table) × Sound count p.table → Holds (stream_of m) p
  held p a =
      let t = spell_table p.table in
      let at : TableAt (stream_of m) p.vertex t =
      nth_counting (λ v. spell_table (table_in (model_walk m) v)) 0 count p.vertex a.0
      ∙ ap (λ v. Some (spell_table (table_in (model_walk m) v))) (let e : 0 + p.vertex ≡ p.vertex = omega arith in e)
      ∙ ap (λ x. Some (spell_table x)) a.1 in
      (t, at, spelt_back count p.table a.2, virtuals_back p.table.slots p.table.virtuals)

  all_held : AllByRecursion (Holds (stream_of m)) (model_walk m)
  all_held =
      All-weaker (λ (p : Placed). (p.vertex < count) × ((table_in (model_walk m) p.vertex ≡ p.table) × Sound count p.table)) (Holds (stream_of m))
      (λ p a. held p (a.0, a.1.0, a.1.1)) (model_walk m)
      (all_both (Below count) (λ (p : Placed). (table_in (model_walk m) p.vertex ≡ p.table) × Sound count p.table) (model_walk m) h.below
      (all_both (λ (p : Placed). table_in (model_walk m) p.vertex ≡ p.table) (SoundAt count) (model_walk m) (found (model_walk m) h.distinct) (walk_sound law m h)))

  counted : length (stream_of m).tables ≡ count
  counted = length-map-range_with_len (λ v. spell_table (table_in (model_walk m) v)) 0 count

  taken_back : (tidy m).taken ≡ taken_by (stream_of m)
  taken_back =
      same_taken count m.taken.links (tidy m).taken.bytes _ _ _ (sym counted)
      (sym (links_sum (table_in (model_walk m)) (range_with_len 0 count) ∙ tally (λ (t : Table). length (targets t)) refl count (model_walk m) h.distinct h.below ∙ h.links))
      (sym (bytes_sum count (table_in (model_walk m)) sound_at (range_with_len 0 count) ∙ tally (λ (t : Table). length t.bytes) refl count (model_walk m) h.distinct h.below))

  tidy_good : Good meaning (tidy m)
  tidy_good = record { lookups = h.lookups; distinct = h.distinct; below = h.below; vertices = h.vertices; links = h.links; room = omega arith }

  stream_fine : count < 2 ^ 24 → Fine (stream_of m)
  stream_fine l =
      record {
        uncounted = record {
          tables = All-map FineTable (λ v. spell_table (table_in (model_walk m) v)) (range_with_len 0 count) (all_any (λ v. FineTable (spell_table (table_in (model_walk m) v))) (λ v. table_fine count (table_in (model_walk m) v) l (sound_at v)) (range_with_len 0 count));
          roots = subst (λ k. AllByRecursion (λ r. r < k) (map (λ (x : Lookup). x.vertex) m.lookups)) (sym counted) (roots_below count m.lookups (joined_all (Below count) lookup_walk m.lookups h.below));
        };
        count = subst (λ k. k < 2 ^ 24) (sym counted) l;
      }

  loaded_back : Loaded meaning (stream_of m) (tidy m)
  loaded_back = record { good = tidy_good; tables = all_held; roots = refl; taken = taken_back }

  pub loads_back : (caps : Capacities) → count < 2 ^ 24 → short_of caps (tidy m).taken ≡ None → Loads meaning caps (spelled (stream_of m)) (Ok (tidy m))
  loads_back caps l room =
      accepted (stream_of m) (tidy m) (record { fine = stream_fine l; words = refl }) (ap (short_of caps) (sym taken_back) ∙ room) loaded_back

-- no pool is short that holds what is taken from it
pub room_enough : (caps : Capacities) (t : Taken) → Enough caps t → short_of caps t ≡ None
room_enough caps t e =
    grind (arith, nat_tests, e.vertices, e.links, e.bytes)

pub models_load : {admits : List ℕ → Type 0} {meaning : List ℕ → Option Meant} {span : List ℕ → ℕ} → Lawful admits meaning span → ModelsLoad meaning
models_load law caps m h l room = loads_back law m h caps l (room_enough caps (tidy m).taken room)
