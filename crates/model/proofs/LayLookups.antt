-- The tables of a written lookup, part by part: where they stand, and that no vertex stands twice.
use Rattle.std.proofs.Common.{◌≡◌, ℕ, ◌+◌, ◌*◌, ◌≤◌, List, [], ◌∷◌, ◌++◌, map, length, Some, None, Option, ap, ◌∙◌, arith, length-append, sym}
use Rattle.std.specs.List.{flat_map, AllByRecursion}
use Rattle.std.specs.Option.{option_to_list}
use Rattle.std.proofs.ByRecursion.{All-append, All-map}
use Rattle.std.proofs.lemmas.List.{length-map, map-append}
use Rattle.data_bytes.proofs.ValueLists.{length-value_bytes}
use Rattle.model.specs.Forest.{Ligature, LigatureSet, Subtable, Lookup}
use Rattle.model.specs.Tables.{Placed, vertex_of, count_of, head, zeros, lookup_table, subtable_table, coverage_table, set_table, ligature_table, set_walk, extension_walk, subtable_walk, lookup_walk}
use Rattle.model.specs.Sound.{Distinct}
use Rattle.model.specs.Writing.{Start, starts_in, subtable_order, extensions_of, write_order, written, written_size}
use Rattle.model.proofs.Lists.{all_mapped, joined_all, all_joined, all_any, count_append, distinct_count, count_distinct}
use Rattle.model.proofs.LayPlaces.{slots_fit}
use Rattle.model.proofs.NumberSums.{tally_sum}
use Rattle.model.proofs.LayStarts.{size, sizes, Fits, length_laid, Here, Laid, Sits, laid_front, laid_back, laid_sits, laid_whole}
use Rattle.model.proofs.PartsBytes.{length_zeros, bytes_subtable, bytes_set}

abbrev pub set_tables : Subtable → List Placed
set_tables s = map (set_table s.coverage) s.sets

abbrev pub ligature_tables : Subtable → List Placed
ligature_tables s = flat_map (λ (t : LigatureSet). map (ligature_table s.coverage) t.ligatures) s.sets

-- SIZES OF TABLES
abbrev pub marks : Lookup → ℕ
marks l = length (option_to_list l.mark)

pub size_lookup : (l : Lookup) → size (lookup_table l) ≡ 6 + (2 * length l.subtables + 2 * marks l)
size_lookup l =
    let n = length l.subtables in
    let v = length-value_bytes (l.kind ∷ l.flag ∷ n ∷ (zeros n ++ option_to_list l.mark)) in
    let a = length-append (zeros n) (option_to_list l.mark) in
    let r = length_zeros n in
    omega arith

-- EACH SLOT LIES IN ITS TABLE
fits_lookup : (l : Lookup) → Fits (lookup_table l)
fits_lookup l =
    let z = size_lookup l in
    let m = length-map l.subtables (λ (s : Subtable). head s) in
    slots_fit 6 (size (lookup_table l)) (map (λ (s : Subtable). head s) l.subtables) (omega arith)

fits_extension : (o : Option ℕ) (v : ℕ) → AllByRecursion Fits (extension_walk o v)
fits_extension None v = tt
fits_extension (Some e) v = ((omega arith, tt), tt)

fits_subtable : (s : Subtable) → Fits (subtable_table s)
fits_subtable s =
    let z = bytes_subtable s in
    let m = length-map s.sets (λ (t : LigatureSet). t.vertex) in
    (omega arith, slots_fit 6 (size (subtable_table s)) (map (λ (t : LigatureSet). t.vertex) s.sets) (omega arith))

fits_set : (c : ℕ) (t : LigatureSet) → Fits (set_table c t)
fits_set c t =
    let z = bytes_set c t in
    let m = length-map t.ligatures (λ (g : Ligature). g.vertex) in
    slots_fit 2 (size (set_table c t)) (map (λ (g : Ligature). g.vertex) t.ligatures) (omega arith)

fits_order : (s : Subtable) → AllByRecursion Fits (subtable_order s)
fits_order s =
    let c = s.coverage in
    let ligatures = λ (t : LigatureSet). All-map Fits (ligature_table c) t.ligatures (all_any (λ (g : Ligature). Fits (ligature_table c g)) (λ g. tt) t.ligatures) in (
      fits_subtable s,
      All-append Fits (set_tables s) (ligature_tables s ++ coverage_table s ∷ [])
          (All-map Fits (set_table c) s.sets (all_any (λ (t : LigatureSet). Fits (set_table c t)) (fits_set c) s.sets))
          (All-append Fits (ligature_tables s) (coverage_table s ∷ [])
          (all_joined Fits (λ (t : LigatureSet). map (ligature_table c) t.ligatures) s.sets
          (all_any (λ (t : LigatureSet). AllByRecursion Fits (map (ligature_table c) t.ligatures)) ligatures s.sets))
          (tt, tt)),
    )

pub fits_written : (l : Lookup) → AllByRecursion Fits (write_order l)
fits_written l = (
  fits_lookup l,
  All-append Fits (extensions_of l.subtables) (flat_map subtable_order l.subtables)
      (all_joined Fits (λ (s : Subtable). extension_walk s.extension s.vertex) l.subtables
      (all_any (λ (s : Subtable). AllByRecursion Fits (extension_walk s.extension s.vertex)) (λ s. fits_extension s.extension s.vertex) l.subtables))
      (all_joined Fits subtable_order l.subtables (all_any (λ (s : Subtable). AllByRecursion Fits (subtable_order s)) fits_order l.subtables)),
)

-- as long as told
pub length_written : (l : Lookup) → length (written l) ≡ written_size l
unfolding written
length_written l = length_laid (starts_in l) (write_order l) (fits_written l) ∙ sym (tally_sum size (write_order l))

-- THE SAME TABLES AS IN THE WALK
abbrev count : ℕ → List Placed → ℕ
count v xs = count_of v (map vertex_of xs)

pub counts_append : (v : ℕ) (xs ys : List Placed) → count v (xs ++ ys) ≡ count v xs + count v ys
counts_append v xs ys = ap (count_of v) (map-append vertex_of xs ys) ∙ count_append v (map vertex_of xs) (map vertex_of ys)

count_sets : (v c : ℕ) (ts : List LigatureSet)
    → count v (flat_map (set_walk c) ts) ≡ count v (map (set_table c) ts) + count v (flat_map (λ (t : LigatureSet). map (ligature_table c) t.ligatures) ts)
count_sets v c [] = omega arith
count_sets v c (t ∷ ts) =
    let i = count_sets v c ts in
    let a = counts_append v (map (ligature_table c) t.ligatures) (flat_map (set_walk c) ts) in
    let b = counts_append v (map (ligature_table c) t.ligatures) (flat_map (λ (u : LigatureSet). map (ligature_table c) u.ligatures) ts) in
    omega arith

count_subtable : (v : ℕ) (s : Subtable) → count v (subtable_walk s) ≡ count v (extension_walk s.extension s.vertex) + count v (subtable_order s)
count_subtable v s =
    let c = s.coverage in
    let i = count_sets v c s.sets in
    let a = counts_append v (extension_walk s.extension s.vertex) (subtable_table s ∷ coverage_table s ∷ flat_map (set_walk c) s.sets) in
    let b = counts_append v (set_tables s) (ligature_tables s ++ coverage_table s ∷ []) in
    let d = counts_append v (ligature_tables s) (coverage_table s ∷ []) in
    omega arith

count_subtables : (v : ℕ) (ss : List Subtable) → count v (flat_map subtable_walk ss) ≡ count v (extensions_of ss) + count v (flat_map subtable_order ss)
count_subtables v [] = omega arith
count_subtables v (s ∷ ss) =
    let i = count_subtables v ss in
    let h = count_subtable v s in
    let a = counts_append v (subtable_walk s) (flat_map subtable_walk ss) in
    let b = counts_append v (extension_walk s.extension s.vertex) (extensions_of ss) in
    let d = counts_append v (subtable_order s) (flat_map subtable_order ss) in
    omega arith

pub count_order : (v : ℕ) (l : Lookup) → count_of v (map vertex_of (write_order l)) ≡ count_of v (map vertex_of (lookup_walk l))
count_order v l =
    let h = count_subtables v l.subtables in
    let a = counts_append v (extensions_of l.subtables) (flat_map subtable_order l.subtables) in
    omega arith

pub distinct_order : (l : Lookup) → Distinct (map vertex_of (lookup_walk l)) → Distinct (map vertex_of (write_order l))
distinct_order l d =
    count_distinct (map vertex_of (write_order l)) (λ v. let h = distinct_count (map vertex_of (lookup_walk l)) d v in let e = count_order v l in omega arith)

-- WHERE THE PARTS STAND
-- what a subtable takes, its coverage apart
abbrev pub body_size : Subtable → ℕ
body_size s = size (subtable_table s) + (sizes (set_tables s) + sizes (ligature_tables s))

module _ (Q : Placed → Type 0) (ss : List Start) (bs : List ℕ) where
  pub record SubtableLies (low : ℕ) (s : Subtable) : Type 0 where
    pub place : ℕ
    pub middle : ℕ
    pub end : ℕ
    pub from : low ≤ place
    pub own : Here Q ss bs place (subtable_table s)
    pub sets : AllByRecursion (λ (t : LigatureSet). Sits Q ss bs place middle (set_table s.coverage t)) s.sets
    pub ligatures : AllByRecursion (λ (t : LigatureSet). AllByRecursion (λ (g : Ligature). Sits Q ss bs middle end (ligature_table s.coverage g)) t.ligatures) s.sets
    pub coverage : Here Q ss bs end (coverage_table s)
    pub order : middle ≤ end
    pub long : end ≡ place + body_size s

  laid_subtable : (low p : ℕ) (s : Subtable) → low ≤ p → Laid Q ss bs p (subtable_order s) → SubtableLies low s
  laid_subtable low p s le h =
      let c = s.coverage in
      let p1 = p + size (subtable_table s) in
      let p2 = p1 + sizes (set_tables s) in
      let p3 = p2 + sizes (ligature_tables s) in
      let a = laid_front Q ss bs p1 (set_tables s) (ligature_tables s ++ coverage_table s ∷ []) h.1 in
      let b = laid_back Q ss bs p1 (set_tables s) (ligature_tables s ++ coverage_table s ∷ []) h.1 in
      let d = laid_front Q ss bs p2 (ligature_tables s) (coverage_table s ∷ []) b in
      let e = laid_back Q ss bs p2 (ligature_tables s) (coverage_table s ∷ []) b in
      let lines = joined_all (Sits Q ss bs p2 p3) (λ (t : LigatureSet). map (ligature_table c) t.ligatures) s.sets (laid_sits Q ss bs p2 p2 p3 (ligature_tables s) d (omega arith) (omega arith)) in
      record {
        place = p;
        middle = p2;
        end = p3;
        from = le;
        own = h.0;
        sets = all_mapped (Sits Q ss bs p p2) (set_table c) s.sets (laid_sits Q ss bs p1 p p2 (set_tables s) a (omega arith) (omega arith));
        ligatures = each_set c p2 p3 s.sets lines;
        coverage = e.0;
        order = omega arith;
        long = omega arith;
      } where
        each_set : (c low high : ℕ) (ts : List LigatureSet) → AllByRecursion (λ (t : LigatureSet). AllByRecursion (Sits Q ss bs low high) (map (ligature_table c) t.ligatures)) ts
            → AllByRecursion (λ (t : LigatureSet). AllByRecursion (λ (g : Ligature). Sits Q ss bs low high (ligature_table c g)) t.ligatures) ts
        each_set c low high [] a = tt
        each_set c low high (t ∷ ts) a = (all_mapped (Sits Q ss bs low high) (ligature_table c) t.ligatures a.0, each_set c low high ts a.1)

  laid_subtables : (low p : ℕ) (subs : List Subtable) → low ≤ p → Laid Q ss bs p (flat_map subtable_order subs) → AllByRecursion (SubtableLies low) subs
  laid_subtables low p [] le h = tt
  laid_subtables low p (s ∷ subs) le h = (
    laid_subtable low p s le (laid_front Q ss bs p (subtable_order s) (flat_map subtable_order subs) h),
    laid_subtables low (p + sizes (subtable_order s)) subs (omega arith) (laid_back Q ss bs p (subtable_order s) (flat_map subtable_order subs) h),
  )

  -- the lookup at 0, the extension tables behind it, then the subtables
  pub record LookupLies (l : Lookup) : Type 0 where
    pub own : Here Q ss bs 0 (lookup_table l)
    pub extensions : AllByRecursion (λ (s : Subtable). AllByRecursion (Sits Q ss bs 0 (size (lookup_table l) + sizes (extensions_of l.subtables))) (extension_walk s.extension s.vertex)) l.subtables
    pub subtables : AllByRecursion (SubtableLies (size (lookup_table l) + sizes (extensions_of l.subtables))) l.subtables

  pub laid_lookup : (l : Lookup) → Laid Q ss bs 0 (write_order l) → LookupLies l
  laid_lookup l h =
      let subs = l.subtables in
      let p = 0 + size (lookup_table l) in
      let m = size (lookup_table l) + sizes (extensions_of subs) in
      let a = laid_front Q ss bs p (extensions_of subs) (flat_map subtable_order subs) h.1 in
      let b = laid_back Q ss bs p (extensions_of subs) (flat_map subtable_order subs) h.1 in
      record {
        own = h.0;
        extensions = joined_all (Sits Q ss bs 0 m) (λ (s : Subtable). extension_walk s.extension s.vertex) subs (laid_sits Q ss bs p 0 m (extensions_of subs) a (omega arith) (omega arith));
        subtables = laid_subtables m (p + sizes (extensions_of subs)) subs (omega arith) b;
      }

-- of each lookup whose vertices are distinct, with what else is known of each table
pub lookup_lies : (Q : Placed → Type 0) (l : Lookup) → Distinct (map vertex_of (lookup_walk l)) → AllByRecursion Q (write_order l) → LookupLies Q (starts_in l) (written l) l
unfolding written
lookup_lies Q l d more = laid_lookup Q (starts_in l) (written l) l (laid_whole Q (write_order l) (distinct_order l d) (fits_written l) more)
