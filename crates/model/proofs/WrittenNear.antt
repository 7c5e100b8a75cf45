-- Behind extension tables no offset is too far, if each subtable's size is at most 65,535; and how long a lookup gets that is written.
use Rattle.std.proofs.Common.{◌≡◌, ℕ, suc, ◌+◌, ◌*◌, ◌^◌, ◌<◌, ◌≤◌, Bool, true, false, cond, ltb, List, [], ◌∷◌, ◌++◌, map, length, is_some, Some, None, sum_by, Option, refl, ap, ◌∙◌, subst, arith}
use Rattle.std.specs.List.{flat_map, AllByRecursion}
use Rattle.std.proofs.ByRecursion.{All-append, All-map, All-weaker}
use Rattle.std.proofs.lemmas.List.{length-map}
use Rattle.std.proofs.lemmas.List.Sums.{sum_by-append}
use Rattle.std.proofs.lemmas.Bool.{or_from, le-ltb, eq-eqb}
use Rattle.coverage.specs.Meaning.{Meant}
use Rattle.model.specs.Forest.{Ligature, LigatureSet, Subtable, Lookup}
use Rattle.model.specs.Tables.{Placed, vertex_of, slots_from, head, head_or, lookup_table, coverage_table, set_table, ligature_table, extension_walk, lookup_walk}
use Rattle.model.specs.Cutting.{entries_from, sets_from, entry_size, run_size, subtable_size}
use Rattle.model.specs.Sound.{Lawful, Distinct, GoodSubtable, GoodLookup, glyphs_of}
use Rattle.model.specs.Writing.{Start, starts_in, subtable_order, extensions_of, write_order, too_far, overflows, written}
use Rattle.model.proofs.Lists.{all_joined, all_both, all_any, option_few}
use Rattle.model.proofs.LayPlaces.{ahead}
use Rattle.model.proofs.NumberSums.{tally_append, tally_sum}
use Rattle.model.proofs.LayStarts.{size, sizes, Sits}
use Rattle.model.proofs.LayLookups.{set_tables, ligature_tables, size_lookup, body_size, SubtableLies, lookup_lies, length_written}
use Rattle.model.proofs.WrittenTables.{Near, near_all, all_near, slots_near, near_subtable, heads, set_vertices, ligature_vertices}
use Rattle.model.proofs.PartsBytes.{touched_sets, bytes_subtable, bytes_set, bytes_ligatures}
use Rattle.model.proofs.KeepGlyphs.{sets_full}

-- THE SIZE OF A SUBTABLE is what its tables take, its coverage apart
entry_sizes : (c i j : ℕ) (t : LigatureSet) (gs : List Ligature) → sum_by entry_size (entries_from i j t gs) ≡ 2 * length gs + sizes (map (ligature_table c) gs)
entry_sizes c i j t gs = bytes_ligatures c i j t gs ∙ ap (λ k. 2 * length gs + k) (tally_sum size (map (ligature_table c) gs))

set_sizes : (c i : ℕ) (ts : List LigatureSet)
    → 2 * length ts + sum_by entry_size (sets_from i ts) ≡ sizes (map (set_table c) ts) + sizes (flat_map (λ (t : LigatureSet). map (ligature_table c) t.ligatures) ts)
set_sizes c i [] = refl
set_sizes c i (t ∷ ts) =
    let h = set_sizes c (suc i) ts in
    let a = sum_by-append entry_size (entries_from i 0 t t.ligatures) (sets_from (suc i) ts) in
    let b = entry_sizes c i 0 t t.ligatures in
    let d = bytes_set c t in
    let e = tally_append size (map (ligature_table c) t.ligatures) (flat_map (λ (u : LigatureSet). map (ligature_table c) u.ligatures) ts) in
    omega arith

pub size_body : (s : Subtable) → AllByRecursion (λ (t : LigatureSet). 0 < length t.ligatures) s.sets → subtable_size s ≡ body_size s
unfolding run_size
size_body s a =
    let h = touched_sets 0 s.sets a in
    let b = set_sizes s.coverage 0 s.sets in
    let c = bytes_subtable s in
    omega arith

-- NO OFFSET IS TOO FAR
module _ (Q : Placed → Type 0) (ss : List Start) (bs : List ℕ) where
  set_near : (c low middle high : ℕ) (t : LigatureSet) → Sits Q ss bs low middle (set_table c t) → AllByRecursion (λ (g : Ligature). Sits Q ss bs middle high (ligature_table c g)) t.ligatures
      → high ≤ low + 65535 → Near ss (set_table c t)
  set_near c low middle high t h a le =
      slots_near ss t.vertex 2 (ligature_vertices t)
      (All-map (λ v. ahead ss t.vertex v ≤ 65535) (λ (g : Ligature). g.vertex) t.ligatures
      (All-weaker (λ (g : Ligature). Sits Q ss bs middle high (ligature_table c g)) (λ (g : Ligature). ahead ss t.vertex g.vertex ≤ 65535)
      (λ g s. let from = h.from in let to = s.to in omega arith) t.ligatures a))

  pub subtable_near : (low : ℕ) (s : Subtable) → SubtableLies Q ss bs low s → body_size s ≤ 65535 → AllByRecursion (Near ss) (subtable_order s)
  subtable_near low s h le =
      let c = s.coverage in
      let v = s.vertex in
      let p = h.place in
      let start = h.own.start in
      let end = h.coverage.start in
      let long = h.long in
      let SetSits = λ (t : LigatureSet). Sits Q ss bs p h.middle (set_table c t) in
      let Lines = λ (t : LigatureSet). AllByRecursion (λ (g : Ligature). Sits Q ss bs h.middle h.end (ligature_table c g)) t.ligatures in (
        or_from (ltb 65535 (ahead ss v c)) (too_far ss v (slots_from 6 (set_vertices s))) (le-ltb 65535 (ahead ss v c) (omega arith))
            (slots_near ss v 6 (set_vertices s)
            (All-map (λ u. ahead ss v u ≤ 65535) (λ (t : LigatureSet). t.vertex) s.sets
            (All-weaker SetSits (λ (t : LigatureSet). ahead ss v t.vertex ≤ 65535) (λ t x. let to = x.to in let order = h.order in omega arith) s.sets h.sets))),
        All-append (Near ss) (set_tables s) (ligature_tables s ++ coverage_table s ∷ [])
            (All-map (Near ss) (set_table c) s.sets
            (All-weaker (λ (t : LigatureSet). SetSits t × Lines t) (λ (t : LigatureSet). Near ss (set_table c t)) (λ t x. set_near c p h.middle h.end t x.0 x.1 (omega arith)) s.sets
            (all_both SetSits Lines s.sets h.sets h.ligatures)))
            (All-append (Near ss) (ligature_tables s) (coverage_table s ∷ [])
            (all_joined (Near ss) (λ (t : LigatureSet). map (ligature_table c) t.ligatures) s.sets
            (all_any (λ (t : LigatureSet). AllByRecursion (Near ss) (map (ligature_table c) t.ligatures))
            (λ t. All-map (Near ss) (ligature_table c) t.ligatures (all_any (λ (g : Ligature). Near ss (ligature_table c g)) (λ g. refl) t.ligatures)) s.sets))
            (refl, tt)),
      )

  extended_near : (v m : ℕ) (o : Option ℕ) (w : ℕ) → is_some o ≡ true → AllByRecursion (Sits Q ss bs 0 m) (extension_walk o w) → m ≤ 65543 → ahead ss v (head_or o w) ≤ 65535
  extended_near v m None w some a le = cc
  extended_near v m (Some e) w some a le = let to = a.0.to in omega arith

sizes_extension : (o : Option ℕ) (v : ℕ) → sizes (extension_walk o v) ≤ 8
sizes_extension None v = omega arith
sizes_extension (Some e) v = omega arith

pub sizes_extensions : (subs : List Subtable) → sizes (extensions_of subs) ≤ 8 * length subs
sizes_extensions [] = omega arith
sizes_extensions (s ∷ subs) =
    let h = sizes_extensions subs in
    let a = tally_append size (extension_walk s.extension s.vertex) (extensions_of subs) in
    let b = sizes_extension s.extension s.vertex in
    omega arith

near_extension : (ss : List Start) (o : Option ℕ) (v : ℕ) → AllByRecursion (Near ss) (extension_walk o v)
near_extension ss None v = tt
near_extension ss (Some e) v = (refl, tt)

-- the head of a lookup with all its extension tables
pub head_short : (l : Lookup) → length l.subtables ≤ 6553 → size (lookup_table l) + sizes (extensions_of l.subtables) ≤ 65538
head_short l few =
    let a = size_lookup l in
    let b = sizes_extensions l.subtables in
    let c = option_few l.mark in
    omega arith

pub none_overflows : (meaning : List ℕ → Option Meant) (l : Lookup) → GoodLookup meaning l → Distinct (map vertex_of (lookup_walk l)) → l.kind ≡ 7
    → AllByRecursion (λ (s : Subtable). subtable_size s ≤ 65535) l.subtables → overflows l ≡ false
none_overflows meaning l good d kind short =
    let ss = starts_in l in
    let bs = written l in
    let Q = λ (x : Placed). Unit {0} in
    let subs = l.subtables in
    let m = size (lookup_table l) + sizes (extensions_of subs) in
    let h = lookup_lies Q l d (all_any Q (λ x. tt) (write_order l)) in
    let v = l.vertex in
    let Extended = λ (s : Subtable). is_some s.extension ≡ true in
    let Exts = λ (s : Subtable). AllByRecursion (Sits Q ss bs 0 m) (extension_walk s.extension s.vertex) in
    let kinds : AllByRecursion Extended subs =
    subst (λ (b : Bool). cond b (AllByRecursion Extended subs) ((l.kind ≡ 4) × AllByRecursion (λ (s : Subtable). is_some s.extension ≡ false) subs)) (eq-eqb l.kind 7 kind) good.kind in
    let few = head_short l good.count in
    let near-heads = All-weaker (λ (s : Subtable). Extended s × Exts s) (λ (s : Subtable). ahead ss v (head s) ≤ 65535)
    (λ s x. extended_near Q ss bs v m s.extension s.vertex x.0 x.1 (omega arith)) subs (all_both Extended Exts subs kinds h.extensions) in
    let Short = λ (s : Subtable). subtable_size s ≤ 65535 in
    let Lies = λ (s : Subtable). SubtableLies Q ss bs m s in
    let Both = λ (s : Subtable). Short s × GoodSubtable meaning s in
    all_near ss (write_order l) (
      slots_near ss v 6 (heads l) (All-map (λ t. ahead ss v t ≤ 65535) (λ (s : Subtable). head s) subs near-heads),
      All-append (Near ss) (extensions_of subs) (flat_map subtable_order subs)
          (all_joined (Near ss) (λ (s : Subtable). extension_walk s.extension s.vertex) subs
          (all_any (λ (s : Subtable). AllByRecursion (Near ss) (extension_walk s.extension s.vertex)) (λ s. near_extension ss s.extension s.vertex) subs))
          (all_joined (Near ss) subtable_order subs
          (All-weaker (λ (s : Subtable). Both s × Lies s) (λ (s : Subtable). AllByRecursion (Near ss) (subtable_order s))
          (λ s x. let e = size_body s (sets_full s.sets x.0.1.sets) in let le = x.0.0 in subtable_near Q ss bs m s x.1 (omega arith)) subs
          (all_both Both Lies subs (all_both Short (GoodSubtable meaning) subs short good.subtables) h.subtables))),
    )

-- HOW LONG A LOOKUP GETS THAT IS WRITTEN: far below four bytes
abbrev pub Small : Subtable → Type 0
Small s = sizes (subtable_order s) ≤ 262144

sizes_subtables : (subs : List Subtable) → AllByRecursion Small subs → sizes (flat_map subtable_order subs) ≤ 262144 * length subs
sizes_subtables [] a = omega arith
sizes_subtables (s ∷ subs) a =
    let h = sizes_subtables subs a.1 in
    let b = tally_append size (subtable_order s) (flat_map subtable_order subs) in
    let c = a.0 in
    omega arith

module _ (admits : List ℕ → Type 0) (meaning : List ℕ → Option Meant) (span : List ℕ → ℕ) (lawful : Lawful admits meaning span) where
  subtable_small : (ss : List Start) (bs : List ℕ) (low : ℕ) (s : Subtable) → GoodSubtable meaning s → SubtableLies (Near ss) ss bs low s → Small s
  subtable_small ss bs low s good h =
      let c = s.coverage in
      let v = s.vertex in
      let start = h.own.start in
      let end = h.coverage.start in
      let long = h.long in
      let near = (near_subtable ss s h.own.more).0 in
      let z = bytes_subtable s in
      let glyphs = length-map s.sets (λ (t : LigatureSet). t.first) in
      let cover = lawful.short s.covering (glyphs_of s) (length s.covering) good.means in
      let a = tally_append size (set_tables s) (ligature_tables s ++ coverage_table s ∷ []) in
      let b = tally_append size (ligature_tables s) (coverage_table s ∷ []) in
      omega arith

  pub written_short : (l : Lookup) → GoodLookup meaning l → Distinct (map vertex_of (lookup_walk l)) → overflows l ≡ false → length (written l) < 256 ^ 4
  written_short l good d none =
      let ss = starts_in l in
      let bs = written l in
      let subs = l.subtables in
      let m = size (lookup_table l) + sizes (extensions_of subs) in
      let h = lookup_lies (Near ss) l d (near_all ss (write_order l) none) in
      let Lies = λ (s : Subtable). SubtableLies (Near ss) ss bs m s in
      let small = All-weaker (λ (s : Subtable). GoodSubtable meaning s × Lies s) Small (λ s x. subtable_small ss bs m s x.0 x.1) subs
      (all_both (GoodSubtable meaning) Lies subs good.subtables h.subtables) in
      let e = length_written l in
      let f = tally_sum size (write_order l) in
      let a = tally_append size (extensions_of subs) (flat_map subtable_order subs) in
      let b = sizes_subtables subs small in
      let few = good.count in
      let c = head_short l few in
      omega arith
