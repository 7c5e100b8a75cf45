-- What is written is bytes: each value has two of them.
use Rattle.std.proofs.Common.{◌≡◌, ℕ, suc, ◌<◌, ◌≤◌, Bool, true, false, cond, eqb, List, [], ◌∷◌, ◌++◌, map, length, Some, None, Option, sym, refl, subst, arith}
use Rattle.std.specs.List.{flat_map, AllByRecursion}
use Rattle.std.specs.Option.{option_to_list}
use Rattle.std.proofs.ByRecursion.{All-append, All-map, All-weaker, All-get_or, All-from_get_or}
use Rattle.std.proofs.lemmas.List.{length-map}
use Rattle.std.proofs.lemmas.Bool.{eqb-true}
use Rattle.data_bytes.specs.BigEndian.{Bytes, spelled}
use Rattle.data_bytes.specs.Values.{value_bytes}
use Rattle.data_bytes.proofs.Spellings.{bytes_spelled}
use Rattle.coverage.specs.Meaning.{Meant}
use Rattle.coverage.proofs.Lists.{listed}
use Rattle.model.specs.Forest.{Ligature, LigatureSet, Subtable, Lookup}
use Rattle.model.specs.Tables.{Placed, lookup_table, subtable_table, coverage_table, set_table, ligature_table, extension_walk}
use Rattle.model.specs.Sound.{Lawful, Value, GoodLigature, GoodSet, GoodSubtable, GoodLookup, glyphs_of}
use Rattle.model.specs.Writing.{Start, starts_in, filled, subtable_order, extensions_of, write_order, overflows, written}
use Rattle.model.proofs.Lists.{all_front, all_back, all_mapped, joined_all, all_joined, all_both, all_any, option_all}
use Rattle.model.proofs.LayPlaces.{ahead}
use Rattle.model.proofs.LayLookups.{set_tables, ligature_tables}
use Rattle.model.proofs.WrittenTables.{Near, near_all, near_slots, near_subtable, heads, set_vertices, ligature_vertices, lookup_values, subtable_values, set_values, filled_lookup, filled_subtable, filled_set, filled_extension}

abbrev Byte : ℕ → Type 0
Byte b = b < 256

value_bytes_lem : (vs : List ℕ) → AllByRecursion Value vs → AllByRecursion Byte (value_bytes vs)
value_bytes_lem [] a = tt
value_bytes_lem (v ∷ vs) a = let h = a.0 in (omega arith, (omega arith, value_bytes_lem vs a.1))

module _ (ss : List Start) where
  abbrev Spelled : Placed → Type 0
  Spelled x = AllByRecursion Byte (filled ss x)

  offsets : (v : ℕ) (ts : List ℕ) → AllByRecursion (λ t. ahead ss v t < 65536) ts → AllByRecursion Value (map (ahead ss v) ts)
  offsets v ts a = All-map Value (ahead ss v) ts a

  extension_spelled : (o : Option ℕ) (v : ℕ) → AllByRecursion Spelled (extension_walk o v)
  extension_spelled None v = tt
  extension_spelled (Some e) v =
      let n = ahead ss e v in
      let slot = All-from_get_or Byte (spelled 4 n) 0 (bytes_spelled 4 n) in
      (subst (λ (x : List ℕ). AllByRecursion Byte x) (sym (filled_extension ss e v)) (omega arith, (omega arith, (omega arith, (omega arith, slot)))), tt)

  ligature_spelled : (c : ℕ) (g : Ligature) → GoodLigature g → Spelled (ligature_table c g)
  ligature_spelled c g good = value_bytes_lem (g.glyph ∷ suc (length g.components) ∷ g.components) (good.glyph, (good.count, good.components))

  set_spelled : (c : ℕ) (t : LigatureSet) → GoodSet t → Near ss (set_table c t) → Spelled (set_table c t)
  set_spelled c t good near =
      subst (λ (x : List ℕ). AllByRecursion Byte x) (sym (filled_set ss c t near))
      (value_bytes_lem (set_values ss t) (good.count, offsets t.vertex (ligature_vertices t) (near_slots ss t.vertex 2 (ligature_vertices t) near)))

  ligatures_spelled : (c : ℕ) (ts : List LigatureSet) → AllByRecursion GoodSet ts → AllByRecursion (λ (t : LigatureSet). AllByRecursion Spelled (map (ligature_table c) t.ligatures)) ts
  ligatures_spelled c [] a = tt
  ligatures_spelled c (t ∷ ts) a = (
    All-map Spelled (ligature_table c) t.ligatures (All-weaker GoodLigature (λ (g : Ligature). Spelled (ligature_table c g)) (ligature_spelled c) t.ligatures a.0.ligatures),
    ligatures_spelled c ts a.1,
  )

  module _ (admits : List ℕ → Type 0) (meaning : List ℕ → Option Meant) (span : List ℕ → ℕ) (lawful : Lawful admits meaning span) where
    -- a subtable has no more sets than a coverage can have glyphs
    pub few_sets : (s : Subtable) → GoodSubtable meaning s → length s.sets ≤ 65535
    few_sets s good =
        let glyphs = listed (glyphs_of s) (lawful.listed (glyphs_of s) (lawful.sound s.covering (glyphs_of s) (length s.covering) good.means)) in
        let few = glyphs.few in
        let same = length-map s.sets (λ (t : LigatureSet). t.first) in
        omega arith

    subtable_spelled : (s : Subtable) → GoodSubtable meaning s → Near ss (subtable_table s) → Spelled (subtable_table s)
    subtable_spelled s good near =
        let q = near_subtable ss s near in
        let few = few_sets s good in
        subst (λ (x : List ℕ). AllByRecursion Byte x) (sym (filled_subtable ss s near))
        (value_bytes_lem (subtable_values ss s) (omega arith, (q.0, (omega arith, offsets s.vertex (set_vertices s) q.1))))

    order_spelled : (s : Subtable) → GoodSubtable meaning s → AllByRecursion (Near ss) (subtable_order s) → AllByRecursion Spelled (subtable_order s)
    order_spelled s good near =
        let c = s.coverage in
        let NearSet = λ (t : LigatureSet). Near ss (set_table c t) in
        let sets = all_mapped (Near ss) (set_table c) s.sets (all_front (Near ss) (set_tables s) (ligature_tables s ++ coverage_table s ∷ []) near.1) in (
          subtable_spelled s good near.0,
          All-append Spelled (set_tables s) (ligature_tables s ++ coverage_table s ∷ [])
              (All-map Spelled (set_table c) s.sets
              (All-weaker (λ (t : LigatureSet). GoodSet t × NearSet t) (λ (t : LigatureSet). Spelled (set_table c t)) (λ t x. set_spelled c t x.0 x.1) s.sets
              (all_both GoodSet NearSet s.sets good.sets sets)))
              (All-append Spelled (ligature_tables s) (coverage_table s ∷ [])
              (all_joined Spelled (λ (t : LigatureSet). map (ligature_table c) t.ligatures) s.sets (ligatures_spelled c s.sets good.sets))
              (All-from_get_or Byte s.covering 0 good.bytes, tt)),
        )

    kind_value : (l : Lookup) (b : Bool) (E P : Type 0) → eqb l.kind 7 ≡ b → cond b E ((l.kind ≡ 4) × P) → l.kind < 65536
    kind_value l true E P e k = let is = eqb-true l.kind 7 e in omega arith
    kind_value l false E P e k = let is = k.0 in omega arith

    lookup_spelled : (l : Lookup) → GoodLookup meaning l → Near ss (lookup_table l) → Spelled (lookup_table l)
    lookup_spelled l good near =
        let few = good.count in
        let kind = kind_value l (eqb l.kind 7) _ _ refl good.kind in
        let far = offsets l.vertex (heads l) (near_slots ss l.vertex 6 (heads l) near) in
        subst (λ (x : List ℕ). AllByRecursion Byte x) (sym (filled_lookup ss l near))
        (value_bytes_lem (lookup_values ss l)
        (kind, (good.flag, (omega arith, All-append Value (map (ahead ss l.vertex) (heads l)) (option_to_list l.mark) far (option_all Value l.mark good.mark)))))

    all_spelled : (l : Lookup) → GoodLookup meaning l → AllByRecursion (Near ss) (write_order l) → AllByRecursion Spelled (write_order l)
    all_spelled l good near =
        let subs = l.subtables in
        let NearOrder = λ (s : Subtable). AllByRecursion (Near ss) (subtable_order s) in
        let back = all_back (Near ss) (extensions_of subs) (flat_map subtable_order subs) near.1 in (
          lookup_spelled l good near.0,
          All-append Spelled (extensions_of subs) (flat_map subtable_order subs)
              (all_joined Spelled (λ (s : Subtable). extension_walk s.extension s.vertex) subs (all_any (λ (s : Subtable). AllByRecursion Spelled (extension_walk s.extension s.vertex)) (λ s. extension_spelled s.extension s.vertex) subs))
              (all_joined Spelled subtable_order subs
              (All-weaker (λ (s : Subtable). GoodSubtable meaning s × NearOrder s) (λ (s : Subtable). AllByRecursion Spelled (subtable_order s)) (λ s x. order_spelled s x.0 x.1) subs
              (all_both (GoodSubtable meaning) NearOrder subs good.subtables (joined_all (Near ss) subtable_order subs back)))),
        )

pub bytes_written : (admits : List ℕ → Type 0) (meaning : List ℕ → Option Meant) (span : List ℕ → ℕ) → Lawful admits meaning span
    → (l : Lookup) → GoodLookup meaning l → overflows l ≡ false → Bytes (written l)
unfolding written
bytes_written admits meaning span lawful l good none =
    let ss = starts_in l in
    let all = all_joined Byte (filled ss) (write_order l) (all_spelled ss admits meaning span lawful l good (near_all ss (write_order l) none)) in
    λ k lt. All-get_or Byte (flat_map (filled ss) (write_order l)) k 0 lt all
