-- The size of a subtable is the number of bytes of its tables, its coverage apart.
use Rattle.std.proofs.Common.{◌≡◌, ℕ, suc, ◌+◌, ◌*◌, List, [], ◌∷◌, map, length, sum_by, sym, refl, ap, ◌∙◌, arith}
use lib.ListN.{length-replicate}
use Rattle.std.specs.List.{flat_map}
use Rattle.std.proofs.lemmas.List.Sums.{sum_by-append, sum_by-cons}
use Rattle.data_bytes.proofs.ValueLists.{length-value_bytes}
use Rattle.model.specs.Forest.{Ligature, LigatureSet, Subtable}
use Rattle.model.specs.Tables.{zeros, ligature_table, set_table, subtable_table, set_walk}
use Rattle.model.specs.Cutting.{entries_from, sets_from, table_length, entry_size, touched, run_size, subtable_size}
use Rattle.model.specs.CuttingLaws.{groups_from, FilledSets, bytes_of, Sized}
use Rattle.model.proofs.PartsGroups.{length-groups, groups_sets}

pub length_zeros : (n : ℕ) → length (zeros n) ≡ n
length_zeros n = length-replicate n 0

pub bytes_ligature : (c : ℕ) (g : Ligature) → table_length g ≡ bytes_of (ligature_table c g)
bytes_ligature c g = let n = length-value_bytes (g.glyph ∷ suc (length g.components) ∷ g.components) in omega arith

pub bytes_set : (c : ℕ) (t : LigatureSet) → bytes_of (set_table c t) ≡ 2 + 2 * length t.ligatures
bytes_set c t =
    let n = length-value_bytes (length t.ligatures ∷ zeros (length t.ligatures)) in
    let z = length_zeros (length t.ligatures) in
    omega arith

pub bytes_subtable : (s : Subtable) → bytes_of (subtable_table s) ≡ 6 + 2 * length s.sets
bytes_subtable s =
    let n = length-value_bytes (1 ∷ 0 ∷ length s.sets ∷ zeros (length s.sets)) in
    let z = length_zeros (length s.sets) in
    omega arith

-- ligatures with their slots, sets with theirs
pub bytes_ligatures : (c i j : ℕ) (t : LigatureSet) (gs : List Ligature) → sum_by entry_size (entries_from i j t gs) ≡ 2 * length gs + sum_by bytes_of (map (ligature_table c) gs)
bytes_ligatures c i j t [] = refl
bytes_ligatures c i j t (g ∷ gs) =
    let h = bytes_ligatures c i (suc j) t gs in
    let b = bytes_ligature c g in
    let e = sum_by-cons entry_size (record { set = i; place = j; owner = t.vertex; first = t.first; ligature = g }) (entries_from i (suc j) t gs) in
    let l = sum_by-cons bytes_of (ligature_table c g) (map (ligature_table c) gs) in
    omega arith

bytes_sets : (c i : ℕ) (ts : List LigatureSet) → sum_by bytes_of (flat_map (set_walk c) ts) ≡ 2 * length ts + sum_by entry_size (sets_from i ts)
bytes_sets c i [] = refl
bytes_sets c i (t ∷ ts) =
    let h = bytes_sets c (suc i) ts in
    let b = bytes_set c t in
    let l = bytes_ligatures c i 0 t t.ligatures in
    let w = sum_by-cons bytes_of (set_table c t) (map (ligature_table c) t.ligatures) in
    let x = sum_by-append bytes_of (set_walk c t) (flat_map (set_walk c) ts) in
    let y = sum_by-append entry_size (entries_from i 0 t t.ligatures) (sets_from (suc i) ts) in
    omega arith

length-groups_from : (i : ℕ) (ts : List LigatureSet) → length (groups_from i ts) ≡ length ts
length-groups_from i [] = refl
length-groups_from i (t ∷ ts) = ap suc (length-groups_from (suc i) ts)

pub touched_sets : (i : ℕ) (ts : List LigatureSet) → FilledSets ts → touched (sets_from i ts) ≡ length ts
touched_sets i ts f = sym (length-groups (sets_from i ts)) ∙ ap length (groups_sets i ts f) ∙ length-groups_from i ts

pub subtable_size_lem : (s : Subtable) → FilledSets s.sets → subtable_size s ≡ sum_by bytes_of (subtable_table s ∷ flat_map (set_walk s.coverage) s.sets)
unfolding run_size
subtable_size_lem s f =
    let t = touched_sets 0 s.sets f in
    let b = bytes_subtable s in
    let h = bytes_sets s.coverage 0 s.sets in
    let c = sum_by-cons bytes_of (subtable_table s) (flat_map (set_walk s.coverage) s.sets) in
    omega arith

pub sized : Sized
sized = record { ligature = bytes_ligature; subtable = subtable_size_lem }
