-- What a split adds to a sum over the tables of a lookup, whatever each table counts for.
use Rattle.std.proofs.Common.{◌≡◌, ℕ, suc, ◌+◌, Bool, true, false, cond, List, [], ◌∷◌, ◌++◌, map, length, is_some, Some, None, Option, sym, refl, ap, ◌∙◌, subst, arith}
use Rattle.std.specs.List.{flat_map, AllByRecursion}
use Rattle.std.proofs.lemmas.List.{map-append}
use Rattle.model.specs.Forest.{Ligature, LigatureSet, Subtable}
use Rattle.model.specs.Cutting.{Entry, sets_from, entries, parts}
use Rattle.model.specs.Splitting.{Group, groups, comes_here, sets_of, new_sets, pieces, after_pieces, extended, divided, after_divided, split_all}
use Rattle.model.proofs.NumberSums.{tally, tally_append, tally_up}
use Rattle.model.proofs.NumberEntries.{itself, parts_divide, SomeLigatures}
use Rattle.model.proofs.NumberParts.{Cut-up, cut_up, own_here, own_pieces, own_once, sets_weigh, ligatures_in, sets_ligatures, from_ligatures}
use Rattle.model.proofs.PartsGroups.{groups_ligatures}
use Rattle.model.proofs.KeepSizes.{length-pieces}

-- what a table counts for, by its kind
pub record Weights : Type 0 where
  pub extension : ℕ → ℕ
  pub subtable : ℕ → ℕ
  pub coverage : ℕ → List ℕ → ℕ
  pub set : ℕ → ℕ
  pub ligature : Ligature → ℕ

abbrev pub ligature_of : Entry → Ligature
ligature_of e = e.ligature

-- each subtable has sets that have ligatures
abbrev pub SomeSets : Subtable → Type 0
SomeSets s = AllByRecursion SomeLigatures s.sets

pub ligatures_of_all : (kept : List Entry) (later : List (List Entry)) (ts : List LigatureSet) → kept ++ flat_map itself later ≡ sets_from 0 ts
    → map ligature_of kept ++ map ligature_of (flat_map itself later) ≡ ligatures_in ts
ligatures_of_all kept later ts e = sym (map-append ligature_of kept (flat_map itself later)) ∙ ap (map ligature_of) e ∙ from_ligatures 0 ts

-- pieces as they are numbered, still without extension tables
all_bare : (wrote : ℕ → List ℕ) (kept : List Entry) (fresh : ℕ) (ps : List (List Entry)) → AllByRecursion (λ (s : Subtable). is_some s.extension ≡ false) (pieces wrote kept fresh ps)
all_bare wrote kept fresh [] = tt
all_bare wrote kept fresh (p ∷ later) = (refl, all_bare wrote kept (fresh + 2 + new_sets (comes_here kept later) (groups p)) later)

none_new : (us : List Group) → new_sets (λ i. true) us ≡ 0
none_new [] = refl
none_new (u ∷ us) = let q = none_new us in omega arith

module _ (k : Weights) where
  abbrev pub of_extension : Option ℕ → ℕ
  of_extension None = 0
  of_extension (Some e) = k.extension e

  abbrev pub of_sets : List LigatureSet → ℕ
  of_sets ts = tally (λ (t : LigatureSet). k.set t.vertex) ts + tally k.ligature (ligatures_in ts)

  abbrev pub of_subtable : Subtable → ℕ
  of_subtable s = of_extension s.extension + (k.subtable s.vertex + (k.coverage s.coverage s.covering + of_sets s.sets))

  -- what the new tables of a divided subtable count for
  abbrev pub added_pieces : (ℕ → List ℕ) → List Entry → ℕ → List (List Entry) → ℕ
  added_pieces wrote kept fresh [] = 0
  added_pieces wrote kept fresh (p ∷ later) =
      k.subtable fresh + (k.coverage (fresh + 1) (wrote (fresh + 1)) + (tally_up k.set (fresh + 2) (new_sets (comes_here kept later) (groups p))
      + added_pieces wrote kept (fresh + 2 + new_sets (comes_here kept later) (groups p)) later))

  part_weighs : (own : ℕ → Bool) (fresh : ℕ) (p : List Entry)
      → of_sets (sets_of own fresh (groups p)) ≡ tally (own_here own k.set) (groups p) + tally_up k.set fresh (new_sets own (groups p)) + tally k.ligature (map ligature_of p)
  part_weighs own fresh p =
      let a = sets_weigh k.set own fresh (groups p) in
      let b : tally k.ligature (ligatures_in (sets_of own fresh (groups p))) ≡ tally k.ligature (map ligature_of p) = ap (tally k.ligature) (sets_ligatures own fresh (groups p) ∙ groups_ligatures p) in
      omega arith

  pub pieces_weigh : (wrote : ℕ → List ℕ) (kept : List Entry) (fresh : ℕ) (ps : List (List Entry))
      → tally of_subtable (pieces wrote kept fresh ps) ≡ added_pieces wrote kept fresh ps + own_pieces k.set kept ps + tally k.ligature (map ligature_of (flat_map itself ps))
  pieces_weigh wrote kept fresh [] = refl
  pieces_weigh wrote kept fresh (p ∷ later) =
      let a = part_weighs (comes_here kept later) (fresh + 2) p in
      let b = pieces_weigh wrote kept (fresh + 2 + new_sets (comes_here kept later) (groups p)) later in
      let c : tally k.ligature (map ligature_of (p ++ flat_map itself later)) ≡ tally k.ligature (map ligature_of p) + tally k.ligature (map ligature_of (flat_map itself later))
      = ap (tally k.ligature) (map-append ligature_of p (flat_map itself later)) ∙ tally_append k.ligature (map ligature_of p) (map ligature_of (flat_map itself later)) in
      omega arith

  -- extension tables in front of subtables that have none
  bare_weighs : (o : Option ℕ) → is_some o ≡ false → of_extension o ≡ 0
  bare_weighs None e = refl
  bare_weighs (Some v) e = cc

  pub extended_weigh : (fresh : ℕ) (ss : List Subtable) → AllByRecursion (λ (s : Subtable). is_some s.extension ≡ false) ss
      → tally of_subtable (extended fresh ss) ≡ tally of_subtable ss + tally_up k.extension fresh (length ss)
  extended_weigh fresh [] h = refl
  extended_weigh fresh (s ∷ ss) h = omega (arith, extended_weigh (suc fresh) ss h.1, bare_weighs s.extension h.0)

  -- the coverage that the original has afterwards
  abbrev pub kept_coverage : (ℕ → List ℕ) → Subtable → List (List Entry) → ℕ
  kept_coverage wrote s [] = k.coverage s.coverage s.covering
  kept_coverage wrote s (kept ∷ []) = k.coverage s.coverage s.covering
  kept_coverage wrote s (kept ∷ p ∷ ps) = k.coverage s.coverage (wrote s.coverage)

  abbrev pub added_divided : Bool → (ℕ → List ℕ) → ℕ → List (List Entry) → ℕ
  added_divided wrapped wrote fresh [] = 0
  added_divided wrapped wrote fresh (kept ∷ ps) = added_pieces wrote kept fresh ps + cond wrapped (tally_up k.extension (after_pieces kept fresh ps) (length ps)) 0

  wrapped_weigh : (wrapped : Bool) (wrote : ℕ → List ℕ) (kept : List Entry) (fresh : ℕ) (ps : List (List Entry))
      → tally of_subtable (cond wrapped (extended (after_pieces kept fresh ps) (pieces wrote kept fresh ps)) (pieces wrote kept fresh ps))
      ≡ tally of_subtable (pieces wrote kept fresh ps) + cond wrapped (tally_up k.extension (after_pieces kept fresh ps) (length ps)) 0
  wrapped_weigh true wrote kept fresh ps =
      extended_weigh (after_pieces kept fresh ps) (pieces wrote kept fresh ps) (all_bare wrote kept fresh ps)
      ∙ ap (λ n. tally of_subtable (pieces wrote kept fresh ps) + tally_up k.extension (after_pieces kept fresh ps) n) (length-pieces wrote kept fresh ps)
  wrapped_weigh false wrote kept fresh ps = omega arith

  parted_weigh : (wrapped : Bool) (wrote : ℕ → List ℕ) (fresh : ℕ) (s : Subtable) (kept p : List Entry) (ps : List (List Entry)) → SomeSets s → Cut-up s.sets kept (p ∷ ps)
      → tally of_subtable (divided wrapped wrote fresh s (kept ∷ p ∷ ps)) + k.coverage s.coverage s.covering
      ≡ of_subtable s + (k.coverage s.coverage (wrote s.coverage) + added_divided wrapped wrote fresh (kept ∷ p ∷ ps))
  parted_weigh wrapped wrote fresh s kept p ps h c =
      let a = part_weighs (λ i. true) 0 kept in
      let z = none_new (groups kept) in
      let b = wrapped_weigh wrapped wrote kept fresh (p ∷ ps) in
      let d = pieces_weigh wrote kept fresh (p ∷ ps) in
      let e = own_once s.sets k.set kept (p ∷ ps) h c in
      let f : tally k.ligature (map ligature_of kept) + tally k.ligature (map ligature_of (flat_map itself (p ∷ ps))) ≡ tally k.ligature (ligatures_in s.sets)
      = sym (tally_append k.ligature (map ligature_of kept) (map ligature_of (flat_map itself (p ∷ ps)))) ∙ ap (tally k.ligature) (ligatures_of_all kept (p ∷ ps) s.sets c.whole) in
      let g : tally_up k.set 0 (new_sets (λ i. true) (groups kept)) ≡ 0 = ap (tally_up k.set 0) z in
      omega arith

  divided_weigh : (wrapped : Bool) (wrote : ℕ → List ℕ) (fresh : ℕ) (s : Subtable) (kept : List Entry) (later : List (List Entry)) → SomeSets s → Cut-up s.sets kept later
      → tally of_subtable (divided wrapped wrote fresh s (kept ∷ later)) + k.coverage s.coverage s.covering
      ≡ of_subtable s + (kept_coverage wrote s (kept ∷ later) + added_divided wrapped wrote fresh (kept ∷ later))
  divided_weigh true wrote fresh s kept [] h c = omega arith
  divided_weigh false wrote fresh s kept [] h c = omega arith
  divided_weigh true wrote fresh s kept (p ∷ ps) h c = parted_weigh true wrote fresh s kept p ps h c
  divided_weigh false wrote fresh s kept (p ∷ ps) h c = parted_weigh false wrote fresh s kept p ps h c

-- the parts of a subtable's entries are cut up properly
pub record Cuts-up (s : Subtable) (ps : List (List Entry)) : Type 0 where
  pub kept : List Entry
  pub later : List (List Entry)
  pub are : ps ≡ kept ∷ later
  pub so : Cut-up s.sets kept later

pub parts_cut_up : (ceiling : ℕ) (s : Subtable) → Cuts-up s (parts ceiling (entries s))
parts_cut_up ceiling s =
    let d = parts_divide ceiling (entries s) in
    record { kept = d.kept; later = d.later; are = d.are; so = cut_up s.sets d.kept d.later d.some d.whole }

module _ (k : Weights) (ceiling : ℕ) (wrapped : Bool) (wrote : ℕ → List ℕ) where
  abbrev pub added_all : ℕ → List Subtable → ℕ
  added_all fresh [] = 0
  added_all fresh (s ∷ ss) = added_divided k wrapped wrote fresh (parts ceiling (entries s)) + added_all (after_divided wrapped fresh (parts ceiling (entries s))) ss

  abbrev pub coverages_before : List Subtable → ℕ
  coverages_before ss = tally (λ (s : Subtable). k.coverage s.coverage s.covering) ss

  abbrev pub coverages_after : List Subtable → ℕ
  coverages_after ss = tally (λ (s : Subtable). kept_coverage k wrote s (parts ceiling (entries s))) ss

  one_weighs : (fresh : ℕ) (s : Subtable) → SomeSets s
      → tally (of_subtable k) (divided wrapped wrote fresh s (parts ceiling (entries s))) + k.coverage s.coverage s.covering
      ≡ of_subtable k s + (kept_coverage k wrote s (parts ceiling (entries s)) + added_divided k wrapped wrote fresh (parts ceiling (entries s)))
  one_weighs fresh s h =
      let d = parts_cut_up ceiling s in
      subst (λ (ps : List (List Entry)). tally (of_subtable k) (divided wrapped wrote fresh s ps) + k.coverage s.coverage s.covering ≡ of_subtable k s + (kept_coverage k wrote s ps + added_divided k wrapped wrote fresh ps))
      (sym d.are) (divided_weigh k wrapped wrote fresh s d.kept d.later h d.so)

  pub split_weighs : (fresh : ℕ) (ss : List Subtable) → AllByRecursion SomeSets ss
      → tally (of_subtable k) (split_all ceiling wrapped wrote fresh ss) + coverages_before ss ≡ tally (of_subtable k) ss + (coverages_after ss + added_all fresh ss)
  split_weighs fresh [] h = refl
  split_weighs fresh (s ∷ ss) h =
      let a = one_weighs fresh s h.0 in
      let b = split_weighs (after_divided wrapped fresh (parts ceiling (entries s))) ss h.1 in
      let c = tally_append (of_subtable k) (divided wrapped wrote fresh s (parts ceiling (entries s))) (split_all ceiling wrapped wrote (after_divided wrapped fresh (parts ceiling (entries s))) ss) in
      omega arith
