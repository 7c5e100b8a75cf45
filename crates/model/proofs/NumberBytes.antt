-- The bytes that a split takes: by the rule, table by table, and no fewer than the tables need.
use Rattle.std.proofs.Common.{◌≡◌, ℕ, suc, ◌+◌, ◌*◌, ◌<◌, ◌≤◌, Bool, true, false, cond, List, [], ◌∷◌, ◌++◌, length, sum_by, filter, sym, refl, ap, ◌∙◌, subst, arith}
use Rattle.std.specs.List.{AllByRecursion}
use Rattle.model.specs.Forest.{LigatureSet, Subtable}
use Rattle.model.specs.Cutting.{Entry, entries, parts}
use Rattle.model.specs.Splitting.{Group, groups, has, comes_here, sets_of, new_sets, pieces, after_pieces, behind, extended, remains, divided, after_divided, split_all, Part, part, coverage_room, new_set_parts, piece_parts, extension_parts, divided_parts, all_parts}
use Rattle.model.specs.NumberingLaws.{piece_bytes, coverage_bytes, divided_bytes, family_bytes, Short}
use Rattle.model.proofs.Lists.{all_front, all_back}
use Rattle.model.proofs.NumberSums.{tally, tally_sum, tally_append, tally_ones, tally_up, tally_up_each}
use Rattle.model.proofs.NumberEntries.{tally_sets}
use Rattle.model.proofs.NumberGroups.{groups_weigh}
use Rattle.model.proofs.NumberParts.{Proper, Cut-up}
use Rattle.model.proofs.NumberWeights.{SomeSets, of_subtable, added_pieces, added_divided, kept_coverage, parts_cut_up, added_all, coverages_before, coverages_after, split_weighs}
use Rattle.model.proofs.NumberWalks.{byte_weights}
use Rattle.model.proofs.NumberTaken.{after_divided_lem}
use Rattle.model.proofs.NumberOrder.{OldSets, OldPart, old_parts, old_groups, new_only, is_new, new_sets_lem, made}
use Rattle.model.proofs.PartsGroups.{groups_filled}
use Rattle.model.proofs.KeepSizes.{length_sets_of}

abbrev pub reserved : Part → ℕ
reserved p = p.reserved

abbrev set_room : LigatureSet → ℕ
set_room t = 2 + 2 * length t.ligatures

new_room : (own : ℕ → Bool) (fresh : ℕ) (us : List Group) → tally set_room (new_only own fresh us) ≡ tally reserved (new_set_parts own fresh us)
new_room own fresh [] = refl
new_room own fresh (t ∷ us) = grind (arith, new_room own fresh us, new_room own (suc fresh) us)

-- THE RULE
module _ (first : ℕ) (wrapped : Bool) (wrote : ℕ → List ℕ) (c : ℕ) (kept : List Entry) where
  pieces-take : (fresh : ℕ) (ps : List (List Entry)) → first ≤ fresh → AllByRecursion (OldPart first) ps
      → tally reserved (piece_parts c kept fresh ps) + cond wrapped 8 0 * length ps ≡ tally (piece_bytes first wrapped c) (pieces wrote kept fresh ps) + tally coverage_bytes (pieces wrote kept fresh ps)
  pieces-take fresh [] l h = omega arith
  pieces-take fresh (p ∷ later) l h =
      let own = comes_here kept later in
      let next = fresh + 2 + new_sets (comes_here kept later) (groups p) in
      let a : tally reserved (piece_parts c kept next later) + cond wrapped 8 0 * length later ≡ tally (piece_bytes first wrapped c) (pieces wrote kept next later) + tally coverage_bytes (pieces wrote kept next later)
      = pieces-take next later (omega arith) h.1 in
      let b : tally reserved (new_set_parts own (fresh + 2) (groups p) ++ piece_parts c kept next later) ≡ tally reserved (new_set_parts own (fresh + 2) (groups p)) + tally reserved (piece_parts c kept next later)
      = tally_append reserved (new_set_parts own (fresh + 2) (groups p)) (piece_parts c kept next later) in
      let d : tally set_room (new_only own (fresh + 2) (groups p)) ≡ tally reserved (new_set_parts own (fresh + 2) (groups p)) = new_room own (fresh + 2) (groups p) in
      let e : sum_by set_room (filter (is_new first) (sets_of own (fresh + 2) (groups p))) ≡ tally set_room (new_only own (fresh + 2) (groups p))
      = tally_sum set_room (filter (is_new first) (sets_of own (fresh + 2) (groups p))) ∙ ap (tally set_room) (new_sets_lem first own (fresh + 2) (groups p) (omega arith) (old_groups first p h.0)) in
      let f : length (sets_of own (fresh + 2) (groups p)) ≡ length (groups p) = length_sets_of own (fresh + 2) (groups p) in
      omega arith

extensions_take : (fresh : ℕ) (ps : List (List Entry)) → tally reserved (extension_parts fresh ps) ≡ 8 * length ps
extensions_take fresh [] = refl
extensions_take fresh (p ∷ ps) = let a = extensions_take (suc fresh) ps in omega arith

pub extended_tally : (f : Subtable → ℕ) → ((e : ℕ) (s : Subtable) → f (behind e s) ≡ f s) → (fresh : ℕ) (ss : List Subtable) → tally f (extended fresh ss) ≡ tally f ss
extended_tally f h fresh [] = refl
extended_tally f h fresh (s ∷ ss) =
    let a = h fresh s in
    let b = extended_tally f h (suc fresh) ss in
    omega arith

module _ (first : ℕ) (wrote : ℕ → List ℕ) (fresh : ℕ) (s : Subtable) where
  parted_take : (wrapped : Bool) (kept p : List Entry) (ps : List (List Entry)) → first ≤ fresh → AllByRecursion (OldPart first) (p ∷ ps)
      → tally reserved (divided_parts wrapped fresh s (kept ∷ p ∷ ps)) ≡ divided_bytes first wrapped s (divided wrapped wrote fresh s (kept ∷ p ∷ ps))
  parted_take true kept p ps l h =
      let c = length s.sets in
      let next = after_pieces kept fresh (p ∷ ps) in
      let many = pieces wrote kept fresh (p ∷ ps) in
      let back = part s.coverage (coverage_room (length (groups kept))) ∷ extension_parts next (p ∷ ps) in
      let a : tally reserved (piece_parts c kept fresh (p ∷ ps)) + 8 * length (p ∷ ps) ≡ tally (piece_bytes first true c) many + tally coverage_bytes many = pieces-take first true wrote c kept fresh (p ∷ ps) l h in
      let b : tally reserved (piece_parts c kept fresh (p ∷ ps) ++ back) ≡ tally reserved (piece_parts c kept fresh (p ∷ ps)) + tally reserved back = tally_append reserved (piece_parts c kept fresh (p ∷ ps)) back in
      let d : tally reserved (extension_parts next (p ∷ ps)) ≡ 8 * length (p ∷ ps) = extensions_take next (p ∷ ps) in
      let e : tally (piece_bytes first true c) (extended next many) ≡ tally (piece_bytes first true c) many = extended_tally (piece_bytes first true c) (λ v x. refl) next many in
      let f : tally coverage_bytes (extended next many) ≡ tally coverage_bytes many = extended_tally coverage_bytes (λ v x. refl) next many in
      let g : length (sets_of (λ i. true) 0 (groups kept)) ≡ length (groups kept) = length_sets_of (λ i. true) 0 (groups kept) in
      let i : sum_by (piece_bytes first true c) (extended next many) ≡ tally (piece_bytes first true c) (extended next many) = tally_sum (piece_bytes first true c) (extended next many) in
      let j : sum_by coverage_bytes (remains wrote s kept ∷ extended next many) ≡ coverage_bytes (remains wrote s kept) + tally coverage_bytes (extended next many) = tally_sum coverage_bytes (remains wrote s kept ∷ extended next many) in
      omega arith
  parted_take false kept p ps l h =
      let c = length s.sets in
      let many = pieces wrote kept fresh (p ∷ ps) in
      let back = part s.coverage (coverage_room (length (groups kept))) ∷ [] in
      let a : tally reserved (piece_parts c kept fresh (p ∷ ps)) + 0 * length (p ∷ ps) ≡ tally (piece_bytes first false c) many + tally coverage_bytes many = pieces-take first false wrote c kept fresh (p ∷ ps) l h in
      let b : tally reserved (piece_parts c kept fresh (p ∷ ps) ++ back) ≡ tally reserved (piece_parts c kept fresh (p ∷ ps)) + tally reserved back = tally_append reserved (piece_parts c kept fresh (p ∷ ps)) back in
      let g : length (sets_of (λ i. true) 0 (groups kept)) ≡ length (groups kept) = length_sets_of (λ i. true) 0 (groups kept) in
      let i : sum_by (piece_bytes first false c) many ≡ tally (piece_bytes first false c) many = tally_sum (piece_bytes first false c) many in
      let j : sum_by coverage_bytes (remains wrote s kept ∷ many) ≡ coverage_bytes (remains wrote s kept) + tally coverage_bytes many = tally_sum coverage_bytes (remains wrote s kept ∷ many) in
      omega arith

  divided-take : (wrapped : Bool) (kept : List Entry) (later : List (List Entry)) → first ≤ fresh → AllByRecursion (OldPart first) later
      → tally reserved (divided_parts wrapped fresh s (kept ∷ later)) ≡ divided_bytes first wrapped s (divided wrapped wrote fresh s (kept ∷ later))
  divided-take wrapped kept [] l h = refl
  divided-take wrapped kept (p ∷ ps) l h = parted_take wrapped kept p ps l h

  pub one_takes : (ceiling : ℕ) (wrapped : Bool) → first ≤ fresh → OldSets first s
      → tally reserved (divided_parts wrapped fresh s (parts ceiling (entries s))) ≡ divided_bytes first wrapped s (divided wrapped wrote fresh s (parts ceiling (entries s)))
  one_takes ceiling wrapped l o =
      let d = parts_cut_up ceiling s in
      subst (λ (ps : List (List Entry)). tally reserved (divided_parts wrapped fresh s ps) ≡ divided_bytes first wrapped s (divided wrapped wrote fresh s ps)) (sym d.are)
      (divided-take wrapped d.kept d.later l (old_parts first s d.kept d.later o d.so.whole))

-- ROOM
-- no more groups than sets
sets_at_most : (f : ℕ → Bool) (i : ℕ) (ts : List LigatureSet) → tally_sets (λ k t. cond (f k) 1 0) i ts ≤ length ts
sets_at_most f i [] = omega arith
sets_at_most f i (t ∷ ts) =
    let a = sets_at_most f (suc i) ts in
    let b = at_most (f i) in
    omega arith
  where
    at_most : (x : Bool) → cond {A = ℕ} x 1 0 ≤ 1
    at_most true = omega arith
    at_most false = omega arith

pub groups_at_most : (ts : List LigatureSet) (p : List Entry) → Proper ts p → length (groups p) ≤ length ts
groups_at_most ts p h =
    let a = groups_weigh ts (λ i v. 1) p h.run h.owned in
    let b : tally (λ (u : Group). 1) (groups p) ≡ length (groups p) = tally_ones (groups p) in
    let c = sets_at_most (λ k. has k p) 0 ts in
    omega arith

-- a group has ligatures
abbrev SomeGroup : Group → Type 0
SomeGroup u = 0 < length u.ligatures

new_need : (own : ℕ → Bool) (fresh : ℕ) (us : List Group) → AllByRecursion SomeGroup us → tally_up (λ v. 4) fresh (new_sets own us) ≤ tally reserved (new_set_parts own fresh us)
new_need own fresh [] h = omega arith
new_need own fresh (t ∷ us) h =
    let each = tally_up_each 4 in
    grind (arith, each fresh (new_sets own (t ∷ us)), each fresh (new_sets own us), each (suc fresh) (new_sets own us), h.0, new_need own fresh us h.1, new_need own (suc fresh) us h.1)

pieces_need : (wrote : ℕ → List ℕ) (c : ℕ) (kept : List Entry) (fresh : ℕ) (ps : List (List Entry)) → 0 < c → AllByRecursion Short (pieces wrote kept fresh ps)
    → added_pieces byte_weights wrote kept fresh ps ≤ tally reserved (piece_parts c kept fresh ps)
pieces_need wrote c kept fresh [] l h = omega arith
pieces_need wrote c kept fresh (p ∷ later) l h =
    let own = comes_here kept later in
    let next = fresh + 2 + new_sets (comes_here kept later) (groups p) in
    let a : added_pieces byte_weights wrote kept next later ≤ tally reserved (piece_parts c kept next later) = pieces_need wrote c kept next later l h.1 in
    let b : tally reserved (new_set_parts own (fresh + 2) (groups p) ++ piece_parts c kept next later) ≡ tally reserved (new_set_parts own (fresh + 2) (groups p)) + tally reserved (piece_parts c kept next later)
    = tally_append reserved (new_set_parts own (fresh + 2) (groups p)) (piece_parts c kept next later) in
    let d : tally_up (λ v. 4) (fresh + 2) (new_sets own (groups p)) ≤ tally reserved (new_set_parts own (fresh + 2) (groups p)) = new_need own (fresh + 2) (groups p) (groups_filled p) in
    let e : length (sets_of own (fresh + 2) (groups p)) ≡ length (groups p) = length_sets_of own (fresh + 2) (groups p) in
    let f : length (wrote (fresh + 1)) ≤ 4 + 6 * length (sets_of own (fresh + 2) (groups p)) = h.0 in
    omega arith

pub short_bare : (fresh : ℕ) (ss : List Subtable) → AllByRecursion Short (extended fresh ss) → AllByRecursion Short ss
short_bare fresh [] h = tt
short_bare fresh (s ∷ ss) h = (h.0, short_bare (suc fresh) ss h.1)

some_sets : (ts : List LigatureSet) (p : List Entry) → Proper ts p → 0 < length p → 0 < length ts
some_sets ts [] h l = absurd (omega arith)
some_sets [] (e ∷ es) h l =
    let a : ◌≡◌ {A = ℕ} 0 1 = h.owned.0.tells (λ i v. 1) in
    absurd (omega arith)
some_sets (t ∷ ts) (e ∷ es) h l = omega arith

module _ (wrote : ℕ → List ℕ) (fresh : ℕ) (s : Subtable) where
  parted_need : (wrapped : Bool) (kept p : List Entry) (ps : List (List Entry)) → Cut-up s.sets kept (p ∷ ps) → AllByRecursion Short (divided wrapped wrote fresh s (kept ∷ p ∷ ps))
      → length (wrote s.coverage) + added_divided byte_weights wrapped wrote fresh (kept ∷ p ∷ ps) ≤ tally reserved (divided_parts wrapped fresh s (kept ∷ p ∷ ps))
  parted_need true kept p ps u h =
      let c = length s.sets in
      let next = after_pieces kept fresh (p ∷ ps) in
      let many = pieces wrote kept fresh (p ∷ ps) in
      let back = part s.coverage (coverage_room (length (groups kept))) ∷ extension_parts next (p ∷ ps) in
      let some : 0 < c = some_sets s.sets p u.others.0 u.some.0 in
      let a : added_pieces byte_weights wrote kept fresh (p ∷ ps) ≤ tally reserved (piece_parts c kept fresh (p ∷ ps)) = pieces_need wrote c kept fresh (p ∷ ps) some (short_bare next many h.1) in
      let b : tally reserved (piece_parts c kept fresh (p ∷ ps) ++ back) ≡ tally reserved (piece_parts c kept fresh (p ∷ ps)) + tally reserved back = tally_append reserved (piece_parts c kept fresh (p ∷ ps)) back in
      let d : tally reserved (extension_parts next (p ∷ ps)) ≡ 8 * length (p ∷ ps) = extensions_take next (p ∷ ps) in
      let e : tally_up (λ v. 8) next (length (p ∷ ps)) ≡ 8 * length (p ∷ ps) = tally_up_each 8 next (length (p ∷ ps)) in
      let f : length (sets_of (λ i. true) 0 (groups kept)) ≡ length (groups kept) = length_sets_of (λ i. true) 0 (groups kept) in
      let g : length (wrote s.coverage) ≤ 4 + 6 * length (sets_of (λ i. true) 0 (groups kept)) = h.0 in
      omega arith
  parted_need false kept p ps u h =
      let c = length s.sets in
      let back = part s.coverage (coverage_room (length (groups kept))) ∷ [] in
      let some : 0 < c = some_sets s.sets p u.others.0 u.some.0 in
      let a : added_pieces byte_weights wrote kept fresh (p ∷ ps) ≤ tally reserved (piece_parts c kept fresh (p ∷ ps)) = pieces_need wrote c kept fresh (p ∷ ps) some h.1 in
      let b : tally reserved (piece_parts c kept fresh (p ∷ ps) ++ back) ≡ tally reserved (piece_parts c kept fresh (p ∷ ps)) + tally reserved back = tally_append reserved (piece_parts c kept fresh (p ∷ ps)) back in
      let f : length (sets_of (λ i. true) 0 (groups kept)) ≡ length (groups kept) = length_sets_of (λ i. true) 0 (groups kept) in
      let g : length (wrote s.coverage) ≤ 4 + 6 * length (sets_of (λ i. true) 0 (groups kept)) = h.0 in
      omega arith

  divided_need : (wrapped : Bool) (kept : List Entry) (later : List (List Entry)) → Cut-up s.sets kept later → AllByRecursion Short (divided wrapped wrote fresh s (kept ∷ later))
      → kept_coverage byte_weights wrote s (kept ∷ later) + added_divided byte_weights wrapped wrote fresh (kept ∷ later) ≤ length s.covering + tally reserved (divided_parts wrapped fresh s (kept ∷ later))
  divided_need true kept [] u h = omega arith
  divided_need false kept [] u h = omega arith
  divided_need wrapped kept (p ∷ ps) u h = let a = parted_need wrapped kept p ps u h in omega arith

  one_needs : (ceiling : ℕ) (wrapped : Bool) → AllByRecursion Short (divided wrapped wrote fresh s (parts ceiling (entries s)))
      → kept_coverage byte_weights wrote s (parts ceiling (entries s)) + added_divided byte_weights wrapped wrote fresh (parts ceiling (entries s))
      ≤ length s.covering + tally reserved (divided_parts wrapped fresh s (parts ceiling (entries s)))
  one_needs ceiling wrapped =
      let d = parts_cut_up ceiling s in
      subst
      (λ (ps : List (List Entry)).
      AllByRecursion Short (divided wrapped wrote fresh s ps) → kept_coverage byte_weights wrote s ps + added_divided byte_weights wrapped wrote fresh ps ≤ length s.covering + tally reserved (divided_parts wrapped fresh s ps))
      (sym d.are) (divided_need wrapped d.kept d.later d.so)

module _ (ceiling : ℕ) (wrapped : Bool) (wrote : ℕ → List ℕ) where
  -- the bill by the rule
  pub all_take : (first fresh : ℕ) (ss : List Subtable) → first ≤ fresh → AllByRecursion SomeSets ss → AllByRecursion (OldSets first) ss
      → tally reserved (all_parts ceiling wrapped fresh ss) ≡ tally (family_bytes first wrapped) (made ceiling wrapped wrote fresh ss)
  all_take first fresh [] l h o = refl
  all_take first fresh (s ∷ ss) l h o =
      let next = after_divided wrapped fresh (parts ceiling (entries s)) in
      let up = after_divided_lem ceiling wrapped fresh s h.0 in
      let a : tally reserved (divided_parts wrapped fresh s (parts ceiling (entries s))) ≡ divided_bytes first wrapped s (divided wrapped wrote fresh s (parts ceiling (entries s))) = one_takes first wrote fresh s ceiling wrapped l o.0 in
      let b : tally reserved (all_parts ceiling wrapped next ss) ≡ tally (family_bytes first wrapped) (made ceiling wrapped wrote next ss) = all_take first next ss (omega arith) h.1 o.1 in
      let c : tally reserved (divided_parts wrapped fresh s (parts ceiling (entries s)) ++ all_parts ceiling wrapped next ss) ≡ tally reserved (divided_parts wrapped fresh s (parts ceiling (entries s))) + tally reserved (all_parts ceiling wrapped next ss)
      = tally_append reserved (divided_parts wrapped fresh s (parts ceiling (entries s))) (all_parts ceiling wrapped next ss) in
      omega arith

  all_need : (fresh : ℕ) (ss : List Subtable) → AllByRecursion Short (split_all ceiling wrapped wrote fresh ss)
      → coverages_after byte_weights ceiling wrapped wrote ss + added_all byte_weights ceiling wrapped wrote fresh ss ≤ coverages_before byte_weights ceiling wrapped wrote ss + tally reserved (all_parts ceiling wrapped fresh ss)
  all_need fresh [] h = omega arith
  all_need fresh (s ∷ ss) h =
      let here = divided wrapped wrote fresh s (parts ceiling (entries s)) in
      let next = after_divided wrapped fresh (parts ceiling (entries s)) in
      let rest = split_all ceiling wrapped wrote next ss in
      let a = one_needs wrote fresh s ceiling wrapped (all_front Short here rest h) in
      let b : coverages_after byte_weights ceiling wrapped wrote ss + added_all byte_weights ceiling wrapped wrote next ss ≤ coverages_before byte_weights ceiling wrapped wrote ss + tally reserved (all_parts ceiling wrapped next ss) = all_need next ss (all_back Short here rest h) in
      let c : tally reserved (divided_parts wrapped fresh s (parts ceiling (entries s)) ++ all_parts ceiling wrapped next ss) ≡ tally reserved (divided_parts wrapped fresh s (parts ceiling (entries s))) + tally reserved (all_parts ceiling wrapped next ss)
      = tally_append reserved (divided_parts wrapped fresh s (parts ceiling (entries s))) (all_parts ceiling wrapped next ss) in
      omega arith

  -- the tables afterwards need no more bytes than before and what is taken
  pub split_fits : (fresh : ℕ) (ss : List Subtable) → AllByRecursion SomeSets ss → AllByRecursion Short (split_all ceiling wrapped wrote fresh ss)
      → tally (of_subtable byte_weights) (split_all ceiling wrapped wrote fresh ss) ≤ tally (of_subtable byte_weights) ss + tally reserved (all_parts ceiling wrapped fresh ss)
  split_fits fresh ss s h =
      let a = split_weighs byte_weights ceiling wrapped wrote fresh ss s in
      let b = all_need fresh ss h in
      omega arith
