-- The numbers of new vertices in the order of the numbering rule; families of subtables.
use Rattle.std.proofs.Common.{◌≡◌, ℕ, suc, ◌+◌, ◌*◌, ◌<◌, ◌≤◌, Bool, true, false, cond, eqb, leb, List, [], ◌∷◌, ◌++◌, map, length, drop, filter, sym, refl, ap, ◌∙◌, subst, ⊎_elim, arith}
use Rattle.std.specs.Option.{option_to_list}
use Rattle.std.specs.List.{flat_map, AllByRecursion}
use Rattle.std.proofs.lemmas.List.{append-nil, take_at, drop_at}
use Rattle.std.proofs.ByRecursion.{All-append}
use Rattle.std.proofs.lemmas.Bool.{cases_Bool, cond-true, cond-false, cond_both}
use Rattle.std.proofs.lemmas.Bool.Decides.{nat_tests}
use Rattle.model.specs.Forest.{Ligature, LigatureSet, Subtable}
use Rattle.model.specs.Cutting.{Entry, entries_from, sets_from, entries, parts, cuts_before, cuts}
use Rattle.model.specs.Splitting.{Group, alone, with_first, join_group, groups, comes_here, sets_of, new_sets, pieces, after_pieces, extended, divided, after_divided, split_all, cut_vertices}
use Rattle.model.specs.NumberingLaws.{up_from, Family, families, piece_vertices, family_vertices}
use Rattle.model.proofs.Lists.{all_front, all_back}
use Rattle.model.proofs.NumberSums.{tally, tally_append, up_from_more}
use Rattle.model.proofs.NumberEntries.{itself}
use Rattle.model.proofs.NumberParts.{new_count, after_pieces_lem}
use Rattle.model.proofs.NumberWeights.{SomeSets, parts_cut_up}
use Rattle.model.proofs.NumberTaken.{numbered, after_divided_lem}
use Rattle.model.proofs.KeepParts.{cuts_of_full}
use Rattle.model.proofs.KeepSizes.{length-pieces, length_extended}

-- OLD VERTICES are below the first free one
abbrev pub OldSets : ℕ → Subtable → Type 0
OldSets first s = AllByRecursion (λ (t : LigatureSet). t.vertex < first) s.sets

abbrev pub OldPart : ℕ → List Entry → Type 0
OldPart first p = AllByRecursion (λ (e : Entry). e.owner < first) p

abbrev pub OldGroups : ℕ → List Group → Type 0
OldGroups first us = AllByRecursion (λ (u : Group). u.owner < first) us

old_set : (first i j : ℕ) (t : LigatureSet) (gs : List Ligature) → t.vertex < first → OldPart first (entries_from i j t gs)
old_set first i j t [] h = tt
old_set first i j t (g ∷ gs) h = (h, old_set first i (suc j) t gs h)

old_entries : (first i : ℕ) (ts : List LigatureSet) → AllByRecursion (λ (t : LigatureSet). t.vertex < first) ts → OldPart first (sets_from i ts)
old_entries first i [] h = tt
old_entries first i (t ∷ ts) h = All-append (λ (e : Entry). e.owner < first) (entries_from i 0 t t.ligatures) (sets_from (suc i) ts) (old_set first i 0 t t.ligatures h.0) (old_entries first (suc i) ts h.1)

old_all : (first : ℕ) (ps : List (List Entry)) → OldPart first (flat_map itself ps) → AllByRecursion (OldPart first) ps
old_all first [] h = tt
old_all first (p ∷ ps) h = (all_front (λ (e : Entry). e.owner < first) p (flat_map itself ps) h, old_all first ps (all_back (λ (e : Entry). e.owner < first) p (flat_map itself ps) h))

pub old_parts : (first : ℕ) (s : Subtable) (kept : List Entry) (later : List (List Entry)) → OldSets first s → kept ++ flat_map itself later ≡ entries s → AllByRecursion (OldPart first) later
old_parts first s kept later h e =
    old_all first later (all_back (λ (e : Entry). e.owner < first) kept (flat_map itself later) (subst (OldPart first) (sym e) (old_entries first 0 s.sets h)))

old_join : (first : ℕ) (e : Entry) (us : List Group) → e.owner < first → OldGroups first us → OldGroups first (join_group e us)
old_join first e [] h k = (h, tt)
old_join first e (u ∷ us) h k =
    cond_both (eqb e.set u.set) (with_first e.ligature u ∷ us) (alone e ∷ u ∷ us) (OldGroups first) (λ q. (k.0, k.1)) (λ q. (h, (k.0, k.1)))

pub old_groups : (first : ℕ) (p : List Entry) → OldPart first p → OldGroups first (groups p)
old_groups first [] h = tt
old_groups first (e ∷ es) h = old_join first e (groups es) h.0 (old_groups first es h.1)

-- NEW SETS of a part, alone
abbrev pub new_set : ℕ → Group → LigatureSet
new_set v t = record { vertex = v; first = t.first; ligatures = t.ligatures }

abbrev pub new_only : (ℕ → Bool) → ℕ → List Group → List LigatureSet
new_only own fresh [] = []
new_only own fresh (t ∷ us) = cond (own t.set) (new_only own fresh us) (new_set fresh t ∷ new_only own (suc fresh) us)

abbrev pub is_new : ℕ → LigatureSet → Bool
is_new first t = leb first t.vertex

pub new_sets_lem : (first : ℕ) (own : ℕ → Bool) (fresh : ℕ) (us : List Group) → first ≤ fresh → OldGroups first us → filter (is_new first) (sets_of own fresh us) ≡ new_only own fresh us
new_sets_lem first own fresh [] l h = refl
new_sets_lem first own fresh (t ∷ us) l h = grind (arith, nat_tests, new_sets_lem first own fresh us l h.1, new_sets_lem first own (suc fresh) us (omega arith) h.1)

abbrev vertex_in : LigatureSet → ℕ
vertex_in t = t.vertex

pub new_numbers : (own : ℕ → Bool) (fresh : ℕ) (us : List Group) → map (λ (t : LigatureSet). t.vertex) (new_only own fresh us) ≡ up_from fresh (new_sets own us)
new_numbers own fresh [] = refl
new_numbers own fresh (t ∷ us) =
    ⊎_elim
    (λ (e : own t.set ≡ true).
    let z : 0 + new_sets own us ≡ new_sets own us = omega arith in
    ap (map vertex_in) (cond-true (own t.set) (new_only own fresh us) (new_set fresh t ∷ new_only own (suc fresh) us) e)
    ∙ new_numbers own fresh us
    ∙ sym (ap (λ n. up_from fresh (n + new_sets own us)) (cond-true (own t.set) 0 1 e) ∙ ap (up_from fresh) z))
    (λ (e : own t.set ≡ false).
    let z : 1 + new_sets own us ≡ suc (new_sets own us) = omega arith in
    ap (map vertex_in) (cond-false (own t.set) (new_only own fresh us) (new_set fresh t ∷ new_only own (suc fresh) us) e)
    ∙ ap (λ q. fresh ∷ q) (new_numbers own (suc fresh) us)
    ∙ sym (ap (λ n. up_from fresh (n + new_sets own us)) (cond-false (own t.set) 0 1 e) ∙ ap (up_from fresh) z))
    (cases_Bool (own t.set))

pub new_length : (own : ℕ → Bool) (fresh : ℕ) (us : List Group) → length (new_only own fresh us) ≡ new_sets own us
new_length own fresh [] = refl
new_length own fresh (t ∷ us) = grind (arith, new_length own fresh us, new_length own (suc fresh) us)

-- PIECES
module _ (first : ℕ) (wrote : ℕ → List ℕ) (kept : List Entry) where
  pieces_in_order : (fresh : ℕ) (ps : List (List Entry)) → first ≤ fresh → AllByRecursion (OldPart first) ps
      → flat_map (piece_vertices first) (pieces wrote kept fresh ps) ≡ up_from fresh (2 * length ps + new_count kept ps)
  pieces_in_order fresh [] l h = refl
  pieces_in_order fresh (p ∷ later) l h =
      let n = new_sets (comes_here kept later) (groups p) in
      let rest = 2 * length later + new_count kept later in
      let one : fresh + 1 ≡ suc fresh = omega arith in
      let two : fresh + 2 ≡ suc (suc fresh) = omega arith in
      let more : fresh + 2 + n ≡ suc (suc fresh) + n = omega arith in
      let all : 2 * suc (length later) + (n + new_count kept later) ≡ suc (suc (n + rest)) = omega arith in
      let sets : map vertex_in (filter (is_new first) (sets_of (comes_here kept later) (fresh + 2) (groups p))) ≡ up_from (suc (suc fresh)) n
      = ap (map vertex_in) (new_sets_lem first (comes_here kept later) (fresh + 2) (groups p) (omega arith) (old_groups first p h.0)) ∙ new_numbers (comes_here kept later) (fresh + 2) (groups p) ∙ ap (λ t. up_from t n) two in
      let others : flat_map (piece_vertices first) (pieces wrote kept (fresh + 2 + n) later) ≡ up_from (suc (suc fresh) + n) rest
      = pieces_in_order (fresh + 2 + n) later (omega arith) h.1 ∙ ap (λ t. up_from t rest) more in
      ap (λ v. fresh ∷ v ∷ (map vertex_in (filter (is_new first) (sets_of (comes_here kept later) (fresh + 2) (groups p))) ++ flat_map (piece_vertices first) (pieces wrote kept (fresh + 2 + n) later))) one
      ∙ ap (λ q. fresh ∷ suc fresh ∷ (q ++ flat_map (piece_vertices first) (pieces wrote kept (fresh + 2 + n) later))) sets
      ∙ ap (λ q. fresh ∷ suc fresh ∷ (up_from (suc (suc fresh)) n ++ q)) others
      ∙ ap (λ q. fresh ∷ suc fresh ∷ q) (sym (up_from_more (suc (suc fresh)) n rest))
      ∙ ap (up_from fresh) (sym all)

  none_extended : (fresh : ℕ) (ps : List (List Entry)) → flat_map (λ (s : Subtable). option_to_list s.extension) (pieces wrote kept fresh ps) ≡ []
  none_extended fresh [] = refl
  none_extended fresh (p ∷ later) = none_extended (fresh + 2 + new_sets (comes_here kept later) (groups p)) later

pub extended_order : (fresh : ℕ) (ss : List Subtable) → flat_map (λ (s : Subtable). option_to_list s.extension) (extended fresh ss) ≡ up_from fresh (length ss)
extended_order fresh [] = refl
extended_order fresh (s ∷ ss) = ap (λ q. fresh ∷ q) (extended_order (suc fresh) ss)

extended_same : (first fresh : ℕ) (ss : List Subtable) → flat_map (piece_vertices first) (extended fresh ss) ≡ flat_map (piece_vertices first) ss
extended_same first fresh [] = refl
extended_same first fresh (s ∷ ss) = ap (λ q. piece_vertices first s ++ q) (extended_same first (suc fresh) ss)

abbrev pub behind_them : Bool → ℕ → List Subtable → List Subtable
behind_them wrapped fresh ss = cond wrapped (extended fresh ss) ss

abbrev pub vertices_in : ℕ → List Subtable → List ℕ
vertices_in first ss = flat_map (piece_vertices first) ss ++ flat_map (λ (s : Subtable). option_to_list s.extension) ss

divided_in_order : (wrapped : Bool) (first : ℕ) (wrote : ℕ → List ℕ) (kept : List Entry) (fresh : ℕ) (ps : List (List Entry)) → first ≤ fresh → AllByRecursion (OldPart first) ps
    → vertices_in first (behind_them wrapped (after_pieces kept fresh ps) (pieces wrote kept fresh ps)) ≡ up_from fresh (2 * length ps + new_count kept ps + cond wrapped (length ps) 0)
divided_in_order true first wrote kept fresh ps l h =
    let n = 2 * length ps + new_count kept ps in
    let next = after_pieces kept fresh ps in
    let many = pieces wrote kept fresh ps in
    let a : flat_map (piece_vertices first) (extended next many) ≡ up_from fresh n = extended_same first next many ∙ pieces_in_order first wrote kept fresh ps l h in
    let b : flat_map (λ (s : Subtable). option_to_list s.extension) (extended next many) ≡ up_from (fresh + n) (length ps)
    = extended_order next many ∙ ap (up_from next) (length-pieces wrote kept fresh ps) ∙ ap (λ t. up_from t (length ps)) (after_pieces_lem kept fresh ps) in
    ap (λ q. q ++ flat_map (λ (s : Subtable). option_to_list s.extension) (extended next many)) a ∙ ap (λ q. up_from fresh n ++ q) b ∙ sym (up_from_more fresh n (length ps))
divided_in_order false first wrote kept fresh ps l h =
    let n = 2 * length ps + new_count kept ps in
    let z : n ≡ n + 0 = omega arith in
    ap (λ q. flat_map (piece_vertices first) (pieces wrote kept fresh ps) ++ q) (none_extended first wrote kept fresh ps)
    ∙ append-nil (flat_map (piece_vertices first) (pieces wrote kept fresh ps))
    ∙ pieces_in_order first wrote kept fresh ps l h
    ∙ ap (up_from fresh) z

-- FAMILIES
abbrev pub made : ℕ → Bool → (ℕ → List ℕ) → ℕ → List Subtable → List Family
made ceiling wrapped wrote fresh [] = []
made ceiling wrapped wrote fresh (s ∷ ss) =
    record { original = s; after = divided wrapped wrote fresh s (parts ceiling (entries s)) } ∷ made ceiling wrapped wrote (after_divided wrapped fresh (parts ceiling (entries s))) ss

divided-length : (wrapped : Bool) (wrote : ℕ → List ℕ) (fresh : ℕ) (s : Subtable) (kept : List Entry) (later : List (List Entry)) → length (divided wrapped wrote fresh s (kept ∷ later)) ≡ suc (length later)
divided-length wrapped wrote fresh s kept [] = refl
divided-length true wrote fresh s kept (p ∷ ps) = ap suc (length_extended (after_pieces kept fresh (p ∷ ps)) (pieces wrote kept fresh (p ∷ ps)) ∙ length-pieces wrote kept fresh (p ∷ ps))
divided-length false wrote fresh s kept (p ∷ ps) = ap suc (length-pieces wrote kept fresh (p ∷ ps))

pub family_length : (ceiling : ℕ) (wrapped : Bool) (wrote : ℕ → List ℕ) (fresh : ℕ) (s : Subtable) → length (divided wrapped wrote fresh s (parts ceiling (entries s))) ≡ suc (length (cuts ceiling s))
family_length ceiling wrapped wrote fresh s =
    let d = parts_cut_up ceiling s in
    subst (λ (ps : List (List Entry)). length (divided wrapped wrote fresh s ps) ≡ suc (length (cuts_before ps))) (sym d.are)
    (divided-length wrapped wrote fresh s d.kept d.later ∙ ap suc (sym (cuts_of_full d.later d.so.some)))

module _ (ceiling : ℕ) (wrapped : Bool) (wrote : ℕ → List ℕ) where
  pub families_made : (fresh : ℕ) (ss : List Subtable) → families ceiling ss (split_all ceiling wrapped wrote fresh ss) ≡ made ceiling wrapped wrote fresh ss
  families_made fresh [] = refl
  families_made fresh (s ∷ ss) =
      let here = divided wrapped wrote fresh s (parts ceiling (entries s)) in
      let rest = split_all ceiling wrapped wrote (after_divided wrapped fresh (parts ceiling (entries s))) ss in
      let n = suc (length (cuts ceiling s)) in
      let e = family_length ceiling wrapped wrote fresh s in
      ap (λ (q : List Subtable). record { original = s; after = q } ∷ families ceiling ss (drop n (here ++ rest))) (take_at here rest n e)
      ∙ ap (λ (q : List Subtable). record { original = s; after = here } ∷ families ceiling ss q) (drop_at here rest n e)
      ∙ ap (λ (q : List Family). record { original = s; after = here } ∷ q) (families_made (after_divided wrapped fresh (parts ceiling (entries s))) ss)

  pub made_whole : (fresh : ℕ) (ss : List Subtable) → flat_map (λ (f : Family). f.after) (made ceiling wrapped wrote fresh ss) ≡ split_all ceiling wrapped wrote fresh ss
  made_whole fresh [] = refl
  made_whole fresh (s ∷ ss) = ap (λ q. divided wrapped wrote fresh s (parts ceiling (entries s)) ++ q) (made_whole (after_divided wrapped fresh (parts ceiling (entries s))) ss)

  -- the pieces of one family
  pieces_made : (first fresh : ℕ) (s : Subtable) (kept : List Entry) (later : List (List Entry)) → first ≤ fresh → AllByRecursion (OldPart first) later
      → vertices_in first (drop 1 (divided wrapped wrote fresh s (kept ∷ later))) ≡ up_from fresh (2 * length later + new_count kept later + cond wrapped (length later) 0)
  pieces_made first fresh s kept [] l h = ap (up_from fresh) (nothing wrapped)
    where
      nothing : (b : Bool) → 0 ≡ 2 * 0 + 0 + cond b 0 0
      nothing true = refl
      nothing false = refl
  pieces_made first fresh s kept (p ∷ ps) l h = divided_in_order wrapped first wrote kept fresh (p ∷ ps) l h

  one_in_order : (first fresh : ℕ) (s : Subtable) → first ≤ fresh → SomeSets s → OldSets first s
      → vertices_in first (drop 1 (divided wrapped wrote fresh s (parts ceiling (entries s)))) ≡ up_from fresh (tally (cut_vertices wrapped) (cuts ceiling s))
  one_in_order first fresh s l h o =
      let d = parts_cut_up ceiling s in
      subst (λ (ps : List (List Entry)). vertices_in first (drop 1 (divided wrapped wrote fresh s ps)) ≡ up_from fresh (tally (cut_vertices wrapped) (cuts_before ps))) (sym d.are)
      (pieces_made first fresh s d.kept d.later l (old_parts first s d.kept d.later o d.so.whole)
      ∙ ap (up_from fresh) (sym (numbered wrapped s h d.kept d.later d.so)))

  pub all_in_order : (first fresh : ℕ) (ss : List Subtable) → first ≤ fresh → AllByRecursion SomeSets ss → AllByRecursion (OldSets first) ss
      → flat_map (family_vertices first) (made ceiling wrapped wrote fresh ss) ≡ up_from fresh (tally (cut_vertices wrapped) (flat_map (cuts ceiling) ss))
  all_in_order first fresh [] l h o = refl
  all_in_order first fresh (s ∷ ss) l h o =
      let here = tally (cut_vertices wrapped) (cuts ceiling s) in
      let rest = tally (cut_vertices wrapped) (flat_map (cuts ceiling) ss) in
      let next = after_divided wrapped fresh (parts ceiling (entries s)) in
      let e : next ≡ fresh + here = after_divided_lem ceiling wrapped fresh s h.0 in
      ap (λ q. q ++ flat_map (family_vertices first) (made ceiling wrapped wrote next ss)) (one_in_order first fresh s l h.0 o.0)
      ∙ ap (λ q. up_from fresh here ++ q) (all_in_order first next ss (omega arith) h.1 o.1 ∙ ap (λ t. up_from t rest) e)
      ∙ sym (up_from_more fresh here rest)
      ∙ ap (up_from fresh) (sym (tally_append (cut_vertices wrapped) (cuts ceiling s) (flat_map (cuts ceiling) ss)))
