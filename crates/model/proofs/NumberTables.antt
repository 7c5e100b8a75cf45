-- The new and rewritten tables of a split lie in their parts of the pool; new sets are counted by cuts; ligatures stay.
use Rattle.std.proofs.lemmas.Grind.{flat_map-append}
use Rattle.std.proofs.Common.{◌≡◌, ℕ, suc, ◌+◌, ◌*◌, ◌≤◌, Bool, true, false, cond, List, [], ◌∷◌, ◌++◌, map, length, drop, None, sum_by, filter, sym, refl, ap, ◌∙◌, subst, ⊎_elim, arith, length-append}
use Rattle.std.specs.List.{flat_map, AllByRecursion}
use Rattle.std.proofs.lemmas.List.{append-nil, map-append}
use Rattle.std.proofs.lemmas.Bool.{cases_Bool, cond-true, cond-false}
use Rattle.model.specs.Forest.{Ligature, LigatureSet, Subtable, Lookup}
use Rattle.model.specs.Tables.{Placed, coverage_table, set_table, extension_walk}
use Rattle.model.specs.Cutting.{Entry, entries, parts, Cut, cuts_before, cuts}
use Rattle.model.specs.Splitting.{Group, groups, comes_here, sets_of, new_sets, pieces, after_pieces, extended, remains, divided, after_divided, split_all, is_wrapped, split_lookup, inside, all_cuts, Part, part, coverage_room, new_set_parts, piece_parts, extension_parts, divided_parts, all_parts, lookup_part, taken_parts}
use Rattle.model.specs.NumberingLaws.{Family, pieces_of, new_sets_of, piece_tables, divided_tables, lookup_tables, Lie, Short}
use Rattle.model.proofs.Lists.{all_front, all_back}
use Rattle.model.proofs.NumberSums.{tally, tally_sum, tally_append}
use Rattle.model.proofs.NumberEntries.{itself}
use Rattle.model.proofs.NumberParts.{Proper, Cut-up, new_count, sets_ligatures}
use Rattle.model.proofs.NumberWeights.{SomeSets, ligature_of, ligatures_of_all, parts_cut_up}
use Rattle.model.proofs.NumberWalks.{lookup_table_bytes}
use Rattle.model.proofs.NumberTaken.{after_divided_lem, new_sets_are_inside}
use Rattle.model.proofs.NumberOrder.{OldSets, OldPart, old_parts, old_groups, new_set, new_only, is_new, new_sets_lem, new_length, family_length, made}
use Rattle.model.proofs.NumberBytes.{groups_at_most, short_bare, extended_tally}
use Rattle.model.proofs.PartsGroups.{groups_ligatures}
use Rattle.model.proofs.PartsBytes.{bytes_set, bytes_subtable}
use Rattle.model.proofs.KeepSizes.{length_sets_of}

-- TABLES IN PARTS
lie_append : (ts us : List Placed) (ps qs : List Part) → Lie ts ps → Lie us qs → Lie (ts ++ us) (ps ++ qs)
lie_append [] us [] qs h k = k
lie_append [] us (p ∷ ps) qs h k = absurd h
lie_append (t ∷ ts) us [] qs h k = absurd h
lie_append (t ∷ ts) us (p ∷ ps) qs h k = (h.0, lie_append ts us ps qs h.1 k)

sets_lie : (c : ℕ) (own : ℕ → Bool) (fresh : ℕ) (us : List Group) → Lie (map (set_table c) (new_only own fresh us)) (new_set_parts own fresh us)
sets_lie c own fresh [] = tt
sets_lie c own fresh (t ∷ us) =
    ⊎_elim
    (λ (e : own t.set ≡ true).
    let a : new_only own fresh us ≡ new_only own fresh (t ∷ us) = sym (cond-true (own t.set) (new_only own fresh us) (new_set fresh t ∷ new_only own (suc fresh) us) e) in
    let b : new_set_parts own fresh us ≡ new_set_parts own fresh (t ∷ us) = sym (cond-true (own t.set) (new_set_parts own fresh us) (part fresh (2 + 2 * length t.ligatures) ∷ new_set_parts own (suc fresh) us) e) in
    subst (λ (ps : List Part). Lie (map (set_table c) (new_only own fresh (t ∷ us))) ps) b
    (subst (λ (ts : List LigatureSet). Lie (map (set_table c) ts) (new_set_parts own fresh us)) a (sets_lie c own fresh us)))
    (λ (e : own t.set ≡ false).
    let a : new_set fresh t ∷ new_only own (suc fresh) us ≡ new_only own fresh (t ∷ us) = sym (cond-false (own t.set) (new_only own fresh us) (new_set fresh t ∷ new_only own (suc fresh) us) e) in
    let b : part fresh (2 + 2 * length t.ligatures) ∷ new_set_parts own (suc fresh) us ≡ new_set_parts own fresh (t ∷ us) = sym (cond-false (own t.set) (new_set_parts own fresh us) (part fresh (2 + 2 * length t.ligatures) ∷ new_set_parts own (suc fresh) us) e) in
    let fits = bytes_set c (new_set fresh t) in
    subst (λ (ps : List Part). Lie (map (set_table c) (new_only own fresh (t ∷ us))) ps) b
    (subst (λ (ts : List LigatureSet). Lie (map (set_table c) ts) (part fresh (2 + 2 * length t.ligatures) ∷ new_set_parts own (suc fresh) us)) a ((refl, omega arith), sets_lie c own (suc fresh) us)))
    (cases_Bool (own t.set))

module _ (first : ℕ) (wrote : ℕ → List ℕ) (ts : List LigatureSet) (kept : List Entry) where
  pieces_lie : (fresh : ℕ) (ps : List (List Entry)) → first ≤ fresh → AllByRecursion (OldPart first) ps → AllByRecursion (Proper ts) ps → AllByRecursion Short (pieces wrote kept fresh ps)
      → Lie (flat_map (piece_tables first) (pieces wrote kept fresh ps)) (piece_parts (length ts) kept fresh ps)
  pieces_lie fresh [] l o u h = tt
  pieces_lie fresh (p ∷ later) l o u h =
      let own = comes_here kept later in
      let sets = sets_of own (fresh + 2) (groups p) in
      let next = fresh + 2 + new_sets (comes_here kept later) (groups p) in
      let piece : Subtable = record { extension = None; vertex = fresh; coverage = fresh + 1; covering = wrote (fresh + 1); sets = sets_of (comes_here kept later) (fresh + 2) (groups p) } in
      let a = bytes_subtable piece in
      let b : length sets ≡ length (groups p) = length_sets_of own (fresh + 2) (groups p) in
      let c : length (groups p) ≤ length ts = groups_at_most ts p u.0 in
      let d : length (wrote (fresh + 1)) ≤ 4 + 6 * length sets = h.0 in
      let e : filter (is_new first) sets ≡ new_only own (fresh + 2) (groups p) = new_sets_lem first own (fresh + 2) (groups p) (omega arith) (old_groups first p o.0) in
      let mine : Lie (map (set_table (fresh + 1)) (filter (is_new first) sets)) (new_set_parts own (fresh + 2) (groups p))
      = subst (λ (xs : List LigatureSet). Lie (map (set_table (fresh + 1)) xs) (new_set_parts own (fresh + 2) (groups p))) (sym e) (sets_lie (fresh + 1) own (fresh + 2) (groups p)) in
      let rest : Lie (flat_map (piece_tables first) (pieces wrote kept next later)) (piece_parts (length ts) kept next later) = pieces_lie next later (omega arith) o.1 u.1 h.1 in
      ((refl, omega arith), ((refl, omega arith), lie_append (map (set_table (fresh + 1)) (filter (is_new first) sets)) (flat_map (piece_tables first) (pieces wrote kept next later)) (new_set_parts own (fresh + 2) (groups p)) (piece_parts (length ts) kept next later) mine rest))

abbrev extension_in : Subtable → List Placed
extension_in s = extension_walk s.extension s.vertex

extensions_lie : (wrote : ℕ → List ℕ) (kept : List Entry) (fresh at : ℕ) (ps : List (List Entry)) → Lie (flat_map extension_in (extended at (pieces wrote kept fresh ps))) (extension_parts at ps)
extensions_lie wrote kept fresh at [] = tt
extensions_lie wrote kept fresh at (p ∷ later) = ((refl, omega arith), extensions_lie wrote kept (fresh + 2 + new_sets (comes_here kept later) (groups p)) (suc at) later)

no_extensions : (wrote : ℕ → List ℕ) (kept : List Entry) (fresh : ℕ) (ps : List (List Entry)) → flat_map extension_in (pieces wrote kept fresh ps) ≡ []
no_extensions wrote kept fresh [] = refl
no_extensions wrote kept fresh (p ∷ later) = no_extensions wrote kept (fresh + 2 + new_sets (comes_here kept later) (groups p)) later

extended_tables : (first fresh : ℕ) (ss : List Subtable) → flat_map (piece_tables first) (extended fresh ss) ≡ flat_map (piece_tables first) ss
extended_tables first fresh [] = refl
extended_tables first fresh (s ∷ ss) = ap (λ q. piece_tables first s ++ q) (extended_tables first (suc fresh) ss)

module _ (first : ℕ) (wrote : ℕ → List ℕ) (fresh : ℕ) (s : Subtable) where
  kept_lies : (kept : List Entry) → length (wrote s.coverage) ≤ 4 + 6 * length (sets_of (λ i. true) 0 (groups kept)) → length (wrote s.coverage) ≤ coverage_room (length (groups kept))
  kept_lies kept h = let a = length_sets_of (λ i. true) 0 (groups kept) in omega arith

  parted_lie : (wrapped : Bool) (kept p : List Entry) (ps : List (List Entry)) → first ≤ fresh → AllByRecursion (OldPart first) (p ∷ ps) → Cut-up s.sets kept (p ∷ ps) → AllByRecursion Short (divided wrapped wrote fresh s (kept ∷ p ∷ ps))
      → Lie (divided_tables first (divided wrapped wrote fresh s (kept ∷ p ∷ ps))) (divided_parts wrapped fresh s (kept ∷ p ∷ ps))
  parted_lie true kept p ps l o u h =
      let next = after_pieces kept fresh (p ∷ ps) in
      let many = pieces wrote kept fresh (p ∷ ps) in
      let room = part s.coverage (coverage_room (length (groups kept))) in
      let mine : Lie (flat_map (piece_tables first) (extended next many)) (piece_parts (length s.sets) kept fresh (p ∷ ps))
      = subst (λ (ts : List Placed). Lie ts (piece_parts (length s.sets) kept fresh (p ∷ ps))) (sym (extended_tables first next many)) (pieces_lie first wrote s.sets kept fresh (p ∷ ps) l o u.others (short_bare next many h.1)) in
      lie_append (flat_map (piece_tables first) (extended next many)) (coverage_table (remains wrote s kept) ∷ flat_map extension_in (extended next many)) (piece_parts (length s.sets) kept fresh (p ∷ ps)) (room ∷ extension_parts next (p ∷ ps)) mine
      ((refl, kept_lies kept h.0), extensions_lie wrote kept fresh next (p ∷ ps))
  parted_lie false kept p ps l o u h =
      let many = pieces wrote kept fresh (p ∷ ps) in
      let room = part s.coverage (coverage_room (length (groups kept))) in
      let none : Lie (flat_map extension_in many) [] = subst (λ (ts : List Placed). Lie ts []) (sym (no_extensions wrote kept fresh (p ∷ ps))) tt in
      lie_append (flat_map (piece_tables first) many) (coverage_table (remains wrote s kept) ∷ flat_map extension_in many) (piece_parts (length s.sets) kept fresh (p ∷ ps)) (room ∷ [])
      (pieces_lie first wrote s.sets kept fresh (p ∷ ps) l o u.others h.1)
      ((refl, kept_lies kept h.0), none)

  divided_lie : (wrapped : Bool) (kept : List Entry) (later : List (List Entry)) → first ≤ fresh → AllByRecursion (OldPart first) later → Cut-up s.sets kept later → AllByRecursion Short (divided wrapped wrote fresh s (kept ∷ later))
      → Lie (divided_tables first (divided wrapped wrote fresh s (kept ∷ later))) (divided_parts wrapped fresh s (kept ∷ later))
  divided_lie wrapped kept [] l o u h = tt
  divided_lie wrapped kept (p ∷ ps) l o u h = parted_lie wrapped kept p ps l o u h

  one_lies : (ceiling : ℕ) (wrapped : Bool) → first ≤ fresh → OldSets first s → AllByRecursion Short (divided wrapped wrote fresh s (parts ceiling (entries s)))
      → Lie (divided_tables first (divided wrapped wrote fresh s (parts ceiling (entries s)))) (divided_parts wrapped fresh s (parts ceiling (entries s)))
  one_lies ceiling wrapped l o =
      let d = parts_cut_up ceiling s in
      subst (λ (ps : List (List Entry)). AllByRecursion Short (divided wrapped wrote fresh s ps) → Lie (divided_tables first (divided wrapped wrote fresh s ps)) (divided_parts wrapped fresh s ps)) (sym d.are)
      (divided_lie wrapped d.kept d.later l (old_parts first s d.kept d.later o d.so.whole) d.so)

module _ (ceiling : ℕ) (wrapped : Bool) (wrote : ℕ → List ℕ) where
  all_lie : (first fresh : ℕ) (ss : List Subtable) → first ≤ fresh → AllByRecursion SomeSets ss → AllByRecursion (OldSets first) ss → AllByRecursion Short (split_all ceiling wrapped wrote fresh ss)
      → Lie (flat_map (λ (f : Family). divided_tables first f.after) (made ceiling wrapped wrote fresh ss)) (all_parts ceiling wrapped fresh ss)
  all_lie first fresh [] l h o k = tt
  all_lie first fresh (s ∷ ss) l h o k =
      let here = divided wrapped wrote fresh s (parts ceiling (entries s)) in
      let next = after_divided wrapped fresh (parts ceiling (entries s)) in
      let rest = split_all ceiling wrapped wrote next ss in
      let up = after_divided_lem ceiling wrapped fresh s h.0 in
      lie_append (divided_tables first here) (flat_map (λ (f : Family). divided_tables first f.after) (made ceiling wrapped wrote next ss)) (divided_parts wrapped fresh s (parts ceiling (entries s))) (all_parts ceiling wrapped next ss)
      (one_lies first wrote fresh s ceiling wrapped l o.0 (all_front Short here rest k)) (all_lie first next ss (omega arith) h.1 o.1 (all_back Short here rest k))

  pub split-length : (fresh : ℕ) (ss : List Subtable) → length (split_all ceiling wrapped wrote fresh ss) ≡ length ss + length (flat_map (cuts ceiling) ss)
  split-length fresh [] = refl
  split-length fresh (s ∷ ss) =
      let here = divided wrapped wrote fresh s (parts ceiling (entries s)) in
      let next = after_divided wrapped fresh (parts ceiling (entries s)) in
      let a : length here ≡ suc (length (cuts ceiling s)) = family_length ceiling wrapped wrote fresh s in
      let b : length (split_all ceiling wrapped wrote next ss) ≡ length ss + length (flat_map (cuts ceiling) ss) = split-length next ss in
      let c : length (here ++ split_all ceiling wrapped wrote next ss) ≡ length here + length (split_all ceiling wrapped wrote next ss) = length-append here (split_all ceiling wrapped wrote next ss) in
      let d = length-append (cuts ceiling s) (flat_map (cuts ceiling) ss) in
      omega arith

-- the lookup table behind all
lookup_lies : (ceiling : ℕ) (wrote : ℕ → List ℕ) (fresh : ℕ) (l : Lookup) (cs : List Cut) → Lie (lookup_tables (split_lookup ceiling wrote fresh l) cs) (lookup_part ceiling l cs)
lookup_lies ceiling wrote fresh l [] = tt
lookup_lies ceiling wrote fresh l (c ∷ cs) =
    let a = lookup_table_bytes (split_lookup ceiling wrote fresh l) in
    let b = split-length ceiling (is_wrapped l) wrote fresh l.subtables in
    ((refl, omega arith), tt)

pub tables_lie : (ceiling : ℕ) (wrote : ℕ → List ℕ) (fresh : ℕ) (l : Lookup) → AllByRecursion SomeSets l.subtables → AllByRecursion (OldSets fresh) l.subtables → AllByRecursion Short (split_lookup ceiling wrote fresh l).subtables
    → Lie (flat_map (λ (f : Family). divided_tables fresh f.after) (made ceiling (is_wrapped l) wrote fresh l.subtables) ++ lookup_tables (split_lookup ceiling wrote fresh l) (all_cuts ceiling l)) (taken_parts ceiling fresh l)
tables_lie ceiling wrote fresh l h o k =
    lie_append (flat_map (λ (f : Family). divided_tables fresh f.after) (made ceiling (is_wrapped l) wrote fresh l.subtables)) (lookup_tables (split_lookup ceiling wrote fresh l) (all_cuts ceiling l))
    (all_parts ceiling (is_wrapped l) fresh l.subtables) (lookup_part ceiling l (all_cuts ceiling l))
    (all_lie ceiling (is_wrapped l) wrote fresh fresh l.subtables (omega arith) h o k) (lookup_lies ceiling wrote fresh l (all_cuts ceiling l))

-- HOW MANY SETS ARE NEW
abbrev pub new_in : ℕ → Subtable → ℕ
new_in first s = length (new_sets_of first s)

pieces_new : (first : ℕ) (wrote : ℕ → List ℕ) (kept : List Entry) (fresh : ℕ) (ps : List (List Entry)) → first ≤ fresh → AllByRecursion (OldPart first) ps → tally (new_in first) (pieces wrote kept fresh ps) ≡ new_count kept ps
pieces_new first wrote kept fresh [] l h = refl
pieces_new first wrote kept fresh (p ∷ later) l h =
    let own = comes_here kept later in
    let next = fresh + 2 + new_sets (comes_here kept later) (groups p) in
    let a : tally (new_in first) (pieces wrote kept next later) ≡ new_count kept later = pieces_new first wrote kept next later (omega arith) h.1 in
    let b : length (filter (is_new first) (sets_of own (fresh + 2) (groups p))) ≡ new_sets own (groups p)
    = ap length (new_sets_lem first own (fresh + 2) (groups p) (omega arith) (old_groups first p h.0)) ∙ new_length own (fresh + 2) (groups p) in
    omega arith

divided_new : (first : ℕ) (wrapped : Bool) (wrote : ℕ → List ℕ) (fresh : ℕ) (s : Subtable) (kept : List Entry) (later : List (List Entry)) → first ≤ fresh → AllByRecursion (OldPart first) later
    → tally (new_in first) (drop 1 (divided wrapped wrote fresh s (kept ∷ later))) ≡ new_count kept later
divided_new first wrapped wrote fresh s kept [] l h = refl
divided_new first true wrote fresh s kept (p ∷ ps) l h =
    extended_tally (new_in first) (λ e x. refl) (after_pieces kept fresh (p ∷ ps)) (pieces wrote kept fresh (p ∷ ps)) ∙ pieces_new first wrote kept fresh (p ∷ ps) l h
divided_new first false wrote fresh s kept (p ∷ ps) l h = pieces_new first wrote kept fresh (p ∷ ps) l h

module _ (ceiling : ℕ) (wrapped : Bool) (wrote : ℕ → List ℕ) where
  one_new : (first fresh : ℕ) (s : Subtable) → first ≤ fresh → SomeSets s → OldSets first s
      → tally (new_in first) (drop 1 (divided wrapped wrote fresh s (parts ceiling (entries s)))) ≡ tally inside (cuts ceiling s)
  one_new first fresh s l h o =
      let d = parts_cut_up ceiling s in
      subst (λ (ps : List (List Entry)). tally (new_in first) (drop 1 (divided wrapped wrote fresh s ps)) ≡ tally inside (cuts_before ps)) (sym d.are)
      (divided_new first wrapped wrote fresh s d.kept d.later l (old_parts first s d.kept d.later o d.so.whole)
      ∙ new_sets_are_inside wrapped s h d.kept d.later d.so)

  pub all_new : (first fresh : ℕ) (ss : List Subtable) → first ≤ fresh → AllByRecursion SomeSets ss → AllByRecursion (OldSets first) ss
      → tally (λ (f : Family). sum_by (new_in first) (pieces_of f)) (made ceiling wrapped wrote fresh ss) ≡ tally inside (flat_map (cuts ceiling) ss)
  all_new first fresh [] l h o = refl
  all_new first fresh (s ∷ ss) l h o =
      let here = divided wrapped wrote fresh s (parts ceiling (entries s)) in
      let next = after_divided wrapped fresh (parts ceiling (entries s)) in
      let up = after_divided_lem ceiling wrapped fresh s h.0 in
      let a : sum_by (new_in first) (drop 1 here) ≡ tally inside (cuts ceiling s) = tally_sum (new_in first) (drop 1 here) ∙ one_new first fresh s l h.0 o.0 in
      let b : tally (λ (f : Family). sum_by (new_in first) (pieces_of f)) (made ceiling wrapped wrote next ss) ≡ tally inside (flat_map (cuts ceiling) ss) = all_new first next ss (omega arith) h.1 o.1 in
      let c = tally_append inside (cuts ceiling s) (flat_map (cuts ceiling) ss) in
      omega arith

-- LIGATURES
abbrev pub ligatures_under : Subtable → List Ligature
ligatures_under s = flat_map (λ (t : LigatureSet). t.ligatures) s.sets

pieces_keep : (wrote : ℕ → List ℕ) (kept : List Entry) (fresh : ℕ) (ps : List (List Entry)) → flat_map ligatures_under (pieces wrote kept fresh ps) ≡ map ligature_of (flat_map itself ps)
pieces_keep wrote kept fresh [] = refl
pieces_keep wrote kept fresh (p ∷ later) =
    let next = fresh + 2 + new_sets (comes_here kept later) (groups p) in
    ap (λ q. q ++ flat_map ligatures_under (pieces wrote kept next later)) (sets_ligatures (comes_here kept later) (fresh + 2) (groups p) ∙ groups_ligatures p)
    ∙ ap (λ q. map ligature_of p ++ q) (pieces_keep wrote kept next later)
    ∙ sym (map-append ligature_of p (flat_map itself later))

pub extended_keep : (fresh : ℕ) (ss : List Subtable) → flat_map ligatures_under (extended fresh ss) ≡ flat_map ligatures_under ss
extended_keep fresh [] = refl
extended_keep fresh (s ∷ ss) = ap (λ q. ligatures_under s ++ q) (extended_keep (suc fresh) ss)

divided_keep : (wrapped : Bool) (wrote : ℕ → List ℕ) (fresh : ℕ) (s : Subtable) (kept : List Entry) (later : List (List Entry)) → kept ++ flat_map itself later ≡ entries s
    → flat_map ligatures_under (divided wrapped wrote fresh s (kept ∷ later)) ≡ ligatures_under s
divided_keep wrapped wrote fresh s kept [] e = append-nil (ligatures_under s)
divided_keep wrapped wrote fresh s kept (p ∷ ps) e =
    ap (λ q. q ++ flat_map ligatures_under (cond wrapped (extended (after_pieces kept fresh (p ∷ ps)) (pieces wrote kept fresh (p ∷ ps))) (pieces wrote kept fresh (p ∷ ps)))) (sets_ligatures (λ i. true) 0 (groups kept) ∙ groups_ligatures kept)
    ∙ ap (λ q. map ligature_of kept ++ q) (others wrapped)
    ∙ ligatures_of_all kept (p ∷ ps) s.sets e
  where
    others : (b : Bool) → flat_map ligatures_under (cond b (extended (after_pieces kept fresh (p ∷ ps)) (pieces wrote kept fresh (p ∷ ps))) (pieces wrote kept fresh (p ∷ ps))) ≡ map ligature_of (flat_map itself (p ∷ ps))
    others true = extended_keep (after_pieces kept fresh (p ∷ ps)) (pieces wrote kept fresh (p ∷ ps)) ∙ pieces_keep wrote kept fresh (p ∷ ps)
    others false = pieces_keep wrote kept fresh (p ∷ ps)

pub split_ligatures : (ceiling : ℕ) (wrapped : Bool) (wrote : ℕ → List ℕ) (fresh : ℕ) (ss : List Subtable) → flat_map ligatures_under (split_all ceiling wrapped wrote fresh ss) ≡ flat_map ligatures_under ss
split_ligatures ceiling wrapped wrote fresh [] = refl
split_ligatures ceiling wrapped wrote fresh (s ∷ ss) =
    let d = parts_cut_up ceiling s in
    let here = divided wrapped wrote fresh s (parts ceiling (entries s)) in
    let next = after_divided wrapped fresh (parts ceiling (entries s)) in
    let one : flat_map ligatures_under here ≡ ligatures_under s
    = subst (λ (ps : List (List Entry)). flat_map ligatures_under (divided wrapped wrote fresh s ps) ≡ ligatures_under s) (sym d.are) (divided_keep wrapped wrote fresh s d.kept d.later d.so.whole) in
    flat_map-append ligatures_under here (split_all ceiling wrapped wrote next ss)
    ∙ ap (λ q. q ++ flat_map ligatures_under (split_all ceiling wrapped wrote next ss)) one
    ∙ ap (λ q. ligatures_under s ++ q) (split_ligatures ceiling wrapped wrote next ss)
