-- What the new tables of a split count for: vertices and links, cut by cut; the numbers in order.
use Rattle.std.proofs.Common.{◌≡◌, ℕ, suc, ◌+◌, ◌*◌, Bool, true, false, cond, List, [], ◌∷◌, ◌++◌, length, sym, refl, ap, ◌∙◌, subst, arith}
use Rattle.std.specs.List.{flat_map, AllByRecursion}
use Rattle.model.specs.Forest.{Subtable}
use Rattle.model.specs.Cutting.{Entry, entries, parts, Cut, cuts_of, cuts_before, cuts}
use Rattle.model.specs.Splitting.{groups, comes_here, new_sets, after_pieces, after_divided, split_all, inside, cut_vertices, cut_links}
use Rattle.model.proofs.NumberSums.{tally, tally_append, tally_up, tally_up_more, tally_up_each}
use Rattle.model.proofs.NumberParts.{Cut-up, new_count, new_within, cuts_inside, after_pieces_lem}
use Rattle.model.proofs.NumberWeights.{Weights, SomeSets, of_subtable, added_pieces, added_divided, kept_coverage, parts_cut_up, added_all, coverages_before, coverages_after, split_weighs}
use Rattle.model.proofs.NumberWalks.{vertex_weights, link_weights}
use Rattle.model.proofs.KeepParts.{cuts_of_full}

-- SUMS OVER CUTS
pub cut_vertices_lem : (wrapped : Bool) (cs : List Cut) → tally (cut_vertices wrapped) cs ≡ 2 * length cs + (tally inside cs + cond wrapped (length cs) 0)
cut_vertices_lem true [] = refl
cut_vertices_lem false [] = refl
cut_vertices_lem true (c ∷ cs) = let a = cut_vertices_lem true cs in omega arith
cut_vertices_lem false (c ∷ cs) = let a = cut_vertices_lem false cs in omega arith

pub cut_links_lem : (wrapped : Bool) (cs : List Cut) → tally (cut_links wrapped) cs ≡ 2 * length cs + (2 * tally inside cs + cond wrapped (length cs) 0)
cut_links_lem true [] = refl
cut_links_lem false [] = refl
cut_links_lem true (c ∷ cs) = let a = cut_links_lem true cs in omega arith
cut_links_lem false (c ∷ cs) = let a = cut_links_lem false cs in omega arith

-- the cuts of one subtable, and its new tables
module _ (wrapped : Bool) (s : Subtable) (h : SomeSets s) (kept : List Entry) (later : List (List Entry)) (c : Cut-up s.sets kept later) where
  pub new_sets_are_inside : new_count kept later ≡ tally inside (flat_map cuts_of later)
  new_sets_are_inside = new_within s.sets kept later h c ∙ sym (cuts_inside later)

  pub numbered : tally (cut_vertices wrapped) (flat_map cuts_of later) ≡ 2 * length later + new_count kept later + cond wrapped (length later) 0
  numbered =
      let a = cut_vertices_lem wrapped (flat_map cuts_of later) in
      let b = cuts_of_full later c.some in
      let d = new_sets_are_inside in
      let e : cond wrapped (length (flat_map cuts_of later)) 0 ≡ cond wrapped (length later) 0 = ap (λ n. cond wrapped n 0) b in
      omega arith

  pub linked : tally (cut_links wrapped) (flat_map cuts_of later) ≡ 2 * length later + 2 * new_count kept later + cond wrapped (length later) 0
  linked =
      let a = cut_links_lem wrapped (flat_map cuts_of later) in
      let b = cuts_of_full later c.some in
      let d = new_sets_are_inside in
      let e : cond wrapped (length (flat_map cuts_of later)) 0 ≡ cond wrapped (length later) 0 = ap (λ n. cond wrapped n 0) b in
      omega arith

  pub after_one : (fresh : ℕ) → after_divided wrapped fresh (kept ∷ later) ≡ fresh + tally (cut_vertices wrapped) (flat_map cuts_of later)
  after_one fresh =
      let a = after_pieces_lem kept fresh later in
      let b = numbered in
      omega arith

-- VERTICES
module _ (w : ℕ → ℕ) (wrote : ℕ → List ℕ) where
  pieces_number : (kept : List Entry) (fresh : ℕ) (ps : List (List Entry)) → added_pieces (vertex_weights w) wrote kept fresh ps ≡ tally_up w fresh (2 * length ps + new_count kept ps)
  pieces_number kept fresh [] = refl
  pieces_number kept fresh (p ∷ later) =
      let n = new_sets (comes_here kept later) (groups p) in
      let rest = 2 * length later + new_count kept later in
      let a : added_pieces (vertex_weights w) wrote kept (fresh + 2 + n) later ≡ tally_up w (fresh + 2 + n) rest = pieces_number kept (fresh + 2 + n) later in
      let b : tally_up w (suc (suc fresh)) (n + rest) ≡ tally_up w (suc (suc fresh)) n + tally_up w (suc (suc fresh) + n) rest = tally_up_more w (suc (suc fresh)) n rest in
      let one : fresh + 1 ≡ suc fresh = omega arith in
      let two : fresh + 2 ≡ suc (suc fresh) = omega arith in
      let more : fresh + 2 + n ≡ suc (suc fresh) + n = omega arith in
      let all : 2 * suc (length later) + (n + new_count kept later) ≡ suc (suc (n + rest)) = omega arith in
      let c : w (fresh + 1) ≡ w (suc fresh) = ap w one in
      let d : tally_up w (fresh + 2) n ≡ tally_up w (suc (suc fresh)) n = ap (λ t. tally_up w t n) two in
      let e : tally_up w (fresh + 2 + n) rest ≡ tally_up w (suc (suc fresh) + n) rest = ap (λ t. tally_up w t rest) more in
      let f : tally_up w fresh (2 * suc (length later) + (n + new_count kept later)) ≡ w fresh + (w (suc fresh) + tally_up w (suc (suc fresh)) (n + rest)) = ap (tally_up w fresh) all in
      omega arith

  extensions_number : (wrapped : Bool) (kept : List Entry) (fresh : ℕ) (ps : List (List Entry))
      → added_divided (vertex_weights w) wrapped wrote fresh (kept ∷ ps) ≡ tally_up w fresh (2 * length ps + new_count kept ps + cond wrapped (length ps) 0)
  extensions_number true kept fresh ps =
      let n = 2 * length ps + new_count kept ps in
      let a = pieces_number kept fresh ps in
      let b = tally_up_more w fresh n (length ps) in
      let c : tally_up w (after_pieces kept fresh ps) (length ps) ≡ tally_up w (fresh + n) (length ps) = ap (λ t. tally_up w t (length ps)) (after_pieces_lem kept fresh ps) in
      omega arith
  extensions_number false kept fresh ps =
      let n = 2 * length ps + new_count kept ps in
      let a = pieces_number kept fresh ps in
      let z : n ≡ n + 0 = omega arith in
      let b : tally_up w fresh n ≡ tally_up w fresh (n + 0) = ap (tally_up w fresh) z in
      omega arith

  one_numbers : (ceiling : ℕ) (wrapped : Bool) (fresh : ℕ) (s : Subtable) → SomeSets s
      → (added_divided (vertex_weights w) wrapped wrote fresh (parts ceiling (entries s)) ≡ tally_up w fresh (tally (cut_vertices wrapped) (cuts ceiling s)))
      × (after_divided wrapped fresh (parts ceiling (entries s)) ≡ fresh + tally (cut_vertices wrapped) (cuts ceiling s))
  one_numbers ceiling wrapped fresh s h =
      let d = parts_cut_up ceiling s in
      subst
      (λ (ps : List (List Entry)).
      (added_divided (vertex_weights w) wrapped wrote fresh ps ≡ tally_up w fresh (tally (cut_vertices wrapped) (cuts_before ps))) × (after_divided wrapped fresh ps ≡ fresh + tally (cut_vertices wrapped) (cuts_before ps)))
      (sym d.are)
      (extensions_number wrapped d.kept fresh d.later ∙ ap (tally_up w fresh) (sym (numbered wrapped s h d.kept d.later d.so)), after_one wrapped s h d.kept d.later d.so fresh)

  pub all_number : (ceiling : ℕ) (wrapped : Bool) (fresh : ℕ) (ss : List Subtable) → AllByRecursion SomeSets ss
      → added_all (vertex_weights w) ceiling wrapped wrote fresh ss ≡ tally_up w fresh (tally (cut_vertices wrapped) (flat_map (cuts ceiling) ss))
  all_number ceiling wrapped fresh [] h = refl
  all_number ceiling wrapped fresh (s ∷ ss) h =
      let o = one_numbers ceiling wrapped fresh s h.0 in
      let here = tally (cut_vertices wrapped) (cuts ceiling s) in
      let rest = tally (cut_vertices wrapped) (flat_map (cuts ceiling) ss) in
      let next = after_divided wrapped fresh (parts ceiling (entries s)) in
      let a : added_divided (vertex_weights w) wrapped wrote fresh (parts ceiling (entries s)) ≡ tally_up w fresh here = o.0 in
      let b : added_all (vertex_weights w) ceiling wrapped wrote next ss ≡ tally_up w next rest = all_number ceiling wrapped next ss h.1 in
      let c : tally_up w next rest ≡ tally_up w (fresh + here) rest = ap (λ t. tally_up w t rest) o.1 in
      let d = tally_up_more w fresh here rest in
      let e : tally_up w fresh (tally (cut_vertices wrapped) (cuts ceiling s ++ flat_map (cuts ceiling) ss)) ≡ tally_up w fresh (here + rest) = ap (tally_up w fresh) (tally_append (cut_vertices wrapped) (cuts ceiling s) (flat_map (cuts ceiling) ss)) in
      omega arith

-- the next free number behind a subtable, and behind all
pub after_divided_lem : (ceiling : ℕ) (wrapped : Bool) (fresh : ℕ) (s : Subtable) → SomeSets s
    → after_divided wrapped fresh (parts ceiling (entries s)) ≡ fresh + tally (cut_vertices wrapped) (cuts ceiling s)
after_divided_lem ceiling wrapped fresh s h = (one_numbers (λ v. 0) (λ v. []) ceiling wrapped fresh s h).1

-- LINKS
module _ (wrote : ℕ → List ℕ) where
  pieces_link : (kept : List Entry) (fresh : ℕ) (ps : List (List Entry)) → added_pieces link_weights wrote kept fresh ps ≡ 2 * length ps + 2 * new_count kept ps
  pieces_link kept fresh [] = refl
  pieces_link kept fresh (p ∷ later) =
      let a = pieces_link kept (fresh + 2 + new_sets (comes_here kept later) (groups p)) later in
      let b = tally_up_each 2 (fresh + 2) (new_sets (comes_here kept later) (groups p)) in
      omega arith

  extensions_link : (wrapped : Bool) (kept : List Entry) (fresh : ℕ) (ps : List (List Entry))
      → added_divided link_weights wrapped wrote fresh (kept ∷ ps) ≡ 2 * length ps + 2 * new_count kept ps + cond wrapped (length ps) 0
  extensions_link true kept fresh ps =
      let a = pieces_link kept fresh ps in
      let b = tally_up_each 1 (after_pieces kept fresh ps) (length ps) in
      omega arith
  extensions_link false kept fresh ps =
      let a = pieces_link kept fresh ps in
      omega arith

  one_links : (ceiling : ℕ) (wrapped : Bool) (fresh : ℕ) (s : Subtable) → SomeSets s → added_divided link_weights wrapped wrote fresh (parts ceiling (entries s)) ≡ tally (cut_links wrapped) (cuts ceiling s)
  one_links ceiling wrapped fresh s h =
      let d = parts_cut_up ceiling s in
      subst (λ (ps : List (List Entry)). added_divided link_weights wrapped wrote fresh ps ≡ tally (cut_links wrapped) (cuts_before ps)) (sym d.are)
      (extensions_link wrapped d.kept fresh d.later ∙ sym (linked wrapped s h d.kept d.later d.so))

  pub all_link : (ceiling : ℕ) (wrapped : Bool) (fresh : ℕ) (ss : List Subtable) → AllByRecursion SomeSets ss
      → added_all link_weights ceiling wrapped wrote fresh ss ≡ tally (cut_links wrapped) (flat_map (cuts ceiling) ss)
  all_link ceiling wrapped fresh [] h = refl
  all_link ceiling wrapped fresh (s ∷ ss) h =
      let a = one_links ceiling wrapped fresh s h.0 in
      let b = all_link ceiling wrapped (after_divided wrapped fresh (parts ceiling (entries s))) ss h.1 in
      let c = tally_append (cut_links wrapped) (cuts ceiling s) (flat_map (cuts ceiling) ss) in
      omega arith

-- COVERAGES that count for the same whatever their bytes
module _ (k : Weights) (ceiling : ℕ) (wrote : ℕ → List ℕ) (same : (v : ℕ) (bs cs : List ℕ) → k.coverage v bs ≡ k.coverage v cs) where
  kept_same : (s : Subtable) (ps : List (List Entry)) → kept_coverage k wrote s ps ≡ k.coverage s.coverage s.covering
  kept_same s [] = refl
  kept_same s (p ∷ []) = refl
  kept_same s (p ∷ q ∷ ps) = same s.coverage (wrote s.coverage) s.covering

  coverages_same : (ss : List Subtable) (wrapped : Bool) → coverages_after k ceiling wrapped wrote ss ≡ coverages_before k ceiling wrapped wrote ss
  coverages_same ss wrapped =
      λ i. tally (λ (s : Subtable). kept_same s (parts ceiling (entries s)) i) ss

-- ALL SUBTABLES OF A LOOKUP
module _ (ceiling : ℕ) (wrapped : Bool) (wrote : ℕ → List ℕ) (fresh : ℕ) (ss : List Subtable) (h : AllByRecursion SomeSets ss) where
  pub split_vertices : (w : ℕ → ℕ)
      → tally (of_subtable (vertex_weights w)) (split_all ceiling wrapped wrote fresh ss) ≡ tally (of_subtable (vertex_weights w)) ss + tally_up w fresh (tally (cut_vertices wrapped) (flat_map (cuts ceiling) ss))
  split_vertices w =
      let a = split_weighs (vertex_weights w) ceiling wrapped wrote fresh ss h in
      let b = coverages_same (vertex_weights w) ceiling wrote (λ v bs cs. refl) ss wrapped in
      let c = all_number w wrote ceiling wrapped fresh ss h in
      omega arith

  pub split_links : tally (of_subtable link_weights) (split_all ceiling wrapped wrote fresh ss) ≡ tally (of_subtable link_weights) ss + tally (cut_links wrapped) (flat_map (cuts ceiling) ss)
  split_links =
      let a = split_weighs link_weights ceiling wrapped wrote fresh ss h in
      let b = coverages_same link_weights ceiling wrote (λ v bs cs. refl) ss wrapped in
      let c = all_link wrote ceiling wrapped fresh ss h in
      omega arith
