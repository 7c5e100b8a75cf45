-- Whatever is told of each ligature and the first glyph of its set, a division keeps what all tell, in order.
use Rattle.std.proofs.lemmas.Grind.{flat_map-append}
use Rattle.std.proofs.Common.{◌≡◌, ℕ, suc, ◌+◌, ◌<◌, Bool, true, cond, eqb, List, [], ◌∷◌, ◌++◌, map, length, get_or, sym, refl, ap, ◌∙◌, subst, arith}
use Rattle.std.specs.List.{flat_map, AllByRecursion}
use Rattle.std.proofs.lemmas.List.{append-nil, map-append}
use Rattle.std.proofs.ByRecursion.{All-append, All-weaker}
use Rattle.std.proofs.lemmas.Bool.{eqb-true, cond_both}
use Rattle.std.proofs.lemmas.Simd.{map-map}
use Rattle.model.specs.Forest.{Ligature, LigatureSet, Subtable}
use Rattle.model.specs.Cutting.{Entry, entries_from, sets_from, entries, parts}
use Rattle.model.specs.Splitting.{Group, alone, with_first, join_group, groups, sets_of, new_sets, comes_here, pieces, after_pieces, extended, divided, after_divided, split_all}
use Rattle.model.specs.Sound.{glyphs_of}
use Rattle.model.proofs.KeepParts.{all_whole}
use Rattle.model.proofs.PartsRule.{whole, joined_parts}

-- THE FIRST GLYPH OF AN ENTRY is known by the index of its set
module _ (P : Entry → Type 0) (t : LigatureSet) (i : ℕ) where
  pub each_of_set : ((j : ℕ) (g : Ligature) → P (record { set = i; place = j; owner = t.vertex; first = t.first; ligature = g })) → (j : ℕ) (gs : List Ligature) → AllByRecursion P (entries_from i j t gs)
  each_of_set h j [] = tt
  each_of_set h j (g ∷ gs) = (h j g, each_of_set h (suc j) gs)

first_from : (of : ℕ → ℕ) (i : ℕ) (ts : List LigatureSet) → ((k : ℕ) → k < length ts → of (i + k) ≡ get_or (map (λ (t : LigatureSet). t.first) ts) k 0) → AllByRecursion (λ (e : Entry). e.first ≡ of e.set) (sets_from i ts)
first_from of i [] h = tt
first_from of i (t ∷ ts) h =
    let here : of i ≡ t.first = ap of (let z : i ≡ i + 0 = omega arith in z) ∙ h 0 (omega arith) in
    All-append (λ (e : Entry). e.first ≡ of e.set) (entries_from i 0 t t.ligatures) (sets_from (suc i) ts)
    (each_of_set (λ (e : Entry). e.first ≡ of e.set) t i (λ j g. sym here) 0 t.ligatures)
    (first_from of (suc i) ts (λ k lt. ap of (let z : suc i + k ≡ i + suc k = omega arith in z) ∙ h (suc k) (omega arith)))

-- the first glyph of the set of that index
abbrev pub first_of : Subtable → ℕ → ℕ
first_of s i = get_or (glyphs_of s) i 0

pub first_of_entries : (s : Subtable) → AllByRecursion (λ (e : Entry). e.first ≡ first_of s e.set) (entries s)
first_of_entries s = first_from (first_of s) 0 s.sets (λ k lt. ap (first_of s) (let z : 0 + k ≡ k = omega arith in z))

module _ {X : Type 0} (f : ℕ → Ligature → X) where
  abbrev pub set_tells : LigatureSet → List X
  set_tells t = map (f t.first) t.ligatures

  abbrev pub subtable_tells : Subtable → List X
  subtable_tells s = flat_map set_tells s.sets

  abbrev pub tell : Entry → X
  tell e = f e.first e.ligature

  abbrev pub group_tells : Group → List X
  group_tells t = map (f t.first) t.ligatures

  -- entries tell what their subtable tells
  entries_from_tell : (i j : ℕ) (t : LigatureSet) (gs : List Ligature) → map tell (entries_from i j t gs) ≡ map (f t.first) gs
  entries_from_tell i j t [] = refl
  entries_from_tell i j t (g ∷ gs) = ap (λ u. f t.first g ∷ u) (entries_from_tell i (suc j) t gs)

  pub sets_tell : (i : ℕ) (ts : List LigatureSet) → map tell (sets_from i ts) ≡ flat_map set_tells ts
  sets_tell i [] = refl
  sets_tell i (t ∷ ts) =
      map-append tell (entries_from i 0 t t.ligatures) (sets_from (suc i) ts)
      ∙ ap (λ u. u ++ map tell (sets_from (suc i) ts)) (entries_from_tell i 0 t t.ligatures)
      ∙ ap (λ u. set_tells t ++ u) (sets_tell (suc i) ts)

  pub entries_tell : (s : Subtable) → map tell (entries s) ≡ subtable_tells s
  entries_tell s = sets_tell 0 s.sets

  -- what is told goes by the index of the set
  abbrev pub Agree : (ℕ → Ligature → X) → Entry → Type 0
  Agree by e = (g : Ligature) → f e.first g ≡ by e.set g

  abbrev AgreeGroup : (ℕ → Ligature → X) → Group → Type 0
  AgreeGroup by t = (g : Ligature) → f t.first g ≡ by t.set g

  join_agrees : (by : ℕ → Ligature → X) (e : Entry) (ts : List Group) → Agree by e → AllByRecursion (AgreeGroup by) ts → AllByRecursion (AgreeGroup by) (join_group e ts)
  join_agrees by e [] a b = (a, tt)
  join_agrees by e (t ∷ ts) a b =
      cond_both (eqb e.set t.set) (with_first e.ligature t ∷ ts) (alone e ∷ t ∷ ts) (λ (u : List Group). AllByRecursion (AgreeGroup by) u)
      (λ q. (b.0, b.1))
      (λ q. (a, b))

  join_tells : (by : ℕ → Ligature → X) (e : Entry) (ts : List Group) → Agree by e → AllByRecursion (AgreeGroup by) ts → flat_map group_tells (join_group e ts) ≡ tell e ∷ flat_map group_tells ts
  join_tells by e [] a b = refl
  join_tells by e (t ∷ ts) a b =
      cond_both (eqb e.set t.set) (with_first e.ligature t ∷ ts) (alone e ∷ t ∷ ts) (λ (u : List Group). flat_map group_tells u ≡ tell e ∷ flat_map group_tells (t ∷ ts))
      (λ q. ap (λ x. x ∷ flat_map group_tells (t ∷ ts)) (b.0 e.ligature ∙ ap (λ i. by i e.ligature) (sym (eqb-true e.set t.set q)) ∙ sym (a e.ligature)))
      (λ q. refl)

  groups_agree : (by : ℕ → Ligature → X) (es : List Entry) → AllByRecursion (Agree by) es → AllByRecursion (AgreeGroup by) (groups es)
  groups_agree by [] h = tt
  groups_agree by (e ∷ es) h = join_agrees by e (groups es) h.0 (groups_agree by es h.1)

  pub groups-tell : (by : ℕ → Ligature → X) (es : List Entry) → AllByRecursion (Agree by) es → flat_map group_tells (groups es) ≡ map tell es
  groups-tell by [] h = refl
  groups-tell by (e ∷ es) h = join_tells by e (groups es) h.0 (groups_agree by es h.1) ∙ ap (λ u. tell e ∷ u) (groups-tell by es h.1)

  -- whichever vertices the sets get
  sets_of_tell : (own : ℕ → Bool) (fresh : ℕ) (ts : List Group) → flat_map set_tells (sets_of own fresh ts) ≡ flat_map group_tells ts
  sets_of_tell own fresh [] = refl
  sets_of_tell own fresh (t ∷ ts) =
      cond_both (own t.set)
      (record { vertex = t.owner; first = t.first; ligatures = t.ligatures } ∷ sets_of own fresh ts)
      (record { vertex = fresh; first = t.first; ligatures = t.ligatures } ∷ sets_of own (suc fresh) ts)
      (λ (u : List LigatureSet). flat_map set_tells u ≡ flat_map group_tells (t ∷ ts))
      (λ q. ap (λ u. group_tells t ++ u) (sets_of_tell own fresh ts))
      (λ q. ap (λ u. group_tells t ++ u) (sets_of_tell own (suc fresh) ts))

  pub made_tell : (by : ℕ → Ligature → X) (own : ℕ → Bool) (fresh : ℕ) (es : List Entry) → AllByRecursion (Agree by) es → flat_map set_tells (sets_of own fresh (groups es)) ≡ map tell es
  made_tell by own fresh es h = sets_of_tell own fresh (groups es) ∙ groups-tell by es h

  -- pieces
  pieces-tell : (by : ℕ → Ligature → X) (wrote : ℕ → List ℕ) (kept : List Entry) (fresh : ℕ) (ps : List (List Entry)) → AllByRecursion (AllByRecursion (Agree by)) ps → flat_map subtable_tells (pieces wrote kept fresh ps) ≡ map tell (whole ps)
  pieces-tell by wrote kept fresh [] h = refl
  pieces-tell by wrote kept fresh (p ∷ ps) h =
      ap (λ u. u ++ flat_map subtable_tells (pieces wrote kept (fresh + 2 + new_sets (comes_here kept ps) (groups p)) ps)) (made_tell by (comes_here kept ps) (fresh + 2) p h.0)
      ∙ ap (λ u. map tell p ++ u) (pieces-tell by wrote kept (fresh + 2 + new_sets (comes_here kept ps) (groups p)) ps h.1)
      ∙ sym (map-append tell p (whole ps))

  pub extended_tell : (fresh : ℕ) (ss : List Subtable) → flat_map subtable_tells (extended fresh ss) ≡ flat_map subtable_tells ss
  extended_tell fresh [] = refl
  extended_tell fresh (s ∷ ss) = ap (λ u. subtable_tells s ++ u) (extended_tell (suc fresh) ss)

  divided_tell_by : (by : ℕ → Ligature → X) (wrapped : Bool) (wrote : ℕ → List ℕ) (fresh : ℕ) (s : Subtable) (ps : List (List Entry)) → whole ps ≡ entries s → AllByRecursion (Agree by) (entries s) → flat_map subtable_tells (divided wrapped wrote fresh s ps) ≡ subtable_tells s
  divided_tell_by by wrapped wrote fresh s [] w a = append-nil (subtable_tells s)
  divided_tell_by by wrapped wrote fresh s (kept ∷ []) w a = append-nil (subtable_tells s)
  divided_tell_by by wrapped wrote fresh s (kept ∷ p ∷ ps) w a =
      let b = all_whole (Agree by) (kept ∷ p ∷ ps) (subst (λ (u : List Entry). AllByRecursion (Agree by) u) (sym w) a) in
      let rest : flat_map subtable_tells (cond wrapped (extended (after_pieces kept fresh (p ∷ ps)) (pieces wrote kept fresh (p ∷ ps))) (pieces wrote kept fresh (p ∷ ps))) ≡ map tell (whole (p ∷ ps)) =
      cond_both wrapped (extended (after_pieces kept fresh (p ∷ ps)) (pieces wrote kept fresh (p ∷ ps))) (pieces wrote kept fresh (p ∷ ps))
      (λ (u : List Subtable). flat_map subtable_tells u ≡ map tell (whole (p ∷ ps)))
      (λ _. extended_tell (after_pieces kept fresh (p ∷ ps)) (pieces wrote kept fresh (p ∷ ps)) ∙ pieces-tell by wrote kept fresh (p ∷ ps) b.1)
      (λ _. pieces-tell by wrote kept fresh (p ∷ ps) b.1) in
      ap (λ u. u ++ flat_map subtable_tells (cond wrapped (extended (after_pieces kept fresh (p ∷ ps)) (pieces wrote kept fresh (p ∷ ps))) (pieces wrote kept fresh (p ∷ ps))))
      (made_tell by (λ i. true) 0 kept b.0)
      ∙ ap (λ u. map tell kept ++ u) rest
      ∙ sym (map-append tell kept (whole (p ∷ ps)))
      ∙ ap (map tell) w
      ∙ entries_tell s

  -- a division keeps what is told
  pub divided_tells : (wrapped : Bool) (wrote : ℕ → List ℕ) (fresh : ℕ) (s : Subtable) (ps : List (List Entry)) → whole ps ≡ entries s → flat_map subtable_tells (divided wrapped wrote fresh s ps) ≡ subtable_tells s
  divided_tells wrapped wrote fresh s ps w =
      divided_tell_by (λ i g. f (first_of s i) g) wrapped wrote fresh s ps w
      (All-weaker (λ (e : Entry). e.first ≡ first_of s e.set) (Agree (λ i g. f (first_of s i) g)) (λ e q g. ap (λ x. f x g) q) (entries s) (first_of_entries s))

  pub split_all_tells : (ceiling : ℕ) (wrapped : Bool) (wrote : ℕ → List ℕ) (fresh : ℕ) (ss : List Subtable) → flat_map subtable_tells (split_all ceiling wrapped wrote fresh ss) ≡ flat_map subtable_tells ss
  split_all_tells c wrapped wrote fresh [] = refl
  split_all_tells c wrapped wrote fresh (s ∷ ss) =
      flat_map-append subtable_tells (divided wrapped wrote fresh s (parts c (entries s))) (split_all c wrapped wrote (after_divided wrapped fresh (parts c (entries s))) ss)
      ∙ ap (λ u. u ++ flat_map subtable_tells (split_all c wrapped wrote (after_divided wrapped fresh (parts c (entries s))) ss)) (divided_tells wrapped wrote fresh s (parts c (entries s)) (joined_parts c (entries s)))
      ∙ ap (λ u. subtable_tells s ++ u) (split_all_tells c wrapped wrote (after_divided wrapped fresh (parts c (entries s))) ss)

-- told again in other words
pub tells_map : {X Y : Type 0} (h : X → Y) (f : ℕ → Ligature → X) (ts : List LigatureSet) → map h (flat_map (set_tells f) ts) ≡ flat_map (set_tells (λ a g. h (f a g))) ts
tells_map h f [] = refl
tells_map h f (t ∷ ts) =
    map-append h (set_tells f t) (flat_map (set_tells f) ts)
    ∙ ap (λ u. u ++ map h (flat_map (set_tells f) ts)) (map-map h (f t.first) t.ligatures)
    ∙ ap (λ u. set_tells (λ a g. h (f a g)) t ++ u) (tells_map h f ts)
