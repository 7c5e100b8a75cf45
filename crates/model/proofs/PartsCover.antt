-- The glyphs of a part: a stretch of the subtable's, of just the sets that the part has entries of; what neighbouring parts share.
use Rattle.std.proofs.Common.{◌≡◌, ℕ, zero, suc, ◌+◌, ◌<◌, ◌≤◌, true, false, ◌||◌, eqb, ◌⊎◌, List, [], ◌∷◌, ◌++◌, map, length, sym, refl, ap, ◌∙◌, subst, inl, inr, ⊎_elim, append_assoc, arith}
use mathlib.Core.List.{map-map, map-append}
use Rattle.std.specs.List.{range_with_len, AllByRecursion}
use Rattle.std.proofs.ByRecursion.{All-get_or}
use Rattle.std.proofs.lemmas.Bool.{cases_Bool, eq-eqb, ne_eqb, eqb-true, cond-true, cond-false, or_cases}
use Rattle.std.proofs.Math.Bool.{or_self_left}
use Rattle.std.proofs.lemmas.Bool.Decides.{nat_tests}
use Rattle.coverage.specs.Glyphs.{above, rises, GlyphList}
use Rattle.coverage.proofs.Lists.{listed, above_rises}
use Rattle.model.specs.Forest.{LigatureSet, Subtable}
use Rattle.model.specs.Cutting.{Entry, entries, same_set, parts, nth_part}
use Rattle.model.specs.Splitting.{Group, groups, has}
use Rattle.model.specs.Sound.{glyphs_of}
use Rattle.model.specs.CuttingLaws.{Fit, Filled, Continues, InOrder, groups_from, FilledSets, covered, Covers, place, Whole, Divided, among, InBoth, PartsCoverTheirGlyphs}
use Rattle.model.proofs.PartsRule.{whole, joined_parts, parts_filled}
use Rattle.model.proofs.PartsGroups.{group_step, heads, groups_heads, groups_entries, order_entries, order_front, order_back}

-- HEADS OF A RUN
module _ {X : Type 0} (k : Entry → X) where
  heads_on : (e : Entry) (es : List Entry) → same_set e es ≡ true → heads k (e ∷ es) ≡ heads k es
  heads_on e es b = cond-true _ _ _ b

  heads_open : (e : Entry) (es : List Entry) → same_set e es ≡ false → heads k (e ∷ es) ≡ k e ∷ heads k es
  heads_open e es b = cond-false _ _ _ b

  -- those of its back end it
  record Ending (xs ys : List Entry) : Type 0 where
    front : List X
    is : heads k (xs ++ ys) ≡ front ++ heads k ys

  heads_back : (xs ys : List Entry) → Ending xs ys
  heads_back [] ys = record { front = []; is = refl }
  heads_back (x ∷ xs) ys =
      let h = heads_back xs ys in
      ⊎_elim
      (λ b. record { front = h.front; is = heads_on x (xs ++ ys) b ∙ h.is })
      (λ b. record { front = k x ∷ h.front; is = heads_open x (xs ++ ys) b ∙ ap (λ t. k x ∷ t) h.is })
      (cases_Bool (same_set x (xs ++ ys)))

  -- where two runs meet: all of both, or one head shared
  record Clear (p q : List Entry) : Type 0 where
    start : place q ≡ 0
    is : heads k (p ++ q) ≡ heads k p ++ heads k q

  record Shared (p q : List Entry) : Type 0 where
    front : List X
    mid : X
    back : List X
    start : 0 < place q
    left : heads k p ≡ front ++ mid ∷ []
    right : heads k q ≡ mid ∷ back
    is : heads k (p ++ q) ≡ front ++ mid ∷ back

  module _ (keeps : (e f : Entry) → Continues e f → k f ≡ k e) where
    record Headed (f : Entry) (fs : List Entry) : Type 0 where
      tail : List X
      is : heads k (f ∷ fs) ≡ k f ∷ tail

    heads_head : (f : Entry) (fs : List Entry) → InOrder (f ∷ fs) → Headed f fs
    heads_head f [] o = record { tail = []; is = refl }
    heads_head f (g ∷ fs) o =
        ⊎_elim
        (λ c.
        let h = heads_head g fs o.1 in
        record { tail = h.tail; is = heads_on f (g ∷ fs) (eq-eqb f.set g.set (sym c.set)) ∙ h.is ∙ ap (λ x. x ∷ h.tail) (keeps f g c) })
        (λ n. let lt = n.set in record { tail = heads k (g ∷ fs); is = heads_open f (g ∷ fs) (ne_eqb f.set g.set (λ q. omega arith)) })
        o.0

    joint : (p q : List Entry) → 0 < length p → InOrder (p ++ q) → Clear p q ⊎ Shared p q
    joint [] q some o = absurd (omega arith)
    joint (e ∷ []) [] some o = inl (record { start = refl; is = refl })
    joint (e ∷ []) (f ∷ fs) some o =
        ⊎_elim
        (λ c.
        let h = heads_head f fs o.1 in
        let r : heads k (f ∷ fs) ≡ k e ∷ h.tail = h.is ∙ ap (λ x. x ∷ h.tail) (keeps e f c) in
        let at = c.place in
        inr (record { front = []; mid = k e; back = h.tail; start = omega arith; left = refl; right = r; is = heads_on e (f ∷ fs) (eq-eqb e.set f.set (sym c.set)) ∙ r }))
        (λ n. let lt = n.set in inl (record { start = n.place; is = heads_open e (f ∷ fs) (ne_eqb e.set f.set (λ q. omega arith)) }))
        o.0
    joint (e ∷ f ∷ fs) q some o =
        let h = joint (f ∷ fs) q (omega arith) o.1 in
        ⊎_elim
        (λ b.
        let whole = heads_on e (f ∷ fs ++ q) b in
        let own = heads_on e (f ∷ fs) b in
        ⊎_elim
        (λ c. inl (record { start = c.start; is = whole ∙ c.is ∙ ap (λ t. t ++ heads k q) (sym own) }))
        (λ s. inr (record { front = s.front; mid = s.mid; back = s.back; start = s.start; left = own ∙ s.left; right = s.right; is = whole ∙ s.is }))
        h)
        (λ b.
        let whole = heads_open e (f ∷ fs ++ q) b in
        let own = heads_open e (f ∷ fs) b in
        ⊎_elim
        (λ c. inl (record { start = c.start; is = whole ∙ ap (λ t. k e ∷ t) c.is ∙ ap (λ t. t ++ heads k q) (sym own) }))
        (λ s. inr (record { front = k e ∷ s.front; mid = s.mid; back = s.back; start = s.start; left = own ∙ ap (λ t. k e ∷ t) s.left; right = s.right; is = whole ∙ ap (λ t. k e ∷ t) s.is }))
        h)
        (cases_Bool (eqb e.set f.set))

    -- those of its front begin it
    record Beginning (xs ys : List Entry) : Type 0 where
      back : List X
      is : heads k (xs ++ ys) ≡ heads k xs ++ back

    heads_front : (xs ys : List Entry) → InOrder (xs ++ ys) → Beginning xs ys
    heads_front [] ys o = record { back = heads k ys; is = refl }
    heads_front (x ∷ xs) ys o =
        ⊎_elim
        (λ c. record { back = heads k ys; is = c.is })
        (λ s. record { back = s.back; is = s.is ∙ sym (append_assoc s.front (s.mid ∷ []) s.back) ∙ ap (λ t. t ++ s.back) (sym s.left) })
        (joint (x ∷ xs) ys (omega arith) o)

-- SHARED GLYPHS
covered_heads : (es : List Entry) → covered es ≡ heads (λ (e : Entry). e.first) es
covered_heads es = groups_heads (λ (e : Entry). e.first) (λ (t : Group). t.first) (λ e. refl) (λ g t. refl) es

pub sharing : (p q : List Entry) → 0 < length p → InOrder (p ++ q) → Whole p q ⊎ Divided p q
sharing p q some o =
    ⊎_elim
    (λ c. inl (record { start = c.start; glyphs = covered_heads (p ++ q) ∙ c.is ∙ ap (λ t. t ++ heads (λ (e : Entry). e.first) q) (sym (covered_heads p)) ∙ ap (λ t. covered p ++ t) (sym (covered_heads q)) }))
    (λ s. inr (record { front = s.front; glyph = s.mid; back = s.back; start = s.start; left = covered_heads p ∙ s.left; right = covered_heads q ∙ s.right; glyphs = covered_heads (p ++ q) ∙ s.is }))
    (joint (λ (e : Entry). e.first) (λ e f c. c.first) p q some o)

-- MARKS: number, vertex and glyph of a set
abbrev Mark : Type 0
Mark = ℕ × ℕ × ℕ

abbrev mark : Group → Mark
mark t = (t.set, t.owner, t.first)

abbrev mark_of : Entry → Mark
mark_of e = (e.set, e.owner, e.first)

abbrev marks : ℕ → List LigatureSet → List Mark
marks i [] = []
marks i (t ∷ ts) = (i, t.vertex, t.first) ∷ marks (suc i) ts

mark_heads : (es : List Entry) → map mark (groups es) ≡ heads mark_of es
mark_heads es = groups_heads mark_of mark (λ e. refl) (λ g t. refl) es

marks-groups : (i : ℕ) (ts : List LigatureSet) → map mark (groups_from i ts) ≡ marks i ts
marks-groups i [] = refl
marks-groups i (t ∷ ts) = ap (λ ms. (i, t.vertex, t.first) ∷ ms) (marks-groups (suc i) ts)

kept_mark : (e f : Entry) → Continues e f → mark_of f ≡ mark_of e
kept_mark e f c = let a = c.set in let b = c.owner in let d = c.first in cc

-- marks taken apart are the marks of sets taken apart
record Apart (i : ℕ) (ts : List LigatureSet) (ms cs : List Mark) : Type 0 where
  front : List LigatureSet
  back : List LigatureSet
  sets : ts ≡ front ++ back
  left : ms ≡ marks i front
  right : cs ≡ marks (i + length front) back

marks_apart : (i : ℕ) (ts : List LigatureSet) (ms cs : List Mark) → marks i ts ≡ ms ++ cs → Apart i ts ms cs
marks_apart i ts [] cs is = record { front = []; back = ts; sets = refl; left = refl; right = sym is ∙ ap (λ n. marks n ts) (omega arith) }
marks_apart i [] (a ∷ ms) cs is = cc
marks_apart i (t ∷ ts) (a ∷ ms) cs is =
    let first : (i, t.vertex, t.first) ≡ a = cc in
    let rest : marks (suc i) ts ≡ ms ++ cs = cc in
    let h = marks_apart (suc i) ts ms cs rest in
    record {
      front = t ∷ h.front;
      back = h.back;
      sets = ap (λ us. t ∷ us) h.sets;
      left = ap (λ m. m ∷ ms) (sym first) ∙ ap (λ (us : List Mark). (i, t.vertex, t.first) ∷ us) h.left;
      right = h.right ∙ ap (λ n. marks n h.back) (omega arith);
    }

-- WHICH SETS A PART HAS
has-groups : (i : ℕ) (es : List Entry) → has i es ≡ among i (map (λ (t : Group). t.set) (groups es))
has-groups i [] = refl
has-groups i (e ∷ es) =
    let set : Group → ℕ = λ t. t.set in
    let h = has-groups i es in
    ⊎_elim
    (λ g.
    ap (λ b. eqb e.set i || b) (h ∙ ap (λ (gs : List Group). among i (map set gs)) g.behind)
    ∙ ap (λ n. eqb n i || (eqb g.head.set i || among i (map set g.tail))) g.set
    ∙ or_self_left (eqb g.head.set i) (among i (map set g.tail))
    ∙ sym (ap (λ (gs : List Group). among i (map set gs)) g.is))
    (λ n. ap (λ b. eqb e.set i || b) h ∙ sym (ap (λ (gs : List Group). among i (map set gs)) n.is))
    (group_step e es)

among_in : (i a n : ℕ) → a ≤ i → i < a + n → among i (range_with_len a n) ≡ true
among_in i a zero lo hi = absurd (omega arith)
among_in i a (suc n) lo hi = grind (arith, nat_tests, among_in i (a + 1) n)

among_out : (i a n : ℕ) → among i (range_with_len a n) ≡ true → (a ≤ i) × (i < a + n)
among_out i a zero h = cc
among_out i a (suc n) h = grind (arith, nat_tests, among_out i (a + 1) n)

-- A RUN OF THE SUBTABLE'S ENTRIES
marks_first : (i : ℕ) (ts : List LigatureSet) → map (λ (m : Mark). m.2) (marks i ts) ≡ map (λ (t : LigatureSet). t.first) ts
marks_first i [] = refl
marks_first i (t ∷ ts) = ap (λ xs. t.first ∷ xs) (marks_first (suc i) ts)

marks_owner : (i : ℕ) (ts : List LigatureSet) → map (λ (m : Mark). m.1) (marks i ts) ≡ map (λ (t : LigatureSet). t.vertex) ts
marks_owner i [] = refl
marks_owner i (t ∷ ts) = ap (λ xs. t.vertex ∷ xs) (marks_owner (suc i) ts)

marks_number : (i : ℕ) (ts : List LigatureSet) → map (λ (m : Mark). m.0) (marks i ts) ≡ range_with_len i (length ts)
marks_number i [] = refl
marks_number i (t ∷ ts) = ap (λ xs. i ∷ xs) (marks_number (suc i) ts ∙ ap (λ n. range_with_len n (length ts)) (omega arith))

covers-marks : (s : Subtable) (p : List Entry) (before own after : List LigatureSet) → s.sets ≡ before ++ (own ++ after) → map mark (groups p) ≡ marks (length before) own → Covers s p
covers-marks s p before own after sets is =
    let numbers : map (λ (t : Group). t.set) (groups p) ≡ range_with_len (length before) (length own)
    = sym (map-map (λ (m : Mark). m.0) mark (groups p)) ∙ ap (map (λ (m : Mark). m.0)) is ∙ marks_number (length before) own in
    let whose : (i : ℕ) → has i p ≡ among i (range_with_len (length before) (length own)) = λ i. has-groups i p ∙ ap (among i) numbers in
    record {
      before = before;
      own = own;
      after = after;
      sets = sets;
      glyphs = sym (map-map (λ (m : Mark). m.2) mark (groups p)) ∙ ap (map (λ (m : Mark). m.2)) is ∙ marks_first (length before) own;
      owners = sym (map-map (λ (m : Mark). m.1) mark (groups p)) ∙ ap (map (λ (m : Mark). m.1)) is ∙ marks_owner (length before) own;
      numbers = numbers;
      inside = λ i lo hi. whose i ∙ among_in i (length before) (length own) lo hi;
      outside = λ i h. among_out i (length before) (length own) (sym (whose i) ∙ h);
    }

-- marks of the part among those of all sets
covers_rest : (s : Subtable) (p : List Entry) (after : List Mark) (before rest : List LigatureSet) → s.sets ≡ before ++ rest → marks (length before) rest ≡ heads mark_of p ++ after → Covers s p
covers_rest s p after before rest sets is =
    let h = marks_apart (length before) rest (heads mark_of p) after is in
    covers-marks s p before h.front h.back (sets ∙ ap (λ (ts : List LigatureSet). before ++ ts) h.sets) (mark_heads p ∙ h.left)

covers_among : (s : Subtable) (p : List Entry) (before after : List Mark) → marks 0 s.sets ≡ before ++ (heads mark_of p ++ after) → Covers s p
covers_among s p before after is =
    let h = marks_apart 0 s.sets before (heads mark_of p ++ after) is in
    let n : length h.front ≡ 0 + length h.front = omega arith in
    covers_rest s p after h.front h.back h.sets (ap (λ (i : ℕ). marks i h.back) n ∙ sym h.right)

marks_entries : (s : Subtable) → FilledSets s.sets → marks 0 s.sets ≡ heads mark_of (entries s)
marks_entries s filled = sym (marks-groups 0 s.sets) ∙ sym (ap (map mark) (groups_entries s filled)) ∙ mark_heads (entries s)

pub covers_run : (s : Subtable) → FilledSets s.sets → (xs p zs : List Entry) → entries s ≡ xs ++ (p ++ zs) → Covers s p
covers_run s filled xs p zs is =
    let o : InOrder (xs ++ (p ++ zs)) = subst InOrder is (order_entries s) in
    let b = heads_back mark_of xs (p ++ zs) in
    let f = heads_front mark_of kept_mark p zs (order_back xs (p ++ zs) o) in
    covers_among s p b.front f.back (marks_entries s filled ∙ ap (heads mark_of) is ∙ b.is ∙ ap (λ (t : List Mark). b.front ++ t) f.is)

-- as a stretch of the glyphs
pub covers_stretch : (s : Subtable) (p : List Entry) → (c : Covers s p) → glyphs_of s ≡ map (λ (t : LigatureSet). t.first) c.before ++ (covered p ++ map (λ (t : LigatureSet). t.first) c.after)
covers_stretch s p c =
    let first : LigatureSet → ℕ = λ t. t.first in
    ap (map first) c.sets
    ∙ map-append first c.before (c.own ++ c.after)
    ∙ ap (λ t. map first c.before ++ t) (map-append first c.own c.after ∙ ap (λ t. t ++ map first c.after) (sym c.glyphs))

-- AT MOST ONE GLYPH IN BOTH, where glyphs rise
above_among : (a x : ℕ) (ys : List ℕ) → above a ys ≡ true → among x ys ≡ true → a < x
above_among a x [] up h = cc
above_among a x (y ∷ ys) up h = grind (arith, nat_tests, above_among y x ys)

among_back : (x : ℕ) (xs ys : List ℕ) → among x ys ≡ true → among x (xs ++ ys) ≡ true
among_back x [] ys h = h
among_back x (y ∷ xs) ys h = grind (arith, among_back x xs ys)

among_push : (x : ℕ) (xs : List ℕ) (g : ℕ) → among x (xs ++ g ∷ []) ≡ true → (among x xs ≡ true) ⊎ (g ≡ x)
among_push x [] g h = grind (arith, nat_tests)
among_push x (y ∷ xs) g h = grind (arith, nat_tests, among_push x xs g)

rises_back : (xs ys : List ℕ) → rises (xs ++ ys) ≡ true → rises ys ≡ true
rises_back [] ys up = up
rises_back (x ∷ xs) ys up = rises_back xs ys (above_rises x (xs ++ ys) up)

rises_front : (xs ys : List ℕ) → rises (xs ++ ys) ≡ true → rises xs ≡ true
rises_front [] ys up = refl
rises_front (x ∷ []) ys up = refl
rises_front (x ∷ y ∷ xs) ys up = grind (arith, nat_tests, rises_front (y ∷ xs) ys)

rises_apart : (xs ys : List ℕ) → rises (xs ++ ys) ≡ true → (x : ℕ) → among x xs ≡ true → among x ys ≡ true → ⊥
rises_apart [] ys up x h k = cc
rises_apart (a ∷ xs) ys up x h k =
    ⊎_elim
    (λ b. let q = eqb-true a x b in let lt = above_among a x (xs ++ ys) up (among_back x xs ys k) in omega arith)
    (λ b. rises_apart xs ys (above_rises a (xs ++ ys) up) x b k)
    (or_cases (eqb a x) (among x xs) h)

in_both : (p q : List Entry) (d : Divided p q) → rises (covered (p ++ q)) ≡ true → (x : ℕ) → InBoth x p q → d.glyph ≡ x
in_both p q d up x b =
    let up' : rises (d.front ++ d.glyph ∷ d.back) ≡ true = ap rises (sym d.glyphs) ∙ up in
    let r : among x (d.glyph ∷ d.back) ≡ true = ap (among x) (sym d.right) ∙ b.1 in
    ⊎_elim
    (λ h. absurd (rises_apart d.front (d.glyph ∷ d.back) up' x h r))
    (λ e. e)
    (among_push x d.front d.glyph (ap (among x) (sym d.left) ∙ b.0))

one_in_both : (p q : List Entry) → rises (covered (p ++ q)) ≡ true → Whole p q ⊎ Divided p q → (g h : ℕ) → InBoth g p q → InBoth h p q → g ≡ h
one_in_both p q up w g h a b =
    ⊎_elim
    (λ w. absurd (rises_apart (covered p) (covered q) (ap rises (sym w.glyphs) ∙ up) g a.0 a.1))
    (λ d. sym (in_both p q d up g a) ∙ in_both p q d up h b)
    w

rises_covered : (s : Subtable) (p : List Entry) → GlyphList (glyphs_of s) → Covers s p → rises (covered p) ≡ true
rises_covered s p gl c =
    let first : LigatureSet → ℕ = λ t. t.first in
    let up = (listed (glyphs_of s) gl).rise in
    let all : rises (map first c.before ++ (covered p ++ map first c.after)) ≡ true = ap rises (sym (covers_stretch s p c)) ∙ up in
    rises_front (covered p) (map first c.after) (rises_back (map first c.before) (covered p ++ map first c.after) all)

-- ALL PARTS
module _ (s : Subtable) (filled : FilledSets s.sets) where
  covers_each : (xs : List Entry) (ps : List (List Entry)) → entries s ≡ xs ++ whole ps → AllByRecursion (Covers s) ps
  covers_each xs [] is = tt
  covers_each xs (p ∷ ps) is = (covers_run s filled xs p (whole ps) is, covers_each (xs ++ p) ps (is ∙ sym (append_assoc xs p (whole ps))))

  covers_two : (xs : List Entry) (ps : List (List Entry)) → entries s ≡ xs ++ whole ps → (k : ℕ) → suc k < length ps → Covers s (nth_part ps k ++ nth_part ps (suc k))
  covers_two xs [] is k lt = absurd (omega arith)
  covers_two xs (p ∷ []) is k lt = absurd (omega arith)
  covers_two xs (p ∷ q ∷ ps) is zero lt = covers_run s filled xs (p ++ q) (whole ps) (is ∙ ap (λ t. xs ++ t) (sym (append_assoc p q (whole ps))))
  covers_two xs (p ∷ q ∷ ps) is (suc k) lt = covers_two (xs ++ p) (q ∷ ps) (is ∙ sym (append_assoc xs p (whole (q ∷ ps)))) k (omega arith)

sharing_two : (ps : List (List Entry)) → InOrder (whole ps) → AllByRecursion Filled ps → (k : ℕ) → suc k < length ps → Whole (nth_part ps k) (nth_part ps (suc k)) ⊎ Divided (nth_part ps k) (nth_part ps (suc k))
sharing_two [] o f k lt = absurd (omega arith)
sharing_two (p ∷ []) o f k lt = absurd (omega arith)
sharing_two (p ∷ q ∷ ps) o f zero lt = sharing p q f.0 (order_front (p ++ q) (whole ps) (subst InOrder (sym (append_assoc p q (whole ps))) o))
sharing_two (p ∷ q ∷ ps) o f (suc k) lt = sharing_two (q ∷ ps) (order_back p (whole (q ∷ ps)) o) f.1 k (omega arith)

some_parts : (c : ℕ) (es : List Entry) → Fit c es → (k : ℕ) → suc k < length (parts c es) → AllByRecursion Filled (parts c es)
some_parts c [] f k lt = absurd (omega arith)
some_parts c (e ∷ es) f k lt = parts_filled c (e ∷ es) f (omega arith)

pub parts_cover : PartsCoverTheirGlyphs
parts_cover c s fit filled =
    let is : entries s ≡ [] ++ whole (parts c (entries s)) = sym (joined_parts c (entries s)) in
    let two : (k : ℕ) → suc k < length (parts c (entries s)) → Covers s (nth_part (parts c (entries s)) k ++ nth_part (parts c (entries s)) (suc k))
    = covers_two s filled [] (parts c (entries s)) is in
    let shared : (k : ℕ) → suc k < length (parts c (entries s)) → Whole (nth_part (parts c (entries s)) k) (nth_part (parts c (entries s)) (suc k)) ⊎ Divided (nth_part (parts c (entries s)) k) (nth_part (parts c (entries s)) (suc k))
    = λ k lt. sharing_two (parts c (entries s)) (subst InOrder is (order_entries s)) (some_parts c (entries s) fit k lt) k lt in
    record {
      each = λ k lt. All-get_or (Covers s) (parts c (entries s)) k [] lt (covers_each s filled [] (parts c (entries s)) is);
      two = two;
      shared = shared;
      once = λ gl k lt. one_in_both (nth_part (parts c (entries s)) k) (nth_part (parts c (entries s)) (suc k)) (rises_covered s (nth_part (parts c (entries s)) k ++ nth_part (parts c (entries s)) (suc k)) gl (two k lt)) (shared k lt);
    }
