-- The glyphs of each subtable that a division makes: a contiguous part of the original's, which a codec admits.
use Rattle.std.proofs.Common.{◌≡◌, ℕ, suc, ◌<◌, Bool, true, false, cond, eqb, List, [], ◌∷◌, ◌++◌, map, length, drop, Option, sym, refl, ap, ◌∙◌, subst, arith}
use Rattle.std.specs.List.{AllByRecursion}
use Rattle.std.proofs.lemmas.List.{append-nil, append_assoc, length-map}
use Rattle.std.proofs.ByRecursion.{All-weaker}
use Rattle.std.proofs.lemmas.Bool.{eqb-true, eq-eqb, cond_both}
use Rattle.coverage.specs.Meaning.{Meant}
use Rattle.model.specs.Forest.{Ligature, LigatureSet, Subtable}
use Rattle.model.specs.Cutting.{Entry, entries_from, sets_from, entries, same_set, parts}
use Rattle.model.specs.Splitting.{Group, alone, with_first, join_group, groups, sets_of, divided}
use Rattle.model.specs.Sound.{GoodSet, GoodSubtable, Lawful, glyphs_of}
use Rattle.model.specs.KeepingLaws.{PartOf, EachCoverageHasAPartOfTheGlyphs}
use Rattle.model.proofs.Lists.{all_back, all_both}
use Rattle.model.proofs.KeepTelling.{first_of, first_of_entries}
use Rattle.model.proofs.KeepSizes.{join_all, Starts, join_starts, later_set, divided-all}
use Rattle.model.proofs.KeepSound.{GoodSets, divided_sets_good}
use Rattle.model.proofs.PartsRule.{whole, joined_parts, parts_some, Fits}

abbrev pub firsts : List Group → List ℕ
firsts ts = map (λ (t : Group). t.first) ts

pub glyphs_of_sets : (own : ℕ → Bool) (fresh : ℕ) (ts : List Group) → map (λ (t : LigatureSet). t.first) (sets_of own fresh ts) ≡ firsts ts
glyphs_of_sets own fresh [] = refl
glyphs_of_sets own fresh (t ∷ ts) =
    cond_both (own t.set)
    (record { vertex = t.owner; first = t.first; ligatures = t.ligatures } ∷ sets_of own fresh ts)
    (record { vertex = fresh; first = t.first; ligatures = t.ligatures } ∷ sets_of own (suc fresh) ts)
    (λ (u : List LigatureSet). map (λ (t : LigatureSet). t.first) u ≡ firsts (t ∷ ts))
    (λ q. ap (λ u. t.first ∷ u) (glyphs_of_sets own fresh ts))
    (λ q. ap (λ u. t.first ∷ u) (glyphs_of_sets own (suc fresh) ts))

-- AN ENTRY IN FRONT adds its glyph if it begins a group
abbrev front : Entry → List Group → List ℕ
front e [] = e.first ∷ []
front e (t ∷ ts) = cond (eqb e.set t.set) [] (e.first ∷ [])

front_cond : (b : Bool) (g : Ligature) (e : Entry) (t : Group) (ts : List Group) → firsts (cond b (with_first g t ∷ ts) (alone e ∷ t ∷ ts)) ≡ cond b [] (e.first ∷ []) ++ firsts (t ∷ ts)
front_cond true g e t ts = refl
front_cond false g e t ts = refl

join_firsts : (e : Entry) (ts : List Group) → firsts (join_group e ts) ≡ front e ts ++ firsts ts
join_firsts e [] = refl
join_firsts e (t ∷ ts) = front_cond (eqb e.set t.set) e.ligature e t ts

front_starts : (e : Entry) (i : ℕ) (ts : List Group) → Starts i ts → front e ts ≡ cond (eqb e.set i) [] (e.first ∷ [])
front_starts e i [] h = absurd h
front_starts e i (t ∷ ts) h = ap (λ (k : ℕ). cond (eqb e.set k) [] (e.first ∷ [])) h

-- what lies behind a part
abbrev fronts : List Entry → List Entry → List ℕ
fronts [] ys = []
fronts (e ∷ es) ys = front e (groups (es ++ ys)) ++ fronts es ys

groups_back : (xs ys : List Entry) → firsts (groups (xs ++ ys)) ≡ fronts xs ys ++ firsts (groups ys)
groups_back [] ys = refl
groups_back (e ∷ es) ys =
    join_firsts e (groups (es ++ ys))
    ∙ ap (λ u. front e (groups (es ++ ys)) ++ u) (groups_back es ys)
    ∙ sym (append_assoc (front e (groups (es ++ ys))) (fronts es ys) (firsts (groups ys)))

-- A PART IN FRONT, where the first glyph goes by the set
module _ (of : ℕ → ℕ) where
  abbrev Known : Entry → Type 0
  Known e = e.first ≡ of e.set

  abbrev KnownGroup : Group → Type 0
  KnownGroup t = t.first ≡ of t.set

  groups_known : (es : List Entry) → AllByRecursion Known es → AllByRecursion KnownGroup (groups es)
  groups_known [] h = tt
  groups_known (e ∷ es) h = join_all KnownGroup KnownGroup e (groups es) h.0 (λ t q k. k) (λ t k. k) (groups_known es h.1)

  join_head : (e : Entry) (ts : List Group) → Known e → AllByRecursion KnownGroup ts → firsts (join_group e ts) ≡ e.first ∷ drop 1 (firsts (join_group e ts))
  join_head e [] a h = refl
  join_head e (t ∷ ts) a h =
      cond_both (eqb e.set t.set) (with_first e.ligature t ∷ ts) (alone e ∷ t ∷ ts) (λ (u : List Group). firsts u ≡ e.first ∷ drop 1 (firsts u))
      (λ q. ap (λ (x : ℕ). x ∷ firsts ts) (h.0 ∙ ap of (sym (eqb-true e.set t.set q)) ∙ sym a))
      (λ q. refl)

  abbrev rest : List Entry → List Entry → List ℕ
  rest [] ys = firsts (groups ys)
  rest (e ∷ []) ys = drop 1 (firsts (join_group e (groups ys)))
  rest (e ∷ f ∷ fs) ys = rest (f ∷ fs) ys

  groups_front : (xs ys : List Entry) → AllByRecursion Known (xs ++ ys) → firsts (groups (xs ++ ys)) ≡ firsts (groups xs) ++ rest xs ys
  groups_front [] ys h = refl
  groups_front (e ∷ []) ys h = join_head e (groups ys) h.0 (groups_known ys h.1)
  groups_front (e ∷ f ∷ fs) ys h =
      join_firsts e (groups (f ∷ (fs ++ ys)))
      ∙ ap (λ u. front e (groups (f ∷ (fs ++ ys))) ++ u) (groups_front (f ∷ fs) ys h.1)
      ∙ ap (λ u. u ++ (firsts (groups (f ∷ fs)) ++ rest (f ∷ fs) ys))
      (front_starts e f.set (groups (f ∷ (fs ++ ys))) (join_starts f (groups (fs ++ ys))) ∙ sym (front_starts e f.set (groups (f ∷ fs)) (join_starts f (groups fs))))
      ∙ sym (append_assoc (front e (groups (f ∷ fs))) (firsts (groups (f ∷ fs))) (rest (f ∷ fs) ys))
      ∙ ap (λ u. u ++ rest (f ∷ fs) ys) (sym (join_firsts e (groups (f ∷ fs))))

  -- each part's glyphs are a part of the whole's
  parts_part : (ps : List (List Entry)) → AllByRecursion Known (whole ps) → AllByRecursion (λ (p : List Entry). PartOf (firsts (groups p)) (firsts (groups (whole ps)))) ps
  parts_part [] h = tt
  parts_part (p ∷ ps) h = (
    record { before = []; behind = rest p (whole ps); is = groups_front p (whole ps) h },
    All-weaker (λ (q : List Entry). PartOf (firsts (groups q)) (firsts (groups (whole ps)))) (λ (q : List Entry). PartOf (firsts (groups q)) (firsts (groups (p ++ whole ps))))
        (λ q k. record {
          before = fronts p (whole ps) ++ k.before;
          behind = k.behind;
          is = groups_back p (whole ps) ∙ ap (λ u. fronts p (whole ps) ++ u) k.is ∙ sym (append_assoc (fronts p (whole ps)) k.before (firsts (groups q) ++ k.behind));
        })
        ps
        (parts_part ps (all_back Known p (whole ps) h)),
  )

-- THE WHOLE: one group for each set
front_new : (e : Entry) (es : List Entry) → same_set e es ≡ false → front e (groups es) ≡ e.first ∷ []
front_new e [] h = refl
front_new e (f ∷ fs) h = front_starts e f.set (groups (f ∷ fs)) (join_starts f (groups fs)) ∙ ap (λ (b : Bool). cond b [] (e.first ∷ [])) h

abbrev entry_at : ℕ → ℕ → LigatureSet → Ligature → Entry
entry_at i j t g = record { set = i; place = j; owner = t.vertex; first = t.first; ligature = g }

set-firsts : (i j : ℕ) (t : LigatureSet) (gs : List Ligature) (es : List Entry) → 0 < length gs → ((e : Entry) → e.set ≡ i → same_set e es ≡ false) → firsts (groups (entries_from i j t gs ++ es)) ≡ t.first ∷ firsts (groups es)
set-firsts i j t [] es some h = absurd (omega arith)
set-firsts i j t (g ∷ []) es some h =
    join_firsts (entry_at i j t g) (groups es) ∙ ap (λ u. u ++ firsts (groups es)) (front_new (entry_at i j t g) es (h (entry_at i j t g) refl))
set-firsts i j t (g ∷ k ∷ gs) es some h =
    join_firsts (entry_at i j t g) (groups (entries_from i (suc j) t (k ∷ gs) ++ es))
    ∙ ap (λ u. u ++ firsts (groups (entries_from i (suc j) t (k ∷ gs) ++ es)))
    (front_starts (entry_at i j t g) i (groups (entries_from i (suc j) t (k ∷ gs) ++ es)) (join_starts (entry_at i (suc j) t k) (groups (entries_from i (suc (suc j)) t gs ++ es)))
    ∙ ap (λ (b : Bool). cond b [] (t.first ∷ [])) (eq-eqb i i refl))
    ∙ set-firsts i (suc j) t (k ∷ gs) es (omega arith) h

sets_firsts : (i : ℕ) (ts : List LigatureSet) → AllByRecursion (λ (t : LigatureSet). 0 < length t.ligatures) ts → firsts (groups (sets_from i ts)) ≡ map (λ (t : LigatureSet). t.first) ts
sets_firsts i [] h = refl
sets_firsts i (t ∷ ts) h =
    set-firsts i 0 t t.ligatures (sets_from (suc i) ts) h.0 (λ e q. later_set e (suc i) ts (omega arith))
    ∙ ap (λ u. t.first ∷ u) (sets_firsts (suc i) ts h.1)

-- THE THEOREM
pub divided_glyphs : (ceiling : ℕ) (wrapped : Bool) (wrote : ℕ → List ℕ) (fresh : ℕ) (s : Subtable) → AllByRecursion (λ (t : LigatureSet). 0 < length t.ligatures) s.sets → AllByRecursion (λ (t : Subtable). PartOf (glyphs_of t) (glyphs_of s)) (divided wrapped wrote fresh s (parts ceiling (entries s)))
divided_glyphs c wrapped wrote fresh s full =
    let w = joined_parts c (entries s) in
    let whole_is : firsts (groups (whole (parts c (entries s)))) ≡ glyphs_of s = ap (λ (es : List Entry). firsts (groups es)) w ∙ sets_firsts 0 s.sets full in
    let known = subst (λ (es : List Entry). AllByRecursion (λ (e : Entry). e.first ≡ first_of s e.set) es) (sym w) (first_of_entries s) in
    divided-all (λ (ts : List LigatureSet). PartOf (map (λ (t : LigatureSet). t.first) ts) (glyphs_of s)) (λ (p : List Entry). PartOf (firsts (groups p)) (glyphs_of s))
    (λ own fresh p k. subst (λ (gs : List ℕ). PartOf gs (glyphs_of s)) (sym (glyphs_of_sets own fresh (groups p))) k)
    wrapped wrote fresh s (parts c (entries s)) (parts_some c (entries s)) w
    (λ _. record { before = []; behind = []; is = sym (append-nil (glyphs_of s)) })
    (subst (λ (gs : List ℕ). AllByRecursion (λ (p : List Entry). PartOf (firsts (groups p)) gs) (parts c (entries s))) whole_is (parts_part (first_of s) (parts c (entries s)) known))

pub sets_full : (ts : List LigatureSet) → AllByRecursion GoodSet ts → AllByRecursion (λ (t : LigatureSet). 0 < length t.ligatures) ts
sets_full ts h = All-weaker GoodSet (λ (t : LigatureSet). 0 < length t.ligatures) (λ t k. k.some) ts h

pub each_coverage_has_a_part_of_the_glyphs_lem : EachCoverageHasAPartOfTheGlyphs
each_coverage_has_a_part_of_the_glyphs_lem ceiling wrapped wrote fresh s good = divided_glyphs ceiling wrapped wrote fresh s (sets_full s.sets good)

-- so a lawful codec admits them
pub divided_admitted : (admits : List ℕ → Type 0) (meaning : List ℕ → Option Meant) (span : List ℕ → ℕ) → Lawful admits meaning span → (ceiling : ℕ) (wrapped : Bool) (wrote : ℕ → List ℕ) (fresh : ℕ) (s : Subtable) → GoodSubtable meaning s → AllByRecursion (Fits ceiling) (entries s) → AllByRecursion (λ (t : Subtable). admits (glyphs_of t)) (divided wrapped wrote fresh s (parts ceiling (entries s)))
divided_admitted admits meaning span law c wrapped wrote fresh s good f =
    let adm = law.sound s.covering (glyphs_of s) (length s.covering) good.means in
    All-weaker (λ (t : Subtable). GoodSets t.sets × PartOf (glyphs_of t) (glyphs_of s)) (λ (t : Subtable). admits (glyphs_of t))
    (λ t k.
    let n = length-map t.sets (λ (u : LigatureSet). u.first) in
    let some = k.0.0 in
    law.parts k.1.before (glyphs_of t) k.1.behind (omega arith) (subst (λ (gs : List ℕ). admits gs) k.1.is adm))
    (divided wrapped wrote fresh s (parts c (entries s)))
    (all_both (λ (t : Subtable). GoodSets t.sets) (λ (t : Subtable). PartOf (glyphs_of t) (glyphs_of s)) (divided wrapped wrote fresh s (parts c (entries s)))
    (divided_sets_good c wrapped wrote fresh s (good.some, good.sets) f)
    (divided_glyphs c wrapped wrote fresh s (sets_full s.sets good.sets)))
