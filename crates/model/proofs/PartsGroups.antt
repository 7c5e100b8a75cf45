-- Groups of entries: how one entry more changes them, how many there are, what they hold; entries in order.
use Rattle.std.proofs.Common.{◌≡◌, ℕ, suc, ◌+◌, ◌<◌, ◌≤◌, Bool, true, false, cond, eqb, ◌⊎◌, List, [], ◌∷◌, ◌++◌, map, length, Some, sym, refl, ap, ◌∙◌, subst, inl, inr, ⊎_elim, append_assoc, arith, length-append}
use Rattle.std.specs.List.{flat_map, AllByRecursion}
use Rattle.std.proofs.lemmas.Bool.{cases_eq, eq-eqb, ne_eqb, eqb-true, cond-true, cond-false, both_ways}
use Rattle.std.proofs.ByRecursion.{All-append}
use Rattle.model.specs.Forest.{Ligature, LigatureSet, Subtable}
use Rattle.model.specs.Rules.{nth}
use Rattle.model.specs.Cutting.{Entry, entries_from, sets_from, entries, same_set, touched}
use Rattle.model.specs.Splitting.{Group, alone, with_first, join_group, groups}
use Rattle.model.specs.CuttingLaws.{Continues, Opens, Leads, InOrder, groups_from, FilledSets, Grouping, Stands, CutsNameTheirLigatures}
use Rattle.model.proofs.PartsRule.{whole, cut_named}

-- ONE ENTRY MORE
-- the first group is of the first entry's set
record Headed (f : Entry) (gs : List Group) : Type 0 where
  head : Group
  tail : List Group
  is : gs ≡ head ∷ tail
  set : head.set ≡ f.set

head_joined : (f : Entry) (gs : List Group) → Headed f (join_group f gs)
head_joined f [] = record { head = alone f; tail = []; is = refl; set = refl }
head_joined f (t ∷ ts) =
    ⊎_elim
    (λ eq. record { head = with_first f.ligature t; tail = ts; is = cond-true _ _ _ (eq-eqb f.set t.set eq); set = sym eq })
    (λ ne. record { head = alone f; tail = t ∷ ts; is = cond-false _ _ _ (ne_eqb f.set t.set ne); set = refl })
    (cases_eq f.set t.set)

-- an entry goes to the front of the first group, or makes a group of its own
pub record Grown (e : Entry) (es : List Entry) : Type 0 where
  pub head : Group
  pub tail : List Group
  pub behind : groups es ≡ head ∷ tail
  pub same : same_set e es ≡ true
  pub set : e.set ≡ head.set
  pub is : groups (e ∷ es) ≡ with_first e.ligature head ∷ tail

pub record Opened (e : Entry) (es : List Entry) : Type 0 where
  pub other : same_set e es ≡ false
  pub is : groups (e ∷ es) ≡ alone e ∷ groups es

pub group_step : (e : Entry) (es : List Entry) → Grown e es ⊎ Opened e es
group_step e [] = inr (record { other = refl; is = refl })
group_step e (f ∷ fs) =
    let h = head_joined f (groups fs) in
    ⊎_elim
    (λ eq.
    let at : e.set ≡ h.head.set = eq ∙ sym h.set in
    inl (record { head = h.head; tail = h.tail; behind = h.is; same = eq-eqb e.set f.set eq; set = at; is = ap (join_group e) h.is ∙ cond-true _ _ _ (eq-eqb e.set h.head.set at) }))
    (λ ne.
    inr (record { other = ne_eqb e.set f.set ne; is = ap (join_group e) h.is ∙ cond-false _ _ _ (ne_eqb e.set h.head.set (λ q. ne (q ∙ h.set))) ∙ ap (λ (gs : List Group). alone e ∷ gs) (sym h.is) }))
    (cases_eq e.set f.set)

pub groups_open : (e : Entry) (es : List Entry) → same_set e es ≡ false → groups (e ∷ es) ≡ alone e ∷ groups es
groups_open e es other = ⊎_elim (λ g. absurd (both_ways (same_set e es) other g.same)) (λ o. o.is) (group_step e es)

-- HOW MANY
pub length-groups : (es : List Entry) → length (groups es) ≡ touched es
length-groups [] = refl
length-groups (e ∷ es) =
    let h = length-groups es in
    ⊎_elim
    (λ g.
    let b : length (groups es) ≡ length (g.head ∷ g.tail) = ap length g.behind in
    ap length g.is ∙ sym b ∙ h ∙ sym (ap (λ (t : Bool). cond t 0 1 + touched es) g.same ∙ omega arith))
    (λ o. ap length o.is ∙ ap suc h ∙ sym (ap (λ (t : Bool). cond t 0 1 + touched es) o.other ∙ omega arith))
    (group_step e es)

pub groups_filled : (es : List Entry) → AllByRecursion (λ (t : Group). 0 < length t.ligatures) (groups es)
groups_filled [] = tt
groups_filled (e ∷ es) =
    let P : List Group → Type 0 = λ gs. AllByRecursion (λ (t : Group). 0 < length t.ligatures) gs in
    ⊎_elim
    (λ g. subst P (sym g.is) (omega arith, (subst P g.behind (groups_filled es)).1))
    (λ o. subst P (sym o.is) (omega arith, groups_filled es))
    (group_step e es)

-- ENTRIES IN ORDER
module _ where
  -- what comes behind a set: later sets, from their first ligature on
  abbrev Starts : ℕ → List Entry → Type 0
  Starts i [] = Unit {0}
  Starts i (f ∷ fs) = (i ≤ f.set) × (f.place ≡ 0)

  starts_sooner : (i : ℕ) (es : List Entry) → Starts (suc i) es → Starts i es
  starts_sooner i [] s = tt
  starts_sooner i (f ∷ fs) s = (omega (arith, s.0), s.1)

  starts_set : (i : ℕ) (t : LigatureSet) (gs : List Ligature) (rest : List Entry) → Starts (suc i) rest → Starts i (entries_from i 0 t gs ++ rest)
  starts_set i t [] rest s = starts_sooner i rest s
  starts_set i t (g ∷ gs) rest s = (omega arith, refl)

  starts_sets : (i : ℕ) (ts : List LigatureSet) → Starts i (sets_from i ts)
  starts_sets i [] = tt
  starts_sets i (t ∷ ts) = starts_set i t t.ligatures (sets_from (suc i) ts) (starts_sets (suc i) ts)

  leads_later : (e : Entry) (rest : List Entry) → Starts (suc e.set) rest → Leads e rest
  leads_later e [] s = tt
  leads_later e (f ∷ fs) s = inr (record { set = s.0; place = s.1 })

  apart_later : (e : Entry) (rest : List Entry) → Starts (suc e.set) rest → same_set e rest ≡ false
  apart_later e [] s = refl
  apart_later e (f ∷ fs) s = let lt = s.0 in ne_eqb e.set f.set (λ q. omega arith)

  order_set : (i j : ℕ) (t : LigatureSet) (gs : List Ligature) (rest : List Entry) → Starts (suc i) rest → InOrder rest → InOrder (entries_from i j t gs ++ rest)
  order_set i j t [] rest s o = o
  order_set i j t (g ∷ []) rest s o = (leads_later (record { set = i; place = j; owner = t.vertex; first = t.first; ligature = g }) rest s, o)
  order_set i j t (g ∷ h ∷ gs) rest s o = (inl (record { set = refl; owner = refl; first = refl; place = refl }), order_set i (suc j) t (h ∷ gs) rest s o)

  pub order_sets : (i : ℕ) (ts : List LigatureSet) → InOrder (sets_from i ts)
  order_sets i [] = tt
  order_sets i (t ∷ ts) = order_set i 0 t t.ligatures (sets_from (suc i) ts) (starts_sets (suc i) ts) (order_sets (suc i) ts)

pub order_entries : (s : Subtable) → InOrder (entries s)
order_entries s = order_sets 0 s.sets

-- WHERE AN ENTRY STANDS
nth_at : {X : Type 0} (xs : List X) (x : X) (ys : List X) → nth (xs ++ x ∷ ys) (length xs) ≡ Some x
nth_at [] x ys = refl
nth_at (z ∷ xs) x ys = nth_at xs x ys

module _ (s : Subtable) where
  stand_set : (i : ℕ) (t : LigatureSet) → nth s.sets i ≡ Some t → (done gs : List Ligature) → t.ligatures ≡ done ++ gs → AllByRecursion (Stands s) (entries_from i (length done) t gs)
  stand_set i t there done [] is = tt
  stand_set i t there done (g ∷ gs) is =
      let on : length (done ++ g ∷ []) ≡ suc (length done) = let n = length-append done (g ∷ []) in omega arith in
      (record { home = t; there = there; owner = refl; first = refl; ligature = ap (λ (gs : List Ligature). nth gs (length done)) is ∙ nth_at done g gs }, subst (λ (j : ℕ). AllByRecursion (Stands s) (entries_from i j t gs)) on (stand_set i t there (done ++ g ∷ []) gs (is ∙ sym (append_assoc done (g ∷ []) gs))))

  stand_sets : (done ts : List LigatureSet) → s.sets ≡ done ++ ts → AllByRecursion (Stands s) (sets_from (length done) ts)
  stand_sets done [] is = tt
  stand_sets done (t ∷ ts) is =
      let on : length (done ++ t ∷ []) ≡ suc (length done) = let n = length-append done (t ∷ []) in omega arith in
      All-append (Stands s) (entries_from (length done) 0 t t.ligatures) (sets_from (suc (length done)) ts)
      (stand_set (length done) t (ap (λ (us : List LigatureSet). nth us (length done)) is ∙ nth_at done t ts) [] t.ligatures refl)
      (subst (λ (i : ℕ). AllByRecursion (Stands s) (sets_from i ts)) on (stand_sets (done ++ t ∷ []) ts (is ∙ sym (append_assoc done (t ∷ []) ts))))

  pub entries_stand : AllByRecursion (Stands s) (entries s)
  entries_stand = stand_sets [] s.sets refl

pub named : CutsNameTheirLigatures
named c s = record { cut = cut_named c s; stand = entries_stand s }

pub order_front : (xs ys : List Entry) → InOrder (xs ++ ys) → InOrder xs
order_front [] ys o = tt
order_front (x ∷ []) ys o = (tt, tt)
order_front (x ∷ z ∷ xs) ys o = (o.0, order_front (z ∷ xs) ys o.1)

pub order_back : (xs ys : List Entry) → InOrder (xs ++ ys) → InOrder ys
order_back [] ys o = o
order_back (x ∷ xs) ys o = order_back xs ys o.1

pub order_parts : (ps : List (List Entry)) → InOrder (whole ps) → AllByRecursion InOrder ps
order_parts [] o = tt
order_parts (p ∷ ps) o = (order_front p (whole ps) o, order_parts ps (order_back p (whole ps) o))

-- THE SETS OF A SUBTABLE
groups_of_set : (i j : ℕ) (t : LigatureSet) (g : Ligature) (gs : List Ligature) (rest : List Entry) → Starts (suc i) rest → groups (entries_from i j t (g ∷ gs) ++ rest) ≡ record { set = i; owner = t.vertex; first = t.first; ligatures = g ∷ gs } ∷ groups rest
groups_of_set i j t g [] rest s =
    let e : Entry = record { set = i; place = j; owner = t.vertex; first = t.first; ligature = g } in
    groups_open e rest (apart_later e rest s)
groups_of_set i j t g (h ∷ gs) rest s =
    let e : Entry = record { set = i; place = j; owner = t.vertex; first = t.first; ligature = g } in
    ap (join_group e) (groups_of_set i (suc j) t h gs rest s) ∙ cond-true _ _ _ (eq-eqb i i refl)

groups_one_set : (i : ℕ) (t : LigatureSet) (gs : List Ligature) (rest : List Entry) → 0 < length gs → Starts (suc i) rest → groups (entries_from i 0 t gs ++ rest) ≡ record { set = i; owner = t.vertex; first = t.first; ligatures = gs } ∷ groups rest
groups_one_set i t [] rest some s = absurd (omega arith)
groups_one_set i t (g ∷ gs) rest some s = groups_of_set i 0 t g gs rest s

pub groups_sets : (i : ℕ) (ts : List LigatureSet) → FilledSets ts → groups (sets_from i ts) ≡ groups_from i ts
groups_sets i [] f = refl
groups_sets i (t ∷ ts) f =
    groups_one_set i t t.ligatures (sets_from (suc i) ts) f.0 (starts_sets (suc i) ts)
    ∙ ap (λ (gs : List Group). record { set = i; owner = t.vertex; first = t.first; ligatures = t.ligatures } ∷ gs) (groups_sets (suc i) ts f.1)

pub groups_entries : (s : Subtable) → FilledSets s.sets → groups (entries s) ≡ groups_from 0 s.sets
groups_entries s f = groups_sets 0 s.sets f

-- WHAT A GROUP TAKES FROM ITS ENTRIES
pub record Kept (e : Entry) (t : Group) : Type 0 where
  pub owner : t.owner ≡ e.owner
  pub first : t.first ≡ e.first

kept_on : (e f : Entry) (t : Group) → Continues e f → Kept f t → Kept e t
kept_on e f t c k = record { owner = k.owner ∙ c.owner; first = k.first ∙ c.first }

pub leads_same : (e f : Entry) → Continues e f ⊎ Opens e f → eqb e.set f.set ≡ true → Continues e f
leads_same e f n same =
    let q = eqb-true e.set f.set same in
    ⊎_elim (λ c. c) (λ o. let lt = o.set in absurd (omega arith)) n

head_kept : (e : Entry) (es : List Entry) (t : Group) (ts : List Group) → InOrder (e ∷ es) → groups (e ∷ es) ≡ t ∷ ts → Kept e t
head_kept e [] t ts o is = let a : alone e ≡ t = cc in subst (Kept e) a (record { owner = refl; first = refl })
head_kept e (f ∷ fs) t ts o is =
    ⊎_elim
    (λ g.
    let u = sym g.is ∙ is in
    let a : with_first e.ligature g.head ≡ t = cc in
    let k = kept_on e f g.head (leads_same e f o.0 g.same) (head_kept f fs g.head g.tail o.1 g.behind) in
    subst (Kept e) a (record { owner = k.owner; first = k.first }))
    (λ n.
    let u = sym n.is ∙ is in
    let a : alone e ≡ t = cc in
    subst (Kept e) a (record { owner = refl; first = refl }))
    (group_step e (f ∷ fs))

pub grown_kept : (e : Entry) (es : List Entry) → InOrder (e ∷ es) → (g : Grown e es) → Kept e g.head
grown_kept e [] o g = cc
grown_kept e (f ∷ fs) o g = kept_on e f g.head (leads_same e f o.0 g.same) (head_kept f fs g.head g.tail o.1 g.behind)

-- what is made of each ligature and its set, over groups and over entries
abbrev pub over_group : {X : Type 0} → (ℕ → ℕ → ℕ → Ligature → X) → Group → List X
over_group h t = map (h t.set t.owner t.first) t.ligatures

abbrev pub over_entry : {X : Type 0} → (ℕ → ℕ → ℕ → Ligature → X) → Entry → X
over_entry h e = h e.set e.owner e.first e.ligature

pub groups_flat : {X : Type 0} (h : ℕ → ℕ → ℕ → Ligature → X) (es : List Entry) → InOrder es → flat_map (over_group h) (groups es) ≡ map (over_entry h) es
groups_flat h [] o = refl
groups_flat h (e ∷ es) o =
    ⊎_elim
    (λ g.
    let k = grown_kept e es o g in
    ap (flat_map (over_group h)) g.is
    ∙ ap (λ x. h x g.head.owner g.head.first e.ligature ∷ flat_map (over_group h) (g.head ∷ g.tail)) (sym g.set)
    ∙ ap (λ x. h e.set x g.head.first e.ligature ∷ flat_map (over_group h) (g.head ∷ g.tail)) k.owner
    ∙ ap (λ x. h e.set e.owner x e.ligature ∷ flat_map (over_group h) (g.head ∷ g.tail)) k.first
    ∙ ap (λ (gs : List Group). over_entry h e ∷ flat_map (over_group h) gs) (sym g.behind)
    ∙ ap (λ t. over_entry h e ∷ t) (groups_flat h es o.1))
    (λ n. ap (flat_map (over_group h)) n.is ∙ ap (λ t. over_entry h e ∷ t) (groups_flat h es o.1))
    (group_step e es)

-- the ligatures alone, of any entries
pub groups_ligatures : (es : List Entry) → flat_map (λ (t : Group). t.ligatures) (groups es) ≡ map (λ (e : Entry). e.ligature) es
groups_ligatures [] = refl
groups_ligatures (e ∷ es) =
    let all : List Group → List Ligature = flat_map (λ (t : Group). t.ligatures) in
    ⊎_elim
    (λ g. ap all g.is ∙ ap (λ (gs : List Group). e.ligature ∷ all gs) (sym g.behind) ∙ ap (λ t. e.ligature ∷ t) (groups_ligatures es))
    (λ n. ap all n.is ∙ ap (λ t. e.ligature ∷ t) (groups_ligatures es))
    (group_step e es)

pub grouping : Grouping
grouping = record { count = length-groups; filled = groups_filled; flat = groups_flat (λ i o first g. (first, g)); order = order_entries; sets = groups_entries }

-- HEADS: one value for each group, read off its last entry
abbrev pub heads : {X : Type 0} → (Entry → X) → List Entry → List X
heads k [] = []
heads k (e ∷ es) = cond (same_set e es) (heads k es) (k e ∷ heads k es)

module _ {X : Type 0} (k : Entry → X) (k' : Group → X) (one : (e : Entry) → k' (alone e) ≡ k e) (more : (g : Ligature) (t : Group) → k' (with_first g t) ≡ k' t) where
  pub groups_heads : (es : List Entry) → map k' (groups es) ≡ heads k es
  groups_heads [] = refl
  groups_heads (e ∷ es) =
      ⊎_elim
      (λ g.
      ap (map k') g.is
      ∙ ap (λ x. x ∷ map k' g.tail) (more e.ligature g.head)
      ∙ sym (ap (map k') g.behind) ∙ groups_heads es ∙ sym (cond-true _ _ _ g.same))
      (λ n.
      ap (map k') n.is
      ∙ ap (λ x. x ∷ map k' (groups es)) (one e)
      ∙ ap (λ t. k e ∷ t) (groups_heads es) ∙ sym (cond-false _ _ _ n.other))
      (group_step e es)
