-- The entries of a subtable come set by set, and so do the parts that they are cut into.
use Rattle.std.proofs.Common.{◌≡◌, ℕ, suc, ◌+◌, ◌<◌, ◌≤◌, true, cond, ◌||◌, eqb, leb, ◌⊎◌, List, [], ◌∷◌, ◌++◌, length, sym, refl, ap, ◌∙◌, inl, inr, arith}
use Rattle.std.specs.List.{flat_map, AllByRecursion}
use Rattle.std.proofs.lemmas.List.{append_assoc}
use Rattle.std.proofs.ByRecursion.{All-append, All-weaker}
use Rattle.std.proofs.lemmas.Bool.{eq-eqb, ne_eqb, cond-true, cond-false, cond_both, or_right}
use Rattle.std.proofs.Math.Bool.{or_assoc}
use Rattle.std.proofs.lemmas.Bool.Decides.{nat_tests}
use Rattle.model.specs.Forest.{Ligature, LigatureSet}
use Rattle.model.specs.Cutting.{Entry, entries_from, sets_from, run_size, parts_from, parts}
use Rattle.model.specs.Splitting.{has, any_has}
use Rattle.model.proofs.NumberSums.{tally, tally_append}
use Rattle.model.proofs.PartsRule.{joined_from, filled_from, some_from}

-- PARTS
abbrev pub itself : List Entry → List Entry
itself p = p

abbrev pub SomeEntries : List Entry → Type 0
SomeEntries p = 0 < length p

-- a first part, and others, each with some entry; together they are the entries in order
pub record Divides (es : List Entry) (ps : List (List Entry)) : Type 0 where
  pub kept : List Entry
  pub later : List (List Entry)
  pub are : ps ≡ kept ∷ later
  pub some : AllByRecursion SomeEntries later
  pub whole : kept ++ flat_map itself later ≡ es

first_of : (es : List Entry) (ps : List (List Entry)) → 0 < length ps → AllByRecursion SomeEntries ps → flat_map itself ps ≡ es → Divides es ps
first_of es [] l h e = absurd (omega arith)
first_of es (p ∷ ps) l h e = record { kept = p; later = ps; are = refl; some = h.1; whole = e }

pub parts_divide : (ceiling : ℕ) (es : List Entry) → Divides es (parts ceiling es)
parts_divide ceiling [] = record { kept = []; later = []; are = refl; some = tt; whole = refl }
parts_divide ceiling (e ∷ es) =
    cond_both (leb (run_size (e ∷ [])) ceiling) (parts_from ceiling (e ∷ []) es) ([] ∷ parts_from ceiling (e ∷ []) es)
    (λ ps. Divides (e ∷ es) ps)
    (λ t. first_of (e ∷ es) (parts_from ceiling (e ∷ []) es) (some_from ceiling (e ∷ []) es) (filled_from ceiling (e ∷ []) es (omega arith)) (joined_from ceiling (e ∷ []) es))
    (λ t. record { kept = []; later = parts_from ceiling (e ∷ []) es; are = refl; some = filled_from ceiling (e ∷ []) es (omega arith); whole = joined_from ceiling (e ∷ []) es })

-- THE ORDER OF ENTRIES: the next of the same set, or the first of a later one
abbrev pub Follows : Entry → List Entry → Type 0
Follows e [] = Unit {0}
Follows e (f ∷ fs) = ((e.set ≡ f.set) × (0 < f.place)) ⊎ ((e.set < f.set) × (f.place ≡ 0))

abbrev pub Run : List Entry → Type 0
Run [] = Unit {0}
Run (e ∷ es) = Follows e es × Run es

follows_front : (e : Entry) (xs ys : List Entry) → Follows e (xs ++ ys) → Follows e xs
follows_front e [] ys h = tt
follows_front e (x ∷ xs) ys h = h

pub run_front : (xs ys : List Entry) → Run (xs ++ ys) → Run xs
run_front [] ys h = tt
run_front (x ∷ xs) ys h = (follows_front x xs ys h.0, run_front xs ys h.1)

pub run_back : (xs ys : List Entry) → Run (xs ++ ys) → Run ys
run_back [] ys h = h
run_back (x ∷ xs) ys h = run_back xs ys h.1

-- the first entry, if any, opens a set from i on
abbrev pub Opens : ℕ → List Entry → Type 0
Opens i [] = Unit {0}
Opens i (f ∷ fs) = (i ≤ f.set) × (f.place ≡ 0)

opens_follows : (e : Entry) (es : List Entry) → Opens (suc e.set) es → Follows e es
opens_follows e [] h = tt
opens_follows e (f ∷ fs) h = inr (h.0, h.1)

opens_weaker : (i : ℕ) (es : List Entry) → Opens (suc i) es → Opens i es
opens_weaker i [] h = tt
opens_weaker i (f ∷ fs) h = (let l : suc i ≤ f.set = h.0 in omega arith, h.1)

opens_set : (i : ℕ) (t : LigatureSet) (gs : List Ligature) (rest : List Entry) → Opens (suc i) rest → Opens i (entries_from i 0 t gs ++ rest)
opens_set i t [] rest h = opens_weaker i rest h
opens_set i t (g ∷ gs) rest h = (omega arith, refl)

pub sets_open : (i : ℕ) (ts : List LigatureSet) → Opens i (sets_from i ts)
sets_open i [] = tt
sets_open i (t ∷ ts) = opens_set i t t.ligatures (sets_from (suc i) ts) (sets_open (suc i) ts)

run_set : (i j : ℕ) (t : LigatureSet) (gs : List Ligature) (rest : List Entry) → Opens (suc i) rest → Run rest → Run (entries_from i j t gs ++ rest)
run_set i j t [] rest h r = r
run_set i j t (g ∷ []) rest h r = (opens_follows (record { set = i; place = j; owner = t.vertex; first = t.first; ligature = g }) rest h, r)
run_set i j t (g ∷ k ∷ gs) rest h r = (inl (refl, omega arith), run_set i (suc j) t (k ∷ gs) rest h r)

pub sets_run : (i : ℕ) (ts : List LigatureSet) → Run (sets_from i ts)
sets_run i [] = tt
sets_run i (t ∷ ts) = run_set i 0 t t.ligatures (sets_from (suc i) ts) (sets_open (suc i) ts) (sets_run (suc i) ts)

-- SETS BY INDEX
abbrev pub tally_sets : (ℕ → LigatureSet → ℕ) → ℕ → List LigatureSet → ℕ
tally_sets h i [] = 0
tally_sets h i (t ∷ ts) = h i t + tally_sets h (suc i) ts

pub sets_same : (f g : ℕ → LigatureSet → ℕ) → ((i : ℕ) (t : LigatureSet) → f i t ≡ g i t) → (i : ℕ) (ts : List LigatureSet) → tally_sets f i ts ≡ tally_sets g i ts
sets_same f g h i ts = λ j. tally_sets (λ k t. h k t j) i ts

pub sets_plus : (f g : ℕ → LigatureSet → ℕ) (i : ℕ) (ts : List LigatureSet) → tally_sets (λ k t. f k t + g k t) i ts ≡ tally_sets f i ts + tally_sets g i ts
sets_plus f g i [] = refl
sets_plus f g i (t ∷ ts) = omega (arith, sets_plus f g (suc i) ts)

pub sets_none : (i : ℕ) (ts : List LigatureSet) → tally_sets (λ k t. 0) i ts ≡ 0
sets_none i [] = refl
sets_none i (t ∷ ts) = omega (arith, sets_none (suc i) ts)

-- the value of h at the set of an entry, by its index
abbrev at_index : ℕ → (ℕ → ℕ → ℕ) → ℕ → LigatureSet → ℕ
at_index j h k t = cond (eqb j k) (h k t.vertex) 0

-- an entry is of the set at its index, and says its vertex
pub record Owned (i : ℕ) (ts : List LigatureSet) (e : Entry) : Type 0 where
  pub late : i ≤ e.set
  pub tells : (h : ℕ → ℕ → ℕ) → tally_sets (λ k t. cond (eqb e.set k) (h k t.vertex) 0) i ts ≡ h e.set e.owner

past : (j : ℕ) (h : ℕ → ℕ → ℕ) (i : ℕ) (ts : List LigatureSet) → j < i → tally_sets (at_index j h) i ts ≡ 0
past j h i [] l = refl
past j h i (t ∷ ts) l = grind (arith, nat_tests, past j h (suc i) ts)

owned_later : (i : ℕ) (t : LigatureSet) (ts : List LigatureSet) (e : Entry) → Owned (suc i) ts e → Owned i (t ∷ ts) e
owned_later i t ts e o = record { late = omega (arith, o.late); tells = λ h. grind (arith, nat_tests, o.late, o.tells h) }

owned_set : (i j : ℕ) (t : LigatureSet) (ts : List LigatureSet) (gs : List Ligature) → AllByRecursion (Owned i (t ∷ ts)) (entries_from i j t gs)
owned_set i j t ts [] = tt
owned_set i j t ts (g ∷ gs) = (
  record {
    late = omega arith;
    tells =
        λ h.
        let a : at_index i h i t ≡ h i t.vertex = cond-true (eqb i i) (h i t.vertex) 0 (eq-eqb i i refl) in
        let b = past i h (suc i) ts (omega arith) in
        omega arith;
  },
  owned_set i (suc j) t ts gs,
)

pub sets_owned : (i : ℕ) (ts : List LigatureSet) → AllByRecursion (Owned i ts) (sets_from i ts)
sets_owned i [] = tt
sets_owned i (t ∷ ts) =
    All-append (Owned i (t ∷ ts)) (entries_from i 0 t t.ligatures) (sets_from (suc i) ts) (owned_set i 0 t ts t.ligatures)
    (All-weaker (Owned (suc i) ts) (Owned i (t ∷ ts)) (owned_later i t ts) (sets_from (suc i) ts) (sets_owned (suc i) ts))

-- every set with ligatures has an entry
abbrev pub SomeLigatures : LigatureSet → Type 0
SomeLigatures t = 0 < length t.ligatures

pub has-append : (i : ℕ) (xs ys : List Entry) → has i (xs ++ ys) ≡ (has i xs || has i ys)
has-append i [] ys = refl
has-append i (x ∷ xs) ys = ap (λ b. eqb x.set i || b) (has-append i xs ys) ∙ sym (or_assoc (eqb x.set i) (has i xs) (has i ys))

pub any_joined : (i : ℕ) (ps : List (List Entry)) → any_has i ps ≡ has i (flat_map itself ps)
any_joined i [] = refl
any_joined i (p ∷ ps) = ap (λ b. has i p || b) (any_joined i ps) ∙ sym (has-append i p (flat_map itself ps))

has_first : (i : ℕ) (t : LigatureSet) (gs : List Ligature) (rest : List Entry) → 0 < length gs → has i (entries_from i 0 t gs ++ rest) ≡ true
has_first i t [] rest l = absurd (omega arith)
has_first i t (g ∷ gs) rest l = ap (λ b. b || has i (entries_from i 1 t gs ++ rest)) (eq-eqb i i refl)

pub all-present : (w : ℕ → ℕ) (pre : List Entry) (i : ℕ) (ts : List LigatureSet) → AllByRecursion SomeLigatures ts
    → tally_sets (λ k t. cond (has k (pre ++ sets_from i ts)) (w t.vertex) 0) i ts ≡ tally (λ (t : LigatureSet). w t.vertex) ts
all-present w pre i [] h = refl
all-present w pre i (t ∷ ts) h =
    let mine = entries_from i 0 t t.ligatures in
    let rest = sets_from (suc i) ts in
    let yes' : has i (pre ++ (mine ++ rest)) ≡ true = has-append i pre (mine ++ rest) ∙ or_right (has i pre) (has i (mine ++ rest)) (has_first i t t.ligatures rest h.0) in
    let a : cond (has i (pre ++ (mine ++ rest))) (w t.vertex) 0 ≡ w t.vertex = cond-true (has i (pre ++ (mine ++ rest))) (w t.vertex) 0 yes' in
    let b = all-present w (pre ++ mine) (suc i) ts h.1 in
    let c : tally_sets (λ k u. cond (has k (pre ++ (mine ++ rest))) (w u.vertex) 0) (suc i) ts ≡ tally_sets (λ k u. cond (has k ((pre ++ mine) ++ rest)) (w u.vertex) 0) (suc i) ts
    = ap (λ (es : List Entry). tally_sets (λ k u. cond (has k es) (w u.vertex) 0) (suc i) ts) (sym (append_assoc pre mine rest)) in
    omega arith

-- one entry of each set with ligatures stands at place 0
abbrev pub opening : Entry → ℕ
opening e = cond (eqb e.place 0) 1 0

pub opens_here : (e : Entry) → e.place ≡ 0 → opening e ≡ 1
opens_here e h = cond-true (eqb e.place 0) 1 0 (eq-eqb e.place 0 h)

pub opens_not : (e : Entry) → 0 < e.place → opening e ≡ 0
opens_not e h = cond-false (eqb e.place 0) 1 0 (ne_eqb e.place 0 (λ q. omega arith))

abbrev entry : ℕ → ℕ → LigatureSet → Ligature → Entry
entry i j t g = record { set = i; place = j; owner = t.vertex; first = t.first; ligature = g }

later_none : (i j : ℕ) (t : LigatureSet) (gs : List Ligature) → tally opening (entries_from i (suc j) t gs) ≡ 0
later_none i j t [] = refl
later_none i j t (g ∷ gs) =
    let a = later_none i (suc j) t gs in
    let b = opens_not (entry i (suc j) t g) (omega arith) in
    omega arith

first_one : (i : ℕ) (t : LigatureSet) (gs : List Ligature) → 0 < length gs → tally opening (entries_from i 0 t gs) ≡ 1
first_one i t [] l = absurd (omega arith)
first_one i t (g ∷ gs) l =
    let a = later_none i 0 t gs in
    let b = opens_here (entry i 0 t g) refl in
    omega arith

pub sets_opening : (i : ℕ) (ts : List LigatureSet) → AllByRecursion SomeLigatures ts → tally opening (sets_from i ts) ≡ length ts
sets_opening i [] h = refl
sets_opening i (t ∷ ts) h =
    let a = tally_append opening (entries_from i 0 t t.ligatures) (sets_from (suc i) ts) in
    let b = first_one i t t.ligatures h.0 in
    let c = sets_opening (suc i) ts h.1 in
    omega arith
