-- Own and new vertices over all parts of a subtable: each set keeps its own vertex once, and as many sets are new as cuts fall inside a set.
use Rattle.std.proofs.Common.{◌≡◌, ℕ, suc, ◌+◌, ◌*◌, Bool, cond, not, ◌&&◌, ◌||◌, List, [], ◌∷◌, ◌++◌, map, length, sym, refl, ap, ◌∙◌, subst, arith}
use Rattle.std.specs.List.{flat_map, AllByRecursion}
use Rattle.std.proofs.lemmas.List.{map-append}
use Rattle.std.proofs.lemmas.Bool.{cond_both}
use Rattle.model.specs.Forest.{Ligature, LigatureSet}
use Rattle.model.specs.Cutting.{Entry, entries_from, sets_from, cuts_of}
use Rattle.model.specs.Splitting.{Group, groups, has, any_has, comes_here, sets_of, new_sets, after_pieces, inside}
use Rattle.model.proofs.Lists.{all_front, all_back}
use Rattle.model.proofs.NumberSums.{tally, tally_append, tally_ones, tally_up, tally_up_cond}
use Rattle.model.proofs.NumberEntries.{itself, SomeEntries, Run, run_front, run_back, Opens, sets_open, sets_run, tally_sets, sets_same, sets_plus, sets_none, Owned, sets_owned, SomeLigatures, has-append, any_joined, all-present, opening, sets_opening}
use Rattle.model.proofs.NumberGroups.{groups_weigh, within, within_not, groups_count}

-- a part of the entries of these sets
pub record Proper (ts : List LigatureSet) (p : List Entry) : Type 0 where
  pub run : Run p
  pub owned : AllByRecursion (Owned 0 ts) p

pub all_proper : (ts : List LigatureSet) (ps : List (List Entry)) → Run (flat_map itself ps) → AllByRecursion (Owned 0 ts) (flat_map itself ps) → AllByRecursion (Proper ts) ps
all_proper ts [] r o = tt
all_proper ts (p ∷ ps) r o =
    (record { run = run_front p (flat_map itself ps) r; owned = all_front (Owned 0 ts) p (flat_map itself ps) o }, all_proper ts ps (run_back p (flat_map itself ps) r) (all_back (Owned 0 ts) p (flat_map itself ps) o))

-- the first part and the others of the entries of these sets
pub record Cut-up (ts : List LigatureSet) (kept : List Entry) (later : List (List Entry)) : Type 0 where
  pub first : Proper ts kept
  pub others : AllByRecursion (Proper ts) later
  pub some : AllByRecursion SomeEntries later
  pub whole : kept ++ flat_map itself later ≡ sets_from 0 ts

pub cut_up : (ts : List LigatureSet) (kept : List Entry) (later : List (List Entry)) → AllByRecursion SomeEntries later → kept ++ flat_map itself later ≡ sets_from 0 ts → Cut-up ts kept later
cut_up ts kept later s e =
    let r : Run (kept ++ flat_map itself later) = subst Run (sym e) (sets_run 0 ts) in
    let o : AllByRecursion (Owned 0 ts) (kept ++ flat_map itself later) = subst (AllByRecursion (Owned 0 ts)) (sym e) (sets_owned 0 ts) in
    record {
      first = record { run = run_front kept (flat_map itself later) r; owned = all_front (Owned 0 ts) kept (flat_map itself later) o };
      others = all_proper ts later (run_back kept (flat_map itself later) r) (all_back (Owned 0 ts) kept (flat_map itself later) o);
      some = s;
      whole = e;
    }

-- OWN VERTICES
abbrev pub own_here : (ℕ → Bool) → (ℕ → ℕ) → Group → ℕ
own_here own w t = cond (own t.set) (w t.owner) 0

abbrev pub own_pieces : (ℕ → ℕ) → List Entry → List (List Entry) → ℕ
own_pieces w kept [] = 0
own_pieces w kept (p ∷ later) = tally (own_here (comes_here kept later) w) (groups p) + own_pieces w kept later

stays_or_goes : (k p l : Bool) (x : ℕ) → cond p (cond (not k && not l) x 0) 0 + cond k 0 (cond l x 0) ≡ cond k 0 (cond (p || l) x 0)
stays_or_goes k p l x = grind arith

kept_or_not : (k l : Bool) (x : ℕ) → cond k x 0 + cond k 0 (cond l x 0) ≡ cond (k || l) x 0
kept_or_not k l x = grind arith

module _ (ts : List LigatureSet) (w : ℕ → ℕ) (kept : List Entry) where
  abbrev goes : List (List Entry) → ℕ → LigatureSet → ℕ
  goes ps k t = cond (has k kept) 0 (cond (any_has k ps) (w t.vertex) 0)

  all_zero : (f : ℕ → LigatureSet → ℕ) → ((k : ℕ) (t : LigatureSet) → f k t ≡ 0) → tally_sets f 0 ts ≡ 0
  all_zero f h = sets_same f (λ k t. 0) h 0 ts ∙ sets_none 0 ts

  both_zero : (b : Bool) → cond {A = ℕ} b 0 0 ≡ 0
  both_zero b = grind arith

  pub own_goes : (ps : List (List Entry)) → AllByRecursion (Proper ts) ps → own_pieces w kept ps ≡ tally_sets (λ k t. cond (has k kept) 0 (cond (any_has k ps) (w t.vertex) 0)) 0 ts
  own_goes [] h = sym (all_zero (goes []) (λ k t. both_zero (has k kept)))
  own_goes (p ∷ later) h =
      let a = groups_weigh ts (λ k v. cond (comes_here kept later k) (w v) 0) p h.0.run h.0.owned in
      let b = own_goes later h.1 in
      let c = sets_plus (λ k t. cond (has k p) (cond (comes_here kept later k) (w t.vertex) 0) 0) (goes later) 0 ts in
      let d = sets_same (λ k t. cond (has k p) (cond (comes_here kept later k) (w t.vertex) 0) 0 + goes later k t) (goes (p ∷ later)) (λ k t. stays_or_goes (has k kept) (has k p) (any_has k later) (w t.vertex)) 0 ts in
      let e : tally (own_here (comes_here kept later) w) (groups p) ≡ tally_sets (λ k t. cond (has k p) (cond (comes_here kept later k) (w t.vertex) 0) 0) 0 ts = a in
      omega arith

-- over all parts each set's own vertex stands once
pub own_once : (ts : List LigatureSet) (w : ℕ → ℕ) (kept : List Entry) (later : List (List Entry)) → AllByRecursion SomeLigatures ts → Cut-up ts kept later
    → tally (λ (t : Group). w t.owner) (groups kept) + own_pieces w kept later ≡ tally (λ (t : LigatureSet). w t.vertex) ts
own_once ts w kept later s c =
    let a : tally (λ (t : Group). w t.owner) (groups kept) ≡ tally_sets (λ k t. cond (has k kept) (w t.vertex) 0) 0 ts = groups_weigh ts (λ k v. w v) kept c.first.run c.first.owned in
    let b = own_goes ts w kept later c.others in
    let d = sets_plus (λ k t. cond (has k kept) (w t.vertex) 0) (λ k t. cond (has k kept) 0 (cond (any_has k later) (w t.vertex) 0)) 0 ts in
    let e =
    sets_same (λ k t. cond (has k kept) (w t.vertex) 0 + cond (has k kept) 0 (cond (any_has k later) (w t.vertex) 0)) (λ k t. cond (has k (sets_from 0 ts)) (w t.vertex) 0)
    (λ k t.
    kept_or_not (has k kept) (any_has k later) (w t.vertex)
    ∙ ap (λ b. cond b (w t.vertex) 0)
    (ap (λ b. has k kept || b) (any_joined k later) ∙ sym (has-append k kept (flat_map itself later)) ∙ ap (has k) c.whole))
    0 ts in
    let f = all-present w [] 0 ts s in
    omega arith

-- NEW VERTICES
abbrev pub new_count : List Entry → List (List Entry) → ℕ
new_count kept [] = 0
new_count kept (p ∷ later) = new_sets (comes_here kept later) (groups p) + new_count kept later

new_or_own : (own : ℕ → Bool) (us : List Group) → new_sets own us + tally (own_here own (λ v. 1)) us ≡ tally (λ (t : Group). 1) us
new_or_own own [] = refl
new_or_own own (t ∷ us) = grind (arith, new_or_own own us)

new_and_own : (kept : List Entry) (ps : List (List Entry)) → new_count kept ps + own_pieces (λ v. 1) kept ps ≡ tally (λ p. tally (λ (t : Group). 1) (groups p)) ps
new_and_own kept [] = refl
new_and_own kept (p ∷ later) =
    let a = new_and_own kept later in
    let b = new_or_own (comes_here kept later) (groups p) in
    omega arith

all-groups : (ts : List LigatureSet) (ps : List (List Entry)) → AllByRecursion (Proper ts) ps → tally (λ p. tally (λ (t : Group). 1) (groups p)) ps ≡ tally opening (flat_map itself ps) + tally within ps
all-groups ts [] h = refl
all-groups ts (p ∷ ps) h =
    let a = groups_count p h.0.run in
    let b = all-groups ts ps h.1 in
    let c = tally_append opening p (flat_map itself ps) in
    omega arith

opens_within : (i : ℕ) (xs ys : List Entry) → Opens i (xs ++ ys) → within xs ≡ 0
opens_within i [] ys h = refl
opens_within i (x ∷ xs) ys h = within_not x xs h.1

-- as many new sets as parts behind the first that begin inside a set
pub new_within : (ts : List LigatureSet) (kept : List Entry) (later : List (List Entry)) → AllByRecursion SomeLigatures ts → Cut-up ts kept later → new_count kept later ≡ tally within later
new_within ts kept later s c =
    let a = new_and_own kept later in
    let b = all-groups ts later c.others in
    let d = groups_count kept c.first.run in
    let e = own_once ts (λ v. 1) kept later s c in
    let f = tally_ones ts in
    let g = sets_opening 0 ts s in
    let h : tally opening (kept ++ flat_map itself later) ≡ tally opening (sets_from 0 ts) = ap (tally opening) c.whole in
    let i = tally_append opening kept (flat_map itself later) in
    let j = opens_within 0 kept (flat_map itself later) (subst (Opens 0) (sym c.whole) (sets_open 0 ts)) in
    omega arith

-- cuts: one before each of these parts
pub cuts_inside : (ps : List (List Entry)) → tally inside (flat_map cuts_of ps) ≡ tally within ps
cuts_inside [] = refl
cuts_inside ([] ∷ ps) = let a = cuts_inside ps in omega arith
cuts_inside ((e ∷ es) ∷ ps) = let a = cuts_inside ps in omega arith

pub after_pieces_lem : (kept : List Entry) (fresh : ℕ) (ps : List (List Entry)) → after_pieces kept fresh ps ≡ fresh + (2 * length ps + new_count kept ps)
after_pieces_lem kept fresh [] = omega arith
after_pieces_lem kept fresh (p ∷ later) =
    let a = after_pieces_lem kept (fresh + 2 + new_sets (comes_here kept later) (groups p)) later in
    omega arith

-- SETS OF A PART
pub sets_weigh : (w : ℕ → ℕ) (own : ℕ → Bool) (fresh : ℕ) (us : List Group)
    → tally (λ (t : LigatureSet). w t.vertex) (sets_of own fresh us) ≡ tally (own_here own w) us + tally_up w fresh (new_sets own us)
sets_weigh w own fresh [] = refl
sets_weigh w own fresh (t ∷ us) = grind (arith, tally_up_cond w fresh (new_sets own us) (own t.set), sets_weigh w own fresh us, sets_weigh w own (suc fresh) us)

-- LIGATURES stay, in order
abbrev pub ligatures_in : List LigatureSet → List Ligature
ligatures_in ts = flat_map (λ (t : LigatureSet). t.ligatures) ts

pub sets_ligatures : (own : ℕ → Bool) (fresh : ℕ) (us : List Group) → ligatures_in (sets_of own fresh us) ≡ flat_map (λ (t : Group). t.ligatures) us
sets_ligatures own fresh [] = refl
sets_ligatures own fresh (t ∷ us) =
    cond_both (own t.set) (record { vertex = t.owner; first = t.first; ligatures = t.ligatures } ∷ sets_of own fresh us) (record { vertex = fresh; first = t.first; ligatures = t.ligatures } ∷ sets_of own (suc fresh) us)
    (λ xs. ligatures_in xs ≡ t.ligatures ++ flat_map (λ (t : Group). t.ligatures) us)
    (λ e. ap (λ q. t.ligatures ++ q) (sets_ligatures own fresh us))
    (λ e. ap (λ q. t.ligatures ++ q) (sets_ligatures own (suc fresh) us))

entries_ligatures : (i j : ℕ) (t : LigatureSet) (gs : List Ligature) → map (λ (e : Entry). e.ligature) (entries_from i j t gs) ≡ gs
entries_ligatures i j t [] = refl
entries_ligatures i j t (g ∷ gs) = ap (λ q. g ∷ q) (entries_ligatures i (suc j) t gs)

pub from_ligatures : (i : ℕ) (ts : List LigatureSet) → map (λ (e : Entry). e.ligature) (sets_from i ts) ≡ ligatures_in ts
from_ligatures i [] = refl
from_ligatures i (t ∷ ts) =
    map-append (λ (e : Entry). e.ligature) (entries_from i 0 t t.ligatures) (sets_from (suc i) ts)
    ∙ ap (λ q. q ++ map (λ (e : Entry). e.ligature) (sets_from (suc i) ts)) (entries_ligatures i 0 t t.ligatures)
    ∙ ap (λ q. t.ligatures ++ q) (from_ligatures (suc i) ts)
