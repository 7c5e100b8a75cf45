-- A split without cuts changes nothing.
use Rattle.std.proofs.Common.{◌≡◌, ℕ, zero, suc, ◌+◌, Bool, List, [], ◌∷◌, ◌++◌, length, set, Some, sum_by, sym, refl, ap, ◌∙◌, add-zero, arith}
use Rattle.std.specs.List.{flat_map}
use Rattle.std.proofs.lemmas.List.{length-append, nil_from_length}
use Rattle.model.specs.Forest.{Subtable, Lookup, Taken, Model}
use Rattle.model.specs.Rules.{nth}
use Rattle.model.specs.Cutting.{Entry, entries, parts, Cut, cuts}
use Rattle.model.specs.Splitting.{Part, Bill, divided, after_divided, split_all, split_lookup, is_wrapped, all_cuts, cut_vertices, cut_links, divided_parts, all_parts, lookup_part, taken_parts, split_bill, taken_with, with_lookup, Changed}
use Rattle.model.specs.KeepingLaws.{SplitsWithoutCutsChangeNothing}
use Rattle.model.proofs.KeepParts.{parts_are_cuts_and_one}
use Rattle.model.proofs.KeepModels.{split_made}

-- OF A SUBTABLE
one_part : (wrapped : Bool) (wrote : ℕ → List ℕ) (fresh : ℕ) (s : Subtable) (ps : List (List Entry)) → length ps ≡ 1 → (divided wrapped wrote fresh s ps ≡ s ∷ []) × (divided_parts wrapped fresh s ps ≡ [])
one_part wrapped wrote fresh s [] h = absurd (omega arith)
one_part wrapped wrote fresh s (p ∷ []) h = (refl, refl)
one_part wrapped wrote fresh s (p ∷ q ∷ ps) h = absurd (omega arith)

module _ (ceiling : ℕ) (wrapped : Bool) (wrote : ℕ → List ℕ) where
  uncut : (fresh : ℕ) (s : Subtable) → length (cuts ceiling s) ≡ 0 → (divided wrapped wrote fresh s (parts ceiling (entries s)) ≡ s ∷ []) × (divided_parts wrapped fresh s (parts ceiling (entries s)) ≡ [])
  uncut fresh s h = one_part wrapped wrote fresh s (parts ceiling (entries s)) (let p = parts_are_cuts_and_one ceiling s in omega arith)

  -- OF SUBTABLES
  pub all_uncut : (fresh : ℕ) (ss : List Subtable) → length (flat_map (cuts ceiling) ss) ≡ 0 → split_all ceiling wrapped wrote fresh ss ≡ ss
  all_uncut fresh [] h = refl
  all_uncut fresh (s ∷ ss) h =
      let l = length-append (cuts ceiling s) (flat_map (cuts ceiling) ss) in
      let next : ℕ = after_divided wrapped fresh (parts ceiling (entries s)) in
      ap (λ (u : List Subtable). u ++ split_all ceiling wrapped wrote next ss) (uncut fresh s (omega arith)).0
      ∙ ap (λ (u : List Subtable). s ∷ u) (all_uncut next ss (omega arith))

  all_parts_none : (fresh : ℕ) (ss : List Subtable) → length (flat_map (cuts ceiling) ss) ≡ 0 → all_parts ceiling wrapped fresh ss ≡ []
  all_parts_none fresh [] h = refl
  all_parts_none fresh (s ∷ ss) h =
      let l = length-append (cuts ceiling s) (flat_map (cuts ceiling) ss) in
      let next : ℕ = after_divided wrapped fresh (parts ceiling (entries s)) in
      ap (λ (u : List Part). u ++ all_parts ceiling wrapped next ss) (uncut fresh s (omega arith)).1
      ∙ all_parts_none next ss (omega arith)

-- OF A LOOKUP
pub uncut_lookup : (ceiling : ℕ) (wrote : ℕ → List ℕ) (fresh : ℕ) (l : Lookup) → length (all_cuts ceiling l) ≡ 0 → split_lookup ceiling wrote fresh l ≡ l
uncut_lookup c wrote fresh l h =
    ap (λ (ss : List Subtable). record { vertex = l.vertex; kind = l.kind; flag = l.flag; mark = l.mark; subtables = ss })
    (all_uncut c (is_wrapped l) wrote fresh l.subtables h)

abbrev nothing : Bill
nothing = record { vertices = 0; links = 0; bytes = 0 }

pub uncut_bill : (ceiling : ℕ) (wrote : ℕ → List ℕ) (m : Model) (l : Lookup) → length (all_cuts ceiling l) ≡ 0 → split_bill ceiling m l ≡ nothing
uncut_bill c wrote m l h =
    let none = nil_from_length (all_cuts c l) h in
    let all : taken_parts c m.taken.vertices l ≡ [] =
    ap (λ (u : List Part). u ++ lookup_part c l (all_cuts c l)) (all_parts_none c (is_wrapped l) wrote m.taken.vertices l.subtables h)
    ∙ ap (lookup_part c l) none in
    ap (λ (k : List Cut). record { vertices = sum_by (cut_vertices (is_wrapped l)) k; links = sum_by (cut_links (is_wrapped l)) k; bytes = sum_by (λ (p : Part). p.reserved) (taken_parts c m.taken.vertices l) }) none
    ∙ ap (λ (k : List Part). record { vertices = 0; links = 0; bytes = sum_by (λ (p : Part). p.reserved) k }) all

-- OF A MODEL
set_found : {X : Type 0} (xs : List X) (n : ℕ) (x : X) → nth xs n ≡ Some x → set xs n x ≡ xs
set_found [] n x h = refl
set_found (y ∷ ys) zero x h = let e : x ≡ y = cc in ap (λ z. z ∷ ys) e
set_found (y ∷ ys) (suc n) x h = ap (λ zs. y ∷ zs) (set_found ys n x h)

takes_nothing : (t : Taken) → taken_with t nothing ≡ t
takes_nothing t =
    ap (λ (k : ℕ). record { vertices = k; links = t.links + 0; bytes = t.bytes + 0 }) (add-zero t.vertices)
    ∙ ap (λ (k : ℕ). record { vertices = t.vertices; links = k; bytes = t.bytes + 0 }) (add-zero t.links)
    ∙ ap (λ (k : ℕ). record { vertices = t.vertices; links = t.links; bytes = k }) (add-zero t.bytes)

pub splits_without_cuts_change_nothing_lem : SplitsWithoutCutsChangeNothing
splits_without_cuts_change_nothing_lem caps wrote m n ceiling c h none =
    let a = split_made caps wrote m n ceiling c h in
    let cs : length (all_cuts ceiling a.lookup) ≡ 0 = sym (ap (λ (d : Changed). d.count) a.is) ∙ none in
    a.made
    ∙ ap (λ (k : Lookup). with_lookup m n k (split_bill ceiling m a.lookup)) (uncut_lookup ceiling wrote m.taken.vertices a.lookup cs)
    ∙ ap (with_lookup m n a.lookup) (uncut_bill ceiling wrote m a.lookup cs)
    ∙ ap (λ (ls : List Lookup). record { lookups = ls; taken = taken_with m.taken nothing }) (set_found m.lookups n a.lookup a.found)
    ∙ ap (λ (t : Taken). record { lookups = m.lookups; taken = t }) (takes_nothing m.taken)
