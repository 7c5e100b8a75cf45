-- Tables laid end to end: each vertex's start is where its table stands, if no vertex stands twice.
use Rattle.std.proofs.Common.{◌≡◌, ℕ, ◌+◌, ◌<◌, ◌≤◌, eqb, List, [], ◌∷◌, ◌++◌, map, length, sym, refl, ◌∙◌, subst, append_assoc, add-zero, arith, length-append}
use Rattle.std.specs.List.{flat_map, AllByRecursion}
use Rattle.std.proofs.lemmas.Bool.{eq-eqb, cond-true}
use Rattle.std.proofs.lemmas.Bool.Decides.{nat_tests}
use Rattle.model.specs.Tables.{Slot, Placed, vertex_of, count_of}
use Rattle.model.specs.Sound.{Distinct}
use Rattle.model.specs.Writing.{Start, starts_from, start_of, filled}
use Rattle.model.proofs.Lists.{one_same}
use Rattle.model.proofs.NumberSums.{tally}
use Rattle.model.proofs.LayPlaces.{Stands, stands_behind, length_fill}

-- SIZES
abbrev pub size : Placed → ℕ
size x = length x.table.bytes

abbrev pub sizes : List Placed → ℕ
sizes xs = tally size xs

-- each slot lies in its table
abbrev pub Fits : Placed → Type 0
Fits x = AllByRecursion (λ (t : Slot). t.position + t.width ≤ size x) x.table.slots

pub length_filled : (ss : List Start) (x : Placed) → Fits x → length (filled ss x) ≡ size x
length_filled ss x f = length_fill ss x.vertex x.table.slots x.table.bytes f

pub length_laid : (ss : List Start) (xs : List Placed) → AllByRecursion Fits xs → length (flat_map (filled ss) xs) ≡ sizes xs
length_laid ss [] f = refl
length_laid ss (x ∷ xs) f =
    let a = length-append (filled ss x) (flat_map (filled ss) xs) in
    let h = length_filled ss x f.0 in
    let i = length_laid ss xs f.1 in
    omega arith

-- THE LAY
module _ (Q : Placed → Type 0) (ss : List Start) (bs : List ℕ) where
  pub record Here (p : ℕ) (x : Placed) : Type 0 where
    pub start : start_of ss x.vertex ≡ p
    pub stands : Stands bs p (filled ss x)
    pub more : Q x

  -- tables stand one behind the other from p on
  abbrev pub Laid : ℕ → List Placed → Type 0
  Laid p [] = Unit {0}
  Laid p (x ∷ xs) = Here p x × Laid (p + size x) xs

  -- a table lies between two places
  pub record Sits (low high : ℕ) (x : Placed) : Type 0 where
    pub from : low ≤ start_of ss x.vertex
    pub to : start_of ss x.vertex + size x ≤ high
    pub stands : Stands bs (start_of ss x.vertex) (filled ss x)
    pub more : Q x

  pub laid_front : (p : ℕ) (xs ys : List Placed) → Laid p (xs ++ ys) → Laid p xs
  laid_front p [] ys h = tt
  laid_front p (x ∷ xs) ys h = (h.0, laid_front (p + size x) xs ys h.1)

  pub laid_back : (p : ℕ) (xs ys : List Placed) → Laid p (xs ++ ys) → Laid (p + sizes xs) ys
  laid_back p [] ys h = subst (λ (t : ℕ). Laid t ys) (sym (add-zero p)) h
  laid_back p (x ∷ xs) ys h =
      let e : p + size x + sizes xs ≡ p + (size x + sizes xs) = omega arith in
      subst (λ (t : ℕ). Laid t ys) e (laid_back (p + size x) xs ys h.1)

  pub laid_sits : (p low high : ℕ) (xs : List Placed) → Laid p xs → low ≤ p → p + sizes xs ≤ high → AllByRecursion (Sits low high) xs
  laid_sits p low high [] h a b = tt
  laid_sits p low high (x ∷ xs) h a b =
      let e = h.0.start in (
        record { from = omega arith; to = omega arith; stands = subst (λ (t : ℕ). Stands bs t (filled ss x)) (sym e) h.0.stands; more = h.0.more },
        laid_sits (p + size x) low high xs h.1 (omega arith) (omega arith),
      )

  -- the start of a vertex that is still to come
  abbrev StartsAs : ℕ → List Placed → Type 0
  StartsAs p xs = (v : ℕ) → 0 < count_of v (map vertex_of xs) → start_of ss v ≡ start_of (starts_from p xs) v

  starts_on : (p : ℕ) (x : Placed) (xs : List Placed) → count_of x.vertex (map vertex_of xs) ≡ 0 → StartsAs p (x ∷ xs) → StartsAs (p + size x) xs
  starts_on p x xs none h v some = grind (arith, nat_tests, h v)

  pub laid : (p : ℕ) (q : List ℕ) (xs : List Placed) → bs ≡ q ++ flat_map (filled ss) xs → length q ≡ p → Distinct (map vertex_of xs) → AllByRecursion Fits xs → AllByRecursion Q xs → StartsAs p xs → Laid p xs
  laid p q [] e l d f m s = tt
  laid p q (x ∷ xs) e l d f m s =
      let o = one_same x.vertex x.vertex refl in
      let here = s x.vertex (omega arith) ∙ cond-true (eqb x.vertex x.vertex) p (start_of (starts_from (p + size x) xs) x.vertex) (eq-eqb x.vertex x.vertex refl) in
      let g : bs ≡ (q ++ filled ss x) ++ flat_map (filled ss) xs = e ∙ sym (append_assoc q (filled ss x) (flat_map (filled ss) xs)) in
      let n = length-append q (filled ss x) in
      let k = length_filled ss x f.0 in (
        record { start = here; stands = subst (λ (t : List ℕ). Stands t p (filled ss x)) (sym e) (stands_behind q (filled ss x) (flat_map (filled ss) xs) p l); more = m.0 },
        laid (p + size x) (q ++ filled ss x) xs g (omega arith) d.1 f.1 m.1 (starts_on p x xs d.0 s),
      )

-- all tables of a list that are laid from 0 on
pub laid_whole : (Q : Placed → Type 0) (xs : List Placed) → Distinct (map vertex_of xs) → AllByRecursion Fits xs → AllByRecursion Q xs
    → Laid Q (starts_from 0 xs) (flat_map (filled (starts_from 0 xs)) xs) 0 xs
laid_whole Q xs d f m = laid Q (starts_from 0 xs) (flat_map (filled (starts_from 0 xs)) xs) 0 [] xs refl refl d f m (λ v some. refl)
