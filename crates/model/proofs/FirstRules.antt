-- Shaping gives the first rule with whose glyphs the string begins.
use Rattle.std.proofs.Common.{◌≡◌, ℕ, ◌<◌, true, false, eqb, ltb, List, [], ◌∷◌, ◌++◌, length, Ok, sym, refl, ap, ◌∙◌, ⊎_elim, arith, length-append}
use Rattle.std.specs.List.{AllByRecursion}
use Rattle.std.proofs.lemmas.Bool.{cases_Bool, eq-eqb, eqb-true, lt-ltb, and_parts, and_from, cond-true, cond-false}
use Rattle.std.proofs.lemmas.List.{drop_at}
use Rattle.model.specs.Rules.{Rule, stands, unshaped, first_rule, shape_by}
use Rattle.model.specs.ShapingLaws.{Begins, FirstRuleShapes}

front_stands : (gs rest : List ℕ) → stands gs (gs ++ rest) ≡ true
front_stands [] rest = refl
front_stands (g ∷ gs) rest = and_from (eqb g g) (stands gs (gs ++ rest)) (eq-eqb g g refl) (front_stands gs rest)

begins_stands : (s : List ℕ) (r : Rule) → Begins s r → stands r.glyphs s ≡ true
begins_stands s r b = ap (stands r.glyphs) b.1 ∙ front_stands r.glyphs b.0

stands_front : (gs s : List ℕ) → stands gs s ≡ true → (rest : List ℕ) × (s ≡ gs ++ rest)
stands_front [] s h = (s, refl)
stands_front (g ∷ gs) [] h = cc
stands_front (g ∷ gs) (x ∷ xs) h =
    let p = and_parts (eqb g x) (stands gs xs) h in
    let q = stands_front gs xs p.1 in
    (q.0, ap (λ z. z ∷ xs) (sym (eqb-true g x p.0)) ∙ ap (λ z. g ∷ z) q.1)

passes : (s : List ℕ) (r : Rule) → (Begins s r → ⊥) → stands r.glyphs s ≡ false
passes s r never = ⊎_elim (λ t. absurd (never (stands_front r.glyphs s t))) (λ f. f) (cases_Bool (stands r.glyphs s))

one : (before : List Rule) (behind : List Rule) (s : List ℕ) (r : Rule) → AllByRecursion (λ (q : Rule). Begins s q → ⊥) before → Begins s r → first_rule (before ++ r ∷ behind) s ≡ record { glyph = r.ligature; count = length r.glyphs }
one [] behind s r a b = cond-true (stands r.glyphs s) _ _ (begins_stands s r b)
one (q ∷ before) behind s r a b = cond-false (stands q.glyphs s) _ _ (passes s q a.0) ∙ one before behind s r a.1 b

none : (rs : List Rule) (s : List ℕ) → AllByRecursion (λ (q : Rule). Begins s q → ⊥) rs → first_rule rs s ≡ unshaped
none [] s a = refl
none (q ∷ rs) s a = cond-false (stands q.glyphs s) _ _ (passes s q a.0) ∙ none rs s a.1

place : (rs : List Rule) (before s : List ℕ) → 0 < length s → shape_by rs (before ++ s) (length before) ≡ Ok (first_rule rs s)
place rs before s some =
    let n = length-append before s in
    cond-true (ltb (length before) (length (before ++ s))) _ _ (lt-ltb (length before) (length (before ++ s)) (omega arith)) ∙ ap (λ (t : List ℕ). Ok (first_rule rs t)) (drop_at before s (length before) refl)

pub first_rule_shapes : FirstRuleShapes
first_rule_shapes =
    record {
      one = λ rs s r f. ap (λ (qs : List Rule). first_rule qs s) f.there ∙ one f.before f.behind s r f.earlier f.applies;
      none = none;
      place = place;
    }
