-- Rules in order, and shaping: the first rule whose glyphs stand at a place.
use Rattle.std.specs.Prelude.{ℕ, zero, suc, Bool, true, false, cond, ◌&&◌, List, [], ◌∷◌, ◌++◌, map, length, drop, Some, None, Ok, Err, Option, Result, ◌==◌, nat_lt}
use Rattle.std.specs.List.{flat_map}
use Rattle.refusals.specs.declared.Refusal.{Refusal}
use Rattle.refusals.specs.declared.Refusal.TheVariants.{NoLookup, NoPlace, NoRule}
use Rattle.model.specs.Forest.{Ligature, LigatureSet, Subtable, Lookup, Model}

-- a rule: glyphs that stand one behind the other, and the ligature glyph for them
pub record Rule : Type 0 where
  pub glyphs : List ℕ
  pub ligature : ℕ

-- a rule with where it comes from: the subtable's index in the lookup, and the ligature's vertex
pub record Sourced : Type 0 where
  pub subtable : ℕ
  pub vertex : ℕ
  pub rule : Rule

abbrev pub rule_of : ℕ → Ligature → Rule
rule_of first g = record { glyphs = first ∷ g.components; ligature = g.glyph }

abbrev pub set_rules : LigatureSet → List Rule
set_rules t = map (rule_of t.first) t.ligatures

abbrev pub subtable_rules : Subtable → List Rule
subtable_rules s = flat_map set_rules s.sets

-- by subtable, set, ligature
abbrev pub rules_of : Lookup → List Rule
rules_of l = flat_map subtable_rules l.subtables

-- the same with their sources, the subtables counted from n
abbrev pub sourced : ℕ → ℕ → Ligature → Sourced
sourced n first g = record { subtable = n; vertex = g.vertex; rule = rule_of first g }

abbrev pub sourced_set : ℕ → LigatureSet → List Sourced
sourced_set n t = map (sourced n t.first) t.ligatures

abbrev pub sourced_from : ℕ → List Subtable → List Sourced
sourced_from n [] = []
sourced_from n (s ∷ ss) = flat_map (sourced_set n) s.sets ++ sourced_from (suc n) ss

abbrev pub sourced_rules : Lookup → List Sourced
sourced_rules l = sourced_from 0 l.subtables

-- SHAPING
-- the glyphs stand at the front of the string
abbrev pub stands : List ℕ → List ℕ → Bool
stands [] s = true
stands (g ∷ gs) [] = false
stands (g ∷ gs) (x ∷ xs) = g == x && stands gs xs

-- the ligature glyph and the number of components; nothing where no rule applies
pub record Shaped : Type 0 where
  pub glyph : ℕ
  pub count : ℕ

abbrev pub unshaped : Shaped
unshaped = record { glyph = 0; count = 0 }

abbrev pub first_rule : List Rule → List ℕ → Shaped
first_rule [] s = unshaped
first_rule (r ∷ rs) s = cond (stands r.glyphs s) (record { glyph = r.ligature; count = length r.glyphs }) (first_rule rs s)

-- refused where the place is not in the string
abbrev pub shape_by : List Rule → List ℕ → ℕ → Result Shaped Refusal
shape_by rs s p = cond (nat_lt p (length s)) (Ok (first_rule rs (drop p s))) (Err NoPlace)

abbrev pub nth : {X : Type 0} → List X → ℕ → Option X
nth [] n = None
nth (x ∷ xs) zero = Some x
nth (x ∷ xs) (suc n) = nth xs n

abbrev pub shape_in : Option Lookup → List ℕ → ℕ → Result Shaped Refusal
shape_in None s p = Err NoLookup
shape_in (Some l) s p = shape_by (rules_of l) s p

abbrev pub shape : Model → ℕ → List ℕ → ℕ → Result Shaped Refusal
shape m n s p = shape_in (nth m.lookups n) s p

-- RULE QUESTIONS: the subtable's index, the first glyph, the ligature's vertex
abbrev pub told : Option Sourced → Result Sourced Refusal
told None = Err NoRule
told (Some r) = Ok r

abbrev pub rule_in : Option Lookup → ℕ → Result Sourced Refusal
rule_in None k = Err NoLookup
rule_in (Some l) k = told (nth (sourced_rules l) k)

abbrev pub rule : Model → ℕ → ℕ → Result Sourced Refusal
rule m n k = rule_in (nth m.lookups n) k
