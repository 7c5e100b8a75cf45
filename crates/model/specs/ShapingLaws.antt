-- What shaping gives, in the words of the subject: the first rule, in order, with whose glyphs the string goes on at the place. And where a rule's answer points to.
use Rattle.std.specs.Prelude.{◌≡◌, ℕ, ◌<◌, List, ◌∷◌, ◌++◌, length, Some, Ok}
use Rattle.std.specs.List.{AllByRecursion}
use Rattle.model.specs.Forest.{Ligature, LigatureSet, Subtable, Lookup, Model}
use Rattle.model.specs.Rules.{Rule, unshaped, first_rule, shape_by, Sourced, rule_of, nth, rule}

-- the string begins with the glyphs of the rule
abbrev pub Begins : List ℕ → Rule → Type 0
Begins s r = (rest : List ℕ) × (s ≡ r.glyphs ++ rest)

-- the rule that comes first among those with whose glyphs the string begins
pub record FirstToApply (rs : List Rule) (s : List ℕ) (r : Rule) : Type 0 where
  pub before : List Rule
  pub behind : List Rule
  pub there : rs ≡ before ++ r ∷ behind
  pub earlier : AllByRecursion (λ (q : Rule). Begins s q → ⊥) before
  pub applies : Begins s r

pub record FirstRuleShapes : Type 0 where
  pub one : (rs : List Rule) (s : List ℕ) (r : Rule) → FirstToApply rs s r → first_rule rs s ≡ record { glyph = r.ligature; count = length r.glyphs }
  pub none : (rs : List Rule) (s : List ℕ) → AllByRecursion (λ (q : Rule). Begins s q → ⊥) rs → first_rule rs s ≡ unshaped
  pub place : (rs : List Rule) (before s : List ℕ) → 0 < length s → shape_by rs (before ++ s) (length before) ≡ Ok (first_rule rs s)

-- where the rule stands: a ligature of a set of the subtable with the index answered
pub record StandsThere (l : Lookup) (x : Sourced) : Type 0 where
  pub subtable : Subtable
  pub index : nth l.subtables x.subtable ≡ Some subtable
  pub set : LigatureSet
  pub set_at : (i : ℕ) × (nth subtable.sets i ≡ Some set)
  pub ligature : Ligature
  pub ligature_at : (j : ℕ) × (nth set.ligatures j ≡ Some ligature)
  pub vertex : x.vertex ≡ ligature.vertex
  pub rule : x.rule ≡ rule_of set.first ligature

abbrev pub RulesStandWhereTold : Type 0
RulesStandWhereTold = (m : Model) (n k : ℕ) (l : Lookup) (x : Sourced) → nth m.lookups n ≡ Some l → rule m n k ≡ Ok x → StandsThere l x
