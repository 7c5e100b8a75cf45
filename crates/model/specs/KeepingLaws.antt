-- What splitting and wrapping keep: rules, shaping, sizes, well-formed lookups; and how many subtables are new.
use Rattle.std.specs.Prelude.{◌≡◌, ℕ, ◌+◌, ◌≤◌, Bool, List, ◌++◌, map, length, Some, None, Ok, Err, Option, Result, ◌≢◌}
use Rattle.std.specs.List.{flat_map, AllByRecursion}
use Rattle.refusals.specs.declared.Refusal.{Refusal}
use Rattle.coverage.specs.Meaning.{Meant}
use Rattle.model.specs.Forest.{Subtable, Lookup, Model}
use Rattle.model.specs.Rules.{Rule, Sourced, nth, subtable_rules, rules_of, sourced_rules, shape, rule}
use Rattle.model.specs.Cutting.{entries, parts, subtable_size}
use Rattle.model.specs.Splitting.{Capacities, Changed, divided, is_wrapped, split_lookup, split, wrap_lookup, wrap, all_cuts, subtables_after, first_long, subtable_limit, all_renewed, renewed_in}
use Rattle.model.specs.Sound.{GoodSet, GoodLookup, glyphs_of, WroteWell}

-- RULES: a rule with the vertex of its ligature, in whatever subtable it stands
pub record Named : Type 0 where
  pub vertex : ℕ
  pub rule : Rule

abbrev pub named : Sourced → Named
named r = record { vertex = r.vertex; rule = r.rule }

abbrev pub named_rules : Lookup → List Named
named_rules l = map named (sourced_rules l)

-- the answer to a rule question, the index of the subtable apart
abbrev pub answered : Result Sourced Refusal → Result Named Refusal
answered (Ok r) = Ok (named r)
answered (Err r) = Err r

abbrev pub rules_in : Option Lookup → Option (List Rule)
rules_in None = None
rules_in (Some l) = Some (rules_of l)

abbrev pub named_in : Option Lookup → Option (List Named)
named_in None = None
named_in (Some l) = Some (named_rules l)

-- a change of lookup n: each lookup has its rules as before, in order and with the same ligature vertices, so that
-- shaping and rule questions are answered as before; the other lookups are the same
pub record SameRules (n : ℕ) (before after : Model) : Type 0 where
  pub rules : (k : ℕ) → rules_in (nth after.lookups k) ≡ rules_in (nth before.lookups k)
  pub named : (k : ℕ) → named_in (nth after.lookups k) ≡ named_in (nth before.lookups k)
  pub shapes : (k : ℕ) (s : List ℕ) (p : ℕ) → shape after k s p ≡ shape before k s p
  pub answers : (k j : ℕ) → answered (rule after k j) ≡ answered (rule before k j)
  pub others : (k : ℕ) → (k ≢ n) → nth after.lookups k ≡ nth before.lookups k
  pub count : length after.lookups ≡ length before.lookups

-- whatever a subtable becomes, its rules stay
abbrev pub DivisionsKeepRules : Type 0
DivisionsKeepRules =
    (ceiling : ℕ) (wrapped : Bool) (wrote : ℕ → List ℕ) (fresh : ℕ) (s : Subtable)
    → flat_map subtable_rules (divided wrapped wrote fresh s (parts ceiling (entries s))) ≡ subtable_rules s

abbrev pub SplittingKeepsRules : Type 0
SplittingKeepsRules =
    (caps : Capacities) (wrote : ℕ → List ℕ) (m : Model) (n ceiling : ℕ) (c : Changed) → split caps wrote m n ceiling ≡ Ok c → SameRules n m c.model

abbrev pub WrappingKeepsRules : Type 0
WrappingKeepsRules = (caps : Capacities) (m : Model) (n : ℕ) (c : Changed) → wrap caps m n ≡ Ok c → SameRules n m c.model

-- SIZES, coverage apart: of each subtable of a lookup
abbrev pub Within : ℕ → Lookup → Type 0
Within bound l = AllByRecursion (λ (s : Subtable). subtable_size s ≤ bound) l.subtables

-- of each subtable of lookup n, if there is one
abbrev pub WithinIn : ℕ → Option Lookup → Type 0
WithinIn bound None = Unit {0}
WithinIn bound (Some l) = Within bound l

abbrev pub WithinAt : ℕ → Model → ℕ → Type 0
WithinAt bound m n = WithinIn bound (nth m.lookups n)

-- whatever a subtable becomes is no larger than it was
abbrev pub DivisionsDoNotGrow : Type 0
DivisionsDoNotGrow =
    (ceiling : ℕ) (wrapped : Bool) (wrote : ℕ → List ℕ) (fresh : ℕ) (s : Subtable)
    → AllByRecursion (λ (t : Subtable). subtable_size t ≤ subtable_size s) (divided wrapped wrote fresh s (parts ceiling (entries s)))

-- after a split none of the lookup is above the ceiling; and whatever bound held of a lookup still does
pub record SplitSizes (n ceiling : ℕ) (before after : Model) : Type 0 where
  pub within : WithinAt ceiling after n
  pub kept : (bound k : ℕ) → WithinAt bound before k → WithinAt bound after k

abbrev pub SplitSubtablesAreWithinTheCeiling : Type 0
SplitSubtablesAreWithinTheCeiling =
    (caps : Capacities) (wrote : ℕ → List ℕ) (m : Model) (n ceiling : ℕ) (c : Changed) → split caps wrote m n ceiling ≡ Ok c → SplitSizes n ceiling m c.model

abbrev pub WrappingKeepsSizes : Type 0
WrappingKeepsSizes =
    (caps : Capacities) (m : Model) (n : ℕ) (c : Changed) → wrap caps m n ≡ Ok c → (bound k : ℕ) → WithinAt bound m k → WithinAt bound c.model k

-- WELL-FORMED LOOKUPS
-- if no ligature is too long, and of each new coverage such bytes were written as mean its glyphs
abbrev pub SplittingKeepsLookupsWellFormed : Type 0
SplittingKeepsLookupsWellFormed =
    (caps : Capacities) (meaning : List ℕ → Option Meant) (span : List ℕ → ℕ) (ceiling : ℕ) (wrote : ℕ → List ℕ) (fresh : ℕ) (l : Lookup)
    → GoodLookup meaning l
    → first_long ceiling l.subtables ≡ None
    → subtables_after ceiling l ≤ subtable_limit
    → AllByRecursion (WroteWell meaning span wrote) (all_renewed ceiling (is_wrapped l) wrote fresh l.subtables)
    → GoodLookup meaning (split_lookup ceiling wrote fresh l)

abbrev pub WrappingKeepsLookupsWellFormed : Type 0
WrappingKeepsLookupsWellFormed = (meaning : List ℕ → Option Meant) (fresh : ℕ) (l : Lookup) → GoodLookup meaning l → GoodLookup meaning (wrap_lookup fresh l)

-- the same of the lookups of a model
abbrev pub AcceptedSplitsKeepLookupsWellFormed : Type 0
AcceptedSplitsKeepLookupsWellFormed =
    (caps : Capacities) (meaning : List ℕ → Option Meant) (span : List ℕ → ℕ) (wrote : ℕ → List ℕ) (m : Model) (n ceiling : ℕ) (c : Changed)
    → split caps wrote m n ceiling ≡ Ok c
    → AllByRecursion (GoodLookup meaning) m.lookups
    → AllByRecursion (WroteWell meaning span wrote) (renewed_in ceiling wrote m.taken.vertices (nth m.lookups n))
    → AllByRecursion (GoodLookup meaning) c.model.lookups

abbrev pub AcceptedWrapsKeepLookupsWellFormed : Type 0
AcceptedWrapsKeepLookupsWellFormed =
    (caps : Capacities) (meaning : List ℕ → Option Meant) (m : Model) (n : ℕ) (c : Changed)
    → wrap caps m n ≡ Ok c
    → AllByRecursion (GoodLookup meaning) m.lookups
    → AllByRecursion (GoodLookup meaning) c.model.lookups

-- GLYPHS: a list that stands somewhere in another
pub record PartOf (part all : List ℕ) : Type 0 where
  pub before : List ℕ
  pub behind : List ℕ
  pub is : all ≡ before ++ (part ++ behind)

-- the glyphs of whatever a subtable becomes are a contiguous part of its own
abbrev pub EachCoverageHasAPartOfTheGlyphs : Type 0
EachCoverageHasAPartOfTheGlyphs =
    (ceiling : ℕ) (wrapped : Bool) (wrote : ℕ → List ℕ) (fresh : ℕ) (s : Subtable)
    → AllByRecursion GoodSet s.sets
    → AllByRecursion (λ (t : Subtable). PartOf (glyphs_of t) (glyphs_of s)) (divided wrapped wrote fresh s (parts ceiling (entries s)))

-- HOW MANY ARE NEW
abbrev pub NewSubtablesAreCountedByCuts : Type 0
NewSubtablesAreCountedByCuts =
    (ceiling : ℕ) (wrote : ℕ → List ℕ) (fresh : ℕ) (l : Lookup) → length (split_lookup ceiling wrote fresh l).subtables ≡ length l.subtables + length (all_cuts ceiling l)

-- an accepted split that makes no subtable leaves the model as it was
abbrev pub SplitsWithoutCutsChangeNothing : Type 0
SplitsWithoutCutsChangeNothing =
    (caps : Capacities) (wrote : ℕ → List ℕ) (m : Model) (n ceiling : ℕ) (c : Changed) → split caps wrote m n ceiling ≡ Ok c → c.count ≡ 0 → c.model ≡ m

-- HEADS: what a lookup is but for its subtables
pub record Headed (type : ℕ) (before : Lookup) (after : Option Lookup) : Type 0 where
  pub lookup : Lookup
  pub there : after ≡ Some lookup
  pub kind : lookup.kind ≡ type
  pub vertex : lookup.vertex ≡ before.vertex
  pub flag : lookup.flag ≡ before.flag
  pub mark : lookup.mark ≡ before.mark

abbrev pub SplittingKeepsHeads : Type 0
SplittingKeepsHeads =
    (caps : Capacities) (wrote : ℕ → List ℕ) (m : Model) (n ceiling : ℕ) (l : Lookup) (c : Changed)
    → nth m.lookups n ≡ Some l → split caps wrote m n ceiling ≡ Ok c → Headed l.kind l (nth c.model.lookups n)

abbrev pub WrappingKeepsHeads : Type 0
WrappingKeepsHeads =
    (caps : Capacities) (m : Model) (n : ℕ) (l : Lookup) (c : Changed)
    → nth m.lookups n ≡ Some l → wrap caps m n ≡ Ok c → Headed 7 l (nth c.model.lookups n)
