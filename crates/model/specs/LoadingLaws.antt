-- Laws of load's outcome: well-formed models load from their words, and a list of words has one outcome.
use Rattle.std.specs.Prelude.{◌≡◌, ℕ, ◌^◌, ◌<◌, ◌≤◌, List, [], ◌∷◌, map, Ok, Err, Option, Result}
use Rattle.std.specs.List.{AllByRecursion}
use Rattle.refusals.specs.declared.Refusal.{Refusal}
use Rattle.refusals.specs.declared.Refusal.TheVariants.{BadLink, BadShape, BadEntry}
use Rattle.words.specs.Grammar.{Stream, spelled}
use Rattle.coverage.specs.Meaning.{Meant}
use Rattle.model.specs.Forest.{Lookup, Taken, Model}
use Rattle.model.specs.Tables.{model_walk}
use Rattle.model.specs.Splitting.{Capacities}
use Rattle.model.specs.Sound.{GoodLookup, Good}
use Rattle.model.specs.Loading.{taken_by, Strays, Never, Holds, Loaded, tidy, stream_of, Loads}

-- each pool holds what is taken from it
pub record Enough (caps : Capacities) (t : Taken) : Type 0 where
  pub vertices : t.vertices ≤ caps.vertices
  pub links : t.links ≤ caps.links
  pub bytes : t.bytes ≤ caps.bytes

module _ (meaning : List ℕ → Option Meant) where
  -- every well-formed model with room, whose vertices a word can number, is loaded from the words of its tables
  abbrev pub ModelsLoad : Type 0
  ModelsLoad = (caps : Capacities) (m : Model) → Good meaning m → m.taken.vertices < 2 ^ 24 → Enough caps (tidy m).taken → Loads meaning caps (spelled (stream_of m)) (Ok (tidy m))

  -- every list of words has an outcome, and only one
  abbrev pub OutcomesStand : Type 0
  OutcomesStand = (caps : Capacities) (ws : List ℕ) → (r : Result Model Refusal) × Loads meaning caps ws r

  abbrev pub OutcomesUnique : Type 0
  OutcomesUnique = (caps : Capacities) (ws : List ℕ) (q r : Result Model Refusal) → Loads meaning caps ws q → Loads meaning caps ws r → q ≡ r

  -- an empty table that is a root, is no root, or has a link to a table that is not there
  abbrev pub SmallRefused : Type 0
  SmallRefused =
      (caps : Capacities) → 0 < caps.vertices → 0 < caps.links
      → Loads meaning caps (0x1000_0000 ∷ 0x7000_0000 ∷ 0x8000_0001 ∷ []) (Err (BadShape 0))
      × Loads meaning caps (0x1000_0000 ∷ 0x8000_0001 ∷ []) (Err (BadEntry 0))
      × Loads meaning caps (0x1000_0000 ∷ 0x6000_0001 ∷ 0x7000_0000 ∷ 0x8000_0001 ∷ []) (Err (BadLink 0))

  -- good lookups at the roots, all of whose tables are the stream's, are the whole stream if no vertex strays
  abbrev pub ReadingsLoad : Type 0
  ReadingsLoad =
      (s : Stream) (m : Model) → AllByRecursion (GoodLookup meaning) m.lookups → AllByRecursion (Holds s) (model_walk m) → s.roots ≡ map (λ (l : Lookup). l.vertex) m.lookups
      → Never (Strays s) → m.taken ≡ taken_by s → Loaded meaning s m
