-- The laws of the words, of the stream that they spell, and of the first misfit.
use Rattle.std.specs.Prelude.{◌≡◌, ℕ, ◌↔◌, List, Some, Ok, Err, Result}
use Rattle.refusals.specs.declared.Refusal.{Refusal}
use Rattle.refusals.specs.declared.Refusal.TheVariants.{BadWord}
use Rattle.words.specs.declared.StreamCounts.{StreamCounts}
use Rattle.words.specs.declared.Token.{Token}
use Rattle.words.specs.Words.{Fits, word_of, token_of}
use Rattle.words.specs.Grammar.{Stream, Spells, Misfit}
use Rattle.words.specs.Reading.{parse, counts_of}

-- a word says exactly what it is spelled from
abbrev pub WordsSay : Type 0
WordsSay = (w : ℕ) (t : Token) → (token_of w ≡ Some t) ↔ (Fits t × (word_of t ≡ w))

-- a stream is accepted exactly where the words spell it; so the words spell at most one
abbrev pub StreamsSpell : Type 0
StreamsSpell = (ws : List ℕ) (s : Stream) → (parse ws ≡ Ok s) ↔ Spells ws s

-- an index is answered exactly where the first misfit is; so there is at most one
abbrev pub MisfitsTell : Type 0
MisfitsTell = (ws : List ℕ) (i : ℕ) → (parse ws ≡ Err i) ↔ Misfit ws i

-- what an answer to a list of words says: the counts of the stream that they spell, or their first misfit
abbrev pub Tells : List ℕ → Result StreamCounts Refusal → Type 0
Tells ws (Ok c) = (s : Stream) × Spells ws s × (c ≡ counts_of s)
Tells ws (Err e) = (i : ℕ) × Misfit ws i × (e ≡ BadWord i)
