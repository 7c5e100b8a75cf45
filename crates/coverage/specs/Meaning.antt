-- What a coverage codec's calls answer, by what the bytes mean to it: a glyph list and the place where it ends, or nothing.
use Rattle.std.specs.Prelude.{◌≡◌, ℕ, ◌<◌, ◌≤◌, cond, ◌⊎◌, List, [], ◌++◌, length, drop, Some, None, Ok, Err, Option, Result, nat_le, nat_lt, slice_index}
use Rattle.refusals.specs.declared.CodecFault.{CodecFault}
use Rattle.refusals.specs.declared.CodecFault.TheVariants.{NoMeaning, PastEnd, NotAdmitted, NoSpace}
use Rattle.coverage.specs.Glyphs.{is_glyph_list_of, index_in}

-- glyphs, and the number of bytes that say them
abbrev pub Meant : Type 0
Meant = List ℕ × ℕ

-- the glyphs, and none where nothing is meant
abbrev pub glyphs_meant : Option Meant → List ℕ
glyphs_meant None = []
glyphs_meant (Some m) = m.0

-- how many glyphs
abbrev pub counted : Option Meant → Result ℕ CodecFault
counted None = Err NoMeaning
counted (Some m) = Ok (length m.0)

-- where the bytes end
abbrev pub ended : Option Meant → Result ℕ CodecFault
ended None = Err NoMeaning
ended (Some m) = Ok m.1

-- the n-th glyph
abbrev pub glyph_at : Option Meant → ℕ → Result ℕ CodecFault
glyph_at None n = Err NoMeaning
glyph_at (Some m) n = cond (nat_lt n (length m.0)) (Ok (slice_index m.0 n)) (Err PastEnd)

-- where a glyph stands
abbrev pub indexed : Option Meant → ℕ → Result (Option ℕ) CodecFault
indexed None g = Err NoMeaning
indexed (Some m) g = Ok (index_in g m.0)

-- all glyphs copied to the front of a slice that held old: the answer, and what the slice then holds
abbrev pub copied : Option Meant → List ℕ → Result ℕ CodecFault × List ℕ
copied None old = (Err NoMeaning, old)
copied (Some m) old = cond (nat_le (length m.0) (length old)) (Ok (length m.0), m.0 ++ drop (length m.0) old) (Err NoSpace, old)

-- a size is told exactly of what is admitted
abbrev pub Sized : Type 0 → ℕ → Result ℕ CodecFault → Type 0
Sized admitted size (Ok n) = admitted × (n ≡ size)
Sized admitted size (Err e) = (admitted → ⊥) × (e ≡ NotAdmitted)

-- a list is written exactly if it is admitted and the slice is long enough; then the slice means that list, up to the size told
abbrev pub Written : Type 0 → ℕ → (List ℕ → Option Meant) → List ℕ → List ℕ → List ℕ → Result ℕ CodecFault → Type 0
Written admitted size meaning gs old new (Ok n) = admitted × (size ≤ length old) × (n ≡ size) × (meaning new ≡ Some (gs, size))
Written admitted size meaning gs old new (Err e) = ((admitted → ⊥) × (e ≡ NotAdmitted)) ⊎ (admitted × (length old < size) × (e ≡ NoSpace))

-- a codec that writes just these bytes for a list: the answer of a write, and what the slice then holds
abbrev pub written_as : List ℕ → List ℕ → List ℕ → Result ℕ CodecFault × List ℕ
written_as gs bytes old =
    cond (is_glyph_list_of gs)
    (cond (nat_le (length bytes) (length old)) (Ok (length bytes), bytes ++ drop (length bytes) old) (Err NoSpace, old))
    (Err NotAdmitted, old)
