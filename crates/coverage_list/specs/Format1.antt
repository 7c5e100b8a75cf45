-- Coverage format 1 of OpenType: the value 1, the number of glyphs, and the glyphs in rising order.
use Rattle.std.specs.Prelude.{ℕ, ◌+◌, ◌*◌, Bool, cond, ◌&&◌, List, ◌∷◌, length, map, Some, None, Option, ◌==◌, nat_le}
use Rattle.data_bytes.specs.BigEndian.{word16}
use Rattle.data_bytes.specs.Values.{value_bytes, values_at}
use Rattle.coverage.specs.Glyphs.{is_glyph_list_of}
use Rattle.coverage.specs.Meaning.{Meant}

-- the glyphs that stand behind the count
abbrev pub array_glyphs : List ℕ → List ℕ
array_glyphs bs = values_at bs 4 (word16 bs 2)

abbrev pub array_end : List ℕ → ℕ
array_end bs = 4 + 2 * word16 bs 2

unfoldable pub is_array : List ℕ → Bool
is_array bs = nat_le 4 (length bs) && (word16 bs 0 == 1 && (nat_le (array_end bs) (length bs) && is_glyph_list_of (array_glyphs bs)))

-- what bytes mean in format 1
unfoldable pub array_meaning : List ℕ → Option Meant
array_meaning bs = cond (is_array bs) (Some (array_glyphs bs, array_end bs)) None

-- the bytes of a list in format 1, and how many they are
abbrev pub array_bytes : List ℕ → List ℕ
array_bytes gs = value_bytes (1 ∷ length gs ∷ gs)

abbrev pub array_span : List ℕ → ℕ
array_span gs = 4 + 2 * length gs

-- the glyphs that pairs of bytes spell
abbrev pub pair_glyphs : List (List ℕ) → List ℕ
pair_glyphs pairs = map (λ pair. word16 pair 0) pairs
