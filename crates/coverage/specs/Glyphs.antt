-- Glyph lists as coverage tables hold them, and where a glyph stands in one.
use Rattle.std.specs.Prelude.{◌≡◌, ℕ, suc, Bool, true, cond, ◌&&◌, List, [], ◌∷◌, length, Some, None, Option, ◌==◌, nat_le, nat_lt}

-- the list goes on upwards from x
abbrev pub above : ℕ → List ℕ → Bool
above x [] = true
above x (y ∷ ys) = nat_lt x y && above y ys

-- each glyph is larger than the one before it
abbrev pub rises : List ℕ → Bool
rises [] = true
rises (x ∷ xs) = above x xs

-- each glyph has 16 bits
abbrev pub small : List ℕ → Bool
small [] = true
small (x ∷ xs) = nat_lt x 65536 && small xs

-- what a coverage may cover: 1 to 65,535 glyphs of 16 bits, in rising order
unfoldable pub is_glyph_list_of : List ℕ → Bool
is_glyph_list_of gs = nat_lt 0 (length gs) && (nat_le (length gs) 65535 && (rises gs && small gs))

abbrev pub GlyphList : List ℕ → Type 0
GlyphList gs = is_glyph_list_of gs ≡ true

abbrev pub one_on : Option ℕ → Option ℕ
one_on None = None
one_on (Some k) = Some (suc k)

-- the index of the first g of a list, if there is any
abbrev pub index_in : ℕ → List ℕ → Option ℕ
index_in g [] = None
index_in g (x ∷ xs) = cond (x == g) (Some 0) (one_on (index_in g xs))
