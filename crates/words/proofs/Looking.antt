-- The search for a row of the table of kinds.
use Rattle.std.proofs.Common.{◌≡◌, ℕ, Bool, eqb, List, [], ◌∷◌, map, refl, arith}
use Rattle.std.specs.List.{find}
use Rattle.words.specs.declared.WordKind.{WordKind}
use Rattle.words.specs.declared.KindRow.{KindRow}
use Rattle.words.specs.Words.{kind_among, row_for, row_from}

-- whether a row has the code
abbrev pub coded : ℕ → KindRow → Bool
coded c r = eqb r.code c

pub row_found : (ks : List WordKind) (c : ℕ) → find (coded c) (map row_for ks) ≡ row_from (kind_among ks c)
row_found [] c = refl
row_found (k ∷ ks) c = let i = row_found ks c in grind arith
