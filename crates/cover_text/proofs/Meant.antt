-- Bytes that mean something to the OpenType codec.
use Rattle.std.proofs.Common.{◌≡◌, ℕ, ◌≤◌, ◌⊎◌, List, length, Some, None, Ok, Option, ap, inl, inr}
use Rattle.data_bytes.specs.BigEndian.{word16}
use Rattle.coverage.specs.Meaning.{Meant, glyphs_meant, counted, ended}
use Rattle.coverage_list.specs.Arrays as arrays
use Rattle.coverage_opentype.specs.OpenType.{open_type_meaning}
use Rattle.coverage_opentype.specs.Covering as ranges
use Rattle.coverage_opentype.specs.Choosing.{either, by_glyphs, by_runs}

module _ (bs gs : List ℕ) (e : ℕ) (m : open_type_meaning bs ≡ Some (gs, e)) where
  begins : (4 ≤ length bs) × ((word16 bs 0 ≡ 1) ⊎ (word16 bs 0 ≡ 2))
  begins =
      elim (either bs gs e m) [
        | by_glyphs h ↦ let a = (arrays.meaning bs gs e h).is in (a.four, inl a.one)
        | by_runs h ↦ let t = (ranges.meaning bs gs e h).is in (t.four, inr t.two)
      ]

  pub long : 4 ≤ length bs
  long = begins.0

  pub known_format : (word16 bs 0 ≡ 1) ⊎ (word16 bs 0 ≡ 2)
  known_format = begins.1

-- the meaning of bytes of which number and end are known
pub meant : (m : Option Meant) (n e : ℕ) → Ok n ≡ counted m → Ok e ≡ ended m → m ≡ Some (glyphs_meant m, e)
meant None n e h k = absurd (cc)
meant (Some p) n e h k = let q : p.1 ≡ e = cc in ap (λ z. Some (p.0, z)) q
