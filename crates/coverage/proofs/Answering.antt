-- What the answers of a codec tell of the meaning behind them.
use Rattle.std.proofs.Common.{◌≡◌, ℕ, ◌<◌, ◌≤◌, true, List, ◌++◌, length, get_or, drop, Some, None, Ok, Err, Option, Result, sym, refl, ap, ◌∙◌, arith}
use Rattle.std.proofs.lemmas.List.{ext_get_or}
use Rattle.std.specs.Ordering.{nat_cmp}
use Rattle.std.specs.Result.{result_map_both}
use Rattle.std.specs.declared.cmp.Ordering.{Ordering}
use Rattle.std.proofs.lemmas.Bool.{lt-ltb, le-ltb, le-leb, lt-leb, cond-true, cond-false}
use Rattle.refusals.specs.declared.CodecFault.{CodecFault}
use Rattle.refusals.specs.declared.CodecFault.TheVariants.{NoMeaning, PastEnd, NoSpace}
use Rattle.coverage.specs.Glyphs.{GlyphList, rises, index_in}
use Rattle.coverage.specs.Meaning.{Meant, glyphs_meant, counted, glyph_at, indexed, copied}
use Rattle.coverage.specs.Halving.{IsHalvingResult}
use Rattle.coverage.proofs.Lists.{listed}
use Rattle.coverage.proofs.Halves.{index_halved}

-- bytes that mean something
pub record Means (m : Option Meant) (n : ℕ) : Type 0 where
  pub end : ℕ
  pub is : m ≡ Some (glyphs_meant m, end)
  pub count : length (glyphs_meant m) ≡ n

pub means_counted : (m : Option Meant) (n : ℕ) → Ok n ≡ counted m → Means m n
means_counted None n h = absurd (cc)
means_counted (Some p) n h = record { end = p.1; is = refl; count = cc }

pub counted_fault : (m : Option Meant) (e : CodecFault) → Err e ≡ counted m → (e ≡ NoMeaning) × (m ≡ None)
counted_fault None e h = (cc, refl)
counted_fault (Some p) e h = absurd (cc)

-- the n-th glyph, where there is one
pub glyph_within : (m : Option Meant) (n k : ℕ) → Means m n → k < n → glyph_at m k ≡ Ok (get_or (glyphs_meant m) k 0)
glyph_within m n k s lt =
    let c = s.count in
    ap (λ t. glyph_at t k) s.is ∙ cond-true _ _ _ (lt-ltb k (length (glyphs_meant m)) (omega arith))

pub glyph_is : (m : Option Meant) (n k g : ℕ) → Means m n → k < n → Ok g ≡ glyph_at m k → g ≡ get_or (glyphs_meant m) k 0
glyph_is m n k g s lt h = let w = glyph_within m n k s lt in cc

pub glyph_no_fault : (m : Option Meant) (n k : ℕ) (e : CodecFault) → Means m n → k < n → Err e ≡ glyph_at m k → ⊥
glyph_no_fault m n k e s lt h = let w = glyph_within m n k s lt in let z : ◌≡◌ {A = ℕ} 0 1 = cc in omega arith

pub glyph_past : (m : Option Meant) (n k : ℕ) → Means m n → n ≤ k → glyph_at m k ≡ Err PastEnd
glyph_past m n k s le =
    let c = s.count in
    ap (λ t. glyph_at t k) s.is ∙ cond-false _ _ _ (le-ltb k (length (glyphs_meant m)) (omega arith))

pub indexed_by : (m : Option Meant) (n g : ℕ) (i : Option ℕ) → Means m n → index_in g (glyphs_meant m) ≡ i → Ok i ≡ indexed m g
indexed_by m n g i s e = ap Ok (sym e) ∙ sym (ap (λ t. indexed t g) s.is)

-- searching by halving: each call compares a glyph
abbrev pub compared : Option Meant → ℕ → ℕ → Result Ordering CodecFault
compared m g k = result_map_both (λ here. nat_cmp here g) (λ fault. fault) (glyph_at m k)

module _ (m : Option Meant) (n g : ℕ) (lists : (gs : List ℕ) (e : ℕ) → m ≡ Some (gs, e) → GlyphList gs) (count : Ok n ≡ counted m) where
  abbrev gs : List ℕ
  gs = glyphs_meant m

  means : Means m n
  means = means_counted m n count

  up : rises gs ≡ true
  up = (listed gs (lists gs means.end means.is)).rise

  compared_is : (k : ℕ) → k < n → compared m g k ≡ Ok (nat_cmp (get_or gs k 0) g)
  compared_is k lt = ap (result_map_both (λ here. nat_cmp here g) (λ fault. fault)) (glyph_within m n k means lt)

  pub indexed_halved : (r : Result (Option ℕ) CodecFault) → IsHalvingResult (compared m g) n r → r ≡ indexed m g
  indexed_halved (Ok i) at = indexed_by m n g i means (index_halved (compared m g) gs g n up means.count compared_is i at)
  indexed_halved (Err e) at = let w = compared_is at.0 at.1 in let w' = at.2 in cc

-- copying: each place holds what is answered of it
pub copied_each : (m : Option Meant) (n : ℕ) (xs old : List ℕ) → Ok n ≡ counted m → length xs ≡ n → n ≤ length old → ((k : ℕ) → k < n → Ok (get_or xs k 0) ≡ glyph_at m k) → (Ok n, xs ++ drop n old) ≡ copied m old
copied_each m n xs old h long room at =
    let s = means_counted m n h in
    let c = s.count in
    let gs = glyphs_meant m in
    let same : xs ≡ gs = ext_get_or 0 xs gs (omega arith) (λ k lt. glyph_is m n k (get_or xs k 0) s (omega arith) (at k (omega arith))) in
    let out : copied m old ≡ (Ok (length gs), gs ++ drop (length gs) old) = ap (λ z. copied z old) s.is ∙ cond-true _ _ _ (le-leb (length gs) (length old) (omega arith)) in
    cc

pub copied_no_space : (m : Option Meant) (n : ℕ) (old : List ℕ) → Means m n → length old < n → (Err NoSpace, old) ≡ copied m old
copied_no_space m n old s lt =
    let c = s.count in
    sym (ap (λ z. copied z old) s.is ∙ cond-false _ _ _ (lt-leb (length (glyphs_meant m)) (length old) (omega arith)))

pub copied_fault : (m : Option Meant) (e : CodecFault) (old : List ℕ) → Err e ≡ counted m → (Err e, old) ≡ copied m old
copied_fault m e old h =
    let f = counted_fault m e h in
    ap (λ z. (Err z, old)) f.0 ∙ sym (ap (λ z. copied z old) f.1)

pub indexed_fault : (m : Option Meant) (e : CodecFault) (g : ℕ) → Err e ≡ counted m → Err e ≡ indexed m g
indexed_fault m e g h =
    let f = counted_fault m e h in
    ap Err f.0 ∙ sym (ap (λ z. indexed z g) f.1)
