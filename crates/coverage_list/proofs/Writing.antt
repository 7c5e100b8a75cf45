-- Writing an array: what the slice holds meanwhile, and what is answered.
use Rattle.std.proofs.Common.{◌≡◌, ℕ, ◌+◌, ◌*◌, ◌<◌, ◌≤◌, List, [], ◌∷◌, ◌++◌, length, take, drop, Some, Err, sym, ap, ◌∙◌, arith, length-append}
use Rattle.std.specs.Prelude.{slice_index}
use Rattle.std.proofs.lemmas.List.{take_more, length-take-le}
use Rattle.std.proofs.lemmas.Bool.{lt-leb, cond-true, cond-false}
use Rattle.refusals.specs.declared.CodecFault.TheVariants.{NoSpace}
use Rattle.data_bytes.specs.BigEndian.{put16}
use Rattle.data_bytes.specs.Values.{value_bytes}
use Rattle.data_bytes.proofs.ValueLists.{length-value_bytes, value_bytes-append, laid, lay_value}
use Rattle.coverage.specs.Glyphs.{GlyphList}
use Rattle.coverage.specs.Meaning.{written_as}
use Rattle.coverage_list.specs.Format1.{array_meaning, array_bytes, array_span}
use Rattle.coverage_list.specs.Arrays.{length-array_bytes, bytes_mean}

-- an array's bytes up to the first i glyphs, and then what was there
abbrev pub written_to : List ℕ → ℕ → List ℕ → List ℕ
written_to gs i old = value_bytes (1 ∷ length gs ∷ take i gs) ++ drop (4 + 2 * i) old

pub written_more : (gs old now : List ℕ) (i : ℕ) → i < length gs → array_span gs ≤ length old → now ≡ written_to gs i old → put16 now (4 + 2 * i) (slice_index gs i) ≡ written_to gs (i + 1) old
written_more gs old now i lt room e =
    let g = slice_index gs i in
    let xs = 1 ∷ length gs ∷ take i gs in
    let l = length-take-le i gs (omega arith) in
    let l1 : length (value_bytes xs) ≡ 4 + 2 * i = length-value_bytes xs ∙ omega arith in
    let l2 : length (value_bytes (xs ++ g ∷ [])) ≡ 4 + 2 * (i + 1) = ap length (value_bytes-append xs (g ∷ [])) ∙ omega (arith, length-append (value_bytes xs) (value_bytes (g ∷ []))) in
    let s = lay_value (value_bytes xs) old (4 + 2 * i) g (sym l1) (omega arith) in
    ap (λ z. put16 z (4 + 2 * i) g) (e ∙ ap (λ n. value_bytes xs ++ drop n old) (sym l1))
    ∙ s
    ∙ ap (λ z. laid z old) (sym (value_bytes-append xs (g ∷ [])))
    ∙ ap (λ n. value_bytes (xs ++ g ∷ []) ++ drop n old) l2
    ∙ ap (λ t. value_bytes (1 ∷ length gs ∷ t) ++ drop (4 + 2 * (i + 1)) old) (sym (take_more gs i 0 lt))

pub wrote_means : (gs old now : List ℕ) → GlyphList gs → now ≡ array_bytes gs ++ drop (array_span gs) old → array_meaning now ≡ Some (gs, array_span gs)
wrote_means gs old now g w = ap array_meaning w ∙ bytes_mean gs (drop (array_span gs) old) g

pub wrote_no_space : (gs old : List ℕ) → GlyphList gs → length old < array_span gs → (Err NoSpace, old) ≡ written_as gs (array_bytes gs) old
wrote_no_space gs old g lt =
    let l = length-array_bytes gs in
    sym (cond-true _ _ _ g ∙ cond-false _ _ _ (lt-leb (length (array_bytes gs)) (length old) (omega arith)))
