use Rattle.std.proofs.Common.{◌≡◌, ◌+◌, ◌*◌, ◌++◌, [], ◌∷◌, take, get_or, slice_set, rules, ◌∙◌, append_assoc, arith}
use Rattle.std.proofs.lemmas.List.{take_more, flat_map_more}
use Rattle.std.proofs.lemmas.Grind.{take-set_at}
use Rattle.std.proofs.lemmas.Str.{IsUtf8-from_ascii}
use Rattle.std.proofs.lemmas.Str.Ascii.{IsAscii-push}
use Rattle.cover_text.specs.Text.{hex_byte, hex_text}
use Rattle.cover_text.proofs.hex_piece.Goals as goal

pub loop-i-preserved : goal.loop-i-preserved
loop-i-preserved c =
    let bs = c.args.bytes.now in
    let i = c.loop-i.i in
    let was = c.loop-i.buffer in
    let x = c.hex_digit.result in
    let y = c.hex_digit-in-loop-i.result in
    let pair : take (2 * (i + 1)) (slice_set (slice_set was (2 * i) x) (2 * i + 1) y) ≡ (take (2 * i) was ++ (x ∷ [])) ++ (y ∷ []) = search (rules, take-set_at, arith) in
    let digits : x ∷ y ∷ [] ≡ hex_byte (get_or bs i 0) = search rules in
    let text : take (2 * i) was ++ (x ∷ y ∷ []) ≡ hex_text (take (i + 1) bs) = rw digits (search (rules, flat_map_more hex_byte [], take_more)) in
    (pair ∙ append_assoc _ (x ∷ []) _ ∙ text, rw pair (search (rules, IsAscii-push)))

pub unwrap-requires : goal.unwrap-requires
unwrap-requires c = search (rules, IsUtf8-from_ascii)
