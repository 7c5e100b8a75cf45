use Rattle.std.proofs.Common.{◌≡◌, ◌*◌, take, IsAscii}
use Rattle.cover_text.specs.Text.{hex_text}
use Rattle.cover_text.proofs.hex_piece.Given as goal

abbrev pub invariant-loop-i : goal.invariant-loop-i
invariant-loop-i l = (take (2 * l.i) l.buffer ≡ hex_text (take l.i l.bytes)) × IsAscii (take (2 * l.i) l.buffer)
