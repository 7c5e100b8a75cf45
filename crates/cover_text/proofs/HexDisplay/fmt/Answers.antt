use Rattle.std.proofs.Common.{◌++◌, rules, sym, ap, ◌∙◌, append_assoc}
use Rattle.std.proofs.lemmas.List.Concat.{flat_map-append}
use Rattle.std.proofs.Output.{has_written_append}
use Rattle.std.specs.Slice.Iter.{chunks_rest}
use Rattle.cover_text.specs.Text.{hex_byte, hex_text}
use Rattle.cover_text.proofs.HexDisplay.fmt.Goals as goal

pub loop-bytes-preserved : goal.loop-bytes-preserved
loop-bytes-preserved g c =
    let bs = c.in-Some.bytes.now in
    let rest = chunks_rest c.next.new.self in
    let steps = c.in-Some.ensures.steps in (
      search rules,
      tt,
      steps.0 ∙ c.loop-bytes.invariant.2,
      λ plain.
          let so_far = c.loop-bytes.invariant.3 plain in (
            so_far.0 ++ hex_text bs,
            has_written_append _ _ _ _ _ _ so_far.1 (search rules),
            append_assoc so_far.0 (hex_text bs) (hex_text rest)
                ∙ ap (λ t. so_far.0 ++ t) (sym (flat_map-append hex_byte bs rest) ∙ sym (ap hex_text steps.1.0))
                ∙ so_far.2,
          ),
    )
