use Rattle.std.proofs.Common.{◌≡◌, ℕ, List, ◌++◌, string_bytes, codes, append_assoc, ◌∙◌, ap, rules}
use Rattle.coverage_list.specs.Format1.{array_bytes}
use Rattle.coverage_opentype.specs.OpenType.{open_type_bytes}
use Rattle.cover_text.specs.Text.{format_line_of, glyphs_line_of, list_line_of, writes_line_of}
use Rattle.cover_text.proofs.lines.Goals as goal

-- a text that grew by a line at a time
grown : (a b c d e t u v w x : List ℕ) → t ≡ a → u ≡ t ++ b → v ≡ u ++ c → w ≡ v ++ d → x ≡ w ++ e → x ≡ a ++ (b ++ (c ++ (d ++ e)))
grown a b c d e t u v w x ta ub vc wd xe = rw (xe, wd, vc, ub, ta) (simp append_assoc)

pub returns : goal.returns
unfolding format_line_of glyphs_line_of list_line_of writes_line_of
returns c =
    let bs = c.args.bytes.now in
    let gs = c.args.glyphs.now in
    let first : string_bytes c.writeln.new.self ≡ format_line_of bs c.args.end = search rules in
    let second : string_bytes c.writeln-2.new.self ≡ string_bytes c.writeln.new.self ++ glyphs_line_of gs = search rules in
    let third : string_bytes c.writeln-3.new.self ≡ string_bytes c.writeln-2.new.self ++ list_line_of bs = c.in_ok-writeln-3.ensures.bytes in
    let fourth : string_bytes c.writeln-4.new.self ≡ string_bytes c.writeln-3.new.self ++ writes_line_of (codes "OpenType codec") (open_type_bytes gs) = search rules in
    let fifth : string_bytes c.writeln-5.new.self ≡ string_bytes c.writeln-4.new.self ++ writes_line_of (codes "list codec") (array_bytes gs) =
    c.in_ok-writeln-5.ensures.bytes ∙ ap (λ z. string_bytes c.writeln-4.new.self ++ writes_line_of (codes "list codec") z) (c.deref-2.ensures.value ∙ c.in_ok-list.ensures) in
    grown _ _ _ _ _ _ _ _ _ _ first second third fourth fifth
