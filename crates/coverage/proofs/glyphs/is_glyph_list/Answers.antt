use Rattle.std.proofs.Common.{◌<◌, ◌≤◌, length, sym, ap, ◌∙◌, ltb, rules, arith}
use Rattle.std.proofs.lemmas.List.{map-id}
use Rattle.std.proofs.lemmas.List.Sorted.{answers_always}
use Rattle.std.proofs.lemmas.Grind.{common_steps}
use Rattle.coverage.specs.Glyphs.{rises}
use Rattle.coverage.proofs.Lists.{rises_by, list_of_rise, no_list}
use Rattle.coverage.proofs.glyphs.is_glyph_list.Goals as goal

pub returns-then-contains : goal.returns-then-contains
returns-then-contains c =
    let gs = c.args.glyphs.now in
    let some : 0 < length gs = search rules in
    let few : length gs ≤ 65535 = grind (arith, common_steps) in
    rises_by (λ x. x) gs _ (c.is_sorted_by.ensures.cases ltb (answers_always _ _ _ (λ f a r g h. search rules)))
    ∙ ap rises (map-id gs)
    ∙ list_of_rise gs some few (λ k lt. omega (arith, c.type_inv.glyphs k))

pub returns-else-contains : goal.returns-else-contains
returns-else-contains c = c.if-contains.false ∙ sym (no_list c.args.glyphs.now (λ l. let a = l.some in let b = l.few in grind (arith, common_steps)))
