use Rattle.std.proofs.Common.{◌+◌, ◌-◌, ◌<◌, ◌≤◌, length, get_or, take, drop, refl, sym, ap, ◌∙◌, arith}
use Rattle.std.proofs.lemmas.List.{take_all, at_drop_all}
use Rattle.std.proofs.lemmas.Grind.{common_steps}
use Rattle.coverage.specs.Glyphs.{above}
use Rattle.coverage.proofs.Lists.{no_list, list_of_rise}
use Rattle.coverage_opentype.proofs.Runs.{breaks, runs_counted, rises_behind, above_stop}
use Rattle.coverage_opentype.proofs.ranges.run_count.Goals as goal

pub returns-then-not-contains : goal.returns-then-not-contains
returns-then-not-contains c = no_list c.args.glyphs.now (λ l. let a = l.some in let b = l.few in grind (arith, common_steps))

pub loop-glyph-init : goal.loop-glyph-init
loop-glyph-init c =
    let gs = c.args.glyphs.now in
    let some : 0 < length gs = grind (arith, common_steps) in
    let d = take_all (length gs - 1) (drop 1 gs) (grind (arith, common_steps)) in
    record {
      rise = rises_behind gs some ∙ ap (above (get_or gs 0 0)) (sym d);
      counted = ap (λ z. 1 + breaks (get_or gs 0 0) z) d ∙ runs_counted gs some;
      few = omega arith;
    }

pub returns-then-glyph-last : goal.returns-then-glyph-last
returns-then-glyph-last c =
    let gs = c.args.glyphs.now in
    let some : 0 < length gs = grind (arith, common_steps) in
    let few : length gs ≤ 65535 = grind (arith, common_steps) in
    sym (list_of_rise gs some few (λ k lt. omega (arith, c.type_inv.glyphs k))) ∙ c.loop-glyph.invariant.rise
    ∙ above_stop _ c.loop-glyph.glyph-index c.loop-glyph.last _ (omega arith) refl (omega arith)

pub returns : goal.returns
returns c =
    let gs = c.args.glyphs.now in
    let some : 0 < length gs = grind (arith, common_steps) in
    let few : length gs ≤ 65535 = grind (arith, common_steps) in
    let rest = take (length gs - 1) (drop 1 gs) in
    let b = at_drop_all (breaks c.loop-glyph.last) rest c.loop-glyph.glyph-index (omega arith) in
    (sym (list_of_rise gs some few (λ k lt. omega (arith, c.type_inv.glyphs k))) ∙ c.loop-glyph.invariant.rise ∙ at_drop_all (above c.loop-glyph.last) rest c.loop-glyph.glyph-index (omega arith), omega arith)
