use Rattle.std.proofs.Common.{◌≡◌, ℕ, ◌≤◌, List, length, Ok, refl, subst, inr, arith}
use Rattle.data_bytes.proofs.ValueLists.{laid}
use Rattle.coverage.specs.Glyphs.{GlyphList}
use Rattle.coverage.specs.Meaning.{Written, written_as}
use Rattle.coverage.proofs.Lists.{listed}
use Rattle.coverage_opentype.specs.OpenType.{open_type_meaning, open_type_bytes, open_type_span}
use Rattle.coverage_opentype.specs.Planning.{Shorter}
use Rattle.coverage_opentype.specs.Choosing.{span_array, laid_ranges, laid_array, wrote, wrote_means, wrote_no_space}
use Rattle.coverage_opentype.proofs.opentype.OpenTypeCodecCoverageCodec.write.Goals as goal

-- what is promised once all bytes are laid
both : (gs old now : List ℕ) (n : ℕ) → GlyphList gs → n ≡ open_type_span gs → n ≤ length old → now ≡ laid (open_type_bytes gs) old
    → Written (GlyphList gs) (open_type_span gs) open_type_meaning gs old now (Ok n) × ((Ok n, now) ≡ written_as gs (open_type_bytes gs) old)
both gs old now n g e room w = ((g, omega arith, e, wrote_means gs old now g w), wrote gs old now n g e room w)

pub returns-then-out-plan : goal.returns-then-out-plan
returns-then-out-plan c =
    let p = c.in_ok-plan.ensures in
    let s = p.1 in
    record { meant = inr (p.0, omega arith, refl); fixed = wrote_no_space c.args.glyphs.now c.args.out.now _ p.0 s (omega arith) }

pub write_array-requires : goal.write_array-requires
write_array-requires c =
    let gs = c.args.glyphs.now in
    let p = c.in_ok-plan.ensures in
    let f = (listed gs p.0).few in
    let s = span_array gs (subst (Shorter gs) c.in-Array.is p.2) in
    let t = p.1 in
    (f, omega arith)

pub returns-in-Ranges : goal.returns-in-Ranges
returns-in-Ranges c =
    let gs = c.args.glyphs.now in
    let p = c.in_ok-plan.ensures in
    let h = subst (Shorter gs) c.in-Ranges.is p.2 in
    let e = h.0 in
    let b = both gs c.args.out.now _ _ p.0 p.1 (omega arith) (laid_ranges gs (omega (arith, h.1)) c.args.out.now _ c.write_ranges.ensures) in
    record { meant = b.0; fixed = b.1 }

pub returns-in-Array : goal.returns-in-Array
returns-in-Array c =
    let gs = c.args.glyphs.now in
    let p = c.in_ok-plan.ensures in
    let b = both gs c.args.out.now _ _ p.0 p.1 (omega arith) (laid_array gs (subst (Shorter gs) c.in-Array.is p.2) c.args.out.now _ c.write_array.ensures) in
    record { meant = b.0; fixed = b.1 }
