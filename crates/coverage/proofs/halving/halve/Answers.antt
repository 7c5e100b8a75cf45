use Rattle.std.proofs.Common.{◌≡◌, ◌≢◌, sym, arith, rules}
use Rattle.std.specs.declared.cmp.Ordering.TheVariants.{Less, Equal}
use Rattle.coverage.proofs.Halves.{outside_less, outside_greater, outside_none}
use Rattle.coverage.proofs.halving.halve.Goals as goal

pub loop-low-preserved-then-is_lt : goal.loop-low-preserved-then-is_lt
loop-low-preserved-then-is_lt g c =
    let less : c.in_ok-side.side ≡ Less = search rules in
    record {
      within = c.loop-low.invariant.within;
      outside = λ answer says up. outside_less answer _ _ _ _ up (c.loop-low.invariant.outside answer says up) (omega arith) _ (sym (says _ _ (omega arith) c.in_ok-side.ensures)) less;
    }

pub loop-low-preserved : goal.loop-low-preserved
loop-low-preserved g c =
    let not_equal : c.in_ok-side.side ≢ Equal = search rules in
    let not_less : c.in_ok-side.side ≢ Less = search rules in
    record {
      within = omega arith;
      outside = λ answer says up. outside_greater answer _ _ _ _ up (c.loop-low.invariant.outside answer says up) (omega arith) _ (sym (says _ _ (omega arith) c.in_ok-side.ensures)) not_equal not_less;
    }

pub returns : goal.returns
returns g c answer says up = outside_none answer _ _ _ (c.loop-low.invariant.outside answer says up) (omega arith)
