-- Each turn keeps what the rest will answer; at each return that is the answer.
use Rattle.std.proofs.Common.{Err, ap, ◌∙◌}
use Rattle.std.proofs.lemmas.Result.{err_from_is_err_and}
use Rattle.refusals.specs.declared.Refusal.TheVariants.{BadWord}
use Rattle.words.proofs.Counting.{at_start, ok_or_none, again, unfit, ended, unended, tells}
use Rattle.words.proofs.scan.Goals as goal

pub loop-index-init : goal.loop-index-init
loop-index-init c = at_start c.args.words.now c.default-reading.result c.default-reading.ensures

pub returns-in_err-reading : goal.returns-in_err-reading
returns-in_err-reading c =
    let ws = c.args.words.now in
    let h = c.in_err-reading.ensures in
    let p = err_from_is_err_and c.from_residual.result c.from_residual.ensures.1 in
    let v = ok_or_none c.step.result (BadWord c.loop-index.index) c.in_err-reading.field-0.0 h.value h.ok_part in
    let u = unfit ws c.loop-index.index c.loop-index.reading c.step.result c.loop-index-test.true c.loop-index.invariant c.step.ensures h.ok_part in
    let a = p.1 ∙ ap Err (p.2 ∙ v) ∙ u in
    record { answers = a; means = tells ws _ a }

pub loop-index-preserved : goal.loop-index-preserved
loop-index-preserved c =
    let h = c.in_ok-reading.ensures in
    again c.args.words.now c.loop-index.index c.loop-index.reading c.in_ok-reading.reading c.step.result
    c.loop-index-test.true c.loop-index.invariant c.step.ensures h.ok_part

pub returns-in-Closed : goal.returns-in-Closed
returns-in-Closed c =
    let ws = c.args.words.now in
    let a = ended ws c.loop-index.index c.loop-index.reading c.loop-index-test.false c.loop-index.invariant c.in-Closed.is in
    record { answers = a; means = tells ws _ a }

pub returns-in_default : goal.returns-in_default
returns-in_default c =
    let ws = c.args.words.now in
    let a = unended ws c.loop-index.index c.loop-index.reading c.loop-index-test.false c.loop-index.auto.index-end c.loop-index.invariant c.in_default.not-Closed in
    record { answers = a; means = tells ws _ a }
