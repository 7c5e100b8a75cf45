use Rattle.std.proofs.Common.{◌≡◌, ◌+◌, ◌<◌, ◌≤◌, length, arith, rules}
use Rattle.std.specs.List.{IsChunkByPrefix}
use Rattle.std.proofs.lemmas.List.Sorted.{answers_always}
use Rattle.coverage.proofs.Lists.{listed}
use Rattle.coverage_opentype.specs.Format2.{runs}
use Rattle.coverage_opentype.specs.Unbroken.{runs_few}
use Rattle.coverage_opentype.proofs.Runs.{follows_it}
use Rattle.coverage_opentype.proofs.Writing.{begin, more_to_write, written_none, written_more, written_all}
use Rattle.coverage_opentype.proofs.ranges.write_ranges.Goals as goal
use Rattle.coverage_opentype.proofs.ranges.write_ranges.Goals.{In-Some}

-- the part at hand is a run, and what is written leaves room for it
unbroken : (c : goal.In-Some) → IsChunkByPrefix follows_it c.loop-done.done-iterator.iter.rest.now (length c.in-Some.run'.now)
unbroken c = (c.in-Some.ensures.steps.0.2 follows_it (answers_always _ _ _ (λ s a r q e. search rules))).1

more : (c : goal.In-Some) → (c.loop-done.done-iterator.count < length (runs c.args.glyphs.now)) × (c.loop-done.index + length c.in-Some.run'.now ≤ length c.args.glyphs.now)
more c = let f = c.in-Some.ensures.steps in more_to_write _ _ _ _ _ _ _ _ c.loop-done.invariant f.0.0 f.0.1 (unbroken c)

pub overflow_cast-ranges : goal.overflow_cast-ranges
overflow_cast-ranges c =
    let f = runs_few c.args.glyphs.now in
    let l = (listed c.args.glyphs.now c.requires.list).few in
    let e = c.requires.ranges in
    search rules

pub loop-done-init : goal.loop-done-init
loop-done-init c =
    let e = c.into_iter-done-iterator.ensures.into_iter_gives in
    let s = c.enumerate-done-items.ensures.source in
    let n = c.enumerate-done-items.ensures.count in
    let r = c.chunk_by.ensures.rest in
    let count : c.into_iter-done-iterator.result.count ≡ 0 = cc in
    let left : c.into_iter-done-iterator.result.iter.rest.now ≡ c.args.glyphs.now = cc in
    written_none _ _ _ _ _ count left (begin c.args.glyphs.now c.args.out.now _ _ _ c.requires.room c.requires.ranges c.put_word.ensures c.put_word-2.ensures)

pub overflow_cast-range : goal.overflow_cast-range
overflow_cast-range c =
    let m = (more (goal.at.overflow_cast-range c).In-Some).1 in
    let l = (listed c.args.glyphs.now c.requires.list).few in
    search rules

pub put_range-requires : goal.put_range-requires
put_range-requires c =
    let m = (more (goal.at.put_range-requires c).In-Some).0 in
    let d = c.in-Some.ensures.steps.1 in
    let a = c.put_word.auto.bytes in
    let b = c.put_word-2.auto.bytes in
    let k = c.loop-done.auto.out in
    let room = c.requires.room in
    omega arith

pub overflow_add-index : goal.overflow_add-index
overflow_add-index c =
    let m = (more (goal.at.overflow_add-index c).In-Some).1 in
    let l = (listed c.args.glyphs.now c.requires.list).few in
    search rules

pub loop-done-preserved : goal.loop-done-preserved
loop-done-preserved c =
    let f = c.in-Some.ensures.steps in
    written_more _ _ _ _ _ _ _ _ c.loop-done.invariant f.0.0 f.0.1 (unbroken (goal.at.loop-done-preserved c).In-Some) _ _ _ _ f.1 f.2 (omega arith) c.put_range.ensures

pub returns : goal.returns
returns c = written_all _ _ _ _ _ _ c.in-None.ensures.steps.0.0 c.loop-done.invariant
