-- The size of a run: one entry more, and runs that are parts of runs.
use Rattle.std.proofs.Common.{◌≡◌, ◌+◌, ◌*◌, ◌≤◌, Bool, cond, List, [], ◌∷◌, ◌++◌, refl, arith}
use Rattle.std.proofs.lemmas.List.Sums.{sum_by-append, sum_by_push}
use Rattle.model.specs.Cutting.{Entry, table_length, entry_size, touched, run_size}
use Rattle.model.specs.CuttingLaws.{goes_on, Running}

-- SETS TOUCHED
pub touched_some : (e : Entry) (es : List Entry) → 1 ≤ touched (e ∷ es)
touched_some e [] = omega arith
touched_some e (f ∷ fs) = let h = touched_some f fs in omega arith

pub touched_push : (run : List Entry) (e : Entry) → touched (run ++ e ∷ []) ≡ touched run + cond (goes_on run e) 0 1
touched_push [] e = refl
touched_push (f ∷ []) e = omega arith
touched_push (f ∷ g ∷ fs) e = let h = touched_push (g ∷ fs) e in omega arith

pub touched_front : (xs ys : List Entry) → touched xs ≤ touched (xs ++ ys)
touched_front [] ys = omega arith
touched_front (e ∷ []) ys = touched_some e ys
touched_front (e ∷ f ∷ fs) ys = let h = touched_front (f ∷ fs) ys in omega arith

pub touched_back : (xs ys : List Entry) → touched ys ≤ touched (xs ++ ys)
touched_back [] ys = omega arith
touched_back (x ∷ xs) ys = let h = touched_back xs ys in omega arith

-- SIZES
four_times : (b : Bool) → 4 * cond b 0 1 ≡ cond b 0 4
four_times b = grind arith

pub run_size_none : run_size [] ≡ 6
unfolding run_size
run_size_none = refl

pub run_size_one : (e : Entry) → run_size (e ∷ []) ≡ table_length e.ligature + 12
unfolding run_size
run_size_one e = omega arith

pub run_size_push : (run : List Entry) (e : Entry) → run_size (run ++ e ∷ []) ≡ run_size run + (entry_size e + cond (goes_on run e) 0 4)
unfolding run_size
run_size_push run e =
    let t = touched_push run e in
    let s = sum_by_push entry_size run e in
    let f = four_times (goes_on run e) in
    omega arith

pub run_size_front : (xs ys : List Entry) → run_size xs ≤ run_size (xs ++ ys)
unfolding run_size
run_size_front xs ys =
    let t = touched_front xs ys in
    let s = sum_by-append entry_size xs ys in
    omega arith

pub run_size_back : (xs ys : List Entry) → run_size ys ≤ run_size (xs ++ ys)
unfolding run_size
run_size_back xs ys =
    let t = touched_back xs ys in
    let s = sum_by-append entry_size xs ys in
    omega arith

pub running : Running
running = record { start = run_size_none; grows = run_size_push; front = run_size_front; back = run_size_back }
