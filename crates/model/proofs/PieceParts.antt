-- The k-th piece is the k-th part: its sets are those of the part's groups, with its own vertices where they come there.
use Rattle.std.proofs.Common.{◌≡◌, ℕ, zero, suc, ◌+◌, ◌<◌, ◌≤◌, Bool, true, false, cond, not, ◌&&◌, ◌||◌, List, [], ◌∷◌, ◌++◌, map, drop, Some, None, sym, refl, ap, ◌∙◌, subst, inl, inr, ⊎_elim, arith}
use Rattle.std.specs.List.{flat_map}
use Rattle.std.proofs.lemmas.List.{append-nil}
use Rattle.std.proofs.lemmas.Bool.{cond_both, both_ways, or_parts, and_parts, not-true}
use Rattle.std.proofs.lemmas.Option.{same_Some}
use Rattle.model.specs.Forest.{LigatureSet, Subtable}
use Rattle.model.specs.Rules.{nth}
use Rattle.model.specs.Cutting.{Entry, entries, nth_part}
use Rattle.model.specs.Splitting.{Group, groups, has, any_has, comes_here, sets_of, new_sets, pieces, after_pieces, extended, divided}
use Rattle.model.specs.CuttingLaws.{InOrder, groups_from, FilledSets, under}
use Rattle.model.specs.PieceLaws.{held, gathered, IsPart, Original, PartByPart, PiecesAreTheParts, Home}
use Rattle.model.proofs.PartsGroups.{order_entries, order_parts, groups_flat, groups_entries}
use Rattle.model.proofs.NumberEntries.{itself, parts_divide}
use Rattle.model.proofs.Lists.{all-nth}
use Rattle.model.proofs.KeepGlyphs.{glyphs_of_sets}
use Rattle.model.proofs.KeepSizes.{length-divided}

-- PARTS BY NUMBER
nth_part_lem : (ps : List (List Entry)) (k : ℕ) (p : List Entry) → nth ps k ≡ Some p → nth_part ps k ≡ p
nth_part_lem [] k p e = cc
nth_part_lem (q ∷ ps) zero p e = same_Some q p e
nth_part_lem (q ∷ ps) (suc k) p e = nth_part_lem ps k p e

both_true : (a b : Bool) → (not a && not b) ≡ true → (a ≡ false) × (b ≡ false)
both_true a b e = let h = and_parts (not a) (not b) e in (not-true a h.0, not-true b h.1)

-- no part from n on has some of a set
pub none_from : (i : ℕ) (ps : List (List Entry)) (n m : ℕ) → any_has i (drop n ps) ≡ false → n ≤ m → has i (nth_part ps m) ≡ false
none_from i [] n m e l = refl
none_from i (p ∷ ps) zero zero e l = (or_parts (has i p) (any_has i ps) e).0
none_from i (p ∷ ps) zero (suc m) e l = none_from i ps zero m (or_parts (has i p) (any_has i ps) e).1 (omega arith)
none_from i (p ∷ ps) (suc n) zero e l = absurd (omega arith)
none_from i (p ∷ ps) (suc n) (suc m) e l = none_from i ps n m e (omega arith)

from_none : (i : ℕ) (ps : List (List Entry)) (n : ℕ) → ((m : ℕ) → n ≤ m → has i (nth_part ps m) ≡ false) → any_has i (drop n ps) ≡ false
from_none i [] zero h = refl
from_none i [] (suc n) h = refl
from_none i (p ∷ ps) zero h = ap (λ b. b || any_has i ps) (h 0 (omega arith)) ∙ from_none i ps zero (λ m l. h (suc m) (omega arith))
from_none i (p ∷ ps) (suc n) h = from_none i ps n (λ m l. h (suc m) (omega arith))

-- A PIECE BEHIND THE ORIGINAL
record Behind (fresh : ℕ) (kept : List Entry) (later : List (List Entry)) (k : ℕ) (p : List Entry) (d : Subtable) : Type 0 where
  at : ℕ
  free : fresh ≤ at
  sets : d.sets ≡ sets_of (comes_here kept (drop (suc k) later)) at (groups p)

behind_all_lem : (wrote : ℕ → List ℕ) (kept : List Entry) (fresh : ℕ) (later : List (List Entry)) (k : ℕ) (p : List Entry) (d : Subtable)
    → nth later k ≡ Some p → nth (pieces wrote kept fresh later) k ≡ Some d → Behind fresh kept later k p d
behind_all_lem wrote kept fresh [] k p d e f = cc
behind_all_lem wrote kept fresh (q ∷ later) zero p d e f =
    let here : Subtable
    = record { extension = None; vertex = fresh; coverage = fresh + 1; covering = wrote (fresh + 1); sets = sets_of (comes_here kept later) (fresh + 2) (groups q) } in
    record {
      at = fresh + 2;
      free = omega arith;
      sets = ap (λ (x : Subtable). x.sets) (sym (same_Some here d f)) ∙ ap (λ (x : List Entry). sets_of (comes_here kept later) (fresh + 2) (groups x)) (same_Some q p e);
    }
behind_all_lem wrote kept fresh (q ∷ later) (suc k) p d e f =
    let b = behind_all_lem wrote kept (fresh + 2 + new_sets (comes_here kept later) (groups q)) later k p d e f in
    let l = b.free in
    record { at = b.at; free = omega arith; sets = b.sets }

record Bare (ss : List Subtable) (k : ℕ) (d : Subtable) : Type 0 where
  bare : Subtable
  is : nth ss k ≡ Some bare
  sets : d.sets ≡ bare.sets

bare_of : (e : ℕ) (ss : List Subtable) (k : ℕ) (d : Subtable) → nth (extended e ss) k ≡ Some d → Bare ss k d
bare_of e [] k d f = cc
bare_of e (s ∷ ss) zero d f =
    record { bare = s; is = refl; sets = ap (λ (x : Subtable). x.sets) (sym (same_Some (record { extension = Some e; vertex = s.vertex; coverage = s.coverage; covering = s.covering; sets = s.sets }) d f)) }
bare_of e (s ∷ ss) (suc k) d f = let b = bare_of (suc e) ss k d f in record { bare = b.bare; is = b.is; sets = b.sets }

behind_either : (wrapped : Bool) (wrote : ℕ → List ℕ) (kept : List Entry) (fresh e : ℕ) (later : List (List Entry)) (k : ℕ) (p : List Entry) (d : Subtable)
    → nth later k ≡ Some p → nth (cond wrapped (extended e (pieces wrote kept fresh later)) (pieces wrote kept fresh later)) k ≡ Some d → Behind fresh kept later k p d
behind_either false wrote kept fresh e later k p d is f = behind_all_lem wrote kept fresh later k p d is f
behind_either true wrote kept fresh e later k p d is f =
    let b = bare_of e (pieces wrote kept fresh later) k d f in
    let a = behind_all_lem wrote kept fresh later k p b.bare is b.is in
    record { at = a.at; free = a.free; sets = b.sets ∙ a.sets }

-- ANY PIECE: its sets; the own vertices are in their home
pub record Piece (fresh : ℕ) (ps : List (List Entry)) (k : ℕ) (p : List Entry) (d : Subtable) : Type 0 where
  pub own : ℕ → Bool
  pub at : ℕ
  pub sets : d.sets ≡ sets_of own at (groups p)
  pub home : (i : ℕ) → own i ≡ true → has i p ≡ true → Home ps i k
  pub comes : (i : ℕ) → Home ps i k → own i ≡ true
  pub free : (i : ℕ) → own i ≡ false → fresh ≤ at

own_sets : (i : ℕ) (ts : List LigatureSet) → sets_of (λ k. true) 0 (groups_from i ts) ≡ ts
own_sets i [] = refl
own_sets i (t ∷ ts) = ap (λ (us : List LigatureSet). t ∷ us) (own_sets (suc i) ts)

first_piece : (fresh : ℕ) (kept : List Entry) (later : List (List Entry)) (p : List Entry) (d : Subtable) → kept ≡ p → d.sets ≡ sets_of (λ k. true) 0 (groups p) → Piece fresh (kept ∷ later) 0 p d
first_piece fresh kept later p d e f =
    record {
      own = λ k. true;
      at = 0;
      sets = f;
      home = λ i y h. inl (ap (has i) e ∙ h, refl);
      comes = λ i h. refl;
      free = λ i y. absurd (both_ways true y refl);
    }

later_piece : (fresh : ℕ) (kept : List Entry) (later : List (List Entry)) (k : ℕ) (p : List Entry) (d : Subtable) → nth later k ≡ Some p → Behind fresh kept later k p d → Piece fresh (kept ∷ later) (suc k) p d
later_piece fresh kept later k p d e b =
    record {
      own = comes_here kept (drop (suc k) later);
      at = b.at;
      sets = b.sets;
      home = λ i y h.
          let q = both_true (has i kept) (any_has i (drop (suc k) later)) y in
          inr (q.0, record { here = ap (has i) (nth_part_lem later k p e) ∙ h; later = λ m l. past i q.1 m l });
      comes = λ i h.
          ⊎_elim
          (λ x. let z : suc k ≡ 0 = x.1 in absurd (omega arith))
          (λ x.
          ap (λ b. not b && not (any_has i (drop (suc k) later))) x.0
          ∙ ap (λ b. not b) (from_none i later (suc k) (λ m l. x.1.later (suc m) (omega arith))))
          h;
      free = λ i y. b.free;
    }
  where
    past : (i : ℕ) → any_has i (drop (suc k) later) ≡ false → (m : ℕ) → suc k < m → has i (nth_part (kept ∷ later) m) ≡ false
    past i q zero l = absurd (omega arith)
    past i q (suc m) l = none_from i later (suc k) m q (omega arith)

module _ (wrapped : Bool) (wrote : ℕ → List ℕ) (fresh : ℕ) (s : Subtable) (filled : FilledSets s.sets) where
  pub piece_of : (kept : List Entry) (later : List (List Entry)) → kept ++ flat_map itself later ≡ entries s
      → (k : ℕ) (p : List Entry) (d : Subtable) → nth (kept ∷ later) k ≡ Some p → nth (divided wrapped wrote fresh s (kept ∷ later)) k ≡ Some d → Piece fresh (kept ∷ later) k p d
  piece_of kept [] w zero p d e f =
      let q = same_Some kept p e in
      first_piece fresh kept [] p d q
      (ap (λ (x : Subtable). x.sets) (sym (same_Some s d f))
      ∙ sym (own_sets 0 s.sets)
      ∙ ap (sets_of (λ k. true) 0) (sym (groups_entries s filled) ∙ ap groups (sym w ∙ append-nil kept ∙ q)))
  piece_of kept [] w (suc k) p d e f = cc
  piece_of kept (q ∷ later) w zero p d e f =
      let r = same_Some kept p e in
      first_piece fresh kept (q ∷ later) p d r
      (ap (λ (x : Subtable). x.sets) (sym (same_Some _ _ f)) ∙ ap (λ (x : List Entry). sets_of (λ k. true) 0 (groups x)) r)
  piece_of kept (q ∷ later) w (suc k) p d e f =
      later_piece fresh kept (q ∷ later) k p d e (behind_either wrapped wrote kept fresh (after_pieces kept fresh (q ∷ later)) (q ∷ later) k p d e f)

  original_of : (kept : List Entry) (later : List (List Entry)) (d : Subtable) → nth (divided wrapped wrote fresh s (kept ∷ later)) 0 ≡ Some d → Original s d
  original_of kept [] d f = subst (Original s) (same_Some s d f) (record { extension = refl; vertex = refl; coverage = refl })
  original_of kept (q ∷ later) d f = subst (Original s) (same_Some _ _ f) (record { extension = refl; vertex = refl; coverage = refl })

-- SETS AND GROUPS
flat_sets : (own : ℕ → Bool) (at : ℕ) (us : List Group)
    → flat_map (λ (t : LigatureSet). map (under t.first) t.ligatures) (sets_of own at us) ≡ flat_map (λ (t : Group). map (under t.first) t.ligatures) us
flat_sets own at [] = refl
flat_sets own at (t ∷ us) =
    cond_both (own t.set) (record { vertex = t.owner; first = t.first; ligatures = t.ligatures } ∷ sets_of own at us) (record { vertex = at; first = t.first; ligatures = t.ligatures } ∷ sets_of own (suc at) us)
    (λ (xs : List LigatureSet). flat_map (λ (t : LigatureSet). map (under t.first) t.ligatures) xs ≡ map (under t.first) t.ligatures ++ flat_map (λ (t : Group). map (under t.first) t.ligatures) us)
    (λ e. ap (λ q. map (under t.first) t.ligatures ++ q) (flat_sets own at us))
    (λ e. ap (λ q. map (under t.first) t.ligatures ++ q) (flat_sets own (suc at) us))

held_sets : (own : ℕ → Bool) (at : ℕ) (us : List Group) → map held (sets_of own at us) ≡ map gathered us
held_sets own at [] = refl
held_sets own at (t ∷ us) =
    cond_both (own t.set) (record { vertex = t.owner; first = t.first; ligatures = t.ligatures } ∷ sets_of own at us) (record { vertex = at; first = t.first; ligatures = t.ligatures } ∷ sets_of own (suc at) us)
    (λ (xs : List LigatureSet). map held xs ≡ gathered t ∷ map gathered us)
    (λ e. ap (λ q. gathered t ∷ q) (held_sets own at us))
    (λ e. ap (λ q. gathered t ∷ q) (held_sets own (suc at) us))

piece_is_part : (fresh : ℕ) (ps : List (List Entry)) (k : ℕ) (p : List Entry) (d : Subtable) → InOrder p → Piece fresh ps k p d → IsPart p d
piece_is_part fresh ps k p d o b =
    record {
      ligatures = ap (flat_map (λ (t : LigatureSet). map (under t.first) t.ligatures)) b.sets ∙ flat_sets b.own b.at (groups p) ∙ groups_flat (λ i v first g. (first, g)) p o;
      sets = ap (map held) b.sets ∙ held_sets b.own b.at (groups p);
      glyphs = ap (map (λ (t : LigatureSet). t.first)) b.sets ∙ glyphs_of_sets b.own b.at (groups p);
    }

pub pieces_are_the_parts_lem : PiecesAreTheParts
pieces_are_the_parts_lem ceiling wrapped wrote fresh s filled =
    let d = parts_divide ceiling (entries s) in
    subst (λ (ps : List (List Entry)). PartByPart s ps (divided wrapped wrote fresh s ps)) (sym d.are) (by d.kept d.later d.whole)
  where
    by : (kept : List Entry) (later : List (List Entry)) → kept ++ flat_map itself later ≡ entries s → PartByPart s (kept ∷ later) (divided wrapped wrote fresh s (kept ∷ later))
    by kept later w =
        let o = order_parts (kept ∷ later) (subst InOrder (sym w) (order_entries s)) in
        record {
          count = length-divided wrapped wrote fresh s (kept ∷ later) (omega arith);
          original = original_of wrapped wrote fresh s filled kept later;
          each = λ k p d e f. piece_is_part fresh (kept ∷ later) k p d (all-nth InOrder (kept ∷ later) k p e o) (piece_of wrapped wrote fresh s filled kept later w k p d e f);
        }
