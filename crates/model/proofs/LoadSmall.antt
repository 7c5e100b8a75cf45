-- Small streams that are refused.
use Rattle.std.proofs.Common.{◌≡◌, ℕ, zero, suc, ◌<◌, ◌≤◌, List, [], ◌∷◌, length, None, Option, sym, refl, ap, subst, arith}
use Rattle.std.proofs.lemmas.Option.{same_Some}
use Rattle.std.proofs.lemmas.Bool.Decides.{nat_tests}
use Rattle.refusals.specs.declared.Refusal.TheVariants.{BadShape}
use Rattle.words.specs.Grammar.{StreamLink, virtual, StreamTable, Stream}
use Rattle.words.proofs.Whole.{streams_spell_lem}
use Rattle.coverage.specs.Meaning.{Meant}
use Rattle.model.specs.Forest.{Taken}
use Rattle.model.specs.Tables.{lookup_table}
use Rattle.model.specs.Splitting.{Capacities}
use Rattle.model.specs.Loading.{short_of, TableAt, Loose, nowhere, nowhere_virtual, beyond, shared, Loosely, Reached, root, onward, Astray, root_entered, entered_twice, named_twice, unreached, Strays, Never, at_lookup, is_lookup, Stands.root as root', Shaped, misshapen, faulty, astray, loose}
use Rattle.model.specs.LoadingLaws.{SmallRefused}
use Rattle.model.proofs.LoadSame.{has_first, has_none}
use Rattle.model.proofs.LoadSteps.{clear_start}

-- ONE EMPTY TABLE
abbrev empty_table : List StreamLink → StreamTable
empty_table ls = record { values = []; links = ls }

abbrev empty_stream : List StreamLink → List ℕ → Stream
empty_stream ls rs = record { tables = empty_table ls ∷ []; roots = rs }

abbrev taking : ℕ → Taken
taking n = record { vertices = 1; links = n; bytes = 0 }

-- room for one table and for so many links
roomy : (caps : Capacities) (n : ℕ) → 0 < caps.vertices → n ≤ caps.links → short_of caps (taking n) ≡ None
roomy caps n a b = grind (arith, nat_tests)

only_table : (ls : List StreamLink) (rs : List ℕ) (v : ℕ) (t : StreamTable) → TableAt (empty_stream ls rs) v t → (v ≡ 0) × (t ≡ empty_table ls)
only_table ls rs zero t e = (refl, sym (same_Some _ _ e))
only_table ls rs (suc v) t e = cc

not_loose : (rs : List ℕ) → Never (Loosely (empty_stream [] rs))
not_loose rs v x = by (subst (Loose (empty_stream [] rs)) (only_table [] rs v x.0 x.1).1 x.2)
  where
    by : Loose (empty_stream [] rs) (empty_table []) → ⊥
    by (nowhere l h g) = has_none l h
    by (nowhere_virtual u h g) = has_none u h
    by (beyond l h g) = has_none l h
    by (shared p g) = omega arith

not_astray : (v : ℕ) → Strays (empty_stream [] (0 ∷ [])) v → ⊥
not_astray zero x = by x.1
  where
    by : Astray (empty_stream [] (0 ∷ [])) 0 → ⊥
    by (root_entered a b) = omega arith
    by (entered_twice a b) = omega arith
    by (named_twice a) = omega arith
    by (unreached f) = f (root 0 (has_first 0 []))
not_astray (suc v) x = let l = x.0 in omega arith

unreached_at_all : {v : ℕ} → Reached (empty_stream [] []) v → ⊥
unreached_at_all (root v h) = has_none v h
unreached_at_all (onward u t l r e h) = unreached_at_all r

shapeless : Shaped is_lookup (empty_table []) → ⊥
shapeless x = let e : 0 ≡ length (lookup_table x.0).table.bytes = ap length x.1.table.bytes in omega arith

pub small_refused : (meaning : List ℕ → Option Meant) → SmallRefused meaning
small_refused meaning caps a b = (
  faulty (empty_stream [] (0 ∷ [])) (BadShape 0) ((streams_spell_lem (0x1000_0000 ∷ 0x7000_0000 ∷ 0x8000_0001 ∷ []) (empty_stream [] (0 ∷ []))).0 refl) (roomy caps 0 a (omega arith)) (not_loose (0 ∷ [])) not_astray
      (record {
        place = at_lookup 0;
        faulty = record { kind = is_lookup; vertex = 0; table = empty_table []; stands = root' 0 0 refl; is = refl; fault = misshapen shapeless };
        first = clear_start meaning (empty_stream [] (0 ∷ []));
      }),
  astray (empty_stream [] []) 0 ((streams_spell_lem (0x1000_0000 ∷ 0x8000_0001 ∷ []) (empty_stream [] [])).0 refl) (roomy caps 0 a (omega arith)) (not_loose [])
      (record { holds = (omega arith, unreached unreached_at_all); lower = λ u l x. omega arith }),
  loose (empty_stream (virtual 1 ∷ []) (0 ∷ [])) 0 ((streams_spell_lem (0x1000_0000 ∷ 0x6000_0001 ∷ 0x7000_0000 ∷ 0x8000_0001 ∷ []) (empty_stream (virtual 1 ∷ []) (0 ∷ []))).0 refl) (roomy caps 1 a b)
      (record { holds = (empty_table (virtual 1 ∷ []), refl, nowhere_virtual 1 (has_first 1 []) (omega arith)); lower = λ u l x. omega arith }),
)
