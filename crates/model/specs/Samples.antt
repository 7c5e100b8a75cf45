-- Worked cases on sample S: one lookup of type 4 with one subtable, the set of 10 with two ligatures and the set of 20 with one.
use Rattle.std.specs.Prelude.{◌≡◌, ℕ, cond, List, [], ◌∷◌, map, Some, None, Ok, Err, Option, Result, ◌==◌}
use Rattle.refusals.specs.declared.Refusal.{Refusal}
use Rattle.refusals.specs.declared.Refusal.TheVariants.{BadCeiling, LongLigature}
use Rattle.coverage_list.specs.Format1.{array_bytes}
use Rattle.model.specs.Forest.{Ligature, LigatureSet, Subtable, Lookup, Model}
use Rattle.model.specs.Rules.{Shaped, Sourced, sourced_rules, shape}
use Rattle.model.specs.Cutting.{Cut, cuts, subtable_size}
use Rattle.model.specs.Book.{Call, do_split, do_wrap, do_write, do_shape, do_rule, do_read, Desk}
use Rattle.model.specs.Splitting.{Capacities, Changed, Bill, split_bill, split_lookup, split}

abbrev pub ligature : ℕ → ℕ → List ℕ → Ligature
ligature v g cs = record { vertex = v; glyph = g; components = cs }

abbrev pub ligature_set : ℕ → ℕ → List Ligature → LigatureSet
ligature_set v first gs = record { vertex = v; first = first; ligatures = gs }

-- 10 11 12 = 100, 10 11 = 101; 20 21 = 102
abbrev pub subtable_s : Subtable
subtable_s =
    record {
      extension = None;
      vertex = 1;
      coverage = 2;
      covering = array_bytes (10 ∷ 20 ∷ []);
      sets = ligature_set 3 10 (ligature 4 100 (11 ∷ 12 ∷ []) ∷ ligature 5 101 (11 ∷ []) ∷ []) ∷ ligature_set 6 20 (ligature 7 102 (21 ∷ []) ∷ []) ∷ [];
    }

abbrev pub lookup_s : Lookup
lookup_s = record { vertex = 0; kind = 4; flag = 0; mark = None; subtables = subtable_s ∷ [] }

abbrev pub model_s : Model
model_s = record { lookups = lookup_s ∷ []; taken = record { vertices = 8; links = 12; bytes = 56 } }

abbrev pub cut : ℕ → ℕ → Cut
cut i j = record { set = i; place = j }

-- room for anything
abbrev pub ample : Capacities
ample = record { vertices = 1000; links = 1000; bytes = 10000 }

-- the sizes of the subtables after a split
abbrev pub sizes_at : ℕ → List ℕ
sizes_at ceiling = map subtable_size (split_lookup ceiling (λ v. []) 8 lookup_s).subtables

abbrev pub bill : ℕ → ℕ → ℕ → Bill
bill v l b = record { vertices = v; links = l; bytes = b }

abbrev pub refused_with : Result Changed Refusal → Option Refusal
refused_with (Ok c) = None
refused_with (Err r) = Some r

abbrev pub split_s : ℕ → Option Refusal
split_s ceiling = refused_with (split ample (λ v. []) model_s 0 ceiling)

-- one set of three 6-byte ligatures
abbrev pub subtable_of_three : Subtable
subtable_of_three =
    record {
      extension = None;
      vertex = 1;
      coverage = 2;
      covering = array_bytes (10 ∷ []);
      sets = ligature_set 3 10 (ligature 4 1 (1 ∷ []) ∷ ligature 5 2 (2 ∷ []) ∷ ligature 6 3 (3 ∷ []) ∷ []) ∷ [];
    }

abbrev pub at : ℕ → ℕ → Result Shaped Refusal
at g n = Ok (record { glyph = g; count = n })

pub record Worked : Type 0 where
  pub at40 : (cuts 40 subtable_s ≡ []) × (sizes_at 40 ≡ 40 ∷ []) × (split_s 40 ≡ None)
  pub at39 : (cuts 39 subtable_s ≡ cut 1 0 ∷ []) × (sizes_at 39 ≡ 28 ∷ 18 ∷ []) × (split_bill 39 model_s lookup_s ≡ bill 2 2 40) × (split_s 39 ≡ None)
  pub at27 : (cuts 27 subtable_s ≡ cut 0 1 ∷ cut 1 0 ∷ []) × (sizes_at 27 ≡ 20 ∷ 18 ∷ 18 ∷ []) × (split_bill 27 model_s lookup_s ≡ bill 5 6 66) × (split_s 27 ≡ None)
  pub at19 : split_s 19 ≡ Some (LongLigature 4)
  pub at15 : split_s 15 ≡ Some BadCeiling
  pub shaped : (shape model_s 0 (10 ∷ 11 ∷ 12 ∷ []) 0 ≡ at 100 3) × (shape model_s 0 (10 ∷ 11 ∷ 13 ∷ []) 0 ≡ at 101 2)
  pub indices : map (λ (r : Sourced). r.subtable) (sourced_rules (split_lookup 27 (λ v. []) 8 lookup_s)) ≡ 0 ∷ 1 ∷ 2 ∷ []
  pub three : cuts 18 subtable_of_three ≡ cut 0 1 ∷ cut 0 2 ∷ []

-- A LINE OF CALLS on sample S under a codec that writes these bytes for a list: two splits that are refused, one that is not, a wrap, a write, and a read of what was written
abbrev pub glyph_s : ℕ → ℕ
glyph_s v = cond (v == 12) 20 10

abbrev pub wrote_s : (List ℕ → List ℕ) → ℕ → ℕ → List ℕ
wrote_s writes k v = writes (glyph_s v ∷ [])

abbrev pub line_s : List Call
line_s =
    do_split 0 15 ∷ do_split 0 19 ∷ do_split 0 27 ∷ do_rule 0 1 ∷ do_wrap 0 ∷ do_write 0 1000 ∷ do_shape 0 (10 ∷ 11 ∷ 13 ∷ []) 0 ∷ do_read 5 (10 ∷ 11 ∷ 13 ∷ []) 0 ∷ do_rule 0 3 ∷ []

abbrev pub desk_s : Desk
desk_s = record { model = model_s; outputs = [] }
