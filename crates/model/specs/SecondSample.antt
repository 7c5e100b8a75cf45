-- A second worked case: two lookups; the first of type 7 with a mark filtering set and two subtables, one with a coverage of four glyphs in a run and a set that is cut twice at 18.
-- The expected bytes were made by a separate script from the rules, not by these definitions.
use Rattle.std.specs.Prelude.{◌≡◌, ℕ, ◌+◌, false, cond, List, [], ◌∷◌, map, Some, None, Ok, sum_by, Option, ◌==◌}
use Rattle.refusals.specs.declared.Refusal.TheVariants.{IsExtension, NoLookup}
use Rattle.data_bytes.specs.Values.{value_bytes}
use Rattle.coverage.specs.Meaning.{Meant}
use Rattle.model.specs.Forest.{Subtable, Lookup, Model}
use Rattle.model.specs.Tables.{vertex_of, lookup_walk, links_of}
use Rattle.model.specs.Rules.{rules_of, shape}
use Rattle.model.specs.Cutting.{cuts, subtable_size}
use Rattle.model.specs.Splitting.{split_bill, split_lookup, split, wrap}
use Rattle.model.specs.Writing.{written, overflows, written_size}
use Rattle.model.specs.Reading.{rules_in, read}
use Rattle.model.specs.Samples.{ligature, ligature_set, cut, bill, ample, at, refused_with}

-- what a codec writes for a glyph list
module _ (writes : List ℕ → List ℕ) where
  abbrev pub first_t : Subtable
  first_t =
      record {
        extension = Some 1;
        vertex = 2;
        coverage = 3;
        covering = writes (10 ∷ 11 ∷ 12 ∷ 13 ∷ []);
        sets =
            ligature_set 4 10 (ligature 5 201 (1 ∷ []) ∷ ligature 6 202 (2 ∷ []) ∷ ligature 7 203 (3 ∷ []) ∷ [])
            ∷ ligature_set 8 11 (ligature 9 204 (1 ∷ []) ∷ [])
            ∷ ligature_set 10 12 (ligature 11 205 (7 ∷ []) ∷ [])
            ∷ ligature_set 12 13 (ligature 13 206 (4 ∷ []) ∷ [])
            ∷ [];
      }

  abbrev pub second_t : Subtable
  second_t = record { extension = Some 14; vertex = 15; coverage = 16; covering = writes (30 ∷ []); sets = ligature_set 17 30 (ligature 18 207 (1 ∷ []) ∷ []) ∷ [] }

  abbrev pub lookup_t : Lookup
  lookup_t = record { vertex = 0; kind = 7; flag = 16; mark = Some 5; subtables = first_t ∷ second_t ∷ [] }

  abbrev pub other_t : Lookup
  other_t =
      record {
        vertex = 19;
        kind = 4;
        flag = 0;
        mark = None;
        subtables = record { extension = None; vertex = 20; coverage = 21; covering = writes (10 ∷ []); sets = ligature_set 22 10 (ligature 23 300 (1 ∷ []) ∷ []) ∷ [] } ∷ [];
      }

  abbrev pub model_t : Model
  model_t = record { lookups = lookup_t ∷ other_t ∷ []; taken = record { vertices = 24; links = sum_by links_of (lookup_walk lookup_t) + sum_by links_of (lookup_walk other_t); bytes = 200 } }

  -- the glyph of each coverage after the split: 3 is the original's, the others are new
  abbrev pub glyph_t : ℕ → ℕ
  glyph_t v = cond (v == 31) 11 (cond (v == 33) 12 (cond (v == 35) 13 10))

  abbrev pub wrote_t : ℕ → List ℕ
  wrote_t v = writes (glyph_t v ∷ [])

  abbrev pub split_t : Lookup
  split_t = split_lookup 18 wrote_t 24 lookup_t

  abbrev pub numbers_t : List ℕ
  numbers_t = map vertex_of (lookup_walk split_t)

-- the first lookup after the split at 18
abbrev pub split_bytes : List ℕ
split_bytes = value_bytes (7 ∷ 16 ∷ 7 ∷ 22 ∷ 30 ∷ 38 ∷ 46 ∷ 54 ∷ 62 ∷ 70 ∷ 5 ∷ 1 ∷ 4 ∷ 0 ∷ 56 ∷ 1 ∷ 4 ∷ 0 ∷ 72 ∷ 1 ∷ 4 ∷ 0 ∷ 88 ∷ 1 ∷ 4 ∷ 0 ∷ 104 ∷ 1 ∷ 4 ∷ 0 ∷ 120 ∷ 1 ∷ 4 ∷ 0 ∷ 136 ∷ 1 ∷ 4 ∷ 0 ∷ 152 ∷ 1 ∷ 18 ∷ 1 ∷ 8 ∷ 1 ∷ 4 ∷ 201 ∷ 2 ∷ 1 ∷ 1 ∷ 1 ∷ 10 ∷ 1 ∷ 18 ∷ 1 ∷ 8 ∷ 1 ∷ 4 ∷ 202 ∷ 2 ∷ 2 ∷ 1 ∷ 1 ∷ 10 ∷ 1 ∷ 18 ∷ 1 ∷ 8 ∷ 1 ∷ 4 ∷ 203 ∷ 2 ∷ 3 ∷ 1 ∷ 1 ∷ 10 ∷ 1 ∷ 18 ∷ 1 ∷ 8 ∷ 1 ∷ 4 ∷ 204 ∷ 2 ∷ 1 ∷ 1 ∷ 1 ∷ 11 ∷ 1 ∷ 18 ∷ 1 ∷ 8 ∷ 1 ∷ 4 ∷ 205 ∷ 2 ∷ 7 ∷ 1 ∷ 1 ∷ 12 ∷ 1 ∷ 18 ∷ 1 ∷ 8 ∷ 1 ∷ 4 ∷ 206 ∷ 2 ∷ 4 ∷ 1 ∷ 1 ∷ 13 ∷ 1 ∷ 18 ∷ 1 ∷ 8 ∷ 1 ∷ 4 ∷ 207 ∷ 2 ∷ 1 ∷ 1 ∷ 1 ∷ 30 ∷ [])

abbrev pub other_bytes : List ℕ
other_bytes = value_bytes (4 ∷ 0 ∷ 1 ∷ 8 ∷ 1 ∷ 18 ∷ 1 ∷ 8 ∷ 1 ∷ 4 ∷ 300 ∷ 2 ∷ 1 ∷ 1 ∷ 1 ∷ 10 ∷ [])

-- computed under one codec: what it writes, what bytes mean to it, and the first lookup's bytes before the split
pub record WorkedT (writes : List ℕ → List ℕ) (meaning : List ℕ → Option Meant) (before : List ℕ) : Type 0 where
  pub cuts : cuts 18 (first_t writes) ≡ cut 0 1 ∷ cut 0 2 ∷ cut 1 0 ∷ cut 2 0 ∷ cut 3 0 ∷ []
  pub bill : split_bill 18 (model_t writes) (lookup_t writes) ≡ bill 17 19 200
  pub accepted : refused_with (split ample (wrote_t writes) (model_t writes) 0 18) ≡ None
  pub sizes : map subtable_size (split_t writes).subtables ≡ 18 ∷ 18 ∷ 18 ∷ 18 ∷ 18 ∷ 18 ∷ 18 ∷ []
  -- lookup; then per subtable its extension table, itself, its coverage, each set followed by its ligatures
  pub numbers : numbers_t writes ≡ 0 ∷ 1 ∷ 2 ∷ 3 ∷ 4 ∷ 5 ∷ 36 ∷ 24 ∷ 25 ∷ 26 ∷ 6 ∷ 37 ∷ 27 ∷ 28 ∷ 29 ∷ 7 ∷ 38 ∷ 30 ∷ 31 ∷ 8 ∷ 9 ∷ 39 ∷ 32 ∷ 33 ∷ 10 ∷ 11 ∷ 40 ∷ 34 ∷ 35 ∷ 12 ∷ 13 ∷ 14 ∷ 15 ∷ 16 ∷ 17 ∷ 18 ∷ []
  pub rules : rules_of (split_t writes) ≡ rules_of (lookup_t writes)
  pub written : (written (lookup_t writes) ≡ before) × (written (split_t writes) ≡ split_bytes) × (written (other_t writes) ≡ other_bytes)
  pub fits : (overflows (lookup_t writes) ≡ false) × (overflows (split_t writes) ≡ false) × (written_size (split_t writes) ≡ 246)
  pub back : (rules_in meaning before ≡ Ok (rules_of (lookup_t writes))) × (rules_in meaning split_bytes ≡ Ok (rules_of (lookup_t writes)))
  pub shaped : (shape (model_t writes) 0 (9 ∷ 10 ∷ 3 ∷ []) 1 ≡ at 203 2) × (read meaning split_bytes (9 ∷ 10 ∷ 3 ∷ []) 1 ≡ at 203 2) × (shape (model_t writes) 1 (10 ∷ 1 ∷ []) 0 ≡ at 300 2)
  pub wrapped : (refused_with (wrap ample (model_t writes) 0) ≡ Some IsExtension) × (refused_with (wrap ample (model_t writes) 1) ≡ None) × (refused_with (wrap ample (model_t writes) 2) ≡ Some NoLookup)

abbrev pub open_type_before : List ℕ
open_type_before = value_bytes (7 ∷ 16 ∷ 2 ∷ 12 ∷ 20 ∷ 5 ∷ 1 ∷ 4 ∷ 0 ∷ 16 ∷ 1 ∷ 4 ∷ 0 ∷ 88 ∷ 1 ∷ 70 ∷ 4 ∷ 14 ∷ 22 ∷ 26 ∷ 30 ∷ 3 ∷ 20 ∷ 26 ∷ 32 ∷ 1 ∷ 30 ∷ 1 ∷ 32 ∷ 1 ∷ 34 ∷ 201 ∷ 2 ∷ 1 ∷ 202 ∷ 2 ∷ 2 ∷ 203 ∷ 2 ∷ 3 ∷ 204 ∷ 2 ∷ 1 ∷ 205 ∷ 2 ∷ 7 ∷ 206 ∷ 2 ∷ 4 ∷ 2 ∷ 1 ∷ 10 ∷ 13 ∷ 0 ∷ 1 ∷ 18 ∷ 1 ∷ 8 ∷ 1 ∷ 4 ∷ 207 ∷ 2 ∷ 1 ∷ 1 ∷ 1 ∷ 30 ∷ [])

abbrev pub list_before : List ℕ
list_before = value_bytes (7 ∷ 16 ∷ 2 ∷ 12 ∷ 20 ∷ 5 ∷ 1 ∷ 4 ∷ 0 ∷ 16 ∷ 1 ∷ 4 ∷ 0 ∷ 90 ∷ 1 ∷ 70 ∷ 4 ∷ 14 ∷ 22 ∷ 26 ∷ 30 ∷ 3 ∷ 20 ∷ 26 ∷ 32 ∷ 1 ∷ 30 ∷ 1 ∷ 32 ∷ 1 ∷ 34 ∷ 201 ∷ 2 ∷ 1 ∷ 202 ∷ 2 ∷ 2 ∷ 203 ∷ 2 ∷ 3 ∷ 204 ∷ 2 ∷ 1 ∷ 205 ∷ 2 ∷ 7 ∷ 206 ∷ 2 ∷ 4 ∷ 1 ∷ 4 ∷ 10 ∷ 11 ∷ 12 ∷ 13 ∷ 1 ∷ 18 ∷ 1 ∷ 8 ∷ 1 ∷ 4 ∷ 207 ∷ 2 ∷ 1 ∷ 1 ∷ 1 ∷ 30 ∷ [])
