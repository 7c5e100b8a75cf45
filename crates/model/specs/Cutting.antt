-- Cutting a subtable at a ceiling: entries in order, the size of a run, the parts, and the rule that they follow.
use Rattle.std.specs.Prelude.{◌≡◌, ℕ, suc, ◌+◌, ◌*◌, ◌<◌, ◌≤◌, Bool, false, cond, List, [], ◌∷◌, ◌++◌, length, sum_by, ◌==◌, nat_le, slice_index_or}
use Rattle.std.specs.List.{flat_map}
use Rattle.model.specs.Forest.{Ligature, LigatureSet, Subtable}

-- a ligature as it stands in its subtable: the index of its set and its index there, the set's vertex and first glyph
pub record Entry : Type 0 where
  pub set : ℕ
  pub place : ℕ
  pub owner : ℕ
  pub first : ℕ
  pub ligature : Ligature

abbrev pub entries_from : ℕ → ℕ → LigatureSet → List Ligature → List Entry
entries_from i j t [] = []
entries_from i j t (g ∷ gs) = record { set = i; place = j; owner = t.vertex; first = t.first; ligature = g } ∷ entries_from i (suc j) t gs

abbrev pub sets_from : ℕ → List LigatureSet → List Entry
sets_from i [] = []
sets_from i (t ∷ ts) = entries_from i 0 t t.ligatures ++ sets_from (suc i) ts

-- the ligatures of a subtable in order
abbrev pub entries : Subtable → List Entry
entries s = sets_from 0 s.sets

-- THE SIZE OF A RUN: 6, and 4 for each set touched, and 2 and its length for each ligature
abbrev pub table_length : Ligature → ℕ
table_length g = 4 + 2 * length g.components

abbrev pub entry_size : Entry → ℕ
entry_size e = 2 + table_length e.ligature

-- whether an entry is of the set that the entries behind it begin with
abbrev pub same_set : Entry → List Entry → Bool
same_set e [] = false
same_set e (f ∷ fs) = e.set == f.set

abbrev pub touched : List Entry → ℕ
touched [] = 0
touched (e ∷ es) = cond (same_set e es) 0 1 + touched es

unfoldable pub run_size : List Entry → ℕ
run_size es = 6 + (4 * touched es + sum_by entry_size es)

-- what a subtable takes, its coverage apart
abbrev pub subtable_size : Subtable → ℕ
subtable_size s = run_size (entries s)

-- THE PARTS: an entry with which the run at hand would exceed the ceiling begins the next
abbrev pub parts_from : ℕ → List Entry → List Entry → List (List Entry)
parts_from ceiling run [] = run ∷ []
parts_from ceiling run (e ∷ es) =
    cond (nat_le (run_size (run ++ e ∷ [])) ceiling)
    (parts_from ceiling (run ++ e ∷ []) es)
    (run ∷ parts_from ceiling (e ∷ []) es)

abbrev pub parts : ℕ → List Entry → List (List Entry)
parts ceiling es = parts_from ceiling [] es

-- a cut: before ligature j of set i
pub record Cut : Type 0 where
  pub set : ℕ
  pub place : ℕ

abbrev pub cuts_of : List Entry → List Cut
cuts_of [] = []
cuts_of (e ∷ es) = record { set = e.set; place = e.place } ∷ []

-- before the first entry of each part but the first
abbrev pub cuts_before : List (List Entry) → List Cut
cuts_before [] = []
cuts_before (p ∷ ps) = flat_map cuts_of ps

abbrev pub cuts : ℕ → Subtable → List Cut
cuts ceiling s = cuts_before (parts ceiling (entries s))

abbrev pub nth_part : List (List Entry) → ℕ → List Entry
nth_part ps k = slice_index_or ps k []

-- THE RULE IN WORDS: the parts are the entries in order; each is within the ceiling; each cut is forced
pub data Forced (ceiling : ℕ) : List (List Entry) → Type 0 where
  last : {p : List Entry} → Forced ceiling (p ∷ [])
  next : {p q : List Entry} {ps : List (List Entry)} (e : Entry) (rest : List Entry) → q ≡ e ∷ rest → ceiling < run_size (p ++ e ∷ []) → Forced ceiling (q ∷ ps) → Forced ceiling (p ∷ q ∷ ps)

pub record CutRule (ceiling : ℕ) (es : List Entry) (ps : List (List Entry)) : Type 0 where
  pub whole : flat_map (λ (p : List Entry). p) ps ≡ es
  pub within : (k : ℕ) → k < length ps → run_size (nth_part ps k) ≤ ceiling
  pub forced : Forced ceiling ps
