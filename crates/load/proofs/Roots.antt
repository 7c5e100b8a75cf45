-- The root words of a stream: where they stand, and what they name.
use Rattle.std.proofs.Common.{◌≡◌, ℕ, ◌+◌, ◌-◌, ◌^◌, ◌<◌, ◌≤◌, List, [], ◌∷◌, ◌++◌, map, length, take, drop, sym, refl, ap, ◌∙◌, arith, length-append}
use Rattle.std.specs.List.{flat_map, AllByRecursion}
use Rattle.std.proofs.lemmas.List.{length-map, map-append, drop_at, take_at}
use Rattle.words.specs.declared.WordKind.TheVariants.{Root, Count}
use Rattle.words.specs.Words.{word_of}
use Rattle.words.specs.Grammar.{Stream, say, table_tokens, Spells}
use Rattle.load.specs.Outcome.{root_number}

-- a root word names its root
named : (v : ℕ) → v < 2 ^ 28 → root_number (word_of (say Root v)) ≡ v
named v h = omega arith

all_named : (n : ℕ) (vs : List ℕ) → n < 2 ^ 28 → AllByRecursion (λ r. r < n) vs → map root_number (map word_of (map (say Root) vs)) ≡ vs
all_named n [] l h = refl
all_named n (v ∷ vs) l h = ap (λ x. x ∷ map root_number (map word_of (map (say Root) vs))) (named v (let k = h.0 in omega arith)) ∙ ap (λ xs. v ∷ xs) (all_named n vs l h.1)

-- the root words
abbrev pub root_words : List ℕ → ℕ → List ℕ
root_words ws n = take n (drop (length ws - 1 - n) ws)

module _ (ws : List ℕ) (s : Stream) (h : Spells ws s) where
  front : List ℕ
  front = map word_of (flat_map table_tokens s.tables)

  behind : List ℕ
  behind = map word_of (map (say Root) s.roots)

  last : List ℕ
  last = word_of (say Count (length s.tables)) ∷ []

  parted : ws ≡ front ++ (behind ++ last)
  unfolding front behind last
  parted =
      sym h.words
      ∙ map-append word_of (flat_map table_tokens s.tables) (map (say Root) s.roots ++ say Count (length s.tables) ∷ [])
      ∙ ap (λ xs. map word_of (flat_map table_tokens s.tables) ++ xs) (map-append word_of (map (say Root) s.roots) (say Count (length s.tables) ∷ []))

  length_behind : length behind ≡ length s.roots
  unfolding behind
  length_behind = length-map (map (say Root) s.roots) word_of ∙ length-map s.roots (say Root)

  pub long : length s.roots + 1 ≤ length ws
  unfolding last
  long =
      let a = ap length parted in
      let b = length-append front (behind ++ last) in
      let c = length-append behind last in
      let d = length_behind in
      omega arith

  words_are : root_words ws (length s.roots) ≡ behind
  unfolding last
  words_are =
      let n : length front ≡ length ws - 1 - length s.roots =
      (let a = ap length parted in
      let b = length-append front (behind ++ last) in
      let c = length-append behind last in
      let d = length_behind in
      omega arith) in
      ap (λ xs. take (length s.roots) (drop (length ws - 1 - length s.roots) xs)) parted
      ∙ ap (take (length s.roots)) (drop_at front (behind ++ last) (length ws - 1 - length s.roots) n)
      ∙ take_at behind last (length s.roots) length_behind

  pub roots_are : map root_number (root_words ws (length s.roots)) ≡ s.roots
  unfolding behind
  roots_are = ap (map root_number) words_are ∙ all_named (length s.tables) s.roots (let k = h.fine.count in omega arith) h.fine.uncounted.roots
