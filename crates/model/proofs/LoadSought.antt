-- What is asked of a stream can be settled: loose links, reached vertices, strays; and the lowest vertex of a kind can be found.
use Rattle.std.proofs.Common.{◌≡◌, ℕ, zero, suc, ◌+◌, ◌<◌, ◌≤◌, ◌⊎◌, List, [], ◌∷◌, ◌++◌, map, length, Some, None, count_by, Option, sym, refl, ap, ◌∙◌, subst, inl, inr, ⊎_elim, arith, get_or}
use Rattle.std.specs.List.{ContainsAt as Has, flat_map, AllByRecursion, range_with_len}
use Rattle.std.proofs.lemmas.List.Sums.{sum_by-le}
use Rattle.std.proofs.ByRecursion.{has_append_left, has_append_right, all-has, has_append_cases}
use Rattle.std.proofs.lemmas.Bool.{cases_eq, cases_lt}
use Rattle.std.proofs.lemmas.List.FromFn.{length-range_with_len}
use Rattle.words.specs.Grammar.{StreamTable, Stream}
use Rattle.words.proofs.Saying.{none_some}
use Rattle.model.specs.Tables.{Slot, count_of}
use Rattle.model.specs.Rules.{nth}
use Rattle.model.specs.Sound.{Distinct}
use Rattle.model.specs.Loading.{slots_of, virtuals_of, bytes_of, Loose, nowhere, nowhere_virtual, beyond, shared, Loosely, named, entered, Reached, root, onward, Astray, root_entered, entered_twice, named_twice, unreached, Strays, Lowest, Never}
use Rattle.model.proofs.Lists.{distinct_count, one_other}
use Rattle.model.proofs.LoadLists.{count_cons, nth_below}
use Rattle.model.proofs.LoadSame.{has_first, has_later, has_cases, has_none}
use Rattle.model.proofs.LoadBack.{at_position}
use Rattle.model.proofs.LoadFull.{counted_all, table_same}

-- it is so or it is not
abbrev pub Settled : Type 0 → Type 0
Settled P = P ⊎ (P → ⊥)

pub settled_both : (P Q : Type 0) → Settled P → Settled Q → Settled (P × Q)
settled_both P Q p q = ⊎_elim (λ a. ⊎_elim (λ b. inl (a, b)) (λ o. inr (λ c. o c.1)) q) (λ o. inr (λ c. o c.0)) p

pub settled_as : (P Q : Type 0) → (P → Q) → (Q → P) → Settled P → Settled Q
settled_as P Q f g p = ⊎_elim (λ a. inl (f a)) (λ o. inr (λ b. o (g b))) p

-- FINDING
module _ {X : Type 0} (P : X → Type 0) (settle : (x : X) → Settled (P x)) where
  pub find : (xs : List X) → ((x : X) × Has xs x × P x) ⊎ ((x : X) → Has xs x → P x → ⊥)
  find [] = inr (λ x h p. has_none x h)
  find (y ∷ xs) =
      ⊎_elim
      (λ p. inl (y, has_first y xs, p))
      (λ o. ⊎_elim
      (λ f. inl (f.0, has_later y xs f.0 f.1, f.2))
      (λ n. inr (λ x h p. ⊎_elim (λ e. o (subst P (sym e) p)) (λ i. n x i p) (has_cases y xs x h)))
      (find xs))
      (settle y)

module _ (P : ℕ → Type 0) (settle : (v : ℕ) → Settled (P v)) (n : ℕ) (bound : (v : ℕ) → P v → v < n) where
  lowest_from : (k a : ℕ) → a + k ≡ n → ((u : ℕ) → u < a → P u → ⊥) → ((v : ℕ) × Lowest P v) ⊎ Never P
  lowest_from zero a e below = inr (λ v p. below v (let l = bound v p in omega arith) p)
  lowest_from (suc k) a e below =
      ⊎_elim
      (λ p. inl (a, record { holds = p; lower = below }))
      (λ o. lowest_from k (a + 1) (omega arith) (λ u l p. ⊎_elim (λ m. below u m p) (λ m. let z : u ≡ a = omega arith in o (subst P z p)) (cases_lt u a)))
      (settle a)

  pub lowest : ((v : ℕ) × Lowest P v) ⊎ Never P
  lowest = lowest_from n 0 (omega arith) (λ u l p. omega arith)

pub settled_lt : (a b : ℕ) → Settled (a < b)
settled_lt a b = ⊎_elim (λ l. inl l) (λ l. inr (λ k. omega arith)) (cases_lt a b)

pub settled_le : (a b : ℕ) → Settled (a ≤ b)
settled_le a b = ⊎_elim (λ l. inr (λ k. omega arith)) (λ l. inl l) (cases_lt b a)

pub nth_settled : {X : Type 0} (xs : List X) (n : ℕ) → ((x : X) × (nth xs n ≡ Some x)) ⊎ (nth xs n ≡ None)
nth_settled {X} xs n = by (nth xs n) refl
  where
    by : (o : Option X) → nth xs n ≡ o → ((x : X) × (nth xs n ≡ Some x)) ⊎ (nth xs n ≡ None)
    by None e = inr e
    by (Some x) e = inl (x, e)

-- LOOSE LINKS
count_has : (p : ℕ) (ls : List Slot) → 0 < count_by (at_position p) ls → (l : Slot) × Has ls l × (l.position ≡ p)
count_has p [] h = absurd (omega arith)
count_has p (l ∷ ls) h =
    let c = count_cons (at_position p) l ls in
    ⊎_elim
    (λ e. (l, has_first l ls, e))
    (λ o. let z = one_other l.position p o in let r = count_has p ls (omega arith) in (r.0, has_later l ls r.0 r.1, r.2))
    (cases_eq l.position p)

module _ (s : Stream) where
  loose_settled : (t : StreamTable) → Settled (Loose s t)
  loose_settled t =
      ⊎_elim
      (λ f. inl (nowhere f.0 f.1 f.2))
      (λ a. ⊎_elim
      (λ f. inl (nowhere_virtual f.0 f.1 f.2))
      (λ b. ⊎_elim
      (λ f. inl (beyond f.0 f.1 f.2))
      (λ c. ⊎_elim
      (λ f. inl (shared f.0.position f.2))
      (λ d. inr (none a b c d))
      (find (λ (l : Slot). 1 < count_by (at_position l.position) (slots_of t.links)) (λ l. settled_lt 1 (count_by (at_position l.position) (slots_of t.links))) (slots_of t.links)))
      (find (λ (l : Slot). length (bytes_of t) < l.position + l.width) (λ l. settled_lt (length (bytes_of t)) (l.position + l.width)) (slots_of t.links)))
      (find (λ v. length s.tables ≤ v) (λ v. settled_le (length s.tables) v) (virtuals_of t.links)))
      (find (λ (l : Slot). length s.tables ≤ l.target) (λ l. settled_le (length s.tables) l.target) (slots_of t.links))
    where
      none : ((l : Slot) → Has (slots_of t.links) l → length s.tables ≤ l.target → ⊥) → ((v : ℕ) → Has (virtuals_of t.links) v → length s.tables ≤ v → ⊥)
          → ((l : Slot) → Has (slots_of t.links) l → length (bytes_of t) < l.position + l.width → ⊥)
          → ((l : Slot) → Has (slots_of t.links) l → 1 < count_by (at_position l.position) (slots_of t.links) → ⊥) → Loose s t → ⊥
      none a b c d (nowhere l h g) = a l h g
      none a b c d (nowhere_virtual v h g) = b v h g
      none a b c d (beyond l h g) = c l h g
      none a b c d (shared p g) =
          let r = count_has p (slots_of t.links) (omega arith) in
          d r.0 r.1 (subst (λ q. 1 < count_by (at_position q) (slots_of t.links)) (sym r.2) g)

  loosely_settled : (v : ℕ) → Settled (Loosely s v)
  loosely_settled v =
      ⊎_elim
      (λ t. ⊎_elim (λ l. inl (t.0, t.1, l)) (λ o. inr (λ x. o (subst (Loose s) (table_same s v x.0 t.0 x.1 t.1) x.2))) (loose_settled t.0))
      (λ e. inr (λ x. none_some (sym e ∙ x.1)))
      (nth_settled s.tables v)

  pub loose_sought : ((v : ℕ) × Lowest (Loosely s) v) ⊎ Never (Loosely s)
  loose_sought = lowest (Loosely s) loosely_settled (length s.tables) (λ v x. nth_below s.tables v x.0 x.1)

-- REACHED VERTICES: mark one more as long as a link leads from the marked ones to another
counted_has : (v : ℕ) (vs : List ℕ) → 0 < count_of v vs → Has vs v
counted_has v [] h = absurd (omega arith)
counted_has v (u ∷ vs) h =
    ⊎_elim
    (λ e. subst (Has (u ∷ vs)) e (has_first u vs))
    (λ o. let z = one_other u v o in has_later u vs v (counted_has v vs (omega arith)))
    (cases_eq u v)

pub has_joined : {X Y : Type 0} (f : X → List Y) (xs : List X) (x : X) (y : Y) → Has xs x → Has (f x) y → Has (flat_map f xs) y
has_joined f [] x y h i = absurd (has_none x h)
has_joined f (z ∷ xs) x y h i =
    ⊎_elim
    (λ e. has_append_left (f z) (flat_map f xs) y (subst (λ w. Has (f w) y) (sym e) i))
    (λ j. has_append_right (f z) (flat_map f xs) y (has_joined f xs x y j i))
    (has_cases z xs x h)

joined_has : {X Y : Type 0} (f : X → List Y) (xs : List X) (y : Y) → Has (flat_map f xs) y → (x : X) × Has xs x × Has (f x) y
joined_has f [] y h = absurd (has_none y h)
joined_has f (x ∷ xs) y h =
    ⊎_elim
    (λ i. (x, has_first x xs, i))
    (λ i. let r = joined_has f xs y i in (r.0, has_later x xs r.0 r.1, r.2))
    (has_append_cases (f x) (flat_map f xs) y h)

pub has-map : {X Y : Type 0} (f : X → Y) (xs : List X) (x : X) → Has xs x → Has (map f xs) (f x)
has-map f [] x h = absurd (has_none x h)
has-map f (z ∷ xs) x h = ⊎_elim (λ e. subst (Has (f z ∷ map f xs)) (ap f e) (has_first (f z) (map f xs))) (λ i. has_later (f z) (map f xs) (f x) (has-map f xs x i)) (has_cases z xs x h)

map-has : {X Y : Type 0} (f : X → Y) (xs : List X) (y : Y) → Has (map f xs) y → (x : X) × Has xs x × (f x ≡ y)
map-has f [] y h = absurd (has_none y h)
map-has f (z ∷ xs) y h = ⊎_elim (λ e. (z, has_first z xs, e)) (λ i. let r = map-has f xs y i in (r.0, has_later z xs r.0 r.1, r.2)) (has_cases (f z) (map f xs) y h)

short_distinct : (n : ℕ) (vs : List ℕ) → Distinct vs → AllByRecursion (λ v. v < n) vs → length vs ≤ n
short_distinct n vs d b =
    let c = counted_all n vs b in
    let m = sum_by-le (λ v. count_of v vs) 1 (range_with_len 0 n) (λ i e j. distinct_count vs d (get_or (range_with_len 0 n) i e)) in
    let k = length-range_with_len 0 n in
    omega arith

abbrev next_of : Option StreamTable → List ℕ
next_of None = []
next_of (Some t) = map (λ (l : Slot). l.target) (slots_of t.links)

module _ (s : Stream) (rooted : AllByRecursion (λ r. r < length s.tables) s.roots) (tight : Never (Loosely s)) where
  abbrev candidates : List ℕ → List ℕ
  candidates marks = s.roots ++ flat_map (λ u. next_of (nth s.tables u)) marks

  record Marked (marks : List ℕ) : Type 0 where
    reached : AllByRecursion (Reached s) marks
    distinct : Distinct marks
    below : AllByRecursion (λ v. v < length s.tables) marks

  abbrev Closed : List ℕ → Type 0
  Closed marks = (v : ℕ) → Has (candidates marks) v → count_of v marks ≡ 0 → ⊥

  -- where a candidate comes from
  candidate : (marks : List ℕ) (v : ℕ) → AllByRecursion (Reached s) marks → Has (candidates marks) v → Reached s v × (v < length s.tables)
  candidate marks v r h =
      ⊎_elim
      (λ i. (root v i, all-has (λ x. x < length s.tables) s.roots v rooted i))
      (λ i. let j = joined_has (λ u. next_of (nth s.tables u)) marks v i in from j.0 (all-has (Reached s) marks j.0 r j.1) j.2)
      (has_append_cases s.roots (flat_map (λ u. next_of (nth s.tables u)) marks) v h)
    where
      by : (u : ℕ) (o : Option StreamTable) → nth s.tables u ≡ o → Reached s u → Has (next_of o) v → Reached s v × (v < length s.tables)
      by u None e x k = absurd (has_none v k)
      by u (Some t) e x k =
          let l = map-has (λ (y : Slot). y.target) (slots_of t.links) v k in (
            subst (Reached s) l.2 (onward u t l.0 x e l.1),
            subst (λ z. z < length s.tables) l.2 (⊎_elim (λ m. m) (λ m. absurd (tight u (t, e, nowhere l.0 l.1 m))) (cases_lt l.0.target (length s.tables))),
          )

      from : (u : ℕ) → Reached s u → Has (next_of (nth s.tables u)) v → Reached s v × (v < length s.tables)
      from u x k = by u (nth s.tables u) refl x k

  step : (marks : List ℕ) → Marked marks → ((v : ℕ) × Marked (v ∷ marks)) ⊎ Closed marks
  step marks m =
      ⊎_elim
      (λ f. let r = candidate marks f.0 m.reached f.1 in inl (f.0, record { reached = (r.0, m.reached); distinct = (f.2, m.distinct); below = (r.1, m.below) }))
      (λ n. inr n)
      (find (λ v. count_of v marks ≡ 0) (λ v. cases_eq (count_of v marks) 0) (candidates marks))

  close : (fuel : ℕ) (marks : List ℕ) → length s.tables ≤ fuel + length marks → Marked marks → (all : List ℕ) × Marked all × Closed all
  close zero marks l m =
      ⊎_elim
      (λ f. let k = short_distinct (length s.tables) (f.0 ∷ marks) f.1.distinct f.1.below in absurd (omega arith))
      (λ c. (marks, m, c))
      (step marks m)
  close (suc k) marks l m = ⊎_elim (λ f. close k (f.0 ∷ marks) (omega arith) f.1) (λ c. (marks, m, c)) (step marks m)

  module _ (all : List ℕ) (marked : Marked all) (closed : Closed all) where
    in_all : (v : ℕ) → Has (candidates all) v → 0 < count_of v all
    in_all v h = ⊎_elim (λ l. l) (λ l. absurd (closed v h (omega arith))) (cases_lt 0 (count_of v all))

    reached_in : {v : ℕ} → Reached s v → 0 < count_of v all
    reached_in (root v h) = in_all v (has_append_left s.roots (flat_map (λ u. next_of (nth s.tables u)) all) v h)
    reached_in (onward u t l r e h) =
        in_all l.target (has_append_right s.roots (flat_map (λ w. next_of (nth s.tables w)) all) l.target
        (has_joined (λ w. next_of (nth s.tables w)) all u l.target (counted_has u all (reached_in r))
        (subst (λ o. Has (next_of o) l.target) (sym e) (has-map (λ (y : Slot). y.target) (slots_of t.links) l h))))

    settled_in : (v : ℕ) → Settled (Reached s v)
    settled_in v =
        ⊎_elim
        (λ l. inl (all-has (Reached s) all v marked.reached (counted_has v all l)))
        (λ l. inr (λ r. let k = reached_in r in omega arith))
        (cases_lt 0 (count_of v all))

  reached_settled : (v : ℕ) → Settled (Reached s v)
  reached_settled v = let c = close (length s.tables) [] (omega arith) (record { reached = tt; distinct = tt; below = tt }) in settled_in c.0 c.1 c.2 v

  -- STRAYS
  astray_settled : (v : ℕ) → Settled (Astray s v)
  astray_settled v =
      ⊎_elim
      (λ a. inl (named_twice a))
      (λ a. ⊎_elim
      (λ b. ⊎_elim (λ c. inl (root_entered b c)) (λ c. reach a (λ x y. omega arith) (λ x y. omega arith)) (cases_lt 0 (entered s v)))
      (λ b. ⊎_elim (λ c. inl (entered_twice (omega arith) c)) (λ c. reach a (λ x y. omega arith) (λ x y. omega arith)) (cases_lt 1 (entered s v)))
      (cases_lt 0 (named s v)))
      (cases_lt 1 (named s v))
    where
      none : named s v ≤ 1 → (0 < named s v → 0 < entered s v → ⊥) → (named s v ≡ 0 → 1 < entered s v → ⊥) → Reached s v → Astray s v → ⊥
      none a b c r (root_entered x y) = b x y
      none a b c r (entered_twice x y) = c x y
      none a b c r (named_twice x) = omega arith
      none a b c r (unreached f) = f r

      reach : named s v ≤ 1 → (0 < named s v → 0 < entered s v → ⊥) → (named s v ≡ 0 → 1 < entered s v → ⊥) → Settled (Astray s v)
      reach a b c = ⊎_elim (λ r. inr (none a b c r)) (λ o. inl (unreached o)) (reached_settled v)

  pub strays_sought : ((v : ℕ) × Lowest (Strays s) v) ⊎ Never (Strays s)
  strays_sought =
      lowest (Strays s) (λ v. settled_both (v < length s.tables) (Astray s v) (settled_lt v (length s.tables)) (astray_settled v)) (length s.tables) (λ v x. x.0)
