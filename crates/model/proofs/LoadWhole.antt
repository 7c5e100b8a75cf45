-- A model that is read off a stream's tables, of good lookups at the roots, is loaded from it if no vertex strays: each table of the stream stands in it just once.
use Rattle.std.proofs.Common.{◌≡◌, ℕ, zero, suc, ◌+◌, ◌*◌, ◌<◌, ◌≤◌, eqb, List, [], ◌∷◌, map, length, Some, None, sum_by, Option, sym, refl, ap, ◌∙◌, subst, ⊎_elim, add-mul, one-mul, mul-zero, zero-mul, mul-one, arith, get_or, ◌-◌}
use Rattle.std.specs.List.{ContainsAt as Has, AllByRecursion, range_with_len}
use Rattle.std.proofs.lemmas.List.{length-append, length-map}
use Rattle.std.proofs.lemmas.List.Sums.{sum_by-cons, get_or-le-sum_by}
use Rattle.std.proofs.ByRecursion.{All-map, All-weaker}
use Rattle.std.proofs.lemmas.List.Sorted.{length_permutation}
use Rattle.std.proofs.lemmas.Bool.{cases_eq, cases_lt}
use Rattle.std.proofs.lemmas.List.FromFn.{length-range_with_len, get_or-range_with_len}
use Rattle.std.proofs.lemmas.Bool.Decides.{nat_tests}
use Rattle.model.proofs.LoadSought.{has-map}
use Rattle.words.specs.Grammar.{StreamLink, real, virtual, StreamTable, Stream}
use Rattle.words.specs.Reading.{links_in, bytes_in}
use Rattle.data_bytes.proofs.ValueLists.{length-value_bytes}
use Rattle.coverage.specs.Meaning.{Meant}
use Rattle.model.specs.Forest.{Lookup, Taken, Model}
use Rattle.model.specs.Tables.{Slot, Placed, model_walk, vertex_of, count_of, links_of}
use Rattle.model.specs.Rules.{nth}
use Rattle.model.specs.Sound.{GoodLookup, Distinct}
use Rattle.model.specs.Loading.{slots_of, virtuals_of, Spelt, taken_by, named, entered, Reached, root, onward, root_entered, entered_twice, named_twice, unreached, Strays, Never, Holds, Loaded}
use Rattle.model.specs.LoadingLaws.{ReadingsLoad}
use Rattle.model.proofs.Lists.{one, one_same, one_other}
use Rattle.model.proofs.LoadLists.{nth_below, sum_one, sum_zero}
use Rattle.model.proofs.LoadSame.{has_none, has_cases}
use Rattle.model.proofs.LoadFull.{into, shuffled_targets, sum_tables, sum_add, walk_once}

-- MEMBERS COUNT
pub has_count : (xs : List ℕ) (v : ℕ) → Has xs v → 0 < count_of v xs
has_count [] v h = absurd (has_none v h)
has_count (x ∷ xs) v h =
    ⊎_elim
    (λ e. let o = one_same x v e in omega arith)
    (λ i. let r = has_count xs v i in omega arith)
    (has_cases x xs v h)

has_target : (ls : List Slot) (l : Slot) → Has ls l → 0 < count_of l.target (map (λ (k : Slot). k.target) ls)
has_target ls l h = has_count (map (λ (k : Slot). k.target) ls) l.target (has-map (λ (k : Slot). k.target) ls l h)

distinct_from : (n : ℕ) (vs : List ℕ) → AllByRecursion (λ v. v < n) vs → ((v : ℕ) → v < n → count_of v vs ≤ 1) → Distinct vs
distinct_from n [] b h = tt
distinct_from n (u ∷ vs) b h = (grind (arith, nat_tests, h u b.0), distinct_from n vs b.1 (λ v l. omega (arith, h v l)))

-- SUMS WITH FACTORS
module _ (x g : ℕ → ℕ) where
  scaled_none : (a n : ℕ) → sum_by g (range_with_len a n) ≡ 0 → sum_by (λ u. x u * g u) (range_with_len a n) ≡ 0
  scaled_none a zero e = refl
  scaled_none a (suc n) e = grind (arith, sum_by-cons g a (range_with_len (a + 1) n), sum_by-cons (λ u. x u * g u) a (range_with_len (a + 1) n), mul-zero (x a), scaled_none (a + 1) n)

  term_le : (a n u : ℕ) → a ≤ u → u < a + n → g u ≤ sum_by g (range_with_len a n)
  term_le a n u l k =
      let m = length-range_with_len a n in
      let e : get_or (range_with_len a n) (u - a) 0 ≡ u = get_or-range_with_len a n (u - a) 0 (omega arith) ∙ (omega arith) in
      subst (λ v. g v ≤ sum_by g (range_with_len a n)) e (get_or-le-sum_by g (range_with_len a n) (u - a) 0 (omega arith))

  scaled_one : (a n u : ℕ) → a ≤ u → u < a + n → 0 < g u → sum_by g (range_with_len a n) ≡ 1 → sum_by (λ v. x v * g v) (range_with_len a n) ≡ x u
  scaled_one a zero u l k p e = absurd (omega arith)
  scaled_one a (suc n) u l k p e =
      let c = sum_by-cons g a (range_with_len (a + 1) n) in
      let d = sum_by-cons (λ v. x v * g v) a (range_with_len (a + 1) n) in
      let once : g a ≡ 1 → x a * g a ≡ x a = λ z. ap (λ y. x a * y) z ∙ mul-one (x a) in
      let never : g a ≡ 0 → x a * g a ≡ 0 = λ z. ap (λ y. x a * y) z ∙ mul-zero (x a) in
      grind (arith, cases_eq a u, c, d, once, never, scaled_none (a + 1) n, term_le (a + 1) n u, scaled_one (a + 1) n u)

  scaled_all : (a n : ℕ) → ((u : ℕ) → a ≤ u → u < a + n → x u ≡ 1) → sum_by (λ v. x v * g v) (range_with_len a n) ≡ sum_by g (range_with_len a n)
  scaled_all a zero h = refl
  scaled_all a (suc n) h = grind (arith, sum_by-cons g a (range_with_len (a + 1) n), sum_by-cons (λ v. x v * g v) a (range_with_len (a + 1) n), h a, one-mul (g a), scaled_all (a + 1) n (λ u l k. h u (omega arith) (omega arith)))

-- a sum over tables is one over numbers, each as often as it stands there
by_number : (g : ℕ → ℕ) (n : ℕ) (vs : List ℕ) → AllByRecursion (λ v. v < n) vs → sum_by g vs ≡ sum_by (λ u. count_of u vs * g u) (range_with_len 0 n)
by_number g n [] h = sym (sum_zero (λ u. 0 * g u) 0 n (λ u. zero-mul (g u)))
by_number g n (v ∷ vs) h =
    let c = sum_by-cons g v vs in
    let r = by_number g n vs h.1 in
    let s : sum_by (λ u. count_of u (v ∷ vs) * g u) (range_with_len 0 n) ≡ sum_by (λ u. one (eqb v u) * g u + count_of u vs * g u) (range_with_len 0 n) =
    λ i. sum_by (λ u. add-mul (one (eqb v u)) (count_of u vs) (g u) i) (range_with_len 0 n) in
    let a = sum_add (λ u. one (eqb v u) * g u) (λ u. count_of u vs * g u) 0 n in
    let b = sum_one (λ u. one (eqb v u) * g u) (λ u. 0) 0 n v (g v) (omega arith) (let l = h.0 in omega arith)
    (λ u o. ap (λ k. k * g u) (one_other v u (λ e. o (sym e))) ∙ zero-mul (g u)) refl (ap (λ k. k * g v) (one_same v v refl) ∙ one-mul (g v)) in
    let z = sum_zero (λ u. 0) 0 n (λ u. refl) in
    omega arith

sum_mapped : (f : Placed → ℕ) (g : ℕ → ℕ) (ps : List Placed) → AllByRecursion (λ (p : Placed). f p ≡ g p.vertex) ps → sum_by f ps ≡ sum_by g (map vertex_of ps)
sum_mapped f g [] h = refl
sum_mapped f g (p ∷ ps) h = let a = sum_by-cons f p ps in let b = sum_by-cons g p.vertex (map vertex_of ps) in let e = h.0 in let r = sum_mapped f g ps h.1 in omega arith

-- a number of a table that may be there
abbrev number_in : (StreamTable → ℕ) → Option StreamTable → ℕ
number_in f None = 0
number_in f (Some t) = f t

links_in_lem : (ts : List StreamTable) → links_in ts ≡ sum_by (λ (t : StreamTable). length t.links) ts
links_in_lem [] = refl
links_in_lem (t ∷ ts) = let a = sum_by-cons (λ (u : StreamTable). length u.links) t ts in let r = links_in_lem ts in omega arith

bytes_in_lem : (ts : List StreamTable) → bytes_in ts ≡ sum_by (λ (t : StreamTable). 2 * length t.values) ts
bytes_in_lem [] = refl
bytes_in_lem (t ∷ ts) = let a = sum_by-cons (λ (u : StreamTable). 2 * length u.values) t ts in let r = bytes_in_lem ts in omega arith

pub links_parted : (ls : List StreamLink) → length ls ≡ length (slots_of ls) + length (virtuals_of ls)
links_parted [] = refl
links_parted (real w p t ∷ ls) = let r = links_parted ls in omega arith
links_parted (virtual t ∷ ls) = let r = links_parted ls in omega arith

module _ (s : Stream) (m : Model) (tables : AllByRecursion (Holds s) (model_walk m)) (roots : s.roots ≡ map (λ (l : Lookup). l.vertex) m.lookups) (strays : Never (Strays s)) where
  abbrev size : ℕ
  size = length s.tables

  abbrev times : ℕ → ℕ
  times v = count_of v (map vertex_of (model_walk m))

  below : AllByRecursion (λ (p : Placed). p.vertex < size) (model_walk m)
  below = All-weaker (Holds s) (λ (p : Placed). p.vertex < size) (λ p h. nth_below s.tables p.vertex h.0 h.1) (model_walk m) tables

  numbers_below : AllByRecursion (λ v. v < size) (map vertex_of (model_walk m))
  numbers_below = All-map (λ v. v < size) vertex_of (model_walk m) below

  -- a number that tables of model and stream share, over the walk
  over_walk : (f : StreamTable → ℕ) (g : Placed → ℕ) → ((p : Placed) (t : StreamTable) → Spelt t p.table → virtuals_of t.links ≡ p.table.virtuals → g p ≡ f t)
      → sum_by g (model_walk m) ≡ sum_by (λ u. times u * number_in f (nth s.tables u)) (range_with_len 0 size)
  over_walk f g h =
      sum_mapped g (λ u. number_in f (nth s.tables u)) (model_walk m)
      (All-weaker (Holds s) (λ (p : Placed). g p ≡ number_in f (nth s.tables p.vertex)) (λ p a. h p a.0 a.2 a.3 ∙ sym (ap (number_in f) a.1)) (model_walk m) tables)
      ∙ by_number (λ u. number_in f (nth s.tables u)) size (map vertex_of (model_walk m)) numbers_below

  over_stream : (f : StreamTable → ℕ) → sum_by f s.tables ≡ sum_by (λ u. number_in f (nth s.tables u)) (range_with_len 0 size)
  over_stream f =
      sum_tables f (λ u. number_in f (nth s.tables u)) 0 s.tables
      (λ k t e. sym (ap (number_in f) e) ∙ ap (λ u. number_in f (nth s.tables u)) (let z : k ≡ 0 + k = omega arith in z))

  -- how often real links of a table lead to v
  abbrev leading : ℕ → StreamTable → ℕ
  leading v t = count_of v (map (λ (l : Slot). l.target) (slots_of t.links))

  abbrev leads : ℕ → ℕ → ℕ
  leads v u = number_in (leading v) (nth s.tables u)

  times_is : (v : ℕ) → times v ≡ named s v + sum_by (λ u. times u * leads v u) (range_with_len 0 size)
  times_is v =
      let a = walk_once v m in
      let b : named s v ≡ count_of v (map (λ (l : Lookup). l.vertex) m.lookups) = ap (count_of v) roots in
      let c = over_walk (leading v) (λ (p : Placed). into v p.table) (λ p t h i. sym (shuffled_targets v t p.table h)) in
      omega arith

  entered_is : (v : ℕ) → entered s v ≡ sum_by (leads v) (range_with_len 0 size)
  entered_is v = over_stream (leading v)

  root_once : (v : ℕ) → v < size → 0 < named s v → times v ≡ 1
  root_once v l h =
      let t = times_is v in
      let e = entered_is v in
      ⊎_elim
      (λ x. absurd (strays v (l, root_entered h x)))
      (λ x. ⊎_elim
      (λ y. absurd (strays v (l, named_twice y)))
      (λ y. let z = scaled_none times (leads v) 0 size (omega arith) in omega arith)
      (cases_lt 1 (named s v)))
      (cases_lt 0 (entered s v))

  onward_once : (v u : ℕ) → v < size → u < size → 0 < leads v u → times u ≡ 1 → times v ≡ 1
  onward_once v u l k h i =
      let t = times_is v in
      let e = entered_is v in
      let b = term_le times (leads v) 0 size u (omega arith) (omega arith) in
      ⊎_elim
      (λ x. absurd (strays v (l, root_entered x (omega arith))))
      (λ x. ⊎_elim
      (λ y. absurd (strays v (l, entered_twice (omega arith) y)))
      (λ y. let z = scaled_one times (leads v) 0 size u (omega arith) (omega arith) h (omega arith) in omega arith)
      (cases_lt 1 (entered s v)))
      (cases_lt 0 (named s v))

  reached_once : {v : ℕ} → Reached s v → v < size → times v ≡ 1
  reached_once (root v h) l = root_once v l (has_count s.roots v h)
  reached_once (onward u t k r e h) l =
      let b = nth_below s.tables u t e in
      onward_once k.target u l b (subst (λ o. 0 < number_in (leading k.target) o) (sym e) (has_target (slots_of t.links) k h)) (reached_once r b)

  all_once : (v : ℕ) → v < size → times v ≡ 1
  all_once v l = ⊎_elim (λ e. e) (λ o. absurd (strays v (l, unreached (λ r. o (reached_once r l))))) (cases_eq (times v) 1)

  distinct : Distinct (map vertex_of (model_walk m))
  distinct = distinct_from size (map vertex_of (model_walk m)) numbers_below (λ v l. let e = all_once v l in omega arith)

  over_all : (f : StreamTable → ℕ) (g : Placed → ℕ) → ((p : Placed) (t : StreamTable) → Spelt t p.table → virtuals_of t.links ≡ p.table.virtuals → g p ≡ f t) → sum_by g (model_walk m) ≡ sum_by f s.tables
  over_all f g h = over_walk f g h ∙ scaled_all times (λ u. number_in f (nth s.tables u)) 0 size (λ u l k. all_once u (omega arith)) ∙ sym (over_stream f)

  whole : length (model_walk m) ≡ size
  whole =
      let a = over_all (λ t. 1) (λ p. 1) (λ p t h i. refl) in
      let b = ones (model_walk m) in
      let c = ones s.tables in
      omega arith
    where
      ones : {X : Type 0} (xs : List X) → sum_by (λ x. 1) xs ≡ length xs
      ones [] = refl
      ones (x ∷ xs) = let a = sum_by-cons (λ y. 1) x xs in let r = ones xs in omega arith

  links_same : (p : Placed) (t : StreamTable) → Spelt t p.table → virtuals_of t.links ≡ p.table.virtuals → links_of p ≡ length t.links
  links_same p t h e =
      let a = length-append (map (λ (l : Slot). l.target) p.table.slots) p.table.virtuals in
      let b = length-map p.table.slots (λ (l : Slot). l.target) in
      let c = length_permutation p.table.slots (slots_of t.links) h.slots in
      let d : length (virtuals_of t.links) ≡ length p.table.virtuals = ap length e in
      let f = links_parted t.links in
      omega arith

  bytes_same : (p : Placed) (t : StreamTable) → Spelt t p.table → length p.table.bytes ≡ 2 * length t.values
  bytes_same p t h = ap length (sym h.bytes) ∙ length-value_bytes t.values

  pub read_whole : (meaning : List ℕ → Option Meant) → AllByRecursion (GoodLookup meaning) m.lookups → m.taken ≡ taken_by s → Loaded meaning s m
  read_whole meaning good taken =
      let v : m.taken.vertices ≡ size = ap (λ (t : Taken). t.vertices) taken in
      let l : m.taken.links ≡ links_in s.tables = ap (λ (t : Taken). t.links) taken in
      let b : m.taken.bytes ≡ bytes_in s.tables = ap (λ (t : Taken). t.bytes) taken in
      let bytes = over_all (λ (t : StreamTable). 2 * length t.values) (λ (p : Placed). length p.table.bytes) (λ p t h i. bytes_same p t h) in
      let said = bytes_in_lem s.tables in
      record {
        good = record {
          lookups = good;
          distinct = distinct;
          below = subst (λ n. AllByRecursion (λ (p : Placed). p.vertex < n) (model_walk m)) (sym v) below;
          vertices = whole ∙ sym v;
          links = over_all (λ (t : StreamTable). length t.links) links_of links_same ∙ sym (links_in_lem s.tables) ∙ sym l;
          room = omega arith;
        };
        tables = tables;
        roots = roots;
        taken = taken;
      }

pub readings_load_lem : (meaning : List ℕ → Option Meant) → ReadingsLoad meaning
readings_load_lem meaning s m good tables roots strays taken = read_whole s m tables roots strays meaning good taken
