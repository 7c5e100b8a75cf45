-- What a search by halving answers, by what each call of its probe answers.
use Rattle.std.specs.Prelude.{◌≡◌, ℕ, ◌<◌, ◌≤◌, ◌≢◌, Some, None, Ok, Err, Option, Result}
use Rattle.std.specs.declared.cmp.Ordering.{Ordering}
use Rattle.std.specs.declared.cmp.Ordering.TheVariants.{Equal}
use Rattle.std.specs.Ordering.{ordering_index}

-- no answer is less than one in front of it
abbrev pub Ascends : {E : Type 0} → (ℕ → Result Ordering E) → ℕ → Type 0
Ascends answer n = (i j : ℕ) (a b : Ordering) → i ≤ j → j < n → answer i ≡ Ok a → answer j ≡ Ok b → ordering_index a ≤ ordering_index b

-- a place of which the answer is Equal; none, and then there is none if they ascend; or a fault that was answered
abbrev pub IsHalvingResult : {E : Type 0} → (ℕ → Result Ordering E) → ℕ → Result (Option ℕ) E → Type 0
IsHalvingResult answer n (Ok (Some k)) = (k < n) × (answer k ≡ Ok Equal)
IsHalvingResult answer n (Ok None) = Ascends answer n → (k : ℕ) → k < n → answer k ≢ Ok Equal
IsHalvingResult answer n (Err e) = (k : ℕ) × (k < n) × (answer k ≡ Err e)
