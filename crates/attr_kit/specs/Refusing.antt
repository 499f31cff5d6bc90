-- Refusals that are looked for in an order.
use Rattle.std.specs.Prelude.{◌≡◌, ℕ, ◌+◌, ◌∷◌, [], ◌++◌, List, Bool, cond, Option, Some, None, position}
use Rattle.std.specs.List.{list_any}
use Rattle.std.specs.Option.{option_or, option_map}

-- the first that there is
abbrev pub first : {F : Type 0} → List (Option F) → Option F
first [] = None
first (r ∷ rs) = option_or r (first rs)

-- none of them is there
abbrev pub NoneOf : {F : Type 0} → List (Option F) → Type 0
NoneOf [] = Unit {0}
NoneOf (r ∷ rs) = (r ≡ None) × NoneOf rs

-- a refusal without a place
abbrev pub when : {F : Type 0} → Bool → F → Option F
when b f = cond b (Some f) None

-- a refusal at the least place where the test holds
abbrev pub wherever : {F A : Type 0} → (ℕ → F) → (A → Bool) → List A → Option F
wherever f test xs = option_map f (position test xs)

-- the least place of an element that ties with an earlier one, the list standing behind others from place i on
abbrev pub repeat_from : {A : Type 0} → (A → A → Bool) → List A → ℕ → List A → Option ℕ
repeat_from eq earlier i [] = None
repeat_from eq earlier i (x ∷ xs) = cond (list_any (eq x) earlier) (Some i) (repeat_from eq (earlier ++ x ∷ []) (i + 1) xs)

-- the least place of an element that ties with an earlier one
abbrev pub repeat : {A : Type 0} → (A → A → Bool) → List A → Option ℕ
repeat eq xs = repeat_from eq [] 0 xs

-- the first element that has a place within, with its own place before it
abbrev pub within_from : {A : Type 0} → (A → Option ℕ) → ℕ → List A → Option (ℕ × ℕ)
within_from f i [] = None
within_from f i (x ∷ xs) = option_or (option_map (λ v. (i, v)) (f x)) (within_from f (i + 1) xs)

abbrev pub within : {A : Type 0} → (A → Option ℕ) → List A → Option (ℕ × ℕ)
within f xs = within_from f 0 xs
