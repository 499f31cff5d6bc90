-- Tests of lists, and truths.
use Rattle.std.proofs.Common.{◌≡◌, Bool, true, false, ◌||◌, inl, inr, List, [], ◌∷◌, refl, sym, ap, ◌∙◌}
use mathlib.Core.Bool.{true≢false}
use Rattle.std.specs.List.{list_any}
use Rattle.schedule_kit.specs.Members.{In}

pub same_bool : (a b : Bool) → (a ≡ true → b ≡ true) → (b ≡ true → a ≡ true) → a ≡ b
same_bool true b f g = sym (f refl)
same_bool false true f g = g refl
same_bool false false f g = refl

pub not_true : (a : Bool) → (a ≡ true → ⊥) → a ≡ false
not_true true h = absurd (h refl)
not_true false h = refl

pub any_member : {A : Type 0} (p : A → Bool) (xs : List A) → list_any p xs ≡ true → (x : A) × In x xs × (p x ≡ true)
any_member p [] e = absurd (true≢false (sym e))
any_member {A} p (x ∷ xs) e = elim (p x) as (λ b. p x ≡ b → (b || list_any p xs) ≡ true → (y : A) × In y (x ∷ xs) × (p y ≡ true)) [
  | true ↦ λ t _. (x, inl refl, t)
  | false ↦ λ _ q. let rest = any_member p xs q in (rest.0, inr rest.1, rest.2)
] refl e

pub member_any : {A : Type 0} (p : A → Bool) (xs : List A) (x : A) → In x xs → p x ≡ true → list_any p xs ≡ true
member_any p [] x i e = absurd i
member_any p (y ∷ xs) x (inl same) e = ap (λ b. b || list_any p xs) (sym (ap p same) ∙ e)
member_any p (y ∷ xs) x (inr i) e = ap (λ b. p y || b) (member_any p xs x i e) ∙ elim (p y) as (λ b. (b || true) ≡ true) [ true ↦ refl | false ↦ refl ]

pub no_member : {A : Type 0} (xs : List A) → ((y : A) → In y xs → ⊥) → xs ≡ []
no_member [] h = refl
no_member (x ∷ xs) h = absurd (h x (inl refl))
