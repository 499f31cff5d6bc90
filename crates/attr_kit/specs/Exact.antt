-- Tests that tell all values apart.
use Rattle.std.specs.Prelude.{◌≡◌, Bool, true, false, ◌&&◌, [], ◌∷◌, Some, None, refl, nat_eq}
use Rattle.std.proofs.Common.{ap, sym, ◌∙◌}
use borrow.Author.Tests.{eqb-true}
use mathlib.Core.Bool.{true≢false}
use Rattle.std.specs.Option.{option_eq}
use Rattle.std.specs.Ordering.{int_eq}
use Rattle.std.specs.Cmp.Lexicographic.{pointwise}
use Rattle.std.specs.Cmp.{signed_Decides}
use Rattle.attr_kit.specs.contracts.attr_value.AttrValuePartialEq.TheImpl as values
use Rattle.attr_kit.specs.contracts.keep.KeepPartialEq.TheImpl as keeps
use Rattle.std.specs.contracts.prelude.BoolPartialEq.TheImpl as bools
use Rattle.attr_kit.specs.declared.attr_value.AttrValue.TheVariants.{Text, Truth, Whole}
use Rattle.attr_kit.specs.declared.keep.Keep.TheVariants.{All, Only}

-- values that the test finds equal are one
abbrev pub IsExact : {A : Type 0} → (A → A → Bool) → Type 0
IsExact {A} eq = (a b : A) → eq a b ≡ true → a ≡ b

-- both parts of a test that holds
pub first_holds : (a b : Bool) → (a && b) ≡ true → a ≡ true
first_holds true b e = refl
first_holds false b e = absurd (true≢false (sym e))

pub second_holds : (a b : Bool) → (a && b) ≡ true → b ≡ true
second_holds true b e = e
second_holds false b e = absurd (true≢false (sym e))

pub exact_unsigned : IsExact nat_eq
exact_unsigned = eqb-true

pub exact_signed : IsExact int_eq
exact_signed x y e = (signed_Decides x y).0 e

pub exact_lists : {A : Type 0} {eq : A → A → Bool} → IsExact eq → IsExact (pointwise eq)
exact_lists exact [] [] e = refl
exact_lists exact [] (y ∷ ys) e = absurd (true≢false (sym e))
exact_lists exact (x ∷ xs) [] e = absurd (true≢false (sym e))
exact_lists exact (x ∷ xs) (y ∷ ys) e = λ i. exact x y (first_holds _ _ e) i ∷ exact_lists exact xs ys (second_holds _ _ e) i

pub exact_texts : IsExact (pointwise nat_eq)
exact_texts = exact_lists exact_unsigned

pub exact_pairs : {A B : Type 0} {E : A → A → Bool} {F : B → B → Bool} → IsExact E → IsExact F → (x y : A × B) → (E x.0 y.0 && F x.1 y.1) ≡ true → x ≡ y
exact_pairs g h x y e = λ i. (g x.0 y.0 (first_holds _ _ e) i, h x.1 y.1 (second_holds _ _ e) i)

pub exact_bool : IsExact (bools.ghosts).eq
exact_bool true true e = refl
exact_bool false false e = refl
exact_bool a b e = cc

pub exact_values : IsExact (values.ghosts).eq
exact_values (Text s) (Text t) e = ap Text (exact_texts s t e)
exact_values (Truth s) (Truth t) e = ap Truth (exact_bool s t e)
exact_values (Whole s) (Whole t) e = ap Whole (exact_signed s t e)
exact_values a b e = cc

pub exact_keeps : IsExact (keeps.ghosts).eq
exact_keeps All All e = refl
exact_keeps (Only keys) (Only others) e = ap Only (exact_lists exact_texts keys others e)
exact_keeps a b e = cc

-- a value that can be made again of what the test reads
pub exact_through : {A B : Type 0} {E : B → B → Bool} (parts : A → B) (made : B → A) → ((a : A) → made (parts a) ≡ a) → IsExact E → (a b : A) → E (parts a) (parts b) ≡ true → a ≡ b
exact_through parts made back exact a b e = sym (back a) ∙ ap made (exact (parts a) (parts b) e) ∙ back b

pub exact_options : {A : Type 0} {eq : A → A → Bool} → IsExact eq → IsExact (option_eq eq)
exact_options exact None None e = refl
exact_options exact (Some a) (Some b) e = ap (λ x. Some x) (exact a b e)
exact_options exact a b e = cc
