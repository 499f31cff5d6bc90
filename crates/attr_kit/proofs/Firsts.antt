-- The first refusal of a list, and where there is none.
use Rattle.std.proofs.Common.{◌≡◌, List, [], ◌∷◌, Option, Some, None, refl, ap, ◌∙◌, Bool, true, false, cond}
use Rattle.std.specs.Option.{option_or, option_map}
use Rattle.attr_kit.specs.Refusing.{first, NoneOf, when}

module _ {F : Type 0} where
  -- where there is no first refusal, there is none, and the other way round
  pub none_of : (rs : List (Option F)) → first rs ≡ None → NoneOf rs
  none_of [] e = tt
  none_of (None ∷ rs) e = (refl, none_of rs e)
  none_of (Some f ∷ rs) e = cc

  pub first_none : (rs : List (Option F)) → NoneOf rs → first rs ≡ None
  first_none [] h = refl
  first_none (r ∷ rs) h = ap (λ o. option_or o (first rs)) h.0 ∙ first_none rs h.1

  -- a refusal that is there comes before the later ones, one that is not leaves them
  pub first_here : (r : Option F) (f : F) (rs : List (Option F)) → r ≡ Some f → first (r ∷ rs) ≡ Some f
  first_here r f rs e = ap (λ o. option_or o (first rs)) e

  pub first_later : (r : Option F) (rs : List (Option F)) → r ≡ None → first (r ∷ rs) ≡ first rs
  first_later r rs e = ap (λ o. option_or o (first rs)) e

  -- a refusal without a place
  pub when_none : (b : Bool) (f : F) → when b f ≡ None → b ≡ false
  when_none false f e = refl
  when_none true f e = cc

  pub none_when : (b : Bool) (f : F) → b ≡ false → when b f ≡ None
  none_when b f e = ap (λ t. cond t (Some f) None) e

  pub some_when : (b : Bool) (f : F) → b ≡ true → when b f ≡ Some f
  some_when b f e = ap (λ t. cond t (Some f) None) e

  pub when_some : (b : Bool) (f g : F) → when b f ≡ Some g → (b ≡ true) × (f ≡ g)
  when_some true f g e = (refl, cc)
  when_some false f g e = cc

module _ {A B : Type 0} (f : A → B) where
  pub map_none : (o : Option A) → option_map f o ≡ None → o ≡ None
  map_none None e = refl
  map_none (Some a) e = cc

  pub none_map : (o : Option A) → o ≡ None → option_map f o ≡ None
  none_map o e = ap (option_map f) e

  pub map_some : (o : Option A) (b : B) → option_map f o ≡ Some b → (a : A) × (o ≡ Some a) × (f a ≡ b)
  map_some None b e = cc
  map_some (Some a) b e = (a, refl, cc)
