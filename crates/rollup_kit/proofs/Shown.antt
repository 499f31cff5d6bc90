-- What places show of the pairs of a set.
use Rattle.std.proofs.Common.{◌≡◌, ℕ, zero, suc, ◌+◌, ◌<◌, ◌≤◌, Bool, true, false, cond, ◌||◌, List, [], ◌∷◌, ◌++◌, map, filter, take, length, get_or, slice_get, nat_eq, Contains, Option, Some, None, refl, sym, ap, subst, ◌∙◌, arith}
use lib.Dec.{T}
use Rattle.std.proofs.lemmas.List.{map-append, take_all}
use Rattle.std.proofs.lemmas.List.Elements.{filter_more}
use Rattle.std.specs.Cmp.{Equal-is}
use Rattle.std.specs.Cmp.Lexicographic.{pointwise, texts_ties}
use Rattle.std.specs.FinMap.Entries.{same_entries}
use Rattle.std.specs.List.{list_any}
use Rattle.std.specs.Map.{keys_of}
use Rattle.std.specs.Option.{option_map}
use Rattle.std.specs.Ordering.{eq_by_cmp}
use Rattle.attr_kit.proofs.Finding.{value_there}
use Rattle.attr_kit.proofs.Keeping.{attributes_kept, value_kept}
use Rattle.attr_kit.specs.Attributes.{AreAttributes}
use Rattle.attr_kit.specs.Keeping.{kept}
use Rattle.attr_kit.specs.OrderLaws.{text_total, text_apart}
use Rattle.attr_kit.specs.Orders.{text_cmp}
use Rattle.attr_kit.specs.Putting.{value_of}
use Rattle.attr_kit.specs.declared.attr_value.AttrValue.{AttrValue}
use Rattle.attr_kit.specs.declared.keep.Keep.TheVariants.{Only}
use Rattle.rollup_kit.specs.Asks.{Attributes}
use Rattle.rollup_kit.specs.Places.{Show, HaveKeys, ShowKept}

pub same_shown : {A : Type 0} (xs ys : List A) → map Some xs ≡ map Some ys → xs ≡ ys
same_shown [] [] e = refl
same_shown [] (y ∷ ys) e = cc
same_shown (x ∷ xs) [] e = cc
same_shown (x ∷ xs) (y ∷ ys) e =
    let here : x ≡ y = cc in
    let rest : map Some xs ≡ map Some ys = cc in
    λ i. here i ∷ same_shown xs ys rest i

-- two lists that stand for the same up to their ends
pub all_same : {A B C : Type 0} (f : A → C) (g : B → C) (xs : List A) (ys : List B) (i : ℕ) → length xs ≤ i → length ys ≤ i → map f (take i xs) ≡ map g (take i ys) → map f xs ≡ map g ys
all_same f g xs ys i a b before = sym (ap (map f) (take_all i xs a)) ∙ before ∙ ap (map g) (take_all i ys b)

-- one place more that shows one pair more
pub more_shown : {A : Type 0} (f : ℕ → Option A) (places : List ℕ) (xs : List A) (place : ℕ) (x : A) → map f places ≡ map Some xs → f place ≡ Some x → map f (places ++ place ∷ []) ≡ map Some (xs ++ x ∷ [])
more_shown f places xs place x before here = map-append f places (place ∷ []) ∙ (λ i. before i ++ here i ∷ []) ∙ sym (map-append Some xs (x ∷ []))

-- one pair more that passes a test, and one that does not
pub more_passed : {A : Type 0} (p : A → Bool) (f : ℕ → Option A) (places : List ℕ) (xs : List A) (i : ℕ) (x : A) → i < length xs → get_or xs i x ≡ x → f i ≡ Some x → p x ≡ true
    → map f places ≡ map Some (filter p (take i xs)) → map f (places ++ i ∷ []) ≡ map Some (filter p (take (i + 1) xs))
more_passed p f places xs i x within is at passes before =
    more_shown f places (filter p (take i xs)) i x before at
    ∙ ap (map Some) (ap (λ l. filter p (take i xs) ++ l) (sym (ap (λ y. cond (p y) (y ∷ []) []) is ∙ ap (λ b. cond b (x ∷ []) []) passes)) ∙ sym (filter_more p xs i x within))

nothing_more : {A : Type 0} (xs : List A) → xs ++ [] ≡ xs
nothing_more [] = refl
nothing_more (x ∷ xs) = ap (λ l. x ∷ l) (nothing_more xs)

pub more_failed : {A : Type 0} (p : A → Bool) (f : ℕ → Option A) (places : List ℕ) (xs : List A) (i : ℕ) (x : A) → i < length xs → get_or xs i x ≡ x → p x ≡ false
    → map f places ≡ map Some (filter p (take i xs)) → map f places ≡ map Some (filter p (take (i + 1) xs))
more_failed p f places xs i x within is fails before =
    before ∙ ap (map Some) (sym (filter_more p xs i x within ∙ ap (λ l. filter p (take i xs) ++ l) (ap (λ y. cond (p y) (y ∷ []) []) is ∙ ap (λ b. cond b (x ∷ []) []) fails) ∙ nothing_more (filter p (take i xs))))

at_place : {A : Type 0} (xs : List A) (i : ℕ) (d : A) → i < length xs → slice_get xs i ≡ Some (get_or xs i d)
at_place [] i d h = absurd (omega arith)
at_place (x ∷ xs) zero d h = refl
at_place (x ∷ xs) (suc i) d h = at_place xs i d (omega arith)

-- one place more, where the pair there passes
pub more_noted : {A : Type 0} (p : A → Bool) (xs : List A) (i : ℕ) (x : A) (old new : List ℕ) (b : Bool) → i < length xs → x ≡ get_or xs i x → b ≡ p x → new ≡ cond b (old ++ i ∷ []) old
    → map (slice_get xs) old ≡ map Some (filter p (take i xs)) → map (slice_get xs) new ≡ map Some (filter p (take (i + 1) xs))
more_noted p xs i x old new b within is passes noted before = ap (map (slice_get xs)) noted ∙ by b passes
  where
    there : slice_get xs i ≡ Some x
    there = at_place xs i x within ∙ ap (λ y. Some y) (sym is)

    by : (b : Bool) → b ≡ p x → map (slice_get xs) (cond b (old ++ i ∷ []) old) ≡ map Some (filter p (take (i + 1) xs))
    by true e = more_passed p (slice_get xs) old xs i x within (sym is) there (sym e) before
    by false e = more_failed p (slice_get xs) old xs i x within (sym is) (sym e) before

contains_at : {A : Type 0} (xs : List A) (i : ℕ) (x : A) → slice_get xs i ≡ Some x → Contains xs x
contains_at [] i x e = cc
contains_at (y ∷ ys) zero x e = (0, omega arith, cc)
contains_at (y ∷ ys) (suc i) x e = let rest = contains_at ys i x e in (suc rest.0, omega (arith, rest.1), rest.2)

as_T : (b : Bool) → b ≡ true → T b
as_T b e = subst T (sym e) tt

module _ (pairs : Attributes) (are : AreAttributes pairs) where
  -- what is shown has the values of the set
  values_shown : (set : Attributes) (places : List ℕ) → map (slice_get pairs) places ≡ map Some set → (q : List ℕ) → value_of q set ≡ cond (list_any (pointwise nat_eq q) (keys_of set)) (value_of q pairs) None
  values_shown [] places e q = refl
  values_shown (p ∷ set) [] e q = cc
  values_shown (p ∷ set) (i ∷ is) e q =
      let here : slice_get pairs i ≡ Some p = cc in
      let rest : map (slice_get pairs) is ≡ map Some set = cc in
      let tie : (b : Bool) → eq_by_cmp text_cmp q p.0 ≡ b → cond (b || list_any (pointwise nat_eq q) (keys_of set)) (value_of q pairs) None ≡ cond (pointwise nat_eq q p.0 || list_any (pointwise nat_eq q) (keys_of set)) (value_of q pairs) None =
      λ b t. ap (λ (c : Bool). cond (c || list_any (pointwise nat_eq q) (keys_of set)) (value_of q pairs) None) (sym (texts_ties q p.0 ∙ t)) in
      elim (eq_by_cmp text_cmp q p.0) as (λ b. eq_by_cmp text_cmp q p.0 ≡ b → cond b (Some p.1) (value_of q set) ≡ cond (pointwise nat_eq q p.0 || list_any (pointwise nat_eq q) (keys_of set)) (value_of q pairs) None) [
        | true ↦ λ t. sym ((value_there p.0 p.1 pairs are).1 (contains_at pairs i p here)) ∙ ap (λ (k : List ℕ). value_of k pairs) (sym (text_apart q p.0 ((Equal-is (text_cmp q p.0)).0 t))) ∙ tie true t
        | false ↦ λ t. values_shown set is rest q ∙ tie false t
      ] refl

  keys_shown : (set : Attributes) (places : List ℕ) (keys : List (List ℕ)) → map (slice_get pairs) places ≡ map Some set
      → map (λ place. option_map (λ (p : List ℕ × AttrValue). p.0) (slice_get pairs place)) places ≡ map Some keys → keys_of set ≡ keys
  keys_shown [] [] [] e h = refl
  keys_shown [] [] (k ∷ keys) e h = cc
  keys_shown [] (i ∷ is) keys e h = cc
  keys_shown (p ∷ set) [] keys e h = cc
  keys_shown (p ∷ set) (i ∷ is) [] e h = cc
  keys_shown (p ∷ set) (i ∷ is) (k ∷ keys) e h =
      let here : slice_get pairs i ≡ Some p = cc in
      let rest : map (slice_get pairs) is ≡ map Some set = cc in
      let key : option_map (λ (p : List ℕ × AttrValue). p.0) (slice_get pairs i) ≡ Some k = cc in
      let others : map (λ place. option_map (λ (p : List ℕ × AttrValue). p.0) (slice_get pairs place)) is ≡ map Some keys = cc in
      let both : Some p.0 ≡ Some k = sym (ap (option_map (λ (p : List ℕ × AttrValue). p.0)) here) ∙ key in
      let same : p.0 ≡ k = cc in
      λ j. same j ∷ keys_shown set is keys rest others j

  -- where the keys shown are those that are listed, a set that is shown is what is kept
  pub kept_guessed : (keys : List (List ℕ)) (places : List ℕ) → HaveKeys pairs places keys → ShowKept keys pairs places
  kept_guessed keys places have set sets shown =
      same_entries text_cmp text_total text_apart set (kept (Only keys) pairs) (as_T _ sets.rising) (as_T _ (attributes_kept (Only keys) pairs are).rising)
      (λ q. values_shown set places shown q ∙ ap (λ (ks : List (List ℕ)). cond (list_any (pointwise nat_eq q) ks) (value_of q pairs) None) (keys_shown set places keys shown have) ∙ sym (value_kept (Only keys) q pairs))

  pub guessed : (keys listed : List (List ℕ)) (own : Attributes) (places slice : List ℕ) → own ≡ pairs → slice ≡ places → listed ≡ keys → HaveKeys own slice listed → ShowKept keys pairs places
  guessed keys listed own places slice o s l have =
      kept_guessed keys places (sym (λ i. map (λ place. option_map (λ (p : List ℕ × AttrValue). p.0) (slice_get (o i) place)) (s i)) ∙ have ∙ ap (map Some) l)

-- and so is one where what is shown is what is kept
kept_found : (keys : List (List ℕ)) (pairs : Attributes) (places : List ℕ) → Show pairs places (kept (Only keys) pairs) → ShowKept keys pairs places
kept_found keys pairs places found set sets shown = same_shown set (kept (Only keys) pairs) (sym shown ∙ found)

pub found : (keys : List (List ℕ)) (pairs own : Attributes) (places : List ℕ) → own ≡ pairs → Show own places (kept (Only keys) own) → ShowKept keys pairs places
found keys pairs own places o shown = kept_found keys pairs places (subst (λ (a : Attributes). Show a places (kept (Only keys) a)) o shown)
