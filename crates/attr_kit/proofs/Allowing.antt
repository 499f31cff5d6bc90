-- What keys put in one after the other list.
use Rattle.std.proofs.Common.{◌≡◌, ℕ, List, [], ◌∷◌, ◌++◌, Bool, true, false, ◌||◌, nat_eq, ap, sym, ◌∙◌, refl, fold}
use Rattle.std.specs.BTreeSet.{insert_key}
use Rattle.std.specs.Cmp.Lexicographic.{slice_cmp, pointwise, nat_list_cmp_total}
use Rattle.std.specs.List.{list_any}
use Rattle.std.specs.Ordering.{nat_cmp, match_ordering}
use Rattle.std.specs.declared.cmp.Ordering.TheVariants.{Less, Equal, Greater}
use Rattle.attr_kit.specs.AllowLists.{listed_keys, is_listed, is_rising}
use Rattle.attr_kit.specs.OrderLaws.{text_apart}
use Rattle.attr_kit.proofs.Rising.{rising_fold}

pub listed_keys_none : listed_keys [] ≡ []
unfolding listed_keys
listed_keys_none = refl

fold_push : {A B : Type 0} (f : B → A → B) (b : B) (xs : List A) (x : A) → fold f b (xs ++ x ∷ []) ≡ f (fold f b xs) x
fold_push f b [] x = refl
fold_push f b (y ∷ ys) x = fold_push f (f b y) ys x

-- one key more
pub listed_keys_push : (keys set new : List (List ℕ)) (key : List ℕ) → set ≡ listed_keys keys → new ≡ insert_key (slice_cmp nat_cmp) set key → new ≡ listed_keys (keys ++ key ∷ [])
unfolding listed_keys
listed_keys_push keys set new key h n = n ∙ ap (λ s. insert_key (slice_cmp nat_cmp) s key) h ∙ sym (fold_push (λ listed key. insert_key (slice_cmp nat_cmp) listed key) [] keys key)

-- an allow-list rises
pub listed_keys_rising : (keys : List (List ℕ)) → is_rising (slice_cmp nat_cmp) (listed_keys keys) ≡ true
unfolding listed_keys
listed_keys_rising keys = rising_fold (slice_cmp nat_cmp) nat_list_cmp_total [] keys refl

swap_or : (a b c : Bool) → (a || (b || c)) ≡ (b || (a || c))
swap_or true true c = refl
swap_or true false c = refl
swap_or false b c = refl

again : (a b : Bool) → (a || b) ≡ (a || (a || b))
again true b = refl
again false b = refl

module _ (test : List ℕ → Bool) where
  -- what one key more adds
  any_insert : (key : List ℕ) (xs : List (List ℕ)) → list_any test (insert_key (slice_cmp nat_cmp) xs key) ≡ (test key || list_any test xs)
  any_insert key [] = refl
  any_insert key (x ∷ xs) =
      elim (slice_cmp nat_cmp key x) as (λ r. slice_cmp nat_cmp key x ≡ r → list_any test (match_ordering r (key ∷ x ∷ xs) (x ∷ xs) (x ∷ insert_key (slice_cmp nat_cmp) xs key)) ≡ (test key || (test x || list_any test xs))) [
        | Less ↦ λ _. refl
        | Equal ↦ λ e. again (test x) (list_any test xs) ∙ ap (λ k. test k || (test x || list_any test xs)) (sym (text_apart key x e))
        | Greater ↦ λ _. ap (λ b. test x || b) (any_insert key xs) ∙ swap_or (test x) (test key) (list_any test xs)
      ] refl

  any_fold : (listed keys : List (List ℕ)) → list_any test (fold (λ listed key. insert_key (slice_cmp nat_cmp) listed key) listed keys) ≡ (list_any test keys || list_any test listed)
  any_fold listed [] = refl
  any_fold listed (key ∷ keys) =
      any_fold (insert_key (slice_cmp nat_cmp) listed key) keys ∙ ap (λ b. list_any test keys || b) (any_insert key listed)
      ∙ swap_or (list_any test keys) (test key) (list_any test listed)
      ∙ or_assoc (test key) (list_any test keys) (list_any test listed)
    where
      or_assoc : (a b c : Bool) → (a || (b || c)) ≡ ((a || b) || c)
      or_assoc true b c = refl
      or_assoc false b c = refl

-- an allow-list lists the keys that it was made of
pub is_listed-listed_keys : (keys : List (List ℕ)) (key : List ℕ) → is_listed (listed_keys keys) key ≡ is_listed keys key
unfolding listed_keys
is_listed-listed_keys keys key = any_fold (pointwise nat_eq key) [] keys ∙ or_false (list_any (pointwise nat_eq key) keys)
  where
    or_false : (a : Bool) → (a || false) ≡ a
    or_false true = refl
    or_false false = refl
