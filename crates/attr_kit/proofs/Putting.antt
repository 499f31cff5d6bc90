-- What pairs put in one after the other keep.
use Rattle.std.proofs.Common.{◌≡◌, ℕ, List, [], ◌∷◌, ◌++◌, ◌&&◌, Bool, true, false, cond, nat_eq, fold, ap, sym, true≢false, ◌∙◌, refl, subst, IsTrue, None, Option, Some, append-nil, append_assoc}
use lib.Dec.{T}
use Rattle.std.specs.Cmp.{IsTotalOrder}
use Rattle.std.specs.Cmp.Lexicographic.{slice_cmp, pointwise, nat_list_cmp_total, texts_ties}
use Rattle.std.specs.Option.{option_or}
use Rattle.attr_kit.specs.OrderLaws.{text_apart}
use Rattle.std.specs.Ordering.{nat_cmp}
use Rattle.std.specs.declared.cmp.Ordering.{Ordering}
use Rattle.std.specs.declared.cmp.Ordering.TheVariants.{Less, Equal, Greater}
use Rattle.std.specs.FinMap.Entries.{put, is_sorted, is_sorted-put, below_all, find-put, same_entries}
use Rattle.std.specs.Ordering.{ordering_reverse}
use Rattle.attr_kit.proofs.Sorted.{below_within}
use Rattle.std.specs.BTreeMap.{insert_entry}
use Rattle.attr_kit.specs.Attributes.{has_text, keys_have_text, AreAttributes}
use Rattle.attr_kit.specs.Putting.{attributes_of, value_of, latest}
use Rattle.attr_kit.specs.declared.attr_value.AttrValue.{AttrValue}

-- a tree puts an entry as a list does
pub put_in : {K X : Type 0} (R : K → K → Ordering) (es : List (K × X)) (k : K) (v : X) → insert_entry R es k v ≡ put R k v es
put_in R [] k v = refl
put_in R (e ∷ es) k v =
    elim (R k e.0) as (λ o. Rattle.std.specs.Ordering.match_ordering o ((k, v) ∷ e ∷ es) ((e.0, v) ∷ es) (e ∷ insert_entry R es k v) ≡ Rattle.std.specs.FinMap.Entries.by_order o ((k, v) ∷ e ∷ es) ((e.0, v) ∷ es) (e ∷ put R k v es)) [
      | Less ↦ refl
      | Equal ↦ refl
      | Greater ↦ ap (λ l. e ∷ l) (put_in R es k v)
    ]

fold_push : {A B : Type 0} (f : B → A → B) (b : B) (xs : List A) (x : A) → fold f b (xs ++ x ∷ []) ≡ f (fold f b xs) x
fold_push f b [] x = refl
fold_push f b (y ∷ ys) x = fold_push f (f b y) ys x

pub attributes_push : (ps : List (List ℕ × AttrValue)) (k : List ℕ) (v : AttrValue) → attributes_of (ps ++ (k, v) ∷ []) ≡ insert_entry (slice_cmp nat_cmp) (attributes_of ps) k v
unfolding attributes_of
attributes_push ps k v = fold_push (λ s p. put (slice_cmp nat_cmp) p.0 p.1 s) [] ps (k, v) ∙ sym (put_in (slice_cmp nat_cmp) (fold (λ s p. put (slice_cmp nat_cmp) p.0 p.1 s) [] ps) k v)

pub attributes_none : attributes_of [] ≡ []
unfolding attributes_of
attributes_none = refl

passed : (b : Bool) → T b → IsTrue b
passed true h = refl
passed false h = absurd h

sorted_after : (s ps : List (List ℕ × AttrValue)) → T (is_sorted (slice_cmp nat_cmp) s) → T (is_sorted (slice_cmp nat_cmp) (fold (λ s p. put (slice_cmp nat_cmp) p.0 p.1 s) s ps))
sorted_after s [] h = h
sorted_after s (p ∷ ps) h = sorted_after (put (slice_cmp nat_cmp) p.0 p.1 s) ps (is_sorted-put (slice_cmp nat_cmp) nat_list_cmp_total p.0 p.1 s h)

both : (a b : Bool) → IsTrue a → IsTrue b → IsTrue (a && b)
both true b p q = q
both false b p q = p

left : (a b : Bool) → IsTrue (a && b) → IsTrue a
left true b h = refl
left false b h = h

right : (a b : Bool) → IsTrue (a && b) → IsTrue b
right true b h = h
right false b h = absurd (true≢false (sym h))

named_put : (k : List ℕ) (v : AttrValue) (s : List (List ℕ × AttrValue)) → IsTrue (has_text k) → IsTrue (keys_have_text s) → IsTrue (keys_have_text (put (slice_cmp nat_cmp) k v s))
named_put k v [] h n = both _ _ h refl
named_put k v (e ∷ es) h n =
    elim (slice_cmp nat_cmp k e.0) as (λ o. IsTrue (keys_have_text (Rattle.std.specs.FinMap.Entries.by_order o ((k, v) ∷ e ∷ es) ((e.0, v) ∷ es) (e ∷ put (slice_cmp nat_cmp) k v es)))) [
      | Less ↦ both _ _ h n
      | Equal ↦ n
      | Greater ↦ both _ _ (left _ _ n) (named_put k v es h (right _ _ n))
    ]

named_after : (s ps : List (List ℕ × AttrValue)) → IsTrue (keys_have_text s) → IsTrue (keys_have_text ps) → IsTrue (keys_have_text (fold (λ s p. put (slice_cmp nat_cmp) p.0 p.1 s) s ps))
named_after s [] h n = h
named_after s (p ∷ ps) h n = named_after (put (slice_cmp nat_cmp) p.0 p.1 s) ps (named_put p.0 p.1 s (left _ _ n) h) (right _ _ n)

pub are_attributes : (ps : List (List ℕ × AttrValue)) → IsTrue (keys_have_text ps) → AreAttributes (attributes_of ps)
unfolding attributes_of
are_attributes ps n = record { rising = passed _ (sorted_after [] ps tt); named = named_after [] ps refl n }

-- one pair more
pub put_next : (ps es new : List (List ℕ × AttrValue)) (k : List ℕ) (v : AttrValue) → es ≡ attributes_of ps → new ≡ insert_entry (slice_cmp nat_cmp) es k v → new ≡ attributes_of (ps ++ (k, v) ∷ [])
put_next ps es new k v h n = n ∙ ap (λ s. insert_entry (slice_cmp nat_cmp) s k v) h ∙ sym (attributes_push ps k v)

module _ {K X : Type 0} (R : K → K → Ordering) (o : IsTotalOrder R) where
  -- pairs behind others whose keys are below stay behind them
  put_last : (s ps : List (K × X)) (p : K × X) → is_sorted R (s ++ p ∷ ps) ≡ true → put R p.0 p.1 s ≡ s ++ p ∷ []
  put_last [] ps p h = refl
  put_last (e ∷ s) ps p h =
      let under : R p.0 e.0 ≡ Greater = o.antisymm p.0 e.0 ∙ ap ordering_reverse (below_within R e.0 s ps p (left _ _ h)) in
      ap (λ r. Rattle.std.specs.FinMap.Entries.by_order r (p ∷ e ∷ s) ((e.0, p.1) ∷ s) (e ∷ put R p.0 p.1 s)) under
      ∙ ap (λ l. e ∷ l) (put_last s ps p (right (below_all R e.0 (s ++ p ∷ ps)) _ h))

  pub put_rising : (s ps : List (K × X)) → is_sorted R (s ++ ps) ≡ true → fold (λ s p. put R p.0 p.1 s) s ps ≡ s ++ ps
  put_rising s [] h = sym (append-nil s)
  put_rising s (p ∷ ps) h =
      ap (λ t. fold (λ s p. put R p.0 p.1 s) t ps) (put_last s ps p h)
      ∙ put_rising (s ++ p ∷ []) ps (ap (is_sorted R) (append_assoc s (p ∷ []) ps) ∙ h)
      ∙ append_assoc s (p ∷ []) ps

-- pairs whose keys rise stay as they are
pub attributes_rising : (ps : List (List ℕ × AttrValue)) → is_sorted (slice_cmp nat_cmp) ps ≡ true → attributes_of ps ≡ ps
unfolding attributes_of
attributes_rising ps h = put_rising (slice_cmp nat_cmp) nat_list_cmp_total [] ps h

-- the value of the last pair with a key stands before what was under it
before : (later : Option AttrValue) (here : Bool) (value : AttrValue) (held : Option AttrValue) → option_or later (cond here (Some value) held) ≡ option_or (option_or later (cond here (Some value) None)) held
before None true value held = refl
before None false value held = refl
before (Some v) here value held = refl

latest_after : (key : List ℕ) (s ps : List (List ℕ × AttrValue)) → value_of key (fold (λ s p. put (slice_cmp nat_cmp) p.0 p.1 s) s ps) ≡ option_or (latest key ps) (value_of key s)
latest_after key s [] = refl
latest_after key s (p ∷ ps) =
    latest_after key (put (slice_cmp nat_cmp) p.0 p.1 s) ps ∙ ap (option_or (latest key ps)) (find-put (slice_cmp nat_cmp) nat_list_cmp_total key p.0 p.1 s)
    ∙ ap (λ b. option_or (latest key ps) (cond b (Some p.1) (value_of key s))) (sym (texts_ties key p.0))
    ∙ before (latest key ps) (pointwise nat_eq key p.0) p.1 (value_of key s)

or_none : {A : Type 0} (o : Option A) → option_or o None ≡ o
or_none None = refl
or_none (Some x) = refl

-- under each key is the value of the last pair that has it
pub value_of-attributes_of : (key : List ℕ) (ps : List (List ℕ × AttrValue)) → value_of key (attributes_of ps) ≡ latest key ps
unfolding attributes_of
value_of-attributes_of key ps = latest_after key [] ps ∙ or_none (latest key ps)

-- sets with the same value under each key are one
pub same_set : (a b : List (List ℕ × AttrValue)) → AreAttributes a → AreAttributes b → ((key : List ℕ) → value_of key a ≡ value_of key b) → a ≡ b
same_set a b p q same = same_entries (slice_cmp nat_cmp) nat_list_cmp_total text_apart a b (subst T (sym p.rising) tt) (subst T (sym q.rising) tt) same

pub ruleset latest_values = value_of-attributes_of
