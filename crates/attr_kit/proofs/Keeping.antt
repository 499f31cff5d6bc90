-- What is kept of a set is a set.
use Rattle.std.proofs.Common.{◌≡◌, ◌≢◌, ℕ, zero, suc, ◌<◌, List, [], ◌∷◌, Bool, true, false, cond, None, filter, length, get_or, ap, sym, ◌∙◌, refl, subst, arith}
use lib.Dec.{T}
use Rattle.std.specs.Cmp.Lexicographic.{slice_cmp}
use Rattle.std.specs.FinMap.Entries.{is_sorted-where_key, find-where_key}
use Rattle.std.specs.List.{list_all}
use Rattle.std.specs.Ordering.{nat_cmp}
use Rattle.attr_kit.specs.Attributes.{AreAttributes, has_text}
use Rattle.attr_kit.specs.declared.attr_value.AttrValue.{AttrValue}
use Rattle.attr_kit.specs.AllowLists.{listed_keys, is_listed}
use Rattle.attr_kit.specs.Keeping.{keeps, kept}
use Rattle.attr_kit.specs.OrderLaws.{text_apart}
use Rattle.attr_kit.specs.Orders.{text_cmp}
use Rattle.attr_kit.specs.Putting.{value_of}
use Rattle.attr_kit.specs.declared.keep.Keep.{Keep}
use Rattle.attr_kit.specs.declared.keep.Keep.TheVariants.{All, Only}
use Rattle.attr_kit.proofs.Allowing.{is_listed-listed_keys}
use Rattle.attr_kit.proofs.Rising.{both, left, right}

passed : (b : Bool) → T b → b ≡ true
passed true h = refl
passed false h = absurd h

all_filtered : {A : Type 0} (p keeps : A → Bool) (xs : List A) → list_all p xs ≡ true → list_all p (filter keeps xs) ≡ true
all_filtered p keeps [] h = refl
all_filtered p keeps (x ∷ xs) h =
    elim (keeps x) as (λ b. list_all p (cond b (x ∷ filter keeps xs) (filter keeps xs)) ≡ true) [
      | true ↦ both _ _ (left _ _ h) (all_filtered p keeps xs (right (p x) _ h))
      | false ↦ all_filtered p keeps xs (right (p x) _ h)
    ]

pub kept_attributes : (keeps : List ℕ → Bool) (ps : List (List ℕ × AttrValue)) → AreAttributes ps → AreAttributes (filter (λ p. keeps p.0) ps)
kept_attributes keeps ps a = record {
  rising = passed _ (is_sorted-where_key (slice_cmp nat_cmp) keeps ps (subst T (sym a.rising) tt));
  named = all_filtered (λ p. has_text p.0) (λ p. keeps p.0) ps a.named;
}

-- where an element passes, something is kept
pub some_kept : {A : Type 0} (test : A → Bool) (xs : List A) (i : ℕ) (d : A) → i < length xs → test (get_or xs i d) ≡ true → filter test xs ≢ []
some_kept test [] i d h t e = absurd (omega arith)
some_kept test (x ∷ xs) zero d h t e = cons_apart (sym (ap (λ b. cond b (x ∷ filter test xs) (filter test xs)) t) ∙ e)
  where
    cons_apart : {A : Type 0} {y : A} {ys : List A} → y ∷ ys ≡ [] → ⊥
    cons_apart e = cc
some_kept test (x ∷ xs) (suc i) d h t e =
    elim (test x) as (λ b. cond b (x ∷ filter test xs) (filter test xs) ≡ [] → ⊥) [
      | true ↦ λ f. cc
      | false ↦ λ f. some_kept test xs i d (omega arith) t f
    ] e

-- the values that are kept are those under the keys that are kept
pub value_kept : (keep : Keep) (key : List ℕ) (ps : List (List ℕ × AttrValue)) → value_of key (kept keep ps) ≡ cond (keeps keep key) (value_of key ps) None
value_kept All key ps = refl
value_kept (Only keys) key ps = find-where_key text_cmp (is_listed keys) key (λ x e. ap (is_listed keys) (sym (text_apart key x e))) ps

-- what is kept by an allow-list is what has one of the keys that it was made of
pub kept-listed_keys : (keys : List (List ℕ)) (ps : List (List ℕ × AttrValue)) → kept (Only (listed_keys keys)) ps ≡ filter (λ p. is_listed keys p.0) ps
kept-listed_keys keys ps = λ i. filter (λ p. is_listed-listed_keys keys p.0 i) ps

-- the pairs that are kept are a set
pub attributes_kept : (keep : Keep) (ps : List (List ℕ × AttrValue)) → AreAttributes ps → AreAttributes (kept keep ps)
attributes_kept All ps a = a
attributes_kept (Only keys) ps a = kept_attributes (is_listed keys) ps a
