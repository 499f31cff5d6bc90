-- Texts without what stands at an end of them, and parts of texts.
use Rattle.std.proofs.Common.{◌≡◌, ◌≢◌, ℕ, ◌+◌, ◌-◌, ◌<◌, Bool, true, false, cond, ◌||◌, nat_eq, eqb, List, ◌++◌, length, take, drop, refl, sym, ap, ◌∙◌, arith}
use Rattle.std.specs.Cmp.Lexicographic.{pointwise}
use Rattle.std.specs.List.{starts_with}
use Rattle.std.proofs.Math.Seq.{drop-append_seam, take-append_seam}
use Rattle.std.proofs.lemmas.Bool.{eqb-true}
use Rattle.std.proofs.lemmas.List.{length-append, length-drop, take-append-drop, take_all, drop_more}
use Rattle.std.proofs.lemmas.Slice.Eq.{bytes_eq-Decides}
use Rattle.page_kit.specs.Names.{without_suffix, without_prefix, has_part}

same_as_itself : (s : List ℕ) → pointwise nat_eq s s ≡ true
same_as_itself s = (bytes_eq-Decides s s).1 refl

suffix_of : (s x : List ℕ) → without_suffix s (x ++ s) ≡ x
unfolding without_suffix
suffix_of s x =
    let n : length (x ++ s) - length s ≡ length x = omega (arith, length-append x s) in
    ap (λ (k : ℕ). cond (pointwise nat_eq s (drop k (x ++ s))) (take k (x ++ s)) (x ++ s)) n
    ∙ ap (λ (l : List ℕ). cond (pointwise nat_eq s l) (take (length x) (x ++ s)) (x ++ s)) (drop-append_seam x s)
    ∙ ap (λ (b : Bool). cond b (take (length x) (x ++ s)) (x ++ s)) (same_as_itself s)
    ∙ take-append_seam x s

-- a text that ends so, without it
pub suffix_some : (s t x : List ℕ) → t ≡ x ++ s → without_suffix s t ≡ x
suffix_some s t x e = ap (without_suffix s) e ∙ suffix_of s x

ends_not : (s t : List ℕ) (k : ℕ) (b : Bool) → ((front : List ℕ) → t ≢ front ++ s) → pointwise nat_eq s (drop k t) ≡ b → cond b (take k t) t ≡ t
ends_not s t k true lacks is = absurd (lacks (take k t) (sym (take-append-drop k t) ∙ ap (λ (l : List ℕ). take k t ++ l) (sym ((bytes_eq-Decides s (drop k t)).0 is))))
ends_not s t k false lacks is = refl

-- one that does not, as it is
pub suffix_none : (s t : List ℕ) → ((front : List ℕ) → t ≢ front ++ s) → without_suffix s t ≡ t
unfolding without_suffix
suffix_none s t lacks = ends_not s t (length t - length s) (pointwise nat_eq s (drop (length t - length s) t)) lacks refl

prefix_of : (p x : List ℕ) → without_prefix p (p ++ x) ≡ x
unfolding without_prefix
prefix_of p x =
    ap (λ (l : List ℕ). cond (pointwise nat_eq p l) (drop (length p) (p ++ x)) (p ++ x)) (take-append_seam p x)
    ∙ ap (λ (b : Bool). cond b (drop (length p) (p ++ x)) (p ++ x)) (same_as_itself p)
    ∙ drop-append_seam p x

-- a text that begins so, without it
pub prefix_some : (p t x : List ℕ) → t ≡ p ++ x → without_prefix p t ≡ x
prefix_some p t x e = ap (without_prefix p) e ∙ prefix_of p x

begins_not : (p t : List ℕ) (b : Bool) → ((rest : List ℕ) → t ≢ p ++ rest) → pointwise nat_eq p (take (length p) t) ≡ b → cond b (drop (length p) t) t ≡ t
begins_not p t true lacks is = absurd (lacks (drop (length p) t) (sym (take-append-drop (length p) t) ∙ ap (λ (l : List ℕ). l ++ drop (length p) t) (sym ((bytes_eq-Decides p (take (length p) t)).0 is))))
begins_not p t false lacks is = refl

-- one that does not, as it is
pub prefix_none : (p t : List ℕ) → ((rest : List ℕ) → t ≢ p ++ rest) → without_prefix p t ≡ t
unfolding without_prefix
prefix_none p t lacks = begins_not p t (pointwise nat_eq p (take (length p) t)) lacks refl

-- a part stands at a place of a text, or behind it
pub part_more : (part xs : List ℕ) (i : ℕ) → i < length xs → has_part part (drop i xs) ≡ (starts_with nat_eq (drop i xs) part || has_part part (drop (i + 1) xs))
part_more part xs i h =
    let here = drop_more xs i 0 h in
    ap (has_part part) here ∙ ap (λ (l : List ℕ). starts_with nat_eq l part || has_part part (drop (i + 1) xs)) (sym here)

-- all that stands behind a place
pub all_behind : (xs : List ℕ) (i : ℕ) → take (length xs - i) (drop i xs) ≡ drop i xs
all_behind xs i = take_all (length xs - i) (drop i xs) (omega (arith, length-drop i xs))

ne_at : (a b : ℕ) (r : Bool) → (a ≡ b → ⊥) → eqb a b ≡ r → r ≡ false
ne_at a b true lacks is = absurd (lacks (eqb-true a b is))
ne_at a b false lacks is = refl

-- numbers that differ, as a test
pub ne_false : (a b : ℕ) → (a ≡ b → ⊥) → eqb a b ≡ false
ne_false a b lacks = ne_at a b (eqb a b) lacks refl
