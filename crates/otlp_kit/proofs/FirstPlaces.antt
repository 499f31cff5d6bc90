-- Where texts stand first.
use Rattle.std.proofs.Common.{◌≡◌, ℕ, suc, ◌+◌, ◌<◌, List, [], ◌∷◌, ◌++◌, Bool, true, false, cond, Option, Some, None, length, take, drop, get_or, sym, ap, ◌∙◌, refl, arith}
use Rattle.std.proofs.lemmas.Cmp.{eq_by_cmp_equiv}
use Rattle.std.proofs.lemmas.List.{length-take-le, take_more, take-append-drop}
use Rattle.std.specs.Cmp.{IsEquivalence, nat_cmp_total}
use Rattle.std.specs.Cmp.Lexicographic.{lists_total, texts_ties}
use Rattle.std.specs.List.{position_from}
use Rattle.std.specs.Option.{option_or, unwrap_or}
use Rattle.std.specs.Ordering.{eq_by_cmp, is_eq}
use Rattle.attr_kit.specs.Exact.{exact_texts}
use Rattle.attr_kit.specs.Orders.{text_cmp}
use Rattle.otlp_kit.specs.Walks.{first_place}

text_equiv : IsEquivalence (eq_by_cmp text_cmp)
text_equiv = eq_by_cmp_equiv (lists_total nat_cmp_total)

-- the same text
abbrev pub is_text : List ℕ → List ℕ → Bool
is_text t u = is_eq (text_cmp t u)

same_text : (t u : List ℕ) → is_text t u ≡ true → t ≡ u
same_text t u e = exact_texts t u (texts_ties t u ∙ e)

position_append : {A : Type 0} (p : A → Bool) (n : ℕ) (xs ys : List A) → position_from p n (xs ++ ys) ≡ option_or (position_from p n xs) (position_from p (n + length xs) ys)
position_append p n [] ys = ap (λ (m : ℕ). position_from p m ys) (let here : n ≡ n + 0 = omega arith in here)
position_append p n (x ∷ xs) ys =
    elim (p x) as (λ b. cond b (Some n) (position_from p (n + 1) (xs ++ ys)) ≡ option_or (cond b (Some n) (position_from p (n + 1) xs)) (position_from p (n + length (x ∷ xs)) ys)) [
      | true ↦ refl
      | false ↦ position_append p (n + 1) xs ys ∙ ap (λ (m : ℕ). option_or (position_from p (n + 1) xs) (position_from p m ys)) (let later : n + 1 + length xs ≡ n + suc (length xs) = omega arith in later)
    ]

kept : (o rest : Option ℕ) (i : ℕ) → unwrap_or o i ≡ unwrap_or (option_or (option_or o (Some i)) rest) 0
kept None rest i = refl
kept (Some k) rest i = refl

merged : (tied : Bool) (was own : Option ℕ) (i : ℕ) → (tied ≡ true → own ≡ was) → cond tied (Some (unwrap_or own i)) was ≡ option_or was (cond tied (Some i) None)
merged true None own i same = ap (λ (o : Option ℕ). Some (unwrap_or o i)) (same refl)
merged true (Some k) own i same = ap (λ (o : Option ℕ). Some (unwrap_or o i)) (same refl)
merged false None own i same = refl
merged false (Some k) own i same = refl

module _ (texts : List (List ℕ)) (i : ℕ) (text : List ℕ) (within : i < length texts) (stands : text ≡ get_or texts i text) where
  -- where a text stands first among those before this one
  abbrev before : List ℕ → Option ℕ
  before q = position_from (is_text q) 0 (take i texts)

  step : (q : List ℕ) → position_from (is_text q) 0 (take (i + 1) texts) ≡ option_or (before q) (cond (is_text q text) (Some i) None)
  step q =
      ap (position_from (is_text q) 0) (take_more texts i text within ∙ ap (λ (t : List ℕ). take i texts ++ t ∷ []) (sym stands))
      ∙ position_append (is_text q) 0 (take i texts) (text ∷ [])
      ∙ ap (λ (n : ℕ). option_or (before q) (cond (is_text q text) (Some n) None)) (let here : 0 + length (take i texts) ≡ i = omega (arith, length-take-le i texts (omega arith)) in here)

  pub first_found : unwrap_or (before text) i ≡ first_place texts text
  first_found =
      let rest = position_from (is_text text) (0 + length (take (i + 1) texts)) (drop (i + 1) texts) in
      kept (before text) rest i
      ∙ ap (λ b. unwrap_or (option_or (option_or (before text) (cond b (Some i) None)) rest) 0) (sym (text_equiv.refl text))
      ∙ ap (λ (o : Option ℕ). unwrap_or (option_or o rest) 0) (sym (step text))
      ∙ ap (λ (o : Option ℕ). unwrap_or o 0) (sym (position_append (is_text text) 0 (take (i + 1) texts) (drop (i + 1) texts)))
      ∙ ap (λ (l : List (List ℕ)). first_place l text) (take-append-drop (i + 1) texts)

  pub seen_more : (q : List ℕ) → cond (is_text text q) (Some (unwrap_or (before text) i)) (before q) ≡ position_from (is_text q) 0 (take (i + 1) texts)
  seen_more q =
      merged (is_text text q) (before q) (before text) i (λ e. ap before (same_text text q e))
      ∙ ap (λ b. option_or (before q) (cond b (Some i) None)) (text_equiv.symm text q)
      ∙ sym (step q)
