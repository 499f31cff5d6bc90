-- What a hash map of numbers keeps, as a finite map.
use Rattle.std.proofs.Common.{◌≡◌, ℕ, Bool, true, false, cond, eqb, List, [], ◌∷◌, Some, refl, sym, ap, subst, ◌∙◌, true≢false}
use Rattle.std.proofs.lemmas.Bool.{eq-eqb}
use borrow.Author.Tests.{eqb-true}
use Rattle.std.specs.Map.{lookup}
use Rattle.std.proofs.lemmas.Cmp.{eq_by_cmp_equiv}
use Rattle.std.specs.Ordering.{eq_by_cmp, nat_cmp, is_eq}
use Rattle.std.specs.Cmp.{Equal-is, tied_itself, nat_cmp_total}
use Rattle.std.specs.FinMap.{get, insert, get-insert, from_entries, get-from_entries, same_map, nat_cmp-IsAntisymmetric}
use Rattle.std.specs.FinMap.Entries.{find}

id_itself : (q : ℕ) → eq_by_cmp nat_cmp q q ≡ true
id_itself q = ap is_eq (tied_itself nat_cmp_total q)

id_tests : (q k : ℕ) → eqb q k ≡ eq_by_cmp nat_cmp q k
id_tests q k = go (eqb q k) (eq_by_cmp nat_cmp q k) refl refl
  where
    go : (a b : Bool) → eqb q k ≡ a → eq_by_cmp nat_cmp q k ≡ b → eqb q k ≡ eq_by_cmp nat_cmp q k
    go true true e f = e ∙ sym f
    go false false e f = e ∙ sym f
    go true false e f = absurd (true≢false (sym (subst (λ (x : ℕ). eq_by_cmp nat_cmp q x ≡ true) (eqb-true q k e) (id_itself q)) ∙ f))
    go false true e f = absurd (true≢false (sym (eq-eqb q k (nat_cmp-IsAntisymmetric q k ((Equal-is (nat_cmp q k)).0 f))) ∙ e))

same_lookup : (q : ℕ) (es : List (ℕ × ℕ)) → lookup (eqb q) es ≡ find nat_cmp q es
same_lookup q [] = refl
same_lookup q (e ∷ es) = λ i. cond (id_tests q e.0 i) (Some e.1) (same_lookup q es i)

-- what is looked up is what is kept
pub kept_book : (es : List (ℕ × ℕ)) (q : ℕ) → get (from_entries {R = nat_cmp} es) q ≡ lookup (eqb q) es
kept_book es q = get-from_entries nat_cmp_total es q ∙ sym (same_lookup q es)

-- an id with another number
pub raised_alike : (es fs : List (ℕ × ℕ)) (id n : ℕ) → ((q : ℕ) → lookup (eqb q) fs ≡ cond (eqb id q) (Some n) (lookup (eqb q) es)) → from_entries {R = nat_cmp} fs ≡ insert (from_entries es) id n
raised_alike es fs id n updates = same_map nat_cmp_total nat_cmp-IsAntisymmetric _ _ (λ q.
    kept_book fs q ∙ updates q ∙ (λ i. cond (turned q i) (Some n) (sym (kept_book es q) i)) ∙ sym (get-insert nat_cmp_total (from_entries es) id n q))
  where
    turned : (q : ℕ) → eqb id q ≡ eq_by_cmp nat_cmp q id
    turned q = id_tests id q ∙ (eq_by_cmp_equiv nat_cmp_total).symm id q
