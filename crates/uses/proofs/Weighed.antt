-- What the seats of two threads weigh together.
use Rattle.std.proofs.Common.{arith, ◌≡◌, ◌∙◌, ℕ, ◌+◌, List, [], ◌∷◌, ◌++◌, ap}
use Rattle.turn_kit.specs.History.{weigh, weigh_all}

pub weigh-append : {E : Type 0} (f : E → ℕ) (xs ys : List E) → weigh f (xs ++ ys) ≡ weigh f xs + weigh f ys
weigh-append f [] ys = omega arith
weigh-append f (x ∷ xs) ys = let h = weigh-append f xs ys in let n : ℕ = f x in let a : n + weigh f (xs ++ ys) ≡ (n + weigh f xs) + weigh f ys = omega (arith, h) in a

-- a seat that has taken in one other seat
pub both_weigh : {E : Type 0} (f : E → ℕ) (n k : ℕ) (own here theirs there : List E) (joined old rest : List (ℕ × List E))
    → own ≡ here → theirs ≡ there → old ≡ [] → rest ≡ [] → joined ≡ old ++ (k, theirs) ∷ rest → weigh_all f ((n, own) ∷ joined) ≡ weigh f (here ++ there)
both_weigh f n k own here theirs there joined old rest a b c d e =
    let x : weigh f own ≡ weigh f here = ap (weigh f) a in
    let y : weigh f theirs ≡ weigh f there = ap (weigh f) b in
    let j : weigh_all f joined ≡ weigh f theirs + 0 = ap (weigh_all f) (e ∙ (ap (λ l. l ++ (k, theirs) ∷ rest) c ∙ ap (λ r. (k, theirs) ∷ r) d)) in
    let s = weigh-append f here there in
    omega (arith, x, y, j, s)
