use Rattle.std.proofs.Common.{◌≡◌, ℕ, List, [], ◌∷◌, ◌++◌, ◌&&◌, nat_eq, take, subst, Bool, true, false, not, refl, sym, ap, ◌∙◌, arith}
use Rattle.std.proofs.lemmas.List.{nil_from_length, append-nil, take_at}
use Rattle.std.proofs.lemmas.Bool.{false≢true}
use Rattle.std.specs.Cmp.Lexicographic.{pointwise}
use Rattle.std.proofs.Math.Dec.{eqb_refl}
use lib.Dec.{T}
use Rattle.attr_kit.specs.Exact.{exact_texts}
use Rattle.bytes_kit.proofs.decode.read_seal.Goals as goal

not_false : (b : Bool) → false ≡ not b → b ≡ true
not_false true e = refl
not_false false e = absurd cc

not_true : (b : Bool) → true ≡ not b → b ≡ true → ⊥
not_true true e h = absurd (false≢true (sym e))
not_true false e h = absurd (false≢true h)

from_test : (b : Bool) → T b → b ≡ true
from_test true h = refl
from_test false h = absurd h

same_bytes : (xs : List ℕ) → pointwise nat_eq xs xs ≡ true
same_bytes [] = refl
same_bytes (x ∷ xs) = λ i. from_test (nat_eq x x) (eqb_refl x) i && same_bytes xs i

pub returns-then-ne-clause-fault : goal.returns-then-ne-clause-fault
returns-then-ne-clause-fault c =
    let found = c.in_ok-found.found.now in
    let front = take_at found c.take.new.self.rest 4 c.in_ok-found.ensures.len in (
      c.place-place.ensures,
      λ e.
          let same = sym front ∙ ap (λ (l : List ℕ). take 4 l) (sym c.in_ok-found.ensures.ok) ∙ e ∙ sym (c.as_slice.ensures ∙ c.to_be_bytes.ensures) in
          not_true _ c.if-ne.ensures (subst (λ (l : List ℕ). pointwise nat_eq found l ≡ true) same (same_bytes found)),
    )

pub returns-clause-ok : goal.returns-clause-ok
returns-clause-ok c =
    let found = c.in_ok-found.found.now in
    let end = nil_from_length c.take.new.self.rest (omega arith) in
    let same = exact_texts found c.as_slice.result.now (not_false _ c.if-ne.ensures) in
    c.in_ok-found.ensures.ok ∙ ap (λ (l : List ℕ). found ++ l) end ∙ append-nil found ∙ same ∙ c.as_slice.ensures ∙ c.to_be_bytes.ensures
