-- What a place knows stays true as its seat sees more.
use Rattle.std.proofs.Common.{◌≡◌, ◌∙◌, ℕ, List, [], ◌∷◌, ◌++◌, Option, Result, Ok, Err, IfOk, IfErr, refl, sym, ap, subst}
use Rattle.std.proofs.lemmas.List.{append_assoc}
use Rattle.indexmap.specs.IndexMap.{insert_entry}
use Rattle.attr_kit.specs.declared.attr_set.AttrSet.{AttrSet}
use Rattle.turn_kit.specs.History.{StartsWith}
use Rattle.turn_kit.specs.Public.{AtBusy, AtExhausted, AtRefused, Enters, Exhausts, IsLeft, Refuses, seen}
use Rattle.turn_kit.specs.declared.fault.ChangeFault as changes
use Rattle.turn_kit.specs.declared.fault.ChangeFault.TheVariants.{Busy, Exhausted, Refused}
use Rattle.turn_kit.specs.declared.seat.Seat.{Seat}
use Rattle.writer_kit.specs.Shared.{History, IsSameShared, StandsForSet, first_of, held_by, held_in}
use Rattle.writer_kit.specs.Written.{Written}
use Rattle.writer_kit.specs.declared.shared.change.WriterChange.{WriterChange}
use Rattle.writer_kit.specs.declared.shared.writer.SharedWriter.{SharedWriter}
use Rattle.kit_c.proofs.Numbers.{numbers_stay, one_noted}
use Rattle.kit_c.specs.Knowing.{Know}
use Rattle.kit_c.specs.Pairs.{AreNumbers, pair_eq}
use Rattle.kit_c.specs.declared.pairs.Pair.{Pair}

held-append : (xs ys : History) → held_in (xs ++ ys) ≡ held_in xs ++ held_in ys
held-append [] ys = refl
held-append (x ∷ xs) ys = ap (λ l. held_by x.1 ++ l) (held-append xs ys) ∙ sym (append_assoc (held_by x.1) (held_in xs) (held_in ys))

module _ {G : Type 0} {g : _} (shared : SharedWriter G) (s t : Seat Written WriterChange g) (es : List (Pair × ℕ)) where
  pub know_more : StartsWith (seen t) (seen s) → Know shared s es → Know shared t es
  know_more grows know =
      let first : List (ℕ × AttrSet) = (first_of shared).tally.held in
      let all : (first ++ held_in (seen s)) ++ held_in grows.0 ≡ first ++ held_in (seen t) =
      append_assoc first (held_in (seen s)) (held_in grows.0)
      ∙ ap (λ (l : List (ℕ × AttrSet)). first ++ l) (sym (held-append (seen s) grows.0))
      ∙ ap (λ (l : History). first ++ held_in l) (sym grows.1) in
      subst (λ (l : List (ℕ × AttrSet)). AreNumbers l es) all (numbers_stay (first ++ held_in (seen s)) (held_in grows.0) es know)

  pub know_seen : seen t ≡ seen s → Know shared s es → Know shared t es
  know_seen same know = subst (λ (l : History). AreNumbers ((first_of shared).tally.held ++ held_in l) es) (sym same) know

  pub know_left : IsLeft s t → Know shared s es → Know shared t es
  know_left left know = know_seen (ap (λ me. me.0.seen) left.0) know

  -- whatever a change comes to
  pub know_tried : {R F : Type 0} (state : Written → Written) (next : Written → WriterChange → Option Written) (start : Written) (limit : ℕ) (c : WriterChange)
      (replied : R → Written → Type 0) (refuses : F → Written → Type 0) (told : Result R (changes.ChangeFault F)) → IfOk told (λ r. Enters state next start limit c (replied r) s t)
      → IfErr told (AtBusy (IsLeft s t)) → IfErr told (AtExhausted (Exhausts state next start limit s t)) → IfErr told (AtRefused (λ f. Refuses state next start limit (refuses f) s t))
      → Know shared s es → Know shared t es
  know_tried state next start limit c replied refuses (Ok r) ok busy exhausted refused know = know_more ok.grows know
  know_tried state next start limit c replied refuses (Err Busy) ok busy exhausted refused know = know_left busy know
  know_tried state next start limit c replied refuses (Err Exhausted) ok busy exhausted refused know = know_more exhausted.0.begins know
  know_tried state next start limit c replied refuses (Err (Refused f)) ok busy exhausted refused know = know_more refused.0.begins know

  -- one number more
  pub know_held : (pair : Pair) (ns : List (Pair × ℕ)) (n : ℕ) → ns ≡ insert_entry pair_eq es pair n → StandsForSet shared n pair.instrument pair.attrs t
      → Know shared t es → Know shared t ns
  know_held pair ns n is stands know =
      let hs : List (ℕ × AttrSet) = (first_of shared).tally.held ++ held_in (seen t) in
      subst (λ (l : List (Pair × ℕ)). AreNumbers hs l) (sym is) (one_noted hs es pair n know stands)

-- a shared writer that wakes nobody began with the same writer
pub same_first : {G H : Type 0} (a : SharedWriter G) (b : SharedWriter H) → IsSameShared a b → first_of b ≡ first_of a
same_first a b same = ap (λ x. x.shared.key.start.value) same

-- the first place of a shared writer
pub know_first : {G : Type 0} {g : _} (shared : SharedWriter G) (s : Seat Written WriterChange g) (w : Written) (es : List (Pair × ℕ))
    → first_of shared ≡ w → seen s ≡ [] → AreNumbers w.tally.held es → Know shared s es
know_first shared s w es first none are =
    let all : w.tally.held ++ [] ≡ (first_of shared).tally.held ++ held_in (seen s) =
    λ i. (sym first i).tally.held ++ held_in (sym none i) in
    subst (λ (l : List (ℕ × AttrSet)). AreNumbers l es) all (numbers_stay w.tally.held [] es are)
