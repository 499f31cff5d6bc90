-- A log that is taken in by pieces.
use Rattle.std.proofs.Common.{◌≡◌, ◌∙◌, ◌+◌, ℕ, List, [], ◌∷◌, Option, None, Some, arith, refl, sym, ap}
use Rattle.std.proofs.lemmas.List.Sums.{fold-append}
use Rattle.std.specs.Prelude.{fold}
use Rattle.std.specs.Option.{option_map, option_map_or}
use Rattle.agg_kit.specs.Tallies.{Tallied}
use Rattle.agg_kit.specs.declared.fault.TallyFault.{TallyFault}
use Rattle.recorder_kit.specs.Log.{Outcome, PiecesAreTheWhole, Recording, after_at, fault_at, nothing_taken, or_first, taken_in, taken_one, then_taken}

-- the first that is told
firsts : (n m : ℕ) (o p : Option (ℕ × TallyFault)) (f : TallyFault)
    → or_first (option_map_or Some o (option_map (λ g. (n + g.0, g.1)) p)) (n + m, f) ≡ option_map_or Some o (option_map (λ g. (n + g.0, g.1)) (or_first p (m, f)))
firsts n m (Some g) p f = refl
firsts n m None None f = refl
firsts n m None (Some h) f = refl

abbrev outcome : Tallied → ℕ → ℕ → Option (ℕ × TallyFault) → Outcome
outcome t n m f = record { tally = t; recorded = n; refused = m; first = f }

-- one recording more of the second piece
one : (o p : Outcome) (r : Recording) → taken_one (then_taken o p) r ≡ then_taken o (taken_one p r)
one o p r = by (fault_at p.tally r)
  where
    n : ℕ
    n = o.recorded + o.refused

    m : ℕ
    m = p.recorded + p.refused

    by : (f : Option TallyFault)
        → option_map_or (λ f. record (then_taken o p) { refused = o.refused + p.refused + 1; first = or_first (then_taken o p).first (o.recorded + p.recorded + (o.refused + p.refused), f) }) f
        (record (then_taken o p) { tally = after_at p.tally r; recorded = o.recorded + p.recorded + 1 })
        ≡ then_taken o (option_map_or (λ f. record p { refused = p.refused + 1; first = or_first p.first (m, f) }) f (record p { tally = after_at p.tally r; recorded = p.recorded + 1 }))
    by None =
        let e : o.recorded + p.recorded + 1 ≡ o.recorded + (p.recorded + 1) = omega arith in
        ap (λ k. outcome (after_at p.tally r) k (o.refused + p.refused) (then_taken o p).first) e
    by (Some f) =
        let e : o.refused + p.refused + 1 ≡ o.refused + (p.refused + 1) = omega arith in
        let at : o.recorded + p.recorded + (o.refused + p.refused) ≡ n + m = omega arith in
        ap (λ k. outcome p.tally (o.recorded + p.recorded) k (or_first (then_taken o p).first (o.recorded + p.recorded + (o.refused + p.refused), f))) e
        ∙ ap (λ k. outcome p.tally (o.recorded + p.recorded) (o.refused + (p.refused + 1)) (or_first (then_taken o p).first (k, f))) at
        ∙ ap (outcome p.tally (o.recorded + p.recorded) (o.refused + (p.refused + 1))) (firsts n m o.first p.first f)

-- the second piece, behind what was told before
behind : (o p : Outcome) (qs : List Recording) → fold taken_one (then_taken o p) qs ≡ then_taken o (fold taken_one p qs)
behind o p [] = refl
behind o p (q ∷ qs) = ap (λ x. fold taken_one x qs) (one o p q) ∙ behind o (taken_one p q) qs

none : (o : Outcome) → then_taken o (nothing_taken o.tally) ≡ o
none o = by o.first
  where
    by : (f : Option (ℕ × TallyFault)) → outcome o.tally (o.recorded + 0) (o.refused + 0) (option_map_or Some f None) ≡ outcome o.tally o.recorded o.refused f
    by f =
        let a : o.recorded + 0 ≡ o.recorded = omega arith in
        let b : o.refused + 0 ≡ o.refused = omega arith in
        (λ i. outcome o.tally (a i) (b i) (option_map_or Some f None)) ∙ ap (outcome o.tally o.recorded o.refused) (self f)
      where
        self : (f : Option (ℕ × TallyFault)) → option_map_or Some f None ≡ f
        self None = refl
        self (Some g) = refl

pub pieces_are_the_whole : PiecesAreTheWhole
pieces_are_the_whole t rs qs =
    let o = taken_in t rs in
    fold-append taken_one (nothing_taken t) rs qs
    ∙ ap (λ x. fold taken_one x qs) (sym (none o))
    ∙ behind o (nothing_taken o.tally) qs
