-- One recording more of a log.
use Rattle.std.proofs.Common.{◌≡◌, ◌≢◌, ◌+◌, ◌∙◌, Bool, true, false, Result, Ok, Err, OnOk, IfErr, Option, Some, None, refl, sym, ap, arith, true≢false}
use Rattle.std.specs.Option.{option_map_or}
use Rattle.agg_kit.specs.Tallies.{Tallied}
use Rattle.agg_kit.specs.declared.fault.TallyFault.{TallyFault}
use Rattle.agg_kit.specs.declared.fault.TallyFault.TheVariants.{NoHeld, NoInstrument, Negative, Overflow, NoMemory}
use Rattle.recorder_kit.specs.Lines.{outcome_of, with_recorded, with_refused, IsAnswered}
use Rattle.recorder_kit.specs.Log.{Outcome, Recording, WantsMemory, after_at, fault_at, or_first, taken_one}
use Rattle.recorder_kit.specs.declared.taken.Taken.{Taken}

abbrev refused_one : Outcome → TallyFault → Outcome
refused_one o f = record o { refused = o.refused + 1; first = or_first o.first (o.recorded + o.refused, f) }

abbrev recorded_one : Outcome → Recording → Outcome
recorded_one o r = record o { tally = after_at o.tally r; recorded = o.recorded + 1 }

-- it was measured
one-recorded : (t s : Tallied) (k j : Taken) (r : Recording) → fault_at t r ≡ None → s ≡ after_at t r → j ≡ with_recorded k
    → (outcome_of s j ≡ taken_one (outcome_of t k) r) × (j.recorded + j.refused ≡ k.recorded + k.refused + 1)
one-recorded t s k j r none value is =
    let o : Outcome = outcome_of t k in
    let n : (with_recorded k).recorded + (with_recorded k).refused ≡ k.recorded + k.refused + 1 = omega arith in (
      (λ i. outcome_of (value i) (is i)) ∙ sym (ap (λ (f : Option TallyFault). option_map_or (refused_one o) f (recorded_one o r)) none),
      ap (λ (x : Taken). x.recorded + x.refused) is ∙ n,
    )

-- it was refused
one-refused : (t s : Tallied) (k j : Taken) (r : Recording) (f : TallyFault) → fault_at t r ≡ Some f → s ≡ t → j ≡ with_refused k f
    → (outcome_of s j ≡ taken_one (outcome_of t k) r) × (j.recorded + j.refused ≡ k.recorded + k.refused + 1)
one-refused t s k j r f some same is =
    let o : Outcome = outcome_of t k in
    let n : (with_refused k f).recorded + (with_refused k f).refused ≡ k.recorded + k.refused + 1 = omega arith in (
      (λ i. outcome_of (same i) (is i)) ∙ sym (ap (λ (g : Option TallyFault). option_map_or (refused_one o) g (recorded_one o r)) some),
      ap (λ (x : Taken). x.recorded + x.refused) is ∙ n,
    )

abbrev One : Tallied → Tallied → Taken → Taken → Recording → Type 0
One t s k j r = (outcome_of s j ≡ taken_one (outcome_of t k) r) × (j.recorded + j.refused ≡ k.recorded + k.refused + 1)

gone-on : (k j : Taken) (go : Bool) (f : TallyFault) → f ≢ NoMemory → (f ≢ NoMemory → (go ≡ true) × (j ≡ with_refused k f)) → go ≡ false → ⊥
gone-on k j go f n refused g = true≢false (sym (refused n).0 ∙ g)

-- what a tally answered, and what was noted of it
module _ {U : Type 0} (t s : Tallied) (k j : Taken) (r : Recording) (go : Bool) where
  abbrev More : Result U TallyFault → Type 0
  More told = OnOk told ((go ≡ true) × (j ≡ with_recorded k))

  abbrev Refused : Result U TallyFault → Type 0
  Refused told = IfErr told (λ f. f ≢ NoMemory → (go ≡ true) × (j ≡ with_refused k f))

  abbrev Short : Result U TallyFault → Type 0
  Short told = IfErr told (λ f. f ≡ NoMemory → (go ≡ false) × (j ≡ k))

  by-fault : (f : TallyFault) → f ≢ NoMemory → IsAnswered t s r (let told : Result U TallyFault = Err f in told) → (f ≢ NoMemory → (go ≡ true) × (j ≡ with_refused k f)) → One t s k j r
  by-fault f n m refused = one-refused t s k j r f (m.err n) m.unchanged (refused n).1

  pub noted-more : (told : Result U TallyFault) → IsAnswered t s r told → More told → Refused told → Short told → go ≡ true
      → (outcome_of s j ≡ taken_one (outcome_of t k) r) × (j.recorded + j.refused ≡ k.recorded + k.refused + 1)
  noted-more (Ok x) m more refused short g = one-recorded t s k j r m.ok m.value more.1
  noted-more (Err NoHeld) m more refused short g = by-fault NoHeld (λ e. (cc)) m refused
  noted-more (Err NoInstrument) m more refused short g = by-fault NoInstrument (λ e. (cc)) m refused
  noted-more (Err Negative) m more refused short g = by-fault Negative (λ e. (cc)) m refused
  noted-more (Err (Overflow n)) m more refused short g = by-fault (Overflow n) (λ e. (cc)) m refused
  noted-more (Err NoMemory) m more refused short g = absurd (true≢false (sym g ∙ (short refl).0))

  pub noted-short : (told : Result U TallyFault) → IsAnswered t s r told → More told → Refused told → Short told → go ≡ false → (s ≡ t) × (j ≡ k) × WantsMemory t r
  noted-short (Ok x) m more refused short g = absurd (true≢false (sym more.0 ∙ g))
  noted-short (Err NoHeld) m more refused short g = absurd (gone-on k j go NoHeld (λ e. (cc)) refused g)
  noted-short (Err NoInstrument) m more refused short g = absurd (gone-on k j go NoInstrument (λ e. (cc)) refused g)
  noted-short (Err Negative) m more refused short g = absurd (gone-on k j go Negative (λ e. (cc)) refused g)
  noted-short (Err (Overflow n)) m more refused short g = absurd (gone-on k j go (Overflow n) (λ e. (cc)) refused g)
  noted-short (Err NoMemory) m more refused short g = (m.unchanged, (short refl).1, (m.no_memory refl, λ there. m.held there refl))
