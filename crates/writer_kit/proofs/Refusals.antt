-- When a writer refuses, by its parts.
use Rattle.std.proofs.Common.{◌≡◌, ◌≢◌, ◌∙◌, ℕ, ◌<◌, ◌≤◌, Bool, true, false, List, [], ◌∷◌, Option, None, Some, Result, Ok, Err, IfErr, refl, sym, ap, subst}
use Rattle.std.specs.Prelude.{nat_le, is_none}
use Rattle.std.specs.Option.{option_map}
use Rattle.std.proofs.lemmas.Bool.{le-leb, lt-leb, leb-false}
use Rattle.attr_kit.specs.Refusing.{first, when}
use Rattle.agg_kit.specs.Entries.{Entry}
use Rattle.agg_kit.proofs.Refusals.{early-is, first_refusal-is}
use Rattle.agg_kit.specs.Feeds.{NoneCopies}
use Rattle.agg_kit.specs.Held.{HasInstrument}
use Rattle.agg_kit.specs.Rounds.{StandsFor}
use Rattle.agg_kit.specs.declared.fault.TallyFault.{TallyFault}
use Rattle.plan_kit.specs.Plans.{feeds_of, kind_of}
use Rattle.recorder_kit.specs.Log.{Recording, ByName, early_fault_at, fault_at}
use Rattle.writer_kit.specs.Refusals.{no_memory, measure_fault, fault_now, early_fault, collect_fault, hold_fault, restart_fault}
use Rattle.writer_kit.specs.Written.{Written}
use Rattle.writer_kit.specs.declared.fault.CollectFault.TheVariants as collect
use Rattle.writer_kit.specs.declared.fault.MeasureFault as measures
use Rattle.writer_kit.specs.declared.fault.MeasureFault.TheVariants as measure
use Rattle.agg_kit.specs.declared.fault.TallyFault.TheVariants as tallies
use Rattle.writer_kit.specs.declared.fault.RestartFault.TheVariants as restart

-- a recording, by the points
pub now_closed : (w : Written) (e : Recording) → w.closed ≡ true → fault_now w e ≡ Some measure.Closed
unfolding fault_now
now_closed w e c = rw c refl

pub now_refused : (w : Written) (e : Recording) (f : TallyFault) → w.closed ≡ false → fault_at w.tally e ≡ Some f → fault_now w e ≡ Some (measure.Refused f)
unfolding fault_now
now_refused w e f c r = rw (c, r) refl

pub now_accepted : (w : Written) (e : Recording) → w.closed ≡ false → fault_at w.tally e ≡ None → fault_now w e ≡ None
unfolding fault_now
now_accepted w e c r = rw (c, r) refl

pub all_told : {R : Type 0} (w : Written) (e : Recording) (r : Result R measures.MeasureFault) (f : TallyFault) → r ≡ Err (measure.Refused f) → w.closed ≡ false → (f ≢ tallies.NoMemory → fault_at w.tally e ≡ Some f)
    → IfErr r (λ g. g ≢ no_memory → fault_now w e ≡ Some g)
all_told w e r f is open_ told =
    subst (λ x. IfErr x (λ g. g ≢ no_memory → fault_now w e ≡ Some g)) (sym is) (λ other. now_refused w e f open_ (told (λ same. other (ap measure.Refused same))))

-- want of memory, which comes only where nothing is refused before memory is wanted
pub early_accepted : (w : Written) (e : Recording) → w.closed ≡ false → early_fault_at w.tally e ≡ None → early_fault w e ≡ None
unfolding early_fault
early_accepted w e c r = rw (c, r) refl

pub all_short : {R : Type 0} (w : Written) (e : Recording) (r : Result R measures.MeasureFault) (f : TallyFault) → r ≡ Err (measure.Refused f) → w.closed ≡ false
    → (f ≡ tallies.NoMemory → early_fault_at w.tally e ≡ None) → IfErr r (λ g. g ≡ no_memory → early_fault w e ≡ None)
all_short w e r f is open_ short =
    subst (λ x. IfErr x (λ g. g ≡ no_memory → early_fault w e ≡ None)) (sym is) (λ same. early_accepted w e open_ (short (inner same)))
  where
    inner : measure.Refused f ≡ no_memory → f ≡ tallies.NoMemory
    inner same = cc

-- the same of what a writer is seen as
pub told_as : {R : Type 0} (w x : Written) (e : Recording) (r : Result R measures.MeasureFault) (f : TallyFault) → w ≡ x → r ≡ Err (measure.Refused f) → w.closed ≡ false
    → (f ≢ tallies.NoMemory → fault_at w.tally e ≡ Some f) → IfErr r (λ g. g ≢ no_memory → fault_now x e ≡ Some g)
told_as w x e r f seen is open_ told = subst (λ (y : Written). IfErr r (λ g. g ≢ no_memory → fault_now y e ≡ Some g)) seen (all_told w e r f is open_ told)

pub short_as : {R : Type 0} (w x : Written) (e : Recording) (r : Result R measures.MeasureFault) (f : TallyFault) → w ≡ x → r ≡ Err (measure.Refused f) → w.closed ≡ false
    → (f ≡ tallies.NoMemory → early_fault_at w.tally e ≡ None) → IfErr r (λ g. g ≡ no_memory → early_fault x e ≡ None)
short_as w x e r f seen is open_ short = subst (λ (y : Written). IfErr r (λ g. g ≡ no_memory → early_fault y e ≡ None)) seen (all_short w e r f is open_ short)

pub none_told : {R F : Type 0} (r : Result R F) (x : R) (P : F → Type 0) → r ≡ Ok x → IfErr r P
none_told r x P is = subst (λ y. IfErr y P) (sym is) tt

-- by the points it is refused as by the recordings for which they stand
pub now_is : (w : Written) (h : List Entry) (e : Entry) → StandsFor w.tally h → fault_now w (ByName e) ≡ measure_fault w h e
unfolding fault_now measure_fault
now_is w h e s = ap (λ o. first (when w.closed measure.Closed ∷ option_map (λ f. measure.Refused f) o ∷ [])) (first_refusal-is w.tally h e s)

-- where no feed copies what it keeps of the set, nothing is looked for after memory is wanted
pub early_is : (w : Written) (e : Entry) → NoneCopies e.attrs (feeds_of w.tally.plan e.instrument) → early_fault w (ByName e) ≡ fault_now w (ByName e)
unfolding fault_now early_fault
early_is w e none = ap (λ o. first (when w.closed measure.Closed ∷ option_map (λ f. measure.Refused f) o ∷ [])) (early-is w.tally e none)

-- where a recording is accepted, the writer is open, and nothing of the points refuses it
pub now_open : (w : Written) (e : Recording) → fault_now w e ≡ None → (w.closed ≡ false) × (fault_at w.tally e ≡ None)
unfolding fault_now
now_open w e none = by w.closed (fault_at w.tally e) none
  where
    by : (b : Bool) (o : Option TallyFault) → first (when b measure.Closed ∷ option_map (λ f. measure.Refused f) o ∷ []) ≡ None → (b ≡ false) × (o ≡ None)
    by true o e = cc
    by false (Some f) e = cc
    by false None e = (refl, refl)

pub collect_closed : (w : Written) (time : ℕ) → w.closed ≡ true → collect_fault w time ≡ Some collect.Closed
unfolding collect_fault
collect_closed w time c = rw c refl

pub collect_late : (w : Written) (time : ℕ) → w.closed ≡ false → time ≤ w.last → collect_fault w time ≡ Some (collect.TimeNotAfter w.last)
unfolding collect_fault
collect_late w time c late = rw (c, le-leb time w.last late) refl

pub collect_accepted : (w : Written) (time : ℕ) → w.closed ≡ false → w.last < time → collect_fault w time ≡ None
unfolding collect_fault
collect_accepted w time c later = rw (c, lt-leb time w.last later) refl

neither : {F : Type 0} (b c : Bool) (f g : F) → first (when b f ∷ when c g ∷ []) ≡ None → (b ≡ false) × (c ≡ false)
neither true c f g e = cc
neither false true f g e = cc
neither false false f g e = (refl, refl)

-- where a collection is accepted, the writer is open and the time is after the last
pub collect_open : (w : Written) (time : ℕ) → collect_fault w time ≡ None → w.closed ≡ false
unfolding collect_fault
collect_open w time e = (neither w.closed (nat_le time w.last) collect.Closed (collect.TimeNotAfter w.last) e).0

pub collect_later : (w : Written) (time : ℕ) → collect_fault w time ≡ None → w.last < time
unfolding collect_fault
collect_later w time e = leb-false time w.last (neither w.closed (nat_le time w.last) collect.Closed (collect.TimeNotAfter w.last) e).1

-- an open writer that is marked without closing changes its last time alone
pub stays_open : (w v : Written) (time : ℕ) → w.closed ≡ false → v ≡ record w { last = time; closed = false } → v ≡ record w { last = time }
stays_open w v time c e = e ∙ (λ i. record w { last = time; closed = sym c i })

pub restart_late : (w : Written) (start : ℕ) → start ≤ w.start → restart_fault w start ≡ Some (restart.StartNotAfter w.start)
unfolding restart_fault
restart_late w start late = rw (le-leb start w.start late) refl

pub restart_accepted : (w : Written) (start : ℕ) → w.start < start → restart_fault w start ≡ None
unfolding restart_fault
restart_accepted w start later = rw (lt-leb start w.start later) refl

pub restart_later : (w : Written) (start : ℕ) → restart_fault w start ≡ None → w.start < start
unfolding restart_fault
restart_later w start e = leb-false start w.start (lone (nat_le start w.start) (restart.StartNotAfter w.start) e)
  where
    lone : {F : Type 0} (b : Bool) (f : F) → first (when b f ∷ []) ≡ None → b ≡ false
    lone true f e = cc
    lone false f e = refl

-- holding
pub hold_closed : (w : Written) (i : ℕ) → w.closed ≡ true → hold_fault w i ≡ Some measure.Closed
unfolding hold_fault
hold_closed w i c = rw c refl

pub hold_there : (w : Written) (i : ℕ) → w.closed ≡ false → HasInstrument w.tally i → hold_fault w i ≡ None
unfolding hold_fault
hold_there w i c h = rw (c, h) refl

pub hold_none : (w : Written) (i : ℕ) (f : TallyFault) → w.closed ≡ false → f ≡ tallies.NoInstrument → (HasInstrument w.tally i → ⊥) → hold_fault w i ≡ Some (measure.Refused f)
unfolding hold_fault
hold_none w i f c is h = by (is_none (kind_of w.tally.plan i)) refl
  where
    by : (b : Bool) → is_none (kind_of w.tally.plan i) ≡ b → hold_fault w i ≡ Some (measure.Refused f)
    by true e = rw (c, e, is) refl
    by false e = absurd (h e)

pub hold_open : (w : Written) (i : ℕ) → hold_fault w i ≡ None → w.closed ≡ false
unfolding hold_fault
hold_open w i e = (neither w.closed (is_none (kind_of w.tally.plan i)) measure.Closed (measure.Refused tallies.NoInstrument) e).0
