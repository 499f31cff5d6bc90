-- Recordings, one after the other: what a writer stands for and follows after them.
use Rattle.std.proofs.Common.{◌≡◌, ◌∙◌, ℕ, ◌+◌, ℤ, false, length, arith, List, [], ◌∷◌, ◌++◌, Option, None, Some, fold, refl, sym, ap, subst, append_assoc, append-nil}
use Rattle.std.proofs.lemmas.List.{length-append}
use Rattle.std.proofs.Math.Nat.{add_assoc}
use Rattle.std.specs.Option.{option_map_or}
use Rattle.agg_kit.proofs.Refusals.{first_refusal-is}
use Rattle.agg_kit.proofs.Rounds.{stands-push}
use Rattle.agg_kit.specs.Entries.{Entry}
use Rattle.agg_kit.specs.Measuring.{after_measure, fault_of, held_entry}
use Rattle.agg_kit.specs.Rounds.{StandsFor}
use Rattle.agg_kit.specs.Tallies.{Tallied}
use Rattle.agg_kit.specs.declared.fault.TallyFault.{TallyFault}
use Rattle.agg_kit.specs.declared.fault.TallyFault.TheVariants as tallies
use Rattle.recorder_kit.specs.Log.{Outcome, Recording, ByName, ByNumber, after_at, fault_at, nothing_taken, or_first, taken_in, taken_one}
use Rattle.schedule_kit.specs.Schedule.{Act}
use Rattle.writer_kit.proofs.Following as following
use Rattle.writer_kit.specs.Following.{Follows, measured_after}
use Rattle.writer_kit.specs.Recorded.{accepted_at, entries_at, recorded_of, then_recorded}
use Rattle.writer_kit.specs.Recording.{after_record, after_take_in}
use Rattle.writer_kit.specs.Refusals.{fault_now}
use Rattle.writer_kit.proofs.Refusals.{now_open}
use Rattle.writer_kit.specs.Written.{Written}

-- a tally after recordings, one after the other
abbrev pub tally_with : Tallied → List Recording → Tallied
tally_with t [] = t
tally_with t (r ∷ rs) = tally_with (then_recorded t r) rs

-- a recording that is not refused
pub is-accepted : (t : Tallied) (r : Recording) → fault_at t r ≡ None → accepted_at t r ≡ entries_at t r
is-accepted t r none = ap (λ (o : Option TallyFault). option_map_or (λ f. []) o (entries_at t r)) none

pub is-after : (t : Tallied) (r : Recording) → fault_at t r ≡ None → then_recorded t r ≡ after_at t r
is-after t r none = ap (λ (o : Option TallyFault). option_map_or (λ f. t) o (after_at t r)) none

-- a recording that is accepted is that of one entry
accepted-one : (t : Tallied) (r : Recording) → fault_at t r ≡ None → (e : Entry) × (entries_at t r ≡ e ∷ []) × (after_at t r ≡ after_measure t e) × (fault_of t e ≡ None)
accepted-one t (ByName e) none = (e, refl, refl, none)
accepted-one t (ByNumber n v) none = by (held_entry t n v) none
  where
    by : (o : Option Entry) → option_map_or (fault_of t) o (Some tallies.NoHeld) ≡ None
        → (e : Entry) × (option_map_or (λ e. e ∷ []) o [] ≡ e ∷ []) × (option_map_or (after_measure t) o t ≡ after_measure t e) × (fault_of t e ≡ None)
    by None n = absurd (cc)
    by (Some e) n = (e, refl, refl, n)

-- ---- one recording

one-stands : (t : Tallied) (r : Recording) (es : List Entry) → StandsFor t es → StandsFor (then_recorded t r) (es ++ accepted_at t r)
one-stands t r es s = by (fault_at t r) refl
  where
    by : (o : Option TallyFault) → fault_at t r ≡ o → StandsFor (option_map_or (λ f. t) o (after_at t r)) (es ++ option_map_or (λ f. []) o (entries_at t r))
    by (Some f) is = subst (StandsFor t) (sym (append-nil es)) s
    by None is =
        let a = accepted-one t r is in
        subst (λ (u : Tallied). StandsFor u (es ++ entries_at t r)) (sym a.2) (subst (λ (l : List Entry). StandsFor (after_measure t a.0) (es ++ l)) (sym a.1) (stands-push t es a.0 s))

one-follows : (first : ℕ) (acts : List (Act Entry)) (w : Written) (r : Recording) → w.closed ≡ false → Follows first acts w
    → Follows first (measured_after acts (accepted_at w.tally r)) (record w { tally = then_recorded w.tally r })
one-follows first acts w r closed f = by (fault_at w.tally r) refl
  where
    by : (o : Option TallyFault) → fault_at w.tally r ≡ o
        → Follows first (measured_after acts (option_map_or (λ f. []) o (entries_at w.tally r))) (record w { tally = option_map_or (λ f. w.tally) o (after_at w.tally r) })
    by (Some g) is = f
    by None is =
        let t : Tallied = w.tally in
        let a = accepted-one t r is in
        let v : Written = record w { tally = after_measure t a.0 } in
        let step = following.measured first acts a.0 w v closed (λ h s. sym (first_refusal-is t h a.0 s) ∙ a.3) (λ h s. stands-push t h a.0 s) refl refl f in
        subst (λ (u : Tallied). Follows first (measured_after acts (entries_at t r)) (record w { tally = u })) (sym a.2)
        (subst (λ (l : List Entry). Follows first (measured_after acts l) v) (sym a.1) step)

after-plan : (t : Tallied) (r : Recording) → (after_at t r).plan ≡ t.plan
after-plan t (ByName e) = refl
after-plan t (ByNumber n v) = by (held_entry t n v)
  where
    by : (o : Option Entry) → (option_map_or (after_measure t) o t).plan ≡ t.plan
    by None = refl
    by (Some e) = refl

one-plan : (t : Tallied) (r : Recording) → (then_recorded t r).plan ≡ t.plan
one-plan t r = by (fault_at t r)
  where
    by : (o : Option TallyFault) → (option_map_or (λ f. t) o (after_at t r)).plan ≡ t.plan
    by None = after-plan t r
    by (Some f) = refl

one-held : (t : Tallied) (r : Recording) → (then_recorded t r).held ≡ t.held
one-held t r = by (fault_at t r)
  where
    at : (r : Recording) → (after_at t r).held ≡ t.held
    at (ByName e) = refl
    at (ByNumber n v) = on (held_entry t n v)
      where
        on : (o : Option Entry) → (option_map_or (after_measure t) o t).held ≡ t.held
        on None = refl
        on (Some e) = refl

    by : (o : Option TallyFault) → (option_map_or (λ f. t) o (after_at t r)).held ≡ t.held
    by None = at r
    by (Some f) = refl

-- ---- all of them

pub all-stand : (t : Tallied) (rs : List Recording) (es : List Entry) → StandsFor t es → StandsFor (tally_with t rs) (es ++ recorded_of t rs)
all-stand t [] es s = subst (StandsFor t) (sym (append-nil es)) s
all-stand t (r ∷ rs) es s =
    subst (StandsFor (tally_with t (r ∷ rs))) (append_assoc es (accepted_at t r) (recorded_of (then_recorded t r) rs))
    (all-stand (then_recorded t r) rs (es ++ accepted_at t r) (one-stands t r es s))

measured-append : (acts : List (Act Entry)) (es fs : List Entry) → measured_after (measured_after acts es) fs ≡ measured_after acts (es ++ fs)
measured-append acts [] fs = refl
measured-append acts (e ∷ es) fs = measured-append (Act.Measured e ∷ acts) es fs

pub all-follow : (first : ℕ) (acts : List (Act Entry)) (w : Written) (rs : List Recording) → w.closed ≡ false → Follows first acts w
    → Follows first (measured_after acts (recorded_of w.tally rs)) (record w { tally = tally_with w.tally rs })
all-follow first acts w [] closed f = f
all-follow first acts w (r ∷ rs) closed f =
    let next : Written = record w { tally = then_recorded w.tally r } in
    subst (λ (l : List (Act Entry)). Follows first l (record w { tally = tally_with next.tally rs })) (measured-append acts (accepted_at w.tally r) (recorded_of next.tally rs))
    (all-follow first (measured_after acts (accepted_at w.tally r)) next rs closed (one-follows first acts w r closed f))

pub all-plan : (t : Tallied) (rs : List Recording) → (tally_with t rs).plan ≡ t.plan
all-plan t [] = refl
all-plan t (r ∷ rs) = all-plan (then_recorded t r) rs ∙ one-plan t r

pub all-held : (t : Tallied) (rs : List Recording) → (tally_with t rs).held ≡ t.held
all-held t [] = refl
all-held t (r ∷ rs) = all-held (then_recorded t r) rs ∙ one-held t r

-- a log that is taken in leaves the tally that its recordings leave
abbrev refused_one : Outcome → TallyFault → Outcome
refused_one o f = record o { refused = o.refused + 1; first = or_first o.first (o.recorded + o.refused, f) }

taken-one : (o : Outcome) (r : Recording) → (taken_one o r).tally ≡ then_recorded o.tally r
taken-one o r = by (fault_at o.tally r)
  where
    by : (m : Option TallyFault) → (option_map_or (refused_one o) m (record o { tally = after_at o.tally r; recorded = o.recorded + 1 })).tally ≡ option_map_or (λ f. o.tally) m (after_at o.tally r)
    by None = refl
    by (Some f) = refl

taken-fold : (o : Outcome) (rs : List Recording) → (fold taken_one o rs).tally ≡ tally_with o.tally rs
taken-fold o [] = refl
taken-fold o (r ∷ rs) = taken-fold (taken_one o r) rs ∙ ap (λ (t : Tallied). tally_with t rs) (taken-one o r)

pub taken-all : (t : Tallied) (rs : List Recording) → (taken_in t rs).tally ≡ tally_with t rs
taken-all t rs = taken-fold (nothing_taken t) rs

pub take_ins : (first : ℕ) (acts : List (Act Entry)) (w : Written) (rs : List Recording) → Follows first acts w → w.closed ≡ false → Follows first (measured_after acts (recorded_of w.tally rs)) (after_take_in w rs)
take_ins first acts w rs f closed =
    subst (λ (t : Tallied). Follows first (measured_after acts (recorded_of w.tally rs)) (record w { tally = t })) (sym (taken-all w.tally rs)) (all-follow first acts w rs closed f)

-- a recording at a held point
pub measures_held : (first : ℕ) (acts : List (Act Entry)) (w : Written) (n : ℕ) (v : ℤ) (e : Entry) → Follows first acts w → held_entry w.tally n v ≡ Some e → fault_now w (ByNumber n v) ≡ None
    → Follows first (Act.Measured e ∷ acts) (after_record w (ByNumber n v))
measures_held first acts w n v e f is none =
    let t : Tallied = w.tally in
    let fits = now_open w (ByNumber n v) none in
    let fine : fault_of t e ≡ None = sym (ap (λ (o : Option Entry). option_map_or (fault_of t) o (Some tallies.NoHeld)) is) ∙ fits.1 in
    let step = following.measured first acts e w (record w { tally = after_measure t e }) fits.0 (λ h s. sym (first_refusal-is t h e s) ∙ fine) (λ h s. stands-push t h e s) refl refl f in
    subst (λ (o : Option Entry). Follows first (Act.Measured e ∷ acts) (record w { tally = option_map_or (after_measure t) o t })) (sym is) step

-- ---- how many, and by pieces

lone-length : (t : Tallied) (r : Recording) (o : Option TallyFault) → fault_at t r ≡ o → length (option_map_or (λ f. []) o (entries_at t r)) ≡ option_map_or (λ f. 0) o 1
lone-length t r None is = ap (λ (l : List Entry). length l) (accepted-one t r is).1
lone-length t r (Some f) is = refl

recorded-one : (o : Outcome) (r : Recording) → (taken_one o r).recorded ≡ o.recorded + length (accepted_at o.tally r)
recorded-one o r = by (fault_at o.tally r) refl
  where
    by : (m : Option TallyFault) → fault_at o.tally r ≡ m
        → (option_map_or (refused_one o) m (record o { tally = after_at o.tally r; recorded = o.recorded + 1 })).recorded ≡ o.recorded + length (option_map_or (λ f. []) m (entries_at o.tally r))
    by None is = ap (λ (n : ℕ). o.recorded + n) (sym (lone-length o.tally r None is))
    by (Some f) is = omega arith

recorded-fold : (o : Outcome) (rs : List Recording) → (fold taken_one o rs).recorded ≡ o.recorded + length (recorded_of o.tally rs)
recorded-fold o [] = omega arith
recorded-fold o (r ∷ rs) =
    let one = recorded-one o r in
    let rest = recorded-fold (taken_one o r) rs ∙ ap (λ (t : Tallied). (taken_one o r).recorded + length (recorded_of t rs)) (taken-one o r) in
    let whole = length-append (accepted_at o.tally r) (recorded_of (then_recorded o.tally r) rs) in
    rest ∙ ap (λ (n : ℕ). n + length (recorded_of (then_recorded o.tally r) rs)) one
    ∙ add_assoc o.recorded (length (accepted_at o.tally r)) (length (recorded_of (then_recorded o.tally r) rs))
    ∙ ap (λ (n : ℕ). o.recorded + n) (sym whole)

pub counted : (t : Tallied) (rs : List Recording) → length (recorded_of t rs) ≡ (taken_in t rs).recorded
counted t rs = let h : (taken_in t rs).recorded ≡ 0 + length (recorded_of t rs) = recorded-fold (nothing_taken t) rs in omega arith

recorded-append : (t : Tallied) (rs qs : List Recording) → recorded_of t (rs ++ qs) ≡ recorded_of t rs ++ recorded_of (tally_with t rs) qs
recorded-append t [] qs = refl
recorded-append t (r ∷ rs) qs =
    ap (λ (l : List Entry). accepted_at t r ++ l) (recorded-append (then_recorded t r) rs qs)
    ∙ sym (append_assoc (accepted_at t r) (recorded_of (then_recorded t r) rs) (recorded_of (tally_with t (r ∷ rs)) qs))

pub recorded_by_pieces : (t : Tallied) (rs qs : List Recording) → recorded_of t (rs ++ qs) ≡ recorded_of t rs ++ recorded_of (taken_in t rs).tally qs
recorded_by_pieces t rs qs = recorded-append t rs qs ∙ ap (λ (u : Tallied). recorded_of t rs ++ recorded_of u qs) (sym (taken-all t rs))
