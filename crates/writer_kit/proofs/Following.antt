-- A writer that follows accepted events still does after one more.
use Rattle.std.proofs.Common.{◌≡◌, ◌∙◌, ℕ, ◌<◌, Bool, true, false, not, is_none, List, [], ◌∷◌, ◌++◌, None, refl, sym, ap, subst, arith}
use Rattle.std.proofs.lemmas.Bool.{eq-eqb}
use Rattle.agg_kit.proofs.Refusals.{first_refusal-is}
use Rattle.agg_kit.proofs.Rounds.{stands-push}
use Rattle.agg_kit.specs.Entries.{Entry}
use Rattle.agg_kit.specs.Measuring.{empty_tally}
use Rattle.agg_kit.specs.Refusals.{first_refusal}
use Rattle.agg_kit.specs.Tallies.{Tallied}
use Rattle.agg_kit.specs.Rounds.{StandsFor, round}
use Rattle.plan_kit.specs.Plans.{Planned}
use Rattle.round_kit.specs.Rounds.{points_of}
use Rattle.round_kit.specs.Rounds as rounds
use Rattle.schedule_kit.proofs.History.{none_yet}
use Rattle.schedule_kit.specs.Schedule.{Act, start_of, last_of, is_open, running, collection_after, AreAccepted}
use Rattle.schedule_kit.specs.Schedule.Act.{Measured, Collected, Restarted}
use Rattle.point_kit.specs.declared.writer_id.WriterId.{WriterId}
use Rattle.writer_kit.proofs.Refusals.{now_open, collect_open, collect_later, restart_later}
use Rattle.writer_kit.specs.Following.{Follows, fits, round_of}
use Rattle.attr_kit.specs.declared.attr_set.AttrSet.{AttrSet}
use Rattle.writer_kit.specs.Recording.{new_writer, after_hold, after_record, after_collect, after_restart, round_now}
use Rattle.writer_kit.specs.Refusals.{fault_now, collect_fault, restart_fault}
use Rattle.recorder_kit.specs.Log.{ByName}
use Rattle.writer_kit.specs.Written.{Written}

pub is_still_open : (acts : List (Act Entry)) (closed : Bool) → closed ≡ false → not closed ≡ is_open acts → is_open acts ≡ true
is_still_open acts closed e o = sym o ∙ ap not e

-- the entries of the running incarnation, and one more
pub runs : (first : ℕ) (acts : List (Act Entry)) (e : Entry) → running first (Measured e ∷ acts) ≡ running first acts ++ e ∷ []
runs first acts e = rw (eq-eqb (start_of first acts) (start_of first acts) refl) refl

-- a tally without points
pub plan_of_empty : (t : Tallied) (p : Planned) → t ≡ empty_tally p → t.plan ≡ p
plan_of_empty t p is = ap (λ (t : Tallied). t.plan) is

pub empty_stands : (t : Tallied) (p : Planned) → t ≡ empty_tally p → StandsFor t []
empty_stands t p is = subst (λ (t : Tallied). StandsFor t []) (sym is) refl

pub started : (start : ℕ) (w : Written) → w.start ≡ start → w.last ≡ start → w.closed ≡ false → StandsFor w.tally [] → Follows start [] w
started start w s l c t = record { accepted = tt; start = s; last = l; opened = ap not c; points = t }

pub measured : (first : ℕ) (acts : List (Act Entry)) (e : Entry) (w v : Written) → w.closed ≡ false → ((h : List Entry) → StandsFor w.tally h → first_refusal w.tally.plan h e ≡ None)
    → ((h : List Entry) → StandsFor w.tally h → StandsFor v.tally (h ++ e ∷ [])) → v.tally.plan ≡ w.tally.plan → v ≡ record w { tally = v.tally }
    → Follows first acts w → Follows first (Measured e ∷ acts) v
measured first acts e w v closed fit stands plan rest f =
    record {
      accepted = subst (λ (p : Planned). AreAccepted (fits p) first (Measured e ∷ acts)) (sym plan) ((is_still_open acts w.closed closed f.opened, ap is_none (fit (running first acts) f.points)), f.accepted);
      start = ap (λ (x : Written). x.start) rest ∙ f.start;
      last = ap (λ (x : Written). x.last) rest ∙ f.last;
      opened = ap (λ (x : Written). not x.closed) rest ∙ f.opened;
      points = subst (StandsFor v.tally) (sym (runs first acts e)) (stands (running first acts) f.points);
    }

opens : (acts : List (Act Entry)) (time : ℕ) (closing : Bool) → is_open acts ≡ true → not closing ≡ is_open (Collected time closing ∷ acts)
opens acts time true o = refl
opens acts time false o = sym o

pub marked : (first : ℕ) (acts : List (Act Entry)) (time : ℕ) (closing : Bool) (w v : Written) → w.closed ≡ false → w.last < time → v ≡ record w { last = time; closed = closing }
    → Follows first acts w → Follows first (Collected time closing ∷ acts) v
marked first acts time closing w v closed rises rest f =
    let still : is_open acts ≡ true = is_still_open acts w.closed closed f.opened in
    let before : w.last ≡ last_of first acts = f.last in
    let later : last_of first acts < time = omega arith in
    let tallies : v.tally ≡ w.tally = ap (λ (x : Written). x.tally) rest in
    let newest : v.last ≡ time = ap (λ (x : Written). x.last) rest in
    record {
      accepted = subst (λ (p : Planned). AreAccepted (fits p) first (Collected time closing ∷ acts)) (sym (ap (λ (x : Written). x.tally.plan) rest)) ((still, later), f.accepted);
      start = ap (λ (x : Written). x.start) rest ∙ f.start;
      last = omega arith;
      opened = ap (λ (x : Written). not x.closed) rest ∙ opens acts time closing still;
      points = subst (λ (x : Written). StandsFor x.tally (running first acts)) (sym rest) f.points;
    }

pub restarted : (first : ℕ) (acts : List (Act Entry)) (start : ℕ) (w v : Written) → w.start < start → StandsFor v.tally [] → v.tally.plan ≡ w.tally.plan
    → v ≡ record w { tally = v.tally; start = start; last = start; closed = false } → Follows first acts w → Follows first (Restarted start ∷ acts) v
restarted first acts start w v rises empty plan rest f =
    let before : w.start ≡ start_of first acts = f.start in
    let later : start_of first acts < start = omega arith in
    record {
      accepted = subst (λ (p : Planned). AreAccepted (fits p) first (Restarted start ∷ acts)) (sym plan) (later, f.accepted);
      start = ap (λ (x : Written). x.start) rest;
      last = ap (λ (x : Written). x.last) rest;
      opened = ap (λ (x : Written). not x.closed) rest;
      points = subst (StandsFor v.tally) (sym (none_yet first (fits w.tally.plan) acts f.accepted start later)) empty;
    }

-- the round that a writer gives is that of the collection which is read off its events
pub collects : (first : ℕ) (acts : List (Act Entry)) (time : ℕ) (w : Written) (r : rounds.Collected) → r.start ≡ w.start → r.time ≡ time → r.points ≡ points_of w.tally.plan.streams w.tally.series
    → Follows first acts w → r ≡ round_of w.tally.plan (collection_after first acts time)
collects first acts time w r s t p f =
    let starts : r.start ≡ start_of first acts = s ∙ f.start in
    let points : r.points ≡ points_of w.tally.plan.streams (round w.tally.plan (running first acts)) = p ∙ ap (points_of w.tally.plan.streams) f.points in
    λ i. record { start = starts i; time = t i; points = points i }

-- ---- the same by a writer's own steps

pub starts : (id : WriterId) (plan : Planned) (start : ℕ) → Follows start [] (new_writer id plan start)
starts id plan start = started start (new_writer id plan start) refl refl refl refl

pub measures : (first : ℕ) (acts : List (Act Entry)) (w : Written) (e : Entry) → Follows first acts w → fault_now w (ByName e) ≡ None → Follows first (Measured e ∷ acts) (after_record w (ByName e))
measures first acts w e f none =
    let fits = now_open w (ByName e) none in
    measured first acts e w (after_record w (ByName e)) fits.0 (λ h s. sym (first_refusal-is w.tally h e s) ∙ fits.1) (λ h s. stands-push w.tally h e s) refl refl f

pub marks : (first : ℕ) (acts : List (Act Entry)) (w : Written) (time : ℕ) (closing : Bool) → Follows first acts w → collect_fault w time ≡ None → Follows first (Collected time closing ∷ acts) (after_collect w time closing)
marks first acts w time closing f none = marked first acts time closing w (after_collect w time closing) (collect_open w time none) (collect_later w time none) refl f

pub restarts : (first : ℕ) (acts : List (Act Entry)) (w : Written) (start : ℕ) → Follows first acts w → restart_fault w start ≡ None → Follows first (Restarted start ∷ acts) (after_restart w start)
restarts first acts w start f none = restarted first acts start w (after_restart w start) (restart_later w start none) refl refl refl f

pub rounds_of : (first : ℕ) (acts : List (Act Entry)) (w : Written) (time : ℕ) → Follows first acts w → round_now w time ≡ round_of w.tally.plan (collection_after first acts time)
rounds_of first acts w time f = collects first acts time w (round_now w time) refl refl refl f

pub is_round : (w : Written) (time : ℕ) (r : rounds.Collected) → r.start ≡ w.start → r.time ≡ time → r.points ≡ points_of w.tally.plan.streams w.tally.series → r ≡ round_now w time
is_round w time r s t p = λ i. record { start = s i; time = t i; points = p i }

-- holding is no event
pub holds : (first : ℕ) (acts : List (Act Entry)) (w : Written) (i : ℕ) (a : AttrSet) → Follows first acts w → Follows first acts (after_hold w i a)
holds first acts w i a f = record { accepted = f.accepted; start = f.start; last = f.last; opened = f.opened; points = f.points }
