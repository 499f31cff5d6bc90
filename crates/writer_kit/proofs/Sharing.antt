-- What a shared writer's history makes of the first writer.
use Rattle.std.proofs.Common.{◌≡◌, ◌≢◌, ◌∙◌, ℕ, Bool, true, false, cond, List, [], ◌∷◌, ◌++◌, length, Option, Some, None, Result, Ok, Err, IfOk, IfErr, refl, sym, ap, subst, append_assoc, append-nil, suc, zero}
use Rattle.std.specs.Prelude.{ℤ, is_none, slice_get}
use Rattle.std.specs.Option.{option_map_or}
use Rattle.agg_kit.specs.Entries.{Entry, entry_of}
use Rattle.agg_kit.specs.Measuring.{fault_of, held_entry}
use Rattle.agg_kit.specs.Rounds.{StandsFor, round}
use Rattle.agg_kit.specs.Tallies.{Tallied}
use Rattle.agg_kit.specs.declared.fault.TallyFault.TheVariants as tallies
use Rattle.attr_kit.specs.declared.attr_set.AttrSet.{AttrSet}
use Rattle.plan_kit.specs.Plans.{Planned}
use Rattle.recorder_kit.specs.Log.{Recording, ByName, ByNumber, TakesNoMemory, fault_at}
use Rattle.round_kit.specs.Rounds.{points_of}
use Rattle.round_kit.specs.Rounds as rounds
use Rattle.turn_kit.specs.declared.seat.Seat.{Seat}
use Rattle.turn_kit.specs.History.{replay, IsReplay}
use Rattle.turn_kit.specs.Public.{Closes, seen, number}
use Rattle.schedule_kit.specs.Schedule.{Act, collection_after, collections}
use Rattle.writer_kit.specs.Following.{Follows, measured_after, round_of}
use Rattle.writer_kit.specs.Recorded.{accepted_at, entries_at, recorded_of}
use Rattle.writer_kit.specs.Recording.{after_hold, after_record, after_take_in, round_now}
use Rattle.writer_kit.specs.Refusals.{collect_fault, early_fault, fault_now, hold_fault, no_memory}
use Rattle.writer_kit.specs.Written.{Written}
use Rattle.writer_kit.specs.declared.fault.CollectFault as collects
use Rattle.writer_kit.specs.declared.fault.CollectFault.TheVariants as collect
use Rattle.writer_kit.specs.declared.fault.MeasureFault as measures
use Rattle.writer_kit.specs.declared.shared.writer.SharedWriter.{SharedWriter}
use Rattle.writer_kit.specs.declared.shared.change.WriterChange.{WriterChange}
use Rattle.writer_kit.specs.declared.shared.change.WriterChange.TheVariants.{Measured, MeasuredHeld, Held, Collected, TakenIn}
use Rattle.writer_kit.specs.Shared.{History, after_writer_change, held_by, held_in, recorded_by, tally_after, entries_of, then_acts, acts_after, Serves, MayRefuse, MayRefuseHold, MayRefuseRound, first_of, IsRound, Accepts, Adds, HasAllMeasured, IsNewest, LooksAt, Sees, StandsForSet, StandsIn}
use Rattle.writer_kit.proofs.Recorded.{all-follow, all-held, all-plan, all-stand, is-accepted, is-after, taken-all, tally_with}
use Rattle.writer_kit.proofs.Following as following
use Rattle.writer_kit.proofs.Refusals.{now_open, collect_open, collect_later, stays_open}

some_is : (x y : Written) → Some x ≡ Some y → x ≡ y
some_is x y e = ap (λ (z : Option Written). either_of z) e
  where
    either_of : Option Written → Written
    either_of None = x
    either_of (Some z) = z

none_is : (y : Written) → None ≡ Some y → ⊥
none_is y e = subst is_nothing e tt
  where
    is_nothing : Option Written → Type 0
    is_nothing None = Unit {0}
    is_nothing (Some z) = ⊥

-- ---- one change

pub after_writer_change_measured : (w v : Written) (i : ℕ) (a : AttrSet) (x : ℤ) → fault_now w (ByName (entry_of i a x)) ≡ None → v ≡ after_record w (ByName (entry_of i a x)) → after_writer_change w (Measured i a x) ≡ Some v
after_writer_change_measured w v i a x fits is = ap (λ o. cond (is_none o) (Some (after_record w (ByName (entry_of i a x)))) None) fits ∙ ap Some (sym is)

pub after_writer_change_collected : (w v : Written) (time : ℕ) → collect_fault w time ≡ None → v ≡ record w { last = time; closed = false } → after_writer_change w (Collected time) ≡ Some v
after_writer_change_collected w v time fits is = ap (λ o. cond (is_none o) (Some (record w { last = time })) None) fits ∙ ap Some (sym (stays_open w v time (collect_open w time fits) is))

pub after_writer_change_measured_held : (w v : Written) (n : ℕ) (x : ℤ) → fault_now w (ByNumber n x) ≡ None → v ≡ after_record w (ByNumber n x) → after_writer_change w (MeasuredHeld n x) ≡ Some v
after_writer_change_measured_held w v n x fits is = ap (λ o. cond (is_none o) (Some (after_record w (ByNumber n x))) None) fits ∙ ap Some (sym is)

pub after_writer_change_held : (w v : Written) (i : ℕ) (a : AttrSet) → hold_fault w i ≡ None → v ≡ after_hold w i a → after_writer_change w (Held i a) ≡ Some v
after_writer_change_held w v i a fits is = ap (λ o. cond (is_none o) (Some (after_hold w i a)) None) fits ∙ ap Some (sym is)

pub after_writer_change_taken_in : (w v : Written) (rs : List Recording) → w.closed ≡ false → v ≡ after_take_in w rs → after_writer_change w (TakenIn rs) ≡ Some v
after_writer_change_taken_in w v rs open_ is = ap (λ b. cond b None (Some (after_take_in w rs))) open_ ∙ ap Some (sym is)

-- what is accepted was refused for no cause, and is what it was said to be
chosen : {F : Type 0} (o : Option F) (next v : Written) → cond (is_none o) (Some next) None ≡ Some v → (o ≡ None) × (v ≡ next)
chosen None next v is = (refl, sym (some_is next v is))
chosen (Some f) next v is = absurd (none_is v is)

unclosed : (b : Bool) (next v : Written) → cond b None (Some next) ≡ Some v → (b ≡ false) × (v ≡ next)
unclosed false next v is = (refl, sym (some_is next v is))
unclosed true next v is = absurd (none_is v is)

-- what one change makes of a writer
record Steps (w : Written) (c : WriterChange) (v : Written) : Type 0 where
  same_id : v.id ≡ w.id
  same_start : v.start ≡ w.start
  tally : v.tally ≡ tally_after w.tally c
  same_plan : v.tally.plan ≡ w.tally.plan
  held : v.tally.held ≡ w.tally.held ++ held_by c
  stands : (es : List Entry) → StandsFor w.tally es → StandsFor v.tally (es ++ recorded_by w.tally c)
  follows : (start : ℕ) (earlier : List (Act Entry)) → Follows start earlier w → Follows start (then_acts w.tally earlier c) v

-- one that looks at recordings alone
recorded : (w v : Written) (c : WriterChange) (rs : List Recording) → w.closed ≡ false → v ≡ record w { tally = tally_with w.tally rs } → tally_with w.tally rs ≡ tally_after w.tally c
    → recorded_of w.tally rs ≡ recorded_by w.tally c → ((earlier : List (Act Entry)) → measured_after earlier (recorded_by w.tally c) ≡ then_acts w.tally earlier c) → held_by c ≡ [] → Steps w c v
recorded w v c rs open_ is tally entries acts none = record {
  same_id = ap (λ (x : Written). x.id) is;
  same_start = ap (λ (x : Written). x.start) is;
  tally = ap (λ (x : Written). x.tally) is ∙ tally;
  same_plan = ap (λ (x : Written). x.tally.plan) is ∙ all-plan w.tally rs;
  held = ap (λ (x : Written). x.tally.held) is ∙ all-held w.tally rs ∙ sym (append-nil w.tally.held) ∙ ap (λ l. w.tally.held ++ l) (sym none);
  stands = λ es s. subst (λ (l : List Entry). StandsFor v.tally (es ++ l)) entries (subst (λ (x : Written). StandsFor x.tally (es ++ recorded_of w.tally rs)) (sym is) (all-stand w.tally rs es s));
  follows = λ start earlier f.
      subst (λ (l : List (Act Entry)). Follows start l v) (ap (measured_after earlier) entries ∙ acts earlier)
      (subst (λ (x : Written). Follows start (measured_after earlier (recorded_of w.tally rs)) x) (sym is) (all-follow start earlier w rs open_ f));
}

-- one that is not refused
not_refused : (w v : Written) (r : Recording) → fault_at w.tally r ≡ None → v ≡ after_record w r → v ≡ record w { tally = tally_with w.tally (r ∷ []) }
not_refused w v r none is = is ∙ ap (λ (t : Tallied). record w { tally = t }) (sym (is-after w.tally r none))

lone : (t : Tallied) (r : Recording) → fault_at t r ≡ None → recorded_of t (r ∷ []) ≡ entries_at t r
lone t r none = append-nil (accepted_at t r) ∙ is-accepted t r none

one : (w v : Written) (c : WriterChange) → after_writer_change w c ≡ Some v → Steps w c v
one w v (Measured i a x) is =
    let r : Recording = ByName (entry_of i a x) in
    let d = chosen (fault_now w r) (after_record w r) v is in
    let open_ = now_open w r d.0 in
    recorded w v (Measured i a x) (r ∷ []) open_.0 (not_refused w v r open_.1 d.1) (is-after w.tally r open_.1) (lone w.tally r open_.1) (λ earlier. refl) refl
one w v (MeasuredHeld n x) is =
    let r : Recording = ByNumber n x in
    let d = chosen (fault_now w r) (after_record w r) v is in
    let open_ = now_open w r d.0 in
    recorded w v (MeasuredHeld n x) (r ∷ []) open_.0 (not_refused w v r open_.1 d.1) (is-after w.tally r open_.1) (lone w.tally r open_.1) (λ earlier. refl) refl
one w v (Held i a) is =
    let d = chosen (hold_fault w i) (after_hold w i a) v is in
    record {
      same_id = ap (λ (u : Written). u.id) d.1;
      same_start = ap (λ (u : Written). u.start) d.1;
      tally = ap (λ (u : Written). u.tally) d.1;
      same_plan = ap (λ (u : Written). u.tally.plan) d.1;
      held = ap (λ (u : Written). u.tally.held) d.1;
      stands = λ es s. subst (λ (u : Written). StandsFor u.tally (es ++ [])) (sym d.1) (subst (StandsFor w.tally) (sym (append-nil es)) s);
      follows = λ start earlier f. subst (Follows start earlier) (sym d.1) (following.holds start earlier w i a f);
    }
one w v (Collected time) is =
    let d = chosen (collect_fault w time) (record w { last = time }) v is in
    let still = collect_open w time d.0 in
    record {
      same_id = ap (λ (u : Written). u.id) d.1;
      same_start = ap (λ (u : Written). u.start) d.1;
      tally = ap (λ (u : Written). u.tally) d.1;
      same_plan = ap (λ (u : Written). u.tally.plan) d.1;
      held = ap (λ (u : Written). u.tally.held) d.1 ∙ sym (append-nil w.tally.held);
      stands = λ es s. subst (λ (u : Written). StandsFor u.tally (es ++ [])) (sym d.1) (subst (StandsFor w.tally) (sym (append-nil es)) s);
      follows = λ start earlier f. following.marked start earlier time false w v still (collect_later w time d.0) (d.1 ∙ (λ i. record w { last = time; closed = still i })) f;
    }
one w v (TakenIn rs) is =
    let d = unclosed w.closed (after_take_in w rs) v is in
    recorded w v (TakenIn rs) rs d.0 (d.1 ∙ ap (λ (t : Tallied). record w { tally = t }) (taken-all w.tally rs)) (sym (taken-all w.tally rs)) refl (λ earlier. refl) refl

-- a change at a held point is one recording
pub held_is_one : (w u : Written) (n : ℕ) (x : ℤ) → after_writer_change w (MeasuredHeld n x) ≡ Some u → (e : Entry) × (held_entry w.tally n x ≡ Some e) × (recorded_by w.tally (MeasuredHeld n x) ≡ e ∷ [])
held_is_one w u n x is = by (held_entry w.tally n x) (now_open w (ByNumber n x) (chosen (fault_now w (ByNumber n x)) (after_record w (ByNumber n x)) u is).0).1
  where
    by : (o : Option Entry) → option_map_or (fault_of w.tally) o (Some tallies.NoHeld) ≡ None → (e : Entry) × (o ≡ Some e) × (option_map_or (λ e. e ∷ []) o [] ≡ e ∷ [])
    by None none = absurd (cc)
    by (Some e) none = (e, refl, refl)

pub may_refuse : {R : Type 0} (w : Written) (r : Recording) (x : Result R measures.MeasureFault) → IfErr x (λ f. f ≢ no_memory → fault_now w r ≡ Some f)
    → IfErr x (λ f. f ≡ no_memory → early_fault w r ≡ None) → (TakesNoMemory w.tally r → IfErr x (λ f. f ≢ no_memory)) → IfErr x (λ f. MayRefuse w r f)
may_refuse w r (Ok x) told short held = tt
may_refuse w r (Err f) told short held = record { told = told; short = short; held = held }

pub may_refuse_hold : {R : Type 0} (w : Written) (i : ℕ) (x : Result R measures.MeasureFault) → IfErr x (λ f. f ≢ no_memory → hold_fault w i ≡ Some f)
    → IfErr x (λ f. f ≡ no_memory → hold_fault w i ≡ None) → IfErr x (λ f. MayRefuseHold w i f)
may_refuse_hold w i (Ok x) told short = tt
may_refuse_hold w i (Err f) told short = record { told = told; short = short }

pub is_round : (w : Written) (time : ℕ) (r : rounds.Collected) → r ≡ round_now w time → IsRound w time r
is_round w time r is = record { starts = ap (λ (x : rounds.Collected). x.start) is; taken_at = ap (λ (x : rounds.Collected). x.time) is; points = ap (λ (x : rounds.Collected). x.points) is }

pub may_refuse_round : {R : Type 0} (w : Written) (time : ℕ) (r : Result R collects.CollectFault) → IfErr r (λ f. f ≢ collect.NoMemory → collect_fault w time ≡ Some f)
    → IfErr r (λ f. f ≡ collect.NoMemory → collect_fault w time ≡ None) → IfErr r (λ f. MayRefuseRound w time f)
may_refuse_round w time (Ok x) told no_memory = tt
may_refuse_round w time (Err f) told no_memory = record { told = told; no_memory = no_memory }

-- ---- a whole history

no_more : (xs : History) (y : Written) → replay after_writer_change None xs ≡ Some y → ⊥
no_more [] y e = none_is y e
no_more (x ∷ xs) y e = no_more xs y e

then_serves : (first next w : Written) (x : ℕ × WriterChange) (xs : History) → Steps first x.1 next → Serves next xs w → Serves first (x ∷ xs) w
then_serves first next w x xs s r = record {
  same_id = r.same_id ∙ s.same_id;
  same_plan = r.same_plan ∙ s.same_plan;
  same_start = r.same_start ∙ s.same_start;
  held = r.held ∙ ap (λ l. l ++ held_in xs) s.held ∙ append_assoc first.tally.held (held_by x.1) (held_in xs);
  stands = λ es h.
      let here : List Entry = recorded_by first.tally x.1 in
      subst (λ (t : Tallied). StandsFor w.tally (es ++ (here ++ entries_of t xs))) s.tally
      (subst (StandsFor w.tally) (append_assoc es here (entries_of next.tally xs)) (r.stands (es ++ here) (s.stands es h)));
  follows = λ start earlier f.
      subst (λ (t : Tallied). Follows start (acts_after t (then_acts first.tally earlier x.1) xs) w) s.tally
      (r.follows start (then_acts first.tally earlier x.1) (s.follows start earlier f));
}

pub serves : (first : Written) (h : History) (w : Written) → IsReplay (λ v. v) after_writer_change first h w → Serves first h w
serves first [] w is = subst (Serves first []) (some_is first w is) (record {
  same_id = refl;
  same_plan = refl;
  same_start = refl;
  held = sym (append-nil first.tally.held);
  stands = λ es h. subst (StandsFor first.tally) (sym (append-nil es)) h;
  follows = λ start earlier f. f;
})
serves first (x ∷ xs) w is = by_next (λ next q. serves next xs w q) (after_writer_change first x.1) refl is
  where
    by_next : ((next : Written) → replay after_writer_change (Some next) xs ≡ Some w → Serves next xs w) → (o : Option Written) → after_writer_change first x.1 ≡ o → replay after_writer_change o xs ≡ Some w → Serves first (x ∷ xs) w
    by_next rest None step q = absurd (no_more xs w q)
    by_next rest (Some next) step q = then_serves first next w x xs (one first next x.1 step) (rest next q)

-- a collection at the end of a history is no recorded entry, and its newest event
entries_before : (t : Tallied) (xs : History) (n time : ℕ) → entries_of t (xs ++ (n, Collected time) ∷ []) ≡ entries_of t xs
entries_before t [] n time = refl
entries_before t (x ∷ xs) n time = ap (λ (l : List Entry). recorded_by t x.1 ++ l) (entries_before (tally_after t x.1) xs n time)

acts_before : (t : Tallied) (earlier : List (Act Entry)) (xs : History) (n time : ℕ) → acts_after t earlier (xs ++ (n, Collected time) ∷ []) ≡ Act.Collected time false ∷ acts_after t earlier xs
acts_before t earlier [] n time = refl
acts_before t earlier (y ∷ ys) n time = acts_before (tally_after t y.1) (then_acts t earlier y.1) ys n time

held-append : (xs ys : History) → held_in (xs ++ ys) ≡ held_in xs ++ held_in ys
held-append [] ys = refl
held-append (x ∷ xs) ys = ap (λ l. held_by x.1 ++ l) (held-append xs ys) ∙ sym (append_assoc (held_by x.1) (held_in xs) (held_in ys))

get-front : {X : Type 0} (xs ys : List X) (n : ℕ) (x : X) → slice_get xs n ≡ Some x → slice_get (xs ++ ys) n ≡ Some x
get-front [] ys n x at = absurd (cc)
get-front (y ∷ xs) ys zero x at = at
get-front (y ∷ xs) ys (suc n) x at = get-front xs ys n x at

-- what a number stands for, it stands for in every longer history
pub stands_on : (first : Written) (h more : History) (n i : ℕ) (a : AttrSet) → StandsIn first h n i a → StandsIn first (h ++ more) n i a
stands_on first h more n i a at =
    ap (λ (l : List (ℕ × AttrSet)). slice_get (first.tally.held ++ l) n) (held-append h more)
    ∙ ap (λ (l : List (ℕ × AttrSet)). slice_get l n) (sym (append_assoc first.tally.held (held_in h) (held_in more)))
    ∙ get-front (first.tally.held ++ held_in h) (held_in more) n (i, a) at

last-is : {A : Type 0} (xs : List A) (x : A) → slice_get (xs ++ x ∷ []) (length xs) ≡ Some x
last-is [] x = refl
last-is (y ∷ xs) x = last-is xs x

-- ---- what the calls answer

module _ {G : Type 0} {g : _} (shared : SharedWriter G) (s t : Seat Written WriterChange g) where
  adding : (c : WriterChange) (replied : Written → Type 0) → Accepts shared c replied s t → Adds shared c s t
  adding c replied h = record {
    before = h.before;
    ends = h.ends;
    old = h.machine;
    new = h.after;
    served = serves (first_of shared) h.before h.machine h.replays;
    serves = serves (first_of shared) (seen t) h.after h.accepted;
  }

  pub adds : {R F : Type 0} (c : WriterChange) (replied : R → Written → Type 0) (r : Result R F) → IfOk r (λ a. Accepts shared c (replied a) s t) → IfOk r (λ a. Adds shared c s t)
  adds c replied (Ok a) h = adding c (replied a) h
  adds c replied (Err f) h = tt

  numbered : (n i : ℕ) (a : AttrSet) → Accepts shared (Held i a) (λ w. n ≡ length w.tally.held) s t → StandsForSet shared n i a t
  numbered n i a h =
      let first : List (ℕ × AttrSet) = (first_of shared).tally.held in
      let old : List (ℕ × AttrSet) = h.machine.tally.held in
      let was = serves (first_of shared) h.before h.machine h.replays in
      let all : first ++ held_in (seen t) ≡ old ++ (i, a) ∷ [] =
      ap (λ (l : History). first ++ held_in l) h.ends
      ∙ ap (λ (l : List (ℕ × AttrSet)). first ++ l) (held-append h.before ((number s, Held i a) ∷ []))
      ∙ sym (append_assoc first (held_in h.before) ((i, a) ∷ []))
      ∙ ap (λ (l : List (ℕ × AttrSet)). l ++ (i, a) ∷ []) (sym was.held) in
      subst (λ (m : ℕ). slice_get (first ++ held_in (seen t)) m ≡ Some (i, a)) (sym h.reply) (ap (λ (l : List (ℕ × AttrSet)). slice_get l (length old)) all ∙ last-is old (i, a))

  pub number_stands : {F : Type 0} (i : ℕ) (a : AttrSet) (r : Result ℕ F) → IfOk r (λ n. Accepts shared (Held i a) (λ w. n ≡ length w.tally.held) s t) → IfOk r (λ n. StandsForSet shared n i a t)
  number_stands i a (Ok n) h = numbered n i a h
  number_stands i a (Err f) h = tt

  has_all : (time : ℕ) (r : rounds.Collected) → Accepts shared (Collected time) (λ w. IsRound w time r) s t → HasAllMeasured shared time r t
  has_all time r h es standing =
      let p : Planned = (first_of shared).tally.plan in
      let t0 : Tallied = (first_of shared).tally in
      let was = serves (first_of shared) h.before h.machine h.replays in
      let whole = h.reply in
      let starts : r.start ≡ (first_of shared).start = whole.starts ∙ was.same_start in
      let entries : entries_of t0 h.before ≡ entries_of t0 (seen t) = sym (ap (entries_of t0) h.ends ∙ entries_before t0 h.before (number s) time) in
      let points : r.points ≡ points_of p.streams (round p (es ++ entries_of t0 (seen t))) =
      whole.points
      ∙ ap (points_of h.machine.tally.plan.streams) (was.stands es standing)
      ∙ ap (λ (q : Planned). points_of q.streams (round q (es ++ entries_of t0 h.before))) was.same_plan
      ∙ ap (λ (l : List Entry). points_of p.streams (round p (es ++ l))) entries in
      λ i. record { start = starts i; time = whole.taken_at i; points = points i }

  pub all_measured : {F : Type 0} (time : ℕ) (r : Result rounds.Collected F) → IfOk r (λ r. Accepts shared (Collected time) (λ w. IsRound w time r) s t) → IfOk r (λ r. HasAllMeasured shared time r t)
  all_measured time (Ok r) h = has_all time r h
  all_measured time (Err f) h = tt

  is_newest : (time : ℕ) (r : rounds.Collected) → Accepts shared (Collected time) (λ w. IsRound w time r) s t → IsNewest shared r t
  is_newest time r h start earlier f =
      let t0 : Tallied = (first_of shared).tally in
      let was = serves (first_of shared) h.before h.machine h.replays in
      let so_far : List (Act Entry) = acts_after t0 earlier h.before in (
        collection_after start so_far time,
        collections start so_far,
        ap (collections start) (ap (acts_after t0 earlier) h.ends ∙ acts_before t0 earlier h.before (number s) time),
        following.collects start so_far time h.machine r h.reply.starts h.reply.taken_at h.reply.points (was.follows start earlier f)
            ∙ ap (λ (q : Planned). round_of q (collection_after start so_far time)) was.same_plan,
      )

  pub newest : {F : Type 0} (time : ℕ) (r : Result rounds.Collected F) → IfOk r (λ r. Accepts shared (Collected time) (λ w. IsRound w time r) s t) → IfOk r (λ r. IsNewest shared r t)
  newest time (Ok r) h = is_newest time r h
  newest time (Err f) h = tt

  pub sees : (answered : Written → Type 0) → LooksAt shared answered s t → Sees shared answered t
  sees answered h = record { found = h.machine; serves = serves (first_of shared) (seen t) h.machine h.replays; answer = h.answer }

  pub answers : {R F : Type 0} (answered : R → Written → Type 0) (r : Result R F) → IfOk r (λ a. LooksAt shared (answered a) s t) → IfOk r (λ a. Sees shared (answered a) t)
  answers answered (Ok a) h = sees (answered a) h
  answers answered (Err f) h = tt

pub closes : {G : Type 0} {g : _} (shared : SharedWriter G) (s : Seat Written WriterChange g) (w : Written) → Closes (λ v. v) after_writer_change (first_of shared) s w → (c : Closes (λ v. v) after_writer_change (first_of shared) s w) × Serves (first_of shared) c.history w
closes shared s w c = (c, serves (first_of shared) c.history w c.replays)
