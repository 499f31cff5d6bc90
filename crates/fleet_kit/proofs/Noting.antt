-- What a seat has recorded once its writer took in what was noted, and why it takes not all in.
use Rattle.std.proofs.Common.{◌≡◌, ◌∙◌, ℕ, zero, suc, ◌+◌, ◌-◌, ◌<◌, ◌≤◌, Bool, true, false, true≢false, cond, is_none, arith, List, [], ◌∷◌, ◌++◌, append_assoc, append-nil, length, length-append, take, fold, slice_get, Option, None, Some, ◌⊎◌, inl, inr, refl, sym, ap, subst}
use Rattle.std.proofs.Math.Seq.{take-length}
use Rattle.std.proofs.lemmas.List.{length-drop, length-map}
use Rattle.std.specs.Prelude.{not, Result, Ok, Err, IfErr, IfSome}
use Rattle.std.specs.Option.{option_map_or}
use Rattle.agg_kit.proofs.Refusals.{first_refusal-is}
use Rattle.agg_kit.specs.Entries.{Entry, entry_of}
use Rattle.agg_kit.specs.Measuring.{after_measure, fault_of}
use Rattle.agg_kit.specs.Refusals.{first_refusal}
use Rattle.agg_kit.specs.Tallies.{Tallied}
use Rattle.agg_kit.specs.declared.fault.TallyFault.{TallyFault}
use Rattle.plan_kit.specs.Plans.{Planned}
use Rattle.recorder_kit.specs.Log.{Logged, Outcome, Recording, ByName, ByNumber, after_at, fault_at, nothing_taken, or_first, taken_in, taken_one}
use Rattle.recorder_kit.specs.declared.taken.Taken.{Taken}
use Rattle.schedule_kit.proofs.Totals.{count_sum, total-append}
use Rattle.schedule_kit.specs.Schedule.{Act, AreAccepted, is_open, running}
use Rattle.schedule_kit.specs.Totals.{total}
use Rattle.turn_kit.specs.declared.fault.SplitFault.{SplitFault}
use Rattle.turn_kit.specs.declared.fault.SplitFault.TheVariants.{SeatsFull, Busy as Busy'}
use Rattle.turn_kit.specs.declared.fault.ChangeFault.{ChangeFault}
use Rattle.turn_kit.specs.declared.fault.ChangeFault.TheVariants.{Busy, Exhausted, Refused}
use Rattle.turn_kit.specs.declared.seat.Seat.{Seat}
use Rattle.turn_kit.specs.History.{by, replay, then_next, IsReplay, StartsWith}
use Rattle.turn_kit.specs.Public.{made, mine, number, seen, AtBusy, AtExhausted, AtRefused, AtSeatsFull, AtSplitBusy, IsFull, Joins}
use Rattle.writer_kit.specs.declared.fault.Closed.{Closed}
use Rattle.writer_kit.proofs.Following.{runs}
use Rattle.writer_kit.proofs.Recorded.{all-follow, all-plan, is-accepted, is-after, tally_with}
use Rattle.writer_kit.proofs.Sharing.{serves}
use Rattle.writer_kit.specs.Following.{Follows, fits, measured_after}
use Rattle.writer_kit.specs.Recorded.{entries_at, recorded_of, then_recorded}
use Rattle.writer_kit.specs.Recording.{after_hold, after_record, after_take_in}
use Rattle.writer_kit.specs.Refusals.{collect_fault, fault_now, hold_fault}
use Rattle.writer_kit.specs.Shared.{History, Accepts, IsExhausted, IsRefused, acts_after, after_writer_change, entries_of, first_of, most_of, recorded_by, tally_after, then_acts}
use Rattle.writer_kit.specs.Taking.{IsTaken, gone}
use Rattle.writer_kit.specs.Written.{Written}
use Rattle.writer_kit.specs.declared.shared.change.WriterChange.{WriterChange}
use Rattle.writer_kit.specs.declared.shared.change.WriterChange.TheVariants.{Measured, MeasuredHeld, Held, Collected, TakenIn}
use Rattle.writer_kit.specs.declared.shared.writer.SharedWriter.{SharedWriter}
use Rattle.fleet_kit.specs.Ends.{HasRecorded, HasRefused}
use Rattle.fleet_kit.specs.Jobs.{noted}
use Rattle.fleet_kit.specs.Noting.{recorded_by_seat, BeganNew, RecordsPart, TellsRoom}
use Rattle.fleet_kit.specs.Halts.{IsFirst}
use Rattle.fleet_kit.specs.declared.halt.Halt.{Halt}
use Rattle.fleet_kit.specs.Recorded.{recorded_at}
use Rattle.fleet_kit.proofs.Recorded.{and_others, by-own, one_recorded, stays, tally_of}

-- ---- recordings by name, one after the other

step-recorded : (t : Tallied) (e : Entry) (es : List Entry) → fault_of t e ≡ None → recorded_of t (noted (e ∷ es)) ≡ e ∷ recorded_of (after_measure t e) (noted es)
step-recorded t e es none =
    ap (λ (l : List Entry). l ++ recorded_of (then_recorded t (ByName e)) (noted es)) (is-accepted t (ByName e) none)
    ∙ ap (λ (u : Tallied). e ∷ recorded_of u (noted es)) (is-after t (ByName e) none)

step-with : (t : Tallied) (e : Entry) (es : List Entry) → fault_of t e ≡ None → tally_with t (noted (e ∷ es)) ≡ tally_with (after_measure t e) (noted es)
step-with t e es none = ap (λ (u : Tallied). tally_with u (noted es)) (is-after t (ByName e) none)

abbrev refused_one : Outcome → TallyFault → Outcome
refused_one o f = record o { refused = o.refused + 1; first = or_first o.first (o.recorded + o.refused, f) }

abbrev taken_more : Outcome → Entry → Outcome
taken_more o e = record o { tally = after_measure o.tally e; recorded = o.recorded + 1 }

one_taken : (o : Outcome) (e : Entry) (m : Option TallyFault) → fault_of o.tally e ≡ m → taken_one o (ByName e) ≡ option_map_or (refused_one o) m (taken_more o e)
one_taken o e m is = ap (λ (m : Option TallyFault). option_map_or (refused_one o) m (taken_more o e)) is

-- what was refused first stays so
first_stays : (o : Outcome) (rs : List Recording) (x : ℕ × TallyFault) → o.first ≡ Some x → (fold taken_one o rs).first ≡ Some x
first_stays o [] x is = is
first_stays o (r ∷ rs) x is = first_stays (taken_one o r) rs x (at (fault_at o.tally r))
  where
    at : (m : Option TallyFault) → (option_map_or (refused_one o) m (record o { tally = after_at o.tally r; recorded = o.recorded + 1 })).first ≡ Some x
    at None = is
    at (Some f) = ap (λ (q : Option (ℕ × TallyFault)). or_first q (o.recorded + o.refused, f)) is

some_none : {A : Type 0} (x : A) → Some x ≡ None → ⊥
some_none x e = cc e

none_some : {A : Type 0} (x : A) → None ≡ Some x → ⊥
none_some x e = cc e

-- where none was refused, all were recorded
all_taken : (o : Outcome) (es : List Entry) → o.first ≡ None → (fold taken_one o (noted es)).first ≡ None → recorded_of o.tally (noted es) ≡ es
all_taken o [] a b = refl
all_taken o (e ∷ es) a b = at (fault_of o.tally e) refl (λ c. all_taken (taken_more o e) es a c)
  where
    at : (m : Option TallyFault) → fault_of o.tally e ≡ m → ((fold taken_one (taken_more o e) (noted es)).first ≡ None → recorded_of (after_measure o.tally e) (noted es) ≡ es) → recorded_of o.tally (noted (e ∷ es)) ≡ e ∷ es
    at None is rest =
        step-recorded o.tally e es is
        ∙ ap (λ (l : List Entry). e ∷ l) (rest (subst (λ (p : Outcome). (fold taken_one p (noted es)).first ≡ None) (one_taken o e None is) b))
    at (Some f) is rest =
        let p = subst (λ (p : Outcome). (fold taken_one p (noted es)).first ≡ None) (one_taken o e (Some f) is) b in
        let q = first_stays (refused_one o f) (noted es) (o.recorded + o.refused, f) (ap (λ (q : Option (ℕ × TallyFault)). or_first q (o.recorded + o.refused, f)) a) in
        absurd (some_none (o.recorded + o.refused, f) (sym q ∙ p))

-- the entry that was refused first, behind some that were recorded
pub record IsFirstRefused (t : Tallied) (es : List Entry) (q : ℕ) (f : TallyFault) : Type 0 where
  pub e : Entry
  pub at : slice_get es q ≡ Some e
  pub before : recorded_of t (noted (take q es)) ≡ take q es
  pub fault : fault_of (tally_with t (noted (take q es))) e ≡ Some f

place_in : Option (ℕ × TallyFault) → ℕ
place_in None = 0
place_in (Some x) = x.0

why_in : TallyFault → Option (ℕ × TallyFault) → TallyFault
why_in f None = f
why_in f (Some x) = x.1

same_first : (p q : ℕ) (f g : TallyFault) → ◌≡◌ {A = Option (ℕ × TallyFault)} (Some (p, f)) (Some (q, g)) → (p ≡ q) × (f ≡ g)
unfolding place_in why_in
same_first p q f g e = (ap place_in e, ap (why_in f) e)

first_refused : (o : Outcome) (es : List Entry) (p : ℕ) (f : TallyFault) → o.first ≡ None → (fold taken_one o (noted es)).first ≡ Some (p, f) → (q : ℕ) × (p ≡ (o.recorded + o.refused) + q) × IsFirstRefused o.tally es q f
first_refused o [] p f a b = absurd (some_none (p, f) (sym b ∙ a))
first_refused o (e ∷ es) p f a b = at (fault_of o.tally e) refl (λ c. first_refused (taken_more o e) es p f a c)
  where
    at : (m : Option TallyFault) → fault_of o.tally e ≡ m
        → ((fold taken_one (taken_more o e) (noted es)).first ≡ Some (p, f) → (q : ℕ) × (p ≡ ((o.recorded + 1) + o.refused) + q) × IsFirstRefused (after_measure o.tally e) es q f)
        → (q : ℕ) × (p ≡ (o.recorded + o.refused) + q) × IsFirstRefused o.tally (e ∷ es) q f
    at None is rest =
        let r = rest (subst (λ (x : Outcome). (fold taken_one x (noted es)).first ≡ Some (p, f)) (one_taken o e None is) b) in
        let q : ℕ = r.0 in
        let i = r.2 in
        let place : p ≡ ((o.recorded + 1) + o.refused) + q = r.1 in (
          suc q,
          omega (arith, place),
          record {
            e = i.e;
            at = i.at;
            before = step-recorded o.tally e (take q es) is ∙ ap (λ (l : List Entry). e ∷ l) i.before;
            fault = ap (λ (t : Tallied). fault_of t i.e) (step-with o.tally e (take q es) is) ∙ i.fault;
          },
        )
    at (Some g) is rest =
        let x = subst (λ (x : Outcome). (fold taken_one x (noted es)).first ≡ Some (p, f)) (one_taken o e (Some g) is) b in
        let y = first_stays (refused_one o g) (noted es) (o.recorded + o.refused, g) (ap (λ (q : Option (ℕ × TallyFault)). or_first q (o.recorded + o.refused, g)) a) in
        let same = same_first (o.recorded + o.refused) p g f (sym y ∙ x) in
        let place = same.0 in (0, omega (arith, place), record { e = e; at = refl; before = refl; fault = is ∙ ap (λ (z : TallyFault). Some z) same.1 })

some_left : {A : Type 0} (xs : List A) → (xs ≡ [] → ⊥) → 0 < length xs
some_left [] left = absurd (left refl)
some_left (x ∷ xs) left = omega arith

take_noted : (m : ℕ) (es : List Entry) → take m (noted es) ≡ noted (take m es)
take_noted zero es = refl
take_noted (suc m) [] = refl
take_noted (suc m) (e ∷ es) = ap (λ (l : List Recording). ByName e ∷ l) (take_noted m es)

-- what stands in a front
pub in_front : {A : Type 0} (m q : ℕ) (xs : List A) (x : A) → slice_get (take m xs) q ≡ Some x → (slice_get xs q ≡ Some x) × (take q (take m xs) ≡ take q xs)
in_front zero q xs x e = absurd (none_some x e)
in_front (suc m) q [] x e = absurd (none_some x e)
in_front (suc m) zero (y ∷ xs) x e = (e, refl)
in_front (suc m) (suc q) (y ∷ xs) x e = let r = in_front m q xs x e in (r.0, ap (λ l. y ∷ l) r.1)

-- ---- histories

some_same : (a b : Written) → Some a ≡ Some b → a ≡ b
some_same a b e = cc e

chosen : (b : Bool) (x y : Written) → cond b (Some x) None ≡ Some y → y ≡ x
chosen true x y e = sym (some_same x y e)
chosen false x y e = absurd (none_some y e)

unclosed : (b : Bool) (x y : Written) → cond b None (Some x) ≡ Some y → (b ≡ false) × (y ≡ x)
unclosed true x y e = absurd (none_some y e)
unclosed false x y e = (refl, sym (some_same x y e))

tally_one : (w v : Written) (c : WriterChange) → after_writer_change w c ≡ Some v → v.tally ≡ tally_after w.tally c
tally_one w v (Measured i a x) is = ap (λ (u : Written). u.tally) (chosen (is_none (fault_now w (ByName (entry_of i a x)))) (after_record w (ByName (entry_of i a x))) v is)
tally_one w v (MeasuredHeld n x) is = ap (λ (u : Written). u.tally) (chosen (is_none (fault_now w (ByNumber n x))) (after_record w (ByNumber n x)) v is)
tally_one w v (Held i a) is = ap (λ (u : Written). u.tally) (chosen (is_none (hold_fault w i)) (after_hold w i a) v is)
tally_one w v (Collected time) is = ap (λ (u : Written). u.tally) (chosen (is_none (collect_fault w time)) (record w { last = time }) v is)
tally_one w v (TakenIn rs) is = ap (λ (u : Written). u.tally) (unclosed w.closed (after_take_in w rs) v is).1

stuck : (h : History) (w : Written) → replay after_writer_change None h ≡ Some w → ⊥
stuck [] w e = none_some w e
stuck (x ∷ xs) w e = stuck xs w e

-- the tally that a history leaves
tallies : (first : Written) (h : History) (w : Written) → replay after_writer_change (Some first) h ≡ Some w → w.tally ≡ tally_of first.tally h
tallies first [] w e = ap (λ (u : Written). u.tally) (sym (some_same first w e))
tallies first (x ∷ xs) w e = at (after_writer_change first x.1) refl (λ v. tallies v xs w) e
  where
    at : (o : Option Written) → after_writer_change first x.1 ≡ o → ((v : Written) → replay after_writer_change (Some v) xs ≡ Some w → w.tally ≡ tally_of v.tally xs) → replay after_writer_change o xs ≡ Some w
        → w.tally ≡ tally_of (tally_after first.tally x.1) xs
    at None is rest e = absurd (stuck xs w e)
    at (Some v) is rest e = rest v e ∙ ap (λ (t : Tallied). tally_of t xs) (tally_one first v x.1 is)

replay-append : (s : Option Written) (xs ys : History) → replay after_writer_change s (xs ++ ys) ≡ replay after_writer_change (replay after_writer_change s xs) ys
replay-append s [] ys = refl
replay-append s (x ∷ xs) ys = replay-append (then_next after_writer_change s x.1) xs ys

measured-running : (start : ℕ) (acts : List (Act Entry)) (es : List Entry) → running start (measured_after acts es) ≡ running start acts ++ es
measured-running start acts [] = sym (append-nil (running start acts))
measured-running start acts (e ∷ es) =
    measured-running start (Act.Measured e ∷ acts) es
    ∙ ap (λ (l : List Entry). l ++ es) (runs start acts e)
    ∙ append_assoc (running start acts) (e ∷ []) es

then-running : (start : ℕ) (t : Tallied) (earlier : List (Act Entry)) (c : WriterChange) → running start (then_acts t earlier c) ≡ running start earlier ++ recorded_by t c
then-running start t earlier (Measured i a v) = runs start earlier (entry_of i a v)
then-running start t earlier (MeasuredHeld n v) = measured-running start earlier (entries_at t (ByNumber n v))
then-running start t earlier (Held i a) = sym (append-nil (running start earlier))
then-running start t earlier (Collected time) = sym (append-nil (running start earlier))
then-running start t earlier (TakenIn rs) = measured-running start earlier (recorded_of t rs)

after-running : (start : ℕ) (t : Tallied) (earlier : List (Act Entry)) (h : History) → running start (acts_after t earlier h) ≡ running start earlier ++ entries_of t h
after-running start t earlier [] = sym (append-nil (running start earlier))
after-running start t earlier (x ∷ xs) =
    after-running start (tally_after t x.1) (then_acts t earlier x.1) xs
    ∙ ap (λ (l : List Entry). l ++ entries_of (tally_after t x.1) xs) (then-running start t earlier x.1)
    ∙ append_assoc (running start earlier) (recorded_by t x.1) (entries_of (tally_after t x.1) xs)

-- ---- what a seat recorded, in its writer's schedule

module _ (first : Written) (new : Follows first.start [] first) where
  -- of a legal history
  pub has_recorded : (h : History) (w : Written) → IsReplay (λ v. v) after_writer_change first h w → (n : ℕ) → HasRecorded first.tally.plan first.start (recorded_at first.tally h n)
  has_recorded h w is n =
      let s = serves first h w is in
      let others = and_others first.tally h n in
      record {
        acts = acts_after first.tally [] h;
        accepted = subst (λ (p : Planned). AreAccepted (fits p) first.start (acts_after first.tally [] h)) s.same_plan (s.follows first.start [] new).accepted;
        others = others.0;
        among = λ f. ap (total 0 ◌+◌ f) (after-running first.start first.tally [] h) ∙ others.1 f;
      }

  -- of one that goes on with entries that were noted, up to one that is refused
  pub has_refused : (h : History) (w : Written) → IsReplay (λ v. v) after_writer_change first h w → w.closed ≡ false → (n : ℕ) (es : List Entry) (q : ℕ) (f : TallyFault) → (r : IsFirstRefused w.tally es q f)
      → HasRefused first.tally.plan first.start (recorded_at first.tally h n ++ take q es) r.e
  has_refused h w is open_ n es q f r =
      let s = serves first h w is in
      let t : Tallied = tally_with w.tally (noted (take q es)) in
      let acts : List (Act Entry) = measured_after (acts_after first.tally [] h) (recorded_of w.tally (noted (take q es))) in
      let follows : Follows first.start acts (record w { tally = t }) = all-follow first.start (acts_after first.tally [] h) w (noted (take q es)) open_ (s.follows first.start [] new) in
      let plan : t.plan ≡ first.tally.plan = all-plan w.tally (noted (take q es)) ∙ s.same_plan in
      let others = and_others first.tally h n in
      let all : running first.start acts ≡ entries_of first.tally h ++ take q es =
      measured-running first.start (acts_after first.tally [] h) (recorded_of w.tally (noted (take q es)))
      ∙ ap (λ (l : List Entry). l ++ recorded_of w.tally (noted (take q es))) (after-running first.start first.tally [] h)
      ∙ ap (λ (l : List Entry). entries_of first.tally h ++ l) r.before in
      record {
        recorded = record {
          acts = acts;
          accepted = subst (λ (p : Planned). AreAccepted (fits p) first.start acts) plan follows.accepted;
          others = others.0;
          among = λ f.
              let own = recorded_at first.tally h n in
              let a = ap (total 0 ◌+◌ f) all in
              let b = total-append 0 ◌+◌ count_sum f (entries_of first.tally h) (take q es) in
              let c = others.1 f in
              let d = total-append 0 ◌+◌ count_sum f own others.0 in
              let e = total-append 0 ◌+◌ count_sum f (own ++ take q es) others.0 in
              let g = total-append 0 ◌+◌ count_sum f own (take q es) in
              omega (arith, a, b, c, d, e, g);
        };
        refused = ap is_none (ap (λ (p : Planned). first_refusal p (running first.start acts) r.e) (sym plan) ∙ sym (first_refusal-is t (running first.start acts) r.e follows.points) ∙ r.fault);
      }

-- ---- a log that was taken in

take_whole : {A : Type 0} (xs ys : List A) → ys ≡ [] → take (length xs - length ys) xs ≡ xs
take_whole xs ys e = let z = ap length e in let k : length xs - length ys ≡ length xs = omega (arith, z) in ap (λ m. take m xs) k ∙ take-length xs

module _ {G : Type 0} {g : _} (shared : SharedWriter G) (s t : Seat Written WriterChange g) (r r' : Logged) (most : ℕ) (k : Taken) where
  module _ (own : by (number s) (seen s) ≡ mine s) (h : Accepts shared (TakenIn (gone r r')) (λ w. IsTaken w r r' most k) s t) where
    abbrev T : Tallied
    T = (first_of shared).tally

    same_before : recorded_at T h.before (number s) ≡ recorded_by_seat shared s
    same_before =
        let n : ℕ = number s in
        let c : WriterChange = TakenIn (gone r r') in
        let all : by n h.before ++ c ∷ [] ≡ mine s ++ c ∷ [] =
        sym (by-own n h.before c) ∙ ap (by n) (sym h.ends) ∙ ap (λ (m : ℕ). by m (seen t)) (sym h.same.same_number) ∙ h.own ∙ h.gains in
        let a = ap length all in
        let b : length (by n h.before ++ c ∷ []) ≡ length (by n h.before) + 1 = length-append (by n h.before) (c ∷ []) in
        let d : length (mine s ++ c ∷ []) ≡ length (mine s) + 1 = length-append (mine s) (c ∷ []) in
        let e = ap length own in
        stays T (seen s) h.before n h.begins (omega (arith, a, b, d, e))

    now_recorded : recorded_by_seat shared t ≡ recorded_by_seat shared s ++ recorded_of h.machine.tally (gone r r')
    now_recorded =
        ap (recorded_at T (seen t)) h.same.same_number
        ∙ ap (λ (l : History). recorded_at T l (number s)) h.ends
        ∙ one_recorded T h.before (number s) (TakenIn (gone r r'))
        ∙ ap (λ (u : Tallied). recorded_at T h.before (number s) ++ recorded_of u (gone r r')) (sym (tallies (first_of shared) h.before h.machine h.replays))
        ∙ ap (λ (l : List Entry). l ++ recorded_of h.machine.tally (gone r r')) same_before

    first_told : (taken_in h.machine.tally (gone r r')).first ≡ k.first
    first_told = sym (ap (λ (o : Outcome). o.first) h.reply.told)

    pub takes_all : k.first ≡ None → r'.log ≡ [] → (es : List Entry) → r.log ≡ noted es → recorded_by_seat shared t ≡ recorded_by_seat shared s ++ es
    takes_all none empty es is =
        let whole : gone r r' ≡ noted es = take_whole r.log r'.log empty ∙ is in
        let told : (taken_in h.machine.tally (noted es)).first ≡ None = ap (λ (l : List Recording). (taken_in h.machine.tally l).first) (sym whole) ∙ first_told ∙ none in
        now_recorded ∙ ap (λ (l : List Entry). recorded_by_seat shared s ++ l) (ap (recorded_of h.machine.tally) whole ∙ all_taken (nothing_taken h.machine.tally) es refl told)

    pub takes_part : k.first ≡ None → (r'.log ≡ [] → ⊥) → (es : List Entry) → r.log ≡ noted es → RecordsPart shared es s t
    takes_part none left es is =
        let m : ℕ = length r.log - length r'.log in
        let part : gone r r' ≡ noted (take m es) = ap (take m) is ∙ take_noted m es in
        let told : (taken_in h.machine.tally (noted (take m es))).first ≡ None = ap (λ (l : List Recording). (taken_in h.machine.tally l).first) (sym part) ∙ first_told ∙ none in
        let some = some_left r'.log left in
        let long = ap (λ (l : List Recording). length l) is ∙ length-map es (λ (e : Entry). ByName e) in
        let rest = ap (λ (l : Logged). length l.log) h.reply.rest ∙ length-drop (k.recorded + k.refused) r.log in
        let less : m < length es = omega (arith, some, long, rest) in (
          m,
          less,
          now_recorded ∙ ap (λ (l : List Entry). recorded_by_seat shared s ++ l) (ap (recorded_of h.machine.tally) part ∙ all_taken (nothing_taken h.machine.tally) (take m es) refl told),
        )

    pub now_has_recorded : BeganNew shared → HasRecorded T.plan (first_of shared).start (recorded_by_seat shared t)
    now_has_recorded new = has_recorded (first_of shared) new (seen t) h.after h.accepted (number t)

    still_open : h.machine.closed ≡ false
    still_open =
        let c : WriterChange = TakenIn (gone r r') in
        let next : after_writer_change h.machine c ≡ Some h.after =
        ap (λ (o : Option Written). then_next after_writer_change o c) (sym h.replays)
        ∙ sym (replay-append (Some (first_of shared)) h.before ((number s, c) ∷ []))
        ∙ ap (replay after_writer_change (Some (first_of shared))) (sym h.ends)
        ∙ h.accepted in
        (unclosed h.machine.closed (after_take_in h.machine (gone r r')) h.after next).0

    pub takes_not : BeganNew shared → (p : ℕ) (f : TallyFault) → k.first ≡ Some (p, f) → (es : List Entry) → r.log ≡ noted es
        → (e : Entry) × (slice_get es p ≡ Some e) × HasRefused T.plan (first_of shared).start (recorded_by_seat shared s ++ take p es) e
    takes_not new p f some es is =
        let m : ℕ = length r.log - length r'.log in
        let part : gone r r' ≡ noted (take m es) = ap (take m) is ∙ take_noted m es in
        let told : (taken_in h.machine.tally (noted (take m es))).first ≡ Some (p, f) = ap (λ (l : List Recording). (taken_in h.machine.tally l).first) (sym part) ∙ first_told ∙ some in
        let d = first_refused (nothing_taken h.machine.tally) (take m es) p f refl told in
        let place : p ≡ d.0 = (let i = d.1 in omega (arith, i)) in
        let i = d.2 in
        let front = in_front m d.0 es i.e i.at in
        let refuses = has_refused (first_of shared) new h.before h.machine h.replays still_open (number s) (take m es) d.0 f i in (
          i.e,
          ap (slice_get es) place ∙ front.0,
          subst (λ (l : List Entry). HasRefused T.plan (first_of shared).start l i.e)
              (ap (λ (l : List Entry). l ++ take d.0 (take m es)) same_before ∙ ap (λ (l : List Entry). recorded_by_seat shared s ++ l) (front.1 ∙ ap (λ (q : ℕ). take q es) (sym place))) refuses,
        )

-- ---- a log that was not taken in

measured-open : (acts : List (Act Entry)) (es : List Entry) → is_open (measured_after acts es) ≡ is_open acts
measured-open acts [] = refl
measured-open acts (e ∷ es) = measured-open (Act.Measured e ∷ acts) es

then-open : (t : Tallied) (earlier : List (Act Entry)) (c : WriterChange) → is_open (then_acts t earlier c) ≡ is_open earlier
then-open t earlier (Measured i a v) = refl
then-open t earlier (MeasuredHeld n v) = measured-open earlier (entries_at t (ByNumber n v))
then-open t earlier (Held i a) = refl
then-open t earlier (Collected time) = refl
then-open t earlier (TakenIn rs) = measured-open earlier (recorded_of t rs)

-- no change shuts a writer
after-open : (t : Tallied) (earlier : List (Act Entry)) (h : History) → is_open (acts_after t earlier h) ≡ is_open earlier
after-open t earlier [] = refl
after-open t earlier (x ∷ xs) = after-open (tally_after t x.1) (then_acts t earlier x.1) xs ∙ then-open t earlier x.1

not_closed : (first : Written) → Follows first.start [] first → (h : History) (w : Written) → IsReplay (λ v. v) after_writer_change first h w → w.closed ≡ true → ⊥
not_closed first new h w is shut =
    let f = (serves first h w is).follows first.start [] new in
    true≢false (sym (after-open first.tally [] h) ∙ sym f.opened ∙ ap not shut)

-- it is not where the history is full
pub full_history : {A G : Type 0} {g : _} (shared : SharedWriter G) (s t : Seat Written WriterChange g) (r : Result A (ChangeFault Closed)) → BeganNew shared → ((a : A) → r ≡ Ok a → ⊥) → IfErr r (AtBusy ⊥)
    → IfErr r (AtExhausted (IsExhausted shared s t)) → IfErr r (AtRefused (λ f. IsRefused shared (λ w. w.closed ≡ true) s t)) → most_of shared ≤ length (seen t)
full_history shared s t (Ok a) new not_ok busy full shut = absurd (not_ok a refl)
full_history shared s t (Err Busy) new not_ok busy full shut = absurd busy
full_history shared s t (Err Exhausted) new not_ok busy full shut = let e = full.1 in omega (arith, e)
full_history shared s t (Err (Refused f)) new not_ok busy full shut = absurd (not_closed (first_of shared) new (seen t) shut.0.machine shut.0.replays shut.0.answer)

pub ok_err : {A E : Type 0} (r : Result A E) (a : A) (f : E) → r ≡ Err f → r ≡ Ok a → ⊥
ok_err (Ok b) a f e o = cc e
ok_err (Err b) a f e o = cc o

-- a seat could not be split off where the turn has no more
pub split_full : {A : Type 0} {g : _} (s t : Seat Written WriterChange g) (r : Result A SplitFault) → ((a : A) → r ≡ Ok a → ⊥) → IfErr r (AtSplitBusy ⊥) → IfErr r (AtSeatsFull (IsFull s t)) → made t ≡ 4096
split_full s t (Ok a) not_ok busy full = absurd (not_ok a refl)
split_full s t (Err Busy') not_ok busy full = absurd busy
split_full s t (Err SeatsFull) not_ok busy full = full.full

-- what is begun with is no longer
begins_less : {A : Type 0} (now saw : List A) → StartsWith now saw → length saw ≤ length now
begins_less now saw b = let e = ap length b.1 in let sum = length-append saw b.0 in omega (arith, e, sum)

-- the first of two reasons tells of the history that both seats have seen
pub joined_tells : {G : Type 0} {g : _} (shared : SharedWriter G) (s s' u : Seat Written WriterChange g) (old fault told : Option Halt) → IsFirst (λ h. (old ≡ Some h) ⊎ (fault ≡ Some h)) told → Joins s s' u
    → IfSome old (TellsRoom shared s) → IfSome fault (TellsRoom shared u) → IfSome told (TellsRoom shared s')
joined_tells shared s s' u old fault None first joins a b = tt
joined_tells shared s s' u old fault (Some h) first joins a b = λ e. elim first.0 [
  | inl is ↦ let less = begins_less (seen s') (seen s) joins.begins in let full = subst (λ o. IfSome o (TellsRoom shared s)) is a e in omega (arith, less, full)
  | inr is ↦ let less = begins_less (seen s') (seen u) joins.brought in let full = subst (λ o. IfSome o (TellsRoom shared u)) is b e in omega (arith, less, full)
]
