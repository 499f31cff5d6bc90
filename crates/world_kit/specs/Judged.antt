-- Which events are accepted, and what is replied.
use Rattle.std.specs.Prelude.{ℕ, ◌+◌, Bool, true, false, ◌&&◌, ◌==◌, if◌then◌else◌, nat_lt, List, [], ◌∷◌, length, fold, is_none, Option, None, Some, Result, Ok, Err}
use Rattle.std.specs.Option.{option_and_then}
use Rattle.agg_kit.specs.declared.fault.TallyFault.{TallyFault}
use Rattle.agg_kit.specs.declared.fault.TallyFault.TheVariants as faults
use Rattle.agg_kit.specs.Entries.{Entry}
use Rattle.agg_kit.specs.Refusals.{first_refusal}
use Rattle.gossip_kit.specs.Gossip.{last_number}
use Rattle.point_kit.specs.Exports.{changed_points}
use Rattle.schedule_kit.specs.Deeds.{Deed, acts_of, made, mails, mail_of, is_to}
use Rattle.schedule_kit.specs.Deeds.Deed.{Wrote, Delivered, Merged, Sent, Handed}
use Rattle.schedule_kit.specs.Deeds.Holder.{AtGateway}
use Rattle.schedule_kit.specs.Schedule.{Act, start_of, last_of, is_open, running}
use Rattle.schedule_kit.specs.Schedule.Act.{Measured, Collected, Restarted}
use Rattle.world_kit.specs.declared.event.Event.{Event}
use Rattle.world_kit.specs.declared.event.Event.TheVariants as event
use Rattle.world_kit.specs.declared.event.Refusal.{Refusal}
use Rattle.world_kit.specs.declared.event.Refusal.TheVariants.{NoWriter, NoGateway, NoExport, NoMail, Closed, NoInstrument, Negative, Overflow, TimeNotAfter, StartNotAfter, NotAddressed}
use Rattle.world_kit.specs.declared.event.Reply.{Reply}
use Rattle.world_kit.specs.declared.event.Reply.TheVariants as reply
use Rattle.world_kit.specs.declared.setup.Setup.{Setup}
use Rattle.world_kit.specs.Setups.{writer_at, starts_of, gateways_of}
use Rattle.world_kit.specs.States.{state_at}

-- what happened in a world: its accepted events, the newest first
abbrev pub Deeds : Type 0
Deeds = List (Deed Entry)

-- the answer where a test holds, else a refusal
abbrev pub guard : Bool → Refusal → Result (Deed Entry) Refusal → Result (Deed Entry) Refusal
guard b r x = if b then x else Err r

-- the answer where nothing is refused
abbrev pub unless : Option Refusal → Result (Deed Entry) Refusal → Result (Deed Entry) Refusal
unless None x = x
unless (Some r) x = Err r

-- a number from 1 to n
abbrev pub is_within : ℕ → ℕ → Bool
is_within k n = nat_lt 0 k && nat_lt k (n + 1)

-- a tally's refusal, as a world's: an event names its instrument, so that no number is looked up
abbrev pub refusal_of : TallyFault → Option Refusal
refusal_of faults.NoHeld = Some NoInstrument
refusal_of faults.NoInstrument = Some NoInstrument
refusal_of faults.Negative = Some Negative
refusal_of (faults.Overflow s) = Some (Overflow s)
refusal_of faults.NoMemory = None

-- why the writer at a place refuses an entry after those of its incarnation
abbrev pub refusal_at : Setup → ℕ → List Entry → Entry → Option Refusal
refusal_at s w h e = option_and_then refusal_of (first_refusal (writer_at s w).plan h e)

-- whether it takes it
abbrev pub fits_at : Setup → ℕ → List Entry → Entry → Bool
fits_at s w h e = is_none (refusal_at s w h e)

-- what the writer at a place does, if there is one
abbrev pub at_writer : Setup → ℕ → Result (Deed Entry) Refusal → Result (Deed Entry) Refusal
at_writer s w x = guard (nat_lt w (length s.writers)) NoWriter x

-- what the gateway at a place does, if there is one
abbrev pub at_gateway : Setup → ℕ → Result (Deed Entry) Refusal → Result (Deed Entry) Refusal
at_gateway s g x = guard (nat_lt g (gateways_of s)) NoGateway x

-- a collection of writer w, whose events were `acts`
abbrev pub collected_at : ℕ → ℕ → List (Act Entry) → ℕ → Bool → Result (Deed Entry) Refusal
collected_at w first acts time closing =
    guard (is_open acts) Closed (guard (nat_lt (last_of first acts) time) (TimeNotAfter (last_of first acts)) (Ok (Wrote w (Collected time closing))))

-- at how many keys the state of gateway g is another after a deed
abbrev pub changes_at : Setup → Deeds → Deed Entry → ℕ → ℕ
changes_at s ds d g = changed_points (state_at s ds (AtGateway g)) (state_at s (d ∷ ds) (AtGateway g))

-- how many events changed the state of gateway g
unfoldable pub changed_events : Setup → Deeds → ℕ → ℕ
changed_events s [] g = 0
changed_events s (d ∷ ds) g = if nat_lt 0 (changes_at s ds d g) then changed_events s ds g + 1 else changed_events s ds g

-- whether the Hand of mail n makes a mail: a Send made mail n, and by then fewer events had changed its sender's state than gateways number
unfoldable pub answers : Setup → Deeds → ℕ → Bool
answers s [] n = false
answers s (Sent from to ∷ ds) n = if n == mails ds + 1 then nat_lt (changed_events s ds from) last_number else answers s ds n
answers s (_ ∷ ds) n = answers s ds n

-- the deed that an event comes to after what happened, or why it is refused
abbrev pub judgement : Setup → Deeds → Event → Result (Deed Entry) Refusal
judgement s ds (event.Measure w i a v) =
    let first = (writer_at s w).start in
    let e : Entry = record { instrument = i; attrs = a; value = v } in
    at_writer s w (guard (is_open (acts_of w ds)) Closed (unless (refusal_at s w (running first (acts_of w ds)) e) (Ok (Wrote w (Measured e)))))
judgement s ds (event.Collect w time) = at_writer s w (collected_at w (writer_at s w).start (acts_of w ds) time false)
judgement s ds (event.Shutdown w time) = at_writer s w (collected_at w (writer_at s w).start (acts_of w ds) time true)
judgement s ds (event.Restart w start) =
    let now = start_of (writer_at s w).start (acts_of w ds) in
    at_writer s w (guard (nat_lt now start) (StartNotAfter now) (Ok (Wrote w (Restarted start))))
judgement s ds (event.Deliver x g) = at_gateway s g (guard (is_within x (length (made (starts_of s) ds))) NoExport (Ok (Delivered x g)))
judgement s ds (event.Merge into from) = at_gateway s into (at_gateway s from (Ok (Merged into from)))
judgement s ds (event.Send from to) = at_gateway s from (at_gateway s to (Ok (Sent from to)))
judgement s ds (event.Hand m g) = at_gateway s g (guard (is_within m (mails ds)) NoMail (guard (is_to g (mail_of ds m)) NotAddressed (Ok (Handed m g (answers s ds m)))))

abbrev pub cons_deed : Result (Deed Entry) Refusal → Deeds → Deeds
cons_deed (Ok d) ds = d ∷ ds
cons_deed (Err r) ds = ds

-- what happened after one more event
unfoldable pub after : Setup → Deeds → Event → Deeds
after s ds e = cons_deed (judgement s ds e) ds

-- what happened by a list of events, which is in order
abbrev pub deeds : Setup → List Event → Deeds
deeds s E = fold (after s) [] E

-- the reply to an accepted event
abbrev pub reply_of : Setup → Deeds → Deed Entry → Reply
reply_of s ds (Wrote w (Measured e)) = reply.Done
reply_of s ds (Wrote w (Collected time closing)) = reply.Made (length (made (starts_of s) ds) + 1)
reply_of s ds (Wrote w (Restarted start)) = reply.Done
reply_of s ds (Delivered x g) = reply.Changed (changes_at s ds (Delivered x g) g)
reply_of s ds (Merged into from) = reply.Changed (changes_at s ds (Merged into from) into)
reply_of s ds (Sent from to) = reply.Sent (mails ds + 1)
reply_of s ds (Handed m g answered) = reply.Handed (if answered then Some (mails ds + 1) else None)

abbrev pub reply_to_judged : Setup → Deeds → Result (Deed Entry) Refusal → Reply
reply_to_judged s ds (Ok d) = reply_of s ds d
reply_to_judged s ds (Err r) = reply.Refused r

-- the reply to an event after what happened
unfoldable pub reply_to : Setup → Deeds → Event → Reply
reply_to s ds e = reply_to_judged s ds (judgement s ds e)
