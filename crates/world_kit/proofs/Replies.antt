-- What an event comes to, where it is judged.
use Rattle.std.proofs.Common.{◌≡◌, ℕ, ◌+◌, ◌<◌, ◌≤◌, Bool, true, false, ◌∷◌, length, Result, Ok, Err, refl, sym, ap, subst, ◌∙◌, arith}
use Rattle.std.proofs.lemmas.Bool.{lt-ltb, le-ltb}
use Rattle.std.specs.Prelude.{IfErr, OnErr}
use Rattle.agg_kit.specs.Entries.{Entry}
use Rattle.schedule_kit.specs.Deeds.{Deed}
use Rattle.world_kit.specs.declared.event.Event.{Event}
use Rattle.world_kit.specs.declared.event.Refusal.{Refusal}
use Rattle.world_kit.specs.declared.event.Refusal.TheVariants.{NoWriter, NoGateway}
use Rattle.world_kit.specs.declared.event.Reply.{Reply}
use Rattle.world_kit.specs.declared.event.Reply.TheVariants as reply
use Rattle.world_kit.specs.declared.setup.Setup.{Setup}
use Rattle.world_kit.specs.WorldState.{WorldState}
use Rattle.world_kit.specs.Judged.{Deeds, after, cons_deed, is_within, at_gateway, guard, judgement, reply_of, reply_to, reply_to_judged, at_writer}
use Rattle.world_kit.specs.Setups.{gateways_of}
use Rattle.world_kit.specs.Stands.{Acts, Stands}
use Rattle.world_kit.specs.Wanting.{TakesMemory, Wants}

-- a refused event leaves the world
pub refused_acts : (event : Event) (w : WorldState) (r : Refusal) → ((s : Setup) (ds : Deeds) → Stands s ds w → judgement s ds event ≡ Err r) → Acts event w (reply.Refused r) w
unfolding after reply_to
refused_acts event w r is = record {
  stands = λ s ds st. subst (λ (l : Deeds). Stands s l w) (sym (ap (λ j. cons_deed j ds) (is s ds st))) st;
  reply = λ s ds st. sym (ap (reply_to_judged s ds) (is s ds st));
}

-- an accepted one comes to its deed
pub accepted_acts : (event : Event) (old new : WorldState) (answer : Reply) (d : Deed Entry) → ((s : Setup) (ds : Deeds) → Stands s ds old → (judgement s ds event ≡ Ok d) × Stands s (d ∷ ds) new × (answer ≡ reply_of s ds d)) → Acts event old answer new
unfolding after reply_to
accepted_acts event old new answer d is = record {
  stands = λ s ds st. subst (λ (l : Deeds). Stands s l new) (sym (ap (λ j. cons_deed j ds) (is s ds st).0)) (is s ds st).1;
  reply = λ s ds st. (is s ds st).2 ∙ sym (ap (reply_to_judged s ds) (is s ds st).0);
}

-- an event that is accepted may want memory
pub accepted_wants : (event : Event) (w : WorldState) (d : Deed Entry) → ((s : Setup) (ds : Deeds) → Stands s ds w → judgement s ds event ≡ Ok d) → Wants event w
accepted_wants event w d is = record { accepted = λ s ds st. subst (λ (j : Result (Deed Entry) Refusal). IfErr j (TakesMemory s event)) (sym (is s ds st)) tt }

-- seen from within
pub seen_as : (event : Event) (old seen : WorldState) (answer : Reply) (new : WorldState) → seen ≡ old → Acts event seen answer new → Acts event old answer new
seen_as event old seen answer new same acts = subst (λ (w : WorldState). Acts event w answer new) same acts

pub left_as : (event : Event) (old seen : WorldState) (answer : Reply) → seen ≡ old → Acts event seen answer seen → Acts event old answer old
left_as event old seen answer same acts = subst (λ (w : WorldState). Acts event w answer w) same acts

-- a world that is as it was
pub same_as : (event : Event) (old new seen : WorldState) (answer : Reply) → seen ≡ old → new ≡ seen → Acts event seen answer seen → Acts event old answer new
same_as event old new seen answer same kept acts = subst (λ (w : WorldState). Acts event w answer new) same (subst (Acts event seen answer) (sym kept) acts)

pub wants_as : {A E : Type 0} (event : Event) (old seen : WorldState) (r : Result A E) → seen ≡ old → Wants event seen → OnErr r (Wants event old)
wants_as event old seen (Ok a) same wants = tt
wants_as event old seen (Err e) same wants = subst (Wants event) same wants

pub guard_true : (b : Bool) (r : Refusal) (x : Result (Deed Entry) Refusal) → b ≡ true → guard b r x ≡ x
guard_true b r x e = ap (λ t. guard t r x) e

pub guard_false : (b : Bool) (r : Refusal) (x : Result (Deed Entry) Refusal) → b ≡ false → guard b r x ≡ Err r
guard_false b r x e = ap (λ t. guard t r x) e

module _ (s : Setup) where
  pub written_there : (w : ℕ) (x : Result (Deed Entry) Refusal) → w < length s.writers → at_writer s w x ≡ x
  written_there w x h = guard_true _ NoWriter x (lt-ltb w (length s.writers) h)

  pub written_none : (w : ℕ) (x : Result (Deed Entry) Refusal) → length s.writers ≤ w → at_writer s w x ≡ Err NoWriter
  written_none w x h = guard_false _ NoWriter x (le-ltb w (length s.writers) h)

  pub gathered_there : (g : ℕ) (x : Result (Deed Entry) Refusal) → g < gateways_of s → at_gateway s g x ≡ x
  gathered_there g x h = guard_true _ NoGateway x (lt-ltb g (gateways_of s) h)

  pub gathered_none : (g : ℕ) (x : Result (Deed Entry) Refusal) → gateways_of s ≤ g → at_gateway s g x ≡ Err NoGateway
  gathered_none g x h = guard_false _ NoGateway x (le-ltb g (gateways_of s) h)

pub is_within_in : (k n : ℕ) → 0 < k → k ≤ n → is_within k n ≡ true
is_within_in k n low high = rw (lt-ltb 0 k low, lt-ltb k (n + 1) (omega arith)) refl

pub is_within_zero : (k n : ℕ) → k ≡ 0 → is_within k n ≡ false
is_within_zero k n e = rw (le-ltb 0 k (let z : k ≤ 0 = omega arith in z)) refl

pub is_within_past : (k n : ℕ) → n < k → is_within k n ≡ false
is_within_past k n h = rw (lt-ltb 0 k (omega arith), le-ltb k (n + 1) (omega arith)) refl
