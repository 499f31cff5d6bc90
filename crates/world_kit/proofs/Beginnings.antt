-- How a world begins.
use Rattle.std.proofs.Common.{◌≡◌, ◌≢◌, ℕ, zero, suc, ◌+◌, ◌<◌, min, true, false, ◌==◌, List, [], ◌∷◌, ◌++◌, map, length, slice_get, get_or, slice_index, position, cond, inl, inr, append_assoc, Option, Some, None, refl, sym, ap, subst, ◌∙◌, arith}
use Rattle.std.proofs.lemmas.Bool.{eq-eqb, cases_lt}
use Rattle.std.proofs.lemmas.List.{get_or_append_left, length_push}
use Rattle.std.proofs.lemmas.Iterator.Adapters.{position_from-zero}
use Rattle.std.specs.List.{position_from}
use Rattle.std.specs.FinMap.{empty, get, get-empty}
use Rattle.std.specs.Ordering.{nat_cmp}
use Rattle.std.specs.Option.{option_map, option_or}
use Rattle.attr_kit.specs.Refusing.{first}
use Rattle.agg_kit.specs.Rounds.{StandsFor}
use Rattle.gateway_kit.proofs.Entries.{not_None}
use Rattle.gossip_kit.specs.Gossip.{last_number}
use Rattle.gossip_kit.specs.Views.{NodeModel}
use Rattle.plan_kit.specs.Plans.{AreApart as AreStreamsApart}
use Rattle.schedule_kit.specs.Deeds.Holder.{AtGateway}
use Rattle.world_kit.specs.Building.{AreStarted, fresh, same_gateway, same_gateway_from, setup_fault}
use Rattle.world_kit.specs.declared.fault.SetupFault.TheVariants.{SameGateway}
use Rattle.world_kit.specs.declared.setup.Setup.{Setup}
use Rattle.world_kit.specs.declared.setup.WriterSetup.{WriterSetup}
use Rattle.world_kit.specs.WorldState.{WorldState}
use Rattle.world_kit.specs.Judged.{changed_events}
use Rattle.world_kit.specs.Setups.{no_writer}
use Rattle.world_kit.specs.Stands.{AreApart, Stands, WriterStands}
use Rattle.world_kit.specs.States.{state_at}
use Rattle.writer_kit.specs.Written.{Written}

-- one writer more
pub started_push : (ss : List WriterSetup) (ws : List Written) (s : WriterSetup) (w : Written) → AreStarted ss ws → WriterStands s [] w → AreStreamsApart s.plan.streams → AreStarted (ss ++ s ∷ []) (ws ++ w ∷ [])
started_push [] [] s w h is apart = (is, apart, tt)
started_push [] (x ∷ ws) s w h is apart = absurd h
started_push (x ∷ ss) [] s w h is apart = absurd h
started_push (x ∷ ss) (y ∷ ws) s w h is apart = (h.0, h.1, started_push ss ws s w h.2 is apart)

-- a writer whose tally is empty
pub started_one : (s : WriterSetup) (w : Written) → w.id ≡ s.id → w.tally.plan ≡ s.plan → StandsFor w.tally [] → w.start ≡ s.start → w.last ≡ s.start → w.closed ≡ false → WriterStands s [] w
started_one s w id plan tally start last closed = record { id = id; plan = plan; tally = tally; start = start; last = last; closed = closed }

started_length : (ss : List WriterSetup) (ws : List Written) → AreStarted ss ws → length ws ≡ length ss
started_length [] [] h = refl
started_length [] (w ∷ ws) h = absurd h
started_length (s ∷ ss) [] h = absurd h
started_length (s ∷ ss) (w ∷ ws) h = ap suc (started_length ss ws h.2)

started_at : (ss : List WriterSetup) (ws : List Written) → AreStarted ss ws → (i : ℕ) (w : Written) → slice_get ws i ≡ Some w → WriterStands (get_or ss i no_writer) [] w
started_at [] [] h i w e = cc
started_at [] (x ∷ ws) h i w e = absurd h
started_at (s ∷ ss) [] h i w e = absurd h
started_at (s ∷ ss) (x ∷ ws) h zero w e = let same : x ≡ w = cc e in subst (WriterStands s []) same h.0
started_at (s ∷ ss) (x ∷ ws) h (suc i) w e = started_at ss ws h.2 i w e

started_plans : (ss : List WriterSetup) (ws : List Written) → AreStarted ss ws → (i : ℕ) → AreStreamsApart (get_or ss i no_writer).plan.streams
started_plans [] ws h i = λ j k t p q. cc
started_plans (s ∷ ss) [] h i = absurd h
started_plans (s ∷ ss) (x ∷ ws) h zero = h.1
started_plans (s ∷ ss) (x ∷ ws) h (suc i) = started_plans ss ws h.2 i

fresh_at : (ids : List ℕ) (g : ℕ) (n : NodeModel) → slice_get (map fresh ids) g ≡ Some n → n ≡ fresh (slice_index ids g)
fresh_at [] g n e = cc
fresh_at (id ∷ ids) zero n e = let same : fresh id ≡ n = cc e in sym same
fresh_at (id ∷ ids) (suc g) n e = fresh_at ids g n e

fresh_length : (ids : List ℕ) → length (map fresh ids) ≡ length ids
fresh_length [] = refl
fresh_length (id ∷ ids) = ap suc (fresh_length ids)

-- an id that has no place stands nowhere
position_none : (id : ℕ) (xs : List ℕ) (k : ℕ) → position_from (λ x. x == id) k xs ≡ None → (i : ℕ) → i < length xs → slice_index xs i ≢ id
position_none id [] k e i h = absurd (omega arith)
position_none id (x ∷ xs) k e zero h = λ same. let some : Some k ≡ None = sym (rw (eq-eqb x id same) refl) ∙ e in cc some
position_none id (x ∷ xs) k e (suc i) h = elim (x == id) as (λ b. cond b (Some k) (position_from (λ y. y == id) (k + 1) xs) ≡ None → slice_index xs i ≢ id) [
  | true ↦ λ some. cc some
  | false ↦ λ rest. position_none id xs (k + 1) rest i (omega arith)
] e

or_none : {A B : Type 0} (f : A → B) (o : Option A) (r : Option B) → option_or (option_map f o) r ≡ None → (o ≡ None) × (r ≡ None)
or_none f None r e = (refl, e)
or_none f (Some a) r e = cc

-- where no id stands twice, what stands at a place stands at none before
none_twice : (earlier xs : List ℕ) → same_gateway_from earlier xs ≡ None → (i j : ℕ) → i < length earlier + j → j < length xs → slice_index (earlier ++ xs) i ≢ slice_index xs j
none_twice earlier [] e i j h k = absurd (omega arith)
none_twice earlier (x ∷ xs) e i zero h k =
    let parts = or_none (λ p. (p, length earlier)) (position (λ y. y == x) earlier) (same_gateway_from (earlier ++ x ∷ []) xs) e in
    let short : i < length earlier = omega arith in
    λ same. position_none x earlier 0 (sym (position_from-zero (λ y. y == x) earlier) ∙ parts.0) i short (sym (get_or_append_left earlier (x ∷ xs) 0 i short) ∙ same)
none_twice earlier (x ∷ xs) e i (suc j) h k =
    let parts = or_none (λ p. (p, length earlier)) (position (λ y. y == x) earlier) (same_gateway_from (earlier ++ x ∷ []) xs) e in
    let longer : length (earlier ++ x ∷ []) ≡ length earlier + 1 = length_push earlier x in
    λ same. none_twice (earlier ++ x ∷ []) xs parts.1 i j (omega arith) (omega arith) (ap (λ l. slice_index l i) (append_assoc earlier (x ∷ []) xs) ∙ same)

apart : (s : Setup) → same_gateway s.gateways ≡ None → AreApart s
apart s e g h a b same = elim (cases_lt g h) [
  | inl below ↦ absurd (none_twice [] s.gateways e g h (omega arith) b same)
  | inr above ↦ elim (cases_lt h g) [
    | inl later ↦ absurd (none_twice [] s.gateways e h g (omega arith) a (sym same))
    | inr not_later ↦ omega arith
  ]
]

nothing_at : {A : Type 0} (xs : List A) → xs ≡ [] → (k : ℕ) (x : A) → slice_get xs k ≡ Some x → ⊥
nothing_at xs e k x at = let none : None ≡ Some x = sym (ap (λ l. slice_get l k) e) ∙ at in cc none

nothing_taken : (s : Setup) (g : ℕ) → state_at s [] (AtGateway g) ≡ empty
unfolding state_at
nothing_taken s g = refl

no_events : (s : Setup) (g : ℕ) → 0 ≡ min (changed_events s [] g) last_number
unfolding changed_events
no_events s g = refl

-- a world in which nothing happened
pub begins : (s : Setup) (w : WorldState) → same_gateway s.gateways ≡ None → AreStarted s.writers w.writers → w.nodes ≡ map fresh s.gateways → w.exports ≡ [] → w.mails ≡ [] → Stands s [] w
begins s w none started nodes exports mails = record {
  apart = apart s none;
  plans = started_plans s.writers w.writers started;
  lawful = tt;
  writers = record { count = started_length s.writers w.writers started; each = started_at s.writers w.writers started };
  nodes = record {
    count = ap length nodes ∙ fresh_length s.gateways;
    id = λ g n e. ap (λ (x : NodeModel). x.gateway.id) (fresh_at s.gateways g n (sym (ap (λ l. slice_get l g) nodes) ∙ e));
    points = λ g n e. ap (λ (x : NodeModel). x.gateway.points) (fresh_at s.gateways g n (sym (ap (λ l. slice_get l g) nodes) ∙ e)) ∙ sym (nothing_taken s g);
  };
  exports = record { count = ap length exports; each = λ k e at. absurd (nothing_at w.exports exports k e at) };
  mails = record { count = ap length mails; each = λ k m at. absurd (nothing_at w.mails mails k m at) };
  gossip = record {
    change = λ g n e. ap (λ (x : NodeModel). x.change) (fresh_at s.gateways g n (sym (ap (λ l. slice_get l g) nodes) ∙ e)) ∙ no_events s g;
    books = λ g h k n e there acked. absurd (not_None (sym (ap (λ (x : NodeModel). get x.acked (slice_index s.gateways h)) (fresh_at s.gateways g n (sym (ap (λ l. slice_get l g) nodes) ∙ e)) ∙ get-empty nat_cmp (slice_index s.gateways h)) ∙ acked));
    mails = λ k m mail at known. absurd (nothing_at w.mails mails k m at);
  };
}

pub fault_none : (s : Setup) → same_gateway s.gateways ≡ None → setup_fault s ≡ None
unfolding setup_fault
fault_none s e = ap (λ (o : Option (ℕ × ℕ)). first (option_map (λ p. SameGateway p.0 p.1) o ∷ [])) e

pub fault_some : (s : Setup) (a b : ℕ) → same_gateway s.gateways ≡ Some (a, b) → setup_fault s ≡ Some (SameGateway a b)
unfolding setup_fault
fault_some s a b e = ap (λ (o : Option (ℕ × ℕ)). first (option_map (λ p. SameGateway p.0 p.1) o ∷ [])) e
