-- One event more of a schedule, and what follows from what a world stands for.
use Rattle.std.proofs.Common.{◌≡◌, ℕ, zero, suc, ◌+◌, ◌≤◌, List, [], ◌∷◌, ◌++◌, length, take, fold, refl, sym, ap, subst, ◌∙◌, arith}
use Rattle.std.proofs.lemmas.List.Sums.{fold-append}
use Rattle.agg_kit.specs.Entries.{Entry}
use Rattle.point_kit.proofs.EqualityLaws.{payload_equivalence, payload_exact}
use Rattle.point_kit.proofs.OrderLaws.{key_total, key_exact}
use Rattle.point_kit.specs.Equality.{payload_eq}
use Rattle.schedule_kit.proofs.Headline.{same_took}
use Rattle.schedule_kit.proofs.Members.{filter_map-In, In-filter_map}
use Rattle.schedule_kit.specs.Deeds.{Made, Holder, made, took, TookSame}
use Rattle.schedule_kit.specs.Deeds.Holder.{AtGateway}
use Rattle.schedule_kit.specs.Members.{In}
use Rattle.schedule_kit.specs.Taken.{taken_collections, made_of}
use Rattle.world_kit.specs.Building.{replies, replies_from}
use Rattle.rollup_kit.specs.Rollups.{rollup_rows}
use Rattle.world_kit.specs.Converging.{AnswersAlike, Converges}
use Rattle.world_kit.specs.declared.event.Event.{Event}
use Rattle.world_kit.specs.declared.event.Reply.{Reply}
use Rattle.world_kit.specs.declared.setup.Setup.{Setup}
use Rattle.world_kit.specs.WorldState.{WorldState}
use Rattle.world_kit.specs.Judged.{Deeds, after, deeds, reply_to}
use Rattle.world_kit.specs.Setups.{starts_of}
use Rattle.world_kit.specs.Stands.{Acts, Stands}
use Rattle.world_kit.specs.States.{made_points, state_at}

pub deeds_push : (s : Setup) (E : List Event) (e : Event) → deeds s (E ++ e ∷ []) ≡ after s (deeds s E) e
deeds_push s E e = fold-append (after s) [] E (e ∷ [])

replies_from_push : (s : Setup) (ds : Deeds) (E : List Event) (e : Event) → replies_from s ds (E ++ e ∷ []) ≡ replies_from s ds E ++ reply_to s (fold (after s) ds E) e ∷ []
replies_from_push s ds [] e = refl
replies_from_push s ds (x ∷ E) e = ap (λ l. reply_to s ds x ∷ l) (replies_from_push s (after s ds x) E e)

pub replies_push : (s : Setup) (E : List Event) (e : Event) → replies s (E ++ e ∷ []) ≡ replies s E ++ reply_to s (deeds s E) e ∷ []
replies_push s E e = replies_from_push s [] E e

replies_from_length : (s : Setup) (ds : Deeds) (E : List Event) → length (replies_from s ds E) ≡ length E
replies_from_length s ds [] = refl
replies_from_length s ds (x ∷ E) = ap suc (replies_from_length s (after s ds x) E)

pub replies_length : (s : Setup) (E : List Event) → length (replies s E) ≡ length E
replies_length s E = replies_from_length s [] E

-- an event more, in its place
pub stands_more : (s : Setup) (E : List Event) (i : ℕ) (e : Event) (old : WorldState) (answer : Reply) (new : WorldState) → take (i + 1) E ≡ take i E ++ e ∷ [] → Acts e old answer new → Stands s (deeds s (take i E)) old → Stands s (deeds s (take (i + 1) E)) new
stands_more s E i e old answer new next acts st = subst (λ (l : Deeds). Stands s l new) (sym (ap (deeds s) next ∙ deeds_push s (take i E) e)) (acts.stands s (deeds s (take i E)) st)

pub replies_more : (s : Setup) (E : List Event) (i : ℕ) (e : Event) (old : WorldState) (answer : Reply) (new : WorldState) (rs : List Reply) → take (i + 1) E ≡ take i E ++ e ∷ [] → Acts e old answer new → Stands s (deeds s (take i E)) old → rs ≡ replies s (take i E)
    → rs ++ answer ∷ [] ≡ replies s (take (i + 1) E)
replies_more s E i e old answer new rs next acts st so_far =
    ap (λ l. l ++ answer ∷ []) so_far ∙ ap (λ r. replies s (take i E) ++ r ∷ []) (acts.reply s (deeds s (take i E)) st) ∙ sym (ap (replies s) next ∙ replies_push s (take i E) e)

-- all of a list
pub take_whole : {A : Type 0} (xs : List A) (i : ℕ) → length xs ≤ i → take i xs ≡ xs
take_whole [] zero h = refl
take_whole [] (suc i) h = refl
take_whole (x ∷ xs) zero h = absurd (omega arith)
take_whole (x ∷ xs) (suc i) h = ap (λ l. x ∷ l) (take_whole xs i (omega arith))

-- holders that took the same exports have one state
same_states : (s : Setup) (ds : Deeds) (g h : Holder) → TookSame ds g h → state_at s ds g ≡ state_at s ds h
unfolding state_at
same_states s ds g h same = same_took key_total key_exact payload_eq payload_equivalence payload_exact (made_points s) (taken_collections (starts_of s) ds g) (taken_collections (starts_of s) ds h) (moved g h same.0) (moved h g same.1)
  where
    moved : (a b : Holder) → ((k : ℕ) → In k (took ds a) → In k (took ds b)) → (m : Made Entry) → In m (taken_collections (starts_of s) ds a) → In m (taken_collections (starts_of s) ds b)
    moved a b t m i = let c = filter_map-In (made_of (made (starts_of s) ds)) m (took ds a) i in In-filter_map (made_of (made (starts_of s) ds)) m c.0 (took ds b) (t c.0 c.1) c.2

-- so have gateways equal points
pub converges : (s : Setup) (ds : Deeds) (w : WorldState) → Stands s ds w → Converges ds w
converges s ds w st g h m n at_g at_h same = st.nodes.points g m at_g ∙ same_states s ds (AtGateway g) (AtGateway h) same ∙ sym (st.nodes.points h n at_h)

pub answers_alike : (s : Setup) (ds : Deeds) (w : WorldState) → Stands s ds w → AnswersAlike ds w
answers_alike s ds w st g h m n at_g at_h same ask = ap (rollup_rows ask) (converges s ds w st g h m n at_g at_h same)
