-- What mails and books claim stays true as gateways grow, and what is sent and answered is as it claims.
use Rattle.std.proofs.Common.{◌≡◌, ◌≢◌, ℕ, zero, suc, ◌+◌, ◌<◌, ◌≤◌, max, min, Bool, true, false, cond, if◌then◌else◌, ◌⊎◌, inl, inr, List, [], ◌∷◌, ◌++◌, length, slice_get, slice_index, Option, Some, None, is_some, refl, sym, ap, subst, ◌∙◌, arith, true≢false}
use Rattle.std.specs.Prelude.{nat_lt, nat_le}
use Rattle.std.proofs.lemmas.Bool.{lt-ltb, le-ltb, ltb-true, ltb-false, eq-eqb, ne_eqb}
use Rattle.std.proofs.lemmas.Bool.Decides.{leb_tells}
use Rattle.std.proofs.lemmas.Option.{slice_get_within}
use Rattle.std.proofs.Math.ListN.{set}
use Rattle.std.proofs.lemmas.Bool.{cases_lt}
use Rattle.std.specs.Cmp.{Equal-is, nat_cmp_total}
use Rattle.std.specs.FinMap.{FinMap, get, get-insert, empty, same_map, nat_cmp-IsAntisymmetric}
use Rattle.std.specs.List.{filter_map, flat_map}
use Rattle.std.specs.Ordering.{eq_by_cmp, nat_cmp}
use Rattle.std.specs.Option.{option_map_or, unwrap_or}
use Rattle.agg_kit.specs.Entries.{Entry}
use Rattle.gossip_kit.specs.Gossip.{Renumbers, acked_after, acknowledged, delta_to, raised_to, last_number, next_number, number_of, numbered_to}
use Rattle.gossip_kit.specs.Views.{MessageModel, NodeModel}
use Rattle.gossip_kit.proofs.Carrying.{carried_below, nothing_below}
use Rattle.gossip_kit.proofs.Changes.{renumbers_nothing}
use Rattle.gossip_kit.proofs.Sending.{retained, chosen as chosen_cell}
use Rattle.gateway_kit.proofs.Entries.{not_None, same_Some}
use Rattle.point_kit.specs.declared.cell.Cell.{Cell}
use Rattle.point_kit.specs.declared.key.Key.{Key}
use Rattle.point_kit.specs.declared.payload.Payload.{Payload}
use Rattle.point_kit.specs.Equality.{payload_eq, cell_eq}
use Rattle.point_kit.specs.Exports.{Points, join_points, changed_points}
use Rattle.point_kit.specs.Join.{join_cells, join_options, IsAtOrBelow}
use Rattle.point_kit.proofs.EqualityLaws.{payload_equivalence, payload_exact, cell_exact, cell_itself}
use Rattle.point_kit.proofs.JoinLaws.{cells_idempotent, options_idempotent}
use Rattle.point_kit.proofs.OrderLaws.{key_total, key_exact}
use Rattle.point_kit.proofs.PointLaws.{points_commute, points_associate, points_idempotent, points_above, changed_points-same, unchanged_points}
use Rattle.point_kit.proofs.StateLaws.{get-join_maps}
use Rattle.point_kit.specs.Orders.{key_cmp}
use Rattle.point_kit.specs.States.{state_of}
use Rattle.schedule_kit.specs.Deeds.{Deed, Holder, Mail, made, mails, mail_of, took}
use Rattle.schedule_kit.specs.Deeds.Deed.{Wrote, Delivered, Merged, Sent, Handed}
use Rattle.schedule_kit.specs.Deeds.Holder.{AtGateway, InMail}
use Rattle.schedule_kit.specs.Schedule.{Act}
use Rattle.schedule_kit.specs.Taken.{made_of}
use Rattle.world_kit.specs.declared.setup.Setup.{Setup}
use Rattle.world_kit.specs.Claims.{GossipStands, IsClaimed, MailClaims}
use Rattle.world_kit.specs.Judged.{Deeds, answers, changed_events, changes_at}
use Rattle.world_kit.specs.Setups.{gateways_of, starts_of}
use Rattle.world_kit.specs.Stands.{AreApart, MailsStand, NodesStand}
use Rattle.world_kit.specs.States.{made_points, state_at}
use Rattle.world_kit.proofs.Places.{in_push, in_set}

abbrev MaybeCell : Type 0
MaybeCell = Option (Cell Payload)

abbrev J : MaybeCell → MaybeCell → MaybeCell
J = join_options (join_cells payload_eq)

-- whether two cells are one can be told
alike : (a b : MaybeCell) → (a ≡ b) ⊎ (a ≢ b)
alike None None = inl refl
alike None (Some b) = inr (λ e. not_None e)
alike (Some a) None = inr (λ e. not_None (sym e))
alike (Some a) (Some b) = go (cell_eq a b) refl
  where
    go : (t : Bool) → cell_eq a b ≡ t → (Some a ≡ Some b) ⊎ (Some a ≢ Some b)
    go true e = inl (ap Some (cell_exact a b e))
    go false e = inr (λ same. true≢false (sym (subst (λ (x : Cell Payload). cell_eq a x ≡ true) (same_Some same) (cell_itself a)) ∙ e))

-- and whether two lists of points are one
alike_points : (p q : Points) → (p ≡ q) ⊎ (p ≢ q)
alike_points p q = go (changed_points p q) refl
  where
    go : (n : ℕ) → changed_points p q ≡ n → (p ≡ q) ⊎ (p ≢ q)
    go zero e = inl (unchanged_points p q e)
    go (suc n) e = inr (λ same. let none : changed_points p q ≡ 0 = ap (changed_points p) (sym same) ∙ changed_points-same p in absurd (omega (arith, none, e)))

pub below_trans : (a b c : Points) → IsAtOrBelow join_points a b → IsAtOrBelow join_points b c → IsAtOrBelow join_points a c
below_trans a b c ab bc = ap (join_points a) (sym bc) ∙ sym (points_associate a b c) ∙ ap (λ m. join_points m c) ab ∙ bc

-- what brings as much to a state brings as much to a greater one
pub brings_more : (r q c t : Points) → IsAtOrBelow join_points r q → join_points r c ≡ join_points r t → join_points q c ≡ join_points q t
brings_more r q c t above brings =
    let wide : (x : Points) → join_points q x ≡ join_points q (join_points r x) = λ x. ap (λ m. join_points m x) (sym above ∙ points_commute r q) ∙ points_associate q r x in
    wide c ∙ ap (join_points q) brings ∙ sym (wide t)

-- of a node whose change is counted, the number of a key that changes is above all that are claimed
raised_above : (old new : NodeModel) (n : ℕ) → Renumbers old new → n ≤ old.change → n < last_number → new.gateway.points ≢ old.gateway.points → n < new.change
raised_above old new n moves past small differs = let r : new.change ≡ next_number old.change = moves.raised differs in omega arith

not_up_to : (n m : ℕ) → n < m → nat_le m n ≡ false
not_up_to n m h = elim (leb_tells m n) [
  | inl less ↦ absurd (let l = less.1 in omega (arith, h, l))
  | inr more ↦ more.0
]

-- the cells under old numbers get fewer
sinks : (old new : NodeModel) (n : ℕ) → Renumbers old new → n ≤ old.change → n < last_number → IsAtOrBelow join_points (numbered_to new n) (numbered_to old n)
sinks old new n moves past small = same_map key_total key_exact _ _ (λ k.
    let a = get (numbered_to new n) k in
    let b = get (numbered_to old n) k in
    get-join_maps key_total key_exact (join_cells payload_eq) (numbered_to new n) (numbered_to old n) k
    ∙ at_key k (alike (get new.gateway.points k) (get old.gateway.points k)))
  where
    has : (node : NodeModel) (k : Key) → get (numbered_to node n) k ≡ cond (nat_le (number_of node k) n) (get node.gateway.points k) None
    has node k = retained node.gateway.points (λ x. nat_le (number_of node x) n) k

    at_key : (k : Key) → (get new.gateway.points k ≡ get old.gateway.points k) ⊎ (get new.gateway.points k ≢ get old.gateway.points k) → J (get (numbered_to new n) k) (get (numbered_to old n) k) ≡ get (numbered_to old n) k
    at_key k (inl same) =
        let one : get (numbered_to new n) k ≡ get (numbered_to old n) k = has new k ∙ (λ i. cond (nat_le (moves.kept k same i) n) (same i) None) ∙ sym (has old k) in
        ap (λ x. J x (get (numbered_to old n) k)) one ∙ options_idempotent (join_cells payload_eq) (cells_idempotent payload_eq payload_equivalence payload_exact) (get (numbered_to old n) k)
    at_key k (inr differs) =
        let above : n < number_of new k = subst (λ (m : ℕ). n < m) (sym (moves.renumbered k differs)) (raised_above old new n moves past small (λ e. differs (ap (λ (p : Points). get p k) e))) in
        let none : get (numbered_to new n) k ≡ None = has new k ∙ ap (λ b. cond b (get new.gateway.points k) None) (not_up_to n (number_of new k) above) in
        ap (λ x. J x (get (numbered_to old n) k)) none

counted_on : (old new : NodeModel) (n : ℕ) → Renumbers old new → n ≤ old.change → n < last_number → (new.gateway.points ≡ old.gateway.points) ⊎ (new.gateway.points ≢ old.gateway.points) → n ≤ new.change
counted_on old new n moves past small (inl same) = let e : new.change ≡ old.change = moves.same same in omega arith
counted_on old new n moves past small (inr differs) = let h : n < new.change = raised_above old new n moves past small differs in omega arith

-- so a claim stays true as its node changes and its points grow
pub claim_moves : (old new : NodeModel) (p q : Points) (n : ℕ) → Renumbers old new → IsAtOrBelow join_points p q → IsClaimed old p n → IsClaimed new q n
claim_moves old new p q n moves grows is = record {
  covers = below_trans (numbered_to new n) (numbered_to old n) q (sinks old new n moves is.past is.small) (below_trans (numbered_to old n) p q is.covers grows);
  past = counted_on old new n moves is.past is.small (alike_points new.gateway.points old.gateway.points);
  small = is.small;
}

-- one event leads a node of gateway g to one that has its state
pub record Moves (s : Setup) (ds : Deeds) (old new : NodeModel) : Type 0 where
  pub renumbers : Renumbers old new
  pub books : (h k : ℕ) → h < gateways_of s → get new.acked (slice_index s.gateways h) ≡ Some k → (get old.acked (slice_index s.gateways h) ≡ Some k) ⊎ IsClaimed old (state_at s ds (AtGateway h)) k

-- a node that stays
pub rests : (s : Setup) (ds : Deeds) (node : NodeModel) → Moves s ds node node
rests s ds node = record { renumbers = renumbers_nothing node node refl refl refl; books = λ h k there is. inl is }

-- nobody acknowledged anything by it
pub moves_on : (s : Setup) (ds : Deeds) (old new : NodeModel) → Renumbers old new → new.acked ≡ old.acked → Moves s ds old new
moves_on s ds old new renumbers same = record { renumbers = renumbers; books = λ h k there is. inl (ap (λ m. get m (slice_index s.gateways h)) (sym same) ∙ is) }

module _ (s : Setup) (ds : Deeds) (d : Deed Entry) where
  abbrev before : ℕ → Points
  before g = state_at s ds (AtGateway g)

  abbrev now : ℕ → Points
  now g = state_at s (d ∷ ds) (AtGateway g)

  events_same : (g : ℕ) → now g ≡ before g → changed_events s (d ∷ ds) g ≡ changed_events s ds g
  unfolding changed_events
  events_same g same =
      let none : changes_at s ds d g ≡ 0 = ap (changed_points (before g)) same ∙ changed_points-same (before g) in
      ap (λ n. if nat_lt 0 n then changed_events s ds g + 1 else changed_events s ds g) none

  events_more : (g : ℕ) → now g ≢ before g → changed_events s (d ∷ ds) g ≡ changed_events s ds g + 1
  unfolding changed_events
  events_more g differs = go (changes_at s ds d g) refl
    where
      go : (n : ℕ) → changes_at s ds d g ≡ n → (if nat_lt 0 (changes_at s ds d g) then changed_events s ds g + 1 else changed_events s ds g) ≡ changed_events s ds g + 1
      go zero e = absurd (differs (sym (unchanged_points (before g) (now g) e)))
      go (suc n) e = ap (λ b. if b then changed_events s ds g + 1 else changed_events s ds g) (lt-ltb 0 (changes_at s ds d g) (omega (arith, e)))

  counted : (g : ℕ) (old new : NodeModel) → Renumbers old new → old.gateway.points ≡ before g → new.gateway.points ≡ now g → old.change ≡ min (changed_events s ds g) last_number
      → (new.gateway.points ≡ old.gateway.points) ⊎ (new.gateway.points ≢ old.gateway.points) → new.change ≡ min (changed_events s (d ∷ ds) g) last_number
  counted g old new moves was is count (inl same) =
      moves.same same ∙ count ∙ ap (λ n. min n last_number) (sym (events_same g (sym is ∙ same ∙ was)))
  counted g old new moves was is count (inr differs) =
      let r : new.change ≡ next_number old.change = moves.raised differs in
      let m : changed_events s (d ∷ ds) g ≡ changed_events s ds g + 1 = events_more g (λ e. differs (is ∙ e ∙ sym was)) in
      omega (arith, r, m, count)

  -- what mails and books claim stays true after one more event, in which no mail is made
  pub gossip_moves : (ns new : List NodeModel) (ms : List MessageModel) → NodesStand s ds ns → NodesStand s (d ∷ ds) new → length ms ≡ mails ds
      → ((g : ℕ) → IsAtOrBelow join_points (before g) (now g))
      → ((n : ℕ) → n ≤ mails ds → state_at s (d ∷ ds) (InMail n) ≡ state_at s ds (InMail n))
      → ((n : ℕ) → n ≤ mails ds → mail_of (d ∷ ds) n ≡ mail_of ds n)
      → ((n : ℕ) → n ≤ mails ds → answers s (d ∷ ds) n ≡ answers s ds n)
      → ((g : ℕ) (is : NodeModel) → slice_get new g ≡ Some is → (was : NodeModel) × (slice_get ns g ≡ Some was) × Moves s ds was is)
      → GossipStands s ds ns ms → GossipStands s (d ∷ ds) new ms
  gossip_moves ns new ms nodes news count grows mail_state mail_same answer_same each st = record {
    change = λ g is at.
        let r = each g is at in
        counted g r.0 is r.2.renumbers (nodes.points g r.0 r.1) (news.points g is at) (st.change g r.0 r.1) (alike_points is.gateway.points r.0.gateway.points);
    books = λ g h k is at there acked.
        let r = each g is at in
        elim (r.2.books h k there acked) [
          | inl known ↦ claim_moves r.0 is (before h) (now h) k r.2.renumbers (grows h) (st.books g h k r.0 r.1 there known)
          | inr claimed ↦ claim_moves r.0 is (before h) (now h) k r.2.renumbers (grows h) claimed
        ];
    mails = λ k m mail at known.
        let inside : k < length ms = slice_get_within ms k m at in
        let low : k + 1 ≤ mails ds = omega (arith, inside, count) in
        let its = st.mails k m mail at (sym (mail_same (k + 1) low) ∙ known) in
        let same : state_at s (d ∷ ds) (InMail (k + 1)) ≡ state_at s ds (InMail (k + 1)) = mail_state (k + 1) low in record {
          from_there = its.from_there;
          brings = brings_more (before mail.to) (now mail.to) m.points (state_at s ds (InMail (k + 1))) (grows mail.to) its.brings ∙ ap (join_points (now mail.to)) (sym same);
          answered = answer_same (k + 1) low ∙ its.answered;
          delta = λ n is asks there.
              let r = each mail.from is there in
              subst (λ (p : Points). IsClaimed is p n) (sym same) (claim_moves r.0 is (state_at s ds (InMail (k + 1))) (state_at s ds (InMail (k + 1))) n r.2.renumbers (points_idempotent (state_at s ds (InMail (k + 1)))) (its.delta n r.0 asks r.1));
          ack = λ n is told there.
              let r = each mail.to is there in
              claim_moves r.0 is (before mail.from) (now mail.from) n r.2.renumbers (grows mail.from) (its.ack n r.0 told r.1);
        };
  }

  -- an event that touches no gateway and no mail
  pub gossip_rests : (ns : List NodeModel) (ms : List MessageModel) → NodesStand s ds ns → MailsStand s ds ms → ((h : Holder) → state_at s (d ∷ ds) h ≡ state_at s ds h)
      → ((n : ℕ) → mail_of (d ∷ ds) n ≡ mail_of ds n) → ((n : ℕ) → answers s (d ∷ ds) n ≡ answers s ds n) → GossipStands s ds ns ms → GossipStands s (d ∷ ds) ns ms
  gossip_rests ns ms nodes mails same mail_same answer_same st =
      gossip_moves ns ns ms nodes (record { count = nodes.count; id = nodes.id; points = λ g n e. nodes.points g n e ∙ sym (same (AtGateway g)) }) mails.count
      (λ g. ap (join_points (before g)) (same (AtGateway g)) ∙ points_idempotent (before g) ∙ sym (same (AtGateway g)))
      (λ n low. same (InMail n)) (λ n low. mail_same n) (λ n low. answer_same n) (λ g is at. (is, at, rests s ds is)) st

-- one more mail
pub gossip_more : (s : Setup) (ds : Deeds) (ns : List NodeModel) (ms : List MessageModel) (m : MessageModel) (mail : Mail) → mail_of ds (length ms + 1) ≡ Some mail → MailClaims s ds ns (length ms + 1) mail m → GossipStands s ds ns ms → GossipStands s ds ns (ms ++ m ∷ [])
gossip_more s ds ns ms m mail known its st = record {
  change = st.change;
  books = st.books;
  mails = λ k x found at is. elim (in_push ms m k x at) [
    | inl last ↦
        let number : k + 1 ≡ length ms + 1 = ap (λ n. n + 1) last.0 in
        let same : mail ≡ found = same_Some (sym known ∙ ap (mail_of ds) (sym number) ∙ is) in
        subst (λ (n : ℕ). MailClaims s ds ns n found x) (sym number) (subst (λ (y : MessageModel). MailClaims s ds ns (length ms + 1) found y) (sym last.1) (subst (λ (y : Mail). MailClaims s ds ns (length ms + 1) y m) same its))
    | inr old ↦ st.mails k x found old is
  ];
}

module _ (s : Setup) (ds : Deeds) where
  pub answers_wrote : (v : ℕ) (act : Act Entry) (n : ℕ) → answers s (Wrote v act ∷ ds) n ≡ answers s ds n
  unfolding answers
  answers_wrote v act n = refl

  pub answers_delivered : (x g n : ℕ) → answers s (Delivered x g ∷ ds) n ≡ answers s ds n
  unfolding answers
  answers_delivered x g n = refl

  pub answers_merged : (into from n : ℕ) → answers s (Merged into from ∷ ds) n ≡ answers s ds n
  unfolding answers
  answers_merged into from n = refl

  pub answers_handed : (m g n : ℕ) (answered : Bool) → answers s (Handed m g answered ∷ ds) n ≡ answers s ds n
  unfolding answers
  answers_handed m g n answered = refl

  pub answers_sent_old : (from to n : ℕ) → n ≤ mails ds → answers s (Sent from to ∷ ds) n ≡ answers s ds n
  unfolding answers
  answers_sent_old from to n low = rw (ne_eqb n (mails ds + 1) (omega arith)) refl

  pub answers_sent_new : (from to : ℕ) → answers s (Sent from to ∷ ds) (mails ds + 1) ≡ nat_lt (changed_events s ds from) last_number
  unfolding answers
  answers_sent_new from to = rw (eq-eqb (mails ds + 1) (mails ds + 1) refl) refl

-- a delta asks for its sender's number, where that is not the last
pub delta_is : (node : NodeModel) (k : ℕ) → delta_to node ≡ Some k → (k ≡ node.change) × (node.change < last_number)
unfolding delta_to
delta_is node k is = go (nat_lt node.change last_number) refl is
  where
    go : (b : Bool) → nat_lt node.change last_number ≡ b → (if b then Some node.change else None) ≡ Some k → (k ≡ node.change) × (node.change < last_number)
    go true e same = (sym (same_Some same), ltb-true node.change last_number e)
    go false e same = absurd (not_None same)

pub asks_for : (node : NodeModel) (events : ℕ) → node.change ≡ min events last_number → nat_lt events last_number ≡ is_some (delta_to node)
unfolding delta_to
asks_for node events count = go (nat_lt events last_number) refl
  where
    some : (b : Bool) → is_some (if b then Some node.change else None) ≡ b
    some true = refl
    some false = refl

    go : (b : Bool) → nat_lt events last_number ≡ b → nat_lt events last_number ≡ is_some (if nat_lt node.change last_number then Some node.change else None)
    go true e = let low = ltb-true events last_number e in e ∙ sym (lt-ltb node.change last_number (omega (arith, low, count))) ∙ sym (some (nat_lt node.change last_number))
    go false e = let high : last_number ≤ events = ltb-false events last_number e in e ∙ sym (le-ltb node.change last_number (omega (arith, high, count))) ∙ sym (some (nat_lt node.change last_number))

-- the cells up to a number are held
pub numbered_held : (node : NodeModel) (n : ℕ) → IsAtOrBelow join_points (numbered_to node n) node.gateway.points
numbered_held node n = carried_below (numbered_to node n) node.gateway.points (λ k c is. chosen_cell (nat_le (number_of node k) n) (get node.gateway.points k) c (sym (retained node.gateway.points (λ x. nat_le (number_of node x) n) k) ∙ is))

-- what a peer acknowledged is below what it has
pub acknowledged_below : (node : NodeModel) (to : ℕ) (p : Points) → ((k : ℕ) → get node.acked to ≡ Some k → IsAtOrBelow join_points (numbered_to node k) p) → IsAtOrBelow join_points (acknowledged node to) p
acknowledged_below node to p has = go (get node.acked to) refl
  where
    go : (o : Option ℕ) → get node.acked to ≡ o → IsAtOrBelow join_points (option_map_or (numbered_to node) (get node.acked to) empty) p
    go None e = subst (λ (x : Option ℕ). IsAtOrBelow join_points (option_map_or (numbered_to node) x empty) p) (sym e) (nothing_below p)
    go (Some k) e = subst (λ (x : Option ℕ). IsAtOrBelow join_points (option_map_or (numbered_to node) x empty) p) (sym e) (has k e)

-- a mail that was not made yet is not answered, and has nothing
pub answers_unmade : (s : Setup) (ds : Deeds) (n : ℕ) → mails ds < n → answers s ds n ≡ false
unfolding answers
answers_unmade s [] n past = refl
answers_unmade s (Wrote v act ∷ ds) n past = answers_unmade s ds n past
answers_unmade s (Delivered x g ∷ ds) n past = answers_unmade s ds n past
answers_unmade s (Merged into from ∷ ds) n past = answers_unmade s ds n past
answers_unmade s (Sent from to ∷ ds) n past = rw (ne_eqb n (mails ds + 1) (omega (arith, past))) (answers_unmade s ds n (omega (arith, past)))
answers_unmade s (Handed m g true ∷ ds) n past = answers_unmade s ds n (omega (arith, past))
answers_unmade s (Handed m g false ∷ ds) n past = answers_unmade s ds n past

took_unmade : (ds : Deeds) (n : ℕ) → mails ds < n → took ds (InMail n) ≡ []
took_unmade [] n past = refl
took_unmade (Wrote v act ∷ ds) n past = took_unmade ds n past
took_unmade (Delivered x g ∷ ds) n past = took_unmade ds n past
took_unmade (Merged into from ∷ ds) n past = took_unmade ds n past
took_unmade (Sent from to ∷ ds) n past = rw (ne_eqb n (mails ds + 1) (omega (arith, past))) (took_unmade ds n (omega (arith, past)))
took_unmade (Handed m g true ∷ ds) n past = took_unmade ds n (omega (arith, past))
took_unmade (Handed m g false ∷ ds) n past = took_unmade ds n past

pub state_unmade : (s : Setup) (ds : Deeds) (n : ℕ) → mails ds < n → state_at s ds (InMail n) ≡ empty
unfolding state_at
state_unmade s ds n past = ap (λ ks. state_of key_cmp payload_eq (flat_map (made_points s) (filter_map (made_of (made (starts_of s) ds)) ks))) (took_unmade ds n past)

-- what grows by a join at one place
pub grows_by : (b : Bool) (p q r : Points) → r ≡ cond b (join_points p q) p → IsAtOrBelow join_points p r
grows_by true p q r is = subst (λ (x : Points). IsAtOrBelow join_points p x) (sym is) (points_above p q).0
grows_by false p q r is = subst (λ (x : Points). IsAtOrBelow join_points p x) (sym is) (points_idempotent p)

-- one gateway changes
pub one_moves : (s : Setup) (ds : Deeds) (ns : List NodeModel) (g : ℕ) (was is : NodeModel) → slice_get ns g ≡ Some was → Moves s ds was is
    → (h : ℕ) (x : NodeModel) → slice_get (set ns g is) h ≡ Some x → (old : NodeModel) × (slice_get ns h ≡ Some old) × Moves s ds old x
one_moves s ds ns g was is at moves h x e = elim (in_set ns g is h x e) [
  | inl here ↦ (was, ap (slice_get ns) (sym here.0) ∙ at, subst (λ (y : NodeModel). Moves s ds was y) (sym here.1) moves)
  | inr other ↦ (x, other.1, rests s ds x)
]

-- what peers acknowledged after a message came: what they had, or what an Ack claims
pub acked_moves : (s : Setup) (ds : Deeds) (was is : NodeModel) (m : MessageModel) (from : ℕ) → AreApart s → from < gateways_of s → m.from ≡ slice_index s.gateways from → is.acked ≡ acked_after was m
    → ((k : ℕ) → m.ack ≡ Some k → IsClaimed was (state_at s ds (AtGateway from)) k)
    → (h k : ℕ) → h < gateways_of s → get is.acked (slice_index s.gateways h) ≡ Some k → (get was.acked (slice_index s.gateways h) ≡ Some k) ⊎ IsClaimed was (state_at s ds (AtGateway h)) k
acked_moves s ds was is m from apart from_there is_from after claims h k there has = go m.ack refl
  where
    id : ℕ
    id = slice_index s.gateways h

    now : (o : Option ℕ) → m.ack ≡ o → get (option_map_or (raised_to was.acked m.from) o was.acked) id ≡ Some k
    now o e = ap (λ (x : Option ℕ). get (option_map_or (raised_to was.acked m.from) x was.acked) id) (sym e) ∙ ap (λ (b : FinMap nat_cmp ℕ). get b id) (sym after) ∙ has

    raised : (n : ℕ) → m.ack ≡ Some n → (o : Option ℕ) → get was.acked m.from ≡ o → id ≡ m.from → Some (max (unwrap_or o 0) n) ≡ Some k → (get was.acked id ≡ Some k) ⊎ IsClaimed was (state_at s ds (AtGateway h)) k
    raised n told o held same value = pick o held (same_Some value)
      where
        claimed : IsClaimed was (state_at s ds (AtGateway h)) n
        claimed = subst (λ (x : ℕ). IsClaimed was (state_at s ds (AtGateway x)) n) (apart from h from_there there (sym is_from ∙ sym same)) (claims n told)

        pick : (p : Option ℕ) → get was.acked m.from ≡ p → max (unwrap_or p 0) n ≡ k → (get was.acked id ≡ Some k) ⊎ IsClaimed was (state_at s ds (AtGateway h)) k
        pick None none v = inr (subst (λ (x : ℕ). IsClaimed was (state_at s ds (AtGateway h)) x) (let z : n ≡ k = omega (arith, v) in z) claimed)
        pick (Some b) some v = elim (cases_lt b n) [
          | inl below ↦ inr (subst (λ (x : ℕ). IsClaimed was (state_at s ds (AtGateway h)) x) (let z : n ≡ k = omega (arith, v, below) in z) claimed)
          | inr above ↦ inl (ap (get was.acked) same ∙ some ∙ ap Some (let z : b ≡ k = omega (arith, v, above) in z))
        ]

    go : (o : Option ℕ) → m.ack ≡ o → (get was.acked id ≡ Some k) ⊎ IsClaimed was (state_at s ds (AtGateway h)) k
    go None e = inl (now None e)
    go (Some n) e = split (eq_by_cmp nat_cmp id m.from) refl
      where
        value : ℕ
        value = max (unwrap_or (get was.acked m.from) 0) n

        split : (t : Bool) → eq_by_cmp nat_cmp id m.from ≡ t → (get was.acked id ≡ Some k) ⊎ IsClaimed was (state_at s ds (AtGateway h)) k
        split true tied =
            raised n e (get was.acked m.from) refl (nat_cmp-IsAntisymmetric id m.from ((Equal-is (nat_cmp id m.from)).0 tied))
            (sym (get-insert nat_cmp_total was.acked m.from value id ∙ ap (λ b. cond b (Some value) (get was.acked id)) tied) ∙ now (Some n) e)
        split false apart_ids = inl (sym (get-insert nat_cmp_total was.acked m.from value id ∙ ap (λ b. cond b (Some value) (get was.acked id)) apart_ids) ∙ now (Some n) e)
