-- What gateways do leads a world that stands for deeds to one that stands for them and one more.
use Rattle.std.proofs.Common.{◌≡◌, ◌≢◌, ℕ, ◌+◌, ◌-◌, ◌<◌, ◌≤◌, Bool, true, false, cond, not, is_some, Ok, ◌==◌, List, [], ◌∷◌, ◌++◌, length, slice_get, slice_index, Option, Some, None, refl, sym, ap, subst, ◌∙◌, arith}
use Rattle.std.proofs.Math.ListN.{set}
use Rattle.std.proofs.lemmas.Bool.{eqb-true, eq-eqb, ne_eqb}
use Rattle.std.proofs.lemmas.Option.{slice_get_within}
use Rattle.std.specs.FinMap.{get, empty}
use Rattle.std.specs.Option.{option_map, option_or}
use Rattle.gateway_kit.proofs.Entries.{not_None, same_Some}
use Rattle.gossip_kit.proofs.Carrying.{brings_held}
use Rattle.gossip_kit.specs.Gossip.{CarriesHeld, Brings, Renumbers, acked_after, acknowledged, answer_of, delta_to, hand_fault, numbered_to}
use Rattle.gossip_kit.specs.declared.fault.HandFault.{HandFault}
use Rattle.gossip_kit.specs.declared.fault.HandFault.TheVariants.{NotAddressed as NotAddressedHere}
use Rattle.gossip_kit.specs.Views.{MessageModel, NodeModel}
use Rattle.point_kit.proofs.PointLaws.{points_above, points_idempotent, changed_points-same}
use Rattle.point_kit.specs.declared.export.Export.{Export}
use Rattle.point_kit.specs.Exports.{Points, join_points, changed_points, state}
use Rattle.point_kit.specs.Join.{IsAtOrBelow}
use Rattle.schedule_kit.specs.Deeds.{Holder, IsLawful, Mail, answer_to, made, mails, mail_of, is_to}
use Rattle.schedule_kit.specs.Deeds.Deed.{Delivered, Merged, Sent, Handed}
use Rattle.schedule_kit.specs.Deeds.Holder.{AtGateway, InMail}
use Rattle.schedule_kit.specs.Taken.{made_of}
use Rattle.world_kit.proofs.Claims.{acked_moves, acknowledged_below, answers_delivered, answers_handed, answers_merged, answers_sent_new, answers_sent_old, answers_unmade, asks_for, below_trans, delta_is, gossip_more, gossip_moves, gossip_rests, grows_by, moves_on, numbered_held, one_moves, rests, state_unmade}
use Rattle.world_kit.proofs.Frames.{writers_same, nodes_same, nodes_set, exports_same, mails_same, mails_more}
use Rattle.world_kit.proofs.Replies.{refused_acts, accepted_acts, accepted_wants, guard_true, guard_false, gathered_there, gathered_none, is_within_in, is_within_zero, is_within_past}
use Rattle.world_kit.proofs.StateSteps.{state_delivered, state_merged, state_handed, state_sent, state_sent_new, state_sent_old, mail_delivered, mail_merged, mail_handed, chosen, passed}
use Rattle.world_kit.specs.declared.event.Event.TheVariants as event
use Rattle.world_kit.specs.declared.event.Refusal.TheVariants.{NoGateway, NoExport, NoMail, NotAddressed}
use Rattle.world_kit.specs.declared.event.Reply.TheVariants as reply
use Rattle.world_kit.specs.declared.setup.Setup.{Setup}
use Rattle.world_kit.specs.Claims.{GossipStands, IsClaimed, MailClaims}
use Rattle.world_kit.specs.WorldState.{WorldState}
use Rattle.world_kit.specs.Judged.{Deeds, changed_events, is_within, fits_at, judgement}
use Rattle.world_kit.specs.Setups.{gateways_of, starts_of}
use Rattle.world_kit.specs.Stands.{Acts, NodesStand, Stands, MailStands}
use Rattle.world_kit.specs.States.{state_at}
use Rattle.world_kit.specs.Wanting.{Wants}

-- a world with other nodes
abbrev pub with_nodes : WorldState → List NodeModel → WorldState
with_nodes w ns = record { writers = w.writers; nodes = ns; exports = w.exports; mails = w.mails }

-- a world with other mails
abbrev pub with_mails : WorldState → List MessageModel → WorldState
with_mails w ms = record { writers = w.writers; nodes = w.nodes; exports = w.exports; mails = ms }

-- a world with one mail more
abbrev pub with_mail : WorldState → MessageModel → WorldState
with_mail w m = with_mails w (w.mails ++ m ∷ [])

-- a world with other nodes and mails
abbrev pub with_both : WorldState → List NodeModel → List MessageModel → WorldState
with_both w ns ms = record { writers = w.writers; nodes = ns; exports = w.exports; mails = ms }

-- the mail of a number, which was handed
handed_known : (s : Setup) (ds : Deeds) (n g : ℕ) (mail : Mail) → mail_of ds n ≡ Some mail → n ≤ mails ds → mail_of (Handed n g true ∷ ds) n ≡ Some mail
handed_known s ds n g mail known low = rw (ne_eqb n (mails ds + 1) (omega (arith, low))) known

mail_after : (s : Setup) (ds : Deeds) (ns : List NodeModel) (n : ℕ) (m : MessageModel) (mail : Mail) {ms : List MessageModel} → GossipStands s ds ns ms → 0 < n → slice_get ms (n - 1) ≡ Some m → mail_of ds n ≡ Some mail → MailClaims s ds ns n mail m
mail_after s ds ns n m mail st low at known = let back : n - 1 + 1 ≡ n = omega (arith, low) in subst (λ (k : ℕ). MailClaims s ds ns k mail m) back (st.mails (n - 1) m mail at (ap (mail_of ds) back ∙ known))

module _ (w : WorldState) where
  pub deliver_nowhere : (x g : ℕ) → length w.nodes ≤ g → Acts (event.Deliver x g) w (reply.Refused NoGateway) w
  deliver_nowhere x g past = refused_acts _ w NoGateway (λ s ds st. gathered_none s g _ (let c = st.nodes.count in omega arith))

  no_export : (x g : ℕ) → g < length w.nodes → ((s : Setup) (ds : Deeds) → Stands s ds w → is_within x (length (made (starts_of s) ds)) ≡ false) → Acts (event.Deliver x g) w (reply.Refused NoExport) w
  no_export x g there not = refused_acts _ w NoExport (λ s ds st. gathered_there s g _ (let c = st.nodes.count in omega arith) ∙ guard_false _ NoExport _ (not s ds st))

  pub deliver_zero : (x g : ℕ) → g < length w.nodes → x ≡ 0 → Acts (event.Deliver x g) w (reply.Refused NoExport) w
  deliver_zero x g there zero = no_export x g there (λ s ds st. is_within_zero x _ zero)

  pub deliver_past : (x g : ℕ) → g < length w.nodes → length w.exports < x → Acts (event.Deliver x g) w (reply.Refused NoExport) w
  deliver_past x g there past = no_export x g there (λ s ds st. is_within_past x _ (let c = st.exports.count in omega arith))

  deliver_is : (x g : ℕ) → g < length w.nodes → 0 < x → x ≤ length w.exports → (s : Setup) (ds : Deeds) → Stands s ds w → judgement s ds (event.Deliver x g) ≡ Ok (Delivered x g)
  deliver_is x g there low high s ds st = let nodes = st.nodes.count in let exports = st.exports.count in gathered_there s g _ (omega arith) ∙ guard_true _ NoExport _ (is_within_in x _ low (omega arith))

  pub deliver_wants : (x g : ℕ) → g < length w.nodes → 0 < x → x ≤ length w.exports → Wants (event.Deliver x g) w
  deliver_wants x g there low high = accepted_wants _ w (Delivered x g) (deliver_is x g there low high)

  -- an export comes to a gateway
  pub delivers : (x g changed : ℕ) (e : Export) (was is : NodeModel) → 0 < x → slice_get w.exports (x - 1) ≡ Some e → slice_get w.nodes g ≡ Some was
      → is.gateway.id ≡ was.gateway.id → is.gateway.points ≡ join_points was.gateway.points (state (e ∷ [])) → changed ≡ changed_points was.gateway.points is.gateway.points
      → Renumbers was is → is.acked ≡ was.acked → Acts (event.Deliver x g) w (reply.Changed changed) (with_nodes w (set w.nodes g is))
  delivers x g changed e was is low at_x at_g same_id joined count numbers acked = accepted_acts _ w (with_nodes w (set w.nodes g is)) _ (Delivered x g) (λ s ds st.
      let here : g < length w.nodes = slice_get_within w.nodes g was at_g in
      let high : x - 1 < length w.exports = slice_get_within w.exports (x - 1) e at_x in
      let its = st.exports.each (x - 1) e at_x in
      let back : x - 1 + 1 ≡ x = omega arith in
      let found = ap (λ k. made_of (made (starts_of s) ds) k) (sym back) ∙ its.1 in
      let nodes = st.nodes.count in
      let exports = st.exports.count in
      let now : is.gateway.points ≡ state_at s (Delivered x g ∷ ds) (AtGateway g) =
      joined ∙ ap (λ p. join_points p (state (e ∷ []))) (st.nodes.points g was at_g) ∙ sym (state_delivered s ds x g its.0 e found its.2 g ∙ chosen g _ _) in
      let stood = nodes_set s ds (Delivered x g ∷ ds) w.nodes g was is at_g same_id now (λ h other. state_delivered s ds x g its.0 e found its.2 h ∙ passed g h _ _ other) st.nodes in (
        deliver_is x g here low (omega arith) s ds st,
        record {
          apart = st.apart;
          plans = st.plans;
          lawful = ((low, omega arith, omega arith), st.lawful);
          writers = writers_same s ds (Delivered x g ∷ ds) w.writers (λ i. refl) st.writers;
          nodes = stood;
          exports = exports_same s ds (Delivered x g ∷ ds) w.exports refl st.exports;
          mails = mails_same s ds (Delivered x g ∷ ds) w.mails refl (λ n h. refl) st.mails;
          gossip = gossip_moves s ds (Delivered x g) w.nodes (set w.nodes g is) w.mails st.nodes stood st.mails.count (λ h. grows_by (g == h) _ _ _ (state_delivered s ds x g its.0 e found its.2 h))
              (λ n h. mail_delivered s ds x g n) (λ n h. refl) (λ n h. answers_delivered s ds x g n) (one_moves s ds w.nodes g was is at_g (moves_on s ds was is numbers acked)) st.gossip;
        },
        ap (λ n. reply.Changed n) (count ∙ ap (λ p. changed_points p is.gateway.points) (st.nodes.points g was at_g) ∙ ap (changed_points (state_at s ds (AtGateway g))) now),
      ))

  pub merge_nowhere : (into from : ℕ) → length w.nodes ≤ into → Acts (event.Merge into from) w (reply.Refused NoGateway) w
  merge_nowhere into from past = refused_acts _ w NoGateway (λ s ds st. gathered_none s into _ (let c = st.nodes.count in omega arith))

  pub merge_none : (into from : ℕ) → into < length w.nodes → length w.nodes ≤ from → Acts (event.Merge into from) w (reply.Refused NoGateway) w
  merge_none into from there past = refused_acts _ w NoGateway (λ s ds st. let c = st.nodes.count in gathered_there s into _ (omega arith) ∙ gathered_none s from _ (omega arith))

  merge_is : (into from : ℕ) → into < length w.nodes → from < length w.nodes → (s : Setup) (ds : Deeds) → Stands s ds w → judgement s ds (event.Merge into from) ≡ Ok (Merged into from)
  merge_is into from here there s ds st = let nodes = st.nodes.count in gathered_there s into _ (omega arith) ∙ gathered_there s from _ (omega arith)

  pub merge_wants : (into from : ℕ) → into < length w.nodes → from < length w.nodes → Wants (event.Merge into from) w
  merge_wants into from here there = accepted_wants _ w (Merged into from) (merge_is into from here there)

  -- a gateway joins what another one holds
  pub merges : (into from changed : ℕ) (was is other : NodeModel) → slice_get w.nodes into ≡ Some was → slice_get w.nodes from ≡ Some other
      → is.gateway.id ≡ was.gateway.id → is.gateway.points ≡ join_points was.gateway.points other.gateway.points → changed ≡ changed_points was.gateway.points is.gateway.points
      → Renumbers was is → is.acked ≡ was.acked → Acts (event.Merge into from) w (reply.Changed changed) (with_nodes w (set w.nodes into is))
  merges into from changed was is other at_into at_from same_id joined count numbers acked = accepted_acts _ w (with_nodes w (set w.nodes into is)) _ (Merged into from) (λ s ds st.
      let here : into < length w.nodes = slice_get_within w.nodes into was at_into in
      let there : from < length w.nodes = slice_get_within w.nodes from other at_from in
      let nodes = st.nodes.count in
      let now : is.gateway.points ≡ state_at s (Merged into from ∷ ds) (AtGateway into) =
      joined ∙ ap (λ p. join_points p other.gateway.points) (st.nodes.points into was at_into) ∙ ap (join_points (state_at s ds (AtGateway into))) (st.nodes.points from other at_from)
      ∙ sym (state_merged s ds into from into ∙ chosen into _ _) in
      let stood = nodes_set s ds (Merged into from ∷ ds) w.nodes into was is at_into same_id now (λ h apart. state_merged s ds into from h ∙ passed into h _ _ apart) st.nodes in (
        merge_is into from here there s ds st,
        record {
          apart = st.apart;
          plans = st.plans;
          lawful = ((omega arith, omega arith), st.lawful);
          writers = writers_same s ds (Merged into from ∷ ds) w.writers (λ i. refl) st.writers;
          nodes = stood;
          exports = exports_same s ds (Merged into from ∷ ds) w.exports refl st.exports;
          mails = mails_same s ds (Merged into from ∷ ds) w.mails refl (λ n h. refl) st.mails;
          gossip = gossip_moves s ds (Merged into from) w.nodes (set w.nodes into is) w.mails st.nodes stood st.mails.count (λ h. grows_by (into == h) _ _ _ (state_merged s ds into from h))
              (λ n h. mail_merged s ds into from n) (λ n h. refl) (λ n h. answers_merged s ds into from n) (one_moves s ds w.nodes into was is at_into (moves_on s ds was is numbers acked)) st.gossip;
        },
        ap (λ n. reply.Changed n) (count ∙ ap (λ p. changed_points p is.gateway.points) (st.nodes.points into was at_into) ∙ ap (changed_points (state_at s ds (AtGateway into))) now),
      ))

  merged_same : (s : Setup) (ds : Deeds) (g h : ℕ) → state_at s (Merged g g ∷ ds) (AtGateway h) ≡ state_at s ds (AtGateway h)
  merged_same s ds g h = state_merged s ds g g h ∙ elim (g == h) as (λ b. (g == h) ≡ b → cond b (join_points (state_at s ds (AtGateway h)) (state_at s ds (AtGateway g))) (state_at s ds (AtGateway h)) ≡ state_at s ds (AtGateway h)) [
    | true ↦ λ e. ap (λ v. join_points (state_at s ds (AtGateway h)) (state_at s ds (AtGateway v))) (eqb-true g h e) ∙ points_idempotent (state_at s ds (AtGateway h))
    | false ↦ λ e. refl
  ] refl

  merged_alike : (s : Setup) (ds : Deeds) (g : ℕ) (h : Holder) → state_at s (Merged g g ∷ ds) h ≡ state_at s ds h
  merged_alike s ds g (AtGateway h) = merged_same s ds g h
  merged_alike s ds g (InMail n) = mail_merged s ds g g n

  -- a gateway merged with itself is as it was
  pub merges_itself : (into from : ℕ) → into < length w.nodes → into ≡ from → Acts (event.Merge into from) w (reply.Changed 0) w
  merges_itself into from here same = subst (λ (v : ℕ). Acts (event.Merge into v) w (reply.Changed 0) w) same (accepted_acts _ w w _ (Merged into into) (λ s ds st.
      let nodes = st.nodes.count in (
        merge_is into into here here s ds st,
        record {
          apart = st.apart;
          plans = st.plans;
          lawful = ((omega arith, omega arith), st.lawful);
          writers = writers_same s ds (Merged into into ∷ ds) w.writers (λ i. refl) st.writers;
          nodes = nodes_same s ds (Merged into into ∷ ds) w.nodes (merged_same s ds into) st.nodes;
          exports = exports_same s ds (Merged into into ∷ ds) w.exports refl st.exports;
          mails = mails_same s ds (Merged into into ∷ ds) w.mails refl (λ n h. refl) st.mails;
          gossip = gossip_rests s ds (Merged into into) w.nodes w.mails st.nodes st.mails (merged_alike s ds into) (λ n. refl) (λ n. answers_merged s ds into into n) st.gossip;
        },
        ap (λ n. reply.Changed n) (sym (ap (changed_points (state_at s ds (AtGateway into))) (merged_same s ds into into) ∙ changed_points-same (state_at s ds (AtGateway into)))),
      )))

  pub send_nowhere : (from to : ℕ) → length w.nodes ≤ from → Acts (event.Send from to) w (reply.Refused NoGateway) w
  send_nowhere from to past = refused_acts _ w NoGateway (λ s ds st. gathered_none s from _ (let c = st.nodes.count in omega arith))

  pub send_none : (from to : ℕ) → from < length w.nodes → length w.nodes ≤ to → Acts (event.Send from to) w (reply.Refused NoGateway) w
  send_none from to there past = refused_acts _ w NoGateway (λ s ds st. let c = st.nodes.count in gathered_there s from _ (omega arith) ∙ gathered_none s to _ (omega arith))

  send_is : (from to : ℕ) → from < length w.nodes → to < length w.nodes → (s : Setup) (ds : Deeds) → Stands s ds w → judgement s ds (event.Send from to) ≡ Ok (Sent from to)
  send_is from to here there s ds st = let nodes = st.nodes.count in gathered_there s from _ (omega arith) ∙ gathered_there s to _ (omega arith)

  pub send_wants : (from to : ℕ) → from < length w.nodes → to < length w.nodes → Wants (event.Send from to) w
  send_wants from to here there = accepted_wants _ w (Sent from to) (send_is from to here there)

  -- a gateway makes a mail to another
  pub sends : (from to : ℕ) (sender receiver : NodeModel) (m : MessageModel) → slice_get w.nodes from ≡ Some sender → slice_get w.nodes to ≡ Some receiver
      → m.from ≡ sender.gateway.id → m.to ≡ receiver.gateway.id → m.delta ≡ delta_to sender → m.ack ≡ None → CarriesHeld m.points sender.gateway.points → Brings m.points (acknowledged sender m.to) sender.gateway.points
      → Acts (event.Send from to) w (reply.Sent (length w.mails + 1)) (with_mail w m)
  sends from to sender receiver m at_from at_to comes goes asks tells held brings = accepted_acts _ w (with_mail w m) _ (Sent from to) (λ s ds st.
      let here : from < length w.nodes = slice_get_within w.nodes from sender at_from in
      let there : to < length w.nodes = slice_get_within w.nodes to receiver at_to in
      let nodes = st.nodes.count in
      let new = Sent from to ∷ ds in
      let mail : Mail = record { from = from; to = to; is_sent = true } in
      let known : mail_of new (mails ds + 1) ≡ Some mail = rw (eq-eqb (mails ds + 1) (mails ds + 1) refl) refl in
      let older : (n : ℕ) → n ≤ mails ds → mail_of new n ≡ mail_of ds n = λ n h. rw (ne_eqb n (mails ds + 1) (omega arith)) refl in
      let stood = nodes_same s ds new w.nodes (λ g. state_sent s ds from to g) st.nodes in
      let to_is : m.to ≡ slice_index s.gateways to = goes ∙ st.nodes.id to receiver at_to in
      let sent : sender.gateway.points ≡ state_at s new (InMail (mails ds + 1)) = st.nodes.points from sender at_from ∙ sym (state_sent_new s ds from to) in
      let told : IsAtOrBelow join_points (acknowledged sender m.to) (state_at s ds (AtGateway to)) =
      acknowledged_below sender m.to (state_at s ds (AtGateway to)) (λ k is. (st.gossip.books from to k sender at_from (omega arith) (ap (get sender.acked) (sym to_is) ∙ is)).covers) in
      let claims : MailClaims s new w.nodes (mails ds + 1) mail m = record {
        from_there = omega arith;
        brings = ap (λ p. join_points p m.points) (state_sent s ds from to to) ∙ brings_held m.points (acknowledged sender m.to) sender.gateway.points (state_at s ds (AtGateway to)) held brings told
            ∙ (λ i. join_points (sym (state_sent s ds from to to) i) (sent i));
        answered = answers_sent_new s ds from to ∙ asks_for sender (changed_events s ds from) (st.gossip.change from sender at_from) ∙ ap is_some (sym asks);
        delta = λ k node is at.
            let same : sender ≡ node = same_Some (sym at_from ∙ at) in
            let number = delta_is sender k (sym asks ∙ is) in
            subst (λ (x : NodeModel). IsClaimed x (state_at s new (InMail (mails ds + 1))) k) same
            (subst (λ (p : Points). IsClaimed sender p k) sent (record { covers = numbered_held sender k; past = let e = number.0 in omega (arith, e); small = let e = number.0 in let l = number.1 in omega (arith, e, l) }));
        ack = λ k node is at. absurd (not_None (sym tells ∙ is));
      } in (
        send_is from to here there s ds st,
        record {
          apart = st.apart;
          plans = st.plans;
          lawful = ((omega arith, omega arith), st.lawful);
          writers = writers_same s ds (Sent from to ∷ ds) w.writers (λ i. refl) st.writers;
          nodes = stood;
          exports = exports_same s ds (Sent from to ∷ ds) w.exports refl st.exports;
          mails = mails_more s ds (Sent from to ∷ ds) w.mails m refl older (record { mail = mail; known = known; from = comes ∙ st.nodes.id from sender at_from; to = to_is; there = omega arith }) st.mails;
          gossip = gossip_more s new w.nodes w.mails m mail (ap (λ n. mail_of new (n + 1)) st.mails.count ∙ known) (subst (λ (n : ℕ). MailClaims s new w.nodes (n + 1) mail m) (sym st.mails.count) claims)
              (gossip_moves s ds (Sent from to) w.nodes w.nodes w.mails st.nodes stood st.mails.count (λ g. ap (join_points (state_at s ds (AtGateway g))) (state_sent s ds from to g) ∙ points_idempotent (state_at s ds (AtGateway g)) ∙ sym (state_sent s ds from to g))
              (λ n h. state_sent_old s ds from to n h) older (λ n h. answers_sent_old s ds from to n h) (λ g is at. (is, at, rests s ds is)) st.gossip);
        },
        ap (λ n. reply.Sent (n + 1)) st.mails.count,
      ))

  pub hand_nowhere : (n g : ℕ) → length w.nodes ≤ g → Acts (event.Hand n g) w (reply.Refused NoGateway) w
  hand_nowhere n g past = refused_acts _ w NoGateway (λ s ds st. gathered_none s g _ (let c = st.nodes.count in omega arith))

  no_mail : (n g : ℕ) → g < length w.nodes → ((s : Setup) (ds : Deeds) → Stands s ds w → is_within n (mails ds) ≡ false) → Acts (event.Hand n g) w (reply.Refused NoMail) w
  no_mail n g there not = refused_acts _ w NoMail (λ s ds st. gathered_there s g _ (let c = st.nodes.count in omega arith) ∙ guard_false _ NoMail _ (not s ds st))

  pub hand_zero : (n g : ℕ) → g < length w.nodes → n ≡ 0 → Acts (event.Hand n g) w (reply.Refused NoMail) w
  hand_zero n g there zero = no_mail n g there (λ s ds st. is_within_zero n _ zero)

  pub hand_past : (n g : ℕ) → g < length w.nodes → length w.mails < n → Acts (event.Hand n g) w (reply.Refused NoMail) w
  hand_past n g there past = no_mail n g there (λ s ds st. is_within_past n _ (let c = st.mails.count in omega arith))

  its_mail : (s : Setup) (ds : Deeds) (n : ℕ) (m : MessageModel) → Stands s ds w → 0 < n → slice_get w.mails (n - 1) ≡ Some m → MailStands s ds n m
  its_mail s ds n m st low at_n = let back : n - 1 + 1 ≡ n = omega arith in subst (λ (k : ℕ). MailStands s ds k m) back (st.mails.each (n - 1) m at_n)

  addressed : (n g : ℕ) (m : MessageModel) (at : NodeModel) → 0 < n → slice_get w.mails (n - 1) ≡ Some m → slice_get w.nodes g ≡ Some at → m.to ≡ at.gateway.id → (s : Setup) (ds : Deeds) → Stands s ds w → is_to g (mail_of ds n) ≡ true
  addressed n g m at low at_n at_g goes s ds st =
      let here : g < length w.nodes = slice_get_within w.nodes g at at_g in
      let nodes = st.nodes.count in
      let its = its_mail s ds n m st low at_n in
      let same : its.mail.to ≡ g = st.apart its.mail.to g its.there (omega arith) (sym its.to ∙ goes ∙ st.nodes.id g at at_g) in
      ap (is_to g) its.known ∙ eq-eqb its.mail.to g same

  -- a mail that was sent to another gateway
  pub hand_other : (n g : ℕ) (m : MessageModel) (at : NodeModel) → 0 < n → slice_get w.mails (n - 1) ≡ Some m → slice_get w.nodes g ≡ Some at → m.to ≢ at.gateway.id → Acts (event.Hand n g) w (reply.Refused NotAddressed) w
  hand_other n g m at low at_n at_g other = refused_acts _ w NotAddressed (λ s ds st.
      let here : g < length w.nodes = slice_get_within w.nodes g at at_g in
      let high : n - 1 < length w.mails = slice_get_within w.mails (n - 1) m at_n in
      let nodes = st.nodes.count in
      let count = st.mails.count in
      let its = its_mail s ds n m st low at_n in
      let not : its.mail.to ≢ g = λ e. other (its.to ∙ ap (slice_index s.gateways) e ∙ sym (st.nodes.id g at at_g)) in
      gathered_there s g _ (omega arith) ∙ guard_true _ NoMail _ (is_within_in n _ low (omega arith))
      ∙ guard_false _ NotAddressed _ (ap (is_to g) its.known ∙ ne_eqb its.mail.to g not))

  its_claims : (s : Setup) (ds : Deeds) (n : ℕ) (m : MessageModel) (st : Stands s ds w) (low : 0 < n) (at_n : slice_get w.mails (n - 1) ≡ Some m) → MailClaims s ds w.nodes n (its_mail s ds n m st low at_n).mail m
  its_claims s ds n m st low at_n =
      let its = its_mail s ds n m st low at_n in
      let back : n - 1 + 1 ≡ n = omega arith in
      subst (λ (k : ℕ). MailClaims s ds w.nodes k its.mail m) back (st.gossip.mails (n - 1) m its.mail at_n (ap (mail_of ds) back ∙ its.known))

  hand_is : (n g : ℕ) (m : MessageModel) (at : NodeModel) → 0 < n → slice_get w.mails (n - 1) ≡ Some m → slice_get w.nodes g ≡ Some at → m.to ≡ at.gateway.id
      → (s : Setup) (ds : Deeds) → Stands s ds w → judgement s ds (event.Hand n g) ≡ Ok (Handed n g (is_some m.delta))
  hand_is n g m at low at_n at_g goes s ds st =
      let here : g < length w.nodes = slice_get_within w.nodes g at at_g in
      let high : n - 1 < length w.mails = slice_get_within w.mails (n - 1) m at_n in
      let nodes = st.nodes.count in
      let count = st.mails.count in
      gathered_there s g _ (omega arith) ∙ guard_true _ NoMail _ (is_within_in n _ low (omega arith)) ∙ guard_true _ NotAddressed _ (addressed n g m at low at_n at_g goes s ds st)
      ∙ ap (λ b. Ok (Handed n g b)) (its_claims s ds n m st low at_n).answered

  pub hand_wants : (n g : ℕ) (m : MessageModel) (at : NodeModel) → 0 < n → slice_get w.mails (n - 1) ≡ Some m → slice_get w.nodes g ≡ Some at → m.to ≡ at.gateway.id → Wants (event.Hand n g) w
  hand_wants n g m at low at_n at_g goes = accepted_wants _ w (Handed n g (is_some m.delta)) (hand_is n g m at low at_n at_g goes)

  -- a mail comes to its gateway: what is so whether it is answered or not
  module _ (n g : ℕ) (m : MessageModel) (was is : NodeModel) (low : 0 < n) (at_n : slice_get w.mails (n - 1) ≡ Some m) (at_g : slice_get w.nodes g ≡ Some was) (goes : m.to ≡ was.gateway.id)
      (same_id : is.gateway.id ≡ was.gateway.id) (joined : is.gateway.points ≡ join_points was.gateway.points m.points) (numbers : Renumbers was is) (acked : is.acked ≡ acked_after was m) (a : Bool) (asks : is_some m.delta ≡ a) where
    module _ (s : Setup) (ds : Deeds) (st : Stands s ds w) where
      hand_here : g < length w.nodes
      hand_here = slice_get_within w.nodes g was at_g

      hand_within : n ≤ mails ds
      hand_within = let high : n - 1 < length w.mails = slice_get_within w.mails (n - 1) m at_n in let count = st.mails.count in omega arith

      abbrev hand_its : MailStands s ds n m
      hand_its = its_mail s ds n m st low at_n

      hand_claims : MailClaims s ds w.nodes n hand_its.mail m
      hand_claims = its_claims s ds n m st low at_n

      hand_same : hand_its.mail.to ≡ g
      hand_same = let nodes = st.nodes.count in st.apart hand_its.mail.to g hand_its.there (let h = hand_here in omega arith) (sym hand_its.to ∙ goes ∙ st.nodes.id g was at_g)

      hand_accepted : judgement s ds (event.Hand n g) ≡ Ok (Handed n g a)
      hand_accepted = hand_is n g m was low at_n at_g goes s ds st ∙ ap (λ b. Ok (Handed n g b)) asks

      hand_now : is.gateway.points ≡ state_at s (Handed n g a ∷ ds) (AtGateway g)
      hand_now =
          joined ∙ ap (λ p. join_points p m.points) (st.nodes.points g was at_g ∙ ap (λ v. state_at s ds (AtGateway v)) (sym hand_same)) ∙ hand_claims.brings
          ∙ ap (λ v. join_points (state_at s ds (AtGateway v)) (state_at s ds (InMail n))) hand_same ∙ sym (state_handed s ds n g g a ∙ chosen g _ _)

      hand_stood : NodesStand s (Handed n g a ∷ ds) (set w.nodes g is)
      hand_stood = nodes_set s ds (Handed n g a ∷ ds) w.nodes g was is at_g same_id hand_now (λ h other. state_handed s ds n g h a ∙ passed g h _ _ other) st.nodes

      hand_moved : GossipStands s (Handed n g a ∷ ds) (set w.nodes g is) w.mails
      hand_moved = gossip_moves s ds (Handed n g a) w.nodes (set w.nodes g is) w.mails st.nodes hand_stood st.mails.count (λ h. grows_by (g == h) _ _ _ (state_handed s ds n g h a))
          (λ k h. mail_handed s ds n g k a) (λ k h. handed_old k h a) (λ k h. answers_handed s ds n g k a)
          (one_moves s ds w.nodes g was is at_g (record { renumbers = numbers; books = acked_moves s ds was is m hand_its.mail.from st.apart hand_claims.from_there hand_its.from acked (λ k told. hand_claims.ack k was told (ap (slice_get w.nodes) hand_same ∙ at_g)) })) st.gossip
        where
          handed_old : (k : ℕ) → k ≤ mails ds → (b : Bool) → mail_of (Handed n g b ∷ ds) k ≡ mail_of ds k
          handed_old k h true = rw (ne_eqb k (mails ds + 1) (omega arith)) refl
          handed_old k h false = refl

      hand_lawful : IsLawful (fits_at s) (starts_of s) (gateways_of s) ds (Handed n g a)
      hand_lawful = let nodes = st.nodes.count in let h = hand_here in (low, hand_within, omega arith, addressed n g m was low at_n at_g goes s ds st)

  -- a mail that is not answered
  pub hands : (n g : ℕ) (m : MessageModel) (was is : NodeModel) → 0 < n → slice_get w.mails (n - 1) ≡ Some m → slice_get w.nodes g ≡ Some was → m.to ≡ was.gateway.id
      → is.gateway.id ≡ was.gateway.id → is.gateway.points ≡ join_points was.gateway.points m.points → Renumbers was is → is.acked ≡ acked_after was m → m.delta ≡ None
      → Acts (event.Hand n g) w (reply.Handed None) (with_nodes w (set w.nodes g is))
  hands n g m was is low at_n at_g goes same_id joined numbers acked asks = accepted_acts _ w (with_nodes w (set w.nodes g is)) _ (Handed n g false) (λ s ds st.
      let none : is_some m.delta ≡ false = ap is_some asks in (
        hand_accepted n g m was is low at_n at_g goes same_id joined numbers acked false none s ds st,
        record {
          apart = st.apart;
          plans = st.plans;
          lawful = (hand_lawful n g m was is low at_n at_g goes same_id joined numbers acked false none s ds st, st.lawful);
          writers = writers_same s ds (Handed n g false ∷ ds) w.writers (λ i. refl) st.writers;
          nodes = hand_stood n g m was is low at_n at_g goes same_id joined numbers acked false none s ds st;
          exports = exports_same s ds (Handed n g false ∷ ds) w.exports refl st.exports;
          mails = mails_same s ds (Handed n g false ∷ ds) w.mails refl (λ k h. refl) st.mails;
          gossip = hand_moved n g m was is low at_n at_g goes same_id joined numbers acked false none s ds st;
        },
        refl,
      ))

  -- a delta, whose answer is the next mail
  pub hands_delta : (n g k : ℕ) (m answer : MessageModel) (was is : NodeModel) → 0 < n → slice_get w.mails (n - 1) ≡ Some m → slice_get w.nodes g ≡ Some was → m.to ≡ was.gateway.id
      → is.gateway.id ≡ was.gateway.id → is.gateway.points ≡ join_points was.gateway.points m.points → Renumbers was is → is.acked ≡ acked_after was m → m.delta ≡ Some k
      → answer ≡ record { from = was.gateway.id; to = m.from; points = empty; delta = None; ack = Some k }
      → Acts (event.Hand n g) w (reply.Handed (Some (length w.mails + 1))) (with_both w (set w.nodes g is) (w.mails ++ answer ∷ []))
  hands_delta n g k m answer was is low at_n at_g goes same_id joined numbers acked asks is_answer = accepted_acts _ w (with_both w (set w.nodes g is) (w.mails ++ answer ∷ [])) _ (Handed n g true) (λ s ds st.
      let some : is_some m.delta ≡ true = ap is_some asks in
      let new = Handed n g true ∷ ds in
      let its = hand_its n g m was is low at_n at_g goes same_id joined numbers acked true some s ds st in
      let claims = hand_claims n g m was is low at_n at_g goes same_id joined numbers acked true some s ds st in
      let stood = hand_stood n g m was is low at_n at_g goes same_id joined numbers acked true some s ds st in
      let moved = hand_moved n g m was is low at_n at_g goes same_id joined numbers acked true some s ds st in
      let here : g < length w.nodes = slice_get_within w.nodes g was at_g in
      let nodes = st.nodes.count in
      let mail : Mail = record { from = g; to = its.mail.from; is_sent = false } in
      let known : mail_of new (mails ds + 1) ≡ Some mail = rw (eq-eqb (mails ds + 1) (mails ds + 1) refl) (ap (answer_to g) its.known) in
      let nothing : state_at s new (InMail (mails ds + 1)) ≡ empty = mail_handed s ds n g (mails ds + 1) true ∙ state_unmade s ds (mails ds + 1) (omega arith) in
      let carried : state_at s new (InMail n) ≡ state_at s ds (InMail n) = mail_handed s ds n g n true in
      let its_claims : MailClaims s new (set w.nodes g is) (mails ds + 1) mail answer = record {
        from_there = omega arith;
        brings = ap (join_points (state_at s new (AtGateway its.mail.from))) (ap (λ (x : MessageModel). x.points) is_answer ∙ sym nothing);
        answered = answers_handed s ds n g (mails ds + 1) true ∙ answers_unmade s ds (mails ds + 1) (omega arith) ∙ ap (λ (x : MessageModel). is_some x.delta) (sym is_answer);
        delta = λ j node has at. absurd (not_None (sym (ap (λ (x : MessageModel). x.delta) is_answer) ∙ has));
        ack = λ j node has at.
            let number : k ≡ j = same_Some (sym (ap (λ (x : MessageModel). x.ack) is_answer) ∙ has) in
            let claimed : IsClaimed node (state_at s new (InMail n)) k = (mail_after s new (set w.nodes g is) n m its.mail moved low at_n (handed_known s ds n g its.mail its.known (hand_within n g m was is low at_n at_g goes same_id joined numbers acked true some s ds st))).delta k node asks at in
            let above : IsAtOrBelow join_points (state_at s new (InMail n)) (state_at s new (AtGateway g)) =
            ap (λ p. join_points p (state_at s new (AtGateway g))) carried ∙ ap (join_points (state_at s ds (InMail n))) (state_handed s ds n g g true ∙ chosen g _ _)
            ∙ (points_above (state_at s ds (AtGateway g)) (state_at s ds (InMail n))).1 ∙ sym (state_handed s ds n g g true ∙ chosen g _ _) in
            subst (λ (x : ℕ). IsClaimed node (state_at s new (AtGateway g)) x) number
            (record { covers = below_trans (numbered_to node k) (state_at s new (InMail n)) (state_at s new (AtGateway g)) claimed.covers above; past = claimed.past; small = claimed.small });
      } in (
        hand_accepted n g m was is low at_n at_g goes same_id joined numbers acked true some s ds st,
        record {
          apart = st.apart;
          plans = st.plans;
          lawful = (hand_lawful n g m was is low at_n at_g goes same_id joined numbers acked true some s ds st, st.lawful);
          writers = writers_same s ds new w.writers (λ i. refl) st.writers;
          nodes = stood;
          exports = exports_same s ds new w.exports refl st.exports;
          mails = mails_more s ds new w.mails answer refl (λ j h. rw (ne_eqb j (mails ds + 1) (omega arith)) refl)
              (record { mail = mail; known = known; from = ap (λ (x : MessageModel). x.from) is_answer ∙ st.nodes.id g was at_g; to = ap (λ (x : MessageModel). x.to) is_answer ∙ its.from; there = claims.from_there }) st.mails;
          gossip = gossip_more s new (set w.nodes g is) w.mails answer mail (ap (λ j. mail_of new (j + 1)) st.mails.count ∙ known) (subst (λ (j : ℕ). MailClaims s new (set w.nodes g is) (j + 1) mail answer) (sym st.mails.count) its_claims) moved;
        },
        ap (λ j. reply.Handed (Some (j + 1))) st.mails.count,
      ))

-- a message that is refused as not addressed goes elsewhere
pub goes_elsewhere : (n : NodeModel) (m : MessageModel) (f : HandFault) → hand_fault n m ≡ Some f → m.to ≢ n.gateway.id
unfolding hand_fault
goes_elsewhere n m f h same = let none : None ≡ Some f = sym (rw (eq-eqb m.to n.gateway.id same) refl) ∙ h in cc

-- one that is not refused comes to its gateway
pub comes_here : (n : NodeModel) (m : MessageModel) → hand_fault n m ≡ None → m.to ≡ n.gateway.id
unfolding hand_fault
comes_here n m h = elim (m.to == n.gateway.id) as (λ b. (m.to == n.gateway.id) ≡ b → option_or (cond (not b) (Some NotAddressedHere) None) None ≡ None → m.to ≡ n.gateway.id) [
  | true ↦ λ e _. eqb-true m.to n.gateway.id e
  | false ↦ λ e some. cc
] refl h

-- only a delta is answered, by an Ack of its number
pub answer_none : (n : NodeModel) (m : MessageModel) → answer_of n m ≡ None → m.delta ≡ None
answer_none n m h = go m.delta refl
  where
    go : (o : Option ℕ) → m.delta ≡ o → m.delta ≡ None
    go None e = e
    go (Some k) e = absurd (not_None (sym h ∙ ap (option_map (λ j. record { from = n.gateway.id; to = m.from; points = empty; delta = None; ack = Some j })) e))

pub answer_some : (n : NodeModel) (m a : MessageModel) → answer_of n m ≡ Some a → (k : ℕ) × (m.delta ≡ Some k) × (a ≡ record { from = n.gateway.id; to = m.from; points = empty; delta = None; ack = Some k })
answer_some n m a h = go m.delta refl
  where
    to_answer : Option ℕ → Option MessageModel
    to_answer o = option_map (λ j. record { from = n.gateway.id; to = m.from; points = empty; delta = None; ack = Some j }) o

    go : (o : Option ℕ) → m.delta ≡ o → (k : ℕ) × (m.delta ≡ Some k) × (a ≡ record { from = n.gateway.id; to = m.from; points = empty; delta = None; ack = Some k })
    go None e = absurd (not_None (sym (ap to_answer e) ∙ h))
    go (Some k) e = (k, e, same_Some (sym h ∙ ap to_answer e))
