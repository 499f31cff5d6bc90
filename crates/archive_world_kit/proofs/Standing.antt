-- What stands after each step of a history: what nodes show, and what mails and books claim of it.
use Rattle.std.proofs.Common.{◌≡◌, ◌≢◌, ℕ, ◌<◌, ◌≤◌, Bool, true, false, cond, ◌==◌, ◌⊎◌, inl, inr, List, [], ◌∷◌, Some, refl, sym, ap, subst, ◌∙◌, true≢false}
use Rattle.std.proofs.lemmas.Bool.{eqb-true, eq-eqb}
use Rattle.std.specs.FinMap.{get}
use Rattle.archive_world_kit.proofs.Numbers.{Moves, stays}
use Rattle.archive_world_kit.proofs.Shown.{S, Below, below_trans, brings_more, plain_below}
use Rattle.archive_world_kit.specs.Steps.{Step, Writing, Seen, deeds, OthersStay, points_at, state_at}
use Rattle.gossip_kit.specs.Gossip.{last_number, numbered_to}
use Rattle.gossip_kit.specs.Views.{NodeModel}
use Rattle.point_kit.proofs.PointLaws.{points_above, points_idempotent}
use Rattle.point_kit.specs.Exports.{Points, join_points}
use Rattle.point_kit.specs.Join.{IsAtOrBelow}
use Rattle.schedule_kit.specs.Deeds.{Holder, Mail, mails, mail_of, took}
use Rattle.schedule_kit.specs.Deeds.Holder.{AtGateway, InMail}

-- the points show every cell that a node holds now under a number up to n, which the node has counted
pub record Claimed (node : NodeModel) (points : Points) (n : ℕ) : Type 0 where
  pub covers : Below (numbered_to node n) points
  pub past : n ≤ node.change
  pub small : n < last_number

pub claim_moves : (old new : NodeModel) (p q : Points) (n : ℕ) → Moves old new → Below p q → Claimed old p n → Claimed new q n
claim_moves old new p q n moves grows is = record {
  covers = below_trans (numbered_to new n) (numbered_to old n) q (plain_below _ _ (moves.sinks n is.past is.small)) (below_trans (numbered_to old n) p q is.covers grows);
  past = moves.past n is.past is.small;
  small = is.small;
}

module _ {N : Type 0} (s : Writing N) (starts : List ℕ) (seen : Seen N) (gateways : ℕ) where
  abbrev pub id_of : ℕ → ℕ
  id_of g = (seen.node [] g).gateway.id

  abbrev pub At : List (Step N) → Holder → Points
  At ss h = state_at s starts seen ss h

  abbrev pub Has : List (Step N) → ℕ → Points
  Has ss g = points_at s starts seen ss g

  -- Joined into what its receiver took, a mail shows what its sender took before it was sent. That has all that a delta's sender
  -- holds under its number, and what an Ack's maker took all that its receiver holds under its number.
  pub record MailStands (ss : List (Step N)) (k : ℕ) (mail : Mail) : Type 0 where
    pub from_there : mail.from < gateways
    pub to_there : mail.to < gateways
    pub from : (seen.mail k).from ≡ id_of mail.from
    pub brings : S (join_points (At ss (AtGateway mail.to)) (seen.mail k).points) ≡ S (join_points (At ss (AtGateway mail.to)) (At ss (InMail k)))
    pub delta : (n : ℕ) → (seen.mail k).delta ≡ Some n → Claimed (seen.node ss mail.from) (At ss (InMail k)) n
    pub ack : (n : ℕ) → (seen.mail k).ack ≡ Some n → Claimed (seen.node ss mail.to) (At ss (AtGateway mail.from)) n

  -- each node shows what the state of the exports shows that it took
  pub record Stands (ss : List (Step N)) : Type 0 where
    pub ids : (g : ℕ) → (seen.node ss g).gateway.id ≡ id_of g
    pub shows : (g : ℕ) → S (Has ss g) ≡ S (At ss (AtGateway g))
    pub books : (g h k : ℕ) → h < gateways → get (seen.node ss g).acked (id_of h) ≡ Some k → Claimed (seen.node ss g) (At ss (AtGateway h)) k
    pub unmade : (k : ℕ) → mails (deeds ss) < k → took (deeds ss) (InMail k) ≡ []
    pub mailed : (k : ℕ) (mail : Mail) → mail_of (deeds ss) k ≡ Some mail → MailStands ss k mail

  module _ (ss : List (Step N)) (d : Step N) where
    abbrev now : List (Step N)
    now = d ∷ ss

    -- what one more step does to a node
    pub record NodeMoves (g : ℕ) : Type 0 where
      pub moves : Moves (seen.node ss g) (seen.node (d ∷ ss) g)
      pub id : (seen.node (d ∷ ss) g).gateway.id ≡ (seen.node ss g).gateway.id
      pub books : (h k : ℕ) → h < gateways → get (seen.node (d ∷ ss) g).acked (id_of h) ≡ Some k → (get (seen.node ss g).acked (id_of h) ≡ Some k) ⊎ Claimed (seen.node ss g) (At ss (AtGateway h)) k

    pub node_stays : (g : ℕ) → seen.node now g ≡ seen.node ss g → NodeMoves g
    node_stays g e = record {
      moves = stays (seen.node ss g) (seen.node now g) e;
      id = ap (λ (n : NodeModel). n.gateway.id) e;
      books = λ h k there is. inl (ap (λ (n : NodeModel). get n.acked (id_of h)) (sym e) ∙ is);
    }

    other : (g h : ℕ) → (g == h) ≡ false → h ≢ g
    other g h e same = true≢false (sym (eq-eqb g h (sym same)) ∙ e)

    pub each_node : (g : ℕ) → NodeMoves g → OthersStay s starts seen ss d g → (h : ℕ) → NodeMoves h
    each_node g own others h = go (g == h) refl
      where
        go : (b : Bool) → (g == h) ≡ b → NodeMoves h
        go true e = subst NodeMoves (eqb-true g h e) own
        go false e = node_stays h (others h (other g h e))

    -- node g took in p, and no other
    abbrev pub Joined : ℕ → Points → Type 0
    Joined g p = (h : ℕ) → At now (AtGateway h) ≡ cond (g == h) (join_points (At ss (AtGateway h)) p) (At ss (AtGateway h))

    abbrev pub Grows : Type 0
    Grows = (h : ℕ) → IsAtOrBelow join_points (At ss (AtGateway h)) (At now (AtGateway h))

    pub grows_by : (g : ℕ) (p : Points) → Joined g p → Grows
    grows_by g p is h = subst (λ (x : Points). IsAtOrBelow join_points (At ss (AtGateway h)) x) (sym (is h)) (go (g == h))
      where
        go : (b : Bool) → IsAtOrBelow join_points (At ss (AtGateway h)) (cond b (join_points (At ss (AtGateway h)) p) (At ss (AtGateway h)))
        go true = (points_above (At ss (AtGateway h)) p).0
        go false = points_idempotent (At ss (AtGateway h))

    pub shows_by : (g : ℕ) (p : Points) → Joined g p → S (Has now g) ≡ S (join_points (At ss (AtGateway g)) p) → OthersStay s starts seen ss d g → Stands ss
        → (h : ℕ) → S (Has now h) ≡ S (At now (AtGateway h))
    shows_by g p is own others st h = go (g == h) refl ∙ ap S (sym (is h))
      where
        go : (b : Bool) → (g == h) ≡ b → S (Has now h) ≡ S (cond (g == h) (join_points (At ss (AtGateway h)) p) (At ss (AtGateway h)))
        go true e = subst (λ v. S (Has now v) ≡ S (join_points (At ss (AtGateway v)) p)) (eqb-true g h e) own ∙ ap (λ b. S (cond b (join_points (At ss (AtGateway h)) p) (At ss (AtGateway h)))) (sym e)
        go false e = ap (λ (n : NodeModel). S n.gateway.points) (others h (other g h e)) ∙ st.shows h ∙ ap (λ b. S (cond b (join_points (At ss (AtGateway h)) p) (At ss (AtGateway h)))) (sym e)

    pub mail_moves : ((g : ℕ) → NodeMoves g) → Grows → (k : ℕ) (mail : Mail) → At now (InMail k) ≡ At ss (InMail k) → MailStands ss k mail → MailStands now k mail
    mail_moves each grows k mail same its = record {
      from_there = its.from_there;
      to_there = its.to_there;
      from = its.from;
      brings = brings_more (At ss (AtGateway mail.to)) (At now (AtGateway mail.to)) (seen.mail k).points (At ss (InMail k)) (plain_below _ _ (grows mail.to)) its.brings
          ∙ ap (λ p. S (join_points (At now (AtGateway mail.to)) p)) (sym same);
      delta = λ n is.
          let p = At ss (InMail k) in
          subst (λ (p : Points). Claimed (seen.node now mail.from) p n) (sym same) (claim_moves (seen.node ss mail.from) (seen.node now mail.from) p p n (each mail.from).moves (plain_below p p (points_idempotent p)) (its.delta n is));
      ack = λ n is. claim_moves (seen.node ss mail.to) (seen.node now mail.to) (At ss (AtGateway mail.from)) (At now (AtGateway mail.from)) n (each mail.to).moves (plain_below _ _ (grows mail.from)) (its.ack n is);
    }

    -- a mail that was there is as it was, and a new one is as it claims
    abbrev pub MailsGo : Type 0
    MailsGo = (k : ℕ) (mail : Mail) → mail_of (deeds now) k ≡ Some mail → ((mail_of (deeds ss) k ≡ Some mail) × (At now (InMail k) ≡ At ss (InMail k))) ⊎ MailStands now k mail

    pub goes_on : Stands ss → ((g : ℕ) → NodeMoves g) → ((g : ℕ) → S (Has now g) ≡ S (At now (AtGateway g))) → Grows
        → ((k : ℕ) → mails (deeds now) < k → took (deeds now) (InMail k) ≡ []) → MailsGo → Stands now
    goes_on st each shows grows unmade mailed = record {
      ids = λ g. (each g).id ∙ st.ids g;
      shows = shows;
      books = λ g h k there is.
          let go : Claimed (seen.node ss g) (At ss (AtGateway h)) k → Claimed (seen.node now g) (At now (AtGateway h)) k =
          claim_moves (seen.node ss g) (seen.node now g) (At ss (AtGateway h)) (At now (AtGateway h)) k (each g).moves (plain_below _ _ (grows h)) in
          elim ((each g).books h k there is) [
            | inl known ↦ go (st.books g h k there known)
            | inr claimed ↦ go claimed
          ];
      unmade = unmade;
      mailed = λ k mail is. elim (mailed k mail is) [
        | inl old ↦ mail_moves each grows k mail old.1 (st.mailed k mail old.0)
        | inr new ↦ new
      ];
    }
