-- What follows for nodes of whatever history.
use Rattle.std.proofs.Common.{◌≡◌, ℕ, ◌<◌, Bool, true, false, not, cond, if◌then◌else◌, List, [], ◌∷◌, length, inl, inr, Option, Some, None, refl, sym, ap, subst, ◌∙◌, true≢false}
use Rattle.std.proofs.lemmas.Bool.{and_parts}
use Rattle.std.specs.Cmp.{IsTotalOrder}
use Rattle.std.specs.FinMap.{IsAntisymmetric, get, same_map}
use Rattle.std.specs.List.{flat_map, list_any}
use Rattle.std.specs.Option.{option_map_or}
use Rattle.std.specs.declared.cmp.Ordering.{Ordering}
use Rattle.archive_kit.proofs.Headline.{shown_answers}
use Rattle.archive_kit.proofs.Lists.{not_true}
use Rattle.archive_kit.proofs.Showing.{namer, hidden_by, get-shown}
use Rattle.archive_kit.proofs.Tombstones.{names_no_tombstone}
use Rattle.archive_kit.proofs.Written.{written_added, written_tombstones}
use Rattle.archive_kit.specs.Adopting.{Archiving, AdoptMade, AreArchives, AreTombstones, Counted, values_counted}
use Rattle.archive_kit.specs.Showing.{hides}
use Rattle.archive_kit.specs.Tombstones.{is_tombstone, names_key}
use Rattle.archive_kit.specs.Written.{our_archiving, AreKeyed}
use Rattle.archive_world_kit.proofs.Adopted.{are_fed}
use Rattle.archive_world_kit.proofs.Happening.{stands}
use Rattle.archive_world_kit.proofs.Shown.{S, congruent}
use Rattle.archive_world_kit.specs.Adopted.{AreArchived, AreAsked, AreRead, HoldsJust, IsEarlier, WereTaken, counted_at, keys_at}
use Rattle.archive_world_kit.specs.Steps.{Step, Writing, Seen, deeds, rounding, IsHistory, HaveNoTombstones, points_at, state_at}
use Rattle.gateway_kit.proofs.Entries.{not_None}
use Rattle.gossip_kit.proofs.Sending.{chosen}
use Rattle.point_kit.proofs.EqualityLaws.{payload_equivalence, payload_exact}
use Rattle.point_kit.proofs.OrderLaws.{key_total, key_exact}
use Rattle.point_kit.proofs.StateLaws.{get-state_of}
use Rattle.point_kit.specs.Best.{best}
use Rattle.point_kit.specs.declared.cell.Cell.{Cell}
use Rattle.point_kit.specs.declared.cell.Held.TheVariants.{One}
use Rattle.point_kit.specs.declared.key.Key.{Key}
use Rattle.point_kit.specs.declared.payload.Payload.{Payload}
use Rattle.point_kit.specs.Equality.{payload_eq}
use Rattle.point_kit.specs.Exports.{Points, join_points}
use Rattle.point_kit.specs.States.{points_under}
use Rattle.point_kit.specs.Orders.{key_cmp}
use Rattle.schedule_kit.proofs.Headline.{same_took, part_is_newest}
use Rattle.schedule_kit.proofs.Members.{filter_map-In, In-filter_map}
use Rattle.schedule_kit.proofs.Newest.{NewestIs, newest_is}
use Rattle.schedule_kit.proofs.Parts as parts
use Rattle.schedule_kit.proofs.Taking.{taken_made}
use Rattle.schedule_kit.specs.Deeds.Deed.{Wrote, Delivered, Merged, Sent, Handed}
use Rattle.schedule_kit.specs.Schedule.Act.{Measured, Collected, Restarted}
use Rattle.archive_world_kit.specs.Steps.Step.{Did, Forgot}
use Rattle.schedule_kit.specs.Deeds.{Made, made, took, TookSame, IsTold, Mail, mail_of}
use Rattle.schedule_kit.specs.Deeds.Holder.{AtGateway, InMail}
use Rattle.schedule_kit.specs.Members.{In}
use Rattle.schedule_kit.specs.Rounds.{IsSound, part_at, points}
use Rattle.point_kit.specs.declared.writer_id.WriterId.{WriterId}
use Rattle.schedule_kit.specs.Rows.{IsAdded, recorded, rollup}
use Rattle.schedule_kit.specs.Taken.{entries_taken, made_of, newest, taken_collections}
use Rattle.gateway_kit.specs.Keys.{ItemKey, whole_key}

-- what is not hidden is shown
is_shown : (p : Points) (k : Key) → hides names_key p k ≡ false → get (S p) k ≡ get p k
is_shown p k seen = get-shown key_total key_exact names_key p k ∙ ap (λ b. cond (not b) (get p k) None) seen

-- states that show the same hide the same
hides_from : (p q : Points) (k : Key) → S p ≡ S q → hides names_key p k ≡ true → hides names_key q k ≡ true
hides_from p q k same hidden =
    let by = namer key_total key_exact names_key p k hidden in
    let seen : hides names_key p by.0 ≡ false = not_true _ (λ h.
    let other = namer key_total key_exact names_key p by.0 h in
    true≢false (sym by.3 ∙ names_no_tombstone other.0 by.0 k other.3)) in
    let there : get (S q) by.0 ≡ Some by.1 = ap (λ (m : Points). get m by.0) (sym same) ∙ is_shown p by.0 seen ∙ by.2 in
    hidden_by key_total key_exact names_key q k by.0 by.1
    (chosen (not (hides names_key q by.0)) (get q by.0) by.1 (sym (get-shown key_total key_exact names_key q by.0) ∙ there)) by.3

not_hidden : (p q : Points) (k : Key) → S p ≡ S q → hides names_key p k ≡ false → hides names_key q k ≡ false
not_hidden p q k same seen = not_true _ (λ h. true≢false (sym (hides_from q p k (sym same) h) ∙ seen))

-- and hold the same of what they do not hide
pub same_there : (p q : Points) (k : Key) → S p ≡ S q → hides names_key p k ≡ false → get p k ≡ get q k
same_there p q k same seen =
    sym (is_shown p k seen) ∙ ap (λ (m : Points). get m k) same
    ∙ is_shown q k (not_hidden p q k same seen)

-- what a node had taken at some time was made
module _ {N : Type 0} (starts : List ℕ) where
  made_more : (step : Step N) (ss : List (Step N)) (m : Made N) → In m (made starts (deeds ss)) → In m (made starts (deeds (step ∷ ss)))
  made_more (Did (Wrote w (Collected time closing))) ss m i = inr i
  made_more (Did (Wrote w (Measured e))) ss m i = i
  made_more (Did (Wrote w (Restarted start))) ss m i = i
  made_more (Did (Delivered x g)) ss m i = i
  made_more (Did (Merged into from)) ss m i = i
  made_more (Did (Sent from to)) ss m i = i
  made_more (Did (Handed mail g answered)) ss m i = i
  made_more (Forgot g gone) ss m i = i

  made_since : (at ss : List (Step N)) (m : Made N) → IsEarlier at ss → In m (made starts (deeds at)) → In m (made starts (deeds ss))
  made_since at [] m same i = subst (λ (l : List (Step N)). In m (made starts (deeds l))) same i
  made_since at (step ∷ ss) m (inl same) i = subst (λ (l : List (Step N)). In m (made starts (deeds l))) same i
  made_since at (step ∷ ss) m (inr earlier) i = made_more step ss m (made_since at ss m earlier i)

  pub were_made : (ss : List (Step N)) (c : Counted N) → WereTaken starts ss c → AdoptMade (made starts (deeds ss)) (c ∷ [])
  were_made ss c were d (inr none) = absurd none
  were_made ss c were d (inl same) =
      let ms = taken_collections starts (deeds were.at) (AtGateway were.gateway) in
      let its = subst (λ (o : Option (Made N)). NewestIs ms c.0.0 c.0.1 o) were.newest_there (newest_is ms c.0.0 c.0.1) in
      subst (λ (d : Counted N). (m : Made N) × In m (made starts (deeds ss)) × (m.writer ≡ d.0.0) × (m.start ≡ d.0.1) × (m.entries ≡ d.1)) (sym same)
      (were.made, made_since were.at ss were.made were.earlier (taken_made starts (deeds were.at) (AtGateway were.gateway) were.made its.0), its.1, its.2, were.entries)

module _ {N : Type 0} (s : Writing N) (starts : List ℕ) (seen : Seen N) (fits : ℕ → List N → N → Bool) (gateways : ℕ) (ss : List (Step N)) (is : IsHistory s starts seen fits gateways ss) where
  abbrev Has : ℕ → Points
  Has g = points_at s starts seen ss g

  abbrev At : ℕ → Points
  At g = state_at s starts seen ss (AtGateway g)

  abbrev taken : ℕ → List (Made N)
  taken g = taken_collections starts (deeds ss) (AtGateway g)

  pub node_shows : (g : ℕ) → S (Has g) ≡ S (At g)
  node_shows g = (stands s starts seen gateways fits is.apart ss is.lawful is.happened).shows g

  -- joined into what its receiver holds now, a mail shows what its sender had taken
  pub mail_brings : (k : ℕ) (mail : Mail) → mail_of (deeds ss) k ≡ Some mail
      → S (join_points (Has mail.to) (seen.mail k).points) ≡ S (join_points (Has mail.to) (state_at s starts seen ss (InMail k)))
  mail_brings k mail known =
      let its = (stands s starts seen gateways fits is.apart ss is.lawful is.happened).mailed k mail known in
      congruent (Has mail.to) (seen.mail k).points (At mail.to) (seen.mail k).points (node_shows mail.to) refl
      ∙ its.brings
      ∙ congruent (At mail.to) (state_at s starts seen ss (InMail k)) (Has mail.to) (state_at s starts seen ss (InMail k)) (sym (node_shows mail.to)) refl

  moved : (g h : ℕ) → ((k : ℕ) → In k (took (deeds ss) (AtGateway g)) → In k (took (deeds ss) (AtGateway h))) → (m : Made N) → In m (taken g) → In m (taken h)
  moved g h more m i =
      let c = filter_map-In (made_of (made starts (deeds ss))) m (took (deeds ss) (AtGateway g)) i in
      In-filter_map (made_of (made starts (deeds ss))) m c.0 (took (deeds ss) (AtGateway h)) (more c.0 c.1) c.2

  pub same_shown : (g h : ℕ) → TookSame (deeds ss) (AtGateway g) (AtGateway h) → S (Has g) ≡ S (Has h)
  same_shown g h same =
      node_shows g
      ∙ ap S (same_took key_total key_exact payload_eq payload_equivalence payload_exact (points (rounding s)) (taken g) (taken h) (moved g h same.0) (moved h g same.1))
      ∙ sym (node_shows h)

  -- of an incarnation that a node does not hide it holds the newest collection that it took
  pub part_held : IsSound (rounding s) → IsTold s.who starts → (g w start : ℕ) → w < length starts → (x : ItemKey) → hides names_key (Has g) (whole_key (s.who w, start) x) ≡ false
      → get (Has g) (whole_key (s.who w, start) x) ≡ part_at (rounding s) (newest (taken g) w start) x
  part_held sound told g w start there x seen_there =
      same_there (Has g) (At g) (whole_key (s.who w, start) x) (node_shows g) seen_there
      ∙ part_is_newest (rounding s) sound fits starts gateways told (deeds ss) is.lawful (AtGateway g) w start there x

  -- what an archive adopts of it is just that
  its_part : IsSound (rounding s) → (w start : ℕ) (x : ItemKey) (ms : List (Made N)) (o : Option (Made N)) → NewestIs ms w start o → part_at (rounding s) o x
      ≡ (if list_any ((rounding s).same_name x) (s.names w (option_map_or (λ (m : Made N). m.entries) o []))
      then Some (record { time = option_map_or (λ (m : Made N). m.time) o 0; held = One (s.payload w (option_map_or (λ (m : Made N). m.entries) o []) x) }) else None)
  its_part sound w start x ms None none = ap (λ l. if list_any ((rounding s).same_name x) l then Some (record { time = 0; held = One (s.payload w [] x) }) else None) (sym (sound.none w))
  its_part sound w start x ms (Some n) own =
      ap (λ v. if list_any ((rounding s).same_name x) (s.names v n.entries) then Some (record { time = n.time; held = One (s.payload v n.entries x) }) else None) own.1

  pub holds_just : IsSound (rounding s) → IsTold s.who starts → (g w start : ℕ) → w < length starts → ((x : ItemKey) → hides names_key (Has g) (whole_key (s.who w, start) x) ≡ false)
      → HoldsJust s ((w, start), entries_taken (taken g) w start) (Has g)
  holds_just sound told g w start there all_shown = record {
    time = option_map_or (λ (m : Made N). m.time) (newest (taken g) w start) 0;
    parts = λ x. part_held sound told g w start there x (all_shown x) ∙ its_part sound w start x (taken g) (newest (taken g) w start) (newest_is (taken g) w start);
  }

  -- where no writer writes tombstones, nothing is hidden
  module _ (sound : IsSound (rounding s)) (none : HaveNoTombstones s) where
    no_tombstone : (g : ℕ) (t : Key) (c : Cell Payload) → get (At g) t ≡ Some c → is_tombstone t ≡ false
    no_tombstone g t c e = go (points_under key_cmp t (flat_map (points (rounding s)) (taken g))) refl
      where
        go : (ps : List (ℕ × Payload)) → points_under key_cmp t (flat_map (points (rounding s)) (taken g)) ≡ ps → is_tombstone t ≡ false
        go [] f = absurd (not_None (sym (get-state_of key_total key_exact payload_eq payload_equivalence payload_exact (flat_map (points (rounding s)) (taken g)) t ∙ ap (best payload_eq) f) ∙ e))
        go (y ∷ ps) f =
            let from = parts.from_round (rounding s) sound (taken g) t y (subst (λ (l : List (ℕ × Payload)). In y l) (sym f) (inl refl)) in
            ap is_tombstone from.4 ∙ none from.0.writer from.0.entries from.1 from.3

    nothing_hidden : (g : ℕ) (k : Key) → hides names_key (At g) k ≡ false
    nothing_hidden g k = not_true _ (λ h.
        let by = namer key_total key_exact names_key (At g) k h in
        true≢false (sym (and_parts (is_tombstone by.0) _ by.3).0 ∙ no_tombstone g by.0 by.1 by.2))

    pub node_holds : (g : ℕ) → Has g ≡ At g
    node_holds g = same_map key_total key_exact _ _ (λ k. same_there (Has g) (At g) k (node_shows g) (not_hidden (At g) (Has g) k (sym (node_shows g)) (nothing_hidden g k)))

  -- the roll-up of what a node shows
  module _ {V : Type 0} (zero : V) (plus : V → V → V) (reads : Payload → V) (fed : ℕ → List N → List (ItemKey × V)) {G : Type 0} (Rg : G → G → Ordering) (asks : Key → Bool) (group : Key → G)
      (is_archive : WriterId → Bool) (adoptions : ℕ → List N → List (Counted N)) where
    abbrev how : Archiving N Key WriterId ItemKey
    how = our_archiving is_archive adoptions

    pub answers : IsSound (rounding s) → IsTold s.who starts → IsAdded (rounding s) zero plus reads fed asks → AreTombstones (rounding s) how → AreArchives (rounding s) how fed asks group
        → IsTotalOrder Rg → IsAntisymmetric Rg → (g : ℕ) → rollup Rg zero plus asks group reads (S (Has g))
        ≡ recorded Rg zero plus asks group
        (values_counted (rounding s) fed (counted_at s how starts ss g))
        (keys_at s how starts ss g)
    answers sound told added tombs archives og antig g =
        ap (λ (m : Points). rollup Rg zero plus asks group reads m) (node_shows g)
        ∙ shown_answers (rounding s) sound fits starts gateways told (deeds ss) is.lawful (AtGateway g) zero plus reads fed Rg asks group added how tombs archives og antig

    -- where archives write what calls made of one, which adopted what was held
    pub lossless : (held : ℕ → Counted N → List (Key × Cell Payload)) → IsSound (rounding s) → IsTold s.who starts → AreArchived s how held → AreRead s how zero plus reads fed asks → AreAsked s how asks group
        → IsTotalOrder Rg → IsAntisymmetric Rg → (g : ℕ) → rollup Rg zero plus asks group reads (S (Has g))
        ≡ recorded Rg zero plus asks group
        (values_counted (rounding s) fed (counted_at s how starts ss g))
        (keys_at s how starts ss g)
    lossless held sound told archived read asked og antig g =
        let keyed : AreKeyed (rounding s) = record { key = λ i start x. refl; same = λ x y. refl; instances = archived.instances } in
        let feeding = are_fed s sound how held archived.driven.never archived.were zero plus reads fed asks read in
        answers sound told
        (written_added (rounding s) keyed is_archive adoptions held archived.driven sound zero plus reads fed asks feeding)
        (written_tombstones (rounding s) keyed is_archive adoptions held archived.driven)
        (record { feeds = read.feeds; asked = asked.asked; grouped = asked.grouped })
        og antig g
