-- What a keeper shows, and what its node did, once points have come and what they name is dropped.
use Rattle.std.proofs.Common.{◌≡◌, ℕ, Bool, true, false, not, cond, ◌&&◌, ◌||◌, inl, List, [], ◌∷◌, Option, Some, None, Result, Ok, Err, OnOk, OnErr, refl, sym, ap, subst, ◌∙◌, true≢false}
use Rattle.std.specs.Prelude.{filter}
use Rattle.std.proofs.lemmas.Bool.{and_parts}
use Rattle.std.proofs.lemmas.List.{append-nil}
use Rattle.std.specs.Cmp.{Equal-is}
use Rattle.std.specs.FinMap.{FinMap, empty, get, retain_keys}
use Rattle.std.specs.List.{flat_map, list_any}
use Rattle.std.specs.Ordering.{eq_by_cmp, nat_cmp}
use Rattle.gateway_kit.proofs.Merged.{joined_empty}
use Rattle.gossip_kit.specs.Gossip.{Renumbers}
use Rattle.gossip_kit.specs.Views.{NodeModel}
use Rattle.point_kit.proofs.EqualityLaws.{payload_equivalence, payload_exact}
use Rattle.point_kit.proofs.OrderLaws.{key_total, key_exact}
use Rattle.point_kit.proofs.StateLaws.{get-join_maps, get-state_of}
use Rattle.point_kit.specs.Best.{best}
use Rattle.point_kit.specs.Equality.{payload_eq}
use Rattle.point_kit.specs.Exports.{Points, join_points, key_of, points_of, state}
use Rattle.point_kit.specs.Join.{join_cells, join_options}
use Rattle.point_kit.specs.Orders.{key_cmp}
use Rattle.point_kit.specs.States.{points_under}
use Rattle.point_kit.specs.declared.cell.Cell.{Cell}
use Rattle.point_kit.specs.declared.export.Export.{Export}
use Rattle.point_kit.specs.declared.export_point.ExportPoint.{ExportPoint}
use Rattle.point_kit.specs.declared.key.Key.{Key}
use Rattle.point_kit.specs.declared.payload.Payload.{Payload}
use Rattle.point_kit.specs.declared.stream.Stream.{Stream}
use Rattle.point_kit.specs.declared.writer_id.WriterId.{WriterId}
use Rattle.schedule_kit.specs.Members.{In}
use Rattle.schedule_kit.proofs.Members.{filter-In, map-In}
use Rattle.archive_kit.specs.Keeping.{IsKeeping, Tell, is_named, kept_points, tells}
use Rattle.archive_kit.specs.Named.{Name, NameList, has_either, has_name}
use Rattle.archive_kit.specs.Readiness.{IsReady}
use Rattle.archive_kit.specs.Showing.{hides, shown}
use Rattle.archive_kit.specs.Stepping.{AreHidden, Drops, Joins, JoinsAndDrops, Skips, is_gone}
use Rattle.archive_kit.specs.Tombstones.{is_tombstone, names_key, stream_eq, tombstones}
use Rattle.archive_kit.specs.declared.dropping.Gone.{Gone}
use Rattle.archive_kit.proofs.Left.{left_all, left_same}
use Rattle.archive_kit.proofs.Lists.{member_any, not_true}
use Rattle.archive_kit.proofs.Showing.{get-shown, namer, skipped}
use Rattle.archive_kit.proofs.Tombstones.{names_no_tombstone}
use Rattle.archive_kit.proofs.Skipping.{hides_is, keeps_same, keeps_shown, named_joined, no_cell}

module _ (old mid new : NodeModel) (brought : Points) (books : FinMap nat_cmp ℕ) (names : NameList) (gone : List Gone) (ready : IsReady names old.gateway.points brought gone) (joins : Joins brought books old mid) (drops : Drops (is_gone gone) mid new) where
  pub kept : new.gateway.points ≡ kept_points old.gateway.points brought
  kept = drops.points ∙ ap (λ (m : Points). retain_keys m (λ k. not (is_gone gone k))) joins.points ∙ ready.goes

  pub stepped : JoinsAndDrops brought books old new
  stepped = record {
    between = mid;
    gone = is_gone gone;
    joins = joins;
    drops = drops;
    hidden = subst (λ (m : Points). AreHidden (is_gone gone) m) (sym joins.points) ready.hidden;
  }

  pub keeping : (stream : Stream) (now : List Name) → stream ≡ tombstones → ((w : WriterId) (s : ℕ) → has_name now w s ≡ has_either names w s) → IsKeeping stream now new.gateway.points
  keeping stream now is named = keeps_shown stream now (join_points old.gateway.points brought) new.gateway.points is (λ w s. named w s ∙ ready.told w s) kept

-- ---- an export that brings no tombstone, of an incarnation that none names

-- each key of its state is that of a point
of_export : (e : Export) (k : Key) (c : Cell Payload) → get (state (e ∷ [])) k ≡ Some c → (p : ExportPoint) × (In p e.points) × (k ≡ key_of e p)
of_export e k c there = go (points_under key_cmp k (flat_map points_of (e ∷ []))) refl
  where
    told : get (state (e ∷ [])) k ≡ best payload_eq (points_under key_cmp k (flat_map points_of (e ∷ [])))
    told = get-state_of key_total key_exact payload_eq payload_equivalence payload_exact (flat_map points_of (e ∷ [])) k

    go : (ps : List (ℕ × Payload)) → points_under key_cmp k (flat_map points_of (e ∷ [])) ≡ ps → (p : ExportPoint) × (In p e.points) × (k ≡ key_of e p)
    go [] none = absurd (no_cell c (sym there ∙ told ∙ ap (best payload_eq) none))
    go (x ∷ xs) some =
        let under = subst (λ (l : List (ℕ × Payload)). In x l) (sym some) (inl refl) in
        let pair = map-In (λ (r : Key × (ℕ × Payload)). r.1) x (filter (λ r. eq_by_cmp key_cmp k r.0) (flat_map points_of (e ∷ []))) under in
        let listed = filter-In (λ (r : Key × (ℕ × Payload)). eq_by_cmp key_cmp k r.0) pair.0 (flat_map points_of (e ∷ [])) pair.1 in
        let point = map-In (λ (p : ExportPoint). (key_of e p, (e.time, p.payload))) pair.0 e.points (subst (λ (l : List (Key × (ℕ × Payload))). In pair.0 l) (append-nil (points_of e)) listed.0) in
        (point.0, point.1, key_exact k pair.0.0 ((Equal-is (key_cmp k pair.0.0)).0 listed.1) ∙ ap (λ (r : Key × (ℕ × Payload)). r.0) point.2)

none_more : (b : Bool) → (b || false) ≡ b
none_more true = refl
none_more false = refl

plain_none : (b : Bool) → (b && false) ≡ false
plain_none true = refl
plain_none false = refl

module _ (old : Points) (e : Export) (all_shown : shown names_key old ≡ old) (none : list_any (λ p. stream_eq tombstones p.stream) e.points ≡ false) (unnamed : is_named old e.writer e.start ≡ false) where
  abbrev came : Points
  came = state (e ∷ [])

  no_tombstone : (k : Key) (c : Cell Payload) → get came k ≡ Some c → is_tombstone k ≡ false
  no_tombstone k c there = not_true _ (λ t.
      let p = of_export e k c there in
      true≢false (sym (member_any (λ (x : ExportPoint). stream_eq tombstones x.stream) e.points p.0 p.1 (ap (λ (x : Key). is_tombstone x) (sym p.2) ∙ t)) ∙ none))

  names_nothing : (w : WriterId) (s : ℕ) → is_named came w s ≡ false
  names_nothing w s = not_true _ (λ t.
      let h = namer key_total key_exact (λ (x : Key) (k : Key). tells w s x) came (key_of_none w s) t in
      true≢false (sym (and_parts (is_tombstone h.0) _ h.3).0 ∙ no_tombstone h.0 h.1 h.2))
    where
      key_of_none : WriterId → ℕ → Key
      key_of_none w s = record { writer = w; start = s; stream = tombstones; attrs = [] }

  named_as_before : (w : WriterId) (s : ℕ) → is_named (join_points old came) w s ≡ is_named old w s
  named_as_before w s = named_joined old came w s ∙ ap (λ b. is_named old w s || b) (names_nothing w s) ∙ none_more (is_named old w s)

  visible : (k : Key) (c : Cell Payload) → get (join_points old came) k ≡ Some c → hides names_key (join_points old came) k ≡ false
  visible k c there =
      hides_is (join_points old came) k ∙ ap (λ b. not (is_tombstone k) && b) (named_as_before k.writer k.start)
      ∙ go (get old k) refl (get came k) refl
    where
      of_old : (v : Cell Payload) → get old k ≡ Some v → hides names_key old k ≡ true → ⊥
      of_old v f h = no_cell v (sym f ∙ ap (λ (m : Points). get m k) (sym all_shown) ∙ get-shown key_total key_exact names_key old k ∙ ap (λ b. cond (not b) (get old k) None) h)

      go : (x : Option (Cell Payload)) → get old k ≡ x → (y : Option (Cell Payload)) → get came k ≡ y → (not (is_tombstone k) && is_named old k.writer k.start) ≡ false
      go (Some v) f y g = sym (hides_is old k) ∙ not_true _ (of_old v f)
      go None f (Some v) g =
          let p = of_export e k v g in
          ap (λ b. not (is_tombstone k) && b) (ap (λ (x : Key). is_named old x.writer x.start) p.2 ∙ unnamed) ∙ plain_none (not (is_tombstone k))
      go None f None g = absurd (no_cell c (sym there ∙ get-join_maps key_total key_exact (join_cells payload_eq) old came k ∙ (λ i. join_options (join_cells payload_eq) (f i) (g i))))

  pub all_kept : join_points old came ≡ kept_points old came
  all_kept = left_all (join_points old came) (λ k. true) (λ k. refl) ∙ left_same (join_points old came) (λ k. true) _ (λ k c there. ap not (sym (visible k c there)))

  pub still_keeping : (stream : Stream) (names : List Name) (new : Points) → IsKeeping stream names old → new ≡ join_points old came → IsKeeping stream names new
  still_keeping stream names new was is =
      keeps_shown stream names (join_points old came) new was.stream_is (λ w s. was.told w s ∙ sym (named_as_before w s)) (is ∙ all_kept)

-- ---- an export that brings no tombstone, of an incarnation that one names

module _ (old : Points) (e : Export) (all_shown : shown names_key old ≡ old) (none : list_any (λ p. stream_eq tombstones p.stream) e.points ≡ false) (named : is_named old e.writer e.start ≡ true) where
  late_hidden : (k : Key) (c : Cell Payload) → get (state (e ∷ [])) k ≡ Some c → hides names_key old k ≡ true
  late_hidden k c there =
      let p = of_export e k c there in
      let plain : is_tombstone k ≡ false = not_true _ (λ t.
      true≢false (sym (member_any (λ (x : ExportPoint). stream_eq tombstones x.stream) e.points p.0 p.1 (ap (λ (x : Key). is_tombstone x) (sym p.2) ∙ t)) ∙ none)) in
      hides_is old k ∙ ap (λ b. not b && is_named old k.writer k.start) plain ∙ ap (λ (x : Key). is_named old x.writer x.start) p.2 ∙ named

  pub late_kept : old ≡ kept_points old (state (e ∷ []))
  late_kept = sym all_shown ∙ sym (skipped key_total key_exact names_key names_no_tombstone (join_cells payload_eq) old (state (e ∷ [])) late_hidden)

pub late_skips : (e : Export) (old : NodeModel) → list_any (λ p. stream_eq tombstones p.stream) e.points ≡ false → is_named old.gateway.points e.writer e.start ≡ true
    → shown names_key old.gateway.points ≡ old.gateway.points → Skips (state (e ∷ [])) old old
late_skips e old none named all_shown = record { same = refl; hidden = late_hidden old.gateway.points e all_shown none named }

-- what came, where nothing is dropped
pub merely_joined : (brought : Points) (books : FinMap nat_cmp ℕ) (old new : NodeModel) → Joins brought books old new → JoinsAndDrops brought books old new
merely_joined brought books old new joins = record {
  between = new;
  gone = λ k. false;
  joins = joins;
  drops = record {
    id = refl;
    points = left_all new.gateway.points (λ k. true) (λ k. refl);
    numbers = left_all new.gateway.numbers (λ k. true) (λ k. refl);
    change = refl;
    acked = refl;
  };
  hidden = λ k c there t. absurd (true≢false (sym t));
}

-- ---- where nothing comes

same_points : (old brought : Points) → brought ≡ empty → join_points old brought ≡ old
same_points old brought none = ap (join_points old) none ∙ sym (joined_empty old)

pub nothing_joined : (old brought : Points) → shown names_key old ≡ old → brought ≡ empty → join_points old brought ≡ kept_points old brought
nothing_joined old brought all_shown none =
    let same = same_points old brought none in
    same ∙ sym all_shown ∙ ap (shown names_key) (sym same)

pub nothing_changes : (stream : Stream) (names : List Name) (old new brought : Points) → IsKeeping stream names old → brought ≡ empty → new ≡ join_points old brought → IsKeeping stream names new
nothing_changes stream names old new brought was none is = keeps_same stream names old new (is ∙ same_points old brought none) was

-- what follows of a result
pub on_ok : {T E P : Type 0} (r : Result T E) (v : T) → r ≡ Ok v → OnOk r P → P
on_ok {T} {E} {P} r v e h = subst (λ (r : Result T E). OnOk r P) e h

pub on_all : {T E P : Type 0} (r : Result T E) → P → OnOk r P
on_all (Ok v) h = h
on_all (Err e) h = tt

pub either : {T E P Q G : Type 0} (r : Result T E) → OnOk r P → OnErr r Q → (P → G) → (Q → G) → G
either (Ok v) p q f g = f p
either (Err e) p q f g = g q

-- what a node did to which nothing came, where it is no refusal
pub nothing_dropped : {T E : Type 0} (r : Result T E) (brought : Points) (books : FinMap nat_cmp ℕ) (old new : NodeModel) → new.gateway.id ≡ old.gateway.id
    → OnOk r (new.gateway.points ≡ join_points old.gateway.points brought) → OnOk r (Renumbers old new) → OnOk r (new.acked ≡ books) → OnOk r (JoinsAndDrops brought books old new)
nothing_dropped (Ok v) brought books old new id points numbers acked = merely_joined brought books old new (record { id = id; points = points; numbers = numbers; acked = acked })
nothing_dropped (Err e) brought books old new id points numbers acked = tt

-- the same names, at the same points
pub keeps_names : (stream : Stream) (names now : List Name) (points : Points) → now ≡ names → IsKeeping stream names points → IsKeeping stream now points
keeps_names stream names now points same was = subst (λ (l : List Name). IsKeeping stream l points) (sym same) was
