-- What a gateway's thread took.
use Rattle.std.proofs.Common.{◌≡◌, inl, inr, ℕ, zero, suc, ◌<◌, ◌≤◌, List, [], ◌∷◌, ◌++◌, map, length, slice_get, slice_index, slice_index_or, Option, Some, refl, sym, ap, subst, ◌∙◌, arith}
use Rattle.std.specs.Cmp.{Equal-is}
use Rattle.std.specs.FinMap.{empty, get}
use Rattle.std.specs.List.{flat_map}
use Rattle.std.specs.Ordering.{eq_by_cmp}
use Rattle.gateway_kit.specs.GatewayState.{GatewayState}
use Rattle.point_kit.proofs.EqualityLaws.{payload_equivalence, payload_exact}
use Rattle.point_kit.proofs.OrderLaws.{key_exact, key_total}
use Rattle.point_kit.proofs.PointLaws.{states_join}
use Rattle.point_kit.proofs.StateLaws.{get-state_of}
use Rattle.point_kit.specs.Best.{best}
use Rattle.point_kit.specs.Equality.{payload_eq}
use Rattle.point_kit.specs.Exports.{join_points, key_of, points_of, state}
use Rattle.point_kit.specs.Orders.{key_cmp}
use Rattle.point_kit.specs.States.{points_under}
use Rattle.point_kit.specs.declared.export.Export.{Export}
use Rattle.point_kit.specs.declared.export_point.ExportPoint.{ExportPoint}
use Rattle.point_kit.specs.declared.key.Key.{Key}
use Rattle.point_kit.specs.declared.payload.Payload.{Payload}
use Rattle.rollup_kit.specs.Fleets.{AreAt, AreCovered}
use Rattle.schedule_kit.proofs.Members.{filter-In, flat_map-In, map-In, In-append, In-left, In-right}
use Rattle.schedule_kit.specs.Members.{In}
use Rattle.fleet_kit.proofs.Exports.{got}
use Rattle.fleet_kit.specs.Halts.{HasPoints}
use Rattle.fleet_kit.specs.Posting.{IsUnsent}
use Rattle.fleet_kit.specs.Serving.{AreOfOthers, AreWhole, IsServed, IsWhole, Lacks, StopsGateway}
use Rattle.fleet_kit.specs.declared.halt.Halt.TheVariants.{Missing}

-- nothing was told yet
pub served_none : (exports : List Export) (id : ℕ) (told : List ℕ) (g : GatewayState) → g.id ≡ id → g.points ≡ empty → told ≡ [] → IsServed exports id told g
served_none exports id told g same none new = record {
  same_id = same;
  took = [];
  taken = [];
  at = tt;
  holds = none;
  only = λ w i. absurd i;
  all = λ w e at i. subst (In w) new i;
}

at_more : (exports : List Export) (took : List ℕ) (taken : List Export) (p : ℕ) (e : Export) → AreAt exports took taken → slice_get exports p ≡ Some e → AreAt exports (took ++ p ∷ []) (taken ++ e ∷ [])
at_more exports [] [] p e a is = (is, tt)
at_more exports [] (d ∷ ds) p e a is = absurd a
at_more exports (w ∷ ws) [] p e a is = absurd a
at_more exports (w ∷ ws) (d ∷ ds) p e a is = (a.0, at_more exports ws ds p e a.1 is)

-- one more export is taken
pub served_more : (exports : List Export) (id : ℕ) (told more : List ℕ) (g h : GatewayState) (p : ℕ) (e : Export) → more ≡ told ++ p ∷ [] → IsServed exports id told g → slice_get exports p ≡ Some e → h.id ≡ g.id
    → h.points ≡ join_points g.points (state (e ∷ [])) → IsServed exports id more h
served_more exports id told more g h p e new s is same joins = record {
  same_id = same ∙ s.same_id;
  took = s.took ++ p ∷ [];
  taken = s.taken ++ e ∷ [];
  at = at_more exports s.took s.taken p e s.at is;
  holds = joins ∙ ap (λ q. join_points q (state (e ∷ []))) s.holds ∙ sym (states_join s.taken (e ∷ []));
  only = λ w i. subst (In w) (sym new) (elim (In-append w s.took (p ∷ []) i) [ inl old ↦ In-left w told (p ∷ []) (s.only w old) | inr here ↦ In-right w told (p ∷ []) here ]);
  all = λ w x at i. elim (In-append w told (p ∷ []) (subst (In w) new i)) [ inl old ↦ In-left w s.took (p ∷ []) (s.all w x at old) | inr here ↦ In-right w s.took (p ∷ []) here ];
}

-- a place that names no export is dropped
pub served_same : (exports : List Export) (id : ℕ) (told more : List ℕ) (g : GatewayState) (p : ℕ) → more ≡ told ++ p ∷ [] → IsServed exports id told g → length exports ≤ p → IsServed exports id more g
served_same exports id told more g p new s out = record {
  same_id = s.same_id;
  took = s.took;
  taken = s.taken;
  at = s.at;
  holds = s.holds;
  only = λ w i. subst (In w) (sym new) (In-left w told (p ∷ []) (s.only w i));
  all = λ w x at i. elim (In-append w told (p ∷ []) (subst (In w) new i)) [
    | inl old ↦ s.all w x at old
    | inr here ↦ elim here [ inl is ↦ let l = (got exports w x at).0 in absurd (omega (arith, is, l, out)) | inr none ↦ absurd none ]
  ];
}

-- all that was sent was told, and each export was sent, but for such as have no points
pub served_all : (exports : List Export) (id : ℕ) (told : List ℕ) (g : GatewayState) → IsServed exports id told g → AreCovered exports told → IsWhole exports id g
served_all exports id told g s all = record {
  same_id = s.same_id;
  took = s.took;
  taken = s.taken;
  at = s.at;
  holds = s.holds;
  covered = λ w e at. elim (all w e at) [ inl here ↦ inl (s.all w e at here) | inr none ↦ inr none ];
}

ids_of : (gs : List GatewayState) (ids : List ℕ) → length gs ≡ length ids → ((k : ℕ) (g : GatewayState) → slice_get gs k ≡ Some g → g.id ≡ slice_index ids k) → map (λ g. g.id) gs ≡ ids
ids_of [] [] l h = refl
ids_of [] (i ∷ ids) l h = absurd (omega (arith, l))
ids_of (g ∷ gs) [] l h = absurd (omega (arith, l))
ids_of (g ∷ gs) (i ∷ ids) l h = let rest = ids_of gs ids (omega (arith, l)) (λ k. h (suc k)) in λ j. h 0 g refl j ∷ rest j

-- the id of an element, among those of all
pub id_at : {A : Type 0} (f : A → ℕ) (xs : List A) (i : ℕ) (x : A) → i < length xs → slice_index_or xs i x ≡ x → f x ≡ slice_index (map f xs) i
id_at f [] i x less is = absurd (omega (arith, less))
id_at f (y ∷ xs) zero x less is = ap f (sym is)
id_at f (y ∷ xs) (suc i) x less is = id_at f xs i x (omega (arith, less)) is

-- the gateways of all ids
pub all_whole : (exports : List Export) (ids : List ℕ) (gs : List GatewayState) → (length gs ≡ length ids) × ((k : ℕ) (g : GatewayState) → slice_get gs k ≡ Some g → IsWhole exports (slice_index ids k) g) → AreWhole exports ids gs
all_whole exports ids gs r = record {
  same_ids = ids_of gs ids r.0 (λ k g at. (r.1 k g at).same_id);
  each = λ k g at. let x = r.1 k g at in record { same_id = refl; took = x.took; taken = x.taken; at = x.at; holds = x.holds; covered = x.covered };
}

-- ---- a gateway that was not told of a writer lacks its points

no_member : {A : Type 0} (xs : List A) → ((y : A) → In y xs → ⊥) → xs ≡ []
no_member [] h = refl
no_member (x ∷ xs) h = absurd (h x (inl refl))

taken_at : (exports : List Export) (took : List ℕ) (taken : List Export) → AreAt exports took taken → (d : Export) → In d taken → (w : ℕ) × In w took × (slice_get exports w ≡ Some d)
taken_at exports [] [] at d i = absurd i
taken_at exports [] (e ∷ es) at d i = absurd at
taken_at exports (w ∷ ws) [] at d i = absurd at
taken_at exports (w ∷ ws) (e ∷ es) at d (inl is) = (w, inl refl, at.0 ∙ ap Some (sym is))
taken_at exports (w ∷ ws) (e ∷ es) at d (inr i) = let r = taken_at exports ws es at.1 d i in (r.0, inr r.1, r.2)

-- no point under a key is of an export of another writer
no_point : (taken : List Export) (k : Key) → ((d : Export) → In d taken → d.writer ≡ k.writer → ⊥) → points_under key_cmp k (flat_map points_of taken) ≡ []
no_point taken k none = no_member _ (λ y i.
    let under = map-In (λ (p : Key × (ℕ × Payload)). p.1) y _ i in
    let kept = filter-In (λ (p : Key × (ℕ × Payload)). eq_by_cmp key_cmp k p.0) under.0 _ under.1 in
    let of_export = flat_map-In points_of under.0 taken kept.0 in
    let of_point = map-In (λ (p : ExportPoint). (key_of of_export.0 p, (of_export.0.time, p.payload))) under.0 _ of_export.2 in
    let tied : k ≡ under.0.0 = key_exact k under.0.0 ((Equal-is (key_cmp k under.0.0)).0 kept.1) in
    none of_export.0 of_export.1 (sym (ap (λ (x : Key). x.writer) tied ∙ ap (λ (p : Key × (ℕ × Payload)). p.0.writer) of_point.2)))

pub lacks : (exports : List Export) → AreOfOthers exports → (id : ℕ) (told : List ℕ) (g : GatewayState) → IsServed exports id told g → (writer : ℕ) → HasPoints exports writer → (In writer told → ⊥) → Lacks exports id writer
lacks exports apart id told g s writer has not = record {
  told = told;
  gateway = g;
  served = s;
  export = has.0;
  at = has.1;
  points = has.2;
  missing = λ p i.
      let k : Key = key_of has.0 p in
      let none : points_under key_cmp k (flat_map points_of s.taken) ≡ [] = no_point s.taken k (λ d there same.
      let at = taken_at exports s.took s.taken s.at d there in
      not (s.only writer (subst (λ (w : ℕ). In w s.took) (apart at.0 writer d has.0 at.2 has.1 same) at.1))) in
      ap (λ q. get q k) s.holds ∙ get-state_of key_total key_exact payload_eq payload_equivalence payload_exact (flat_map points_of s.taken) k ∙ ap (best payload_eq) none;
}

-- why a gateway's thread stops: it could not be told of a writer, or memory was wanting
pub gateway_lacks : (exports : List Export) → AreOfOthers exports → (place id : ℕ) (sent : List ℕ) (writer : ℕ) (unsent : Option ℕ) (g : GatewayState) → IsServed exports id sent g → IsUnsent exports sent unsent → unsent ≡ Some writer
    → StopsGateway exports place id unsent (Missing place writer)
gateway_lacks exports apart place id sent writer unsent g s is some = let u = subst (IsUnsent exports sent) some is in (refl, some, lacks exports apart id sent g s writer u.0 u.1)
