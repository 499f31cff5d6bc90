-- Each step keeps the rule of a gateway's channel, and what is unsent is found.
use Rattle.std.proofs.Common.{◌≡◌, ◌≢◌, ◌⊎◌, inl, inr, ℕ, zero, suc, ◌+◌, ◌<◌, ◌==◌, true, false, true≢false, List, [], ◌∷◌, ◌++◌, append_assoc, append-nil, length, set, slice_get, Option, Some, None, refl, sym, ap, subst, ◌∙◌, arith}
use mathlib.Core.Option.{some, some-injective, some-ne-none}
use mathlib.Core.Logic.{dite}
use native.Mathlib.Decide.{ℕ_discrete}
use lib.ListN.{get_elem?}
use Rattle.std.proofs.lemmas.Bool.{eqb-true}
use Rattle.crossbeam_channel.specs.Fifo.{Pushes, Pops, Learns}
use Rattle.point_kit.specs.declared.export.Export.{Export}
use Rattle.schedule_kit.specs.Members.{In}
use Rattle.schedule_kit.proofs.Members.{In-append, In-left, In-right}
use Rattle.std.specs.Option.{option_or}
use Rattle.fleet_kit.proofs.Exports.{got}
use Rattle.fleet_kit.specs.Posting.{and_got, and_sent, traffic_of, Flows, IsUnsent}
use Rattle.fleet_kit.specs.declared.posts.Traffic.{Traffic}

only : (u v w : Traffic) (port : ℕ) → get_elem? (u ∷ []) port ≡ some v → (u ≡ v) × (set (u ∷ []) port w ≡ w ∷ [])
only u v w zero e = (some-injective u v e, refl)
only u v w (suc port) e = absurd (some-ne-none v (sym e))

seen : (u v w : Traffic) (views : List Traffic) (port : ℕ) → views ≡ u ∷ [] → get_elem? views port ≡ some v → (u ≡ v) × (set views port w ≡ w ∷ [])
seen u v w views port h at = let r = only u v w port (ap (λ l. get_elem? l port) (sym h) ∙ at) in (r.0, ap (λ l. set l port w) h ∙ r.1)

pub learns : (port : ℕ) (v : Traffic) → Learns Flows port v (λ items. v.sent ≡ v.got ++ items)
learns port v items views h at = let is = (seen (traffic_of (h.0 ++ items) h.0) v v views port h.1 at).0 in ap (λ (u : Traffic). u.sent) (sym is) ∙ ap (λ (u : Traffic). u.got ++ items) is

pub learns_nothing : (port : ℕ) (v : Traffic) → Learns Flows port v (λ _. Unit {0})
learns_nothing port v items views h at = tt

pub begins : Flows [] (traffic_of [] [] ∷ [])
begins = ([], refl)

pub sends : (n port : ℕ) (v : Traffic) (x : ℕ) → Pushes Flows n port v x (λ w. w ≡ and_sent v x)
sends n port v x items views room h at = let w = traffic_of (v.sent ++ x ∷ []) v.got in (
  w,
  (
    v.got,
    (seen (traffic_of (h.0 ++ items) h.0) v w views port h.1 at).1
        ∙ ap (λ l. traffic_of l v.got ∷ []) (ap (λ l. l ++ x ∷ []) (learns port v items views h at) ∙ append_assoc v.got items (x ∷ [])),
  ),
  refl,
)

pub gets : (port : ℕ) (v : Traffic) → Pops Flows port v (λ x w. w ≡ and_got v x)
gets port v x items views h at = let w = traffic_of v.sent (v.got ++ x ∷ []) in (
  w,
  (
    v.got ++ x ∷ [],
    (seen (traffic_of (h.0 ++ x ∷ items) h.0) v w views port h.1 at).1
        ∙ ap (λ l. traffic_of l (v.got ++ x ∷ []) ∷ []) (learns port v (x ∷ items) views h at ∙ sym (append_assoc v.got (x ∷ []) items)),
  ),
  refl,
)

-- what is unsent of the exports before a place
abbrev pub UnsentBelow : ℕ → List Export → List ℕ → Option ℕ → Type 0
UnsentBelow n exports sent None = (w : ℕ) (e : Export) → w < n → slice_get exports w ≡ Some e → In w sent ⊎ (e.points ≡ [])
UnsentBelow n exports sent (Some u) = (u < n) × IsUnsent exports sent (Some u)

abbrev pub AreBelow : ℕ → List ℕ → Type 0
AreBelow n sent = (w : ℕ) → In w sent → w < n

pub below_more : (n : ℕ) (sent : List ℕ) → AreBelow n sent → AreBelow (n + 1) (sent ++ n ∷ [])
below_more n sent below w i = elim (In-append w sent (n ∷ []) i) [
  | inl old ↦ let l = below w old in omega (arith, l)
  | inr new ↦ elim new [ inl is ↦ omega (arith, is) | inr none ↦ absurd none ]
]

pub below_same : (n : ℕ) (sent : List ℕ) → AreBelow n sent → AreBelow (n + 1) sent
below_same n sent below w i = let l = below w i in omega (arith, l)

-- one more place was looked at: it was sent, or its export has no points
one_more : (n : ℕ) (exports : List Export) (sent sent' : List ℕ) → ((w : ℕ) → In w sent → In w sent') → (e : Export) → slice_get exports n ≡ Some e → In n sent' ⊎ (e.points ≡ [])
    → ((w : ℕ) (x : Export) → w < n → slice_get exports w ≡ Some x → In w sent ⊎ (x.points ≡ [])) → (w : ℕ) (x : Export) → w < n + 1 → slice_get exports w ≡ Some x → In w sent' ⊎ (x.points ≡ [])
one_more n exports sent sent' keeps e at here before w x l is = dite (ℕ_discrete w n)
    (λ (same : w ≡ n).
    let its : e ≡ x = some_same e x (sym at ∙ ap (slice_get exports) (sym same) ∙ is) in
    elim here [ inl there ↦ inl (subst (λ k. In k sent') (sym same) there) | inr none ↦ inr (subst (λ (y : Export). y.points ≡ []) its none) ])
    (λ other. elim (before w x (omega (arith, l, other)) is) [ inl there ↦ inl (keeps w there) | inr none ↦ inr none ])
  where
    some_same : (a b : Export) → Some a ≡ Some b → a ≡ b
    some_same a b e = cc

pub unsent_sent : (n : ℕ) (exports : List Export) (sent : List ℕ) (o : Option ℕ) (e : Export) → slice_get exports n ≡ Some e → UnsentBelow n exports sent o → UnsentBelow (n + 1) exports (sent ++ n ∷ []) o
unsent_sent n exports sent None e at before = one_more n exports sent (sent ++ n ∷ []) (λ w i. In-left w sent (n ∷ []) i) e at (inl (In-right n sent (n ∷ []) (inl refl))) before
unsent_sent n exports sent (Some u) e at before = let less = before.0 in (
  omega (arith, less),
  (
    before.1.0,
    (λ i. elim (In-append u sent (n ∷ []) i) [ inl old ↦ before.1.1 old | inr new ↦ elim new [ inl is ↦ omega (arith, less, is) | inr none ↦ none ] ]),
    (λ w x l is. elim (before.1.2 w x l is) [ inl there ↦ inl (In-left w sent (n ∷ []) there) | inr none ↦ inr none ]),
  ),
)

pub unsent_empty : (n : ℕ) (exports : List Export) (sent : List ℕ) (o : Option ℕ) (e : Export) → slice_get exports n ≡ Some e → e.points ≡ [] → UnsentBelow n exports sent o → UnsentBelow (n + 1) exports sent o
unsent_empty n exports sent None e at none before = one_more n exports sent sent (λ w i. i) e at (inr none) before
unsent_empty n exports sent (Some u) e at none before = let less = before.0 in (omega (arith, less), before.1)

-- a place that was not sent, of an export with points
pub unsent_lost : (n : ℕ) (exports : List Export) (sent : List ℕ) (o : Option ℕ) (e : Export) → slice_get exports n ≡ Some e → e.points ≢ [] → AreBelow n sent → UnsentBelow n exports sent o
    → UnsentBelow (n + 1) exports sent (option_or o (Some n))
unsent_lost n exports sent None e at points below before = (omega arith, ((e, at, points), (λ i. let l = below n i in omega (arith, l)), before))
unsent_lost n exports sent (Some u) e at points below before = let less = before.0 in (omega (arith, less), before.1)

-- all places were looked at
pub unsent_all : (exports : List Export) (sent : List ℕ) (o : Option ℕ) → UnsentBelow (length exports) exports sent o → IsUnsent exports sent o
unsent_all exports sent None before = λ w e at. before w e (got exports w e at).0 at
unsent_all exports sent (Some u) before = before.1

-- what is known of the exports before a place
abbrev pub IsLookedAt : ℕ → List Export → Traffic → Option ℕ → Type 0
IsLookedAt n exports v o = (v.got ≡ []) × AreBelow n v.sent × UnsentBelow n exports v.sent o

pub looked_sent : (n : ℕ) (exports : List Export) (v w : Traffic) (o p : Option ℕ) (e : Export) → slice_get exports n ≡ Some e → w ≡ and_sent v n → p ≡ o → IsLookedAt n exports v o → IsLookedAt (n + 1) exports w p
looked_sent n exports v w o p e at is same kept =
    subst (λ (x : Traffic × Option ℕ). IsLookedAt (n + 1) exports x.0 x.1) (λ i. (sym is i, sym same i)) (kept.0, below_more n v.sent kept.1, unsent_sent n exports v.sent o e at kept.2)

pub looked_empty : (n : ℕ) (exports : List Export) (v w : Traffic) (o p : Option ℕ) (e : Export) → slice_get exports n ≡ Some e → e.points ≡ [] → w ≡ v → p ≡ o → IsLookedAt n exports v o → IsLookedAt (n + 1) exports w p
looked_empty n exports v w o p e at none is same kept =
    subst (λ (x : Traffic × Option ℕ). IsLookedAt (n + 1) exports x.0 x.1) (λ i. (sym is i, sym same i)) (kept.0, below_same n v.sent kept.1, unsent_empty n exports v.sent o e at none kept.2)

pub looked_lost : (n : ℕ) (exports : List Export) (v w : Traffic) (o p : Option ℕ) (e : Export) → slice_get exports n ≡ Some e → e.points ≢ [] → w ≡ v → p ≡ option_or o (Some n) → IsLookedAt n exports v o
    → IsLookedAt (n + 1) exports w p
looked_lost n exports v w o p e at points is next kept =
    subst (λ (x : Traffic × Option ℕ). IsLookedAt (n + 1) exports x.0 x.1) (λ i. (sym is i, sym next i)) (kept.0, below_same n v.sent kept.1, unsent_lost n exports v.sent o e at points kept.1 kept.2)

pub none_long : {A : Type 0} (xs : List A) → (length xs == 0) ≡ true → xs ≡ []
none_long [] e = refl
none_long (x ∷ xs) e = let z : length (x ∷ xs) ≡ 0 = eqb-true (length (x ∷ xs)) 0 e in absurd (omega (arith, z))

pub some_long : {A : Type 0} (xs : List A) → (length xs == 0) ≡ false → xs ≢ []
some_long xs e none = absurd (true≢false (sym (ap (λ l. length l == 0) none) ∙ e))

-- what was received is all that was sent
pub got_all : (v : Traffic) (items : List ℕ) → length items ≡ 0 → v.sent ≡ v.got ++ items → v.sent ≡ v.got
got_all v [] none is = is ∙ append-nil v.got
got_all v (x ∷ items) none is = absurd (omega (arith, none))
