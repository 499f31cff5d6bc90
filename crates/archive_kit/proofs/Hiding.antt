-- The tombstones in a state hide whole incarnations.
use Rattle.std.proofs.Common.{◌≡◌, ℕ, true, false, not, ◌&&◌, inl, List, [], ◌∷◌, Some, None, refl, sym, ap, subst, ◌∙◌}
use mathlib.Core.Bool.{true≢false}
use Rattle.std.proofs.lemmas.Bool.{and_parts}
use Rattle.std.specs.List.{list_any, flat_map}
use Rattle.std.specs.Ordering.{eq_by_cmp}
use Rattle.std.specs.Cmp.{eq_by_cmp_equiv}
use Rattle.std.specs.FinMap.{get}
use Rattle.point_kit.specs.declared.cell.Cell.{Cell}
use Rattle.point_kit.specs.Best.{best}
use Rattle.point_kit.specs.States.{points_under}
use Rattle.point_kit.proofs.StateLaws.{get-state_of}
use Rattle.schedule_kit.specs.Deeds.{Made}
use Rattle.schedule_kit.specs.Members.{In}
use Rattle.schedule_kit.specs.Rounds.{Rounding, IsSound, points, state}
use Rattle.schedule_kit.proofs.Members.{any-In, In-map, In-flat_map, In-filter}
use Rattle.schedule_kit.proofs.Parts as parts
use Rattle.archive_kit.specs.Adopting.{Archiving, HideWhole, AreTombstones, is_adopted}
use Rattle.archive_kit.proofs.Lists.{same_bool, not_true, any_member, member_any}
use Rattle.archive_kit.proofs.Showing.{namer, hidden_by}

module _ {N K I X P : Type 0} (r : Rounding N K I X P) (s : IsSound r) (how : Archiving N K I X)
    (are : AreTombstones r how) (ms : List (Made N)) where
  key_of : Made N → X → K
  key_of m x = r.key (r.who m.writer) m.start x

  -- what stands in the state is a point of a collection, and each such point has something
  from_state : (t : K) (c : Cell P) → get (state r ms) t ≡ Some c → (m : Made N) × (x : X) × In m ms × In x (r.names m.writer m.entries) × (t ≡ r.key (r.who m.writer) m.start x)
  from_state t c e = go (points_under r.order t (flat_map (points r) ms)) refl
    where
      go : (ps : List (ℕ × P)) → points_under r.order t (flat_map (points r) ms) ≡ ps → (m : Made N) × (x : X) × In m ms × In x (r.names m.writer m.entries) × (t ≡ r.key (r.who m.writer) m.start x)
      go [] f =
          let none : None ≡ Some c = sym (get-state_of s.total s.antisymmetric r.same s.equivalence s.exact (flat_map (points r) ms) t ∙ ap (best r.same) f) ∙ e in
          cc none
      go (y ∷ ps) f = let c = parts.from_round r s ms t y (subst (λ (l : List (ℕ × P)). In y l) (sym f) (inl refl)) in (c.0, c.1, c.2, c.3, c.4)

  best_some : (ps : List (ℕ × P)) (y : ℕ × P) → In y ps → (c : Cell P) × (best r.same ps ≡ Some c)
  best_some [] y i = absurd i
  best_some (p ∷ ps) y i = (_, refl)

  to_under : (m : Made N) (x : X) → In m ms → In x (r.names m.writer m.entries) → In (m.time, r.payload m.writer m.entries x) (points_under r.order (r.key (r.who m.writer) m.start x) (flat_map (points r) ms))
  to_under m x i h =
      let k = r.key (r.who m.writer) m.start x in
      let here = In-map (λ (z : X). (r.key (r.who m.writer) m.start z, (m.time, r.payload m.writer m.entries z))) x (r.names m.writer m.entries) h in
      let whole = In-flat_map (points r) (k, (m.time, r.payload m.writer m.entries x)) m ms i here in
      In-map (λ (p : K × (ℕ × P)). p.1) (k, (m.time, r.payload m.writer m.entries x)) _ (In-filter (λ (p : K × (ℕ × P)). eq_by_cmp r.order k p.0) (k, (m.time, r.payload m.writer m.entries x)) _ whole ((eq_by_cmp_equiv s.total).refl k))

  in_state : (m : Made N) (x : X) → In m ms → In x (r.names m.writer m.entries) → (c : Cell P) × (get (state r ms) (r.key (r.who m.writer) m.start x) ≡ Some c)
  in_state m x i j =
      let b = best_some _ _ (to_under m x i j) in
      (b.0, get-state_of s.total s.antisymmetric r.same s.equivalence s.exact (flat_map (points r) ms) (r.key (r.who m.writer) m.start x) ∙ b.1)

  -- where an incarnation has a tombstone, it is no archive's
  pub no_archive : (w start : ℕ) → is_adopted r how ms (r.who w) start ≡ true → how.is_archive (r.who w) ≡ false
  no_archive w start h =
      let m = any_member (λ (m : Made N). list_any (r.same_name (how.tombstone (r.who w) start)) (r.names m.writer m.entries)) ms h in
      let named = any-In r.same_name s.names_equivalence s.names_exact (how.tombstone (r.who w) start) (r.names m.0.writer m.0.entries) m.2 in
      let by = are.only m.0.writer m.0.entries (how.tombstone (r.who w) start) named (are.are w start) in
      let c = are.of_adopted m.0.writer w m.0.entries start by named in
      sym (ap how.is_archive c.2) ∙ are.never m.0.writer m.0.entries c.0 by c.1

  pub never_adopted : (w start : ℕ) → how.is_archive (r.who w) ≡ true → is_adopted r how ms (r.who w) start ≡ false
  never_adopted w start a = not_true _ (λ h. true≢false (sym a ∙ no_archive w start h))

  pub hide_whole : HideWhole r how.names (is_adopted r how ms) ms
  hide_whole m i x j = same_bool _ _
      (λ h.
      let t = namer s.total s.antisymmetric how.names (state r ms) (r.key (r.who m.writer) m.start x) h in
      let f = from_state t.0 t.1 t.2 in
      let told = sym (are.tells (r.who f.0.writer) m.writer f.0.start m.start f.1 x) ∙ ap (λ k. how.names k (r.key (r.who m.writer) m.start x)) (sym f.4) ∙ t.3 in
      let same : r.same_name (how.tombstone (r.who m.writer) m.start) f.1 ≡ true = s.names_equivalence.symm _ _ ∙ (and_parts _ _ told).0 in
      member_any (λ (m' : Made N). list_any (r.same_name (how.tombstone (r.who m.writer) m.start)) (r.names m'.writer m'.entries)) ms f.0 f.2 (member_any (r.same_name (how.tombstone (r.who m.writer) m.start)) (r.names f.0.writer f.0.entries) f.1 f.3 same))
      (λ h.
      let m' = any_member (λ (m' : Made N). list_any (r.same_name (how.tombstone (r.who m.writer) m.start)) (r.names m'.writer m'.entries)) ms h in
      let named = any-In r.same_name s.names_equivalence s.names_exact (how.tombstone (r.who m.writer) m.start) (r.names m'.0.writer m'.0.entries) m'.2 in
      let c = in_state m'.0 (how.tombstone (r.who m.writer) m.start) m'.1 named in
      let plain : how.is_tombstone x ≡ false = not_true (how.is_tombstone x) (λ t. true≢false (sym (are.only m.writer m.entries x j t) ∙ no_archive m.writer m.start h)) in
      hidden_by s.total s.antisymmetric how.names (state r ms) (r.key (r.who m.writer) m.start x) (r.key (r.who m'.0.writer) m'.0.start (how.tombstone (r.who m.writer) m.start)) c.0 c.1
      (are.tells (r.who m'.0.writer) m.writer m'.0.start m.start (how.tombstone (r.who m.writer) m.start) x
      ∙ ap (λ b. b && not (how.is_tombstone x)) (s.names_equivalence.refl (how.tombstone (r.who m.writer) m.start)) ∙ ap not plain))
