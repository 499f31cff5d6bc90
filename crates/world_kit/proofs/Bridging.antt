-- What gateways of a world hold of each writer, where no two writers share an identity.
use Rattle.std.proofs.Common.{◌≡◌, ℕ, ◌<◌, List, [], ◌∷◌, ◌++◌, length, slice_get, Some, refl, sym, ap, subst, ◌∙◌, arith}
use Rattle.std.specs.FinMap.{get}
use Rattle.std.specs.List.{flat_map}
use Rattle.std.proofs.lemmas.List.{length-map}
use Rattle.gossip_kit.specs.Views.{NodeModel}
use Rattle.point_kit.specs.declared.key.Key.{Key}
use Rattle.point_kit.specs.Equality.{payload_eq}
use Rattle.point_kit.specs.Orders.{key_cmp}
use Rattle.point_kit.specs.States.{state_of}
use Rattle.schedule_kit.proofs.Headline.{no_conflict, part_is_newest}
use Rattle.schedule_kit.specs.Deeds.{Holder, IsTold}
use Rattle.schedule_kit.specs.Deeds.Holder.{AtGateway}
use Rattle.schedule_kit.specs.Rounds.{HasNoConflict, part_at, points, state}
use Rattle.schedule_kit.specs.Taken.{taken_collections, newest}
use Rattle.rollup_kit.proofs.Exported.{made_named}
use Rattle.rollup_kit.proofs.Naming.{rounding_sound}
use Rattle.rollup_kit.specs.Naming.{Name, key_at}
use Rattle.world_kit.specs.declared.setup.Setup.{Setup}
use Rattle.world_kit.specs.declared.setup.WriterSetup.{WriterSetup}
use Rattle.world_kit.specs.WorldState.{WorldState}
use Rattle.world_kit.specs.Judged.{Deeds, fits_at}
use Rattle.world_kit.specs.Recording.{rounding}
use Rattle.world_kit.specs.Setups.{ArePlans, writer_at, starts_of, gateways_of, writers_of}
use Rattle.world_kit.specs.Stands.{Stands}
use Rattle.world_kit.specs.States.{made_points, state_at}

flat_same : {A B : Type 0} (f g : A → List B) → ((x : A) → f x ≡ g x) → (xs : List A) → flat_map f xs ≡ flat_map g xs
flat_same f g h [] = refl
flat_same f g h (x ∷ xs) = ap (λ l. l ++ flat_map f xs) (h x) ∙ ap (λ l. g x ++ l) (flat_same f g h xs)

state_named : (s : Setup) → ArePlans s → (ds : Deeds) (h : Holder) → state_at s ds h ≡ state (rounding s) (taken_collections (starts_of s) ds h)
unfolding state_at
state_named s plans ds h = ap (state_of key_cmp payload_eq) (flat_same (made_points s) (points (rounding s)) (made_named (writers_of s) plans) (taken_collections (starts_of s) ds h))

module _ (s : Setup) (ds : Deeds) (w : WorldState) (st : Stands s ds w) (told : IsTold (λ v. (writer_at s v).id) (starts_of s)) (g : ℕ) (n : NodeModel) (at_g : slice_get w.nodes g ≡ Some n) where
  pub its : n.gateway.points ≡ state (rounding s) (taken_collections (starts_of s) ds (AtGateway g))
  its = st.nodes.points g n at_g ∙ state_named s st.plans ds (AtGateway g)

  -- no conflict stands
  pub without_conflict : (k : Key) → HasNoConflict (get n.gateway.points k)
  without_conflict k = subst (λ p. HasNoConflict (get p k)) (sym its) (no_conflict (rounding s) (rounding_sound (writers_of s) st.plans) (fits_at s) (starts_of s) (gateways_of s) told ds st.lawful (AtGateway g) k)

  -- what stands of an incarnation is its newest collection taken, or nothing
  pub part_of : (v start : ℕ) → v < length s.writers → (x : Name) → get n.gateway.points (key_at (writer_at s v).id start x) ≡ part_at (rounding s) (newest (taken_collections (starts_of s) ds (AtGateway g)) v start) x
  part_of v start there x =
      ap (λ p. get p (key_at (writer_at s v).id start x)) its
      ∙ part_is_newest (rounding s) (rounding_sound (writers_of s) st.plans) (fits_at s) (starts_of s) (gateways_of s) told ds st.lawful (AtGateway g) v start (omega (arith, length-map s.writers (λ (z : WriterSetup). z.start))) x
