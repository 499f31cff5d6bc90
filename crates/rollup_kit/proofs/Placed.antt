-- A group that is found at its place.
use Rattle.std.proofs.Common.{◌≡◌, ℕ, true, cond, ◌&&◌, List, map, Some, is_some, unwrap_or, slice_get, sym, ap, subst, ◌∙◌}
use Rattle.std.proofs.lemmas.Map.Entries.{hash_map_get_place}
use Rattle.std.proofs.lemmas.Option.{slice_get-map}
use Rattle.std.specs.Map.{values_of}
use Rattle.std.specs.Option.{option_map}
use Rattle.std.specs.Ordering.{eq_by_cmp}
use Rattle.indexmap.specs.IndexMap.{IndexMap, IsUnique, with_value_at}
use Rattle.indexmap.proofs.CallerLemmas.{updates-with_value_at}
use Rattle.attr_kit.specs.Attributes.{AreAttributes}
use Rattle.attr_kit.specs.Keeping.{kept}
use Rattle.attr_kit.specs.contracts.attr_set.AttrSetEq.TheImpl.Laws as set_laws
use Rattle.attr_kit.specs.declared.keep.Keep.TheVariants.{Only}
use Rattle.point_kit.specs.declared.cell.Cell.{Cell}
use Rattle.point_kit.specs.declared.key.Key.{Key}
use Rattle.point_kit.specs.declared.payload.Payload.{Payload}
use Rattle.rollup_kit.specs.Asks.{Attributes, attributes_cmp, asks, group}
use Rattle.rollup_kit.specs.declared.ask.Ask.{Ask}
use Rattle.rollup_kit.specs.Groups.{Grouped, no_group, with_held}
use Rattle.rollup_kit.specs.Places.{Show, ShowKept}
use Rattle.rollup_kit.specs.Walks.{Rows, group_at, Adds, AddsTo, AddsHeld}
use Rattle.rollup_kit.proofs.Adding.{held_changed, held_first}
use Rattle.rollup_kit.proofs.SetOrders.{sets_total, sets_exact, set_eq, by_order, changed_by_order}

module _ {S : Type 0} (m : IndexMap Attributes Grouped S) (i : ℕ) (k : Attributes) (g h : Grouped) (unique : IsUnique set_eq m) (key : Some (k, h) ≡ slice_get m.entries i) (value : Some g ≡ slice_get (values_of m.entries) i) where
  entry : slice_get m.entries i ≡ Some (k, g)
  entry =
      let here : Some g ≡ Some h = value ∙ slice_get-map (λ (e : Attributes × Grouped). e.1) m.entries i ∙ ap (option_map (λ (e : Attributes × Grouped). e.1)) (sym key) in
      let same : h ≡ g = cc in
      sym key ∙ ap (λ (x : Grouped). Some (k, x)) same

  -- the group at a place is that of the set there
  pub held_at : Some g ≡ group_at m.entries k
  held_at = sym (hash_map_get_place set_laws.laws-law m i k g unique entry) ∙ by_order m.entries k

  -- and a change of it is one of that set's group alone
  pub changed_at : (f : Grouped → Grouped) (w : Grouped) → w ≡ f g → (q : Attributes) → group_at (with_value_at m i w).entries q ≡ cond (eq_by_cmp attributes_cmp q k) (option_map f (group_at m.entries q)) (group_at m.entries q)
  changed_at f w is =
      held_changed sets_total sets_exact f (group_at m.entries) (group_at (with_value_at m i w).entries) k g w held_at is
      (changed_by_order m.entries (with_value_at m i w).entries k (Some w) (updates-with_value_at m i w set_laws.laws-law unique k g entry).0)

-- a cell that is added to the group of a set that places show is added to that of what is kept
pub added_kept : (keys : List (List ℕ)) (attrs pairs : Attributes) (places slice : List ℕ) (buckets : ℕ) (cell : Cell Payload) (old new : Rows) → ShowKept keys attrs places → pairs ≡ attrs → slice ≡ places
    → (set : Attributes) → AreAttributes set → Show pairs slice set → is_some (group_at old set) ≡ true → AddsHeld set cell old new → AddsTo buckets (kept (Only keys) attrs) cell old new
added_kept keys attrs pairs places slice buckets cell old new shows o s set are shown there adds =
    subst (λ (a : Attributes). AddsTo buckets a cell old new) (shows set are (sym (λ i. map (slice_get (o i)) (s i)) ∙ shown))
    (held_first sets_total sets_exact (λ (g : Grouped). with_held g cell.time cell.held) (no_group buckets) (group_at old) (group_at new) set there adds)

-- and that is how a point that is asked for is added
pub added_row : (ask : Ask) (buckets : ℕ) (e : Key × Cell Payload) (set : Attributes) (old new : Rows) → asks ask e.0 ≡ true → set ≡ group ask e.0 → AddsTo buckets set e.1 old new → Adds ask buckets e old new
added_row ask buckets e set old new asked is adds q =
    adds q ∙ (λ i. cond (sym asked i && eq_by_cmp attributes_cmp q (is i)) (Some (with_held (unwrap_or (group_at old q) (no_group buckets)) e.1.time e.1.held)) (group_at old q))
