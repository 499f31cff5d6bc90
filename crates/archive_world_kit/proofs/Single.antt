-- The state of one export of one point.
use Rattle.std.proofs.Common.{◌≡◌, ℕ, Bool, true, false, not, ◌&&◌, ◌||◌, cond, inl, inr, List, [], ◌∷◌, ◌++◌, map, filter, Option, Some, None, refl, sym, ap, ◌∙◌, true≢false}
use Rattle.std.specs.FinMap.{FinMap, get, empty, entries, from_sorted, entries-from_sorted, get-empty, get-from_sorted, same_map}
use Rattle.std.specs.Cmp.{eq_by_cmp_equiv}
use Rattle.std.specs.List.{list_any}
use Rattle.std.specs.Ordering.{eq_by_cmp, nat_cmp}
use Rattle.std.specs.Option.{is_some}
use Rattle.archive_kit.proofs.Lists.{not_true}
use Rattle.archive_kit.proofs.Showing.{get-shown, namer}
use Rattle.archive_kit.specs.Showing.{hides, shown}
use Rattle.archive_kit.specs.Stepping.{JoinsAndDrops, JoinsOrSkips}
use Rattle.archive_kit.specs.Tombstones.{incarnation_attrs, is_tombstone, names_key, set_eq}
use Rattle.gossip_kit.specs.Views.{NodeModel}
use Rattle.point_kit.proofs.EqualityLaws.{payload_equivalence, payload_exact}
use Rattle.point_kit.proofs.OrderLaws.{key_total, key_exact}
use Rattle.point_kit.proofs.StateLaws.{get-join_maps, get-state_of}
use Rattle.point_kit.specs.declared.cell.Cell.{Cell}
use Rattle.point_kit.specs.declared.cell.Held.TheVariants.{One}
use Rattle.point_kit.specs.declared.export.Export.{Export}
use Rattle.point_kit.specs.declared.key.Key.{Key}
use Rattle.point_kit.specs.declared.payload.Payload.{Payload}
use Rattle.point_kit.specs.Best.{best}
use Rattle.point_kit.specs.Equality.{payload_eq}
use Rattle.point_kit.specs.Exports.{Points, join_points, points_of, state}
use Rattle.point_kit.specs.Join.{join_cells, join_options}
use Rattle.point_kit.specs.Orders.{key_cmp}
use Rattle.point_kit.specs.States.{state_of}

module _ (k : Key) (p : Payload) where
  abbrev pub cell : Cell Payload
  cell = record { time = 200; held = One p }

  abbrev pub only : Points
  only = from_sorted ((k, cell) ∷ [])

  pub entries_only : entries only ≡ (k, cell) ∷ []
  entries_only = entries-from_sorted key_cmp ((k, cell) ∷ []) tt

  pub get_only : (q : Key) → get only q ≡ cond (eq_by_cmp key_cmp q k) (Some cell) None
  get_only q = get-from_sorted key_cmp ((k, cell) ∷ []) q tt

  best_one : (b : Bool) → best payload_eq (map (λ (z : Key × (ℕ × Payload)). z.1) (cond b ((k, (200, p)) ∷ []) [])) ≡ cond b (Some cell) None
  best_one true = refl
  best_one false = refl

  -- joined into nothing, it is all that there is
  pub joined_only : (e : Export) → points_of e ≡ (k, (200, p)) ∷ [] → join_points empty (state (e ∷ [])) ≡ only
  joined_only e is =
      ap (λ l. join_points empty (state_of key_cmp payload_eq (l ++ []))) is
      ∙ same_map key_total key_exact _ _ (λ q.
      get-join_maps key_total key_exact (join_cells payload_eq) empty (state_of key_cmp payload_eq ((k, (200, p)) ∷ [])) q
      ∙ ap (λ o. join_options (join_cells payload_eq) o (get (state_of key_cmp payload_eq ((k, (200, p)) ∷ [])) q)) (get-empty key_cmp q)
      ∙ get-state_of key_total key_exact payload_eq payload_equivalence payload_exact ((k, (200, p)) ∷ []) q
      ∙ best_one (eq_by_cmp key_cmp q k) ∙ sym (get_only q))

  -- where it is no tombstone, it hides nothing, and is shown
  pub only_hides : is_tombstone k ≡ false → (q : Key) → hides names_key only q ≡ false
  only_hides plain q =
      ap (λ es. list_any (λ t. names_key t q) (map (λ (e : Key × Cell Payload). e.0) es)) entries_only
      ∙ ap (λ b. (b && (not (is_tombstone q) && set_eq k.attrs (incarnation_attrs q.writer q.start))) || false) plain

  pub only_shown : is_tombstone k ≡ false → shown names_key only ≡ only
  only_shown plain = same_map key_total key_exact _ _ (λ q.
      get-shown key_total key_exact names_key only q ∙ ap (λ b. cond (not b) (get only q) None) (only_hides plain q))

-- nothing is hidden where nothing is
pub nothing_hidden : (q : Key) → hides {V = Cell Payload} {R = key_cmp} names_key empty q ≡ false
nothing_hidden q = not_true _ (λ h.
    let by = namer key_total key_exact names_key empty q h in
    true≢false (sym (ap (λ (o : Option (Cell Payload)). is_some o) (sym (get-empty key_cmp by.0) ∙ by.2))))

-- a node does not leave out an export whose first point it does not hide
module _ (k : Key) (v : ℕ × Payload) (rest : List (Key × (ℕ × Payload))) (e : Export) (is : points_of e ≡ (k, v) ∷ rest) where
  abbrev more : List (Key × (ℕ × Payload))
  more = filter (λ q. eq_by_cmp key_cmp k q.0) (rest ++ [])

  abbrev under : Bool → List (ℕ × Payload)
  under b = map (λ (q : Key × (ℕ × Payload)). q.1) (cond b ((k, v) ∷ more) more)

  brought : (c : Cell Payload) × (get (state (e ∷ [])) k ≡ Some c)
  brought = (
    _,
    ap (λ l. get (state_of key_cmp payload_eq (l ++ [])) k) is
        ∙ get-state_of key_total key_exact payload_eq payload_equivalence payload_exact ((k, v) ∷ (rest ++ [])) k
        ∙ ap (λ b. best payload_eq (under b)) ((eq_by_cmp_equiv key_total).refl k),
  )

  pub joined_in : (books : FinMap nat_cmp ℕ) (old new : NodeModel) → hides names_key old.gateway.points k ≡ false
      → JoinsOrSkips (state (e ∷ [])) books old new → JoinsAndDrops (state (e ∷ [])) books old new
  joined_in books old new free did = elim did [
    | inl joins ↦ joins
    | inr skips ↦ absurd (true≢false (sym (skips.hidden k brought.0 brought.1) ∙ free))
  ]
