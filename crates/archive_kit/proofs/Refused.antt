-- What a tombstone names a keeper does not hold, so no archive adopts it again.
use Rattle.std.proofs.Common.{◌≡◌, ℕ, Bool, true, false, not, cond, ◌&&◌, inl, List, [], ◌∷◌, Option, None, refl, sym, ap, subst, ◌∙◌, true≢false}
use Rattle.std.proofs.lemmas.Bool.{or_parts}
use Rattle.std.specs.Cmp.{Equal-is, eq_by_cmp_equiv}
use Rattle.std.specs.FinMap.{get, keys, entries, contains_key-keys}
use Rattle.std.specs.List.{list_any}
use Rattle.std.specs.Option.{is_some}
use Rattle.std.specs.Ordering.{eq_by_cmp}
use Rattle.attr_kit.proofs.Firsts.{none_of, when_none}
use Rattle.gateway_kit.specs.KeyOrders.{incarnation_exact}
use Rattle.gateway_kit.specs.Keys.{IncarnationKey, incarnation_cmp}
use Rattle.gateway_kit.specs.Queries.{incarnation_points, is_of_incarnation}
use Rattle.point_kit.proofs.OrderLaws.{key_total, key_exact}
use Rattle.point_kit.specs.Exports.{Points}
use Rattle.point_kit.specs.Orders.{key_cmp}
use Rattle.point_kit.specs.declared.cell.Cell.{Cell}
use Rattle.point_kit.specs.declared.key.Key.{Key}
use Rattle.point_kit.specs.declared.payload.Payload.{Payload}
use Rattle.point_kit.specs.declared.writer_id.WriterId.{WriterId}
use Rattle.schedule_kit.proofs.Members.{filter-In, In-map}
use Rattle.schedule_kit.specs.Members.{In}
use Rattle.archive_kit.specs.Archive.{ArchiveState, early_fault, early_faults, is_nothing}
use Rattle.archive_kit.specs.Keeping.{is_named}
use Rattle.archive_kit.specs.Showing.{hides, shown}
use Rattle.archive_kit.specs.Tombstones.{is_tombstone, names_key}
use Rattle.archive_kit.specs.declared.adopt_fault.AdoptFault.TheVariants as faults
use Rattle.archive_kit.proofs.Kept.{early_plain}
use Rattle.archive_kit.proofs.Lists.{member_any}
use Rattle.archive_kit.proofs.Showing.{get-shown}
use Rattle.archive_kit.proofs.Skipping.{hides_is}

module _ (points : Points) (all_shown : shown names_key points ≡ points) (w : WriterId) (s : ℕ) (named : is_named points w s ≡ true) where
  -- of its incarnation tombstones alone
  only_tombstones : (e : Key × Cell Payload) → In e (incarnation_points w s points) → is_tombstone e.0 ≡ true
  only_tombstones e i = go (is_tombstone e.0) refl
    where
      both : In e (entries points) × (is_of_incarnation w s e.0 ≡ true)
      both = filter-In (λ (x : Key × Cell Payload). is_of_incarnation w s x.0) e (entries points) i

      own : ◌≡◌ {A = IncarnationKey} (w, s) (e.0.writer, e.0.start)
      own = incarnation_exact (w, s) (e.0.writer, e.0.start) ((Equal-is (incarnation_cmp (w, s) (e.0.writer, e.0.start))).0 both.1)

      own_writer : e.0.writer ≡ w
      own_writer = ap (λ (k : IncarnationKey). k.0) (sym own)

      own_start : e.0.start ≡ s
      own_start = ap (λ (k : IncarnationKey). k.1) (sym own)

      there : list_any (eq_by_cmp key_cmp e.0) (keys points) ≡ true
      there = member_any (eq_by_cmp key_cmp e.0) (keys points) e.0 (In-map (λ (x : Key × Cell Payload). x.0) e (entries points) both.0) ((eq_by_cmp_equiv key_total).refl e.0)

      go : (b : Bool) → is_tombstone e.0 ≡ b → b ≡ true
      go true f = refl
      go false f =
          let hidden : hides names_key points e.0 ≡ true =
          hides_is points e.0 ∙ (λ n. not (f n) && is_named points (own_writer n) (own_start n)) ∙ named in
          let none : get points e.0 ≡ None =
          ap (λ (m : Points). get m e.0) (sym all_shown) ∙ get-shown key_total key_exact names_key points e.0 ∙ ap (λ b. cond (not b) (get points e.0) None) hidden in
          absurd (true≢false (sym there ∙ sym (contains_key-keys points e.0) ∙ ap (λ (o : Option (Cell Payload)). is_some o) none))

  -- so an adoption of it is refused
  pub named_refused : (a : ArchiveState) → early_fault a w s (incarnation_points w s points) ≡ None → ⊥
  named_refused a e = go (incarnation_points w s points) refl
    where
      cells : List (Key × Cell Payload)
      cells = incarnation_points w s points

      go : (es : List (Key × Cell Payload)) → cells ≡ es → ⊥
      go [] f = true≢false (ap is_nothing (sym f) ∙ when_none (is_nothing cells) faults.Nothing (none_of (early_faults a w s cells) e).1.1.1.0)
      go (x ∷ es) f =
          let mark = only_tombstones x (subst (λ (l : List (Key × Cell Payload)). In x l) (sym f) (inl refl)) in
          true≢false (sym mark ∙ (or_parts (is_tombstone x.0) (list_any (λ e. is_tombstone e.0) es) (ap (list_any (λ e. is_tombstone e.0)) (sym f) ∙ early_plain a w s cells e)).0)
