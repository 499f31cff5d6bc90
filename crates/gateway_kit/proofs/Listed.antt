-- What is listed of incarnations that are kept in order is what their points tell.
use Rattle.std.proofs.Common.{◌≡◌, ℕ, Bool, true, false, cond, nat_eq, List, [], ◌∷◌, ◌++◌, map, length, Some, unwrap_or, refl, sym, ap, ◌∙◌, true≢false}
use mathlib.Core.List.{map-map}
use Rattle.std.proofs.lemmas.Bool.{and_parts}
use Rattle.std.proofs.lemmas.List.{length-map}
use Rattle.std.proofs.lemmas.Slice.Eq.{bytes_eq-Decides}
use Rattle.std.specs.Prelude.{⊤, T}
use Rattle.std.specs.Cmp.Lexicographic.{pointwise}
use Rattle.std.specs.FinMap.{entries, from_sorted}
use Rattle.std.specs.FinMap.Entries.{find, is_sorted, below_all}
use Rattle.std.specs.List.{dedup, dedup_from, list_all}
use Rattle.std.specs.Ordering.{eq_by_cmp}
use Rattle.point_kit.specs.declared.cell.Cell.{Cell}
use Rattle.point_kit.specs.declared.key.Key.{Key}
use Rattle.point_kit.specs.declared.payload.Payload.{Payload}
use Rattle.point_kit.specs.Exports.{Points}
use Rattle.point_kit.specs.Orders.{key_cmp}
use Rattle.gateway_kit.specs.Changing.{KeyedCell}
use Rattle.gateway_kit.specs.Keys.{IncarnationKey, incarnation_cmp, whole_key}
use Rattle.gateway_kit.specs.KeyOrders.{incarnation_total}
use Rattle.gateway_kit.specs.IncarnationState.{IncarnationState}
use Rattle.gateway_kit.specs.Incarnations.{IsWhole, all_points, entries_at, has_cells, has_some, keyed_cells}
use Rattle.gateway_kit.specs.Listing.{held_as_kept, held_incarnations, held_of, held_services, incarnation_of}
use Rattle.gateway_kit.specs.Times.{greatest, latest}
use Rattle.gateway_kit.proofs.Entries.{apart_less, as_T, first, itself, less, second}
use Rattle.gateway_kit.proofs.Joining.{entries_points, under}
use Rattle.gateway_kit.proofs.Queried.{points_under}

-- ---- what is told once of points is told once of their incarnations

module _ {X : Type 0} (same : X → X → Bool) (itself_same : (x : X) → same x x ≡ true) (tells : IncarnationKey → X) where
  -- what points tell
  abbrev told : List (Key × Cell Payload) → List X
  told ps = map (λ e. tells (incarnation_of e.0)) ps

  -- points that tell what was kept last add nothing
  adds_nothing : (k : X) (a : IncarnationKey) (es : List KeyedCell) (rest : List (Key × Cell Payload)) → same (tells a) k ≡ true → dedup_from same k (told (under a es ++ rest)) ≡ dedup_from same k (told rest)
  adds_nothing k a [] rest h = refl
  adds_nothing k a (e ∷ es) rest h = ap (λ b. cond b (dedup_from same k (told (under a es ++ rest))) (k ∷ dedup_from same (tells a) (told (under a es ++ rest)))) h ∙ adds_nothing k a es rest h

  -- those of one incarnation tell one thing
  tell_one : (k : X) (a : IncarnationKey) (es : List KeyedCell) (rest : List (Key × Cell Payload)) → has_some es ≡ true → dedup_from same k (told (under a es ++ rest)) ≡ dedup_from same k (tells a ∷ told rest)
  tell_one k a [] rest some = absurd (true≢false (sym some))
  tell_one k a (e ∷ es) rest some =
      elim (same (tells a) k) as (λ b. same (tells a) k ≡ b → cond b (dedup_from same k (told (under a es ++ rest))) (k ∷ dedup_from same (tells a) (told (under a es ++ rest))) ≡ cond b (dedup_from same k (told rest)) (k ∷ dedup_from same (tells a) (told rest))) [
        | true ↦ λ h. adds_nothing k a es rest h
        | false ↦ λ _. ap (λ l. k ∷ l) (adds_nothing (tells a) a es rest (itself_same (tells a)))
      ] refl

  -- what incarnations tell
  abbrev tells_each : List IncarnationState → List X
  tells_each ps = map (λ p. tells (p.writer, p.start)) ps

  told_behind : (k : X) (ps : List IncarnationState) → list_all has_cells ps ≡ true → dedup_from same k (told (all_points ps)) ≡ dedup_from same k (tells_each ps)
  told_behind k [] filled = refl
  told_behind k (p ∷ ps) filled =
      let parts = and_parts (has_cells p) (list_all has_cells ps) filled in
      let a : IncarnationKey = (p.writer, p.start) in
      tell_one k a (entries p.cells) (all_points ps) parts.0
      ∙ (λ i. cond (same (tells a) k) (told_behind k ps parts.1 i) (k ∷ told_behind (tells a) ps parts.1 i))

  -- where the first is the least that is told, it is kept
  first_of : (a : IncarnationKey) (es : List KeyedCell) (rest : List (Key × Cell Payload)) → has_some es ≡ true → dedup same (told (under a es ++ rest)) ≡ dedup_from same (tells a) (told rest)
  first_of a [] rest some = absurd (true≢false (sym some))
  first_of a (e ∷ es) rest some = adds_nothing (tells a) a es rest (itself_same (tells a))

  pub told_once : (ps : List IncarnationState) → list_all has_cells ps ≡ true → dedup same (told (all_points ps)) ≡ dedup same (tells_each ps)
  told_once [] filled = refl
  told_once (p ∷ ps) filled =
      let parts = and_parts (has_cells p) (list_all has_cells ps) filled in
      first_of (p.writer, p.start) (entries p.cells) (all_points ps) parts.0 ∙ told_behind (tells (p.writer, p.start)) ps parts.1

-- ---- incarnations

abbrev keys : List IncarnationState → List IncarnationKey
keys ps = map (λ p. (p.writer, p.start)) ps

-- keys that rise are all kept
rise_from : (a : IncarnationKey) (ps : List IncarnationState) → T (below_all incarnation_cmp a (map keyed_cells ps)) → T (is_sorted incarnation_cmp (map keyed_cells ps)) → dedup_from (eq_by_cmp incarnation_cmp) a (keys ps) ≡ a ∷ keys ps
rise_from a [] below sorted = refl
rise_from a (p ∷ ps) below sorted =
    let b : IncarnationKey = (p.writer, p.start) in
    ap (λ t. cond t (dedup_from (eq_by_cmp incarnation_cmp) a (keys ps)) (a ∷ dedup_from (eq_by_cmp incarnation_cmp) b (keys ps))) (apart_less incarnation_total a b (less _ (first _ _ below)))
    ∙ ap (λ l. a ∷ l) (rise_from b ps (first _ _ sorted) (second _ _ sorted))

all_rise : (ps : List IncarnationState) → T (is_sorted incarnation_cmp (map keyed_cells ps)) → dedup (eq_by_cmp incarnation_cmp) (keys ps) ≡ keys ps
all_rise [] sorted = refl
all_rise (p ∷ ps) sorted = rise_from (p.writer, p.start) ps (first _ _ sorted) (second _ _ sorted)

-- each of some is found among all
abbrev AreFound : List IncarnationState → List IncarnationState → Type 0
AreFound all [] = ⊤
AreFound all (p ∷ ps) = (find incarnation_cmp (p.writer, p.start) (map keyed_cells all) ≡ Some p.cells) × AreFound all ps

found_behind : (p : IncarnationState) (all ps : List IncarnationState) → T (below_all incarnation_cmp (p.writer, p.start) (map keyed_cells ps)) → AreFound all ps → AreFound (p ∷ all) ps
found_behind p all [] below found = tt
found_behind p all (q ∷ ps) below found = (
  ap (λ t. cond t (Some p.cells) (find incarnation_cmp (q.writer, q.start) (map keyed_cells all))) (apart_less incarnation_total (p.writer, p.start) (q.writer, q.start) (less _ (first _ _ below))) ∙ found.0,
  found_behind p all ps (second _ _ below) found.1,
)

all_found : (ps : List IncarnationState) → T (is_sorted incarnation_cmp (map keyed_cells ps)) → AreFound ps ps
all_found [] sorted = tt
all_found (p ∷ ps) sorted = (
  ap (λ t. cond t (Some p.cells) (find incarnation_cmp (p.writer, p.start) (map keyed_cells ps))) (itself incarnation_total (p.writer, p.start)),
  found_behind p ps ps (first _ _ sorted) (all_found ps (second _ _ sorted)),
)

-- what points tell of an incarnation is what is kept of it
held_one : (p : IncarnationState) (all : List IncarnationState) → is_sorted incarnation_cmp (map keyed_cells all) ≡ true → find incarnation_cmp (p.writer, p.start) (map keyed_cells all) ≡ Some p.cells → held_of (from_sorted {R = key_cmp} (all_points all)) (p.writer, p.start) ≡ held_as_kept p
held_one p all sorted found =
    let a : IncarnationKey = (p.writer, p.start) in
    let points = points_under a all sorted ∙ ap (λ o. under a (entries_at o)) found in
    let newest : latest (under a (entries p.cells)) ≡ latest (entries p.cells) = ap (λ l. unwrap_or (greatest l) 0) (map-map (λ (e : Key × Cell Payload). e.1.time) (λ (e : KeyedCell). (whole_key a e.0, e.1)) (entries p.cells)) in
    let count : length (under a (entries p.cells)) ≡ length (entries p.cells) = length-map (entries p.cells) (λ (e : KeyedCell). (whole_key a e.0, e.1)) in
    (λ i. record { writer = p.writer; start = p.start; newest = (ap latest points ∙ newest) i; points = (ap length points ∙ count) i })

held_each : (all ps : List IncarnationState) → is_sorted incarnation_cmp (map keyed_cells all) ≡ true → AreFound all ps → map (held_of (from_sorted {R = key_cmp} (all_points all))) (keys ps) ≡ map held_as_kept ps
held_each all [] sorted found = refl
held_each all (p ∷ ps) sorted found = λ i. held_one p all sorted found.0 i ∷ held_each all ps sorted found.1 i

-- what points tell of incarnations is what is kept of them
pub incarnations_listed : (ps : List IncarnationState) (n : ℕ) → IsWhole ps n → held_incarnations (from_sorted {R = key_cmp} (all_points ps)) ≡ map held_as_kept ps
incarnations_listed ps n whole =
    let points : Points = from_sorted {R = key_cmp} (all_points ps) in
    ap (λ l. map (held_of points) (dedup (eq_by_cmp incarnation_cmp) (map (λ e. incarnation_of e.0) l))) (entries_points ps whole.sorted)
    ∙ ap (map (held_of points)) (told_once (eq_by_cmp incarnation_cmp) (itself incarnation_total) (λ a. a) ps whole.filled ∙ all_rise ps (as_T whole.sorted))
    ∙ held_each ps ps whole.sorted (all_found ps (as_T whole.sorted))

-- and of their services
pub services_listed : (ps : List IncarnationState) (n : ℕ) → IsWhole ps n → held_services (from_sorted {R = key_cmp} (all_points ps)) ≡ dedup (pointwise nat_eq) (map (λ p. p.writer.service) ps)
services_listed ps n whole =
    ap (λ l. dedup (pointwise nat_eq) (map (λ e. e.0.writer.service) l)) (entries_points ps whole.sorted)
    ∙ told_once (pointwise nat_eq) same_service (λ a. a.0.service) ps whole.filled
  where
    same_service : (s : List ℕ) → pointwise nat_eq s s ≡ true
    same_service s = (bytes_eq-Decides s s).1 refl
