-- The entries of an export: no key comes twice.
use Rattle.std.proofs.Common.{◌≡◌, ℕ, zero, suc, ◌+◌, ◌<◌, false, ◌&&◌, cond, List, [], ◌∷◌, ◌++◌, map, take, length, get_or, Some, None, refl, sym, ap, ◌∙◌, arith}
use Rattle.std.specs.List.{IsDistinct, AllByRecursion}
use Rattle.std.specs.declared.cmp.Ordering.{Ordering}
use Rattle.std.specs.declared.cmp.Ordering.TheVariants.{Less, Equal, Greater}
use Rattle.std.specs.Ordering.{eq_by_cmp, is_eq, ordering_then}
use Rattle.std.specs.Cmp.{eq_by_cmp_equiv}
use Rattle.std.specs.FinMap.Entries.{find}
use Rattle.attr_kit.specs.contracts.attr_set.AttrSetOrd.TheImpl.Laws as set_orders
use Rattle.point_kit.specs.contracts.stream.StreamOrd.TheImpl.Laws as stream_orders
use Rattle.point_kit.specs.declared.export.Export.{Export}
use Rattle.point_kit.specs.declared.export_point.ExportPoint.{ExportPoint}
use Rattle.point_kit.specs.ExportFaults.{same_key}
use Rattle.point_kit.proofs.Sound.{sound_keys}
use Rattle.gateway_kit.specs.Changing.{keyed_cells_of}
use Rattle.gateway_kit.specs.Keys.{ItemKey, item_cmp, keyed_cell_of}
use Rattle.gateway_kit.specs.declared.part_item.PartItem.{PartItem}
use Rattle.point_kit.specs.declared.cell.Held.TheVariants.{One}
use Rattle.std.proofs.lemmas.List.{take_more, take-map, map-append}
use Rattle.gateway_kit.specs.KeyOrders.{item_total}

abbrev pub point_key : ExportPoint → ItemKey
point_key p = (p.stream, p.attrs)

then_eq : (r s : Ordering) → is_eq (ordering_then r s) ≡ (is_eq r && is_eq s)
then_eq Less s = refl
then_eq Equal s = refl
then_eq Greater s = refl

-- points of one key are those whose keys tie
same_ties : (p q : ExportPoint) → same_key p q ≡ eq_by_cmp item_cmp (point_key p) (point_key q)
same_ties p q = (λ i. stream_orders.matches_eq-law p.stream q.stream i && set_orders.matches_eq-law p.attrs q.attrs i) ∙ sym (then_eq _ _)

keyed : (ps : List ExportPoint) → IsDistinct same_key ps → IsDistinct (eq_by_cmp item_cmp) (map point_key ps)
unfolding IsDistinct
keyed [] h = tt
keyed (p ∷ ps) h = (others p ps h.0, keyed ps h.1)
  where
    others : (p : ExportPoint) (ps : List ExportPoint) → AllByRecursion (λ q. same_key p q ≡ false) ps → AllByRecursion (λ k. eq_by_cmp item_cmp (point_key p) k ≡ false) (map point_key ps)
    others p [] h = tt
    others p (q ∷ ps) h = (sym (same_ties p q) ∙ h.0, others p ps h.1)

pub distinct_points : (e : Export) → IsDistinct (eq_by_cmp item_cmp) (map point_key e.points)
distinct_points e = keyed e.points (sound_keys e.start e.time e.points e.sound)

-- a key does not come before its place
first_here : {V : Type 0} (f : ExportPoint → V) (ps : List ExportPoint) (i : ℕ) (x : ExportPoint) → IsDistinct (eq_by_cmp item_cmp) (map point_key ps) → i < length ps → x ≡ get_or ps i x → find item_cmp (point_key x) (take i (map (λ p. (point_key p, f p)) ps)) ≡ None
unfolding IsDistinct
first_here f [] i x h l is = absurd (omega arith)
first_here f (p ∷ ps) zero x h l is = refl
first_here f (p ∷ ps) (suc i) x h l is =
    ap (λ b. cond b (Some (f p)) (find item_cmp (point_key x) (take i (map (λ p. (point_key p, f p)) ps)))) ((eq_by_cmp_equiv item_total).symm (point_key x) (point_key p) ∙ apart p ps i x h.0 (omega arith) is)
    ∙ first_here f ps i x h.1 (omega arith) is
  where
    apart : (p : ExportPoint) (ps : List ExportPoint) (i : ℕ) (x : ExportPoint) → AllByRecursion (λ k. eq_by_cmp item_cmp (point_key p) k ≡ false) (map point_key ps) → i < length ps → x ≡ get_or ps i x → eq_by_cmp item_cmp (point_key p) (point_key x) ≡ false
    apart p [] i x h l is = absurd (omega arith)
    apart p (q ∷ ps) zero x h l is = ap (λ y. eq_by_cmp item_cmp (point_key p) (point_key y)) is ∙ h.0
    apart p (q ∷ ps) (suc i) x h l is = apart p ps i x h.1 (omega arith) is

pub first_point : (e : Export) (i : ℕ) (x : ExportPoint) → i < length e.points → x ≡ get_or e.points i x → find item_cmp (point_key x) (take i (keyed_cells_of e)) ≡ None
first_point e i x l is = first_here _ e.points i x (distinct_points e) l is

pub mapped_more : {A B : Type 0} (f : A → B) (xs : List A) (i : ℕ) (x : A) → i < length xs → x ≡ get_or xs i x → take (i + 1) (map f xs) ≡ take i (map f xs) ++ f x ∷ []
mapped_more f xs i x l is =
    take-map f (i + 1) xs ∙ ap (map f) (take_more xs i x l ∙ ap (λ y. take i xs ++ y ∷ []) (sym is)) ∙ map-append f (take i xs) (x ∷ []) ∙ ap (λ ys. ys ++ f x ∷ []) (sym (take-map f i xs))

pub more_points : (e : Export) (i : ℕ) (x : ExportPoint) → i < length e.points → x ≡ get_or e.points i x → take (i + 1) (keyed_cells_of e) ≡ take i (keyed_cells_of e) ++ (point_key x, record { time = e.time; held = One x.payload }) ∷ []
more_points e i x l is = mapped_more (λ p. (point_key p, record { time = e.time; held = One p.payload })) e.points i x l is

-- the keys of items
pub keys_of_items : (xs : List PartItem) → map (λ e. e.0) (map keyed_cell_of xs) ≡ map (λ x. (keyed_cell_of x).0) xs
keys_of_items [] = refl
keys_of_items (x ∷ xs) = ap (λ l. (keyed_cell_of x).0 ∷ l) (keys_of_items xs)
