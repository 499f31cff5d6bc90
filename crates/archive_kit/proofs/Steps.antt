-- Steps of the loops over points and buckets.
use Rattle.std.proofs.Common.{◌≡◌, ◌<◌, ◌≤◌, ◌+◌, ◌&&◌, ◌||◌, ◌++◌, ℕ, zero, suc, Bool, true, false, cond, List, [], ◌∷◌, map, length, take, drop, get_or, set, position, Option, Some, None, arith, refl, sym, ap, subst, ◌∙◌}
use Rattle.std.specs.List.{list_any, filter_map, position_from}
use Rattle.std.proofs.lemmas.Iterator.Adapters.{position_from-zero}
use Rattle.std.specs.Option.{option_or}
use Rattle.std.specs.Prelude.{◌==◌, slice_get, Result, Ok, Err, IfOk, IfErr}
use Rattle.std.proofs.lemmas.Bool.{ne_eqb}
use Rattle.std.proofs.lemmas.List.{take_more, map-append, append_assoc}
use Rattle.std.proofs.lemmas.List.Elements.{filter_map-append}
use Rattle.std.proofs.Math.Seq.{drop-cons}
use Rattle.attr_kit.specs.Refusing.{first}
use Rattle.gateway_kit.specs.Keys.{keyed_cell_of, whole_key}
use Rattle.gateway_kit.specs.Queries.{part_points}
use Rattle.gateway_kit.specs.declared.part_item.PartItem.{PartItem}
use Rattle.point_kit.specs.ExportFaults.{same_key}
use Rattle.point_kit.specs.declared.cell.Cell.{Cell}
use Rattle.point_kit.specs.declared.export_point.ExportPoint.{ExportPoint}
use Rattle.point_kit.specs.declared.key.Key.{Key}
use Rattle.point_kit.specs.declared.payload.Payload.{Payload}
use Rattle.point_kit.specs.declared.writer_id.WriterId.{WriterId}
use Rattle.archive_kit.specs.Adding.{add_buckets}
use Rattle.archive_kit.specs.Archive.{is_nothing, point_held, points_held}
use Rattle.archive_kit.specs.Totals.{buckets_fit, count_fits, fit_together, plus_payload, is_gauge, add_total, fits_total, add_totals, fit_totals}

pub any_map : {A B : Type 0} (p : B → Bool) (f : A → B) (xs : List A) → list_any p (map f xs) ≡ list_any (λ x. p (f x)) xs
any_map p f [] = refl
any_map p f (x ∷ xs) = elim (p (f x)) as (λ b. (b || list_any p (map f xs)) ≡ (b || list_any (λ x. p (f x)) xs)) [ true ↦ refl | false ↦ any_map p f xs ]

-- refusals looked for in two lists, one behind the other
pub first-append : {F : Type 0} (rs ss : List (Option F)) → first (rs ++ ss) ≡ option_or (first rs) (first ss)
first-append [] ss = refl
first-append (None ∷ rs) ss = first-append rs ss
first-append (Some f ∷ rs) ss = refl

-- the next item of a list
next_of : {A : Type 0} (xs : List A) (i : ℕ) (x : A) → i < length xs → x ≡ get_or xs i x → take (i + 1) xs ≡ take i xs ++ x ∷ []
next_of xs i x l at = take_more xs i x l ∙ ap (λ y. take i xs ++ y ∷ []) (sym at)

rest_of : {A : Type 0} (xs : List A) (i : ℕ) (x : A) → i < length xs → x ≡ get_or xs i x → drop i xs ≡ x ∷ drop (i + 1) xs
rest_of xs i x l at =
    let z : suc i ≡ i + 1 = omega arith in
    drop-cons xs i x l ∙ ap (λ y. y ∷ drop (suc i) xs) (sym at) ∙ ap (λ n. x ∷ drop n xs) z

-- one point more of what is held
pub held_more : (writer : WriterId) (start : ℕ) (items : List PartItem) (i : ℕ) (item : PartItem) (before after : List ExportPoint)
    → i < length items → item ≡ get_or items i item
    → before ≡ points_held (part_points writer start (take i items)) → after ≡ before ++ points_held (part_points writer start (item ∷ []))
    → after ≡ points_held (part_points writer start (take (i + 1) items))
held_more w s items i item before after l at e f =
    let each : PartItem → Key × Cell Payload = λ i. (whole_key (w, s) (keyed_cell_of i).0, i.cell) in
    f ∙ ap (λ ps. ps ++ points_held (part_points w s (item ∷ []))) e
    ∙ sym (filter_map-append point_held (map each (take i items)) (map each (item ∷ [])))
    ∙ ap (filter_map point_held) (sym (map-append each (take i items) (item ∷ [])))
    ∙ ap (λ xs. points_held (part_points w s xs)) (sym (next_of items i item l at))

-- what follows of a value
pub if_ok : {T E : Type 0} {P Q : T → Type 0} (r : Result T E) → ((v : T) → P v → Q v) → IfOk r P → IfOk r Q
if_ok (Ok v) f h = f v h
if_ok (Err e) f h = tt

-- and of an error
pub if_err : {T E : Type 0} {P Q : E → Type 0} (r : Result T E) → ((v : E) → P v → Q v) → IfErr r P → IfErr r Q
if_err (Ok v) f h = tt
if_err (Err e) f h = f e h

-- whether nothing is held
pub nothing_held : (writer : WriterId) (start : ℕ) (items : List PartItem) (b : Bool) → b ≡ (length items == 0) → b ≡ is_nothing (part_points writer start items)
nothing_held w s [] b e = e
nothing_held w s (i ∷ is) b e = e ∙ ne_eqb (length (i ∷ is)) 0 (omega arith)

-- what stands at a place
pub got : {A : Type 0} (xs : List A) (i : ℕ) (x d : A) → slice_get xs i ≡ Some x → get_or xs i d ≡ x
got [] i x d e = cc
got (y ∷ ys) zero x d e = cc
got (y ∷ ys) (suc i) x d e = got ys i x d e

-- one total more
pub totals_next : (old before after points : List ExportPoint) (i : ℕ) (p : ExportPoint) → i < length points → p ≡ get_or points i p
    → add_totals before (drop i points) ≡ add_totals old points → is_gauge p.payload ≡ false → after ≡ add_total before p
    → add_totals after (drop (i + 1) points) ≡ add_totals old points
totals_next old before after points i p l at e g f =
    ap (λ qs. add_totals qs (drop (i + 1) points)) f
    ∙ ap (λ b. cond b (add_totals before (drop (i + 1) points)) (add_totals (add_total before p) (drop (i + 1) points))) (sym g)
    ∙ ap (add_totals before) (sym (rest_of points i p l at)) ∙ e

pub totals_past : (old before points : List ExportPoint) (i : ℕ) (p : ExportPoint) → i < length points → p ≡ get_or points i p
    → add_totals before (drop i points) ≡ add_totals old points → is_gauge p.payload ≡ true
    → add_totals before (drop (i + 1) points) ≡ add_totals old points
totals_past old before points i p l at e g =
    ap (λ b. cond b (add_totals before (drop (i + 1) points)) (add_totals (add_total before p) (drop (i + 1) points))) (sym g)
    ∙ ap (add_totals before) (sym (rest_of points i p l at)) ∙ e

pub fit_next : (old before after points : List ExportPoint) (i : ℕ) (p : ExportPoint) (fits : Bool) → i < length points → p ≡ get_or points i p
    → fit_totals before (drop i points) ≡ fit_totals old points → is_gauge p.payload ≡ false → fits ≡ fits_total before p → fits ≡ true → after ≡ add_total before p
    → fit_totals after (drop (i + 1) points) ≡ fit_totals old points
fit_next old before after points i p fits l at e g h t f =
    ap (λ qs. fit_totals qs (drop (i + 1) points)) f
    ∙ ap (λ b. b && fit_totals (add_total before p) (drop (i + 1) points)) (sym (sym h ∙ t))
    ∙ ap (λ b. cond b (fit_totals before (drop (i + 1) points)) (fits_total before p && fit_totals (add_total before p) (drop (i + 1) points))) (sym g)
    ∙ ap (fit_totals before) (sym (rest_of points i p l at)) ∙ e

pub fit_past : (old before points : List ExportPoint) (i : ℕ) (p : ExportPoint) → i < length points → p ≡ get_or points i p
    → fit_totals before (drop i points) ≡ fit_totals old points → is_gauge p.payload ≡ true
    → fit_totals before (drop (i + 1) points) ≡ fit_totals old points
fit_past old before points i p l at e g =
    ap (λ b. cond b (fit_totals before (drop (i + 1) points)) (fits_total before p && fit_totals (add_total before p) (drop (i + 1) points))) (sym g)
    ∙ ap (fit_totals before) (sym (rest_of points i p l at)) ∙ e

pub fit_not : (old before points : List ExportPoint) (i : ℕ) (p : ExportPoint) (fits : Bool) → i < length points → p ≡ get_or points i p
    → fit_totals before (drop i points) ≡ fit_totals old points → is_gauge p.payload ≡ false → fits ≡ fits_total before p → fits ≡ false
    → false ≡ fit_totals old points
fit_not old before points i p fits l at e g h t =
    ap (λ b. b && fit_totals (add_total before p) (drop (i + 1) points)) (sym t ∙ h)
    ∙ ap (λ b. cond b (fit_totals before (drop (i + 1) points)) (fits_total before p && fit_totals (add_total before p) (drop (i + 1) points))) (sym g)
    ∙ ap (fit_totals before) (sym (rest_of points i p l at)) ∙ e

-- buckets
pub other_lengths : (xs ys : List ℕ) → (length xs ≡ length ys → ⊥) → buckets_fit xs ys ≡ false
other_lengths [] [] h = absurd (h refl)
other_lengths [] (y ∷ ys) h = refl
other_lengths (x ∷ xs) [] h = refl
other_lengths (x ∷ xs) (y ∷ ys) h = ap (λ b. count_fits (x + y) && b) (other_lengths xs ys (λ e. h (omega arith))) ∙ elim (count_fits (x + y)) as (λ b. (b && false) ≡ false) [ true ↦ refl | false ↦ refl ]

drop_end : {A : Type 0} (n : ℕ) (xs : List A) → length xs ≤ n → drop n xs ≡ []
drop_end zero [] h = refl
drop_end (suc n) [] h = refl
drop_end zero (x ∷ xs) h = absurd (omega arith)
drop_end (suc n) (x ∷ xs) h = drop_end n xs (omega arith)

end_empty : {A : Type 0} (xs : List A) → xs ++ [] ≡ xs
end_empty [] = refl
end_empty (x ∷ xs) = ap (λ l. x ∷ l) (end_empty xs)

pub record AreAdding (sums counts more : List ℕ) (place : ℕ) : Type 0 where
  pub value : sums ++ add_buckets (drop place counts) (drop place more) ≡ add_buckets counts more
  pub fits : buckets_fit (drop place counts) (drop place more) ≡ buckets_fit counts more

module _ (sums counts more : List ℕ) (place : ℕ) (same : length counts ≡ length more) (here : place < length counts) (are : AreAdding sums counts more place) where
  abbrev x : ℕ
  x = get_or counts place 0

  abbrev y : ℕ
  y = get_or more place 0

  parted : (f : List ℕ → List ℕ → List ℕ) → f (drop place counts) (drop place more) ≡ f (x ∷ drop (suc place) counts) (y ∷ drop (suc place) more)
  parted f = ap (λ l. f l (drop place more)) (drop-cons counts place 0 here) ∙ ap (f (x ∷ drop (suc place) counts)) (drop-cons more place 0 (omega arith))

  parted_fit : buckets_fit (drop place counts) (drop place more) ≡ (count_fits (x + y) && buckets_fit (drop (suc place) counts) (drop (suc place) more))
  parted_fit = ap (λ l. buckets_fit l (drop place more)) (drop-cons counts place 0 here) ∙ ap (buckets_fit (x ∷ drop (suc place) counts)) (drop-cons more place 0 (omega arith))

  pub bucket_more : (sum : ℕ) (after : List ℕ) → sum ≡ x + y → count_fits (x + y) ≡ true → after ≡ sums ++ sum ∷ [] → AreAdding after counts more (place + 1)
  bucket_more sum after e fit f =
      let z : suc place ≡ place + 1 = omega arith in
      let rest = add_buckets (drop (suc place) counts) (drop (suc place) more) in
      subst (λ n. AreAdding after counts more n) z (record {
        value = ap (λ l. l ++ rest) (f ∙ ap (λ n. sums ++ n ∷ []) e) ∙ append_assoc sums ((x + y) ∷ []) rest ∙ ap (λ l. sums ++ l) (sym (parted add_buckets)) ∙ are.value;
        fits = ap (λ b. b && buckets_fit (drop (suc place) counts) (drop (suc place) more)) (sym fit) ∙ sym parted_fit ∙ are.fits;
      })

  pub bucket_beyond : count_fits (x + y) ≡ false → false ≡ buckets_fit counts more
  bucket_beyond beyond = ap (λ b. b && buckets_fit (drop (suc place) counts) (drop (suc place) more)) (sym beyond) ∙ sym parted_fit ∙ are.fits

pub buckets_done : (sums counts more : List ℕ) (place : ℕ) → length counts ≡ length more → length counts ≤ place → AreAdding sums counts more place
    → (sums ≡ add_buckets counts more) × (true ≡ buckets_fit counts more)
buckets_done sums counts more place same end are =
    let a = drop_end place counts end in
    let b = drop_end place more (omega arith) in (
      sym (end_empty sums) ∙ ap (λ l. sums ++ l) (sym (ap (λ l. add_buckets l (drop place more)) a ∙ ap (add_buckets []) b)) ∙ are.value,
      sym (ap (λ l. buckets_fit l (drop place more)) a ∙ ap (buckets_fit []) b) ∙ are.fits,
    )

-- where a point of the same key stands, its total is the one that changes
module _ (p : ExportPoint) where
  abbrev pub IsAt : List ExportPoint → ℕ → Type 0
  IsAt qs k = (k < length qs) × (fits_total qs p ≡ fit_together (get_or qs k p).payload p.payload) × (add_total qs p ≡ set qs k (plus_payload (get_or qs k p) p.payload))

  found_from : (qs : List ExportPoint) (i j : ℕ) → position_from (λ q. same_key p q) i qs ≡ Some j → (k : ℕ) × (j ≡ i + k) × IsAt qs k
  found_from [] i j e = cc
  found_from (q ∷ qs) i j e = elim (same_key p q) as (λ b. same_key p q ≡ b → cond b (Some i) (position_from (λ q. same_key p q) (i + 1) qs) ≡ Some j → (k : ℕ) × (j ≡ i + k) × IsAt (q ∷ qs) k) [
    | true ↦ λ t f.
        let same : i ≡ j = cc in
        (0, omega arith, (omega arith, ap (λ b. cond b (fit_together q.payload p.payload) (fits_total qs p)) t, ap (λ b. cond b (plus_payload q p.payload ∷ qs) (q ∷ add_total qs p)) t))
    | false ↦ λ t f.
        let r = found_from qs (i + 1) j f in
        let within = r.2.0 in
        (suc r.0, omega (arith, r.1), (omega (arith, within), ap (λ b. cond b (fit_together q.payload p.payload) (fits_total qs p)) t ∙ r.2.1, ap (λ b. cond b (plus_payload q p.payload ∷ qs) (q ∷ add_total qs p)) t ∙ ap (λ l. q ∷ l) r.2.2))
  ] refl e

  pub found : (qs : List ExportPoint) (place : ℕ) → position (λ q. same_key p q) qs ≡ Some place → IsAt qs place
  found qs place e =
      let r = found_from qs 0 place (sym (position_from-zero (λ q. same_key p q) qs) ∙ e) in
      let same : r.0 ≡ place = omega (arith, r.1) in
      subst (IsAt qs) same r.2

  none_from : (qs : List ExportPoint) (i : ℕ) → position_from (λ q. same_key p q) i qs ≡ None → (fits_total qs p ≡ true) × (add_total qs p ≡ qs ++ p ∷ [])
  none_from [] i e = (refl, refl)
  none_from (q ∷ qs) i e = elim (same_key p q) as (λ b. same_key p q ≡ b → cond b (Some i) (position_from (λ q. same_key p q) (i + 1) qs) ≡ None → (fits_total (q ∷ qs) p ≡ true) × (add_total (q ∷ qs) p ≡ q ∷ qs ++ p ∷ [])) [
    | true ↦ λ t f. cc
    | false ↦ λ t f.
        let r = none_from qs (i + 1) f in
        (ap (λ b. cond b (fit_together q.payload p.payload) (fits_total qs p)) t ∙ r.0, ap (λ b. cond b (plus_payload q p.payload ∷ qs) (q ∷ add_total qs p)) t ∙ ap (λ l. q ∷ l) r.1)
  ] refl e

  pub not_found : (qs : List ExportPoint) → position (λ q. same_key p q) qs ≡ None → (fits_total qs p ≡ true) × (add_total qs p ≡ qs ++ p ∷ [])
  not_found qs e = none_from qs 0 (sym (position_from-zero (λ q. same_key p q) qs) ∙ e)
