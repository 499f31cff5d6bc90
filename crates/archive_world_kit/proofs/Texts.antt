-- Rows of two pages whose numbers are those of the same recordings have the same text.
use Rattle.std.proofs.Common.{◌≡◌, ◌≢◌, ℕ, ℤ, Bool, true, false, if◌then◌else◌, inl, inr, List, [], ◌∷◌, ◌++◌, codes, Option, refl, sym, ap, subst, ◌∙◌}
use Rattle.std.specs.Fmt.{decimal, signed_decimal}
use Rattle.std.specs.List.{flat_map}
use Rattle.archive_world_kit.proofs.Page.{page_recorded}
use Rattle.archive_world_kit.proofs.Unmoved.{numbers_carried, same_row}
use Rattle.archive_world_kit.specs.Adopted.{Archives}
use Rattle.archive_world_kit.specs.Alike.{HaveOneBounds, OnBoth}
use Rattle.archive_world_kit.specs.Answers.{AreLast, Feeds, HasProperBounds, recordings_by, workers}
use Rattle.archive_world_kit.specs.Steps.{History, HasIdentities, HasSoundRounds, rounding, shown_by}
use Rattle.gateway_kit.specs.Keys.{ItemKey}
use Rattle.page_kit.specs.Bounds.{values_up_to}
use Rattle.page_kit.specs.Families.{Measured, shown_metrics}
use Rattle.page_kit.specs.Lines.{sample}
use Rattle.page_kit.specs.Page.{asked_cells, left_in}
use Rattle.page_kit.specs.Recorded.{AreNumbers, IsRecorded, goes_to, row_values}
use Rattle.page_kit.specs.Rows.{bound_text, bucket, histogram, row, row_bounds, rows, samples}
use Rattle.page_kit.specs.Totals.{KeyedCell, count_of, sum_of}
use Rattle.page_kit.specs.Metrics.{kind_of}
use Rattle.point_kit.specs.declared.key.Key.{Key}
use Rattle.point_kit.specs.declared.shape.Shape.{Shape}
use Rattle.point_kit.specs.declared.shape.Shape.TheVariants as shapes
use Rattle.rollup_kit.specs.Rollups.{AddsUp}
use Rattle.schedule_kit.specs.Members.{In}
use Rattle.schedule_kit.specs.Rows.{values_fed}

flat_same : {A B : Type 0} (f g : A → List B) (xs : List A) → ((x : A) → In x xs → f x ≡ g x) → flat_map f xs ≡ flat_map g xs
flat_same f g [] same = refl
flat_same f g (x ∷ xs) same = λ n. same x (inl refl) n ++ flat_same f g xs (λ y i. same y (inr i)) n

-- rows of the same labels
histograms : (name : List ℕ) (labels : _) (cells theirs : List KeyedCell) (values : List ℤ) (limits bounds : List ℤ)
    → AreNumbers (kind_of (shapes.Histogram limits)) bounds cells values → AreNumbers (kind_of (shapes.Histogram limits)) bounds theirs values
    → histogram name labels bounds cells ≡ histogram name labels bounds theirs
unfolding histogram
histograms name labels cells theirs values limits bounds mine their n =
    flat_same (λ bound. bucket name labels (bound_text bound) (values_up_to bound cells)) (λ bound. bucket name labels (bound_text bound) (values_up_to bound theirs)) bounds
    (λ bound i. ap (bucket name labels (bound_text bound)) (mine.2 bound i ∙ sym (their.2 bound i))) n
    ++ (bucket name labels (codes "+Inf") ((mine.1 ∙ sym their.1) n)
    ++ (sample (name ++ codes "_sum") labels (signed_decimal ((mine.0 ∙ sym their.0) n))
    ++ sample (name ++ codes "_count") labels (decimal ((mine.1 ∙ sym their.1) n))))

same_samples : (name : List ℕ) (labels : _) (m n : Measured) (cells theirs : List KeyedCell) (values : List ℤ) (shape : Shape) → AddsUp shape
    → HaveOneBounds shape m n cells theirs
    → AreNumbers (kind_of shape) (row_bounds m.1 cells) cells values → AreNumbers (kind_of shape) (row_bounds n.1 theirs) theirs values
    → samples (kind_of shape) name m.1 labels cells ≡ samples (kind_of shape) name n.1 labels theirs
same_samples name labels m n cells theirs values (shapes.Sum true) adds bounds mine their =
    ap (λ s. sample (name ++ codes "_total") labels (signed_decimal s)) (mine ∙ sym their)
same_samples name labels m n cells theirs values (shapes.Sum false) adds bounds mine their = ap (λ s. sample name labels (signed_decimal s)) (mine ∙ sym their)
same_samples name labels m n cells theirs values shapes.Gauge adds bounds mine their = absurd adds
same_samples name labels m n cells theirs values (shapes.Histogram limits) adds bounds mine their =
    ap (λ (bs : List ℤ). histogram name labels bs cells) bounds
    ∙ histograms name labels cells theirs values limits (row_bounds n.1 theirs)
    (subst (λ (bs : List ℤ). AreNumbers (kind_of (shapes.Histogram limits)) bs cells values) bounds mine) their

module _ {N : Type 0} (h : History N) (sound : HasSoundRounds h) (told : HasIdentities h) (a : Archives h)
    (fed : ℕ → List N → List (ItemKey × ℤ)) (feed : Feeds a fed) (proper : HasProperBounds a) (last : ℕ × ℕ → List N) (service but : Option (List ℕ)) where
  abbrev all_recorded : List (Key × ℤ)
  all_recorded = values_fed (rounding h.writing) last (workers a) fed

  pub page_unmoved : (g : ℕ) → AreLast a g last → (shape : Shape) (m : Measured) → m.0.kind ≡ kind_of shape
      → In m (shown_metrics (left_in but (asked_cells service (shown_by h g)))) → (w : _) → In w (rows m.1) → IsRecorded m w (row_values service but m.0 w.0 all_recorded)
  page_unmoved g are shape m kind there w here =
      let known = page_recorded h sound told a g fed feed proper service but m there w here in
      let carry = numbers_carried h sound told a g fed feed proper last are (goes_to service but m.0 w.0) (same_row service but m.0 w.0) shape (row_bounds m.1 w.1) w.1 in record {
        shown = known.shown;
        numbers = subst (λ k. AreNumbers k (row_bounds m.1 w.1) w.1 (row_values service but m.0 w.0 all_recorded)) (sym kind)
            (carry (subst (λ k. AreNumbers k (row_bounds m.1 w.1) w.1 (row_values service but m.0 w.0 (recordings_by a fed g))) kind known.numbers));
      }

  pub texts_alike : (g k : ℕ) → AreLast a g last → AreLast a k last → (shape : Shape) (m n : Measured) → OnBoth h g k service but shape m n
      → (w : _) → In w (rows m.1) → (v : _) → In v (rows n.1) → w.0 ≡ v.0 → HaveOneBounds shape m n w.1 v.1
      → (name : List ℕ) → row m.0.kind name m.1 w ≡ row n.0.kind name n.1 v
  unfolding row
  texts_alike g k mine theirs shape m n on w w_there v v_there labels bounds name =
      let kinds : m.0.kind ≡ n.0.kind = λ i. (on.metric i).kind in
      let here = page_unmoved g mine shape m on.kind on.here w w_there in
      let other = page_unmoved k theirs shape n (sym kinds ∙ on.kind) on.there v v_there in
      let values : row_values service but n.0 v.0 all_recorded ≡ row_values service but m.0 w.0 all_recorded = sym (λ i. row_values service but (on.metric i) (labels i) all_recorded) in
      let of_mine = subst (λ k. AreNumbers k (row_bounds m.1 w.1) w.1 (row_values service but m.0 w.0 all_recorded)) on.kind here.numbers in
      let of_theirs = subst (λ k. AreNumbers k (row_bounds n.1 v.1) v.1 (row_values service but m.0 w.0 all_recorded)) (sym kinds ∙ on.kind)
      (subst (λ (l : List ℤ). AreNumbers n.0.kind (row_bounds n.1 v.1) v.1 l) values other.numbers) in
      ap (λ b. if b then [] else samples m.0.kind name m.1 w.0 w.1) here.shown
      ∙ ap (λ k. samples k name m.1 w.0 w.1) on.kind
      ∙ same_samples name w.0 m n w.1 v.1 (row_values service but m.0 w.0 all_recorded) shape on.adds bounds of_mine of_theirs
      ∙ ap (λ k. samples k name n.1 w.0 v.1) (sym on.kind ∙ kinds)
      ∙ ap (λ l. samples n.0.kind name n.1 l v.1) labels
      ∙ sym (ap (λ b. if b then [] else samples n.0.kind name n.1 v.0 v.1) other.shown)
