-- A roll-up of points is that of the values that they were fed.
use Rattle.std.proofs.Common.{◌≡◌, ℕ, ℤ, Bool, true, false, cond, List, [], ◌∷◌, ◌++◌, map, filter, refl, sym, ap, subst, ◌∙◌}
use Rattle.std.specs.List.{flat_map}
use Rattle.std.proofs.lemmas.List.{map-append}
use Rattle.point_kit.specs.declared.key.Key.{Key}
use Rattle.point_kit.specs.declared.payload.Payload.{Payload}
use Rattle.point_kit.specs.declared.shape.Shape.{Shape}
use Rattle.schedule_kit.specs.Deeds.{Deed, Holder, AreLawful, IsTold}
use Rattle.schedule_kit.specs.Members.{In}
use Rattle.schedule_kit.specs.Rounds.{Rounding, IsSound, state}
use Rattle.schedule_kit.specs.Rows.{IsAdded, recorded, values_fed, keys_fed}
use Rattle.schedule_kit.specs.Taken.{taken_collections, recorded_up_to, incarnations}
use Rattle.schedule_kit.specs.Totals.{total_where}
use Rattle.schedule_kit.proofs.Headline.{answers_recorded}
use Rattle.schedule_kit.proofs.Members.{map-In}
use Rattle.rollup_kit.specs.Asks.{attributes_cmp, asks, group}
use Rattle.rollup_kit.specs.Parts.{Parts, no_parts, plus_parts, parts_of, parts_of_value}
use Rattle.rollup_kit.specs.Recordings.{part_sums, in_parts, values_under, by_keys, AreFed}
use Rattle.rollup_kit.specs.Rollups.{AddsUp, rollup_rows, recorded_rows}
use Rattle.rollup_kit.specs.declared.ask.Ask.{Ask}
use Rattle.rollup_kit.proofs.PartLaws.{parts_add_up}
use Rattle.rollup_kit.proofs.RowLaws.{rows_recorded}
use Rattle.rollup_kit.proofs.SetOrders.{sets_total, sets_exact}
use Rattle.rollup_kit.proofs.ValueLaws.{payload_added}

module _ {X : Type 0} where
  -- the values that pass, added up
  added_where : (shape : Shape) (passes : X → Bool) (fed : List (X × ℤ))
      → part_sums shape (map (λ p. p.1) (filter (λ p. passes p.0) fed)) ≡ total_where no_parts plus_parts (λ p. passes p.0) (λ p. p.1) (in_parts shape fed)
  added_where shape passes [] = refl
  added_where shape passes (p ∷ fed) =
      elim (passes p.0) as (λ b. part_sums shape (map (λ q. q.1) (cond b (p ∷ filter (λ q. passes q.0) fed) (filter (λ q. passes q.0) fed)))
      ≡ plus_parts (cond b (parts_of_value shape p.1) no_parts) (total_where no_parts plus_parts (λ q. passes q.0) (λ q. q.1) (in_parts shape fed))) [
        | true ↦ ap (plus_parts (parts_of_value shape p.1)) (added_where shape passes fed)
        | false ↦ added_where shape passes fed ∙ sym (parts_add_up.zero_left (total_where no_parts plus_parts (λ q. passes q.0) (λ q. q.1) (in_parts shape fed)))
      ]

module _ {N I X : Type 0} (ask : Ask) (adds : AddsUp ask.stream.shape) (r : Rounding N Key I X Payload) (fed : ℕ → List N → List (X × ℤ)) where
  abbrev pub parts_fed : ℕ → List N → List (X × Parts)
  parts_fed w h = in_parts ask.stream.shape (fed w h)

  -- points that are fed values add up to them
  pub fed_added : AreFed ask r fed → IsAdded r no_parts plus_parts parts_of parts_fed (asks ask)
  fed_added are = record {
    sum = parts_add_up;
    named = λ w h p i. let q = map-In (λ (p : X × ℤ). (p.0, parts_of_value ask.stream.shape p.1)) p (fed w h) i in
        subst (λ (x : X). In x (r.names w h)) (sym (ap (λ (p : X × Parts). p.0) q.2)) (are.named w h q.0 q.1);
    added = λ w h i s x asked there.
        ap parts_of (are.payload w h i s x asked there) ∙ payload_added ask.stream.shape (values_under r.same_name x (fed w h)) adds ∙ added_where ask.stream.shape (r.same_name x) (fed w h);
  }

  -- values under their keys, each as its parts
  pub parts_under_keys : (who : ℕ × ℕ → X → Key) (entries_of : ℕ × ℕ → List N) (incarnations : List (ℕ × ℕ))
      → flat_map (λ i. map (λ p. (who i p.0, p.1)) (parts_fed i.0 (entries_of i))) incarnations
      ≡ in_parts ask.stream.shape (flat_map (λ i. map (λ p. (who i p.0, p.1)) (fed i.0 (entries_of i))) incarnations)
  parts_under_keys who entries_of [] = refl
  parts_under_keys who entries_of (i ∷ is) =
      ap (λ l. l ++ flat_map (λ i. map (λ p. (who i p.0, p.1)) (parts_fed i.0 (entries_of i))) is) (moved (fed i.0 (entries_of i)))
      ∙ ap (λ l. in_parts ask.stream.shape (map (λ p. (who i p.0, p.1)) (fed i.0 (entries_of i))) ++ l) (parts_under_keys who entries_of is)
      ∙ sym (map-append (λ (p : Key × ℤ). (p.0, parts_of_value ask.stream.shape p.1)) (map (λ p. (who i p.0, p.1)) (fed i.0 (entries_of i))) (flat_map (λ i. map (λ p. (who i p.0, p.1)) (fed i.0 (entries_of i))) is))
    where
      moved : (values : List (X × ℤ)) → map (λ p. (who i p.0, p.1)) (in_parts ask.stream.shape values) ≡ in_parts ask.stream.shape (map (λ p. (who i p.0, p.1)) values)
      moved [] = refl
      moved (p ∷ values) = ap (λ l. (who i p.0, parts_of_value ask.stream.shape p.1) ∷ l) (moved values)

-- what a gateway answers is what was recorded
pub rollup_recorded : {N I X : Type 0} (ask : Ask) → AddsUp ask.stream.shape → (r : Rounding N Key I X Payload) → IsSound (by_keys r)
    → (fits : ℕ → List N → N → Bool) (starts : List ℕ) (gateways : ℕ) → IsTold r.who starts → (ds : List (Deed N)) → AreLawful fits starts gateways ds → (h : Holder)
    → (fed : ℕ → List N → List (X × ℤ)) → AreFed ask (by_keys r) fed
    → rollup_rows ask (state (by_keys r) (taken_collections starts ds h))
    ≡ recorded_rows ask (values_fed (by_keys r) (recorded_up_to starts ds h) (incarnations starts ds) fed) (keys_fed (by_keys r) (recorded_up_to starts ds h) (incarnations starts ds))
rollup_recorded {X = X} ask adds r sound fits starts gateways told ds lawful h fed are =
    let k = by_keys r in
    let entries_of = recorded_up_to starts ds h in
    rows_recorded ask (state k (taken_collections starts ds h)) (values_fed k entries_of (incarnations starts ds) fed) (keys_fed k entries_of (incarnations starts ds)) adds
    (answers_recorded k sound fits starts gateways told ds lawful h no_parts plus_parts parts_of (parts_fed ask adds r fed) sets_total sets_exact (asks ask) (group ask) (fed_added ask adds k fed are)
    ∙ ap (λ values. recorded attributes_cmp no_parts plus_parts (asks ask) (group ask) values (keys_fed k entries_of (incarnations starts ds)))
    (parts_under_keys ask adds r fed (λ i x. k.key (k.who i.0) i.1 x) entries_of (incarnations starts ds)))
