-- The rows that a node's asks are answered by, where archives are among the writers.
use Rattle.std.proofs.Common.{◌≡◌, ℕ, ℤ, Bool, List, [], ◌∷◌, ◌++◌, map, filter, Some, refl, sym, ap, ◌∙◌}
use Rattle.std.specs.List.{flat_map}
use Rattle.std.specs.Cmp.{IsTotalOrder}
use Rattle.std.specs.FinMap.{IsAntisymmetric}
use Rattle.std.specs.declared.cmp.Ordering.{Ordering}
use Rattle.std.proofs.lemmas.Bool.{and_parts}
use Rattle.std.proofs.lemmas.List.{map-append}
use Rattle.archive_kit.specs.Adopting.{AreArchives, AreTombstones, Counted, values_counted}
use Rattle.archive_kit.specs.Written.{AreKeyed}
use Rattle.archive_kit.proofs.Headline.{none_changes}
use Rattle.archive_kit.proofs.Written.{written_added, written_tombstones}
use Rattle.archive_world_kit.specs.Adopted.{Archives, AreAsked, AreRead, counted_by, keys_by, telling}
use Rattle.archive_world_kit.specs.Answers.{AreLast, Feeds, workers}
use Rattle.archive_world_kit.specs.Steps.{History, HasIdentities, HasSoundRounds, deeds, rounding, shown_by}
use Rattle.archive_world_kit.proofs.Adopted.{are_fed}
use Rattle.archive_world_kit.proofs.Nodes.{lossless}
use Rattle.archive_world_kit.proofs.Reading.{both_read}
use Rattle.archive_world_kit.proofs.Services.{are_asked}
use Rattle.archive_world_kit.proofs.Weighing.{weighed_read}
use Rattle.point_kit.specs.Exact.{exact_streams}
use Rattle.gateway_kit.specs.Keys.{ItemKey}
use Rattle.point_kit.specs.States.{tabulate}
use Rattle.point_kit.specs.declared.key.Key.{Key}
use Rattle.point_kit.specs.declared.payload.Payload.{Payload}
use Rattle.point_kit.specs.declared.writer_id.WriterId.{WriterId}
use Rattle.rollup_kit.specs.Asks.{attributes_cmp, asks, group}
use Rattle.rollup_kit.specs.Parts.{Parts, no_parts, plus_parts, parts_of, parts_of_value}
use Rattle.rollup_kit.specs.Recordings.{in_parts}
use Rattle.rollup_kit.specs.Rollups.{AddsUp, rollup_rows, recorded_rows}
use Rattle.rollup_kit.specs.declared.ask.Ask.{Ask}
use Rattle.rollup_kit.proofs.PartLaws.{parts_add_up}
use Rattle.rollup_kit.proofs.RowLaws.{rows_recorded}
use Rattle.rollup_kit.proofs.SetOrders.{sets_total, sets_exact}
use Rattle.rollup_kit.proofs.ValueLaws.{payload_added}
use Rattle.schedule_kit.specs.Deeds.Holder.{AtGateway}
use Rattle.schedule_kit.specs.Rounds.{Rounding}
use Rattle.schedule_kit.specs.Rows.{IsAdded, recorded, recorded_row, rollup, in_row, values_fed}
use Rattle.schedule_kit.specs.Totals.{total_where}

module _ {N : Type 0} (h : History N) (sound : HasSoundRounds h) (told : HasIdentities h) (a : Archives h) (g : ℕ) where
  keyed : AreKeyed (rounding h.writing)
  keyed = record { key = λ i start x. refl; same = λ x y. refl; instances = a.are.instances }

  -- where each incarnation counts with its last collection, the roll-up is that of these
  module _ {V G : Type 0} (zero : V) (plus : V → V → V) (reads : Payload → V) (fed : ℕ → List N → List (ItemKey × V))
      (Rg : G → G → Ordering) (og : IsTotalOrder Rg) (antig : IsAntisymmetric Rg) (wants : Key → Bool) (group_of : Key → G)
      (asked : AreAsked h.writing (telling a) wants group_of) (read : AreRead h.writing (telling a) zero plus reads fed wants) where
    pub counted_rollup : rollup Rg zero plus wants group_of reads (shown_by h g)
        ≡ recorded Rg zero plus wants group_of (values_counted (rounding h.writing) fed (counted_by a g)) (keys_by a g)
    counted_rollup =
        lossless h.writing h.starts h.seen h.fits h.gateways h.steps h.is zero plus reads fed Rg wants group_of a.is_archive a.adoptions a.held
        sound told a.are read asked og antig g

    tombs : AreTombstones (rounding h.writing) (telling a)
    tombs = written_tombstones (rounding h.writing) keyed a.is_archive a.adoptions a.held a.are.driven

    added : IsAdded (rounding h.writing) zero plus reads fed wants
    added = written_added (rounding h.writing) keyed a.is_archive a.adoptions a.held a.are.driven sound zero plus reads fed wants
        (are_fed h.writing sound (telling a) a.held a.are.driven.never a.are.were zero plus reads fed wants read)

    archives : AreArchives (rounding h.writing) (telling a) fed wants group_of
    archives = record { feeds = read.feeds; asked = asked.asked; grouped = asked.grouped }

    module _ (last : ℕ × ℕ → List N) (are : AreLast a g last) where
      abbrev in_it : G → Key × V → Bool
      in_it x p = in_row Rg zero plus wants group_of x p.0

      same_total : (x : G) → total_where zero plus (in_it x) (λ p. p.1) (values_counted (rounding h.writing) fed (counted_by a g))
          ≡ total_where zero plus (in_it x) (λ p. p.1) (values_fed (rounding h.writing) last (workers a) fed)
      same_total x =
          none_changes (rounding h.writing) sound h.fits h.starts h.gateways told (deeds h.steps) h.is.lawful (AtGateway g)
          zero plus reads fed Rg wants group_of added (telling a) tombs archives last are.once are.there are.others are.adopted x

      same_recorded : recorded Rg zero plus wants group_of (values_counted (rounding h.writing) fed (counted_by a g)) (keys_by a g)
          ≡ recorded Rg zero plus wants group_of (values_fed (rounding h.writing) last (workers a) fed) (keys_by a g)
      same_recorded n = tabulate Rg (map group_of (filter wants (keys_by a g))) (λ x. Some (record {
        total = same_total x n;
        points = (recorded_row Rg zero plus wants group_of (values_counted (rounding h.writing) fed (counted_by a g)) (keys_by a g) x).points;
        conflicts = 0;
      }))

      pub unchanged_rollup : rollup Rg zero plus wants group_of reads (shown_by h g)
          ≡ recorded Rg zero plus wants group_of (values_fed (rounding h.writing) last (workers a) fed) (keys_by a g)
      unchanged_rollup = counted_rollup ∙ same_recorded

module _ {N : Type 0} (h : History N) (sound : HasSoundRounds h) (told : HasIdentities h) (a : Archives h) (g : ℕ)
    (ask : Ask) (adds : AddsUp ask.stream.shape) (fed : ℕ → List N → List (ItemKey × ℤ)) (feed : Feeds a fed) where
  abbrev r : Rounding N Key WriterId ItemKey Payload
  r = rounding h.writing

  abbrev parts : ℕ → List N → List (ItemKey × Parts)
  parts w es = in_parts ask.stream.shape (fed w es)

  read : AreRead h.writing (telling a) no_parts plus_parts parts_of parts (asks ask)
  read =
      weighed_read a fed feed no_parts plus_parts parts_add_up parts_of both_read (λ v. refl) (parts_of_value ask.stream.shape) ask.stream adds
      (λ w es x e there same vs. payload_added ask.stream.shape vs adds) (asks ask) (λ k asked. exact_streams ask.stream k.stream (and_parts _ _ asked).0)

  -- values under their keys, each as its parts
  moved : (key : ItemKey → Key) (values : List (ItemKey × ℤ)) → map (λ p. (key p.0, p.1)) (in_parts ask.stream.shape values) ≡ in_parts ask.stream.shape (map (λ p. (key p.0, p.1)) values)
  moved key [] = refl
  moved key (p ∷ values) = ap (λ l. (key p.0, parts_of_value ask.stream.shape p.1) ∷ l) (moved key values)

  keyed_parts : {C : Type 0} (key : C → ItemKey → Key) (values : C → List (ItemKey × ℤ)) (cs : List C)
      → flat_map (λ c. map (λ p. (key c p.0, p.1)) (in_parts ask.stream.shape (values c))) cs
      ≡ in_parts ask.stream.shape (flat_map (λ c. map (λ p. (key c p.0, p.1)) (values c)) cs)
  keyed_parts key values [] = refl
  keyed_parts {C} key values (c ∷ cs) =
      let each : C → List (Key × ℤ) = λ c. map (λ p. (key c p.0, p.1)) (values c) in
      ap (λ l. l ++ flat_map (λ c. map (λ p. (key c p.0, p.1)) (in_parts ask.stream.shape (values c))) cs) (moved (key c) (values c))
      ∙ ap (λ l. in_parts ask.stream.shape (each c) ++ l) (keyed_parts key values cs)
      ∙ sym (map-append (λ (p : Key × ℤ). (p.0, parts_of_value ask.stream.shape p.1)) (each c) (flat_map each cs))

  pub rows_counted : rollup_rows ask (shown_by h g) ≡ recorded_rows ask (values_counted r fed (counted_by a g)) (keys_by a g)
  rows_counted =
      rows_recorded ask (shown_by h g) (values_counted r fed (counted_by a g)) (keys_by a g) adds
      (counted_rollup h sound told a g no_parts plus_parts parts_of parts attributes_cmp sets_total sets_exact (asks ask) (group ask) (are_asked h a ask) read
      ∙ ap (λ values. recorded attributes_cmp no_parts plus_parts (asks ask) (group ask) values (keys_by a g))
      (keyed_parts (λ (c : Counted N) x. r.key (r.who c.0.0) c.0.1 x) (λ c. fed c.0.0 c.1) (counted_by a g)))

  pub rows_unchanged : (last : ℕ × ℕ → List N) → AreLast a g last
      → rollup_rows ask (shown_by h g) ≡ recorded_rows ask (values_fed r last (workers a) fed) (keys_by a g)
  rows_unchanged last are =
      rows_recorded ask (shown_by h g) (values_fed r last (workers a) fed) (keys_by a g) adds
      (unchanged_rollup h sound told a g no_parts plus_parts parts_of parts attributes_cmp sets_total sets_exact (asks ask) (group ask) (are_asked h a ask) read last are
      ∙ ap (λ values. recorded attributes_cmp no_parts plus_parts (asks ask) (group ask) values (keys_by a g))
      (keyed_parts (λ (i : ℕ × ℕ) x. r.key (r.who i.0) i.1 x) (λ i. fed i.0 (last i)) (workers a)))
