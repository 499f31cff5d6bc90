-- What the gateways of a fleet answer.
use Rattle.std.proofs.Common.{◌≡◌, ◌⊎◌, inl, inr, ℕ, true, true≢false, List, [], slice_get, Option, Some, None, refl, sym, ap, ◌∙◌, arith}
use Rattle.std.proofs.lemmas.List.{length-map}
use Rattle.std.proofs.lemmas.Bool.{cases_lt}
use Rattle.std.specs.Option.{option_map, option_or}
use Rattle.gateway_kit.specs.GatewayState.{GatewayState}
use Rattle.point_kit.specs.contracts.writer_id.WriterIdEq.TheImpl.Laws as id_laws
use Rattle.point_kit.specs.declared.export.Export.{Export}
use Rattle.rollup_kit.proofs.Fleets.{fleet_rows}
use Rattle.rollup_kit.specs.Rollups.{AddsUp, rollup_rows}
use Rattle.rollup_kit.specs.Writers.{AllWithin, AreTold, IsRegrouped, rows_of}
use Rattle.rollup_kit.specs.declared.ask.Ask.{Ask}
use Rattle.fleet_kit.proofs.Exports.{are_jobs, are_plans, got}
use Rattle.fleet_kit.proofs.Ties.{none_tied}
use Rattle.fleet_kit.specs.Checks.{has_id_of, setup_fault, first_tie}
use Rattle.fleet_kit.specs.Serving.{AreOfOthers, AreWhole}
use Rattle.fleet_kit.specs.Setups.{AreExportsAt, no_writer, entries_recorded, tasks_of, writer_at, writers_of}
use Rattle.fleet_kit.specs.declared.setup.FleetSetup.{FleetSetup}

later_none : {X : Type 0} (o r : Option X) → option_or o r ≡ None → (o ≡ None) × (r ≡ None)
later_none None r e = (refl, e)
later_none (Some a) r e = cc e

map_none : {X Y : Type 0} (f : X → Y) (o : Option X) → option_map f o ≡ None → o ≡ None
map_none f None e = refl
map_none f (Some a) e = cc e

untied : (s : FleetSetup) → setup_fault s ≡ None → first_tie has_id_of s.writers.items ≡ None
unfolding setup_fault
untied s e = map_none _ (first_tie has_id_of s.writers.items) (later_none _ _ (later_none _ _ e).1).0

-- no two writers of a setup that is not refused share an identity
pub are_told : (s : FleetSetup) → setup_fault s ≡ None → AreTold (writers_of s)
are_told s e v w a b same =
    let count = length-map s.writers.items (λ w. w.2) in
    let xs = s.writers.items in
    let ties : has_id_of (writer_at s v) (writer_at s w) ≡ true = ap (λ i. has_id_of (i, (writer_at s v).1, (writer_at s v).2) (writer_at s w)) same ∙ id_laws.laws-law.refl (writer_at s w).0 in
    let turned : has_id_of (writer_at s w) (writer_at s v) ≡ true = ap (λ i. has_id_of (i, (writer_at s w).1, (writer_at s w).2) (writer_at s v)) (sym same) ∙ id_laws.laws-law.refl (writer_at s v).0 in
    elim (cases_lt v w) [
      | inl below ↦ absurd (true≢false (sym ties ∙ none_tied has_id_of [] s.writers.items (untied s e) v w no_writer (omega (arith, below)) (omega (arith, b, count))))
      | inr above ↦ elim (cases_lt w v) [
        | inl later ↦ absurd (true≢false (sym turned ∙ none_tied has_id_of [] s.writers.items (untied s e) w v no_writer (omega (arith, later)) (omega (arith, a, count))))
        | inr not_later ↦ omega (arith, above, not_later)
      ]
    ]

-- nor do their exports
pub exports_apart : (s : FleetSetup) (es : List Export) → setup_fault s ≡ None → AreExportsAt s es → AreOfOthers es
exports_apart s es none are v w d e at there same =
    let count = are.count in
    let starts = length-map s.writers.items (λ w. w.2) in
    let less = (got es v d at).0 in
    let more = (got es w e there).0 in
    are_told s none v w (omega (arith, less, count, starts)) (omega (arith, more, count, starts)) (sym (are.each v d at).export.writer ∙ same ∙ (are.each w e there).export.writer)

pub answers_all : (s : FleetSetup) (es : List Export) (ids : List ℕ) (gs : List GatewayState) → setup_fault s ≡ None → AreExportsAt s es → AreWhole es ids gs → (k : ℕ) (g : GatewayState) → slice_get gs k ≡ Some g
    → (ask : Ask) → AddsUp ask.stream.shape → AllWithin (writers_of s) (entries_recorded s) ⊎ IsRegrouped ask → rollup_rows ask g.points ≡ rows_of (writers_of s) (entries_recorded s) ask
answers_all s es ids gs none are whole k g at ask adds w =
    let x = whole.each k g at in
    ap (rollup_rows ask) x.holds
    ∙ fleet_rows (writers_of s) (are_plans s es are) (are_told s none) s.end (tasks_of s) es (are.count ∙ sym (length-map s.writers.items (λ w. w.2))) (are_jobs s es are) x.took x.taken x.at x.covered ask adds w
