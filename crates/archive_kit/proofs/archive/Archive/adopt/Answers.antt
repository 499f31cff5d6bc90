use Rattle.std.proofs.Common.{◌≡◌, ℕ, Some, None, List, ap, sym, ◌∙◌}
use Rattle.std.proofs.lemmas.Result.{on_ok_weaker}
use Rattle.attr_kit.specs.Refusing.{first}
use Rattle.gateway_kit.specs.GatewayState.{GatewayState}
use Rattle.gateway_kit.specs.Queries.{incarnation_points, part_points}
use Rattle.point_kit.specs.declared.cell.Cell.{Cell}
use Rattle.point_kit.specs.declared.key.Key.{Key}
use Rattle.point_kit.specs.declared.payload.Payload.{Payload}
use Rattle.point_kit.specs.declared.writer_id.WriterId.{WriterId}
use Rattle.archive_kit.specs.Archive.{ArchiveState, adopt_fault, adopted, early_fault, late_faults}
use Rattle.archive_kit.specs.declared.adopt_fault.AdoptFault.{AdoptFault}
use Rattle.archive_kit.proofs.Kept.{early_first, early_new, early_plain, late_first}
use Rattle.archive_kit.proofs.Refused.{named_refused}
use Rattle.archive_kit.proofs.Steps.{if_err}
use Rattle.archive_kit.proofs.archive.Archive.adopt.Goals as goal

-- what refuses the points that a gateway holds, once none of the early reasons does
late-of : (a : ArchiveState) (w : WriterId) (start : ℕ) (cells held : List (Key × Cell Payload)) → cells ≡ held → early_fault a w start cells ≡ None
    → adopt_fault a w start held ≡ first (late_faults a w start cells)
late-of a w start cells held is none = ap (λ (l : List (Key × Cell Payload)). adopt_fault a w start l) (sym is) ∙ late_first a w start cells none

pub returns-in-Some-clause-err : goal.returns-in-Some-clause-err
returns-in-Some-clause-err c = λ other.
    let a = c.args.self.now in
    let w = c.args.writer.now in
    let s = c.args.start in
    let cells = part_points w s c.part-items.result.now in
    let held : cells ≡ incarnation_points w s c.args.keeper.now.gateway.points = c.part-items.ensures.value ∙ ap (λ (g : GatewayState). incarnation_points w s g.points) c.gateway.ensures.value in
    ap (λ (l : List (Key × Cell Payload)). adopt_fault a w s l) (sym held)
    ∙ early_first a w s cells c.in-Some.fault (sym c.early_fault.ensures.value ∙ c.in-Some.is)

pub returns-in-Some-clause-no_memory : goal.returns-in-Some-clause-no_memory
returns-in-Some-clause-no_memory c = λ e. absurd (c.early_fault.ensures.never (c.in-Some.is ∙ ap (λ (f : AdoptFault). Some f) e))

pub add-requires-clause-plain : goal.add-requires-clause-plain
add-requires-clause-plain c = early_plain c.args.self.now c.args.writer.now c.args.start (part_points c.args.writer.now c.args.start c.part-items.result.now) (sym c.early_fault.ensures.value ∙ c.in-None.is)

pub add-requires-clause-fresh : goal.add-requires-clause-fresh
add-requires-clause-fresh c = early_new c.args.self.now c.args.writer.now c.args.start (part_points c.args.writer.now c.args.start c.part-items.result.now) (sym c.early_fault.ensures.value ∙ c.in-None.is)

pub returns-in-None-clause-ok : goal.returns-in-None-clause-ok
returns-in-None-clause-ok c =
    let w = c.args.writer.now in
    let s = c.args.start in
    let cells = part_points w s c.part-items.result.now in
    let held : cells ≡ incarnation_points w s c.args.keeper.now.gateway.points = c.part-items.ensures.value ∙ ap (λ (g : GatewayState). incarnation_points w s g.points) c.gateway.ensures.value in
    on_ok_weaker c.add.result (λ e. late-of c.args.self.now w s cells _ held (sym c.early_fault.ensures.value ∙ c.in-None.is) ∙ e) c.add.ensures.ok

pub returns-in-None-clause-value : goal.returns-in-None-clause-value
returns-in-None-clause-value c =
    let w = c.args.writer.now in
    let s = c.args.start in
    let held : part_points w s c.part-items.result.now ≡ incarnation_points w s c.args.keeper.now.gateway.points = c.part-items.ensures.value ∙ ap (λ (g : GatewayState). incarnation_points w s g.points) c.gateway.ensures.value in
    on_ok_weaker c.add.result (λ e. e ∙ ap (λ (l : List (Key × Cell Payload)). adopted c.args.self.now w s l) held) c.add.ensures.value

pub returns-in-None-clause-err : goal.returns-in-None-clause-err
returns-in-None-clause-err c =
    let w = c.args.writer.now in
    let s = c.args.start in
    let cells = part_points w s c.part-items.result.now in
    let held : cells ≡ incarnation_points w s c.args.keeper.now.gateway.points = c.part-items.ensures.value ∙ ap (λ (g : GatewayState). incarnation_points w s g.points) c.gateway.ensures.value in
    if_err c.add.result (λ (f : AdoptFault) e other. late-of c.args.self.now w s cells _ held (sym c.early_fault.ensures.value ∙ c.in-None.is) ∙ e other) c.add.ensures.err

pub returns-in-None-clause-no_memory : goal.returns-in-None-clause-no_memory
returns-in-None-clause-no_memory c =
    let a = c.args.self.now in
    let w = c.args.writer.now in
    let s = c.args.start in
    let held : part_points w s c.part-items.result.now ≡ incarnation_points w s c.args.keeper.now.gateway.points = c.part-items.ensures.value ∙ ap (λ (g : GatewayState). incarnation_points w s g.points) c.gateway.ensures.value in
    if_err c.add.result (λ (f : AdoptFault) e is. ap (λ (l : List (Key × Cell Payload)). early_fault a w s l) (sym held) ∙ sym c.early_fault.ensures.value ∙ c.in-None.is) c.add.ensures.err

pub returns-in-None-clause-named : goal.returns-in-None-clause-named
returns-in-None-clause-named c = λ named.
    let a = c.args.self.now in
    let w = c.args.writer.now in
    let s = c.args.start in
    let held : part_points w s c.part-items.result.now ≡ incarnation_points w s c.args.keeper.now.gateway.points = c.part-items.ensures.value ∙ ap (λ (g : GatewayState). incarnation_points w s g.points) c.gateway.ensures.value in
    absurd (named_refused c.args.keeper.now.gateway.points c.gateway.ensures.all_shown w s named a
    (ap (λ (l : List (Key × Cell Payload)). early_fault a w s l) (sym held) ∙ sym c.early_fault.ensures.value ∙ c.in-None.is))
