use Rattle.std.proofs.Common.{◌≡◌, ◌==◌, ℕ, Bool, [], ◌∷◌, not, ap, sym, ◌∙◌}
use Rattle.std.specs.List.{list_any}
use Rattle.attr_kit.specs.Refusing.{first, when}
use Rattle.attr_kit.specs.contracts.txt.TxtPartialEq.TheImpl as texts
use Rattle.gateway_kit.specs.Keys.{keyed_cell_of, whole_key}
use Rattle.gateway_kit.specs.Queries.{has_conflict, part_points}
use Rattle.gateway_kit.specs.declared.part_item.PartItem.{PartItem}
use Rattle.point_kit.specs.declared.cell.Cell.{Cell}
use Rattle.point_kit.specs.declared.key.Key.{Key}
use Rattle.point_kit.specs.declared.payload.Payload.{Payload}
use Rattle.archive_kit.specs.Archive.{ArchiveState, are_torn, is_nothing, time_of}
use Rattle.archive_kit.specs.declared.adopt_fault.AdoptFault.TheVariants as faults
use Rattle.archive_kit.proofs.Steps.{any_map, nothing_held}
use Rattle.archive_kit.proofs.archive.Archive.early_fault.Goals as goal

pub returns-clause-value : goal.returns-clause-value
returns-clause-value c =
    let a = c.args.self.now in
    let items = c.args.items.now in
    let writer = c.args.writer.now in
    let cells = part_points writer c.args.start items in
    let each : PartItem → Key × Cell Payload = λ i. (whole_key (writer, c.args.start) (keyed_cell_of i).0, i.cell) in
    let conflicts : Key × Cell Payload → Bool = λ e. has_conflict e.1 in
    let others : ℕ → Key × Cell Payload → Bool = λ t e. not (e.1.time == t) in
    let service : c.ne.result ≡ not ((texts.ghosts).eq a.writer.service writer.service) =
    c.ne.ensures ∙ ap (λ (s : ArchiveState). not ((texts.ghosts).eq s.writer.service writer.service)) c.self.view_is in
    let nothing : c.is_empty.result ≡ is_nothing cells = nothing_held writer c.args.start items c.is_empty.result c.is_empty.ensures in
    let conflict : c.has_conflict.result ≡ list_any conflicts cells = c.has_conflict.ensures ∙ sym (any_map conflicts each items) in
    let torn : c.has_other_time.result ≡ are_torn cells =
    c.has_other_time.ensures ∙ ap (λ (t : ℕ). list_any (λ (i : PartItem). not (i.cell.time == t)) items) (c.time_of.ensures writer c.args.start)
    ∙ sym (any_map (others (time_of cells)) each items) in
    c.first_fault.ensures.value ∙ (λ n. first (
    when (service n) faults.OtherService
    ∷ when (c.is_of_archive.ensures n) faults.IsArchive
    ∷ when (c.has_adopted.ensures n) faults.Adopted
    ∷ when (nothing n) faults.Nothing
    ∷ when (conflict n) faults.Conflict
    ∷ when (torn n) faults.Torn
    ∷ []))
