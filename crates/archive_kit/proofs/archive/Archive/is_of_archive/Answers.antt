use Rattle.std.proofs.Common.{◌≡◌, ◌||◌, Bool, false, map, ap, sym, ◌∙◌}
use Rattle.std.specs.List.{list_any}
use Rattle.gateway_kit.specs.Keys.{keyed_cell_of, whole_key}
use Rattle.gateway_kit.specs.declared.part_item.PartItem.{PartItem}
use Rattle.point_kit.specs.contracts.writer_id.WriterIdPartialEq.TheImpl as writers
use Rattle.point_kit.specs.declared.cell.Cell.{Cell}
use Rattle.point_kit.specs.declared.key.Key.{Key}
use Rattle.point_kit.specs.declared.payload.Payload.{Payload}
use Rattle.point_kit.specs.declared.stream.Stream.{Stream}
use Rattle.archive_kit.specs.Archive.{ArchiveState}
use Rattle.archive_kit.specs.Tombstones.{is_tombstone, stream_eq}
use Rattle.archive_kit.proofs.Kept.{own_is}
use Rattle.archive_kit.proofs.Steps.{any_map}
use Rattle.archive_kit.proofs.archive.Archive.is_of_archive.Goals as goal

pub returns-else-eq : goal.returns-else-eq
returns-else-eq c =
    let items = c.args.items.now in
    let writer = c.args.writer.now in
    let each : PartItem → Key × Cell Payload = λ i. (whole_key (writer, c.args.start) (keyed_cell_of i).0, i.cell) in
    let marks : Key × Cell Payload → Bool = λ e. is_tombstone e.0 in
    let other : (writers.ghosts).eq c.args.self.now.writer writer ≡ false =
    ap (λ (s : ArchiveState). (writers.ghosts).eq s.writer writer) (sym c.self.view_is) ∙ (sym c.eq.ensures ∙ c.if-eq.false) in
    c.has_stream.ensures
    ∙ ap (λ (s : Stream). list_any (λ (i : PartItem). stream_eq s i.stream) items) (own_is c.self.inside.stream c.self.invariant.0.own)
    ∙ sym (any_map marks each items)
    ∙ ap (λ b. b || list_any marks (map each items)) (sym other)
