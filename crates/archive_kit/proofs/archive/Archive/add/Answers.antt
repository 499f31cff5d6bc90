use Rattle.std.proofs.Common.{◌≡◌, ◌||◌, ◌++◌, ◌∷◌, [], ℕ, List, ap, sym, subst, ◌∙◌, rules}
use Rattle.gateway_kit.specs.Queries.{part_points}
use Rattle.point_kit.specs.declared.export_point.ExportPoint.{ExportPoint}
use Rattle.point_kit.specs.declared.writer_id.WriterId.{WriterId}
use Rattle.archive_kit.specs.Archive.{ArchiveState, AreKept, NameAdopted, points_held, time_of, told, tombstone_of}
use Rattle.archive_kit.specs.Named.{has_name, is_name, name_of}
use Rattle.archive_kit.specs.Totals.{add_totals}
use Rattle.archive_kit.proofs.Kept.{adopted_more, adoption_kept, own_is}
use Rattle.archive_kit.proofs.archive.Archive.add.Goals as goal

pub tombstone_of-requires : goal.tombstone_of-requires
tombstone_of-requires c = own_is c.self.inside.stream c.self.invariant.0.own

pub invariant_of-self-in-Ok : goal.invariant_of-self-in-Ok
invariant_of-self-in-Ok c =
    let inside = c.self.inside in
    let now = c.args.self.now in
    let cells = part_points c.args.writer.now c.args.start c.args.items.now in
    let totals = add_totals now.totals (points_held cells) in
    let mark = tombstone_of c.args.writer.now c.args.start (time_of cells) in
    let before : AreKept inside.stream now.start now.exported now.totals now.tombstones now.sealed =
    subst (λ (s : ArchiveState). AreKept inside.stream s.start s.exported s.totals s.tombstones s.sealed) c.self.view_is c.self.invariant.0 in
    let after = adoption_kept inside.stream now before c.args.writer.now c.args.start cells c.requires.plain c.requires.fresh c.in-Ok.ensures.ok in
    let kept : AreKept inside.stream inside.start inside.exported totals (inside.tombstones.items ++ mark ∷ []) inside.sealed =
    subst (λ (s : ArchiveState). AreKept inside.stream s.start s.exported totals (s.tombstones ++ mark ∷ []) s.sealed) (sym c.self.view_is) after in
    let its : c.in_ok-tombstone.tombstone ≡ mark = search rules in
    let marks : c.push.new.points.items ≡ inside.tombstones.items ++ mark ∷ [] =
    c.in_ok-push-in-Ok.ensures.ok ∙ ap (λ (t : ExportPoint). inside.tombstones.items ++ t ∷ []) its in
    let named : (v : WriterId) (s : ℕ) → has_name c.settle.new.self.names v s ≡ (has_name inside.names.names v s || is_name v s (name_of c.args.writer.now (told c.args.start))) =
    λ v s. c.settle.ensures.names v s
    ∙ (λ i. has_name (c.reserve.ensures.names i) v s || has_name (c.reserve.ensures.fresh i) v s)
    ∙ c.in_ok-note_incarnation-in-Ok.ensures.noted v s
    ∙ ap (λ (n : ℕ). has_name inside.names.names v s || is_name v s (name_of c.args.writer.now n)) c.told.ensures in
    let names : NameAdopted c.settle.new.self.names c.push.new.points.items =
    adopted_more inside.names.names c.settle.new.self.names inside.tombstones.items c.push.new.points.items c.args.writer.now c.args.start (time_of cells) c.self.invariant.1 named marks in (
      subst (λ (ts : List ExportPoint). AreKept inside.stream inside.start inside.exported c.in-Ok.totals.items ts inside.sealed) (sym marks)
          (subst (λ (qs : List ExportPoint). AreKept inside.stream inside.start inside.exported qs (inside.tombstones.items ++ mark ∷ []) inside.sealed) (sym c.in-Ok.ensures.value) kept),
      names,
    )
