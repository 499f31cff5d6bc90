use Rattle.std.proofs.Common.{◌≡◌, ◌≤◌, ◌<◌, ◌++◌, List, length, drop, ap, sym, ◌∙◌, arith, rules}
use Rattle.std.proofs.lemmas.List.{take_all, length-drop}
use Rattle.point_kit.specs.ExportFaults.{export_fault}
use Rattle.point_kit.specs.declared.export_point.ExportPoint.{ExportPoint}
use Rattle.archive_kit.specs.Archive.{ArchiveState}
use Rattle.archive_kit.proofs.Kept.{exported_builds}
use Rattle.archive_kit.proofs.archive.Archive.collect.Goals as goal

pub from_sound-requires : goal.from_sound-requires
from_sound-requires c =
    let a = c.args.self.now in
    let tail = drop a.sealed a.tombstones in
    let tombs : c.as_slice.result.now ≡ a.tombstones = c.as_slice.ensures.value ∙ ap (λ (s : ArchiveState). s.tombstones) c.self.view_is in
    let sealed : c.self.inside.sealed ≡ a.sealed = ap (λ (s : ArchiveState). s.sealed) c.self.view_is in
    let end : length tail ≤ c.loop-tombstone.tombstone-index = omega (arith, c.loop-tombstone-test.false, length-drop a.sealed a.tombstones, ap (λ (l : List ExportPoint). length l) tombs, sealed) in
    let whole : c.from_vec.result ≡ a.totals ++ tail = c.from_vec.ensures ∙ (c.loop-tombstone.invariant ∙ ap (λ l. a.totals ++ l) (take_all c.loop-tombstone.tombstone-index tail end)) in
    let mine : a.totals ++ tail ≡ c.self.inside.totals.items ++ drop c.self.inside.sealed c.self.inside.tombstones.items = ap (λ (s : ArchiveState). s.totals ++ drop s.sealed s.tombstones) (sym c.self.view_is) in
    let later : c.self.inside.start < c.args.time = search rules in
    ap (export_fault c.self.inside.start c.args.time) (whole ∙ mine) ∙ exported_builds c.self.invariant.0 c.args.time later
