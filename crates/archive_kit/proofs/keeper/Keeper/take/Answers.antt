use Rattle.std.proofs.Common.{◌≡◌, Bool, true, false, [], ◌∷◌, inl, inr, sym, ap, subst, ◌∙◌, rules}
use Rattle.std.specs.List.{list_any}
use Rattle.gossip_kit.specs.Views.{NodeModel}
use Rattle.point_kit.specs.Exports.{Points, state}
use Rattle.point_kit.specs.declared.export.Export.{Export}
use Rattle.point_kit.specs.declared.export_point.ExportPoint.{ExportPoint}
use Rattle.point_kit.specs.declared.stream.Stream.{Stream}
use Rattle.archive_kit.specs.Keeping.{is_named, kept_points}
use Rattle.archive_kit.specs.Stepping.{JoinsAndDrops, JoinsOrSkips, Skips}
use Rattle.archive_kit.specs.Tombstones.{stream_eq, tombstones}
use Rattle.archive_kit.proofs.Keeps.{all_kept, late_kept, late_skips, merely_joined, still_keeping}
use Rattle.archive_kit.proofs.keeper.Keeper.take.Goals as goal

-- an export that was seen to bring no tombstone
brings-none : (s : Stream) (e : Export) → s ≡ tombstones → (b : Bool) → b ≡ list_any (λ (p : ExportPoint). stream_eq s p.stream) e.points → b ≡ false
    → list_any (λ (p : ExportPoint). stream_eq tombstones p.stream) e.points ≡ false
brings-none s e is b told none = ap (λ (x : Stream). list_any (λ (p : ExportPoint). stream_eq x p.stream) e.points) (sym is) ∙ sym told ∙ none

-- whether an incarnation is named, by what was told of the same node
is-named : (node now : NodeModel) (e : Export) → node ≡ now → (b v : Bool) → b ≡ is_named now.gateway.points e.writer e.start → b ≡ v
    → is_named node.gateway.points e.writer e.start ≡ v
is-named node now e is b v told so = ap (λ (n : NodeModel). is_named n.gateway.points e.writer e.start) is ∙ sym told ∙ so

pub returns-then-brings_tombstone-clause-steps : goal.returns-then-brings_tombstone-clause-steps
returns-then-brings_tombstone-clause-steps c =
    inl (subst (λ (p : Points). JoinsAndDrops p c.args.self.now.acked c.args.self.now c.merge.new.self) c.in_ok-coming.ensures.value c.in_ok-changed.ensures.steps)

pub returns-then-late-clause-ok : goal.returns-then-late-clause-ok
returns-then-late-clause-ok c =
    let node = c.self.inside.node in
    let e = c.args.export.now in
    let none = brings-none c.self.inside.stream e c.self.invariant.stream_is c.brings_tombstone.result c.brings_tombstone.ensures (search rules) in
    let named = is-named node c.args.self.now e c.self.view_is c.is_late-late.result true c.is_late-late.ensures (search rules) in
    subst (λ (n : NodeModel). n.gateway.points ≡ kept_points n.gateway.points (state (e ∷ []))) c.self.view_is
    (late_kept node.gateway.points e c.self.invariant.all_shown none named)

pub returns-then-late-clause-steps : goal.returns-then-late-clause-steps
returns-then-late-clause-steps c =
    let node = c.self.inside.node in
    let e = c.args.export.now in
    let none = brings-none c.self.inside.stream e c.self.invariant.stream_is c.brings_tombstone.result c.brings_tombstone.ensures (search rules) in
    let named = is-named node c.args.self.now e c.self.view_is c.is_late-late.result true c.is_late-late.ensures (search rules) in
    inr (subst (λ (n : NodeModel). Skips (state (e ∷ [])) n n) c.self.view_is (late_skips e node none named c.self.invariant.all_shown))

pub invariant_of-self-2 : goal.invariant_of-self-2
invariant_of-self-2 c =
    let node = c.self.inside.node in
    let e = c.args.export.now in
    let none = brings-none c.self.inside.stream e c.self.invariant.stream_is c.brings_tombstone.result c.brings_tombstone.ensures (search rules) in
    let unnamed = is-named node c.args.self.now e c.self.view_is c.is_late-late.result false c.is_late-late.ensures (search rules) in
    still_keeping node.gateway.points e c.self.invariant.all_shown none unnamed c.self.inside.stream c.self.inside.names.names c.take.new.self.gateway.points c.self.invariant c.in_ok-changed-2.ensures.ok

pub returns-clause-ok : goal.returns-clause-ok
returns-clause-ok c =
    let node = c.self.inside.node in
    let e = c.args.export.now in
    let unnamed = is-named node c.args.self.now e c.self.view_is c.is_late-late.result false c.is_late-late.ensures (search rules) in
    let none = brings-none c.self.inside.stream e c.self.invariant.stream_is c.brings_tombstone.result c.brings_tombstone.ensures (search rules) in
    c.in_ok-changed-2.ensures.ok ∙ all_kept node.gateway.points e c.self.invariant.all_shown none unnamed
    ∙ ap (λ (n : NodeModel). kept_points n.gateway.points (state (e ∷ []))) c.self.view_is

pub returns-clause-steps : goal.returns-clause-steps
returns-clause-steps c =
    let node = c.self.inside.node in
    let told = c.in_ok-changed-2.ensures in
    inl (subst (λ (n : NodeModel). JoinsAndDrops (state (c.args.export.now ∷ [])) n.acked n c.take.new.self) c.self.view_is
    (merely_joined (state (c.args.export.now ∷ [])) node.acked node c.take.new.self (record { id = told.id; points = told.ok; numbers = told.numbers; acked = told.acked })))
