use Rattle.std.proofs.Common.{refl, ap, ◌∙◌, ◌||◌, sym}
use Rattle.std.specs.List.{list_any}
use Rattle.gateway_kit.specs.Walks.{keyed_cell_of_ref, points_left}
use Rattle.archive_kit.specs.Keeping.{is_named, tells}
use Rattle.archive_kit.specs.Named.{has_either}
use Rattle.archive_kit.proofs.Skipping.{told_ahead, told_next, none_ahead}
use Rattle.archive_kit.proofs.keeper.note_all.Goals as goal

pub loop-point-init : goal.loop-point-init
loop-point-init c = (
  tt,
  tt,
  refl,
  λ w s. ap (λ b. has_either c.args.names.now w s || b)
      (told_ahead c.args.gateway.now.points _ w s (ap points_left c.into_iter-point-iterator.ensures.into_iter_gives ∙ c.points-point-items.ensures.value)),
)

pub loop-point-preserved : goal.loop-point-preserved
loop-point-preserved c =
    let p = keyed_cell_of_ref c.in-Some.point in (
      tt,
      tt,
      c.note_told.ensures.names ∙ c.loop-point.invariant.2,
      λ w s. told_next (has_either c.loop-point.names w s) (has_either c.note_told.new.names w s) (tells w s p.0)
          (list_any (λ e. tells w s e.0) (points_left c.next.new.self)) (has_either c.args.names.now w s || is_named c.args.gateway.now.points w s)
          (c.in_ok-note_told.ensures.noted w s)
          (ap (λ l. has_either c.loop-point.names w s || list_any (λ e. tells w s e.0) l) (sym c.in-Some.ensures.steps) ∙ c.loop-point.invariant.3 w s),
    )

pub returns-clause-noted : goal.returns-clause-noted
returns-clause-noted c = λ w s.
    none_ahead (has_either c.loop-point.names w s) _ _ (ap (list_any (λ e. tells w s e.0)) c.in-None.ensures.steps.0) (c.loop-point.invariant.3 w s)
