use Rattle.std.proofs.Common.{List, [], ◌∷◌, ◌++◌, subst, sym}
use Rattle.world_kit.proofs.Beginnings.{started_push}
use Rattle.world_kit.specs.Building.{AreStarted}
use Rattle.writer_kit.specs.Written.{Written}
use Rattle.world_kit.proofs.build.start.Goals as goal

pub loop-setup-preserved : goal.loop-setup-preserved
loop-setup-preserved c =
    let its = c.in_ok-begin_writer.ensures in
    subst (λ (ws : List Written). AreStarted (c.loop-setup.yielded ++ c.in-Some.setup ∷ []) ws) (sym c.in_ok-push.ensures.items)
    (started_push c.loop-setup.yielded c.loop-setup.writers.items c.in-Some.setup c.in_ok-begin_writer.field-0 c.loop-setup.invariant its.value its.apart)
