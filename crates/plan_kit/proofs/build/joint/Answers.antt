use Rattle.std.proofs.Common.{◌∙◌}
use Rattle.plan_kit.proofs.Finishing.{are_sound}
use Rattle.plan_kit.proofs.build.joint.Goals as goal

pub finish-requires-clause-sound : goal.finish-requires-clause-sound
finish-requires-clause-sound c = are_sound c.args.views.now c.args.named.now c.as_slice-5.result.now (c.as_slice-5.ensures.value ∙ c.in_ok-wanted.ensures) c.requires
