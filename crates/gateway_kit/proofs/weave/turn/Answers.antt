use Rattle.gateway_kit.proofs.Turning.{turned_parts}
use Rattle.gateway_kit.proofs.weave.turn.Goals as goal

pub returns-clause-turned : goal.returns-clause-turned
returns-clause-turned g c us ws ys zs is front long few = turned_parts us ws ys zs c.args.values.now c.rotate_right.new.self c.args.from c.args.to c.args.count is front long few c.rotate_right.ensures.after
