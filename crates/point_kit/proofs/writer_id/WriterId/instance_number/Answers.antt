use Rattle.point_kit.proofs.OrderLaws.{by_number}
use Rattle.point_kit.proofs.writer_id.WriterId.instance_number.Goals as goal

pub returns-clause-ordered : goal.returns-clause-ordered
returns-clause-ordered c = by_number
