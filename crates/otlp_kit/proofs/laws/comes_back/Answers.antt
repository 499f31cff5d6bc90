use Rattle.otlp_kit.proofs.Returned.{comes_back}
use Rattle.otlp_kit.proofs.laws.comes_back.Goals as goal

pub returns : goal.returns
returns c = comes_back
