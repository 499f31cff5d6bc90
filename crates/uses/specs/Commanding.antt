-- What a command line's fleet says.
use Rattle.std.specs.Prelude.{ℕ, List, []}
use Rattle.otm_kit.specs.FleetTexts.{report}
use Rattle.otm_kit.specs.declared.words.Asked.{Asked}
use Rattle.otm_kit.specs.declared.words.Asked.TheVariants as asked

-- the total of each gateway, where a fleet is asked for; nothing where a script is
abbrev pub fleet_says : Asked → List ℕ
fleet_says asked.Run = []
fleet_says (asked.Fleet writers recorders each gateways) = report writers recorders each gateways
