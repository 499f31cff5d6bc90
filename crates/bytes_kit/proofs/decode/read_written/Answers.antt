use Rattle.std.proofs.Common.{subst}
use Rattle.bytes_kit.specs.Fits.{IsFields}
use Rattle.bytes_kit.specs.Format.{fields_behind}
use Rattle.bytes_kit.specs.Past.{Past}
use Rattle.bytes_kit.specs.Reading.{Reads}
use Rattle.bytes_kit.proofs.decode.read_written.Goals as goal

pub returns-clause-found : goal.returns-clause-found
returns-clause-found c =
    subst (λ (p : Past). Reads (fields_behind p) IsFields c.args.reader.now.rest c.read_behind.result c.read_behind.new.reader.rest) c.in_ok-history.ensures c.read_behind.ensures.found
