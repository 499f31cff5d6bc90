use Rattle.std.proofs.Common.{◌∙◌, List, Ok, length, map, sym, ap}
use Rattle.point_kit.specs.declared.export.Export.{Export}
use Rattle.otlp_kit.specs.Reading.{said_of}
use Rattle.otlp_kit.proofs.Building.{nothing_left, no_length}
use Rattle.otlp_kit.proofs.Empty.{no_exports}
use Rattle.otlp_kit.proofs.decode.decode_otlp.Goals as goal

pub returns-then-is_empty-clause-value : goal.returns-then-is_empty-clause-value
returns-then-is_empty-clause-value c =
    no_exports c.args.bytes.now (nothing_left c.args.bytes.now (no_length (length c.args.bytes.now) c.if-is_empty.ensures)) ∙ ap (λ (l : List Export). Ok (map said_of l)) (sym c.new.ensures.items)
