-- The streams of which points are.
use Rattle.std.specs.Prelude.{Bool, List, [], fold}
use Rattle.std.specs.FinMap.{entries}
use Rattle.indexmap.specs.IndexSet.{insert_key}
use Rattle.point_kit.specs.Exports.{Points}
use Rattle.point_kit.specs.contracts.stream.StreamPartialEq.TheImpl as streams
use Rattle.point_kit.specs.declared.cell.Cell.{Cell}
use Rattle.point_kit.specs.declared.key.Key.{Key}
use Rattle.point_kit.specs.declared.payload.Payload.{Payload}
use Rattle.point_kit.specs.declared.stream.Stream.{Stream}

abbrev pub stream_eq : Stream → Stream → Bool
stream_eq = (streams.ghosts).eq

-- streams, and those of points behind them, each once
abbrev pub with_streams : List Stream → List (Key × Cell Payload) → List Stream
with_streams ss ps = fold (λ seen e. insert_key stream_eq seen e.0.stream) ss ps

-- those of all points, in the order of their keys
abbrev pub streams_held : Points → List Stream
streams_held points = with_streams [] (entries points)
