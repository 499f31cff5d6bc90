use Rattle.std.proofs.Common.{◌++◌, ◌-◌, take, drop, length, List, refl, ap}
use Rattle.otlp_kit.proofs.Written.{turned_part}
use Rattle.otlp_kit.proofs.wire.turn.Goals as goal

pub returns-clause-value : goal.returns-clause-value
returns-clause-value c =
    let bytes = c.args.bytes.now in
    let start = c.args.start in
    turned_part start c.args.end bytes (take (length bytes - start) (drop start bytes)) _ c.requires.start c.requires.end refl
    (ap (λ (l : List _). take start bytes ++ (l ++ drop (length bytes - start) (drop start bytes))) c.turn_at.ensures.value)
