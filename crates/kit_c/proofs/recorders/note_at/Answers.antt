use Rattle.std.proofs.Common.{◌≤◌, ◌^◌, arith}
use Rattle.kit_c.proofs.Logs.{number_is_great}
use Rattle.kit_c.proofs.recorders.note_at.Goals as goal

pub returns-then-number-clause-err : goal.returns-then-number-clause-err
returns-then-number-clause-err c =
    let great : 2 ^ 32 ≤ c.args.number = omega (arith, c.if-number.true) in
    number_is_great c.args.number c.args.recorder.now great
