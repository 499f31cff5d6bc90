use Rattle.std.proofs.Common.{◌≡◌, ◌∙◌, ap}
use Rattle.std.specs.Arc.{arc_value}
use Rattle.kit_c.proofs.Knowing.{know_first, same_first}
use Rattle.writer_kit.specs.Shared.{first_of}
use Rattle.kit_c.proofs.seats.share.Goals as goal

pub invariant_of-new-clause-known : goal.invariant_of-new-clause-known
invariant_of-new-clause-known c =
    let shared = arc_value c.in_ok-writer-2.writer in
    let first : first_of shared ≡ c.args.holder.now =
    ap first_of c.in_ok-writer-2.ensures.ok ∙ same_first c.in-Ok.writer c.into_quiet.result c.into_quiet.ensures
    ∙ c.in-Ok.ensures.first.0 ∙ c.in_ok-writer.ensures.value ∙ c.writer.ensures in
    know_first shared c.in-Ok.seat c.args.holder.now c.in_ok-numbers.numbers.entries first c.in-Ok.ensures.seat.1.nothing_seen c.in_ok-numbers.ensures.1
