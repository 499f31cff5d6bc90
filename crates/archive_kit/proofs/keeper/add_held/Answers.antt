use Rattle.std.proofs.Common.{◌≡◌, true, false, sym, ap, ◌∙◌, rules}
use Rattle.gateway_kit.specs.Queries.{is_of_incarnation}
use Rattle.point_kit.specs.declared.writer_id.WriterId.{WriterId}
use Rattle.archive_kit.specs.Named.{has_either}
use Rattle.archive_kit.proofs.Skipping.{gone_more, not_gone, same_incarnation}
use Rattle.archive_kit.proofs.keeper.add_held.Goals as goal

pub returns-then-not-has_either : goal.returns-then-not-has_either
returns-then-not-has_either c = λ k.
    let none : c.has_either.result ≡ false = search rules in
    not_gone c.args.gone.now.items k (has_either c.args.names.now k.writer k.start) (is_of_incarnation c.args.held.writer.now c.args.held.start k)
    (λ t. sym (same_incarnation c.args.held.writer.now c.args.held.start k t (has_either c.args.names.now)) ∙ sym c.has_either.ensures ∙ none)

pub returns : goal.returns
returns c = λ k.
    let some : c.has_either.result ≡ true = search rules in
    gone_more c.args.gone.now.items c.push.new.self.items (record { writer = c.in_ok-try_copy.field-0; start = c.args.held.start }) k
    (has_either c.args.names.now k.writer k.start) (is_of_incarnation c.args.held.writer.now c.args.held.start k)
    c.in_ok-push.ensures.items
    (ap (λ (w : WriterId). is_of_incarnation w c.args.held.start k) c.in_ok-try_copy.ensures.value)
    (λ t. sym (same_incarnation c.args.held.writer.now c.args.held.start k t (has_either c.args.names.now)) ∙ sym c.has_either.ensures ∙ some)
