use Rattle.std.proofs.Common.{◌≡◌, ◌∙◌, None, Some, ap, rules, sym, append_assoc}
use Rattle.gossip_kit.specs.Bodies.{ack_of, delta_of}
use Rattle.file_kit.proofs.shown.push_body.Goals as goal

pub returns-in-Whole : goal.returns-in-Whole
returns-in-Whole c =
    let d : c.args.message.now.delta ≡ None = sym c.body.ensures.delta ∙ ap delta_of c.in-Whole.is in
    let a : c.args.message.now.ack ≡ None = sym c.body.ensures.ack ∙ ap ack_of c.in-Whole.is in
    rw (d, a) (search (rules, append_assoc))

pub returns-in-Delta : goal.returns-in-Delta
returns-in-Delta c =
    let d : c.args.message.now.delta ≡ Some c.in-Delta.number = sym c.body.ensures.delta ∙ ap delta_of c.in-Delta.is in
    let a : c.args.message.now.ack ≡ None = sym c.body.ensures.ack ∙ ap ack_of c.in-Delta.is in
    rw (d, a) (search (rules, append_assoc))

pub returns-in-Ack : goal.returns-in-Ack
returns-in-Ack c =
    let a : c.args.message.now.ack ≡ Some c.in-Ack.number = sym c.body.ensures.ack ∙ ap ack_of c.in-Ack.is in
    rw a (search (rules, append_assoc))
