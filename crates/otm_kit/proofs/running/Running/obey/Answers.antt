use Rattle.std.proofs.Common.{◌≡◌, ◌∙◌, sym, ap, refl, Ok}
use Rattle.otm_kit.specs.Events.{event_of}
use Rattle.otm_kit.proofs.Runnings.{runs_more, told_event}
use Rattle.otm_kit.proofs.running.Running.obey.Goals as goal

pub returns-clause-runs : goal.returns-clause-runs
returns-clause-runs c = λ d cs r.
    let is : event_of d c.args.command ≡ Ok c.in_ok-event.event = sym (c.in_ok-event.ensures d cs r) in
    runs_more d cs c.args.command c.in_ok-event.event c.in_ok-reply.reply c.args.self.now _ is r c.in_ok-reply.ensures.ok refl refl refl

pub returns-clause-told : goal.returns-clause-told
returns-clause-told c = λ d cs r.
    let is : event_of d c.args.command ≡ Ok c.in_ok-event.event = sym (c.in_ok-event.ensures d cs r) in
    told_event d cs c.args.command c.in_ok-event.event c.in_ok-reply.reply c.args.self.now.world _ is r.world c.in_ok-reply.ensures.ok ∙ ap Ok (sym c.in_ok-reply_line.ensures)
