use Rattle.std.proofs.Common.{◌∙◌, sym, ap}
use Rattle.gateway_kit.specs.Queries.{newest_time}
use Rattle.otm_kit.specs.Answers.{newest_text}
use Rattle.otm_kit.proofs.Runnings.{newest_first, newest_second, newest_third, newest_some}
use Rattle.otm_kit.proofs.running.Running.newest.Goals as goal

pub returns-in_default : goal.returns-in_default
returns-in_default c = λ d cs r. newest_first d cs c.args.gateway c.args.writer.now c.args.start (c.in_default.ensures.none d cs r)

pub returns-in_default-place : goal.returns-in_default-place
returns-in_default-place c = λ d cs r. newest_second d cs c.args.self.now c.args.gateway c.args.writer.now c.args.start c.in-Some.gateway.now.points r (c.in-Some.ensures.some d cs r) (sym c.in_default-place.ensures)

pub returns-in_default-writer : goal.returns-in_default-writer
returns-in_default-writer c = λ d cs r. newest_third d cs c.args.self.now c.args.gateway c.args.writer.now c.args.start c.in-Some-place.place c.in-Some.gateway.now.points r (c.in-Some.ensures.some d cs r) (sym c.in-Some-place.ensures) (sym c.in_default-writer.ensures.value)

pub returns : goal.returns
returns c = λ d cs r. newest_some d cs c.args.self.now c.args.gateway c.args.writer.now c.args.start c.in-Some-place.place c.in-Some-writer.writer.now c.in-Some.gateway.now.points _ r (c.in-Some.ensures.some d cs r) (sym c.in-Some-place.ensures) (sym c.in-Some-writer.ensures.value) (c.in_ok-newest_line.ensures ∙ ap newest_text (c.newest-time.ensures.value ∙ ap (λ w. newest_time w c.args.start c.in-Some.gateway.now.points) c.id.ensures.value))
