use Rattle.std.proofs.Common.{◌∙◌, ap}
use Rattle.rollup_kit.specs.Rollups.{rollup_rows}
use Rattle.rollup_kit.specs.TableText.{table_text}
use Rattle.otm_kit.proofs.Runnings.{report_none, report_some}
use Rattle.otm_kit.proofs.running.Running.report.Goals as goal

pub returns-in_default : goal.returns-in_default
returns-in_default c = λ d cs r. report_none d cs c.args.gateway c.args.report (c.in_default.ensures.none d cs r)

pub returns : goal.returns
returns c = λ d cs r.
    report_some d cs c.args.gateway c.args.report c.in-Some.gateway.now.points _ (c.in-Some.ensures.some d cs r)
    (c.in_ok-into_string.ensures.ok ∙ c.in_ok-table.ensures.value ∙ ap table_text (c.as_slice.ensures ∙ c.in_ok-rows.ensures.value ∙ ap (λ a. rollup_rows a c.in-Some.gateway.now.points) c.in_ok-ask.ensures))
