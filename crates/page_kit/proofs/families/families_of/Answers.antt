use Rattle.std.proofs.Common.{ap, ◌∙◌}
use Rattle.page_kit.specs.Families.{own_names, ranked, shown_after, hidden_after, by_name, shown_metrics, hidden_metrics}
use Rattle.page_kit.proofs.families.families_of.Goals as goal

pub returns-clause-shown : goal.returns-clause-shown
unfolding shown_metrics
returns-clause-shown c = c.in_ok-shown-2.ensures ∙ ap by_name (c.in_ok-shown.ensures.shown ∙ ap (shown_after own_names) (c.in_ok-ranked.ensures ∙ ap ranked c.in_ok-metrics.ensures))

pub returns-clause-hidden : goal.returns-clause-hidden
unfolding hidden_metrics
returns-clause-hidden c = c.in_ok-shown.ensures.hidden ∙ ap (hidden_after own_names) (c.in_ok-ranked.ensures ∙ ap ranked c.in_ok-metrics.ensures)
