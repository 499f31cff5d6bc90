use Rattle.std.proofs.Common.{sym, ◌∙◌, ap, is_none}
use Rattle.std.specs.Cmp.Lexicographic.{pointwise}
use Rattle.std.specs.Prelude.{nat_eq}
use Rattle.otm_kit.specs.Declarations.{label_place}
use Rattle.otm_kit.proofs.Finding.{place_none}
use Rattle.otm_kit.proofs.labels.Labels.add.Goals as goal

pub returns-clause-added : goal.returns-clause-added
unfolding label_place
returns-clause-added c = c.in_ok-insert.ensures.added ∙ sym (place_none (pointwise nat_eq c.args.label) c.self.inside.names.keys) ∙ ap (λ ls. is_none (label_place ls c.args.label)) c.self.view_is
