use Rattle.otlp_kit.proofs.field.+groups.Given as goal

abbrev pub decreases-groups : goal.decreases-groups
decreases-groups l = l.most
