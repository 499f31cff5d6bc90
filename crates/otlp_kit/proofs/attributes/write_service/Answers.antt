use Rattle.std.proofs.Common.{ℕ, ◌++◌, List, ap, ◌∙◌}
use Rattle.std.specs.Prelude.{codes}
use Rattle.std.proofs.lemmas.Result.{on_ok_weaker}
use Rattle.attr_kit.specs.declared.attr_value.AttrValue.TheVariants as values
use Rattle.otlp_kit.specs.Request.{attribute}
use Rattle.otlp_kit.proofs.attributes.write_service.Goals as goal

pub returns : goal.returns
returns c =
    on_ok_weaker c.write_attribute.result
    (λ e. e ∙ ap (λ (t : List ℕ). c.args.out.now.items ++ attribute 1 (codes "service.name", values.Text t)) c.in_ok-try_copy.ensures.ok)
    c.write_attribute.ensures
