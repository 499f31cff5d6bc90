use Rattle.std.proofs.Common.{◌≡◌, ℕ, ◌++◌, List, ap, ◌∙◌}
use Rattle.std.specs.Prelude.{codes}
use Rattle.std.proofs.lemmas.Result.{on_ok_weaker}
use Rattle.attr_kit.specs.declared.attr_value.AttrValue.TheVariants as values
use Rattle.uuid.specs.Text.{hyphenated_text, lower}
use Rattle.otlp_kit.specs.Request.{attribute}
use Rattle.otlp_kit.proofs.attributes.write_instance.Goals as goal

pub returns : goal.returns
returns c =
    let id : c.in_ok-id.id ≡ hyphenated_text lower c.args.writer.now.instance = c.in_ok-id.ensures.ok ∙ c.encode_lower.ensures.text ∙ ap (hyphenated_text lower) c.hyphenated-id.ensures in
    on_ok_weaker c.write_attribute.result
    (λ e. e ∙ ap (λ (t : List ℕ). c.args.out.now.items ++ attribute 1 (codes "service.instance.id", values.Text t)) id)
    c.write_attribute.ensures
