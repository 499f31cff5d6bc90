use Rattle.std.proofs.Common.{◌≡◌, ◌≢◌, ◌∙◌, sym, ap, subst, IfOk, OnErr, filter, List, ℕ, []}
use Rattle.attr_kit.specs.AllowLists.{is_listed}
use Rattle.attr_kit.specs.Keeping.{kept}
use Rattle.attr_kit.specs.declared.attr_value.AttrValue.{AttrValue}
use Rattle.attr_kit.proofs.attr_set.AttrSet.kept.Goals as goal

pub returns-in-Only : goal.returns-in-Only
returns-in-Only c =
    let same = ap (λ (ps : List (List ℕ × AttrValue)). filter (λ p. is_listed c.in-Only.list p.0) ps) c.list.ensures.value ∙ sym (ap (λ k. kept k c.args.self.now) c.in-Only.is) in
    record {
      value = subst (λ ps. IfOk c.restriction.result (λ s. s ≡ ps)) same c.restriction.ensures.value;
      no_memory = subst (λ ps. OnErr c.restriction.result (ps ≢ [])) same c.restriction.ensures.no_memory;
    }
