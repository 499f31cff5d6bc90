use Rattle.std.proofs.Common.{sym, ap, ◌∙◌}
use Rattle.point_kit.specs.Equality.{cell_eq}
use Rattle.point_kit.proofs.EqualityLaws.{cell_exact, cell_itself}
use Rattle.gateway_kit.proofs.part_item.PartItemKeyed.same_value.Goals as goal

pub returns : goal.returns
returns c =
    let mine = c.args.self.now.cell in
    let theirs = c.args.other.now.cell in
    (λ yes. cell_exact mine theirs (sym c.eq.ensures ∙ yes), λ same. c.eq.ensures ∙ ap (cell_eq mine) (sym same) ∙ cell_itself mine)
