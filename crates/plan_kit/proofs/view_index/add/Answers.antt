use Rattle.std.proofs.Common.{sym, ap, ◌∙◌, ◌++◌, ◌∷◌, [], cond, Some}
use Rattle.std.specs.HashMap.{get_by}
use Rattle.plan_kit.specs.Views.{text_eq}
use Rattle.plan_kit.proofs.Matching.{places_under_new}
use Rattle.plan_kit.proofs.view_index.add.Goals as goal

pub returns-in_ok-insert-in-None : goal.returns-in_ok-insert-in-None
returns-in_ok-insert-in-None c =
    let lists = c.args.lists.now in
    let list = c.push-in-None.new.self in
    λ q. places_under_new lists c.insert.new.self c.args.name q list c.args.place (sym c.in-None.ensures.value)
    (c.in_ok-insert-in-None.ensures.updates.0 q ∙ ap (λ m. cond (text_eq c.args.name q) (Some list) (get_by (text_eq q) m)) c.get_mut.follows.holds-at-none)
    (c.in_ok-push-in-None.ensures.items ∙ ap (λ l. l ++ c.args.place ∷ []) c.new-list.ensures.items)
