use Rattle.std.proofs.Common.{true≢false, sym, ap, ◌∙◌}
use Rattle.std.specs.Cmp.{tied_itself}
use Rattle.std.specs.Ordering.{is_eq}
use Rattle.gateway_kit.proofs.ordered.same.Goals as goal

pub returns-in-Less : goal.returns-in-Less
returns-in-Less g c = (
  λ yes. absurd (true≢false (sym yes)),
  λ same.
      let K = g.T.Keyed in
      let mine = (K.entry c.args.mine.now).0 in
      absurd (true≢false (sym (ap is_eq (sym c.in-Less.is ∙ c.order.ensures ∙ ap (λ e. K.compare mine e.0) (sym same) ∙ tied_itself g.met.T.Keyed.total mine)))),
)

pub returns-in-Greater : goal.returns-in-Greater
returns-in-Greater g c = (
  λ yes. absurd (true≢false (sym yes)),
  λ same.
      let K = g.T.Keyed in
      let mine = (K.entry c.args.mine.now).0 in
      absurd (true≢false (sym (ap is_eq (sym c.in-Greater.is ∙ c.order.ensures ∙ ap (λ e. K.compare mine e.0) (sym same) ∙ tied_itself g.met.T.Keyed.total mine)))),
)

pub returns-in-Equal : goal.returns-in-Equal
returns-in-Equal g c =
    let K = g.T.Keyed in
    let key = g.met.T.Keyed.exact (K.entry c.args.mine.now).0 (K.entry c.args.theirs.now).0 (sym c.order.ensures ∙ c.in-Equal.is) in (
      λ yes. λ i. (key i, c.same_value.ensures.0 yes i),
      λ same. c.same_value.ensures.1 (ap (λ e. e.1) same),
    )
