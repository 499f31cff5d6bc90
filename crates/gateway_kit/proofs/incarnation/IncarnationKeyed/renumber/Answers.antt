use Rattle.std.proofs.Common.{List, ap, sym, subst, ◌∙◌, arith}
use Rattle.std.specs.FinMap.Entries.{is_sorted}
use Rattle.gateway_kit.specs.Changing.{KeyedCell}
use Rattle.gateway_kit.specs.Keys.{item_cmp}
use Rattle.gateway_kit.specs.Tallies.{IsTally}
use Rattle.gateway_kit.proofs.ItemMoves.{all_up_to, shows_numbered}
use Rattle.gateway_kit.proofs.Recent.{none_numbered}
use Rattle.gateway_kit.proofs.incarnation.IncarnationKeyed.renumber.Goals as goal

pub invariant_of-self : goal.invariant_of-self
invariant_of-self c = record {
  sorted = ap (is_sorted item_cmp) c.renumber_all.ensures.same ∙ c.self.invariant.sorted;
  tallied = subst (λ (es : List KeyedCell). IsTally es c.self.inside.tally) (sym c.renumber_all.ensures.same) c.self.invariant.tallied;
  bounded = c.clear.ensures.items c.renumber_all.new.values.items;
  up_to = all_up_to c.args.number c.renumber_all.new.values.items c.renumber_all.ensures.numbers c.args.number (omega arith);
}

pub returns-clause-numbers : goal.returns-clause-numbers
returns-clause-numbers c = shows_numbered c.args.number c.self.inside.writer c.self.inside.start c.renumber_all.new.values.items (ap (is_sorted item_cmp) c.renumber_all.ensures.same ∙ c.self.invariant.sorted) c.renumber_all.ensures.numbers

pub returns-then-self-eq0-clause-numbers : goal.returns-then-self-eq0-clause-numbers
returns-then-self-eq0-clause-numbers c = none_numbered c.args.number c.self.inside.number c.args.self.now c.self.inside.writer c.self.inside.start c.self.inside.items.items c.self.invariant.sorted c.self.view_is c.self.invariant.up_to c.if-number-eq0.true c.if-self-eq0.true
