use Rattle.std.proofs.Common.{◌≡◌, ◌∙◌, Some, true, sym, ap, subst}
use Rattle.attr_kit.specs.declared.attr_set.AttrSet.{AttrSet}
use Rattle.agg_kit.specs.Feeding.{set_eq}
use Rattle.recorder_kit.proofs.Logs.{same, find-true, insert-stays}
use Rattle.recorder_kit.proofs.names.set_place.Goals as goal

pub returns-in-Some-clause-place : goal.returns-in-Some-clause-place
returns-in-Some-clause-place c =
    let a = c.args.attrs.now in
    let k : AttrSet = c.in-Some.field-0-1.now in
    c.in-Some.ensures.stored ∙ ap (λ (x : AttrSet). Some x) (sym (same a k (find-true (set_eq a) c.args.sets.now.keys k (sym c.in-Some.ensures.key))))

pub returns-clause-place : goal.returns-clause-place
returns-clause-place c =
    let a = c.args.attrs.now in
    let stored = c.in_ok-place.ensures.stored in
    let k : AttrSet = stored.0 in
    stored.1 ∙ ap (λ (x : AttrSet). Some x) (sym (same a k (subst (λ (x : AttrSet). set_eq x k ≡ true) c.in_ok-try_copy.ensures.value stored.2)))

pub returns-clause-stay : goal.returns-clause-stay
returns-clause-stay c = insert-stays set_eq c.args.sets.now.keys c.insert_full.new.self.keys c.in_ok-try_copy.field-0 c.in_ok-place.ensures.keys
