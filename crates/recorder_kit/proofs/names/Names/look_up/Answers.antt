use Rattle.std.proofs.Common.{◌≡◌, ◌∙◌, Some, slice_get, sym, ap}
use Rattle.attr_kit.specs.declared.attr_set.AttrSet.{AttrSet}
use Rattle.agg_kit.specs.Feeding.{set_eq}
use Rattle.recorder_kit.specs.contracts.line.NamedPartialEq.TheImpl as names
use Rattle.recorder_kit.specs.declared.line.Named.{Named}
use Rattle.recorder_kit.proofs.Logs.{same, find-true}
use Rattle.recorder_kit.proofs.Naming.{no-name, no-set, same-name}
use Rattle.recorder_kit.proofs.names.Names.look_up.Goals as goal

pub returns-in_err-set-clause-none : goal.returns-in_err-set-clause-none
returns-in_err-set-clause-none c = λ j none is.
    no-set c.args.self.now.named.keys c.args.self.now.sets.keys j c.args.instrument c.args.attrs.now (sym c.in_err-set.ensures.found) is

pub returns-in_err-place-clause-none : goal.returns-in_err-place-clause-none
returns-in_err-place-clause-none c = λ j none is.
    let a = c.args.attrs.now in
    let k : AttrSet = c.in_ok-set.field-0-1.now in
    let set : slice_get c.args.self.now.sets.keys c.in_ok-set.set ≡ Some a =
    c.in_ok-set.ensures.stored ∙ ap (λ (x : AttrSet). Some x) (sym (same a k (find-true (set_eq a) c.args.self.now.sets.keys k (sym c.in_ok-set.ensures.key)))) in
    no-name c.args.self.now.named.keys c.args.self.now.sets.keys j c.args.instrument c.in_ok-set.set a c.len-sets.ensures.unique set (sym c.in_err-place.ensures.found) is

pub returns-clause-place : goal.returns-clause-place
returns-clause-place c =
    let a = c.args.attrs.now in
    let k : AttrSet = c.in_ok-set.field-0-1.now in
    let name : Named = record { instrument = c.args.instrument; set = c.in_ok-set.set } in
    let there : Named = c.in_ok-place.field-0-1.now in (
      c.in_ok-set.set,
      c.in_ok-place.ensures.stored ∙ ap (λ (x : Named). Some x) (sym (same-name name there (find-true ((names.ghosts).eq name) c.args.self.now.named.keys there (sym c.in_ok-place.ensures.key)))),
      c.in_ok-set.ensures.stored ∙ ap (λ (x : AttrSet). Some x) (sym (same a k (find-true (set_eq a) c.args.self.now.sets.keys k (sym c.in_ok-set.ensures.key)))),
    )
