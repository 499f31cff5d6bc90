use Rattle.std.proofs.Common.{◌≡◌, ◌∙◌, ℕ, Some, slice_get, sym, ap, arith}
use Rattle.std.specs.Option.{option_copied}
use Rattle.attr_kit.specs.declared.attr_set.AttrSet.{AttrSet}
use Rattle.recorder_kit.specs.declared.line.Named.{Named}
use Rattle.recorder_kit.proofs.Logs.{same}
use Rattle.recorder_kit.proofs.names.Names.find.Goals as goal

pub returns-clause-place : goal.returns-clause-place
returns-clause-place c =
    let p = c.in-Some.pair.now in
    let a = c.in-Some-get_index.set.now in
    let is : p.instrument ≡ c.args.instrument = omega (arith, c.if-pair-instrument.true) in
    let name : slice_get c.args.self.now.named.keys c.args.self.now.last ≡ Some p = sym c.get_index.ensures.key ∙ ap option_copied c.in-Some.is in
    let set : slice_get c.args.self.now.sets.keys p.set ≡ Some a = sym c.get_index-2.ensures.key ∙ ap option_copied c.in-Some-get_index.is in
    let named : ℕ → Named = λ i. record { instrument = i; set = p.set } in (
      p.set,
      name ∙ ap (λ (i : ℕ). Some (named i)) is,
      set ∙ ap (λ (x : AttrSet). Some x) (same a c.args.attrs.now (sym c.eq.ensures ∙ c.if-eq.true)),
    )
