use Rattle.std.proofs.Common.{◌≡◌, ◌-◌, true, false, not, refl, sym, ap, ◌∙◌, rules, arith}
use Rattle.std.specs.FinMap.{entries, get, retain_keys}
use Rattle.std.specs.List.{list_any}
use Rattle.gateway_kit.specs.GatewayState.{GatewayState}
use Rattle.gateway_kit.specs.IncarnationState.{IncarnationState}
use Rattle.gateway_kit.specs.Incarnations.{keyed_cells}
use Rattle.gateway_kit.specs.Keys.{IncarnationKey, whole_key}
use Rattle.gateway_kit.specs.Queries.{in_stream, is_of_other_stream}
use Rattle.gateway_kit.proofs.Growing.{within_at}
use Rattle.gateway_kit.proofs.Moved.{same_at}
use Rattle.gateway_kit.proofs.Narrowed.{dropped_among, narrowed_alone, narrowed_covered, narrowed_some, narrowed_whole, no_number_of_stream, none_of_stream, numbers_narrowed, numbers_stay, points_narrowed, points_stay}
use Rattle.gateway_kit.proofs.Queried.{found_nowhere}
use Rattle.gateway_kit.proofs.Tallies.{tells_set, told_few, told_total, told_under}
use Rattle.gateway_kit.proofs.gateway.Gateway.forget_but.Goals as goal

pub returns-in_default-clause-value : goal.returns-in_default-clause-value
returns-in_default-clause-value c =
    let ps = c.self.inside.incarnations.items in
    let key : IncarnationKey = (c.args.writer.now, c.args.start) in
    let none = found_nowhere key ps ps refl c.self.invariant.0.sorted c.in_default.field-0 c.in_default.ensures in
    sym (ap (λ (v : GatewayState). v.points) c.self.view_is) ∙ points_stay key c.args.stream.now ps c.self.invariant.0.sorted none
    ∙ ap (λ (v : GatewayState). retain_keys v.points (λ k. not (is_of_other_stream c.args.writer.now c.args.start c.args.stream.now k))) c.self.view_is

pub returns-in_default-clause-numbers : goal.returns-in_default-clause-numbers
returns-in_default-clause-numbers c =
    let ps = c.self.inside.incarnations.items in
    let key : IncarnationKey = (c.args.writer.now, c.args.start) in
    let none = found_nowhere key ps ps refl c.self.invariant.0.sorted c.in_default.field-0 c.in_default.ensures in
    sym (ap (λ (v : GatewayState). v.numbers) c.self.view_is) ∙ numbers_stay key c.args.stream.now ps c.self.invariant.0.sorted none
    ∙ ap (λ (v : GatewayState). retain_keys v.numbers (λ k. not (is_of_other_stream c.args.writer.now c.args.start c.args.stream.now k))) c.self.view_is

pub get-requires : goal.get-requires
get-requires c = within_at keyed_cells c.self.inside.incarnations.items c.in-Ok.place (c.args.writer.now, c.args.start) c.in-Ok.ensures

pub returns-then-not-has_stream-clause-value : goal.returns-then-not-has_stream-clause-value
returns-then-not-has_stream-clause-value c =
    let key : IncarnationKey = (c.args.writer.now, c.args.start) in
    let s = c.args.stream.now in
    let olds = c.self.inside.incarnations.items in
    let lacks : list_any (λ e. in_stream s e.0) (entries c.get.result.now.cells) ≡ false = (let no_one : c.has_stream.result ≡ false = search rules in sym c.has_stream.ensures.cells ∙ no_one) in
    let none = none_of_stream key s c.in-Ok.place olds c.self.inside.len c.get.result.now c.self.invariant.0 c.in-Ok.ensures c.get.ensures.value lacks in
    narrowed_alone key s c.args.self.now.points c.forget.new.self.points c.forget.ensures.value (λ b t. sym (ap (λ (v : GatewayState). get v.points (whole_key key b)) c.self.view_is) ∙ none b t)

pub returns-then-not-has_stream-clause-numbers : goal.returns-then-not-has_stream-clause-numbers
returns-then-not-has_stream-clause-numbers c =
    let key : IncarnationKey = (c.args.writer.now, c.args.start) in
    let s = c.args.stream.now in
    let olds = c.self.inside.incarnations.items in
    let lacks : list_any (λ e. in_stream s e.0) (entries c.get.result.now.numbers) ≡ false = (let no_one : c.has_stream.result ≡ false = search rules in sym c.has_stream.ensures.numbers ∙ no_one) in
    let none = no_number_of_stream key s c.in-Ok.place olds c.self.inside.len c.get.result.now c.self.invariant.0 c.in-Ok.ensures c.get.ensures.value lacks in
    narrowed_alone key s c.args.self.now.numbers c.forget.new.self.numbers c.forget.ensures.numbers (λ b t. sym (ap (λ (v : GatewayState). get v.numbers (whole_key key b)) c.self.view_is) ∙ none b t)

pub get_mut-held-requires : goal.get_mut-held-requires
get_mut-held-requires c = within_at keyed_cells c.self.inside.incarnations.items c.in-Ok.place (c.args.writer.now, c.args.start) c.in-Ok.ensures

pub overflow_sub-self : goal.overflow_sub-self
overflow_sub-self c =
    let olds = c.self.inside.incarnations.items in
    let k = c.keep_stream in
    dropped_among (c.args.writer.now, c.args.start) c.args.stream.now c.in-Ok.place olds c.self.inside.len c.get_mut-held.result.now c.self.invariant.0 c.in-Ok.ensures c.get_mut-held.ensures.value k.new.self k.ensures.same k.ensures.cells k.ensures.numbers k.result k.ensures.dropped

pub overflow_sub-self-2 : goal.overflow_sub-self-2
overflow_sub-self-2 c =
    let olds = c.self.inside.incarnations.items in
    let within = within_at keyed_cells olds c.in-Ok.place (c.args.writer.now, c.args.start) c.in-Ok.ensures in
    let tells = tells_set olds c.in-Ok.place c.get_mut-held.result.now c.keep_stream.new.self c.conflicts-before.result _ within c.get_mut-held.ensures.value c.conflicts-before.ensures refl in
    told_under olds _ c.conflicts-before.result _ c.self.inside.conflicts c.self.invariant.1 tells

pub overflow_add-self : goal.overflow_add-self
overflow_add-self c =
    let olds = c.self.inside.incarnations.items in
    let p = c.get_mut-held.result.now in
    let k = c.keep_stream in
    let within = within_at keyed_cells olds c.in-Ok.place (c.args.writer.now, c.args.start) c.in-Ok.ensures in
    let some = narrowed_some (c.args.writer.now, c.args.start) c.args.stream.now c.in-Ok.place olds c.self.inside.len p c.self.invariant.0 c.in-Ok.ensures c.get_mut-held.ensures.value k.new.self k.ensures.same k.ensures.cells k.ensures.numbers
    (sym (ap (λ (q : IncarnationState). list_any (λ e. in_stream c.args.stream.now e.0) (entries q.cells)) (same_at olds c.in-Ok.place c.get.result.now p within c.get.ensures.value c.get_mut-held.ensures.value)) ∙ sym c.has_stream.ensures.cells ∙ (let yes : c.has_stream.result ≡ true = search rules in yes)) in
    let whole = narrowed_whole (c.args.writer.now, c.args.start) c.args.stream.now c.in-Ok.place olds c.self.inside.len p c.self.invariant.0 c.in-Ok.ensures c.get_mut-held.ensures.value k.new.self k.ensures.same k.ensures.cells k.ensures.numbers k.result k.ensures.dropped some in
    let tells = tells_set olds c.in-Ok.place p k.new.self c.conflicts-before.result c.conflicts.result within c.get_mut-held.ensures.value c.conflicts-before.ensures c.conflicts.ensures in
    let few = told_few olds _ c.conflicts-before.result c.conflicts.result c.self.inside.conflicts c.self.invariant.1 tells (c.self.inside.len - k.result) whole in
    omega (arith, few)

pub invariant_of-self : goal.invariant_of-self
invariant_of-self c =
    let olds = c.self.inside.incarnations.items in
    let within = within_at keyed_cells olds c.in-Ok.place (c.args.writer.now, c.args.start) c.in-Ok.ensures in
    let p = c.get_mut-held.result.now in
    let k = c.keep_stream in
    let some = narrowed_some (c.args.writer.now, c.args.start) c.args.stream.now c.in-Ok.place olds c.self.inside.len p c.self.invariant.0 c.in-Ok.ensures c.get_mut-held.ensures.value k.new.self k.ensures.same k.ensures.cells k.ensures.numbers
    (sym (ap (λ (q : IncarnationState). list_any (λ e. in_stream c.args.stream.now e.0) (entries q.cells)) (same_at olds c.in-Ok.place c.get.result.now p within c.get.ensures.value c.get_mut-held.ensures.value)) ∙ sym c.has_stream.ensures.cells ∙ (let yes : c.has_stream.result ≡ true = search rules in yes)) in
    let tells = tells_set olds c.in-Ok.place p k.new.self c.conflicts-before.result c.conflicts.result within c.get_mut-held.ensures.value c.conflicts-before.ensures c.conflicts.ensures in (
      narrowed_whole (c.args.writer.now, c.args.start) c.args.stream.now c.in-Ok.place olds c.self.inside.len p c.self.invariant.0 c.in-Ok.ensures c.get_mut-held.ensures.value k.new.self k.ensures.same k.ensures.cells k.ensures.numbers k.result k.ensures.dropped some,
      told_total olds _ c.conflicts-before.result c.conflicts.result c.self.inside.conflicts c.self.invariant.1 tells,
      narrowed_covered (c.args.writer.now, c.args.start) c.args.stream.now c.in-Ok.place olds c.self.inside.len p c.self.invariant.0 c.in-Ok.ensures c.get_mut-held.ensures.value k.new.self k.ensures.same k.ensures.cells k.ensures.numbers c.self.inside.incarnations.bounds c.self.invariant.2,
    )

pub returns-clause-value : goal.returns-clause-value
returns-clause-value c =
    let olds = c.self.inside.incarnations.items in
    let k = c.keep_stream in
    points_narrowed (c.args.writer.now, c.args.start) c.args.stream.now c.in-Ok.place olds c.self.inside.len c.get_mut-held.result.now c.self.invariant.0 c.in-Ok.ensures c.get_mut-held.ensures.value k.new.self k.ensures.same k.ensures.cells k.ensures.numbers
    ∙ ap (λ (v : GatewayState). retain_keys v.points (λ k. not (is_of_other_stream c.args.writer.now c.args.start c.args.stream.now k))) c.self.view_is

pub returns-clause-numbers : goal.returns-clause-numbers
returns-clause-numbers c =
    let olds = c.self.inside.incarnations.items in
    let k = c.keep_stream in
    numbers_narrowed (c.args.writer.now, c.args.start) c.args.stream.now c.in-Ok.place olds c.self.inside.len c.get_mut-held.result.now c.self.invariant.0 c.in-Ok.ensures c.get_mut-held.ensures.value k.new.self k.ensures.same k.ensures.cells k.ensures.numbers
    ∙ ap (λ (v : GatewayState). retain_keys v.numbers (λ k. not (is_of_other_stream c.args.writer.now c.args.start c.args.stream.now k))) c.self.view_is
