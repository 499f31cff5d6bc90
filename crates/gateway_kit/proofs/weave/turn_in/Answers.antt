use Rattle.std.proofs.Common.{◌≡◌, ◌+◌, ◌<◌, ◌≤◌, ℕ, true, List, length, map, take, get_or, sym, ap, subst, ◌∙◌, rules, arith}
use Rattle.std.proofs.lemmas.Fn.{always_returns_same}
use Rattle.std.proofs.lemmas.Grind.{common_steps}
use Rattle.std.proofs.lemmas.List.{length-take-le, take_at}
use Rattle.std.specs.FinMap.Entries.{is_sorted}
use Rattle.std.specs.declared.cmp.Ordering.TheVariants.{Equal}
use Rattle.gateway_kit.specs.Turning.{IsTurnedIn}
use Rattle.gateway_kit.specs.Weave.{by_key}
use Rattle.gateway_kit.proofs.Entries.{as_T}
use Rattle.gateway_kit.proofs.Places.{does_not_fall}
use Rattle.gateway_kit.proofs.Turning.{at_gap, at_tie}
use Rattle.gateway_kit.proofs.weave.turn_in.Goals as goal

pub returns-in-Ok-clause-turned : goal.returns-in-Ok-clause-turned
returns-in-Ok-clause-turned g c =
    let K = g.T.Keyed in
    let xs = c.args.values.now.items in
    let above = c.args.above in
    let d = c.index-here-last.result in
    let here : c.as_slice-here.result.now ≡ xs = c.as_slice-here.ensures.value in
    let value : d ≡ get_or xs (above + c.args.left) d = c.index-here-last.is ∙ ap (λ l. get_or l (above + c.args.left) d) here in
    let less : above + c.args.left < length xs = grind (arith, common_steps) in
    let long : length (take above c.as_slice-here.result.now) ≡ above = ap (λ l. length (take above l)) here ∙ length-take-le above xs (omega (arith, less)) in
    let bound : c.in-Ok.field-0 < length (take above c.as_slice-here.result.now) = c.in-Ok.ensures.bound in
    let told : K.compare (K.entry (get_or (take above c.as_slice-here.result.now) c.in-Ok.field-0 d)).0 (K.entry d).0 ≡ Equal = c.in-Ok.ensures.position (λ y. K.compare (K.entry y).0 (K.entry d).0) (always_returns_same _ _ _ (λ a r q k. search rules)) d in
    at_tie g.met.T.Keyed.total g.met.T.Keyed.exact K.entry xs above c.args.left c.in-Ok.field-0 d c.remove.new.self.items less (omega (arith, bound, long)) (as_T c.requires.sorted)
    ((λ i. K.compare (K.entry (get_or (take above (sym here i)) c.in-Ok.field-0 d)).0 (K.entry (sym value i)).0) ∙ told)
    c.remove.ensures.items

pub returns-in-Err-clause-turned : goal.returns-in-Err-clause-turned
returns-in-Err-clause-turned g c =
    let K = g.T.Keyed in
    let xs = c.args.values.now.items in
    let above = c.args.above in
    let gap = c.in-Err.gap in
    let d = c.index-here-last.result in
    let here : c.as_slice-here.result.now ≡ xs = c.as_slice-here.ensures.value in
    let value : d ≡ get_or xs (above + c.args.left) d = c.index-here-last.is ∙ ap (λ l. get_or l (above + c.args.left) d) here in
    let less : above + c.args.left < length xs = grind (arith, common_steps) in
    let long : length (take above c.as_slice-here.result.now) ≡ above = ap (λ l. length (take above l)) here ∙ length-take-le above xs (omega (arith, less)) in
    let bound : gap ≤ length (take above c.as_slice-here.result.now) = c.in-Err.ensures.bound in
    let sorted : is_sorted K.compare (map K.entry (take above c.as_slice-here.result.now)) ≡ true = ap (λ (l : List g.row.T.Denot). is_sorted K.compare (map K.entry (take above l))) here ∙ c.requires.sorted in
    let parts = c.in-Err.ensures.position (λ y. K.compare (K.entry y).0 (K.entry d).0) (always_returns_same _ _ _ (λ a r q k. search rules)) (does_not_fall g.met.T.Keyed.total g.met.T.Keyed.exact K.entry (K.entry d).0 (take above c.as_slice-here.result.now) (as_T sorted)) in
    let part : (k : ℕ) → K.compare (K.entry (get_or (take above xs) k d)).0 (K.entry (get_or xs (above + c.args.left) d)).0 ≡ K.compare (K.entry (get_or (take above c.as_slice-here.result.now) k d)).0 (K.entry d).0 = λ k i. K.compare (K.entry (get_or (take above (sym here i)) k d)).0 (K.entry (sym value i)).0 in
    let whole : length c.turn.new.values ≡ c.args.values.now.len = grind (arith, common_steps) in
    subst (λ (l : List g.row.T.Denot). IsTurnedIn (by_key K.compare K.entry) above c.args.left xs gap l) (sym (take_at c.turn.new.values _ c.args.values.now.len whole))
    (at_gap g.met.T.Keyed.total g.met.T.Keyed.exact K.entry xs above c.args.left gap d c.turn.new.values less (omega (arith, bound, long))
    (λ k l. part k ∙ parts.0 k d (omega arith) l)
    (λ k l m. part k ∙ parts.1 k d l (omega (arith, m, long)))
    (λ us ws ys zs is. c.turn.ensures.turned us ws ys zs (c.as_mut_slice.ensures.value ∙ is)))
