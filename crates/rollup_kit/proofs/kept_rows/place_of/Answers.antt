use Rattle.std.proofs.Common.{◌≡◌, ℕ, ◌∙◌, Bool, false, true, not, Some, slice_get, ap, sym}
use Rattle.std.specs.Map.{keys_of}
use Rattle.rollup_kit.specs.Asks.{Attributes}
use Rattle.rollup_kit.specs.Groups.{Grouped}
use Rattle.rollup_kit.proofs.Indexed.{row_read_at, set_at, other_set}
use Rattle.rollup_kit.proofs.SetOrders.{set_eq}
use Rattle.rollup_kit.proofs.kept_rows.place_of.Goals as goal

differs : (b : Bool) → true ≡ not b → b ≡ false
differs true e = cc
differs false e = λ i. false

agrees : (b : Bool) → false ≡ not b → b ≡ true
agrees true e = λ i. true
agrees false e = cc

pub returns-then-ne-clause-none : goal.returns-then-ne-clause-none
returns-then-ne-clause-none c = λ at told there.
    let rows = c.args.rows.now in
    let place = c.in_ok-place.place in
    let row = c.index-rows-place.result in
    let was : c.args.told ≡ Some place = c.in_ok-place.was in
    let both : Some place ≡ Some at = sym was ∙ told in
    let same : place ≡ at = cc in
    let apart : set_eq row.0 c.args.set.now ≡ false = differs (set_eq row.0 c.args.set.now) (c.if-ne.ensures ∙ sym (ap (λ (r : Attributes × Grouped). not (set_eq r.0 c.args.set.now)) c.index-rows-place.is)) in
    other_set rows place row c.args.set.now (row_read_at rows place row c.if-place-rows.false c.index-rows-place.is) apart (ap (λ (n : ℕ). slice_get (keys_of rows) n) same ∙ there)

pub returns-clause-found : goal.returns-clause-found
returns-clause-found c =
    let rows = c.args.rows.now in
    let place = c.in_ok-place.place in
    let row = c.index-rows-place.result in
    let same : set_eq row.0 c.args.set.now ≡ true = agrees (set_eq row.0 c.args.set.now) (c.if-ne.ensures ∙ sym (ap (λ (r : Attributes × Grouped). not (set_eq r.0 c.args.set.now)) c.index-rows-place.is)) in
    (c.if-place-rows.false, set_at rows place row c.args.set.now (row_read_at rows place row c.if-place-rows.false c.index-rows-place.is) same)
