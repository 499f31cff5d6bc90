use Rattle.std.proofs.Common.{◌≡◌, ◌∙◌, ◌++◌, ℕ, Some, None, OnOk, slice_get, ap, sym, subst}
use Rattle.std.proofs.lemmas.Result.{on_ok_weaker}
use Rattle.std.specs.Map.{keys_of}
use Rattle.rollup_kit.specs.Groups.{Grouped}
use Rattle.rollup_kit.specs.Indexed.{AddsAt, Pushes, first_row}
use Rattle.rollup_kit.specs.Walks.{Rows, HasRoom, AddsTo}
use Rattle.rollup_kit.specs.contracts.kept_rows.KeptRows.{the_view}
use Rattle.rollup_kit.proofs.Adding.{absent}
use Rattle.rollup_kit.proofs.Indexed.{each_room, others_room, rows_stay, adds_to_row, no_row, still_free, adds_to_other, other_added, other_tried, row_added, row_tried}
use Rattle.rollup_kit.proofs.SetOrders.{sets_total, sets_exact}
use Rattle.rollup_kit.proofs.kept_rows.KeptRows.add_set.Goals as goal

pub add_at-requires-clause-room : goal.add_at-requires-clause-room
add_at-requires-clause-room c = each_room _ _ _ c.self.invariant (subst HasRoom (sym c.self.view_is) c.requires)

pub invariant_of-self : goal.invariant_of-self
invariant_of-self c =
    let me = c.self.inside in
    let there : slice_get (keys_of me.rows.items) c.in-Some.place ≡ Some c.args.set = ap (λ (rows : Rows). slice_get (keys_of rows) c.in-Some.place) (sym c.as_slice.ensures.value) ∙ c.in-Some.ensures.found.1 in
    let adds : AddsAt c.in-Some.place c.args.set c.args.cell.now me.rows.items c.add_at.new.rows.items = c.add_at.ensures c.args.set there in
    rows_stay me.rows.items me.others.entries me.places.entries c.self.invariant c.in-Some.place c.args.set c.args.cell.now c.add_at.new.rows.items adds

pub returns-in-Some : goal.returns-in-Some
returns-in-Some c =
    let me = c.self.inside in
    let there : slice_get (keys_of me.rows.items) c.in-Some.place ≡ Some c.args.set = ap (λ (rows : Rows). slice_get (keys_of rows) c.in-Some.place) (sym c.as_slice.ensures.value) ∙ c.in-Some.ensures.found.1 in
    let adds : AddsAt c.in-Some.place c.args.set c.args.cell.now me.rows.items c.add_at.new.rows.items = c.add_at.ensures c.args.set there in
    subst (λ (rows : Rows). AddsTo c.args.buckets c.args.set c.args.cell.now rows (the_view (record { rows = c.add_at.new.rows; others = me.others; places = me.places; next = me.next }))) c.self.view_is
    (adds_to_row me.rows.items me.others.entries me.places.entries c.self.invariant c.in-Some.place c.args.set c.args.cell.now c.add_at.new.rows.items adds c.args.buckets)

pub add_held-requires : goal.add_held-requires
add_held-requires c =
    let me = c.self.inside in
    others_room me.rows.items me.others.entries me.places.entries c.self.invariant (subst HasRoom (sym c.self.view_is) c.requires)

pub returns-then-add_held : goal.returns-then-add_held
returns-then-add_held c =
    let me = c.self.inside in
    let none = no_row me.rows.items me.others.entries me.places.entries c.self.invariant c.args.set c.hash_of-hash.result c.copied-told.result c.as_slice.result.now c.hash_of-hash.ensures (c.copied-told.ensures ∙ c.get.ensures.value) c.as_slice.ensures.value c.in-None.ensures.none in
    subst (λ (rows : Rows). AddsTo c.args.buckets c.args.set c.args.cell.now rows (the_view (record { rows = me.rows; others = c.add_held.new.rows; places = me.places; next = me.next }))) c.self.view_is
    (adds_to_other me.rows.items me.others.entries c.add_held.new.rows.entries c.args.buckets c.args.set c.args.cell.now none (sym c.add_held.ensures.value ∙ c.if-add_held.true) c.add_held.ensures.adds)

pub invariant_of-self-then-is_some : goal.invariant_of-self-then-is_some
invariant_of-self-then-is_some c =
    let me = c.self.inside in
    let none = no_row me.rows.items me.others.entries me.places.entries c.self.invariant c.args.set c.hash_of-hash.result c.copied-told.result c.as_slice.result.now c.hash_of-hash.ensures (c.copied-told.ensures ∙ c.get.ensures.value) c.as_slice.ensures.value c.in-None.ensures.none in
    let still = still_free me.rows.items me.others.entries me.places.entries c.self.invariant c.args.set c.add_held.new.rows.entries c.add_held.result none c.add_held.ensures.value c.if-add_held.false c.add_held.ensures.keys (c.add_held.ensures.kept c.if-add_held.false) in
    other_tried c.start.result me.rows.items c.add_held.new.rows.entries c.start.new.rows.entries me.places.entries c.args.buckets c.args.set c.args.cell.now still.0 still.1 c.start.ensures.ok c.start.ensures.err

pub returns-then-is_some : goal.returns-then-is_some
returns-then-is_some c =
    let me = c.self.inside in
    let none = no_row me.rows.items me.others.entries me.places.entries c.self.invariant c.args.set c.hash_of-hash.result c.copied-told.result c.as_slice.result.now c.hash_of-hash.ensures (c.copied-told.ensures ∙ c.get.ensures.value) c.as_slice.ensures.value c.in-None.ensures.none in
    let still = still_free me.rows.items me.others.entries me.places.entries c.self.invariant c.args.set c.add_held.new.rows.entries c.add_held.result none c.add_held.ensures.value c.if-add_held.false c.add_held.ensures.keys (c.add_held.ensures.kept c.if-add_held.false) in
    on_ok_weaker c.start.result
    (λ put. subst (λ (rows : Rows). AddsTo c.args.buckets c.args.set c.args.cell.now rows (the_view (record { rows = me.rows; others = c.start.new.rows; places = me.places; next = me.next }))) (ap (λ (o : Rows). me.rows.items ++ o) (c.add_held.ensures.kept c.if-add_held.false) ∙ c.self.view_is)
    (other_added me.rows.items c.add_held.new.rows.entries c.start.new.rows.entries c.args.buckets c.args.set c.args.cell.now still.1 put)) c.start.ensures.ok

pub invariant_of-self-2 : goal.invariant_of-self-2
invariant_of-self-2 c =
    let me = c.self.inside in
    let none = no_row me.rows.items me.others.entries me.places.entries c.self.invariant c.args.set c.hash_of-hash.result c.copied-told.result c.as_slice.result.now c.hash_of-hash.ensures (c.copied-told.ensures ∙ c.get.ensures.value) c.as_slice.ensures.value c.in-None.ensures.none in
    let still = still_free me.rows.items me.others.entries me.places.entries c.self.invariant c.args.set c.add_held.new.rows.entries c.add_held.result none c.add_held.ensures.value c.if-add_held.false c.add_held.ensures.keys (c.add_held.ensures.kept c.if-add_held.false) in
    let untold : c.copied-told.result ≡ None = absent sets_total sets_exact (λ (n : ℕ). n) c.copied-told.result (sym c.is_some.ensures ∙ c.if-is_some.false) in
    let pushes : OnOk c.push.result (Pushes c.hash_of-hash.result (first_row c.args.buckets c.args.set c.args.cell.now) me.rows.items c.push.new.rows.items me.places.entries c.push.new.places.entries) =
    subst (λ (g : Grouped). OnOk c.push.result (Pushes c.hash_of-hash.result (c.args.set, g) me.rows.items c.push.new.rows.items me.places.entries c.push.new.places.entries)) c.in_ok-group.ensures c.push.ensures.ok in
    row_tried c.push.result me.rows.items c.add_held.new.rows.entries c.push.new.rows.items me.places.entries c.push.new.places.entries c.args.buckets c.args.set c.args.cell.now c.hash_of-hash.result
    still.0 still.1 c.hash_of-hash.ensures (sym (c.copied-told.ensures ∙ c.get.ensures.value) ∙ untold) pushes c.push.ensures.err

pub returns : goal.returns
returns c =
    let me = c.self.inside in
    let none = no_row me.rows.items me.others.entries me.places.entries c.self.invariant c.args.set c.hash_of-hash.result c.copied-told.result c.as_slice.result.now c.hash_of-hash.ensures (c.copied-told.ensures ∙ c.get.ensures.value) c.as_slice.ensures.value c.in-None.ensures.none in
    let still = still_free me.rows.items me.others.entries me.places.entries c.self.invariant c.args.set c.add_held.new.rows.entries c.add_held.result none c.add_held.ensures.value c.if-add_held.false c.add_held.ensures.keys (c.add_held.ensures.kept c.if-add_held.false) in
    let pushes : OnOk c.push.result (Pushes c.hash_of-hash.result (first_row c.args.buckets c.args.set c.args.cell.now) me.rows.items c.push.new.rows.items me.places.entries c.push.new.places.entries) =
    subst (λ (g : Grouped). OnOk c.push.result (Pushes c.hash_of-hash.result (c.args.set, g) me.rows.items c.push.new.rows.items me.places.entries c.push.new.places.entries)) c.in_ok-group.ensures c.push.ensures.ok in
    on_ok_weaker c.push.result
    (λ put. subst (λ (rows : Rows). AddsTo c.args.buckets c.args.set c.args.cell.now rows (the_view (record { rows = c.push.new.rows; others = c.add_held.new.rows; places = c.push.new.places; next = me.next }))) (ap (λ (o : Rows). me.rows.items ++ o) (c.add_held.ensures.kept c.if-add_held.false) ∙ c.self.view_is)
    (row_added me.rows.items c.add_held.new.rows.entries me.places.entries still.0 c.args.buckets c.args.set c.args.cell.now c.hash_of-hash.result c.push.new.rows.items c.push.new.places.entries put still.1)) pushes
