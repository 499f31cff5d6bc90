use Rattle.std.proofs.Common.{◌≡◌, ◌∙◌, ◌+◌, Some, slice_get, is_some, refl, ap, sym, subst, arith}
use Rattle.std.specs.Map.{keys_of}
use Rattle.rollup_kit.specs.Indexed.{AddsAt}
use Rattle.rollup_kit.specs.contracts.kept_rows.KeptRows.{the_view}
use Rattle.rollup_kit.specs.Walks.{Rows, group_at, HasRoom, AddsHeld}
use Rattle.rollup_kit.proofs.Indexed.{each_room, row_read_at, key_at, rows_stay, there_in_rows, adds_in_rows}
use Rattle.rollup_kit.proofs.kept_rows.KeptRows.add_guessed.Goals as goal

pub add_at-requires-clause-room : goal.add_at-requires-clause-room
add_at-requires-clause-room c = each_room _ _ _ c.self.invariant (subst HasRoom (sym c.self.view_is) c.requires)

pub invariant_of-self : goal.invariant_of-self
invariant_of-self c =
    let me = c.self.inside in
    let row = c.index.result.now in
    let there : slice_get (keys_of me.rows.items) c.args.place ≡ Some row.0 = key_at me.rows.items c.args.place row.0 row.1 (row_read_at me.rows.items c.args.place row (omega (arith, c.if-place-len.false, c.len.ensures)) c.index.ensures) in
    rows_stay me.rows.items me.others.entries me.places.entries c.self.invariant c.args.place row.0 c.args.cell.now c.add_at.new.rows.items (c.add_at.ensures row.0 there)

pub returns-clause-added : goal.returns-clause-added
returns-clause-added c = λ _.
    let me = c.self.inside in
    let row = c.index.result.now in
    let place = c.args.place in
    let there : slice_get (keys_of me.rows.items) place ≡ Some row.0 = key_at me.rows.items place row.0 row.1 (row_read_at me.rows.items place row (omega (arith, c.if-place-len.false, c.len.ensures)) c.index.ensures) in
    let adds : AddsAt place row.0 c.args.cell.now me.rows.items c.add_at.new.rows.items = c.add_at.ensures row.0 there in (
      row.0,
      c.show.ensures.attributes,
      c.if-not-show.ensures.shown refl,
      ap (λ (rows : Rows). is_some (group_at rows row.0)) (sym c.self.view_is) ∙ there_in_rows me.rows.items me.others.entries me.places.entries c.self.invariant place row.0 c.args.cell.now c.add_at.new.rows.items adds,
      subst (λ (rows : Rows). AddsHeld row.0 c.args.cell.now rows (the_view (record { rows = c.add_at.new.rows; others = me.others; places = me.places; next = c.args.place + 1 }))) c.self.view_is
          (adds_in_rows me.rows.items me.others.entries me.places.entries c.self.invariant place row.0 c.args.cell.now c.add_at.new.rows.items adds),
    )
