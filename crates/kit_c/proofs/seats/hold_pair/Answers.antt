use Rattle.std.proofs.Common.{◌≡◌, ◌∙◌, ◌++◌, None, arith, refl, sym, subst}
use Rattle.std.specs.Arc.{arc_value}
use Rattle.kit_c.proofs.Knowing.{know_held, know_more, know_tried}
use Rattle.kit_c.proofs.Numbers.{inserted, noted_is, noted_last, noted_stands}
use Rattle.kit_c.specs.Knowing.{Know}
use Rattle.kit_c.specs.Pairs.{number_in, pair_eq}
use Rattle.std.specs.Map.{lookup}
use Rattle.turn_kit.specs.Public.{seen}
use Rattle.writer_kit.specs.Shared.{first_of, held_in}
use Rattle.kit_c.proofs.seats.hold_pair.Goals as goal

pub returns-in-Some-clause-stands : goal.returns-in-Some-clause-stands
returns-in-Some-clause-stands c =
    let d = c.args.desk.now in
    noted_stands ((first_of (arc_value d.writer)).tally.held ++ held_in (seen d.seat)) d.numbers.entries c.args.pair.now c.in-Some.number.now d.known (sym c.in-Some.ensures.value)

pub invariant_of-desk-in-Ok-clause-known : goal.invariant_of-desk-in-Ok-clause-known
invariant_of-desk-in-Ok-clause-known c =
    let d = c.args.desk.now in
    let shared = arc_value d.writer in
    let t = c.try_hold.new.seat in
    let es = d.numbers.entries in
    let p = c.args.pair.now in
    let is = inserted es c.reserve.new.self.entries c.insert.new.self.entries p c.in_ok-copy.copy c.in-Ok.number c.insert.result c.in_ok-reserve.ensures.entries c.in_ok-copy.ensures
    (c.insert.ensures.succeeds (omega (arith, c.in_ok-reserve.ensures.ok))) c.insert.ensures.entries in
    know_held shared d.seat t es p c.insert.new.self.entries c.in-Ok.number is (rw c.deref.ensures at c.in-Ok.ensures.stands)
    (know_more shared d.seat t es c.in-Ok.ensures.ok.grows d.known)

pub returns-in-Ok-clause-value : goal.returns-in-Ok-clause-value
returns-in-Ok-clause-value c =
    let d = c.args.desk.now in
    let es = d.numbers.entries in
    let p = c.args.pair.now in
    let none : lookup (pair_eq p) es ≡ None = sym c.in_default.ensures.value in
    let unknown : number_in es p.instrument p.attrs ≡ None = sym (noted_is p es) ∙ none in
    let is = inserted es c.reserve.new.self.entries c.insert.new.self.entries p c.in_ok-copy.copy c.in-Ok.number c.insert.result c.in_ok-reserve.ensures.entries c.in_ok-copy.ensures
    (c.insert.ensures.succeeds (omega (arith, c.in_ok-reserve.ensures.ok))) c.insert.ensures.entries in
    rw unknown (record {
      writer = refl;
      accepted = rw c.deref.ensures at c.in-Ok.ensures.ok;
      added = rw c.deref.ensures at c.in-Ok.ensures.serves;
      noted = is ∙ noted_last es p c.in-Ok.number none;
    })

pub invariant_of-desk-in-Err-1-clause-known : goal.invariant_of-desk-in-Err-1-clause-known
invariant_of-desk-in-Err-1-clause-known c =
    let d = c.args.desk.now in
    let shared = arc_value d.writer in
    let t = c.try_hold.new.seat in
    subst (λ es. Know shared t es) (sym c.in_ok-reserve.ensures.entries)
    (know_tried shared d.seat t d.numbers.entries _ _ _ _ _ _ _ c.try_hold.result c.try_hold.ensures.ok c.try_hold.ensures.busy c.try_hold.ensures.exhausted c.try_hold.ensures.refused d.known)
