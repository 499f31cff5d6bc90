use Rattle.std.proofs.Common.{◌≡◌, ◌||◌, ap, ◌∙◌}
use Rattle.std.proofs.lemmas.Result.{on_ok_weaker}
use Rattle.archive_kit.specs.Named.{Name, NameList, has_either, has_name, is_name, mark_names}
use Rattle.archive_kit.specs.declared.names.Mark.{Mark}
use Rattle.archive_kit.proofs.Naming.{kept_fresh, names_grown, noted_of, of_grown}
use Rattle.archive_kit.proofs.names.Names.note_parts.Goals as goal

pub returns-in_err-place-clause-names : goal.returns-in_err-place-clause-names
returns-in_err-place-clause-names c =
    let i = c.self.inside in
    names_grown i.services.keys c.place_of.new.services.keys c.place_of.ensures.grows i.marks.keys c.self.invariant.marked ∙ ap (λ (n : NameList). n.names) c.self.view_is

pub returns-clause-names : goal.returns-clause-names
returns-clause-names c =
    let i = c.self.inside in
    names_grown i.services.keys c.place_of.new.services.keys c.place_of.ensures.grows i.marks.keys c.self.invariant.marked ∙ ap (λ (n : NameList). n.names) c.self.view_is

pub invariant_of-self-2 : goal.invariant_of-self-2
invariant_of-self-2 c =
    let i = c.self.inside in
    let now = c.place_of.new.services.keys in
    let m : Mark = record { service = c.in_ok-place.place; instance = c.args.instance; start = c.args.start } in
    record {
      apart = c.place_of.ensures.apart c.self.invariant.apart;
      marked = of_grown i.services.keys now c.place_of.ensures.grows i.marks.keys c.self.invariant.marked;
      noted = noted_of c.keep_fresh.result now m i.marks.keys i.fresh.keys c.keep_fresh.new.fresh.keys c.in_ok-place.ensures.within
          (of_grown i.services.keys now c.place_of.ensures.grows i.fresh.keys c.self.invariant.noted) c.keep_fresh.ensures.ok c.keep_fresh.ensures.unchanged;
    }

pub returns-clause-noted : goal.returns-clause-noted
returns-clause-noted c =
    let i = c.self.inside in
    let now = c.place_of.new.services.keys in
    let m : Mark = record { service = c.in_ok-place.place; instance = c.args.instance; start = c.args.start } in
    let its : Name = record { service = c.args.service.now; instance = c.args.instance; start = c.args.start } in
    let marked : mark_names now i.marks.keys ≡ mark_names i.services.keys i.marks.keys = names_grown i.services.keys now c.place_of.ensures.grows i.marks.keys c.self.invariant.marked in
    let noted : mark_names now i.fresh.keys ≡ mark_names i.services.keys i.fresh.keys = names_grown i.services.keys now c.place_of.ensures.grows i.fresh.keys c.self.invariant.noted in
    on_ok_weaker c.keep_fresh.result
    (λ e w s. kept_fresh now w s m i.marks.keys i.fresh.keys c.keep_fresh.new.fresh.keys e
    ∙ (λ k. (has_name (marked k) w s || has_name (noted k) w s) || is_name w s (record { service = c.in_ok-place.ensures.place k; instance = c.args.instance; start = c.args.start }))
    ∙ ap (λ (n : NameList). has_either n w s || is_name w s its) c.self.view_is)
    c.keep_fresh.ensures.ok
