use Rattle.std.proofs.Common.{◌≡◌, true, false, ◌||◌, sym, ap, ◌∙◌}
use Rattle.std.proofs.lemmas.Result.{on_ok_weaker}
use Rattle.gateway_kit.specs.Walks.{keyed_cell_of_ref}
use Rattle.archive_kit.specs.Named.{has_either, name_in}
use Rattle.archive_kit.specs.Tombstones.{stream_eq}
use Rattle.archive_kit.proofs.Naming.{is_so, none_alike, not_so, told_alike}
use Rattle.archive_kit.proofs.Skipping.{nothing_told, plain_tells_nothing, tombstone_tells}
use Rattle.archive_kit.proofs.keeper.note_told.Goals as goal

pub returns-then-ne-clause-noted : goal.returns-then-ne-clause-noted
returns-then-ne-clause-noted c = λ w s.
    let t = (keyed_cell_of_ref c.args.point.now).0 in
    let other : stream_eq c.get.result.now t.stream ≡ false = not_so _ (sym c.ne.ensures ∙ c.if-ne.true) in
    nothing_told _ _ (plain_tells_nothing c.get.result.now w s t (c.get.ensures.value ∙ c.requires) other)

pub returns-in-Some-clause-noted : goal.returns-in-Some-clause-noted
returns-in-Some-clause-noted c =
    let t = (keyed_cell_of_ref c.args.point.now).0 in
    let same : stream_eq c.get.result.now t.stream ≡ true = is_so _ (sym c.ne.ensures ∙ c.if-ne.false) in
    on_ok_weaker c.note.result
    (λ e w s. e w s ∙ ap (λ b. has_either c.args.names.now w s || b)
    (told_alike w s t.attrs (name_in c.in-Some.told) c.in-Some.ensures.some
    ∙ sym (tombstone_tells c.get.result.now w s t (c.get.ensures.value ∙ c.requires) same)))
    c.note.ensures.noted

pub returns-in-None-clause-noted : goal.returns-in-None-clause-noted
returns-in-None-clause-noted c = λ w s.
    let t = (keyed_cell_of_ref c.args.point.now).0 in
    let same : stream_eq c.get.result.now t.stream ≡ true = is_so _ (sym c.ne.ensures ∙ c.if-ne.false) in
    nothing_told _ _ (tombstone_tells c.get.result.now w s t (c.get.ensures.value ∙ c.requires) same ∙ none_alike w s t.attrs (c.in-None.ensures.none w s))
