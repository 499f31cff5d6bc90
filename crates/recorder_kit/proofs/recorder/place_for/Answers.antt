use Rattle.std.proofs.Common.{◌∙◌, arith, drop}
use Rattle.recorder_kit.proofs.Logs.{same-grown, there-grown}
use Rattle.recorder_kit.proofs.recorder.place_for.Goals as goal

pub returns-in_err-make_names_room-clause-known : goal.returns-in_err-make_names_room-clause-known
returns-in_err-make_names_room-clause-known c = λ j is. absurd (c.find.ensures.none j c.in_default.is is)

pub returns-clause-known : goal.returns-clause-known
returns-clause-known c = λ j is. absurd (c.find.ensures.none j c.in_default.is is)

pub returns-clause-whole : goal.returns-clause-whole
returns-clause-whole c =
    let whole = c.make_names_room.ensures.whole in
    let grown = c.add.ensures.grown in
    let room = c.in_ok-make_names_room.ensures in
    let ls = drop c.make_names_room.new.given c.make_names_room.new.log.items in
    record {
      there = there-grown c.make_names_room.new.names.named.keys c.add.new.self.named.keys c.make_names_room.new.names.sets.keys c.add.new.self.sets.keys grown.names grown.sets ls whole.there;
      memory = whole.memory;
      within = whole.within;
      few_names = omega (arith, grown.one_name, room.names);
      few_sets = omega (arith, grown.one_set, room.sets);
    }

pub returns-clause-same : goal.returns-clause-same
returns-clause-same c =
    let whole = c.make_names_room.ensures.whole in
    let grown = c.add.ensures.grown in
    let ls = drop c.make_names_room.new.given c.make_names_room.new.log.items in
    same-grown c.make_names_room.new.names.named.keys c.add.new.self.named.keys c.make_names_room.new.names.sets.keys c.add.new.self.sets.keys grown.names grown.sets ls whole.there
    ∙ c.make_names_room.ensures.same
