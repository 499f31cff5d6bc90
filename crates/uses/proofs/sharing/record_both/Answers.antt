use Rattle.std.proofs.Common.{rules, ◌≡◌, ◌∙◌, []}
use Rattle.turn_kit.specs.Public.{mine, joined, number}
use Rattle.uses.specs.Sharing.{changes}
use Rattle.uses.proofs.Weighed.{both_weigh}
use Rattle.uses.proofs.sharing.record_both.Goals as goal

pub returns-clause-all : goal.returns-clause-all
returns-clause-all g c =
    let s = c.in_ok-seat.seat in
    let u = c.in_ok-second.field-0 in
    let own : mine s ≡ changes c.args.here.now = search rules in
    let theirs : mine u ≡ changes c.args.there.now = search rules in
    let alone : joined s ≡ [] = search rules in
    let rest : joined u ≡ [] = search rules in
    let joins = c.join.ensures.value in
    λ f. both_weigh f (number c.join.new.seat) (number u) (mine c.join.new.seat) (changes c.args.here.now) (mine u) (changes c.args.there.now)
    (joined c.join.new.seat) (joined s) (joined u) (joins.kept.1 ∙ own) theirs alone rest joins.gains
