use Rattle.std.proofs.Common.{◌||◌, ◌+◌, Bool, drop, sym, ap, ◌∙◌}
use Rattle.std.proofs.lemmas.List.{drop_all}
use Rattle.page_kit.specs.Families.{are_claimed}
use Rattle.page_kit.proofs.Claimed.{claim_found}
use Rattle.page_kit.proofs.claims.is_claimed.Goals as goal

pub returns-then-contains : goal.returns-then-contains
returns-then-contains c = λ names told.
    let i = c.loop-claim.claim-index in
    let rest = are_claimed names (drop (i + 1) c.args.claims.now) in
    sym (sym (c.loop-claim.invariant names told) ∙ claim_found names c.args.claimed.now.keys c.args.claims.now i c.claim-item.result c.contains.result c.loop-claim-test.true c.claim-item.is told c.contains.ensures
    ∙ ap (λ (b : Bool). b || rest) c.if-contains.true)

pub loop-claim-preserved : goal.loop-claim-preserved
loop-claim-preserved c = λ names told.
    let i = c.loop-claim.claim-index in
    let rest = are_claimed names (drop (i + 1) c.args.claims.now) in
    sym (claim_found names c.args.claimed.now.keys c.args.claims.now i c.claim-item.result c.contains.result c.loop-claim-test.true c.claim-item.is told c.contains.ensures
    ∙ ap (λ (b : Bool). b || rest) c.if-contains.false) ∙ c.loop-claim.invariant names told

pub returns : goal.returns
returns c = λ names told. sym (ap (are_claimed names) (drop_all c.loop-claim.claim-index c.args.claims.now c.loop-claim-test.false)) ∙ c.loop-claim.invariant names told
