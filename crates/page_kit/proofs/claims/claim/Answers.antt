use Rattle.std.proofs.Common.{◌≡◌, ℕ, [], ◌∷◌, ◌++◌, List, length, sym, ap, subst, ◌∙◌, append_assoc}
use Rattle.std.proofs.lemmas.List.{append-nil}
use Rattle.std.specs.Vec.Iter.{into_iter_items, into_iter_len}
use Rattle.page_kit.specs.Families.{IsClaimed}
use Rattle.page_kit.proofs.Ended.{ended, went_on}
use Rattle.page_kit.proofs.Claimed.{claimed_more}
use Rattle.page_kit.proofs.claims.claim.Goals as goal

pub loop-claim-init : goal.loop-claim-init
loop-claim-init c =
    let gives = c.into_iter-claim-iterator.ensures.into_iter_gives in
    record {
      all = sym gives.0;
      len = gives.1 ∙ c.args.claims.ok.0 ∙ ap length (sym gives.0);
      claimed = λ names told. told;
    }

pub loop-claim-preserved : goal.loop-claim-preserved
loop-claim-preserved c =
    let left = into_iter_items c.next.new.self in
    let steps : into_iter_items c.loop-claim.claim-iterator ≡ c.in-Some.claim ∷ left = c.in-Some.ensures.steps.0 in
    record {
      all = c.loop-claim.invariant.all ∙ ap (λ (l : List (List ℕ)). c.loop-claim.yielded ++ l) steps ∙ sym (append_assoc c.loop-claim.yielded (c.in-Some.claim ∷ []) left);
      len = went_on (into_iter_items c.loop-claim.claim-iterator) left c.in-Some.claim (into_iter_len c.loop-claim.claim-iterator) (into_iter_len c.next.new.self) c.loop-claim.invariant.len steps c.in-Some.ensures.steps.1;
      claimed = λ names told. claimed_more c.loop-claim.yielded names c.loop-claim.claimed.keys c.insert.new.self.keys c.in-Some.claim (c.loop-claim.invariant.claimed names told) c.in_ok-insert.ensures.updates.0;
    }

pub returns : goal.returns
returns c = λ names told.
    let none : into_iter_items c.loop-claim.claim-iterator ≡ [] = ended (into_iter_items c.loop-claim.claim-iterator) (into_iter_len c.loop-claim.claim-iterator) c.loop-claim.invariant.len c.in-None.ensures.steps.0 in
    let all : c.args.claims.items ≡ c.loop-claim.yielded = c.loop-claim.invariant.all ∙ ap (λ (l : List (List ℕ)). c.loop-claim.yielded ++ l) none ∙ append-nil c.loop-claim.yielded in
    subst (λ (l : List (List ℕ)). IsClaimed (l ++ names) c.loop-claim.claimed.keys) (sym all) (c.loop-claim.invariant.claimed names told)
