use Rattle.std.proofs.Common.{ℕ, [], List, sym, subst, ◌∙◌}
use Rattle.std.proofs.lemmas.List.{append-nil}
use Rattle.page_kit.specs.Families.{IsClaimed}
use Rattle.page_kit.proofs.Claimed.{nothing_claimed}
use Rattle.page_kit.proofs.families.own_claims.Goals as goal

pub returns : goal.returns
returns c =
    let nothing = subst (λ (l : List (List ℕ)). IsClaimed [] l) (sym c.new-claimed.ensures.empty) nothing_claimed in
    subst (λ (l : List (List ℕ)). IsClaimed l c.claim.new.claimed.keys) (append-nil _ ∙ c.in_ok-own_names.ensures) (c.in_ok-claim.ensures [] nothing)
