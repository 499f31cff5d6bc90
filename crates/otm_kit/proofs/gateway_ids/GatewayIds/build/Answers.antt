use Rattle.std.proofs.Common.{◌≡◌, get_or, sym, ◌∙◌, ℕ, arith}
use Rattle.std.proofs.lemmas.List.{get_or_default}
use Rattle.std.proofs.lemmas.Bool.{eqb-true}
use Rattle.otm_kit.specs.Declarations.{gateway_place}
use Rattle.otm_kit.proofs.Finding.{firsts_found, firsts_new, places_all}
use Rattle.otm_kit.proofs.gateway_ids.GatewayIds.build.Goals as goal
use Rattle.otm_kit.proofs.gateway_ids.GatewayIds.build.Goals.{in-Some, in-None+in_ok-insert-in-None}

pub loop-place-preserved : goal.loop-place-preserved
loop-place-preserved c =
    let ids = c.args.ids.now in
    let place = c.loop-place.place in
    let id : ℕ = get_or ids place 0 in
    let inside = c.loop-place-test.true in
    let at : id ≡ get_or ids place id = get_or_default ids place 0 id inside in
    elim c.match-get.branch [
      | in-Some w ↦
          let found = sym (c.loop-place.invariant id) ∙ sym w.in-Some.ensures.value in
          rw w.places-is (λ q. c.loop-place.invariant q ∙ firsts_found q ids place id _ inside at (eqb-true q id) found)
      | in-None+in_ok-insert-in-None w ↦
          let none = sym (c.loop-place.invariant id) ∙ sym w.in-None.ensures.value in
          rw w.places-is (λ q. firsts_new q ids place id _ _ inside at (eqb-true q id) none (c.loop-place.invariant q) (w.in_ok-insert-in-None.ensures.updates.0 q))
    ]

pub returns : goal.returns
unfolding gateway_place
returns c = λ id. c.loop-place.invariant id ∙ places_all id c.args.ids.now c.loop-place.place (omega (arith, c.loop-place-test.false))
