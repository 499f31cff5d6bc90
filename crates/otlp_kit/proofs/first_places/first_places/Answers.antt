use Rattle.std.proofs.Common.{◌≡◌, ℕ, List, Option, Some, Bor, cond, unwrap_or, ap, ◌∙◌, arith}
use Rattle.std.proofs.lemmas.Grind.{common_steps}
use Rattle.otlp_kit.specs.Walks.{first_place}
use Rattle.otlp_kit.proofs.FirstPlaces.{is_text, first_found, seen_more}
use Rattle.otlp_kit.proofs.first_places.first_places.Goals as goal

pub loop-place-preserved : goal.loop-place-preserved
loop-place-preserved c =
    let texts = c.args.texts.now in
    let place = c.loop-place.place in
    let text : List ℕ = c.index-texts-place.result in
    let lent : Bor (List ℕ) = record { ref_ptr = c.args.texts.ref_ptr; now = text } in
    let first = c.unwrap_or-first.ensures ∙ ap (λ (o : Option ℕ). unwrap_or o place) (c.copied.ensures ∙ c.get.ensures.value ∙ c.loop-place.invariant.seen lent) in
    let found : c.unwrap_or-first.result ≡ first_place texts text = first ∙ first_found texts place text c.loop-place-test.true c.index-texts-place.is in
    record {
      places = grind (arith, common_steps, found);
      seen = λ q.
          c.in_ok-insert.ensures.updates.0 q
          ∙ (λ j. cond (is_text text q.now) (Some (first j)) (c.loop-place.invariant.seen q j))
          ∙ seen_more texts place text c.loop-place-test.true c.index-texts-place.is q.now;
    }
