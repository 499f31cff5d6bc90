use Rattle.std.proofs.Common.{refl, sym, subst, ◌∙◌, ◌++◌, ◌∷◌, []}
use Rattle.fleet_kit.proofs.Halts.{answers_more, not_none, pushed, told_err, told_full, told_ok, IsToldOf}
use Rattle.fleet_kit.specs.declared.halt.Halt.TheVariants.{NoMemory}
use Rattle.fleet_kit.proofs.halt.gather.Goals as goal

pub loop-result-preserved-then-is_err : goal.loop-result-preserved-then-is_err
loop-result-preserved-then-is_err g c = (
  (λ none. absurd (not_none c.loop-result.told _ c.first-told.result NoMemory refl c.first-told.ensures.none none)),
  subst (λ r. IsToldOf (c.loop-result.yielded ++ r ∷ []) c.first-told.result) (sym c.in-Ok.is)
      (told_full c.loop-result.yielded c.in-Ok.answer c.loop-result.told c.first-told.result c.first-told.ensures.first c.loop-result.invariant.1),
)

pub loop-result-preserved-else-is_err : goal.loop-result-preserved-else-is_err
loop-result-preserved-else-is_err g c = (
  answers_more c.loop-result.told c.loop-result.answers.items c.push.new.self.items c.loop-result.yielded c.in-Ok.answer c.in-Some.result c.in-Ok.is
      (pushed c.push.result _ _ c.push.new.self.items (sym c.is_err.ensures.value ∙ c.if-is_err.false) c.push.ensures.items) c.loop-result.invariant.0,
  subst (λ r. IsToldOf (c.loop-result.yielded ++ r ∷ []) c.loop-result.told) (sym c.in-Ok.is) (told_ok c.loop-result.yielded c.in-Ok.answer c.loop-result.told c.loop-result.invariant.1),
)

pub loop-result-preserved : goal.loop-result-preserved
loop-result-preserved g c = (
  (λ none. absurd (not_none c.loop-result.told _ c.first-told-in-Err.result c.in-Err.halt refl c.first-told-in-Err.ensures.none none)),
  subst (λ r. IsToldOf (c.loop-result.yielded ++ r ∷ []) c.first-told-in-Err.result) (sym c.in-Err.is)
      (told_err c.loop-result.yielded c.in-Err.halt c.loop-result.told c.first-told-in-Err.result c.first-told-in-Err.ensures.first c.loop-result.invariant.1),
)
