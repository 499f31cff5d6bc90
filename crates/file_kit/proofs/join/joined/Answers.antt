use Rattle.std.proofs.Common.{◌≡◌, ◌∙◌, ℕ, List, Vec, Global, ap, arith, get_or, map, subst, take}
use Rattle.std.proofs.lemmas.Grind.{common_steps}
use Rattle.std.proofs.lemmas.Result.{err_from_is_err_and}
use Rattle.file_kit.specs.Contents.{IsRefusedAt, JoinsAt, Says}
use Rattle.file_kit.proofs.Joining.{all_have, refused_at, says_more}
use Rattle.file_kit.proofs.join.joined.Goals as goal

pub returns-in_err-join_file-clause-err : goal.returns-in_err-join_file-clause-err
returns-in_err-join_file-clause-err c =
    let items : Vec ℕ Global → List ℕ = λ f. f.items in
    let same : c.as_slice.result.now ≡ items (get_or c.args.files.now c.loop-place.place c.index-files-place.result) = c.as_slice.ensures.value ∙ ap items c.index-files-place.is in
    let p = err_from_is_err_and c.from_residual.result c.from_residual.ensures.1 in
    rw (p.1, p.2) (refused_at items c.args.files.now c.loop-place.place c.index-files-place.result c.loop-place.gateway.points _ c.loop-place-test.true c.loop-place.invariant.says
    (subst (λ (b : List ℕ). IsRefusedAt c.loop-place.place b c.in_err-join_file.field-0.0) same c.in_err-join_file.ensures.err))

pub loop-place-preserved : goal.loop-place-preserved
loop-place-preserved c =
    let items : Vec ℕ Global → List ℕ = λ f. f.items in
    let same : c.as_slice.result.now ≡ items (get_or c.args.files.now c.loop-place.place c.index-files-place.result) = c.as_slice.ensures.value ∙ ap items c.index-files-place.is in
    record {
      says = says_more items c.args.files.now c.loop-place.place c.index-files-place.result c.loop-place.gateway.points c.join_file.new.gateway.points c.loop-place-test.true c.loop-place.invariant.says
          (subst (λ (b : List ℕ). JoinsAt b c.loop-place.gateway.points c.join_file.new.gateway.points) same c.in_ok-join_file.ensures.ok);
      id = c.in_ok-join_file.ensures.id ∙ c.loop-place.invariant.id;
    }

pub returns-clause-whole : goal.returns-clause-whole
returns-clause-whole c =
    let items : Vec ℕ Global → List ℕ = λ f. f.items in
    let all : take c.loop-place.place c.args.files.now ≡ c.args.files.now = grind (arith, common_steps) in
    all_have _ c.loop-place.gateway.points (subst (λ (fs : List (Vec ℕ Global)). Says (map items fs) c.loop-place.gateway.points) all c.loop-place.invariant.says)
