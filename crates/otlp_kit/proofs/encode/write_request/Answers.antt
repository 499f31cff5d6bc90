use Rattle.std.proofs.Common.{◌≡◌, ◌++◌, length, List, ℕ, ap, ◌∙◌, rules}
use Rattle.std.proofs.lemmas.Result.{on_ok_weaker}
use Rattle.otlp_kit.specs.Request.{resource_metrics}
use Rattle.otlp_kit.proofs.Written.{closed, request_is}
use Rattle.otlp_kit.proofs.encode.write_request.Goals as goal

pub returns : goal.returns
returns c =
    let out = c.args.out.now.items in
    let at : c.len-start.result ≡ length out = search rules in
    on_ok_weaker c.close_block.result
    (λ e. closed 1 c.len-start.result out c.write_resource_metrics.new.out.items c.close_block.new.out.items (resource_metrics c.args.export.now) at c.in_ok-write_resource_metrics.ensures e
    ∙ ap (λ (l : List ℕ). out ++ l) (request_is c.args.export.now))
    c.close_block.ensures
