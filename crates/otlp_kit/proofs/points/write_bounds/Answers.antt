use Rattle.std.proofs.Common.{◌≡◌, ℕ, ◌++◌, length, List, ap, ◌∙◌, rules}
use Rattle.std.specs.List.{flat_map}
use Rattle.std.proofs.lemmas.Result.{on_ok_weaker}
use Rattle.otlp_kit.specs.Doubles.{double}
use Rattle.otlp_kit.specs.Wire.{eight}
use Rattle.otlp_kit.proofs.Written.{closed, no_bounds, some_bounds}
use Rattle.otlp_kit.proofs.points.write_bounds.Goals as goal

pub returns-then-is_empty : goal.returns-then-is_empty
returns-then-is_empty c = no_bounds c.args.out.now.items c.args.bounds.now c.if-is_empty.ensures

pub returns : goal.returns
returns c =
    let out = c.args.out.now.items in
    let at : c.len-start.result ≡ length out = search rules in
    on_ok_weaker c.close_block.result
    (λ e. closed 7 c.len-start.result out c.write_doubles.new.out.items c.close_block.new.out.items (flat_map (λ z. eight (double z)) c.args.bounds.now) at c.in_ok-write_doubles.ensures e
    ∙ ap (λ (l : List ℕ). out ++ l) (some_bounds c.args.bounds.now c.if-is_empty.ensures))
    c.close_block.ensures
