use Rattle.std.proofs.Common.{◌≡◌, ◌<◌, ◌≤◌, ◌++◌, ℕ, List, length, None, Some, ap, ◌∙◌, arith, rules}
use Rattle.otlp_kit.specs.Refusals.{early_fault}
use Rattle.otlp_kit.specs.Request.{request}
use Rattle.otlp_kit.proofs.Refused.{refused_early, never_memory, too_long, no_fault}
use Rattle.otlp_kit.proofs.encode.encode_otlp.Goals as goal

pub returns-in-Some-clause-err : goal.returns-in-Some-clause-err
returns-in-Some-clause-err c =
    let at : Some c.in-Some.fault ≡ early_fault c.args.export.now = search rules in
    λ _. refused_early c.args.export.now c.in-Some.fault at

pub returns-in-Some-clause-no_memory : goal.returns-in-Some-clause-no_memory
returns-in-Some-clause-no_memory c =
    let at : Some c.in-Some.fault ≡ early_fault c.args.export.now = search rules in
    λ is. absurd (never_memory c.args.export.now c.in-Some.fault at is)

pub returns-then-len-gt-MOST_BYTES-clause-err : goal.returns-then-len-gt-MOST_BYTES-clause-err
returns-then-len-gt-MOST_BYTES-clause-err c =
    let none : early_fault c.args.export.now ≡ None = search rules in
    let whole : c.write_request.new.out.items ≡ request c.args.export.now = c.in_ok-write_request.ensures ∙ ap (λ (l : List ℕ). l ++ request c.args.export.now) c.new-bytes.ensures.items in
    let size : length c.write_request.new.out.items ≡ c.len.result = search rules in
    let long : 2147483647 < length (request c.args.export.now) = omega (arith, ap length whole, size) in
    λ _. too_long c.args.export.now none long

pub returns-clause-ok : goal.returns-clause-ok
returns-clause-ok c =
    let none : early_fault c.args.export.now ≡ None = search rules in
    let whole : c.write_request.new.out.items ≡ request c.args.export.now = c.in_ok-write_request.ensures ∙ ap (λ (l : List ℕ). l ++ request c.args.export.now) c.new-bytes.ensures.items in
    let size : length c.write_request.new.out.items ≡ c.len.result = search rules in
    let short : length (request c.args.export.now) ≤ 2147483647 = omega (arith, ap length whole, size) in
    no_fault c.args.export.now none short
