use Rattle.std.proofs.Common.{◌≡◌, ◌∙◌, ◌<◌, ◌≤◌, ◌+◌, ◌++◌, [], arith, rules, refl, take, length, length-append, append-nil, true, vec_len}
use Rattle.std.specs.Prelude.{is_ok}
use Rattle.std.proofs.lemmas.Grind.{common_steps}
use Rattle.std.proofs.lemmas.List.{length-take-le, take-append-le}
use Rattle.std.proofs.KnownBytes.{Consumes-trans, Consumes-whole}
use Rattle.script_kit.proofs.BytesLemmas.{count_behind, reads_more}
use Rattle.script_kit.specs.declared.fault.ScriptFault.TheVariants as faults
use Rattle.script_kit.proofs.input.read_script.Goals as goal

pub returns-in-Ok-eq0-clause-whole : goal.returns-in-Ok-eq0-clause-whole
returns-in-Ok-eq0-clause-whole g c =
    let got = rw c.in-Ok-eq0.field-0-test at c.in-Ok-eq0.ensures.bytes.0 in
    let all = Consumes-trans _ _ _ c.loop-turn.bytes.items [] c.loop-turn.invariant.read got in
    let room : 0 < length c.read.new.buf = grind (arith, common_steps) in
    Consumes-whole _ _ c.loop-turn.bytes.items (λ xs. c.loop-turn.bytes.items ≡ xs) (rw append-nil at all) (c.in-Ok-eq0.ensures.bytes.1 c.in-Ok-eq0.field-0-test room) refl

pub loop-turn-preserved : goal.loop-turn-preserved
loop-turn-preserved g c =
    let stored : is_ok c.extend_from_slice.result ≡ true = search rules in
    let len : vec_len c.extend_from_slice.new.self ≡ vec_len c.loop-turn.bytes + c.in-Ok.count = grind (arith, common_steps) in
    let fits : c.in-Ok.count ≤ length c.read.new.buf = search rules in
    let items : c.extend_from_slice.new.self.items ≡ c.loop-turn.bytes.items ++ take c.in-Ok.count c.read.new.buf = rw take-append-le at (rw stored at c.extend_from_slice.ensures.items) in
    record { some = omega (arith, len); few = omega arith; read = rw items (Consumes-trans _ _ _ _ _ c.loop-turn.invariant.read c.in-Ok.ensures.bytes.0) }

pub returns-then-read-gt-MAX_BYTES-clause-few : goal.returns-then-read-gt-MAX_BYTES-clause-few
returns-then-read-gt-MAX_BYTES-clause-few g c =
    let fits : c.in-Ok.count ≤ length c.read.new.buf = search rules in
    let len : length (take c.in-Ok.count c.read.new.buf) ≤ c.in-Ok.count = grind (arith, common_steps) in
    (c.loop-turn.bytes.items ++ take c.in-Ok.count c.read.new.buf, Consumes-trans _ _ _ _ _ c.loop-turn.invariant.read c.in-Ok.ensures.bytes.0, grind (arith, common_steps, len))

pub returns-then-is_err-clause-few : goal.returns-then-is_err-clause-few
returns-then-is_err-clause-few g c =
    let fits : c.in-Ok.count ≤ length c.read.new.buf = search rules in
    let taken = Consumes-trans _ _ _ _ _ c.loop-turn.invariant.read c.in-Ok.ensures.bytes.0 in
    let len : length (c.loop-turn.bytes.items ++ take c.in-Ok.count c.read.new.buf) ≡ c.len-in-Ok.result + c.in-Ok.count =
    length-append c.loop-turn.bytes.items (take c.in-Ok.count c.read.new.buf) ∙ grind (arith, length-take-le c.in-Ok.count c.read.new.buf fits, c.len-in-Ok.ensures) in
    reads_more _ _ _ _ (c.len-in-Ok.result + c.in-Ok.count) 1048577 taken len (omega (arith, c.if-read-gt-MAX_BYTES.false)) c.unkept.ensures.few

pub returns-then-is_err-clause-long : goal.returns-then-is_err-clause-long
returns-then-is_err-clause-long g c = λ is.
    let told : c.unkept.result ≡ faults.TooLong = cc in
    let fits : c.in-Ok.count ≤ length c.read.new.buf = search rules in
    let taken = Consumes-trans _ _ _ _ _ c.loop-turn.invariant.read c.in-Ok.ensures.bytes.0 in
    let len : length (c.loop-turn.bytes.items ++ take c.in-Ok.count c.read.new.buf) ≡ c.len-in-Ok.result + c.in-Ok.count =
    length-append c.loop-turn.bytes.items (take c.in-Ok.count c.read.new.buf) ∙ grind (arith, length-take-le c.in-Ok.count c.read.new.buf fits, c.len-in-Ok.ensures) in
    count_behind _ _ _ (λ n. 1048576 < n) taken (rw len (c.unkept.ensures.long told))

pub returns-then-is_err-clause-memory : goal.returns-then-is_err-clause-memory
returns-then-is_err-clause-memory g c = λ is.
    let told : c.unkept.result ≡ faults.NoMemory = cc in
    let fits : c.in-Ok.count ≤ length c.read.new.buf = search rules in
    let taken = Consumes-trans _ _ _ _ _ c.loop-turn.invariant.read c.in-Ok.ensures.bytes.0 in
    let len : length (c.loop-turn.bytes.items ++ take c.in-Ok.count c.read.new.buf) ≡ c.len-in-Ok.result + c.in-Ok.count =
    length-append c.loop-turn.bytes.items (take c.in-Ok.count c.read.new.buf) ∙ grind (arith, length-take-le c.in-Ok.count c.read.new.buf fits, c.len-in-Ok.ensures) in
    count_behind _ _ _ (λ n. n ≤ 1048576) taken (rw len (c.unkept.ensures.memory told))

pub returns-then-is_err-clause-read_fault : goal.returns-then-is_err-clause-read_fault
returns-then-is_err-clause-read_fault g c = λ is.
    let told : c.unkept.result ≡ faults.ReadFault = cc in
    let fits : c.in-Ok.count ≤ length c.read.new.buf = search rules in
    let taken = Consumes-trans _ _ _ _ _ c.loop-turn.invariant.read c.in-Ok.ensures.bytes.0 in
    let len : length (c.loop-turn.bytes.items ++ take c.in-Ok.count c.read.new.buf) ≡ c.len-in-Ok.result + c.in-Ok.count =
    length-append c.loop-turn.bytes.items (take c.in-Ok.count c.read.new.buf) ∙ grind (arith, length-take-le c.in-Ok.count c.read.new.buf fits, c.len-in-Ok.ensures) in
    reads_more _ _ _ _ (c.len-in-Ok.result + c.in-Ok.count) 1048576 taken len c.if-read-gt-MAX_BYTES.false (c.unkept.ensures.read_fault told)
