use Rattle.std.proofs.Common.{eqb, length, sym, arith}
use Rattle.std.proofs.lemmas.Bool.{eq-eqb}
use Rattle.std.proofs.lemmas.List.Sums.{position_or_len_is}
use Rattle.page_kit.proofs.Texts.{ne_false}
use Rattle.page_kit.proofs.units.slash_at.Goals as goal

pub returns-then-byte-eq47-clause-value : goal.returns-then-byte-eq47-clause-value
returns-then-byte-eq47-clause-value c =
    sym (position_or_len_is (λ b. eqb b 47) c.args.unit.now c.loop-place.place 0 (omega arith) (λ k h. ne_false _ _ (c.loop-place.invariant k h)) (λ h. eq-eqb _ 47 c.if-byte-eq47.true))

pub returns-clause-value : goal.returns-clause-value
returns-clause-value c =
    sym (position_or_len_is (λ b. eqb b 47) c.args.unit.now (length c.args.unit.now) 0 (omega arith) (λ k h. ne_false _ _ (c.loop-place.invariant k (omega arith))) (λ h. absurd (omega arith)))
