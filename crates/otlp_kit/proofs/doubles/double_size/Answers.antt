use Rattle.std.proofs.Common.{◌≡◌, ◌-◌, arith}
use Rattle.std.specs.Int.{leading_zeros, w64}
use Rattle.otlp_kit.specs.Doubles.{bit_length}
use Rattle.otlp_kit.proofs.Doubled.{digits, digits_fit, bits_fit, value_is}
use Rattle.otlp_kit.proofs.doubles.double_size.Goals as goal

pub overflow_cast-result-3 : goal.overflow_cast-result-3
overflow_cast-result-3 c = digits_fit _ (digits c.args.m c.requires (omega arith)).most

pub overflow_sub-result : goal.overflow_sub-result
overflow_sub-result c = (digits c.args.m c.requires (omega arith)).least

pub overflow_add-result-2 : goal.overflow_add-result-2
overflow_add-result-2 c = omega (arith, bits_fit (63 - leading_zeros w64 c.args.m) _ (omega arith) (digits c.args.m c.requires (omega arith)).most)

pub returns-clause-value : goal.returns-clause-value
returns-clause-value c =
    let exponent : 63 - leading_zeros w64 c.args.m ≡ bit_length c.args.m - 1 = omega arith in
    value_is c.args.m (63 - leading_zeros w64 c.args.m) _ exponent (omega arith) (digits c.args.m c.requires (omega arith)).exact

pub returns-clause-bound : goal.returns-clause-bound
returns-clause-bound c = bits_fit (63 - leading_zeros w64 c.args.m) _ (omega arith) (digits c.args.m c.requires (omega arith)).most
