-- `==` tells all instruments apart.
use Rattle.std.specs.Prelude.{refl}
use Rattle.attr_kit.specs.Exact.{IsExact, exact_through, exact_pairs, exact_texts}
use Rattle.plan_kit.specs.declared.instrument.Kind.TheVariants.{Counter, UpDown, Gauge, Histogram}
use Rattle.plan_kit.specs.contracts.instrument.KindPartialEq.TheImpl as kinds
use Rattle.plan_kit.specs.contracts.instrument.InstrumentPartialEq.TheImpl as instruments

pub exact_kinds : IsExact (kinds.ghosts).eq
exact_kinds Counter Counter e = refl
exact_kinds UpDown UpDown e = refl
exact_kinds Gauge Gauge e = refl
exact_kinds Histogram Histogram e = refl
exact_kinds a b e = cc

pub exact_instruments : IsExact (instruments.ghosts).eq
exact_instruments =
    exact_through (λ i. (i.scope, (i.name, (i.unit, i.kind)))) (λ p. record { scope = p.0; name = p.1.0; unit = p.1.1.0; kind = p.1.1.1 }) (λ _. refl)
    (exact_pairs exact_texts (exact_pairs exact_texts (exact_pairs exact_texts exact_kinds)))
