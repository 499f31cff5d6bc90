-- Why points make no export.
use Rattle.std.specs.Prelude.{ℕ, ◌&&◌, nat_le, List, [], ◌∷◌, Bool, Option}
use Rattle.attr_kit.specs.Refusing.{first, when, wherever, repeat}
use Rattle.std.specs.Option.{option_map}
use Rattle.point_kit.specs.Payload.{wrong_shape, wrong_buckets, wrong_count, negative, wrong_range}
use Rattle.point_kit.specs.declared.export_point.ExportPoint.{ExportPoint}
use Rattle.point_kit.specs.declared.export_fault.ExportFault.{ExportFault}
use Rattle.point_kit.specs.declared.export_fault.ExportFault.TheVariants as faults
use Rattle.point_kit.specs.contracts.stream.StreamPartialEq.TheImpl as streams
use Rattle.attr_kit.specs.contracts.attr_set.AttrSetPartialEq.TheImpl as sets

-- two points of one stream and one set of attributes
abbrev pub same_key : ExportPoint → ExportPoint → Bool
same_key p q = (streams.ghosts).eq p.stream q.stream && (sets.ghosts).eq p.attrs q.attrs

-- the refusals in the order of their numbers, each at its least place
abbrev pub export_faults : ℕ → ℕ → List ExportPoint → List (Option ExportFault)
export_faults start time ps =
    (when (nat_le time start) faults.TimeNotAfterStart
    ∷ option_map (λ i. faults.KeyTwice i) (repeat same_key ps)
    ∷ wherever (λ i. faults.WrongShape i) (λ p. wrong_shape p.stream.shape p.payload) ps
    ∷ wherever (λ i. faults.BucketCount i) (λ p. wrong_buckets p.stream.shape p.payload) ps
    ∷ wherever (λ i. faults.CountMismatch i) (λ p. wrong_count p.payload) ps
    ∷ wherever (λ i. faults.NegativeTotal i) (λ p. negative p.stream.shape p.payload) ps
    ∷ wherever (λ i. faults.BadRange i) (λ p. wrong_range p.payload) ps
    ∷ [])

-- the first refusal that fits
unfoldable pub export_fault : ℕ → ℕ → List ExportPoint → Option ExportFault
export_fault start time ps = first (export_faults start time ps)
