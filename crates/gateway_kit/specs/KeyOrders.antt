-- The order of whole keys is that of their parts, one after the other, and both parts' orders are total and tell all apart.
use Rattle.std.proofs.Common.{◌≡◌, ◌∙◌, [], refl, ap}
use Rattle.point_kit.specs.contracts.writer_id.WriterIdOrd.TheImpl as writers
use Rattle.point_kit.specs.declared.shape.Shape.TheVariants.{Gauge}
use Rattle.std.specs.declared.cmp.Ordering.{Ordering}
use Rattle.std.specs.declared.cmp.Ordering.TheVariants.{Less, Equal, Greater}
use Rattle.std.specs.Cmp.{IsTotalOrder}
use Rattle.std.specs.FinMap.{IsAntisymmetric}
use Rattle.std.specs.Ordering.{ordering_then, nat_cmp}
use Rattle.std.proofs.lemmas.Cmp.{on_total, then_total, nat_cmp_total, tied_itself}
use Rattle.attr_kit.specs.contracts.attr_set.AttrSetOrd.TheImpl.Laws as set_laws
use Rattle.point_kit.specs.contracts.stream.StreamOrd.TheImpl.Laws as stream_laws
use Rattle.point_kit.specs.contracts.writer_id.WriterIdOrd.TheImpl.Laws as writer_laws
use Rattle.point_kit.specs.declared.key.Key.{Key}
use Rattle.point_kit.specs.Orders.{key_cmp}
use Rattle.point_kit.proofs.OrderLaws.{key_exact}
use Rattle.gateway_kit.specs.Keys.{IncarnationKey, ItemKey, incarnation_cmp, item_cmp, whole_key}

then_assoc : (a b c : Ordering) → ordering_then a (ordering_then b c) ≡ ordering_then (ordering_then a b) c
then_assoc Less b c = refl
then_assoc Equal b c = refl
then_assoc Greater b c = refl

pub incarnation_total : IsTotalOrder incarnation_cmp
incarnation_total = then_total (on_total (λ (a : IncarnationKey). a.0) writer_laws.total-law) (on_total (λ (a : IncarnationKey). a.1) nat_cmp_total)

pub item_total : IsTotalOrder item_cmp
item_total = then_total (on_total (λ (b : ItemKey). b.0) stream_laws.total-law) (on_total (λ (b : ItemKey). b.1) set_laws.total-law)

pub compares : (a c : IncarnationKey) (b d : ItemKey) → key_cmp (whole_key a b) (whole_key c d) ≡ ordering_then (incarnation_cmp a c) (item_cmp b d)
compares a c b d = then_assoc ((writers.ghosts).cmp a.0 c.0) (nat_cmp a.1 c.1) (item_cmp b d)

first_equal : (r s : Ordering) → ordering_then r s ≡ Equal → r ≡ Equal
first_equal Less s e = e
first_equal Equal s e = refl
first_equal Greater s e = e

second_equal : (r s : Ordering) → r ≡ Equal → ordering_then r s ≡ s
second_equal r s e = ap (λ o. ordering_then o s) e

pub item_exact : IsAntisymmetric item_cmp
item_exact b d e = λ i. ((same i).stream, (same i).attrs)
  where
    any : IncarnationKey
    any = (record { service = []; instance = [] }, 0)

    same : whole_key any b ≡ whole_key any d
    same = key_exact (whole_key any b) (whole_key any d) (compares any any b d ∙ second_equal (incarnation_cmp any any) (item_cmp b d) (tied_itself incarnation_total any) ∙ e)

pub incarnation_exact : IsAntisymmetric incarnation_cmp
incarnation_exact a c e = λ i. ((same i).writer, (same i).start)
  where
    any : ItemKey
    any = (record { scope = []; name = []; unit = []; shape = Gauge }, [])

    same : whole_key a any ≡ whole_key c any
    same = key_exact (whole_key a any) (whole_key c any) (compares a c any any ∙ second_equal (incarnation_cmp a c) (item_cmp any any) e ∙ tied_itself item_total any)

-- each whole key has its two parts
pub split_key : (q : Key) → (a : IncarnationKey) × (b : ItemKey) × (whole_key a b ≡ q)
split_key q = ((q.writer, q.start), (q.stream, q.attrs), refl)
