-- `==` of payloads and cells is an equivalence that tells all of them apart.
use Rattle.std.proofs.Common.{◌≡◌, Bool, true, ◌&&◌, eqb, refl}
use Rattle.std.proofs.lemmas.Bool.{eq-eqb}
use Rattle.std.specs.Cmp.{IsEquivalence}
use Rattle.attr_kit.specs.Exact.{IsExact}
use Rattle.point_kit.specs.Equality.{payload_eq, cell_eq}
use Rattle.point_kit.specs.Exact.{exact_payloads, exact_cells}
use Rattle.point_kit.specs.contracts.payload.Payload as payload_type
use Rattle.point_kit.specs.contracts.payload.PayloadPartialEq.TheImpl as payloads
use Rattle.point_kit.specs.contracts.payload.PayloadEq.TheImpl.Laws as payload_laws
use Rattle.point_kit.specs.declared.cell.Cell.{Cell}
use Rattle.point_kit.specs.declared.cell.Held.{Held}
use Rattle.point_kit.specs.declared.cell.Held.TheVariants.{One, Conflict}
use Rattle.point_kit.specs.declared.payload.Payload.{Payload}

pub payload_equivalence : IsEquivalence payload_eq
payload_equivalence = payload_laws.laws-law

pub payload_exact : IsExact payload_eq
payload_exact = exact_payloads

pub cell_exact : IsExact cell_eq
cell_exact = exact_cells payload_type.the_row payloads.ghosts payloads.dict exact_payloads

both_true : (a b : Bool) → a ≡ true → b ≡ true → (a && b) ≡ true
both_true a b p q = rw (p, q) refl

held_itself : (t : _) (h : Held Payload) → cell_eq (record { time = t; held = h }) (record { time = t; held = h }) ≡ true
held_itself t (One p) = both_true (eqb t t) (payload_eq p p) (eq-eqb t t refl) (payload_equivalence.refl p)
held_itself t Conflict = both_true (eqb t t) true (eq-eqb t t refl) refl

-- a cell is equal to itself
pub cell_itself : (c : Cell Payload) → cell_eq c c ≡ true
cell_itself c = held_itself c.time c.held
