-- Bodies: bytes that do not begin with one, and the sizes of those that are written.
use Rattle.std.proofs.Common.{◌≡◌, ℕ, List, ◌∷◌, ◌++◌, sym, ap, subst, ◌∙◌, append_assoc, arith}
use Rattle.std.specs.FinMap.{entries}
use Rattle.gateway_kit.specs.GatewayState.{GatewayState}
use Rattle.gossip_kit.specs.Bodies.{cells_of, delta_of, ack_of}
use Rattle.gossip_kit.specs.declared.message.Body.{Body}
use Rattle.gossip_kit.specs.declared.message.Body.TheVariants as messages
use Rattle.bytes_kit.specs.Fits.{IsNumber}
use Rattle.bytes_kit.specs.Format.{varint}
use Rattle.bytes_kit.specs.Laws.{varint_code}
use Rattle.bytes_kit.specs.MessageFits.{IsCarried, IsCells, IsId, IsListed, IsMessageFields}
use Rattle.bytes_kit.specs.Messages.{body_bytes, body_bytes_of, cells, message_fields}
use Rattle.bytes_kit.specs.Reading.{NoneAt}
use Rattle.bytes_kit.specs.declared.carried.Carried.TheVariants as bodies
use Rattle.bytes_kit.proofs.Soundness.{sorted_of}
use Rattle.bytes_kit.proofs.Tags.{first, rest_of}

-- a delta's number, and then no cells
pub no_delta : (mid last : List ℕ) (number : ℕ) → mid ≡ varint number ++ last → NoneAt cells IsCells last → NoneAt body_bytes IsCarried (1 ∷ mid)
unfolding first rest_of
no_delta mid last number is none (bodies.Whole es) rest fit e = absurd (omega (arith, ap first e))
no_delta mid last number is none (bodies.Delta n es) rest fit e =
    let tail : mid ≡ (varint n ++ cells es) ++ rest = ap rest_of e in
    let both = varint_code number n last (cells es ++ rest) (sym is ∙ tail ∙ append_assoc (varint n) (cells es) rest) in
    none es rest fit.1 both.1
no_delta mid last number is none (bodies.Ack n) rest fit e = absurd (omega (arith, ap first e))

pub whole_fits : (b : Body) (g : GatewayState) → b ≡ messages.Whole g → IsListed (entries g.points) → IsCarried (body_bytes_of (cells_of b) (delta_of b) (ack_of b))
whole_fits b g is fit = subst (λ (x : Body). IsCarried (body_bytes_of (cells_of x) (delta_of x) (ack_of x))) (sym is) (fit, sorted_of g.points)

pub delta_fits : (b : Body) (number : ℕ) (g : GatewayState) → b ≡ messages.Delta number g → IsNumber number → IsListed (entries g.points) → IsCarried (body_bytes_of (cells_of b) (delta_of b) (ack_of b))
delta_fits b number g is small fit = subst (λ (x : Body). IsCarried (body_bytes_of (cells_of x) (delta_of x) (ack_of x))) (sym is) (small, (fit, sorted_of g.points))

-- ---- senders and receivers

-- a sender, and then no receiver
pub no_receiver : (bytes mid : List ℕ) (sender : ℕ) → bytes ≡ varint sender ++ mid → NoneAt varint IsId mid → NoneAt message_fields IsMessageFields bytes
no_receiver bytes mid sender is none s rest fit e =
    let both = varint_code sender s.0 mid ((varint s.1 ++ body_bytes s.2) ++ rest) (sym is ∙ e ∙ append_assoc (varint s.0) (varint s.1 ++ body_bytes s.2) rest) in
    none s.1 (body_bytes s.2 ++ rest) fit.1.0 (both.1 ∙ append_assoc (varint s.1) (body_bytes s.2) rest)

-- both, and then no body
pub no_body : (bytes mid last : List ℕ) (sender receiver : ℕ) → bytes ≡ varint sender ++ mid → mid ≡ varint receiver ++ last → NoneAt body_bytes IsCarried last → NoneAt message_fields IsMessageFields bytes
no_body bytes mid last sender receiver is at none s rest fit e =
    let both = varint_code sender s.0 mid ((varint s.1 ++ body_bytes s.2) ++ rest) (sym is ∙ e ∙ append_assoc (varint s.0) (varint s.1 ++ body_bytes s.2) rest) in
    let more = varint_code receiver s.1 last (body_bytes s.2 ++ rest) (sym at ∙ both.1 ∙ append_assoc (varint s.1) (body_bytes s.2) rest) in
    none s.2 rest fit.1.1 more.1
