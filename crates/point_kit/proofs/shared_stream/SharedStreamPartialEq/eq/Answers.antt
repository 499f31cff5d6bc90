use Rattle.std.proofs.Common.{◌≡◌, ◌∙◌, ap, sym, rules, true, false, Bool, nat_eq, refl, true≢false, ℕ}
use Rattle.std.specs.Cmp.{unsigned_Decides}
use Rattle.point_kit.specs.Exact.{exact_streams}
use Rattle.point_kit.specs.SharedStream.{stream_hash}
use Rattle.point_kit.specs.declared.stream.Stream.{Stream}
use Rattle.point_kit.specs.contracts.stream.StreamPartialEq.TheImpl as equal
use Rattle.point_kit.proofs.shared_stream.SharedStreamPartialEq.eq.Goals as goal

-- streams whose hashes differ are not equal
apart : (s t : Stream) (m n : ℕ) → m ≡ stream_hash s → n ≡ stream_hash t → nat_eq m n ≡ false → nat_eq m n ≡ (equal.ghosts).eq s t
apart s t m n p q f = f ∙ by ((equal.ghosts).eq s t) refl
  where
    by : (r : Bool) → (equal.ghosts).eq s t ≡ r → false ≡ r
    by false e = refl
    by true e = absurd (true≢false (sym ((unsigned_Decides m n).1 (p ∙ ap stream_hash (exact_streams s t e) ∙ sym q)) ∙ f))

pub returns-else-self-other : goal.returns-else-self-other
returns-else-self-other c =
    let p : c.self.inside.hash ≡ stream_hash c.args.self.now = c.self.invariant ∙ ap stream_hash c.self.view_is in
    let q : c.other.inside.hash ≡ stream_hash c.args.other.now = c.other.invariant ∙ ap stream_hash c.other.view_is in
    let f : nat_eq c.self.inside.hash c.other.inside.hash ≡ false = search (rules, c.if-self-other.false) in
    apart c.args.self.now c.args.other.now c.self.inside.hash c.other.inside.hash p q f
