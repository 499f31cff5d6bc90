use Rattle.std.proofs.Common.{◌≡◌, true, not, subst, refl, sym, ap, ◌∙◌}
use Rattle.std.proofs.lemmas.Bool.{false≢true}
use Rattle.std.proofs.lemmas.Result.{err_from_is_err_and}
use denote.Enum.Bare.{sameb}
use Rattle.bytes_kit.specs.contracts.keys.Shared.{the_type}
use Rattle.bytes_kit.specs.declared.keys.Shared.{Shared}
use Rattle.bytes_kit.specs.declared.keys.Shared.TheVariants as shares
use Rattle.bytes_kit.specs.KeyForms.{key_before}
use Rattle.bytes_kit.proofs.Behind.{no_rest, no_such}
use Rattle.bytes_kit.proofs.keys.read_key.Goals as goal

itself : (x : Shared) → sameb the_type x x ≡ true
itself shares.Nothing = refl
itself shares.Incarnation = refl
itself shares.Stream = refl

no_other : (x y : Shared) → x ≡ y → true ≡ not (sameb the_type x y) → ⊥
no_other x y e h =
    let one : true ≡ not (sameb the_type x x) = subst (λ (z : Shared). true ≡ not (sameb the_type x z)) (sym e) h in
    absurd (false≢true (sym (one ∙ ap not (itself x))))

pub returns-in_err-key-clause-found : goal.returns-in_err-key-clause-found
returns-in_err-key-clause-found c =
    let p = err_from_is_err_and c.from_residual-in_err-key.result c.from_residual-in_err-key.ensures.1 in
    rw (p.1, p.2) (λ ne. no_rest (c.args.history.now, key_before c.args.before) c.args.reader.now.rest c.read_shared.new.reader.rest c.in_ok-shared.shared c.in_ok-shared.ensures.found (c.in_err-key.ensures.err ne))

pub returns-then-ne-clause-found : goal.returns-then-ne-clause-found
returns-then-ne-clause-found c =
    λ _. no_such (c.args.history.now, key_before c.args.before) c.args.reader.now.rest c.read_shared.new.reader.rest c.read_rest.new.reader.rest c.in_ok-shared.shared c.in_ok-key.key c.in_ok-shared.ensures.found c.in_ok-key.ensures.ok c.in_ok-key.ensures.inherits
    (λ e. no_other c.common.result c.in_ok-shared.shared (c.common.ensures ∙ e) c.if-ne.ensures)
