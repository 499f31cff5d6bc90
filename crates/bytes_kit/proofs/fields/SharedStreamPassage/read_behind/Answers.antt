use Rattle.std.proofs.Common.{◌≡◌, ◌∷◌, ◌++◌, List, ℕ, sym, ap, ◌∙◌}
use Rattle.bytes_kit.proofs.PastRefusing.{again, past_again, reads_other}
use Rattle.bytes_kit.proofs.fields.SharedStreamPassage.read_behind.Goals as goal

pub returns-in-Some-clause-found : goal.returns-in-Some-clause-found
returns-in-Some-clause-found c =
    let at : c.args.reader.now.rest ≡ 0 ∷ c.byte.new.self.rest = cc (c.in_ok-byte.ensures.ok, c.in-0.is) in
    at ∙ ap (λ (l : List ℕ). l ++ c.byte.new.self.rest) (sym (again c.args.history.now c.in-Some.stream (sym c.in_ok-stream-in-0.ensures.value ∙ c.in-Some.is)))

pub returns-in-Some-clause-history : goal.returns-in-Some-clause-history
returns-in-Some-clause-history c = sym (past_again c.args.history.now c.in-Some.stream (sym c.in_ok-stream-in-0.ensures.value ∙ c.in-Some.is))

pub returns-in-1-clause-found : goal.returns-in-1-clause-found
returns-in-1-clause-found c =
    let at : c.args.reader.now.rest ≡ 1 ∷ c.byte.new.self.rest = cc (c.in_ok-byte.ensures.ok, c.in-1.is) in
    reads_other c.args.history.now c.args.reader.now.rest c.byte.new.self.rest c.read_other.new.reader.rest c.read_other.result at c.read_other.ensures.ok c.read_other.ensures.other c.read_other.ensures.err
