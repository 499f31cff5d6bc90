use Rattle.std.proofs.Common.{◌≡◌, ◌==◌, lit<, length, false, refl}
use Rattle.std.specs.List.{position_or_len, list_any}
use Rattle.std.proofs.lemmas.Str.Pattern.{split_once_first}
use Rattle.script_kit.specs.Pieces.{cut}
use Rattle.script_kit.proofs.ListLemmas.{none_any}
use Rattle.script_kit.proofs.pieces.cut_at_colon.Goals as goal

pub returns-in-None : goal.returns-in-None
unfolding cut
returns-in-None c =
    let at : position_or_len (λ b. b == 58) c.args.word.now ≡ length c.args.word.now = rw c.in-None.is at (split_once_first 58 c.args.word.now c.split_once.result c.split_once.ensures.cases (lit< tt)) in
    let none : list_any (λ b. b == 58) c.args.word.now ≡ false = none_any (λ b. b == 58) c.args.word.now at in
    rw none refl
