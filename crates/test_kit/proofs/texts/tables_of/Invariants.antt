use Rattle.std.proofs.Common.{◌≡◌, take, string_bytes}
use Rattle.test_kit.specs.Texts.{tables_of}
use Rattle.test_kit.proofs.texts.tables_of.Given as goal

abbrev pub invariant-loop-export : goal.invariant-loop-export
invariant-loop-export l = string_bytes l.text ≡ tables_of l.ask (take l.export-index l.exports)
