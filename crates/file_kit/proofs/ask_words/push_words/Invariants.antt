use Rattle.std.proofs.Common.{◌≡◌, ◌++◌, ◌∷◌, map, string_bytes, take}
use Rattle.std.specs.List.{flat_map}
use Rattle.file_kit.proofs.ask_words.push_words.Given as goal

abbrev pub invariant-loop-word : goal.invariant-loop-word
invariant-loop-word l = string_bytes l.line ≡ string_bytes l.fn.line ++ flat_map (λ word. 32 ∷ word) (map (λ w. w.now) (take l.word-index l.words))
