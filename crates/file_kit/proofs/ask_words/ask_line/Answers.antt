use Rattle.std.proofs.Common.{rules, arith, ◌≡◌, ◌++◌, ◌∷◌, ◌∙◌, ◌-◌, ap, Bor, codes, drop, length, map, slice_get, Some, string_bytes, take, ℕ, List}
use Rattle.std.proofs.lemmas.List.{length-drop, take_all}
use Rattle.file_kit.proofs.Pieces.{shape_in_words}
use Rattle.file_kit.specs.AskWords.{spoken}
use Rattle.script_kit.specs.Shapes.{script_shape}
use Rattle.file_kit.proofs.ask_words.ask_line.Goals as goal

pub returns : goal.returns
returns c =
    let words = c.args.words.now in
    let now : Bor (List ℕ) → List ℕ = λ w. w.now in
    let there : slice_get words 3 ≡ Some c.in-Some.shape.now = search rules in
    let begun : string_bytes c.in_ok-line.line ≡ spoken (codes "report 1") (map now (take 3 words)) = search rules in
    let more : string_bytes c.push_word.new.line ≡ string_bytes c.in_ok-line.line ++ (32 ∷ c.as_str.result.now) = search rules in
    let shape : c.as_str.result.now ≡ script_shape (now c.in-Some.shape.now) = search rules in
    let rest : take (length words - 4) (drop 4 words) ≡ drop 4 words = take_all (length words - 4) (drop 4 words) (omega (arith, length-drop 4 words)) in
    let all : string_bytes c.push_words.new.line ≡ spoken (string_bytes c.push_word.new.line) (map now (take (length words - 4) (drop 4 words))) = search rules in
    all
    ∙ ap (λ (l : List (Bor (List ℕ))). spoken (string_bytes c.push_word.new.line) (map now l)) rest
    ∙ ap (λ (l : List ℕ). spoken l (map now (drop 4 words))) (more ∙ ap (λ (l : List ℕ). l ++ (32 ∷ c.as_str.result.now)) begun
    ∙ ap (λ (s : List ℕ). spoken (codes "report 1") (map now (take 3 words)) ++ (32 ∷ s)) shape)
    ∙ shape_in_words now (codes "report 1") words c.in-Some.shape.now there
