-- Numbers of a packed list, one after another.
use Rattle.std.proofs.Common.{◌≡◌, ℕ, suc, List, [], ◌∷◌, ◌++◌, take, drop, sym, ap, ◌∙◌, append_assoc}
use Rattle.std.specs.Int.{from_le_bytes, w64}
use Rattle.otlp_kit.specs.Contents.{eights}

pub packed_on : (whole items new bytes rest : List ℕ) (k j number : ℕ) → k ≡ suc j → items ++ eights k bytes ≡ whole → number ≡ from_le_bytes w64 (take 8 bytes) → rest ≡ drop 8 bytes → new ≡ items ++ number ∷ [] → new ++ eights j rest ≡ whole
packed_on whole items new bytes rest k j number e inv is gone new_is =
    ap (λ (l : List ℕ). l ++ eights j rest) new_is ∙ append_assoc items (number ∷ []) (eights j rest)
    ∙ ap (λ (n : ℕ). items ++ n ∷ eights j rest) is
    ∙ ap (λ (l : List ℕ). items ++ from_le_bytes w64 (take 8 bytes) ∷ eights j l) gone
    ∙ ap (λ (m : ℕ). items ++ eights m bytes) (sym e) ∙ inv
