use Rattle.std.proofs.Common.{IsUtf8, take, drop, map, ap, subst, sym, ◌∙◌}
use Rattle.std.specs.Char.{to_ascii_lowercase}
use Rattle.std.proofs.lemmas.Str.{IsUtf8-had}
use Rattle.std.proofs.lemmas.List.{take-map, drop-map}
use Rattle.attr_kit.proofs.LowerCase.{IsUtf8-lowered}
use Rattle.attr_kit.proofs.Padded.{zeros_lowered}
use Rattle.attr_kit.proofs.short_text.ShortText.into_ascii_lowercase.Goals as goal

pub invariant_of-result : goal.invariant_of-result
invariant_of-result c =
    let lowered = c.make_ascii_lowercase.ensures.after in
    let front = ap (take c.self.inside.len) lowered ∙ take-map to_ascii_lowercase c.self.inside.len c.self.inside.bytes in
    let text = IsUtf8-lowered _ (IsUtf8-had _ c.self.invariant.1) in
    let behind = ap (drop c.self.inside.len) lowered ∙ drop-map to_ascii_lowercase c.self.inside.len c.self.inside.bytes in
    (c.self.invariant.0, ∣ subst IsUtf8 (sym front) text ∣₁, behind ∙ ap (map to_ascii_lowercase) c.self.invariant.2 ∙ zeros_lowered _)

pub returns : goal.returns
returns c = ap (take c.self.inside.len) c.make_ascii_lowercase.ensures.after ∙ take-map _ c.self.inside.len c.self.inside.bytes ∙ ap (map to_ascii_lowercase) c.self.view_is
