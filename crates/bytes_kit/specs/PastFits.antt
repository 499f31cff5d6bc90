-- Texts and streams that come for the first time.
use Rattle.std.specs.Prelude.{◌≡◌, ℕ, List, false, None}
use Rattle.point_kit.specs.declared.stream.Stream.{Stream}
use Rattle.bytes_kit.specs.Fits.{IsText, IsStream}
use Rattle.bytes_kit.specs.Past.{Past, place_of, is_last}

-- a text that has no place
abbrev pub IsNewText : Past → List ℕ → Type 0
IsNewText p t = IsText t × (place_of p.texts t ≡ None)

-- a stream that is not the last, or not light
abbrev pub IsOtherStream : Past → Stream → Type 0
IsOtherStream p s = IsStream s × (is_last p.stream s ≡ false)
