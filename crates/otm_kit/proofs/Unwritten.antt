-- What stands where nothing was written.
use Rattle.std.proofs.Common.{ℕ, List, [], Option, refl}
use Rattle.std.proofs.KnownBytes.{Appends-nil}
use Rattle.script_kit.specs.Bytes.{AppendsFront}

pub nothing_written : (known : Option (List ℕ)) (text : List ℕ) → AppendsFront known known text
nothing_written known text = (text, ([], refl, Appends-nil known))
