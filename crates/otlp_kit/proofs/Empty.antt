-- A request without bytes.
use Rattle.std.proofs.Common.{◌≡◌, ℕ, List, [], Ok, refl, ap, ◌∙◌}
use Rattle.otlp_kit.specs.Fields.{message}
use Rattle.otlp_kit.specs.Reading.{exports_in, exports_read}
use Rattle.otlp_kit.specs.Walks.{walk}

nothing_said : exports_read [] ≡ Ok []
unfolding exports_read exports_in message walk
nothing_said = refl

pub no_exports : (bytes : List ℕ) → bytes ≡ [] → exports_read bytes ≡ Ok []
no_exports bytes e = ap exports_read e ∙ nothing_said
