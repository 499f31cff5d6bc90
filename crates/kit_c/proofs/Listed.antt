-- What the listing of services gives by a number.
use Rattle.std.proofs.Common.{◌≡◌, ℕ, Option, refl}
use denote.Ref.{Bor}
use Rattle.std.proofs.lemmas.Iterator.Consumers.{YieldsList-from_first, nth_from_yields_List}
use Rattle.std.specs.Iterator.{SkipsThenYields, YieldsFirstBy}
use Rattle.std.specs.List.{slice_get}
use Rattle.std.specs.Option.{option_map}
use Rattle.gateway_kit.specs.Listing.{services_left}
use Rattle.gateway_kit.specs.declared.listing.Services.{Services}

pub nth_service : (s t : Services) (told : Option (Bor _)) (n : ℕ)
    → SkipsThenYields (YieldsFirstBy (λ (x : Bor _). x.now) services_left) s n told t → option_map (λ x. x.now) told ≡ slice_get (services_left s) n
nth_service s t told n skips = nth_from_yields_List told t n skips (YieldsList-from_first (λ x. x.now) services_left (services_left s) refl)
