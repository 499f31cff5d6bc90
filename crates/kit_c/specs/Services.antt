-- Services of which there are points, read by numbers.
use Rattle.std.specs.Prelude.{ℕ, List, slice_get, Option}
use Rattle.gateway_kit.specs.GatewayState.{GatewayState}
use Rattle.gateway_kit.specs.Listing.{held_services}
use Rattle.kit_c.specs.Items.{missing}
use Rattle.kit_c.specs.declared.fault.Fault.{Fault}

-- the service of a number, of those of which a gateway holds points
abbrev pub service_of : ℕ → GatewayState → Option (List ℕ)
service_of n g = slice_get (held_services g.points) n

-- there is none
abbrev pub service_fault : ℕ → GatewayState → Option Fault
service_fault n g = missing (service_of n g)
