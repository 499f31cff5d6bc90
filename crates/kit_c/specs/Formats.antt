-- What others read: OTLP, and pages for Prometheus.
use Rattle.std.specs.Prelude.{◌≡◌, ℕ, Bool, true, false, List, [], ◌∷◌, map, Option, Some, None, Result, Ok, Err}
use Rattle.std.specs.List.{list_any}
use Rattle.std.specs.Option.{option_map}
use Rattle.std.specs.Result.{result_err}
use Rattle.std.specs.Str.{bytes_eq}
use Rattle.archive_kit.specs.Tombstones.{tombstones}
use Rattle.attr_kit.specs.Refusing.{first, wherever}
use Rattle.gateway_kit.specs.GatewayState.{GatewayState}
use Rattle.otlp_kit.specs.Reading.{Said, exports_read, said_of}
use Rattle.otlp_kit.specs.Refusals.{otlp_fault}
use Rattle.otlp_kit.specs.declared.request_fault.RequestFault.{RequestFault}
use Rattle.point_kit.specs.declared.export.Export.{Export}
use Rattle.kit_c.specs.Calls.{full_fault, if_any, of_one}
use Rattle.kit_c.specs.Faults.{text_fault}
use Rattle.kit_c.specs.declared.fault.Fault.{Fault}
use Rattle.kit_c.specs.declared.fault.Fault.TheVariants as faults

-- why an export has no request
abbrev pub request_fault : Export → Option Fault
request_fault e = option_map (λ f. faults.Otlp f) (otlp_fault e)

-- why bytes are no request that can be read
abbrev pub reading_fault : List ℕ → Option Fault
reading_fault bytes = option_map (λ f. faults.Request f) (result_err (exports_read bytes))

-- what an export says has a point in the scope of tombstones
abbrev pub has_reserved : Said → Bool
has_reserved e = list_any (λ p. bytes_eq p.stream.scope tombstones.scope) e.points

-- the first of those that bytes bring which has one
abbrev pub reserved_fault : Result (List Said) RequestFault → Option Fault
reserved_fault (Ok es) = wherever (λ k. faults.ReservedPoint k) has_reserved es
reserved_fault (Err f) = None

-- why bytes bring no exports: they are no request that can be read, or one that would hide points of others
abbrev pub bringing_fault : List ℕ → Option Fault
bringing_fault bytes = first (reading_fault bytes ∷ reserved_fault (exports_read bytes) ∷ [])

-- a handle has the exports that bytes bring
abbrev pub HasBrought : List ℕ → Option (List Export) → Type 0
HasBrought bytes (Some es) = exports_read bytes ≡ Ok (map said_of es)
HasBrought bytes None = ⊥

-- the service of a page, if it is of one alone
abbrev pub asked_service : Bool → List ℕ → Option (List ℕ)
asked_service true service = Some service
asked_service false service = None

-- the scope that a page leaves out: that of tombstones, unless these are asked for
abbrev pub left_out_scope : Bool → Option (List ℕ)
left_out_scope true = None
left_out_scope false = Some tombstones.scope

-- why a handle that is to be filled gets no page of a service of what a gateway holds
abbrev pub page_fault : Option (List ℕ) → List ℕ → Option GatewayState → Option Fault
page_fault text service gateway = first (full_fault text ∷ text_fault service ∷ of_one gateway if_any ∷ [])
