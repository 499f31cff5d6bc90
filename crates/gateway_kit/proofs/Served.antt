-- The points of some writers are those of their incarnations.
use Rattle.std.proofs.Common.{◌≡◌, Bool, true, false, cond, List, [], ◌∷◌, ◌++◌, map, filter, refl, sym, ap, ◌∙◌}
use mathlib.Core.List.{map-map}
use Rattle.std.specs.FinMap.{entries}
use Rattle.point_kit.specs.declared.cell.Cell.{Cell}
use Rattle.point_kit.specs.declared.key.Key.{Key}
use Rattle.point_kit.specs.declared.payload.Payload.{Payload}
use Rattle.point_kit.specs.declared.writer_id.WriterId.{WriterId}
use Rattle.shelf_kit.specs.Walks.{walk_left}
use Rattle.shelf_kit.specs.declared.walk.Walk.{Walk}
use Rattle.gateway_kit.specs.Changing.{KeyedCell}
use Rattle.std.proofs.Common.{Option, Some, Bor}
use Rattle.gateway_kit.specs.declared.part_item.PartItem.{PartItem}
use Rattle.gateway_kit.specs.declared.points.Points.{Points}
use Rattle.gateway_kit.specs.Keys.{IncarnationKey, whole_key, keyed_cell_of}
use Rattle.gateway_kit.specs.IncarnationState.{IncarnationState}
use Rattle.gateway_kit.specs.Incarnations.{all_points}
use Rattle.gateway_kit.specs.Queries.{part_points}
use Rattle.gateway_kit.specs.Walks.{items_left, is_asked, points_left}

-- all entries of an incarnation are of its key
pub filter_own : (asked : IncarnationKey → Bool) (a : IncarnationKey) (es : List KeyedCell) (rest : List (Key × Cell Payload)) → filter (λ e. asked (e.0.writer, e.0.start)) (map (λ e. (whole_key a e.0, e.1)) es ++ rest) ≡ cond (asked a) (map (λ e. (whole_key a e.0, e.1)) es) [] ++ filter (λ e. asked (e.0.writer, e.0.start)) rest
filter_own asked a [] rest = elim (asked a) as (λ b. filter (λ e. asked (e.0.writer, e.0.start)) rest ≡ cond b [] [] ++ filter (λ e. asked (e.0.writer, e.0.start)) rest) [ true ↦ refl | false ↦ refl ]
filter_own asked a (e ∷ es) rest =
    elim (asked a) as (λ b. filter (λ f. asked (f.0.writer, f.0.start)) (map (λ f. (whole_key a f.0, f.1)) es ++ rest) ≡ cond b (map (λ f. (whole_key a f.0, f.1)) es) [] ++ filter (λ f. asked (f.0.writer, f.0.start)) rest → cond b ((whole_key a e.0, e.1) ∷ filter (λ f. asked (f.0.writer, f.0.start)) (map (λ f. (whole_key a f.0, f.1)) es ++ rest)) (filter (λ f. asked (f.0.writer, f.0.start)) (map (λ f. (whole_key a f.0, f.1)) es ++ rest)) ≡ cond b ((whole_key a e.0, e.1) ∷ map (λ f. (whole_key a f.0, f.1)) es) [] ++ filter (λ f. asked (f.0.writer, f.0.start)) rest) [
      | true ↦ λ h. ap (λ l. (whole_key a e.0, e.1) ∷ l) h
      | false ↦ λ h. h
    ] (filter_own asked a es rest)

-- and so of its writer
pub filter_incarnation : (asked : WriterId → Bool) (a : IncarnationKey) (es : List KeyedCell) (rest : List (Key × Cell Payload)) → filter (λ e. asked e.0.writer) (map (λ e. (whole_key a e.0, e.1)) es ++ rest) ≡ cond (asked a.0) (map (λ e. (whole_key a e.0, e.1)) es) [] ++ filter (λ e. asked e.0.writer) rest
filter_incarnation asked a es rest = filter_own (λ b. asked b.0) a es rest

pub filter_all : {A : Type 0} (xs : List A) → filter (λ x. true) xs ≡ xs
filter_all [] = refl
filter_all (x ∷ xs) = ap (λ l. x ∷ l) (filter_all xs)

-- an incarnation is passed on to
pub passed : (old : Points) (here : Option (Bor IncarnationState × Bor (List PartItem))) (first : IncarnationState) (others : Walk IncarnationState) → items_left old.here ≡ [] → walk_left old.ahead ≡ first ∷ walk_left others → items_left here ≡ cond (is_asked old.service first.writer) (map (λ e. (whole_key (first.writer, first.start) e.0, e.1)) (entries first.cells)) [] → points_left old ≡ points_left (record { here = here; ahead = others; service = old.service })
passed old here first others none ahead now =
    (λ i. none i ++ filter (λ e. is_asked old.service e.0.writer) (all_points (ahead i)))
    ∙ filter_incarnation (is_asked old.service) (first.writer, first.start) (entries first.cells) (all_points (walk_left others))
    ∙ ap (λ l. l ++ filter (λ e. is_asked old.service e.0.writer) (all_points (walk_left others))) (sym now)

-- the items of an incarnation, as points under their whole keys
pub items_under : (a : IncarnationKey) (items : List PartItem) (es : List KeyedCell) → map keyed_cell_of items ≡ es → part_points a.0 a.1 items ≡ map (λ e. (whole_key a e.0, e.1)) es
items_under a items es is = sym (map-map (λ (e : KeyedCell). (whole_key a e.0, e.1)) keyed_cell_of items) ∙ ap (map (λ e. (whole_key a e.0, e.1))) is

-- and as they are lent
pub lent : (p : IncarnationState) (items : Bor (List PartItem)) (bor : Bor IncarnationState) → bor.now ≡ p → map keyed_cell_of items.now ≡ entries p.cells → items_left (Some (bor, items)) ≡ map (λ e. (whole_key (p.writer, p.start) e.0, e.1)) (entries p.cells)
lent p items bor is es = ap (λ (q : IncarnationState). part_points q.writer q.start items.now) is ∙ items_under (p.writer, p.start) items.now (entries p.cells) es

pub lent_when : {A : Type 0} (asked wanted : Bool) (here all : List A) → asked ≡ true → asked ≡ wanted → here ≡ all → here ≡ cond wanted all []
lent_when asked wanted here all taken same is = is ∙ ap (λ b. cond b all []) (sym taken ∙ same)

pub lent_unless : {A : Type 0} (asked wanted : Bool) (here all : List A) → asked ≡ false → asked ≡ wanted → here ≡ [] → here ≡ cond wanted all []
lent_unless asked wanted here all left same is = is ∙ ap (λ b. cond b all []) (sym left ∙ same)
