-- What a gateway's points, or those of one service, come to.
use Rattle.std.proofs.Common.{◌≡◌, ℕ, ◌≤◌, Bool, true, List, length, filter, Some, sym, ap, ◌∙◌, arith}
use Rattle.std.proofs.lemmas.Bool.{and_parts}
use Rattle.std.specs.FinMap.{FinMap, entries, entries_sorted, len, len-entries}
use Rattle.std.specs.FinMap.Entries.{is_sorted, is_sorted-where_key}
use Rattle.point_kit.specs.Orders.{key_cmp}
use Rattle.point_kit.specs.declared.cell.Cell.{Cell}
use Rattle.point_kit.specs.declared.key.Key.{Key}
use Rattle.point_kit.specs.declared.payload.Payload.{Payload}
use Rattle.rollup_kit.specs.Standing.{Stands}
use Rattle.rollup_kit.specs.Walks.{Rows}
use Rattle.rollup_kit.specs.Asks.{asks, is_of_service}
use Rattle.gateway_kit.specs.Walks.{is_of}
use Rattle.std.specs.Prelude.{count_by}
use Rattle.std.proofs.lemmas.List.Sums.{length-filter, count_by-le-length}
use Rattle.gateway_kit.proofs.Entries.{as_true}
use Rattle.rollup_kit.specs.declared.ask.Ask.{Ask}
use Rattle.rollup_kit.proofs.Filtered.{group_after-filter}

-- all points are in order
pub all_sorted : (state : FinMap key_cmp (Cell Payload)) → is_sorted key_cmp (entries state) ≡ true
all_sorted state = as_true _ (entries_sorted state)

-- and so are some
pub some_sorted : (state : FinMap key_cmp (Cell Payload)) (p : Key → Bool) → is_sorted key_cmp (filter (λ e. p e.0) (entries state)) ≡ true
some_sorted state p = as_true _ (is_sorted-where_key key_cmp p (entries state) (entries_sorted state))

-- those that are not asked for may be left out
pub stands_whole : (ask : Ask) (n : ℕ) (es : List (Key × Cell Payload)) (groups : Rows) (p : Key → Bool) → ((k : Key) → asks ask k ≡ true → p k ≡ true) → Stands ask n (filter (λ e. p e.0) es) groups → Stands ask n es groups
stands_whole ask n es groups p covers stands q = stands q ∙ group_after-filter ask q (λ e. p e.0) (λ e asked. covers e.0 asked) n es

-- what is asked for is of the service
pub of_service : (ask : Ask) (service : List ℕ) → ask.service ≡ Some service → (k : Key) → asks ask k ≡ true → is_of service k.writer ≡ true
of_service ask service is k asked = ap (λ s. is_of_service s k.writer) (sym is) ∙ (and_parts _ _ ((and_parts _ _ asked).1)).0

-- some points are no more than all
pub all_few : (state : FinMap key_cmp (Cell Payload)) (es : List (Key × Cell Payload)) → es ≡ entries state → length es ≤ len state
all_few state es is = let long : length es ≡ length (entries state) = ap length is in let all : len state ≡ length (entries state) = len-entries state in omega arith

pub some_few : (state : FinMap key_cmp (Cell Payload)) (p : Key → Bool) (es : List (Key × Cell Payload)) → es ≡ filter (λ e. p e.0) (entries state) → length es ≤ len state
some_few state p es is =
    let long : length es ≡ count_by (λ e. p e.0) (entries state) = ap length is ∙ length-filter (λ e. p e.0) (entries state) in
    let fewer : count_by (λ e. p e.0) (entries state) ≤ length (entries state) = count_by-le-length (λ e. p e.0) (entries state) in
    let all : len state ≡ length (entries state) = len-entries state in
    omega arith
