-- Cells that no ask asks for may be left out.
use Rattle.std.proofs.Common.{◌≡◌, ℕ, ◌+◌, Bool, true, false, cond, ◌&&◌, ◌||◌, List, [], ◌∷◌, map, filter, Some, None, refl, sym, ap, ◌∙◌}
use mathlib.Core.Bool.{true≢false}
use Rattle.std.specs.List.{list_any, cons_option}
use Rattle.std.specs.Option.{option_map}
use Rattle.std.specs.Ordering.{eq_by_cmp}
use Rattle.point_kit.specs.Orders.{key_cmp}
use Rattle.point_kit.specs.declared.cell.Cell.{Cell}
use Rattle.point_kit.specs.declared.key.Key.{Key}
use Rattle.point_kit.specs.declared.payload.Payload.{Payload}
use Rattle.schedule_kit.specs.Rows.{value_of, is_one, is_conflict}
use Rattle.rollup_kit.specs.Asks.{Attributes, attributes_cmp, asks, group}
use Rattle.rollup_kit.specs.Newest.{latest, as_point}
use Rattle.rollup_kit.specs.Parts.{no_parts, plus_parts, parts_of}
use Rattle.rollup_kit.specs.Rollups.{gauge_of, gauges_in}
use Rattle.rollup_kit.specs.Standing.{group_of, row_among, is_row, group_after}
use Rattle.rollup_kit.specs.declared.ask.Ask.{Ask}
use Rattle.rollup_kit.proofs.PartLaws.{parts_add_up, counts_add_up}
use Rattle.rollup_kit.proofs.Snoc.{counts}

module _ (ask : Ask) (q : Attributes) (p : Key × Cell Payload → Bool) (covers : (e : Key × Cell Payload) → asks ask e.0 ≡ true → p e ≡ true) where
  not_asked : (e : Key × Cell Payload) → p e ≡ false → asks ask e.0 ≡ false
  not_asked e out = elim (asks ask e.0) as (λ b. asks ask e.0 ≡ b → b ≡ false) [ true ↦ λ t. absurd (true≢false (sym (covers e t) ∙ out)) | false ↦ λ t. refl ] refl

  not_counted : (e : Key × Cell Payload) → p e ≡ false → counts ask q e ≡ false
  not_counted e out = ap (λ b. b && eq_by_cmp attributes_cmp q (group ask e.0)) (not_asked e out)

  abbrev few : List (Key × Cell Payload) → List (Key × Cell Payload)
  few es = filter p es

  left_out : (x : Key × Cell Payload) (es : List (Key × Cell Payload)) → p x ≡ false → row_among ask (x ∷ es) q ≡ row_among ask es q
  left_out x es t = λ i. record {
    total = (ap (λ b. plus_parts (cond b (value_of no_parts parts_of x.1.held) no_parts) (row_among ask es q).total) (not_counted x t) ∙ parts_add_up.zero_left (row_among ask es q).total) i;
    points = (ap (λ b. cond b (is_one x.1.held) 0 + (row_among ask es q).points) (not_counted x t) ∙ counts_add_up.zero_left (row_among ask es q).points) i;
    conflicts = (ap (λ b. cond b (is_conflict x.1.held) 0 + (row_among ask es q).conflicts) (not_counted x t) ∙ counts_add_up.zero_left (row_among ask es q).conflicts) i;
  }

  kept_in : (x : Key × Cell Payload) (es : List (Key × Cell Payload)) → row_among ask (few es) q ≡ row_among ask es q → row_among ask (x ∷ few es) q ≡ row_among ask (x ∷ es) q
  kept_in x es rest = λ i. record {
    total = plus_parts (cond (counts ask q x) (value_of no_parts parts_of x.1.held) no_parts) (rest i).total;
    points = cond (counts ask q x) (is_one x.1.held) 0 + (rest i).points;
    conflicts = cond (counts ask q x) (is_conflict x.1.held) 0 + (rest i).conflicts;
  }

  row-filter : (es : List (Key × Cell Payload)) → row_among ask (few es) q ≡ row_among ask es q
  row-filter [] = refl
  row-filter (x ∷ es) =
      let rest = row-filter es in
      elim (p x) as (λ b. p x ≡ b → row_among ask (cond b (x ∷ few es) (few es)) q ≡ row_among ask (x ∷ es) q) [
        | true ↦ λ t. kept_in x es rest
        | false ↦ λ t. rest ∙ sym (left_out x es t)
      ] refl

  abbrev any : List (Key × Cell Payload) → Bool
  any es = list_any (eq_by_cmp attributes_cmp q) (map (λ e. group ask e.0) es)

  is_row-filter : (es : List (Key × Cell Payload)) → is_row ask (few es) q ≡ is_row ask es q
  is_row-filter [] = refl
  is_row-filter (x ∷ es) =
      let rest = is_row-filter es in
      elim (p x) as (λ b. p x ≡ b → is_row ask (cond b (x ∷ few es) (few es)) q ≡ is_row ask (x ∷ es) q) [
        | true ↦ λ t. elim (asks ask x.0) as (λ a. any (cond a (x ∷ filter (λ e. asks ask e.0) (few es)) (filter (λ e. asks ask e.0) (few es))) ≡ any (cond a (x ∷ filter (λ e. asks ask e.0) es) (filter (λ e. asks ask e.0) es))) [
          | true ↦ ap (λ b. eq_by_cmp attributes_cmp q (group ask x.0) || b) rest
          | false ↦ rest
        ]
        | false ↦ λ t. rest ∙ sym (ap (λ a. any (cond a (x ∷ filter (λ e. asks ask e.0) es) (filter (λ e. asks ask e.0) es))) (not_asked x t))
      ] refl

  gauges-filter : (es : List (Key × Cell Payload)) → gauges_in ask (few es) q ≡ gauges_in ask es q
  gauges-filter [] = refl
  gauges-filter (x ∷ es) =
      let rest = gauges-filter es in
      elim (p x) as (λ b. p x ≡ b → gauges_in ask (cond b (x ∷ few es) (few es)) q ≡ gauges_in ask (x ∷ es) q) [
        | true ↦ λ t. ap (cons_option (cond (counts ask q x) (gauge_of x.0 x.1.time x.1.held) None)) rest
        | false ↦ λ t. rest ∙ sym (ap (λ b. cons_option (cond b (gauge_of x.0 x.1.time x.1.held) None) (gauges_in ask es q)) (not_counted x t))
      ] refl

  -- what stands after the cells that are left stands after all
  pub group_after-filter : (n : ℕ) (es : List (Key × Cell Payload)) → group_after ask n (filter p es) q ≡ group_after ask n es q
  group_after-filter n es = λ i. cond (is_row-filter es i) (Some (group_of n (row-filter es i) (option_map as_point (latest key_cmp (gauges-filter es i))))) None
