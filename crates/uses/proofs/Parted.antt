-- How many points of each incarnation a gateway holds that took one of each of two.
use Rattle.std.proofs.Common.{arith, ◌≡◌, ◌∙◌, ℕ, ◌+◌, Bool, true, false, ◌&&◌, cond, List, [], ◌∷◌, map, filter, length, refl, sym, ap, subst}
use Rattle.std.proofs.lemmas.List.{length-map}
use Rattle.std.specs.Cmp.{tied_itself}
use Rattle.std.specs.FinMap.{entries, from_entries, get-from_entries, same_map}
use Rattle.std.specs.FinMap.Entries.{find, is_sorted}
use Rattle.std.specs.Ordering.{is_eq, is_lt, nat_cmp, ordering_then}
use Rattle.std.specs.declared.cmp.Ordering.{Ordering}
use Rattle.std.specs.declared.cmp.Ordering.TheVariants.{Less}
use Rattle.bytes_kit.proofs.Gathering.{gather_more, gathered}
use Rattle.gateway_kit.proofs.Joining.{state_alone, under}
use Rattle.gateway_kit.specs.KeyOrders.{compares}
use Rattle.gateway_kit.specs.Keys.{incarnation_cmp, item_cmp, keyed_cell_of, whole_key}
use Rattle.gateway_kit.specs.Queries.{incarnation_points, is_of_incarnation, part_points}
use Rattle.gateway_kit.specs.declared.part_item.PartItem.{PartItem}
use Rattle.point_kit.proofs.OrderLaws.{key_exact, key_total}
use Rattle.point_kit.specs.Exports.{Points, join_points, state}
use Rattle.point_kit.specs.Orders.{key_cmp}
use Rattle.point_kit.specs.contracts.writer_id.WriterIdOrd.TheImpl as writers
use Rattle.point_kit.specs.contracts.writer_id.WriterIdOrd.TheImpl.Laws as writer_laws
use Rattle.point_kit.specs.declared.cell.Cell.{Cell}
use Rattle.point_kit.specs.declared.cell.Held.TheVariants.{One}
use Rattle.point_kit.specs.declared.export.Export.{Export}
use Rattle.point_kit.specs.declared.export_point.ExportPoint.{ExportPoint}
use Rattle.point_kit.specs.declared.key.Key.{Key}
use Rattle.point_kit.specs.declared.payload.Payload.{Payload}
use Rattle.point_kit.specs.declared.writer_id.WriterId.{WriterId}

abbrev KeyedPoint : Type 0
KeyedPoint = Key × Cell Payload

-- incarnations of one writer compare as their starts do
by_start : (w v : WriterId) (s t : ℕ) → v ≡ w → incarnation_cmp (w, s) (v, t) ≡ nat_cmp s t
by_start w v s t same =
    ap (λ (x : WriterId). ordering_then ((writers.ghosts).cmp w x) (nat_cmp s t)) same ∙ ap (λ (o : Ordering). ordering_then o (nat_cmp s t)) (tied_itself writer_laws.total-law w)

-- a point of an export, under its key
abbrev point_of : Export → ExportPoint → KeyedPoint
point_of e p = (whole_key (e.writer, e.start) (p.stream, p.attrs), record { time = e.time; held = One p.payload })

-- the state of an export of one point
alone_is : (e : Export) (p : ExportPoint) → e.points ≡ p ∷ [] → state (e ∷ []) ≡ from_entries (point_of e p ∷ [])
alone_is e p is =
    same_map key_total key_exact _ _ (λ q.
    state_alone e q
    ∙ ap (λ (ps : List ExportPoint). find key_cmp q (under (e.writer, e.start) (map (λ (p : ExportPoint). ((p.stream, p.attrs), record { time = e.time; held = One p.payload })) ps))) is
    ∙ sym (get-from_entries key_total (point_of e p ∷ []) q))

the_point : (ps : List ExportPoint) → length ps ≡ 1 → (p : ExportPoint) × (ps ≡ p ∷ [])
the_point [] one = absurd (omega (arith, one))
the_point (p ∷ []) one = (p, refl)
the_point (p ∷ q ∷ ps) one = absurd (omega (arith, one))

-- how many of two pass a test
kept : (f : KeyedPoint → Bool) (x y : KeyedPoint) (a b : Bool) → f x ≡ a → f y ≡ b → length (filter f (x ∷ y ∷ [])) ≡ cond a 1 0 + cond b 1 0
kept f x y a b fx fy =
    ap (λ (u : Bool). length (cond u (x ∷ cond (f y) (y ∷ []) []) (cond (f y) (y ∷ []) []))) fx ∙ ap (λ (u : Bool). length (cond a (x ∷ cond u (y ∷ []) []) (cond u (y ∷ []) []))) fy ∙ by a b
  where
    by : (a b : Bool) → length (cond a (x ∷ cond b (y ∷ []) []) (cond b (y ∷ []) [])) ≡ cond a 1 0 + cond b 1 0
    by true true = refl
    by true false = refl
    by false true = refl
    by false false = refl

module _ (e f : Export) (same : f.writer ≡ e.writer) (early : e.start ≡ 100) (late : f.start ≡ 400) where
  listed : (p q : ExportPoint) → e.points ≡ p ∷ [] → f.points ≡ q ∷ [] → entries (join_points (state (e ∷ [])) (state (f ∷ []))) ≡ point_of e p ∷ point_of f q ∷ []
  listed p q here there =
      let less : key_cmp (point_of e p).0 (point_of f q).0 ≡ Less =
      compares (e.writer, e.start) (f.writer, f.start) (p.stream, p.attrs) (q.stream, q.attrs)
      ∙ ap (λ (o : Ordering). ordering_then o (item_cmp (p.stream, p.attrs) (q.stream, q.attrs)))
      (by_start e.writer f.writer e.start f.start same ∙ ap (λ n. nat_cmp n f.start) early ∙ ap (λ n. nat_cmp 100 n) late) in
      let sorted : is_sorted key_cmp (point_of e p ∷ point_of f q ∷ []) ≡ true = ap (λ (o : Ordering). (is_lt o && true) && (true && true)) less in
      ap (λ (m : Points). entries (join_points m (state (f ∷ [])))) (alone_is e p here)
      ∙ ap (λ (m : Points). entries (join_points (from_entries (point_of e p ∷ [])) m)) (alone_is f q there)
      ∙ ap (λ (m : Points). entries m) (gather_more (from_entries (point_of e p ∷ [])) (point_of e p ∷ []) (point_of f q).0 (point_of f q).1 [] refl sorted)
      ∙ gathered (point_of e p ∷ point_of f q ∷ []) sorted

  parts : (s : ℕ) (items : List PartItem) → length e.points ≡ 1 → length f.points ≡ 1
      → part_points e.writer s items ≡ incarnation_points e.writer s (join_points (state (e ∷ [])) (state (f ∷ []))) → length items ≡ cond (is_eq (nat_cmp s 100)) 1 0 + cond (is_eq (nat_cmp s 400)) 1 0
  parts s items one other is =
      let here = the_point e.points one in
      let there = the_point f.points other in
      let test : KeyedPoint → Bool = λ x. is_of_incarnation e.writer s x.0 in
      sym (length-map items (λ (i : PartItem). (whole_key (e.writer, s) (keyed_cell_of i).0, i.cell)))
      ∙ ap (λ (l : List KeyedPoint). length l) is
      ∙ ap (λ (l : List KeyedPoint). length (filter test l)) (listed here.0 there.0 here.1 there.1)
      ∙ kept test (point_of e here.0) (point_of f there.0) (is_eq (nat_cmp s 100)) (is_eq (nat_cmp s 400))
      (ap is_eq (by_start e.writer e.writer s e.start refl ∙ ap (λ n. nat_cmp s n) early)) (ap is_eq (by_start e.writer f.writer s f.start same ∙ ap (λ n. nat_cmp s n) late))

  -- the same of a gateway that holds both
  pub counted : (s : ℕ) (items : List PartItem) (w : WriterId) (m : Points) → (length e.points ≡ 1) × (length f.points ≡ 1) → w ≡ e.writer → m ≡ join_points (state (e ∷ [])) (state (f ∷ []))
      → part_points w s items ≡ incarnation_points w s m → length items ≡ cond (is_eq (nat_cmp s 100)) 1 0 + cond (is_eq (nat_cmp s 400)) 1 0
  counted s items w m points of_one held is =
      parts s items points.0 points.1 (subst (λ (v : WriterId). part_points v s items ≡ incarnation_points v s (join_points (state (e ∷ [])) (state (f ∷ [])))) of_one (is ∙ ap (incarnation_points w s) held))
