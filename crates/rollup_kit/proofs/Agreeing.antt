-- The rows of writers depend on which entries each has.
use Rattle.std.proofs.Common.{◌≡◌, ◌⊎◌, inl, inr, ℕ, ℤ, ◌+◌, ◌<◌, List, length, ap, arith}
use Rattle.agg_kit.specs.Entries.{Entry}
use Rattle.point_kit.specs.declared.key.Key.{Key}
use Rattle.rollup_kit.specs.Rollups.{recorded_rows}
use Rattle.rollup_kit.specs.declared.ask.Ask.{Ask}
use Rattle.schedule_kit.specs.Members.{In}
use Rattle.schedule_kit.specs.Rows.{values_fed, keys_fed}
use Rattle.schedule_kit.specs.Taken.{incarnations_from}
use Rattle.rollup_kit.proofs.Collected.{from_in}
use Rattle.rollup_kit.proofs.FedMixed.{within-mixed}
use Rattle.rollup_kit.proofs.NamesMixed.{values-mixed, names-mixed}
use Rattle.rollup_kit.proofs.Regrouped.{blank, blanked, alike-each, alike-mapped, values-alike, names-alike, rows_alike}
use Rattle.rollup_kit.proofs.RowsMixed.{rows_mixed}
use Rattle.rollup_kit.specs.Limits.{AreWithin}
use Rattle.rollup_kit.specs.Naming.{Name, key_at}
use Rattle.rollup_kit.specs.Writers.{entries_fed, rounding, Writers, rows_of, AllMixed, AllWithin, IsRegrouped, RowsAgree}
use Rattle.schedule_kit.proofs.Mixed.{mixed-map, mixed-each, mixed-sym}

module _ (s : Writers) (f g : ℕ → List Entry) (m : AllMixed s f g) where
  abbrev is : List (ℕ × ℕ)
  is = incarnations_from 0 s.starts

  -- a writer of an incarnation
  its : (i : ℕ × ℕ) → In i is → i.0 < length s.starts
  its i h =
      let r = from_in s.starts 0 i h in
      let l = r.1 in
      let e : i.0 ≡ 0 + r.0 = ap (λ (j : ℕ × ℕ). j.0) r.2 in
      omega (arith, l, e)

  abbrev values : (ℕ → List Entry) → List (Key × ℤ)
  values e = values_fed (rounding s) (λ i. e i.0) is (entries_fed s)

  abbrev keys : (ℕ → List Entry) → List Key
  keys e = keys_fed (rounding s) (λ i. e i.0) is

  abbrev value_at : ℕ × ℕ → Name × ℤ → Key × ℤ
  value_at i v = (key_at (s.who i.0) i.1 v.0, v.1)

  within : AllWithin s g → (i : ℕ × ℕ) → In i is → AreWithin (s.plan i.0) (f i.0)
  within w i h = λ n l. within-mixed (s.plan i.0) n (g i.0) (f i.0) (mixed-sym (f i.0) (g i.0) (m i.0 (its i h))) (w i.0 (its i h) n l)

  agree : (ask : Ask) → AllWithin s g ⊎ IsRegrouped ask → recorded_rows ask (values f) (keys f) ≡ recorded_rows ask (values g) (keys g)
  agree ask (inl w) =
      rows_mixed ask (values f) (values g) (keys f) (keys g)
      (mixed-each _ _ is (λ i h. mixed-map (value_at i) (entries_fed s i.0 (f i.0)) (entries_fed s i.0 (g i.0))
      (values-mixed (s.plan i.0) (f i.0) (g i.0) (m i.0 (its i h)) (within w i h) 0 (s.plan i.0).streams (omega arith))))
      (mixed-each _ _ is (λ i h. mixed-map (key_at (s.who i.0) i.1) ((rounding s).names i.0 (f i.0)) ((rounding s).names i.0 (g i.0))
      (names-mixed (s.plan i.0) (f i.0) (g i.0) (m i.0 (its i h)) (within w i h) 0 (s.plan i.0).streams (omega arith))))
  agree ask (inr r) =
      rows_alike ask r.keep r.only (values f) (values g) (keys f) (keys g)
      (alike-each blanked _ _ is (λ i h. alike-mapped blanked (value_at i) (entries_fed s i.0 (f i.0)) (entries_fed s i.0 (g i.0))
      (values-alike (s.plan i.0) (f i.0) (g i.0) (m i.0 (its i h)) (s.who i.0) i.1 0 (s.plan i.0).streams)))
      (alike-each blank _ _ is (λ i h. alike-mapped blank (key_at (s.who i.0) i.1) ((rounding s).names i.0 (f i.0)) ((rounding s).names i.0 (g i.0))
      (names-alike (s.plan i.0) (f i.0) (g i.0) (m i.0 (its i h)) (s.who i.0) i.1 0 (s.plan i.0).streams)))

pub rows_agree : RowsAgree
unfolding rows_of
rows_agree s f g m ask w = agree s f g m ask w
