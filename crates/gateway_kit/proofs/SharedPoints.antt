-- What a shared gateway keeps of its history: the join of all that the changes brought, in whatever order.
use Rattle.std.proofs.Common.{◌≡◌, ℕ, zero, suc, [], ◌∷◌, ◌++◌, Option, Some, None, Result, Ok, Err, IfOk, refl, sym, ap, ◌∙◌}
use Rattle.std.specs.FinMap.{empty}
use mathlib.Core.Option.{some, some-ne-none, some-injective}
use lib.ListN.{get_elem?}
use Rattle.point_kit.specs.Exports.{Points, join_points, changed_points, state}
use Rattle.point_kit.specs.Join.{IsAtOrBelow}
use Rattle.point_kit.proofs.PointLaws.{points_commute, points_associate, points_above, points_least, states_join}
use Rattle.turn_kit.specs.declared.seat.Seat.{Seat}
use Rattle.turn_kit.specs.History.{then_next, replay, IsReplay}
use Rattle.turn_kit.specs.Public.{Closes, seen}
use Rattle.gateway_kit.specs.GatewayState.{GatewayState}
use Rattle.gateway_kit.specs.declared.shared.SharedGateway.{SharedGateway}
use Rattle.gateway_kit.specs.declared.shared.change.GatewayChange.{GatewayChange}
use Rattle.gateway_kit.specs.declared.shared.change.GatewayChange.TheVariants.{Taken, Merged}
use Rattle.gateway_kit.specs.Shared.{History, after_gateway_change, points_brought_by, points_brought, also_taken, exports_of, also_merged, merged_of, Keeps, HasChange, DependsOnChanges, first_of, Accepts, Adds, LooksAt, Sees}
use Rattle.gateway_kit.proofs.Merged.{joined_empty}

some_is : (x y : GatewayState) → Some x ≡ Some y → x ≡ y
some_is x y e = ap (λ (z : Option GatewayState). either_of z) e
  where
    either_of : Option GatewayState → GatewayState
    either_of None = x
    either_of (Some z) = z

-- what the changes bring, one after the other
abbrev joined : History → Points
joined [] = empty
joined (x ∷ xs) = join_points (points_brought_by x.1) (joined xs)

is_joined : (h : History) → points_brought h ≡ joined h
is_joined [] = sym (joined_empty (state []))
is_joined (x ∷ xs) = by_change x.1 (is_joined xs)
  where
    by_change : (c : GatewayChange) → points_brought xs ≡ joined xs → join_points (state (also_taken c (exports_of xs))) (also_merged c (merged_of xs)) ≡ join_points (points_brought_by c) (joined xs)
    by_change (Taken e) is =
        ap (λ p. join_points p (merged_of xs)) (states_join (e ∷ []) (exports_of xs))
        ∙ points_associate (state (e ∷ [])) (state (exports_of xs)) (merged_of xs)
        ∙ ap (join_points (state (e ∷ []))) is
    by_change (Merged g) is =
        sym (points_associate (state (exports_of xs)) g.points (merged_of xs))
        ∙ ap (λ p. join_points p (merged_of xs)) (points_commute (state (exports_of xs)) g.points)
        ∙ points_associate g.points (state (exports_of xs)) (merged_of xs)
        ∙ ap (join_points g.points) is

-- the gateway that a history makes of the first
replayed : (first : GatewayState) (h : History) (g : GatewayState) → IsReplay (λ v. v) after_gateway_change first h g → g ≡ record first { points = join_points first.points (joined h) }
replayed first [] g is = sym (some_is first g is) ∙ ap (λ (p : Points). record first { points = p }) (joined_empty first.points)
replayed first (x ∷ xs) g is =
    replayed (record first { points = join_points first.points (points_brought_by x.1) }) xs g is
    ∙ ap (λ (p : Points). record first { points = p }) (points_associate first.points (points_brought_by x.1) (joined xs))

pub keeps : (first : GatewayState) (h : History) (g : GatewayState) → IsReplay (λ v. v) after_gateway_change first h g → Keeps first h g
keeps first h g is =
    let whole : g.points ≡ join_points first.points (points_brought h) = ap (λ (v : GatewayState). v.points) (replayed first h g is) ∙ ap (join_points first.points) (sym (is_joined h)) in
    record {
      same_id = ap (λ (v : GatewayState). v.id) (replayed first h g is);
      joined = whole;
      of_empty = λ none. whole ∙ ap (λ p. join_points p (points_brought h)) none ∙ points_commute empty (points_brought h) ∙ sym (joined_empty (points_brought h));
    }

replay_one : (s : Option GatewayState) (xs : History) (x : ℕ × GatewayChange) → replay after_gateway_change s (xs ++ x ∷ []) ≡ then_next after_gateway_change (replay after_gateway_change s xs) x.1
replay_one s [] x = refl
replay_one s (y ∷ ys) x = replay_one (then_next after_gateway_change s y.1) ys x

module _ {G : Type 0} {g : _} (shared : SharedGateway G) (s t : Seat GatewayState GatewayChange g) where
  adding : (c : GatewayChange) (n : ℕ) → Accepts shared c n s t → Adds shared c n s t
  adding c n h =
      let first = first_of shared in
      let next : h.after ≡ record h.machine { points = join_points h.machine.points (points_brought_by c) } = some_is _ _ (sym h.accepted ∙ ap (replay after_gateway_change (Some first)) h.ends ∙ replay_one (Some first) h.before _ ∙ ap (λ o. then_next after_gateway_change o c) h.replays) in
      record {
        before = h.before;
        ends = h.ends;
        old = h.machine;
        new = h.after;
        kept = keeps first h.before h.machine h.replays;
        keeps = keeps first (seen t) h.after h.accepted;
        value = h.reply ∙ ap (λ (v : GatewayState). changed_points h.machine.points v.points) (sym next);
      }

  pub adds : {F : Type 0} (c : GatewayChange) (r : Result ℕ F) → IfOk r (λ n. Accepts shared c n s t) → IfOk r (λ n. Adds shared c n s t)
  adds c (Ok n) h = adding c n h
  adds c (Err f) h = tt

  pub sees : (answered : GatewayState → Type 0) → LooksAt shared answered s t → Sees shared answered t
  sees answered h = record { found = h.machine; keeps = keeps (first_of shared) (seen t) h.machine h.replays; answer = h.answer }

  pub answers : {R F : Type 0} (answered : R → GatewayState → Type 0) (r : Result R F) → IfOk r (λ a. LooksAt shared (answered a) s t) → IfOk r (λ a. Sees shared (answered a) t)
  answers answered (Ok a) h = sees (answered a) h
  answers answered (Err f) h = tt

pub closes : {G : Type 0} {g : _} (shared : SharedGateway G) (s : Seat GatewayState GatewayChange g) (m : GatewayState) → Closes (λ v. v) after_gateway_change (first_of shared) s m → (c : Closes (λ v. v) after_gateway_change (first_of shared) s m) × Keeps (first_of shared) c.history m
closes shared s m c = (c, keeps (first_of shared) c.history m c.replays)

-- ---- the same changes bring the same

abbrev IsBelow : Points → Points → Type 0
IsBelow = IsAtOrBelow join_points

below_both : (a b c : Points) → IsBelow a b → IsBelow b c → IsBelow a c
below_both a b c x y = ap (join_points a) (sym y) ∙ sym (points_associate a b c) ∙ ap (λ p. join_points p c) x ∙ y

each_at : (h : History) (c : GatewayChange) (place n : ℕ) → get_elem? h place ≡ some (n, c) → IsBelow (points_brought_by c) (joined h)
each_at [] c place n is = absurd (some-ne-none (n, c) (sym is))
each_at (x ∷ xs) c zero n is =
    ap (λ (y : ℕ × GatewayChange). join_points (points_brought_by y.1) (joined (x ∷ xs))) (sym (some-injective x (n, c) is)) ∙ (points_above (points_brought_by x.1) (joined xs)).0
each_at (x ∷ xs) c (suc place) n is = below_both (points_brought_by c) (joined xs) (joined (x ∷ xs)) (each_at xs c place n is) (points_above (points_brought_by x.1) (joined xs)).1

each_below : (h : History) (c : GatewayChange) → HasChange h c → IsBelow (points_brought_by c) (joined h)
each_below h c has = each_at h c has.0 has.1 has.2

least_above : (h : History) (p : Points) → ((c : GatewayChange) → HasChange h c → IsBelow (points_brought_by c) p) → IsBelow (joined h) p
least_above [] p each = points_commute empty p ∙ sym (joined_empty p)
least_above (x ∷ xs) p each = points_least (points_brought_by x.1) (joined xs) p (each x.1 (0, x.0, refl)) (least_above xs p (λ c has. each c (suc has.0, has.1, has.2)))

pub depends_on_changes : DependsOnChanges
depends_on_changes g h same =
    let below = least_above g (joined h) (λ c has. each_below h c ((same c).0 has)) in
    let above = least_above h (joined g) (λ c has. each_below g c ((same c).1 has)) in
    is_joined g ∙ sym above ∙ points_commute (joined h) (joined g) ∙ below ∙ sym (is_joined h)
