-- Archives that adopt what was held of a collection, and feed what its incarnation fed.
use Rattle.std.specs.Prelude.{◌≡◌, ◌⊎◌, ℕ, ℤ, Bool, true, false, cond, if◌then◌else◌, List, [], ◌∷◌, Some, None}
use Rattle.std.specs.FinMap.{get}
use Rattle.std.specs.List.{flat_map, list_any}
use Rattle.archive_kit.specs.Adding.{add_payloads}
use Rattle.archive_kit.specs.Adopting.{Archiving, Counted, adoptees, counted, is_adopted}
use Rattle.archive_kit.specs.Tombstones.{IsInstance}
use Rattle.archive_kit.specs.Totals.{is_gauge}
use Rattle.archive_kit.specs.Written.{our_archiving, AreDriven}
use Rattle.archive_world_kit.specs.Steps.{History, Step, Writing, deeds, rounding}
use Rattle.gateway_kit.specs.Keys.{ItemKey, whole_key}
use Rattle.gateway_kit.specs.Queries.{incarnation_points}
use Rattle.point_kit.specs.declared.cell.Cell.{Cell}
use Rattle.point_kit.specs.declared.cell.Held.TheVariants.{One}
use Rattle.point_kit.specs.declared.key.Key.{Key}
use Rattle.point_kit.specs.declared.payload.Payload.{Payload}
use Rattle.point_kit.specs.declared.payload.Payload.TheVariants.{Gauge}
use Rattle.point_kit.specs.declared.writer_id.WriterId.{WriterId}
use Rattle.point_kit.specs.Exports.{Points}
use Rattle.schedule_kit.specs.Deeds.{Made}
use Rattle.schedule_kit.specs.Deeds.Holder.{AtGateway}
use Rattle.schedule_kit.specs.Members.{In}
use Rattle.schedule_kit.specs.Rows.{keys_fed}
use Rattle.schedule_kit.specs.Taken.{incarnations, newest, recorded_up_to, taken_collections}
use Rattle.schedule_kit.specs.Totals.{IsSum, total_where}

-- one of the histories that led to this one, or itself
abbrev pub IsEarlier : {N : Type 0} → List (Step N) → List (Step N) → Type 0
IsEarlier at [] = at ≡ []
IsEarlier at (step ∷ ss) = (at ≡ step ∷ ss) ⊎ IsEarlier at ss

-- the entries are those of the newest collection of the incarnation that some node had taken at some time
pub record WereTaken {N : Type 0} (starts : List ℕ) (ss : List (Step N)) (c : Counted N) : Type 0 where
  pub at : List (Step N)
  pub earlier : IsEarlier at ss
  pub gateway : ℕ
  pub made : Made N
  pub newest_there : newest (taken_collections starts (deeds at) (AtGateway gateway)) c.0.0 c.0.1 ≡ Some made
  pub entries : made.entries ≡ c.1

module _ {N : Type 0} (s : Writing N) where
  -- of an incarnation points have just what a collection of these entries has
  pub record HoldsJust (c : Counted N) (points : Points) : Type 0 where
    pub time : ℕ
    pub parts : (x : ItemKey) → get points (whole_key (s.who c.0.0, c.0.1) x)
        ≡ (if list_any ((rounding s).same_name x) (s.names c.0.0 c.1) then Some (record { time = time; held = One (s.payload c.0.0 c.1 x) }) else None)

  module _ (how : Archiving N Key WriterId ItemKey) where
    module _ (starts : List ℕ) (ss : List (Step N)) (g : ℕ) where
      -- by the exports that a node took: what counts of all that was recorded, and what of this archives adopted
      abbrev pub counted_at : List (Counted N)
      counted_at =
          counted (rounding s) how (is_adopted (rounding s) how (taken_collections starts (deeds ss) (AtGateway g)))
          (recorded_up_to starts (deeds ss) (AtGateway g)) (incarnations starts (deeds ss))

      abbrev pub adopted_at : List (Counted N)
      adopted_at = adoptees (rounding s) how (recorded_up_to starts (deeds ss) (AtGateway g)) (incarnations starts (deeds ss))

      -- and the keys of what no archive adopted
      abbrev pub keys_at : List Key
      keys_at = keys_fed (rounding s)
          (λ i. cond (is_adopted (rounding s) how (taken_collections starts (deeds ss) (AtGateway g)) (s.who i.0) i.1)
          [] (recorded_up_to starts (deeds ss) (AtGateway g) i))
          (incarnations starts (deeds ss))

    -- each adoption is of what such points have of the incarnation
    abbrev pub WereHeld : (ℕ → Counted N → List (Key × Cell Payload)) → Type 0
    WereHeld held = (a : ℕ) (h : List N) (c : Counted N) → how.is_archive (s.who a) ≡ true → In c (how.adoptions a h)
        → (points : Points) × HoldsJust c points × (held a c ≡ incarnation_points (s.who c.0.0) c.0.1 points)

    -- Payloads add up as they are read, gauges to nothing. Of writers that are no archives each payload that is asked for reads as the
    -- values fed to it, added up, and none are fed to gauges. An archive feeds what it adopted.
    pub record AreRead {V : Type 0} (zero : V) (plus : V → V → V) (reads : Payload → V) (fed : ℕ → List N → List (ItemKey × V))
        (asks : Key → Bool) : Type 0 where
      pub sum : IsSum zero plus
      pub both : (p q : Payload) → reads (add_payloads p q) ≡ plus (reads p) (reads q)
      pub gauges : (v : ℤ) → reads (Gauge v) ≡ zero
      pub named : (w : ℕ) (h : List N) (p : ItemKey × V) → how.is_archive (s.who w) ≡ false → In p (fed w h) → In p.0 (s.names w h)
      pub plain : (w : ℕ) (h : List N) (p : ItemKey × V) → how.is_archive (s.who w) ≡ false → In p (fed w h)
          → is_gauge (s.payload w h p.0) ≡ false
      pub added : (w : ℕ) (h : List N) (i : WriterId) (start : ℕ) (x : ItemKey) → how.is_archive (s.who w) ≡ false
          → asks (whole_key (i, start) x) ≡ true → In x (s.names w h)
          → reads (s.payload w h x) ≡ total_where zero plus (λ p. (rounding s).same_name x p.0) (λ p. p.1) (fed w h)
      pub feeds : (a : ℕ) (h : List N) → how.is_archive (s.who a) ≡ true → fed a h ≡ flat_map (λ c. fed c.0.0 c.1) (how.adoptions a h)

    -- Identities tell archives and what they adopt; archives write what accepted calls of one export, which adopted what was held.
    pub record AreArchived (held : ℕ → Counted N → List (Key × Cell Payload)) : Type 0 where
      pub instances : (w : ℕ) → IsInstance (s.who w)
      pub driven : AreDriven (rounding s) how held
      pub were : WereHeld held

    -- a query counts an archive's key to the row to which it counts the same name of what the archive adopted
    pub record AreAsked {G : Type 0} (asks : Key → Bool) (group : Key → G) : Type 0 where
      pub asked : (a start : ℕ) (h : List N) (c : Counted N) (x : ItemKey) → how.is_archive (s.who a) ≡ true → In c (how.adoptions a h)
          → asks (whole_key (s.who a, start) x) ≡ asks (whole_key (s.who c.0.0, c.0.1) x)
      pub grouped : (a start : ℕ) (h : List N) (c : Counted N) (x : ItemKey) → how.is_archive (s.who a) ≡ true → In c (how.adoptions a h)
          → group (whole_key (s.who a, start) x) ≡ group (whole_key (s.who c.0.0, c.0.1) x)

-- archives among the writers of a history: which identities are archives, what their entries adopt, and what was held of each adoption
pub record Archives {N : Type 0} (h : History N) : Type 0 where
  pub is_archive : WriterId → Bool
  pub adoptions : ℕ → List N → List (Counted N)
  pub held : ℕ → Counted N → List (Key × Cell Payload)
  pub are : AreArchived h.writing (our_archiving is_archive adoptions) held

module _ {N : Type 0} {h : History N} (a : Archives h) where
  abbrev pub telling : Archiving N Key WriterId ItemKey
  telling = our_archiving a.is_archive a.adoptions

  -- by the exports that a node took: what counts of all that was recorded, what of this archives adopted, and the keys that it shows
  abbrev pub counted_by : ℕ → List (Counted N)
  counted_by g = counted_at h.writing telling h.starts h.steps g

  abbrev pub adopted_by : ℕ → List (Counted N)
  adopted_by g = adopted_at h.writing telling h.starts h.steps g

  abbrev pub keys_by : ℕ → List Key
  keys_by g = keys_at h.writing telling h.starts h.steps g
