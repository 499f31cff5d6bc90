-- Writers that adopt incarnations of others, and what of all that was recorded a state then counts.
use Rattle.std.specs.Prelude.{◌≡◌, ℕ, Bool, true, false, not, ◌&&◌, List, ◌++◌, map, filter, Option, Some}
use Rattle.std.specs.List.{flat_map, filter_map, list_any}
use Rattle.schedule_kit.specs.Deeds.{Made}
use Rattle.schedule_kit.specs.Members.{In, Once}
use Rattle.schedule_kit.specs.Rounds.{Rounding, state}
use Rattle.archive_kit.specs.Showing.{hides}

-- an incarnation, by the writer's place and its start, with the entries of it that count
abbrev pub Counted : Type 0 → Type 0
Counted N = (ℕ × ℕ) × List N

-- how archives are told: which keys name which, the name of an incarnation's tombstone, which names are such, which identities are
-- archives, and what the entries of an archive adopt
pub record Archiving (N K I X : Type 0) : Type 0 where
  pub names : K → K → Bool
  pub tombstone : I → ℕ → X
  pub is_tombstone : X → Bool
  pub is_archive : I → Bool
  pub adoptions : ℕ → List N → List (Counted N)

module _ {N K I X P : Type 0} (r : Rounding N K I X P) (how : Archiving N K I X) where
  -- tombstones are lawful
  pub record AreTombstones : Type 0 where
    -- a key names the keys of the incarnation whose tombstone its name is, but no tombstones
    pub tells : (v : I) (w t s : ℕ) (x y : X)
        → how.names (r.key v t x) (r.key (r.who w) s y) ≡ (r.same_name x (how.tombstone (r.who w) s) && not (how.is_tombstone y))
    pub are : (w s : ℕ) → how.is_tombstone (how.tombstone (r.who w) s) ≡ true
    -- archives alone write them, one for each incarnation that they adopted
    pub only : (w : ℕ) (h : List N) (x : X) → In x (r.names w h) → how.is_tombstone x ≡ true → how.is_archive (r.who w) ≡ true
    pub each : (a : ℕ) (h : List N) (c : Counted N) → how.is_archive (r.who a) ≡ true → In c (how.adoptions a h)
        → In (how.tombstone (r.who c.0.0) c.0.1) (r.names a h)
    pub of_adopted : (a w : ℕ) (h : List N) (s : ℕ) → how.is_archive (r.who a) ≡ true → In (how.tombstone (r.who w) s) (r.names a h)
        → (c : Counted N) × In c (how.adoptions a h) × (r.who c.0.0 ≡ r.who w) × (c.0.1 ≡ s)
    -- no archive is adopted
    pub never : (a : ℕ) (h : List N) (c : Counted N) → how.is_archive (r.who a) ≡ true → In c (how.adoptions a h)
        → how.is_archive (r.who c.0.0) ≡ false

  -- some collection has a tombstone of the incarnation
  abbrev pub is_adopted : List (Made N) → I → ℕ → Bool
  is_adopted ms i s = list_any (λ m. list_any (r.same_name (how.tombstone i s)) (r.names m.writer m.entries)) ms

  -- what an archive feeds is what the incarnations feed that it adopted, each with the entries of its adopted collection; and a query
  -- counts an archive's key to the row to which it counts the same name of what it adopted
  pub record AreArchives {V G : Type 0} (fed : ℕ → List N → List (X × V)) (asks : K → Bool) (group : K → G) : Type 0 where
    pub feeds : (a : ℕ) (h : List N) → how.is_archive (r.who a) ≡ true → fed a h ≡ flat_map (λ c. fed c.0.0 c.1) (how.adoptions a h)
    pub asked : (a s : ℕ) (h : List N) (c : Counted N) (x : X) → how.is_archive (r.who a) ≡ true → In c (how.adoptions a h)
        → asks (r.key (r.who a) s x) ≡ asks (r.key (r.who c.0.0) c.0.1 x)
    pub grouped : (a s : ℕ) (h : List N) (c : Counted N) (x : X) → how.is_archive (r.who a) ≡ true → In c (how.adoptions a h)
        → group (r.key (r.who a) s x) ≡ group (r.key (r.who c.0.0) c.0.1 x)

  -- what counts: of each incarnation that is no archive's and was not adopted its entries
  abbrev pub own : (I → ℕ → Bool) → (ℕ × ℕ → List N) → List (ℕ × ℕ) → List (Counted N)
  own adopted entries_of incarnations =
      map (λ i. (i, entries_of i)) (filter (λ i. not (how.is_archive (r.who i.0)) && not (adopted (r.who i.0) i.1)) incarnations)

  -- and of what the archives adopted the entries of the adopted collections
  abbrev pub adoptees : (ℕ × ℕ → List N) → List (ℕ × ℕ) → List (Counted N)
  adoptees entries_of incarnations =
      flat_map (λ i. how.adoptions i.0 (entries_of i)) (filter (λ i. how.is_archive (r.who i.0)) incarnations)

  abbrev pub counted : (I → ℕ → Bool) → (ℕ × ℕ → List N) → List (ℕ × ℕ) → List (Counted N)
  counted adopted entries_of incarnations = own adopted entries_of incarnations ++ adoptees entries_of incarnations

-- the collections of incarnations that were not adopted
abbrev pub not_adopted : {N I : Type 0} → (ℕ → I) → (I → ℕ → Bool) → List (Made N) → List (Made N)
not_adopted who adopted ms = filter (λ m. not (adopted (who m.writer) m.start)) ms

module _ {N K I X P : Type 0} (r : Rounding N K I X P) where
  -- the state of collections hides whole incarnations: of each point of a collection the key, where its incarnation was adopted
  abbrev pub HideWhole : (K → K → Bool) → (I → ℕ → Bool) → List (Made N) → Type 0
  HideWhole names adopted ms = (m : Made N) → In m ms → (x : X) → In x (r.names m.writer m.entries)
      → hides names (state r ms) (r.key (r.who m.writer) m.start x) ≡ adopted (r.who m.writer) m.start

  -- each value that an incarnation is counted with, under its own key
  abbrev pub values_counted : {V : Type 0} → (ℕ → List N → List (X × V)) → List (Counted N) → List (K × V)
  values_counted fed cs = flat_map (λ c. map (λ p. (r.key (r.who c.0.0) c.0.1 p.0, p.1)) (fed c.0.0 c.1)) cs

-- each incarnation stands once
abbrev pub EachOnce : {N : Type 0} → List (Counted N) → Type 0
EachOnce {N} cs = Once {A = ℕ × ℕ} (map (λ c. c.0) cs)

-- an archivist takes no adoption of an incarnation that its own adopted; `adopts` tells what an entry adopts
abbrev pub RefusesAgain : {N : Type 0} → (N → Option (Counted N)) → (List N → N → Bool) → Type 0
RefusesAgain {N} adopts fits = (h : List N) (e : N) (c : Counted N)
    → fits h e ≡ true → adopts e ≡ Some c → In {A = ℕ × ℕ} c.0 (map (λ c. c.0) (filter_map adopts h)) → ⊥

-- what was adopted is what collections have: each of some made collection
abbrev pub AdoptMade : {N : Type 0} → List (Made N) → List (Counted N) → Type 0
AdoptMade {N} made cs = (c : Counted N) → In c cs → (m : Made N) × In m made × (m.writer ≡ c.0.0) × (m.start ≡ c.0.1) × (m.entries ≡ c.1)
