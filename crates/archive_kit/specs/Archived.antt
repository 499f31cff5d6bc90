-- Any kit's writers with archives among them: what an archive's entries are, and what its collections have.
use Rattle.std.specs.Prelude.{◌≡◌, ℕ, Bool, true, false, not, ◌&&◌, if◌then◌else◌, List, [], ◌∷◌, ◌++◌, map}
use Rattle.std.specs.List.{flat_map, list_any}
use Rattle.schedule_kit.specs.Members.{In}
use Rattle.schedule_kit.specs.Rounds.{Rounding}
use Rattle.archive_kit.specs.Adopting.{Archiving, Counted}

-- an entry: a recording, or that an archive adopts an incarnation with what it had recorded by a collection
pub data Entry (N : Type 0) : Type 0 where
  Recorded : (entry : N) → Entry N
  Adopts : (writer start : ℕ) (entries : List N) → Entry N

abbrev pub recordings : {N : Type 0} → List (Entry N) → List N
recordings [] = []
recordings (Recorded e ∷ es) = e ∷ recordings es
recordings (Adopts w s h ∷ es) = recordings es

-- what an archive at place a adopts by these entries, of writers that it may adopt
abbrev pub adopted_by : {N : Type 0} → (ℕ → ℕ → Bool) → ℕ → List (Entry N) → List (Counted N)
adopted_by may a [] = []
adopted_by may a (Recorded e ∷ es) = adopted_by may a es
adopted_by may a (Adopts w s h ∷ es) = if may a w then ((w, s), h) ∷ adopted_by may a es else adopted_by may a es

abbrev pub as_entries : {N : Type 0} → Counted N → Counted (Entry N)
as_entries c = (c.0, map Recorded c.1)

abbrev pub adoptions_of : {N : Type 0} → (ℕ → ℕ → Bool) → ℕ → List (Entry N) → List (Counted (Entry N))
adoptions_of may a h = map as_entries (adopted_by may a h)

-- each element once
abbrev pub distinct_of : {A : Type 0} → (A → A → Bool) → List A → List A
distinct_of same [] = []
distinct_of same (x ∷ xs) = if list_any (same x) xs then distinct_of same xs else x ∷ distinct_of same xs

-- archives to be added to writers: how payloads are added up, one that adds nothing, which keys name which, the name of an
-- incarnation's tombstone, which names are such, which identities are archives, and which writers an archive may adopt
pub record Archivists (K I X P : Type 0) : Type 0 where
  pub add : P → P → P
  pub nothing : P
  pub names : K → K → Bool
  pub tombstone : I → ℕ → X
  pub is_tombstone : X → Bool
  pub is_archive : I → Bool
  pub may : ℕ → ℕ → Bool

module _ {N K I X P : Type 0} (r : Rounding N K I X P) (by : Archivists K I X P) where
  -- the names of what was adopted, and the tombstones
  abbrev pub archive_names : List (Counted N) → List X
  archive_names cs = map (λ c. by.tombstone (r.who c.0.0) c.0.1) cs ++ flat_map (λ c. r.names c.0.0 c.1) cs

  -- under a name the payloads of all that was adopted, added up
  abbrev pub added_up : X → List (Counted N) → P
  added_up x [] = by.nothing
  added_up x (c ∷ cs) =
      if list_any (r.same_name x) (r.names c.0.0 c.1) then by.add (r.payload c.0.0 c.1 x) (added_up x cs) else added_up x cs

  -- the writers with archives among them
  abbrev pub archived : Rounding (Entry N) K I X P
  archived = record {
    order = r.order;
    same = r.same;
    same_name = r.same_name;
    key = r.key;
    who = r.who;
    names = λ w h.
        if by.is_archive (r.who w) then distinct_of r.same_name (archive_names (adopted_by by.may w h)) else r.names w (recordings h);
    payload = λ w h x. if by.is_archive (r.who w) then added_up x (adopted_by by.may w h) else r.payload w (recordings h) x;
  }

  -- how these archives are told
  abbrev pub archiving : Archiving (Entry N) K I X
  archiving = record {
    names = by.names;
    tombstone = by.tombstone;
    is_tombstone = by.is_tombstone;
    is_archive = by.is_archive;
    adoptions = adoptions_of by.may;
  }

  -- what entries feed, those of archives what the adopted ones fed
  abbrev pub archived_fed : {V : Type 0} → (ℕ → List N → List (X × V)) → ℕ → List (Entry N) → List (X × V)
  archived_fed fed w h = if by.is_archive (r.who w) then flat_map (λ c. fed c.0.0 c.1) (adopted_by by.may w h) else fed w (recordings h)

  -- payloads add up as they are read
  pub record AddAsRead {V : Type 0} (zero : V) (plus : V → V → V) (reads : P → V) : Type 0 where
    pub none : reads by.nothing ≡ zero
    pub both : (p q : P) → reads (by.add p q) ≡ plus (reads p) (reads q)

  -- tombstones tell incarnations and are names of no writer, and archives adopt no archive and only writers whose keys each query
  -- counts as it counts theirs
  pub record CanArchive {G : Type 0} (asks : K → Bool) (group : K → G) : Type 0 where
    pub injective : (v w s t : ℕ) → by.tombstone (r.who v) s ≡ by.tombstone (r.who w) t → (r.who v ≡ r.who w) × (s ≡ t)
    pub are : (w s : ℕ) → by.is_tombstone (by.tombstone (r.who w) s) ≡ true
    pub plain : (w : ℕ) (h : List N) (x : X) → In x (r.names w h) → by.is_tombstone x ≡ false
    pub tells : (v : I) (w t s : ℕ) (x y : X)
        → by.names (r.key v t x) (r.key (r.who w) s y) ≡ (r.same_name x (by.tombstone (r.who w) s) && not (by.is_tombstone y))
    pub own : (a w : ℕ) → by.may a w ≡ true → by.is_archive (r.who w) ≡ false
    pub asked : (a w s t : ℕ) (x : X) → by.may a w ≡ true → asks (r.key (r.who a) s x) ≡ asks (r.key (r.who w) t x)
    pub grouped : (a w s t : ℕ) (x : X) → by.may a w ≡ true → group (r.key (r.who a) s x) ≡ group (r.key (r.who w) t x)
