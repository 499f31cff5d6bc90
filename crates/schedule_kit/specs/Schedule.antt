-- One writer's schedule: its accepted events, the newest first. Its start, its last time, whether it is open, its entries and its collections are read off them.
use Rattle.std.specs.Prelude.{◌≡◌, ℕ, ◌<◌, Bool, true, false, ◌==◌, if◌then◌else◌, max, List, [], ◌∷◌, ◌++◌}

-- an accepted event of a writer; a collection that closes is a shutdown
pub data Act (N : Type 0) : Type 0 where
  Measured : (entry : N) → Act N
  Collected : (time : ℕ) (closing : Bool) → Act N
  Restarted : (start : ℕ) → Act N

-- its start: that of its newest restart, or the first one
abbrev pub start_of : {N : Type 0} → ℕ → List (Act N) → ℕ
start_of first [] = first
start_of first (Measured e ∷ acts) = start_of first acts
start_of first (Collected time closing ∷ acts) = start_of first acts
start_of first (Restarted start ∷ acts) = start

-- the greatest time of a collection since that start, or the start
abbrev pub last_of : {N : Type 0} → ℕ → List (Act N) → ℕ
last_of first [] = first
last_of first (Measured e ∷ acts) = last_of first acts
last_of first (Collected time closing ∷ acts) = max time (last_of first acts)
last_of first (Restarted start ∷ acts) = start

-- whether it was not shut down since that start
abbrev pub is_open : {N : Type 0} → List (Act N) → Bool
is_open [] = true
is_open (Measured e ∷ acts) = is_open acts
is_open (Collected time closing ∷ acts) = if closing then false else is_open acts
is_open (Restarted start ∷ acts) = true

-- what was recorded while the start was `start`, the oldest first
abbrev pub entries_of : {N : Type 0} → ℕ → List (Act N) → ℕ → List N
entries_of first [] start = []
entries_of first (Measured e ∷ acts) start = if start_of first acts == start then entries_of first acts start ++ e ∷ [] else entries_of first acts start
entries_of first (Collected time closing ∷ acts) start = entries_of first acts start
entries_of first (Restarted s ∷ acts) start = entries_of first acts start

-- what was recorded since the start that it has now
abbrev pub running : {N : Type 0} → ℕ → List (Act N) → List N
running first acts = entries_of first acts (start_of first acts)

-- a collection: the incarnation's start, the time, and the entries of the incarnation up to it
pub record Collection (N : Type 0) : Type 0 where
  pub start : ℕ
  pub time : ℕ
  pub entries : List N

-- the collection that is made after these events
abbrev pub collection_after : {N : Type 0} → ℕ → List (Act N) → ℕ → Collection N
collection_after first acts time = record { start = start_of first acts; time = time; entries = running first acts }

-- the collections, each of which makes an export, the newest first
abbrev pub collections : {N : Type 0} → ℕ → List (Act N) → List (Collection N)
collections first [] = []
collections first (Measured e ∷ acts) = collections first acts
collections first (Collected time closing ∷ acts) = collection_after first acts time ∷ collections first acts
collections first (Restarted start ∷ acts) = collections first acts

-- where each event is accepted; `fits` says which entry an incarnation takes after which others
module _ {N : Type 0} (fits : List N → N → Bool) (first : ℕ) where
  abbrev pub IsAccepted : List (Act N) → Act N → Type 0
  IsAccepted acts (Measured e) = (is_open acts ≡ true) × (fits (running first acts) e ≡ true)
  IsAccepted acts (Collected time closing) = (is_open acts ≡ true) × (last_of first acts < time)
  IsAccepted acts (Restarted start) = start_of first acts < start

  -- each was accepted after those before it
  abbrev pub AreAccepted : List (Act N) → Type 0
  AreAccepted [] = Unit {0}
  AreAccepted (act ∷ acts) = IsAccepted acts act × AreAccepted acts
