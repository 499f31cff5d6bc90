-- What files of exports, messages and states say, and why a file says nothing.
use Rattle.std.specs.Prelude.{◌≡◌, ◌≢◌, ◌==◌, ℕ, Bool, true, false, List, [], ◌∷◌, All, map, take, slice_get, Option, Some, None, Result, Ok, Err}
use Rattle.std.specs.List.{fold}
use Rattle.std.specs.FinMap.{empty}
use Rattle.archive_kit.specs.Showing.{shown}
use Rattle.archive_kit.specs.Tombstones.{names_key}
use Rattle.bytes_kit.specs.Explaining as explaining
use Rattle.bytes_kit.specs.Fits.{IsExport}
use Rattle.bytes_kit.specs.Format.{bytes_of}
use Rattle.bytes_kit.specs.MessageFits.{IsMessage, IsSoundPoints}
use Rattle.bytes_kit.specs.Messages.{bytes_of_message}
use Rattle.bytes_kit.specs.declared.fault.DecodeFault.{DecodeFault}
use Rattle.bytes_kit.specs.declared.fault.DecodeFault.TheVariants as faults
use Rattle.point_kit.specs.Exports.{Points, join_points, state}
use Rattle.file_kit.specs.declared.content.Content.{Content}
use Rattle.file_kit.specs.declared.content.Content.TheVariants as content
use Rattle.file_kit.specs.declared.fault.FileFault.{FileFault}
use Rattle.file_kit.specs.declared.fault.FileFault.TheVariants as file

-- the bytes of what a file has
abbrev pub form : Content → List ℕ
form (content.Export e) = bytes_of e
form (content.Message m) = bytes_of_message m

-- what every export and every message is: its numbers have the sizes of their types, its texts are UTF-8, and each cell is one that an export can bring.
-- So of the same bytes there are no two.
abbrev pub IsContent : Content → Type 0
IsContent (content.Export e) = IsExport e
IsContent (content.Message m) = IsMessage m × IsSoundPoints m.points

-- a content, and the bytes of it
abbrev pub IsOf : List ℕ → Content → Type 0
IsOf bytes c = IsContent c × (form c ≡ bytes)

-- bytes have a content
abbrev pub HasContent : List ℕ → Type 0
HasContent bytes = (c : Content) × IsOf bytes c

-- one content for each file, of its bytes
pub record AreOf (files : List (List ℕ)) (cs : List Content) : Type 0 where
  pub contents : All IsContent cs
  pub forms : map form cs ≡ files

-- what a file has under each key
abbrev pub points_of : Content → Points
points_of (content.Export e) = state (e ∷ [])
points_of (content.Message m) = m.points

-- what several files have, joined
abbrev pub joined : List Content → Points
joined cs = fold (λ points c. join_points points (points_of c)) empty cs

-- the fourth byte is an M, as of a message
abbrev pub is_letter_of_message : Option ℕ → Bool
is_letter_of_message (Some b) = b == 77
is_letter_of_message None = false

-- whether bytes are read as those of a message
abbrev pub is_message : List ℕ → Bool
is_message bytes = is_letter_of_message (slice_get bytes 3)

-- what a fault says of bytes that are read as those of a message, or of an export
abbrev pub ExplainsAs : Bool → List ℕ → DecodeFault → Type 0
ExplainsAs true bytes fault = explaining.ExplainsMessage bytes fault
ExplainsAs false bytes fault = explaining.Explains bytes fault

-- what a fault says of the bytes of a file
abbrev pub Explains : List ℕ → DecodeFault → Type 0
Explains bytes fault = ExplainsAs (is_message bytes) bytes fault

-- the content, or want of memory
abbrev pub GivesContent : Result Content DecodeFault → Content → Type 0
GivesContent (Ok found) c = found ≡ c
GivesContent (Err fault) c = fault ≡ faults.NoMemory

-- these points are what the files have, joined
abbrev pub Says : List (List ℕ) → Points → Type 0
Says files points = (cs : List Content) × AreOf files cs × (points ≡ joined cs)

-- these points are what the files show: what they say, but for what a tombstone of theirs names
abbrev pub Shows : List (List ℕ) → Points → Type 0
Shows files points = (held : Points) × Says files held × (points ≡ shown names_key held)

-- bytes are those of no content, for this reason
pub record IsNone (bytes : List ℕ) (fault : DecodeFault) : Type 0 where
  pub none : (c : Content) → IsContent c → bytes ≡ form c → ⊥
  pub explains : Explains bytes fault

-- why a file is not read
abbrev pub IsUnread : List ℕ → DecodeFault → Type 0
IsUnread bytes fault = fault ≢ faults.NoMemory → IsNone bytes fault

-- the files before this place have contents, and the one there has none
pub record IsFirstNone (files : List (List ℕ)) (place : ℕ) (fault : DecodeFault) : Type 0 where
  pub before : (cs : List Content) × AreOf (take place files) cs
  pub here : (bytes : List ℕ) × (slice_get files place ≡ Some bytes) × IsNone bytes fault

-- why files are not joined
abbrev pub IsRefused : List (List ℕ) → FileFault → Type 0
IsRefused files (file.Refused place fault) = IsFirstNone files place fault
IsRefused files file.NoMemory = Unit {0}

-- why the file at a place is not
abbrev pub IsRefusedAt : ℕ → List ℕ → FileFault → Type 0
IsRefusedAt at bytes (file.Refused place fault) = (place ≡ at) × IsNone bytes fault
IsRefusedAt at bytes file.NoMemory = Unit {0}

-- points, and those after what a file has was joined
abbrev pub JoinsAt : List ℕ → Points → Points → Type 0
JoinsAt bytes old new = (c : Content) × IsOf bytes c × (new ≡ join_points old (points_of c))
