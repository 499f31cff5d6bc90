-- Where the places of texts are noted.
use Rattle.std.specs.Prelude.{◌≡◌, ℕ, zero, suc, ◌+◌, ◌%◌, ◌<◌, ◌≤◌, nat_eq, nat_lt, if◌then◌else◌, cond, fold, List, [], length, slice_index, slice_index_or, Option, Some, None}
use Rattle.std.specs.BTreeMap as tree
use Rattle.std.specs.Cmp.Lexicographic.{pointwise}
use Rattle.std.specs.Hash as fed
use Rattle.std.specs.Hash.FoldHasher as folding
use Rattle.attr_kit.specs.Orders.{text_cmp}
use Rattle.bytes_kit.specs.Past.{place_of}
use Rattle.bytes_kit.specs.declared.index.Index.{Index}
use Rattle.bytes_kit.specs.declared.index.Seek.{Seek}
use Rattle.bytes_kit.specs.declared.index.Seek.TheVariants as seeks

unfoldable pub text_hash : List ℕ → ℕ
text_hash t = folding.finish (fold folding.write folding.initial (fed.str t))

-- the slot behind one of so many
abbrev pub next_slot : ℕ → ℕ → ℕ
next_slot count slot = if nat_lt (slot + 1) count then slot + 1 else 0

module _ (texts : List (List ℕ)) (t : List ℕ) where
  -- what is found at a slot; the last is what is found behind it
  abbrev pub seek_here : ℕ → ℕ → Seek → Seek
  seek_here slot zero behind = seeks.Free slot
  seek_here slot (suc place) behind = cond (pointwise nat_eq t (slice_index_or texts place [])) (seeks.At place) behind

-- what is found of a text at so many slots from one on
abbrev pub seek_from : List (List ℕ) → List ℕ → List ℕ → ℕ → ℕ → Seek
seek_from texts slots t slot zero = seeks.Nowhere
seek_from texts slots t slot (suc more) = seek_here texts t slot (slice_index slots slot) (seek_from texts slots t (next_slot (length slots) slot) more)

-- what is found at the slots that a text's hash names
unfoldable pub seek : List (List ℕ) → List ℕ → List ℕ → Seek
seek texts slots t = seek_from texts slots t (text_hash t % length slots) 8

-- the place that was found; the last is what the map has
abbrev pub placed_at : Seek → Option ℕ → Option ℕ
placed_at (seeks.At place) other = Some place
placed_at (seeks.Free slot) other = None
placed_at seeks.Nowhere other = other

-- each text of the list is found at its place, and no other text is
pub record IsIndexOf (texts : List (List ℕ)) (p : Index) : Type 0 where
  pub some : 0 < length p.slots.items
  pub within : (slot : ℕ) → slice_index p.slots.items slot ≤ length texts
  pub others : (t : List ℕ) (place : ℕ) → tree.get text_cmp p.others t ≡ Some place → place_of texts t ≡ Some place
  pub found : (t : List ℕ) → place_of texts t ≡ placed_at (seek texts p.slots.items t) (tree.get text_cmp p.others t)
