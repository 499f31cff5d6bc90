-- Names as Prometheus wants them: of ASCII letters, digits and `_`, a letter first.
use Rattle.std.specs.Prelude.{ℕ, ◌-◌, ◌==◌, ◌||◌, nat_eq, if◌then◌else◌, Bool, true, false, List, [], ◌∷◌, ◌++◌, length, take, drop, slice_index}
use Rattle.std.specs.Char.{is_ascii_alphabetic, is_ascii_alphanumeric}
use Rattle.std.specs.Cmp.Lexicographic.{pointwise}
use Rattle.std.specs.List.{starts_with, ends_with}

-- two texts have the same bytes
abbrev pub same : List ℕ → List ℕ → Bool
same = pointwise nat_eq

-- the `_`, behind which a text goes on
abbrev pub mark : ℕ
mark = 95

-- bytes, within a run of bytes that are no ASCII letters or digits or not, with each longest such run as one `_`
abbrev pub line_from : Bool → List ℕ → List ℕ
line_from in_run [] = []
line_from in_run (c ∷ cs) =
    if is_ascii_alphanumeric c then c ∷ line_from false cs
    else (if in_run then line_from true cs else mark ∷ line_from true cs)

unfoldable pub line : List ℕ → List ℕ
line bytes = line_from false bytes

-- what stands before a name so that it begins with a letter: nothing where it does; a name without a first byte has a 0 there
abbrev pub lead : List ℕ → List ℕ → List ℕ
lead word name =
    if is_ascii_alphabetic (slice_index name 0) then []
    else (if slice_index name 0 == mark then word else word ++ mark ∷ [])

unfoldable pub led : List ℕ → List ℕ → List ℕ
led word name = lead word name ++ name

-- a text without this at its end, or at its front, where it stands there
unfoldable pub without_suffix : List ℕ → List ℕ → List ℕ
without_suffix suffix text = if ends_with nat_eq text suffix then take (length text - length suffix) text else text

unfoldable pub without_prefix : List ℕ → List ℕ → List ℕ
without_prefix prefix text = if starts_with nat_eq text prefix then drop (length prefix) text else text

-- a text without `_` at either end
abbrev pub trimmed : List ℕ → List ℕ
trimmed text = without_suffix (mark ∷ []) (without_prefix (mark ∷ []) text)

-- a part stands in a text
abbrev pub has_part : List ℕ → List ℕ → Bool
has_part part [] = false
has_part part (c ∷ cs) = starts_with nat_eq (c ∷ cs) part || has_part part cs
