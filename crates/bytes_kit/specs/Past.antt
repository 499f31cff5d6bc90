-- What came before a form: the texts that are not written again, and the stream that the next point may share.
use Rattle.std.specs.Prelude.{ℕ, nat_eq, nat_le, Bool, true, false, ◌&&◌, List, [], ◌∷◌, ◌++◌, length, Option, Some, None}
use Rattle.std.specs.Cmp.Lexicographic.{pointwise}
use Rattle.std.specs.List.{position}
use Rattle.attr_kit.specs.Refusing.{when}
use Rattle.point_kit.specs.contracts.stream.StreamPartialEq.TheImpl as streams
use Rattle.point_kit.specs.declared.shape.Shape.{Shape}
use Rattle.point_kit.specs.declared.shape.Shape.TheVariants as shapes
use Rattle.point_kit.specs.declared.stream.Stream.{Stream}

-- the texts that came, each once, in the order in which they first came; and the stream that came last, if it is light
pub record Past : Type 0 where
  pub texts : List (List ℕ)
  pub stream : Option Stream

-- nothing came
abbrev pub no_past : Past
no_past = record { texts = []; stream = None }

-- the place of a text among those that came
unfoldable pub place_of : List (List ℕ) → List ℕ → Option ℕ
place_of texts t = position (pointwise nat_eq t) texts

-- so long is a text that has a place: it is copied for each of its uses, so a longer one stands at each of them
abbrev pub longest : ℕ
longest = 64

abbrev pub is_short : List ℕ → Bool
is_short t = nat_le (length t) longest

abbrev pub has_few_bounds : Shape → Bool
has_few_bounds (shapes.Histogram bounds) = nat_le (length bounds) longest
has_few_bounds s = true

-- a stream that is copied or compared for each of its uses at little cost: no text of it is long, and its bounds are few
abbrev pub is_light : Stream → Bool
is_light s = (is_short s.scope && is_short s.name) && (is_short s.unit && has_few_bounds s.shape)

-- what a later form may share of a stream: one that is not light stands at each of its uses, as a long text does
abbrev pub shareable : Stream → Option Stream
shareable s = when (is_light s) s

-- the texts and one more
abbrev pub more_texts : List (List ℕ) → List ℕ → Bool → List (List ℕ)
more_texts texts t true = texts ++ t ∷ []
more_texts texts t false = texts

-- the texts behind one: where it has no place and is not too long, it comes last
abbrev pub texts_behind : List (List ℕ) → List ℕ → Option ℕ → List (List ℕ)
texts_behind texts t None = more_texts texts t (is_short t)
texts_behind texts t (Some place) = texts

abbrev pub with_texts : Past → List (List ℕ) → Past
with_texts p texts = record { texts = texts; stream = p.stream }

abbrev pub with_stream : Past → Stream → Past
with_stream p s = record { texts = p.texts; stream = shareable s }

-- what came, once a text came too
abbrev pub past_text : Past → List ℕ → Past
past_text p t = with_texts p (texts_behind p.texts t (place_of p.texts t))

-- whether a stream is the last that came, which was light
abbrev pub is_last : Option Stream → Stream → Bool
is_last None s = false
is_last (Some r) s = (streams.ghosts).eq r s
