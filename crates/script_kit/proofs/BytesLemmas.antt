-- One partial write after another.
use Rattle.std.proofs.Common.{◌≡◌, ◌≤◌, ◌+◌, ◌-◌, List, ℕ, ◌++◌, ◌∙◌, ap, arith, length, length-append, subst, take, sym, append_assoc, Option, None, Some, refl, append-nil, []}
use Rattle.std.proofs.lemmas.List.{length-take-le}
use Rattle.std.proofs.KnownBytes.{Appends-trans, Appends-nil, Appends-kept, Consumes-trans}
use Rattle.std.specs.Io.KnownBytes.{Appends, Consumes, Keeps}
use Rattle.std.specs.Prelude.{IfSome}
use Rattle.script_kit.specs.Bytes.{Leaves, AppendsFront, ReadsUpTo}

pub leaves_more : (old mid new : Option (List ℕ)) (text part rest : List ℕ) → Leaves old mid text part → Leaves mid new part rest → Leaves old new text rest
leaves_more old mid new text part rest p q = (
  p.0 ++ q.0,
  p.1 ∙ ap (λ l. p.0 ++ l) q.1 ∙ sym (append_assoc p.0 q.0 rest),
  Appends-trans old mid new p.0 q.0 p.2 q.2,
)

pub front_more : (old mid new : Option (List ℕ)) (text part : List ℕ) → Leaves old mid text part → AppendsFront mid new part → AppendsFront old new text
front_more old mid new text part p q = (q.0, leaves_more old mid new text part q.0 p q.1)

pub leaves_none : (old : Option (List ℕ)) (text : List ℕ) → Leaves old old text text
leaves_none old text = ([], refl, Appends-nil old)

-- nothing is left, so the whole text is written
pub leaves_whole : (old new : Option (List ℕ)) (text rest : List ℕ) → Leaves old new text rest → rest ≡ [] → Appends old new text
leaves_whole old new text rest p e =
    let same : text ≡ p.0 = p.1 ∙ ap (λ l. p.0 ++ l) e ∙ append-nil p.0 in
    rw same p.2

-- nothing is written of a text where the bytes stay
pub front_kept : (old new : Option (List ℕ)) (text : List ℕ) → Keeps old new → AppendsFront old new text
front_kept old new text p = (text, ([], refl, Appends-kept old old new [] (Appends-nil old) p))

-- what is read behind bytes of which there are so many
pub reads_more : (old mid new : Option (List ℕ)) (bs : List ℕ) (read most : ℕ) → Consumes old mid bs → length bs ≡ read → read ≤ most
    → ReadsUpTo mid new (most - read) → ReadsUpTo old new most
reads_more old mid new bs read most taken len few more =
    let count : length (bs ++ more.0) ≤ most = omega (arith, length-append bs more.0, len, few, more.2) in
    (bs ++ more.0, Consumes-trans old mid new bs more.0 taken more.1, count)

-- what holds of how many bytes there were, and are left behind these
pub count_behind : (old new : Option (List ℕ)) (bs : List ℕ) (P : ℕ → Type 0) → Consumes old new bs
    → IfSome new (λ rest. P (length bs + length rest)) → IfSome old (λ all. P (length all))
count_behind None new bs P taken holds = tt
count_behind (Some all) None bs P taken holds = absurd taken
count_behind (Some all) (Some rest) bs P taken holds = subst P (sym (ap length taken ∙ length-append bs rest)) holds

-- one read more
pub taken_more : (old mid new : Option (List ℕ)) (buf : List ℕ) (before read count : ℕ) → (front : List ℕ) → Consumes old mid front → before + length front ≡ read
    → Consumes mid new (take count buf) → count ≤ length buf → (x : List ℕ) × Consumes old new x × (before + length x ≡ read + count)
taken_more old mid new buf before read count front taken len got fits =
    let all : before + length (front ++ take count buf) ≡ read + count = omega (arith, length-append front (take count buf), length-take-le count buf fits, len) in
    (front ++ take count buf, Consumes-trans old mid new front (take count buf) taken got, all)
