-- What happened in a world: the accepted events, the newest first. What is true of writers, mails and gateways is read off them.
use Rattle.std.specs.Prelude.{◌≡◌, ℕ, ◌+◌, ◌<◌, ◌≤◌, Bool, true, false, ◌&&◌, ◌==◌, nat_lt, if◌then◌else◌, List, [], ◌∷◌, ◌++◌, length, slice_index, Option, None, Some}
use Rattle.std.specs.Option.{option_map_or}
use Rattle.schedule_kit.specs.Members.{In}
use Rattle.schedule_kit.specs.Schedule.{Act, start_of, entries_of, IsAccepted}
use Rattle.schedule_kit.specs.Schedule.Act.{Collected}

-- an accepted event; of a Hand also whether it made a mail
pub data Deed (N : Type 0) : Type 0 where
  Wrote : (writer : ℕ) (act : Act N) → Deed N
  Delivered : (export gateway : ℕ) → Deed N
  Merged : (into from : ℕ) → Deed N
  Sent : (from to : ℕ) → Deed N
  Handed : (mail gateway : ℕ) (answered : Bool) → Deed N

-- what happened to writer w
abbrev pub acts_of : {N : Type 0} → ℕ → List (Deed N) → List (Act N)
acts_of w [] = []
acts_of w (Wrote v act ∷ ds) = if v == w then act ∷ acts_of w ds else acts_of w ds
acts_of w (_ ∷ ds) = acts_of w ds

-- the first n deeds
abbrev pub first : {N : Type 0} → ℕ → List (Deed N) → List (Deed N)
first n [] = []
first n (d ∷ ds) = if nat_lt (length ds) n then d ∷ ds else first n ds

-- no two of as many writers as there are starts share an identity
abbrev pub IsTold : {I : Type 0} → (ℕ → I) → List ℕ → Type 0
IsTold who starts = (v w : ℕ) → v < length starts → w < length starts → who v ≡ who w → v ≡ w

-- of writers that began at these starts, by their places
module _ {N : Type 0} (starts : List ℕ) where
  -- the start of writer w
  abbrev pub start_at : List (Deed N) → ℕ → ℕ
  start_at ds w = start_of (slice_index starts w) (acts_of w ds)

  -- what writer w recorded while its start was `start`
  abbrev pub entries_at : List (Deed N) → ℕ → ℕ → List N
  entries_at ds w start = entries_of (slice_index starts w) (acts_of w ds) start

-- a collection: its export's number, its writer's place, its incarnation, its time, how many deeds came before, and the entries that it covers
pub record Made (N : Type 0) : Type 0 where
  pub number : ℕ
  pub writer : ℕ
  pub start : ℕ
  pub time : ℕ
  pub before : ℕ
  pub entries : List N

-- the collections, the newest first
abbrev pub made : {N : Type 0} → List ℕ → List (Deed N) → List (Made N)
made starts [] = []
made starts (Wrote w (Collected time closing) ∷ ds) =
    record { number = length (made starts ds) + 1; writer = w; start = start_at starts ds w; time = time; before = length ds; entries = entries_at starts ds w (start_at starts ds w) } ∷ made starts ds
made starts (_ ∷ ds) = made starts ds

-- how many mails were made
abbrev pub mails : {N : Type 0} → List (Deed N) → ℕ
mails [] = 0
mails (Sent from to ∷ ds) = mails ds + 1
mails (Handed m g answered ∷ ds) = if answered then mails ds + 1 else mails ds
mails (_ ∷ ds) = mails ds

-- what holds exports: a gateway, or a mail
pub data Holder : Type 0 where
  AtGateway : (gateway : ℕ) → Holder
  InMail : (mail : ℕ) → Holder

-- the numbers of the exports that a holder took: those delivered, those that the source of a merge had then, and those that a handed mail's sender had when it was sent
abbrev pub took : {N : Type 0} → List (Deed N) → Holder → List ℕ
took [] h = []
took (Delivered x g ∷ ds) (AtGateway h) = if g == h then took ds (AtGateway h) ++ x ∷ [] else took ds (AtGateway h)
took (Merged into from ∷ ds) (AtGateway h) = if into == h then took ds (AtGateway h) ++ took ds (AtGateway from) else took ds (AtGateway h)
took (Handed m g answered ∷ ds) (AtGateway h) = if g == h then took ds (AtGateway h) ++ took ds (InMail m) else took ds (AtGateway h)
took (Sent from to ∷ ds) (InMail n) = if n == mails ds + 1 then took ds (AtGateway from) else took ds (InMail n)
took (_ ∷ ds) h = took ds h

-- two holders took the same exports: order and repeats do not count
abbrev pub TookSame : {N : Type 0} → List (Deed N) → Holder → Holder → Type 0
TookSame ds g h = ((k : ℕ) → In k (took ds g) → In k (took ds h)) × ((k : ℕ) → In k (took ds h) → In k (took ds g))

-- a mail: from which gateway to which, and whether a Send made it
pub record Mail : Type 0 where
  pub from : ℕ
  pub to : ℕ
  pub is_sent : Bool

-- the answer of gateway g to a mail
abbrev pub answer_to : ℕ → Option Mail → Option Mail
answer_to g None = None
answer_to g (Some m) = Some (record { from = g; to = m.from; is_sent = false })

-- the mail of a number
abbrev pub mail_of : {N : Type 0} → List (Deed N) → ℕ → Option Mail
mail_of [] n = None
mail_of (Sent from to ∷ ds) n = if n == mails ds + 1 then Some (record { from = from; to = to; is_sent = true }) else mail_of ds n
mail_of (Handed m g answered ∷ ds) n = if answered && (n == mails ds + 1) then answer_to g (mail_of ds m) else mail_of ds n
mail_of (_ ∷ ds) n = mail_of ds n

-- whether a mail was sent to gateway g
abbrev pub is_to : ℕ → Option Mail → Bool
is_to g m = option_map_or (λ x. x.to == g) m false

-- where each deed is accepted, in a world of that many gateways; `fits w` says which entry writer w takes after which others
module _ {N : Type 0} (fits : ℕ → List N → N → Bool) (starts : List ℕ) (gateways : ℕ) where
  abbrev pub IsLawful : List (Deed N) → Deed N → Type 0
  IsLawful ds (Wrote w act) = (w < length starts) × IsAccepted (fits w) (slice_index starts w) (acts_of w ds) act
  IsLawful ds (Delivered x g) = (0 < x) × (x ≤ length (made starts ds)) × (g < gateways)
  IsLawful ds (Merged into from) = (into < gateways) × (from < gateways)
  IsLawful ds (Sent from to) = (from < gateways) × (to < gateways)
  IsLawful ds (Handed m g answered) = (0 < m) × (m ≤ mails ds) × (g < gateways) × (is_to g (mail_of ds m) ≡ true)

  -- each was accepted after those before it
  abbrev pub AreLawful : List (Deed N) → Type 0
  AreLawful [] = Unit {0}
  AreLawful (d ∷ ds) = IsLawful ds d × AreLawful ds
