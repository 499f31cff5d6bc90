-- The program's command, and what its matches give.
use Rattle.std.proofs.Common.{◌≡◌, ◌∙◌, List, [], Option, Some, Result, Ok, Err, refl, true, false, sym, ap, map, take, drop, codes, subst}
use Rattle.std.proofs.lemmas.Bool.{false_from_ne_true}
use Rattle.std.proofs.lemmas.List.{drop-map, take-map}
use Rattle.std.specs.Prelude.{IfOk, OnOk}
use Rattle.std.specs.Option.{option_map}
use Rattle.std.specs.Borrow.{Bor}
use Rattle.clap.proofs.OnLiterals.{clap_on_literals}
use Rattle.clap.proofs.WalkLemmas.{first_value-rows, one_text-rows, raw_values-rows}
use Rattle.clap.specs.Matches.{first_value, matched_of, one_text, raw_values}
use Rattle.clap.specs.Words.{App, Row, Text, all_of, fault_of, first_of, one_of, is_simple, is_simple_and_free, rows_of, subcommand_of, takes}
use Rattle.clap.specs.declared.parser.matches.Found.{Found}
use Rattle.rollup_kit.specs.declared.ask.Ask.{Ask}
use Rattle.file_kit.specs.AskWords.{IsAsk}
use Rattle.file_kit.specs.ArchiveWords.{IsArchiving}
use Rattle.file_kit.specs.Commands.{otm, otm_asking, otm_keeping, otm_sending, named_by, Asks, AsksArchive, HasFiles, HasNoArchive, HasNoAsk, HasWords}
use Rattle.file_kit.specs.declared.archive.Archiving.{Archiving}
use Rattle.file_kit.specs.declared.command.FileCommand.TheVariants as command

pub otm_is_simple : is_simple otm ≡ true
unfolding otm otm_asking otm_keeping otm_sending clap_on_literals
otm_is_simple = refl

pub otm_is_free : is_simple_and_free otm ≡ true
unfolding otm otm_asking otm_keeping otm_sending clap_on_literals
otm_is_free = refl

pub on_ok : {A E : Type 0} (r : Result A E) (P : Type 0) → P → OnOk r P
on_ok (Ok a) P p = p
on_ok (Err e) P p = tt

-- what the matches of the program's command name is what the words name
pub named_is : (a : App) (words : List Text) (found : Option (Text × List Row)) → a ≡ otm → (is_simple a ≡ true → found ≡ subcommand_of a words) → found ≡ named_by words
unfolding named_by
named_is a words found is gives = gives (ap is_simple is ∙ otm_is_simple) ∙ ap (λ (b : App). subcommand_of b words) is

-- nothing is wrong with words of which nothing is wrong for the program's command
pub nothing_wrong : (a : App) (words : List Text) → a ≡ otm → (is_simple_and_free a ≡ true → fault_of a words ≡ []) → fault_of otm words ≡ []
nothing_wrong a words is gives = sym (ap (λ (b : App). fault_of b words) is) ∙ gives (ap is_simple_and_free is ∙ otm_is_free)

-- words are not taken where it is wrong that they are
pub not_taken : (a : App) (words : List Text) → a ≡ otm → (takes a words ≡ true → ⊥) → takes otm words ≡ false
not_taken a words is wrong = false_from_ne_true (takes otm words) (λ taken. wrong (ap (λ (b : App). takes b words) is ∙ taken))

-- the values that are lent are those of the matches
pub lent : (f : Found) (id : Text) (o : Option (Bor (List (Bor Text)))) (s : Bor (List (Bor Text)))
    → option_map (λ s. map (λ v. v.now) s.now) o ≡ option_map raw_values (matched_of f id) → o ≡ Some s
    → all_of id (rows_of f) ≡ Some (map (λ v. v.now) s.now)
lent f id o s gives is = sym (raw_values-rows f id) ∙ sym gives ∙ ap (option_map (λ s. map (λ v. v.now) s.now)) is

-- the text that is lent is that of the matches
pub first_lent : (f : Found) (id : Text) → first_value f id ≡ first_of id (rows_of f)
first_lent f id = first_value-rows f id

-- and the text that a flag is read as
pub flag_lent : (f : Found) (id text : Text) → one_of id (rows_of f) ≡ Some text → one_text f id ≡ Some text
flag_lent f id text is = one_text-rows f id ∙ is

-- texts that are the values of the files
pub files_are : {E : Type 0} (rows : List Row) (words : List Text) (r : Result (List Text) E) → all_of (codes "files") rows ≡ Some words
    → IfOk r (λ ts. ts ≡ words) → IfOk r (HasFiles rows)
files_are rows words (Ok ts) given same = given ∙ ap (λ (l : List Text). Some l) (sym same)
files_are rows words (Err e) given same = tt

-- lent words, and their texts
abbrev texts_of : List (Bor Text) → List Text
texts_of ws = map (λ w. w.now) ws

module _ (rows : List Row) (ws front : List (Bor Text)) (given : all_of (codes "words") rows ≡ Some (map (λ w. w.now) ws)) (first : front ≡ take 7 ws) where
  -- the words of a report
  pub has_words : HasWords (Some (codes "report", rows)) (map (λ w. w.now) ws)
  has_words = (rows, refl, given)

  front_is : map (λ w. w.now) front ≡ take 7 (map (λ w. w.now) ws)
  front_is = ap texts_of first ∙ sym (take-map (λ (w : Bor Text). w.now) 7 ws)

  -- they ask, and the others are files
  pub report_asks : (back : List (Bor Text)) (ask : Ask) (files : List Text) → back ≡ drop 7 ws → IsAsk (map (λ w. w.now) front) ask → files ≡ map (λ w. w.now) back
      → Asks (Some (codes "report", rows)) (command.Report ask files)
  report_asks back ask files last asks are =
      (map (λ w. w.now) ws, has_words, subst (λ (l : List Text). IsAsk l ask) front_is asks, are ∙ ap texts_of last ∙ sym (drop-map (λ (w : Bor Text). w.now) 7 ws))

  -- they ask for none
  pub no_ask : ((ask : Ask) → IsAsk (map (λ w. w.now) front) ask → ⊥) → HasNoAsk (Some (codes "report", rows))
  no_ask none = (map (λ w. w.now) ws, has_words, λ ask asks. none ask (subst (λ (l : List Text). IsAsk l ask) (sym front_is) asks))

-- the words of an archive, parted
module _ (rows : List Row) (ws front rest one : List (Bor Text)) (limit : Option Text) (first : front ≡ take 3 ws) (behind : rest ≡ drop 3 ws) (next : one ≡ take 1 rest)
    (told : limit ≡ first_of (codes "limit") rows) where
  who_is : texts_of front ≡ take 3 (texts_of ws)
  who_is = ap texts_of first ∙ sym (take-map (λ (w : Bor Text). w.now) 3 ws)

  when_is : texts_of one ≡ take 1 (drop 3 (texts_of ws))
  when_is = ap texts_of (next ∙ ap (take 1) behind) ∙ sym (take-map (λ (w : Bor Text). w.now) 1 (drop 3 ws)) ∙ ap (take 1) (sym (drop-map (λ (w : Bor Text). w.now) 3 ws))

  same_asked : (ask : Archiving) → ◌≡◌ {A = Type 0} (IsArchiving (texts_of front) (texts_of one) limit ask) (AsksArchive rows (texts_of ws) ask)
  same_asked ask =
      ap (λ (l : List Text). IsArchiving l (texts_of one) limit ask) who_is
      ∙ ap (λ (l : List Text). IsArchiving (take 3 (texts_of ws)) l limit ask) when_is
      ∙ ap (λ (o : Option Text). IsArchiving (take 3 (texts_of ws)) (take 1 (drop 3 (texts_of ws))) o ask) told

  pub asks_archive : {E : Type 0} (r : Result Archiving E) → IfOk r (IsArchiving (texts_of front) (texts_of one) limit) → IfOk r (AsksArchive rows (texts_of ws))
  asks_archive (Ok ask) is = subst (λ X. X) (same_asked ask) is
  asks_archive (Err e) is = tt

  pub asks_none : ((ask : Archiving) → IsArchiving (texts_of front) (texts_of one) limit ask → ⊥) → (ask : Archiving) → AsksArchive rows (texts_of ws) ask → ⊥
  asks_none none ask is = none ask (subst (λ X. X) (sym (same_asked ask)) is)

module _ (rows : List Row) (ws : List (Bor Text)) (given : all_of (codes "words") rows ≡ Some (map (λ w. w.now) ws)) where
  -- they ask, and the others are files
  pub archive_asks : (into : Text) (ask : Archiving) (back : List (Bor Text)) (files : List Text) → first_of (codes "output") rows ≡ Some into → AsksArchive rows (map (λ w. w.now) ws) ask
      → back ≡ drop 4 ws → files ≡ map (λ w. w.now) back → Asks (Some (codes "archive", rows)) (command.Archive into ask files)
  archive_asks into ask back files out asks last are =
      (rows, map (λ w. w.now) ws, (refl, given), out, asks, are ∙ ap texts_of last ∙ sym (drop-map (λ (w : Bor Text). w.now) 4 ws))

  -- they ask for none
  pub no_archive : ((ask : Archiving) → AsksArchive rows (map (λ w. w.now) ws) ask → ⊥) → HasNoArchive (Some (codes "archive", rows))
  no_archive none = (rows, map (λ w. w.now) ws, (refl, given), none)
