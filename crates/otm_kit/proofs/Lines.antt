-- What one line more declares and says.
use Rattle.std.proofs.Common.{◌≡◌, ℕ, Bool, true, false, ◌||◌, List, [], ◌∷◌, ◌++◌, Option, None, refl, ap, ◌∙◌, append-nil}
use Rattle.std.specs.List.{filter_map}
use Rattle.std.specs.Prelude.{fold}
use Rattle.std.proofs.lemmas.List.Elements.{filter_map-append}
use Rattle.std.proofs.lemmas.List.Folds.{list_any-append}
use Rattle.std.proofs.lemmas.List.Sums.{fold_push}
use Rattle.script_kit.specs.declared.line.Command.{Command}
use Rattle.script_kit.specs.declared.line.Declaration.{Declaration}
use Rattle.script_kit.specs.declared.line.Declaration.TheVariants as declaration
use Rattle.script_kit.specs.declared.line.Line.{Line}
use Rattle.script_kit.specs.declared.line.Line.TheVariants as line
use Rattle.script_kit.specs.declared.line.Query.{Query}
use Rattle.otm_kit.specs.Declarations.{Declared, declared_by, with_declaration, instrument_label, instrument_in, view_in, writer_label, writer_in, gateway_in, limit_after}
use Rattle.otm_kit.specs.Effects.{has_begun, is_begin}
use Rattle.otm_kit.specs.Events.{commands, command_in}

-- a line that gives nothing, and one that gives something
skip : {X Y : Type 0} (f : X → Option Y) (xs : List X) (x : X) → filter_map f (x ∷ []) ≡ [] → filter_map f (xs ++ x ∷ []) ≡ filter_map f xs
skip f xs x e = filter_map-append f xs (x ∷ []) ∙ ap (λ ys. filter_map f xs ++ ys) e ∙ append-nil (filter_map f xs)

push : {X Y : Type 0} (f : X → Option Y) (xs : List X) (x : X) (y : Y) → filter_map f (x ∷ []) ≡ y ∷ [] → filter_map f (xs ++ x ∷ []) ≡ filter_map f xs ++ y ∷ []
push f xs x y e = filter_map-append f xs (x ∷ []) ∙ ap (λ ys. filter_map f xs ++ ys) e

same_parts : (a b : Declared) → a.instrument_labels ≡ b.instrument_labels → a.instruments ≡ b.instruments → a.views ≡ b.views → a.writer_labels ≡ b.writer_labels → a.writers ≡ b.writers → a.gateways ≡ b.gateways → a.limit ≡ b.limit → a ≡ b
same_parts a b p q r s t u v = λ i. record { instrument_labels = p i; instruments = q i; views = r i; writer_labels = s i; writers = t i; gateways = u i; limit = v i }

pub declares_more : (lines : List Line) (x : Declaration) → declared_by (lines ++ line.Declare x ∷ []) ≡ with_declaration (declared_by lines) x
unfolding declared_by with_declaration
declares_more ls (declaration.Instrument label instrument) = let x = line.Declare (declaration.Instrument label instrument) in
    same_parts _ _ (push instrument_label ls x label refl) (push instrument_in ls x instrument refl) (skip view_in ls x refl) (skip writer_label ls x refl) (skip writer_in ls x refl) (skip gateway_in ls x refl) (fold_push limit_after None ls x)
declares_more ls (declaration.View view) = let x = line.Declare (declaration.View view) in
    same_parts _ _ (skip instrument_label ls x refl) (skip instrument_in ls x refl) (push view_in ls x view refl) (skip writer_label ls x refl) (skip writer_in ls x refl) (skip gateway_in ls x refl) (fold_push limit_after None ls x)
declares_more ls (declaration.Writer label id start) = let x = line.Declare (declaration.Writer label id start) in
    same_parts _ _ (skip instrument_label ls x refl) (skip instrument_in ls x refl) (skip view_in ls x refl) (push writer_label ls x label refl) (push writer_in ls x (id, start) refl) (skip gateway_in ls x refl) (fold_push limit_after None ls x)
declares_more ls (declaration.Gateway id) = let x = line.Declare (declaration.Gateway id) in
    same_parts _ _ (skip instrument_label ls x refl) (skip instrument_in ls x refl) (skip view_in ls x refl) (skip writer_label ls x refl) (skip writer_in ls x refl) (push gateway_in ls x id refl) (fold_push limit_after None ls x)
declares_more ls (declaration.Limit limit) = let x = line.Declare (declaration.Limit limit) in
    same_parts _ _ (skip instrument_label ls x refl) (skip instrument_in ls x refl) (skip view_in ls x refl) (skip writer_label ls x refl) (skip writer_in ls x refl) (skip gateway_in ls x refl) (fold_push limit_after None ls x)

-- a line that declares nothing
pub data IsQuiet : Line → Type 0 where
  no_line : IsQuiet line.Nothing
  a_begin : IsQuiet line.Begin
  a_command : (c : Command) → IsQuiet (line.Do c)
  a_query : (q : Query) → IsQuiet (line.Ask q)

no_parts : (ls : List Line) (x : Line) → filter_map instrument_label (x ∷ []) ≡ [] → filter_map instrument_in (x ∷ []) ≡ [] → filter_map view_in (x ∷ []) ≡ [] → filter_map writer_label (x ∷ []) ≡ [] → filter_map writer_in (x ∷ []) ≡ [] → filter_map gateway_in (x ∷ []) ≡ [] → ((l : Option ℕ) → limit_after l x ≡ l) → declared_by (ls ++ x ∷ []) ≡ declared_by ls
unfolding declared_by
no_parts ls x p q r s t u v = same_parts _ _ (skip instrument_label ls x p) (skip instrument_in ls x q) (skip view_in ls x r) (skip writer_label ls x s) (skip writer_in ls x t) (skip gateway_in ls x u) (fold_push limit_after None ls x ∙ v (fold limit_after None ls))

pub declares_none : (lines : List Line) (x : Line) → IsQuiet x → declared_by (lines ++ x ∷ []) ≡ declared_by lines
declares_none ls x no_line = no_parts ls line.Nothing refl refl refl refl refl refl (λ l. refl)
declares_none ls x a_begin = no_parts ls line.Begin refl refl refl refl refl refl (λ l. refl)
declares_none ls x (a_command c) = no_parts ls (line.Do c) refl refl refl refl refl refl (λ l. refl)
declares_none ls x (a_query q) = no_parts ls (line.Ask q) refl refl refl refl refl refl (λ l. refl)

or_false : (b : Bool) → (b || false) ≡ b
or_false true = refl
or_false false = refl

or_true : (b : Bool) → (b || true) ≡ true
or_true true = refl
or_true false = refl

pub begun_more : (lines : List Line) (x : Line) → is_begin x ≡ false → has_begun (lines ++ x ∷ []) ≡ has_begun lines
unfolding has_begun
begun_more lines x e = list_any-append is_begin lines (x ∷ []) ∙ ap (λ b. has_begun lines || (b || false)) e ∙ or_false (has_begun lines)

pub begun_now : (lines : List Line) → has_begun (lines ++ line.Begin ∷ []) ≡ true
unfolding has_begun
begun_now lines = list_any-append is_begin lines (line.Begin ∷ []) ∙ or_true (has_begun lines)

pub commands_more : (lines : List Line) (c : Command) → commands (lines ++ line.Do c ∷ []) ≡ commands lines ++ c ∷ []
unfolding commands
commands_more lines c = push command_in lines (line.Do c) c refl

pub commands_nothing : (lines : List Line) → commands (lines ++ line.Nothing ∷ []) ≡ commands lines
unfolding commands
commands_nothing lines = skip command_in lines line.Nothing refl

pub commands_declare : (lines : List Line) (x : Declaration) → commands (lines ++ line.Declare x ∷ []) ≡ commands lines
unfolding commands
commands_declare lines x = skip command_in lines (line.Declare x) refl

pub commands_begin : (lines : List Line) → commands (lines ++ line.Begin ∷ []) ≡ commands lines
unfolding commands
commands_begin lines = skip command_in lines line.Begin refl

pub commands_ask : (lines : List Line) (q : Query) → commands (lines ++ line.Ask q ∷ []) ≡ commands lines
unfolding commands
commands_ask lines q = skip command_in lines (line.Ask q) refl
