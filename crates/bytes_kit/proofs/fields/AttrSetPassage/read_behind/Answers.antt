use Rattle.std.proofs.Common.{subst, sym}
use Rattle.std.proofs.lemmas.Bool.{false≢true}
use Rattle.attr_kit.specs.Attributes.{AreAttributes}
use Rattle.bytes_kit.specs.Fits.{IsSet}
use Rattle.bytes_kit.specs.Format.{attributes}
use Rattle.bytes_kit.specs.FieldLaws.{attributes_code}
use Rattle.bytes_kit.proofs.Refusing.{none_but}
use Rattle.bytes_kit.proofs.fields.AttrSetPassage.read_behind.Goals as goal

pub returns-then-not-are_attributes-clause-found : goal.returns-then-not-are_attributes-clause-found
returns-then-not-are_attributes-clause-found c =
    let p = c.args.history.now in
    λ _. none_but (attributes p) IsSet (attributes_code p) c.in_ok-pairs.pairs c.args.reader.now.rest c.read_behind.new.reader.rest c.in_ok-pairs.ensures.found (λ fit. false≢true (c.if-not-are_attributes.ensures.1 (subst AreAttributes (sym c.as_slice.ensures) fit.1)))
