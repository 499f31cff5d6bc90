use Rattle.std.proofs.Common.{refl}
use Rattle.bytes_kit.specs.Format.{fields_of, bytes_of, head, fields}
use Rattle.bytes_kit.specs.FieldLaws.{fields_code}
use Rattle.bytes_kit.proofs.Sealing.{same_fields, same_export}
use Rattle.bytes_kit.proofs.laws.one_form.Goals as goal

pub returns : goal.returns
returns c = λ a b e. same_export a b (same_fields head fields fields_code (bytes_of a) (fields_of a) (fields_of b) refl e)
