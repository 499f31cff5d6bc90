-- What bytes of a message, and of an export, are read as.
use Rattle.std.proofs.Common.{◌≡◌, ◌∙◌, ℕ, List, Result, Ok, Err, ap, sym, refl, true, false}
use Rattle.std.specs.Prelude.{IfOk, is_ok}
use Rattle.bytes_kit.specs.Fits.{IsExport}
use Rattle.bytes_kit.specs.Format.{bytes_of, with_checksum}
use Rattle.bytes_kit.specs.MessageFits.{IsMessage, IsSoundPoints}
use Rattle.bytes_kit.specs.Messages.{bytes_of_message}
use Rattle.bytes_kit.specs.declared.fault.DecodeFault.{DecodeFault}
use Rattle.bytes_kit.specs.declared.fault.DecodeFault.TheVariants as faults
use Rattle.gossip_kit.specs.Views.{MessageModel}
use Rattle.point_kit.specs.declared.export.Export.{Export}
use Rattle.file_kit.specs.Contents.{form, is_message, HasContent, IsContent, IsOf}
use Rattle.file_kit.specs.declared.content.Content.{Content}
use Rattle.file_kit.specs.declared.content.Content.TheVariants as content

-- the letters of messages and of exports
pub message_letter : (m : MessageModel) → is_message (bytes_of_message m) ≡ true
unfolding with_checksum
message_letter m = refl

pub export_letter : (e : Export) → is_message (bytes_of e) ≡ false
unfolding with_checksum
export_letter e = refl

-- bytes of which something is read have a content
pub ok_has : (bytes : List ℕ) (r : Result Content DecodeFault) → IfOk r (IsOf bytes) → is_ok r ≡ true → HasContent bytes
ok_has bytes (Ok c) is ok = (c, is)
ok_has bytes (Err fault) is ok = let bad : false ≡ true = ok in cc

module _ (bytes : List ℕ) where
  pub message_read : is_message bytes ≡ true → (m : MessageModel)
      → ((k : MessageModel) → IsMessage k → IsSoundPoints k.points → bytes ≡ bytes_of_message k → m ≡ k)
      → (c : Content) → IsContent c → bytes ≡ form c → content.Message m ≡ c
  message_read letter m found (content.Message k) fits is = ap (λ (x : MessageModel). content.Message x) (found k fits.0 fits.1 is)
  message_read letter m found (content.Export e) fits is = let bad : true ≡ false = sym letter ∙ ap is_message is ∙ export_letter e in cc

  pub message_unread : is_message bytes ≡ true → (f : DecodeFault)
      → ((k : MessageModel) → IsMessage k → IsSoundPoints k.points → bytes ≡ bytes_of_message k → f ≡ faults.NoMemory)
      → (c : Content) → IsContent c → bytes ≡ form c → f ≡ faults.NoMemory
  message_unread letter f found (content.Message k) fits is = found k fits.0 fits.1 is
  message_unread letter f found (content.Export e) fits is = let bad : true ≡ false = sym letter ∙ ap is_message is ∙ export_letter e in cc

  pub export_read : is_message bytes ≡ false → (x : Export) → ((e : Export) → IsExport e → bytes ≡ bytes_of e → x ≡ e)
      → (c : Content) → IsContent c → bytes ≡ form c → content.Export x ≡ c
  export_read letter x found (content.Export e) fits is = ap (λ (y : Export). content.Export y) (found e fits is)
  export_read letter x found (content.Message k) fits is = let bad : false ≡ true = sym letter ∙ ap is_message is ∙ message_letter k in cc

  pub export_unread : is_message bytes ≡ false → (f : DecodeFault) → ((e : Export) → IsExport e → bytes ≡ bytes_of e → f ≡ faults.NoMemory)
      → (c : Content) → IsContent c → bytes ≡ form c → f ≡ faults.NoMemory
  export_unread letter f found (content.Export e) fits is = found e fits is
  export_unread letter f found (content.Message k) fits is = let bad : false ≡ true = sym letter ∙ ap is_message is ∙ message_letter k in cc
