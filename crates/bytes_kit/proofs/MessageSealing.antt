-- Messages of the same fields, and what is known of a message that is read.
use Rattle.std.proofs.Common.{◌≡◌, ℕ, List, refl, sym, ap, subst, ◌∙◌, Option, Some, None}
use Rattle.std.specs.FinMap.{entries, empty, get, get-empty, same_entries_map}
use Rattle.gossip_kit.specs.Views.{MessageModel}
use Rattle.point_kit.specs.Exports.{Points}
use Rattle.point_kit.specs.Orders.{key_cmp}
use Rattle.point_kit.specs.declared.cell.Cell.{Cell}
use Rattle.point_kit.specs.declared.export_fault.ExportFault.{ExportFault}
use Rattle.point_kit.specs.declared.payload.Payload.{Payload}
use Rattle.bytes_kit.specs.MessageFits.{IsMessage, IsMessageFields, IsOneOf, IsSoundPoints, carried_fault}
use Rattle.bytes_kit.specs.Messages.{MessageFields, message_fields, body_bytes_of, fields_of_message, bytes_of_message, bytes_of_message_fields, message_head}
use Rattle.bytes_kit.specs.MessageLaws.{message_fields_code}
use Rattle.bytes_kit.specs.declared.carried.Carried.{Carried}
use Rattle.bytes_kit.proofs.Sealing.{same_fields}
use Rattle.bytes_kit.proofs.Soundness.{sound_points, points_sound}

abbrev view : ℕ → ℕ → Points → Option ℕ → Option ℕ → MessageModel
view from to points delta ack = record { from = from; to = to; points = points; delta = delta; ack = ack }

-- bodies of the same form are one
same_body : (p q : Points) (d e a b : Option ℕ) → IsOneOf p d a → IsOneOf q e b → body_bytes_of p d a ≡ body_bytes_of q e b → (p ≡ q) × ((d ≡ e) × (a ≡ b))
same_body p q d e (Some m) (Some n) h k same = (h.0 ∙ sym k.0, (h.1 ∙ sym k.1, cc))
same_body p q (Some m) (Some n) None None h k same = let es : entries p ≡ entries q = cc in (same_entries_map p q es, (cc, refl))
same_body p q None None None None h k same = let es : entries p ≡ entries q = cc in (same_entries_map p q es, (refl, refl))
same_body p q d (Some n) (Some m) None h k same = absurd cc
same_body p q d None (Some m) None h k same = absurd cc
same_body p q (Some n) e None (Some m) h k same = absurd cc
same_body p q None e None (Some m) h k same = absurd cc
same_body p q (Some m) None None None h k same = absurd cc
same_body p q None (Some m) None None h k same = absurd cc

-- and messages of the same fields
pub same_message : (m n : MessageModel) → IsOneOf m.points m.delta m.ack → IsOneOf n.points n.delta n.ack → fields_of_message m ≡ fields_of_message n → m ≡ n
same_message m n h k same =
    let both = same_body m.points n.points m.delta n.delta m.ack n.ack h k (ap (λ (s : MessageFields). s.2) same) in
    λ i. view ((same i).0) ((same i).1) (both.0 i) (both.1.0 i) (both.1.1 i)

-- no two fields have the same bytes
pub same_message_fields : (bytes : List ℕ) (x y : MessageFields) → bytes ≡ bytes_of_message_fields x → bytes ≡ bytes_of_message_fields y → x ≡ y
same_message_fields = same_fields message_head message_fields message_fields_code

not_in_empty : (o : Option (Cell Payload)) (c : Cell Payload) → o ≡ None → o ≡ Some c → ⊥
not_in_empty o c none some = cc

pub none_in_empty : IsSoundPoints empty
none_in_empty k c e = absurd (not_in_empty (get empty k) c (get-empty key_cmp k) e)

sound_carried : (points : Points) (d a : Option ℕ) → IsOneOf points d a → carried_fault (body_bytes_of points d a) ≡ None → IsSoundPoints points
sound_carried points d (Some n) h none = subst IsSoundPoints (sym h.0) none_in_empty
sound_carried points (Some n) None h none = sound_points points (entries points) refl none
sound_carried points None None h none = sound_points points (entries points) refl none

no_fault : (points : Points) (d a : Option ℕ) → IsSoundPoints points → carried_fault (body_bytes_of points d a) ≡ None
no_fault points d (Some n) sound = refl
no_fault points (Some n) None sound = points_sound points sound
no_fault points None None sound = points_sound points sound

-- and in a sound message none is found
pub message_sound : (m : MessageModel) → IsSoundPoints m.points → carried_fault (fields_of_message m).2 ≡ None
message_sound m sound = no_fault m.points m.delta m.ack sound

no_some : (o : Option ExportFault) (f : ExportFault) → o ≡ None → o ≡ Some f → ⊥
no_some o f none some = cc

-- so fields in which one is found are those of no sound message
pub faulty : (x : MessageFields) (f : ExportFault) (m : MessageModel) → IsSoundPoints m.points → carried_fault x.2 ≡ Some f → x ≡ fields_of_message m → ⊥
faulty x f m sound some same = no_some (carried_fault x.2) f (ap (λ (s : MessageFields). carried_fault s.2) same ∙ message_sound m sound) some

abbrev three : ℕ → ℕ → Carried → MessageFields
three from to c = (from, to, c)

-- what is known of a message whose body carries this
pub view_bytes : (m : MessageModel) (bytes : List ℕ) (from to : ℕ) (points : Points) (d a : Option ℕ) (c : Carried) → m ≡ view from to points d a → body_bytes_of points d a ≡ c → bytes ≡ bytes_of_message_fields (from, to, c) → bytes_of_message m ≡ bytes
view_bytes m bytes from to points d a c is_view is has = ap bytes_of_message is_view ∙ ap bytes_of_message_fields (ap (three from to) is) ∙ sym has

pub view_sound : (m : MessageModel) (from to : ℕ) (points : Points) (d a : Option ℕ) (c : Carried) → m ≡ view from to points d a → IsOneOf points d a → body_bytes_of points d a ≡ c → carried_fault c ≡ None → IsSoundPoints m.points
view_sound m from to points d a c is_view h is none = subst (λ (x : MessageModel). IsSoundPoints x.points) (sym is_view) (sound_carried points d a h (ap carried_fault is ∙ none))

pub view_fits : (m : MessageModel) (from to : ℕ) (points : Points) (d a : Option ℕ) (c : Carried) → m ≡ view from to points d a → IsOneOf points d a → body_bytes_of points d a ≡ c → IsMessageFields (three from to c) → IsMessage m
view_fits m from to points d a c is_view h is fit = subst IsMessage (sym is_view) (subst IsMessageFields (sym (ap (three from to) is)) fit, h)

pub view_is : (m n : MessageModel) (from to : ℕ) (points : Points) (d a : Option ℕ) (c : Carried) → m ≡ view from to points d a → IsOneOf points d a → body_bytes_of points d a ≡ c → IsOneOf n.points n.delta n.ack → three from to c ≡ fields_of_message n → m ≡ n
view_is m n from to points d a c is_view h is k same = is_view ∙ same_message (view from to points d a) n h k (ap (three from to) is ∙ same)
