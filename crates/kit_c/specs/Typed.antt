-- What a handle of one kind has: that, or nothing.
use Rattle.std.specs.Prelude.{ℕ, Bool, true, List, Option, Some, None}
use Rattle.std.specs.Option.{is_some}
use Rattle.archive_kit.specs.Archive.{ArchiveState}
use Rattle.attr_kit.specs.declared.attr_set.AttrSet.{AttrSet}
use Rattle.attr_kit.specs.declared.attr_value.AttrValue.{AttrValue}
use Rattle.gossip_kit.specs.Views.{MessageModel, NodeModel}
use Rattle.plan_kit.specs.Plans.{Planned}
use Rattle.plan_kit.specs.declared.instrument.Instrument.{Instrument}
use Rattle.plan_kit.specs.declared.view.View.{View as TheView}
use Rattle.point_kit.specs.declared.export.Export.{Export as TheExport}
use Rattle.point_kit.specs.declared.stream.Stream.{Stream}
use Rattle.recorder_kit.specs.Log.{Logged}
use Rattle.rollup_kit.specs.declared.ask.Ask.{Ask as TheAsk}
use Rattle.rollup_kit.specs.declared.row.Row.{Row}
use Rattle.writer_kit.specs.Written.{Written}
use Rattle.kit_c.specs.declared.desk.Desk.{Desk as TheDesk}
use Rattle.kit_c.specs.declared.incarnations.Incarnation.{Incarnation}
use Rattle.kit_c.specs.declared.content.Content.{Content}
use Rattle.kit_c.specs.declared.content.Content.TheVariants.{Archive, Ask, Attributes, Bytes, Desk, Export, Exports, Gateway, Incarnations, Instruments, Keys, Message, Pairs, Plan, Recorder, Rows, Streams, Text, View, Views, Writer}

abbrev pub pairs_in : Option Content → Option (List (List ℕ × AttrValue))
pairs_in (Some (Pairs x)) = Some x
pairs_in m = None

abbrev pub attributes_in : Option Content → Option AttrSet
attributes_in (Some (Attributes x)) = Some x
attributes_in m = None

abbrev pub instruments_in : Option Content → Option (List Instrument)
instruments_in (Some (Instruments x)) = Some x
instruments_in m = None

abbrev pub view_in : Option Content → Option TheView
view_in (Some (View x)) = Some x
view_in m = None

abbrev pub views_in : Option Content → Option (List TheView)
views_in (Some (Views x)) = Some x
views_in m = None

abbrev pub keys_in : Option Content → Option (List (List ℕ))
keys_in (Some (Keys x)) = Some x
keys_in m = None

abbrev pub plan_in : Option Content → Option Planned
plan_in (Some (Plan x)) = Some x
plan_in m = None

abbrev pub writer_in : Option Content → Option Written
writer_in (Some (Writer x)) = Some x
writer_in m = None

abbrev pub recorder_in : Option Content → Option Logged
recorder_in (Some (Recorder x)) = Some x
recorder_in m = None

abbrev pub export_in : Option Content → Option TheExport
export_in (Some (Export x)) = Some x
export_in m = None

abbrev pub exports_in : Option Content → Option (List TheExport)
exports_in (Some (Exports x)) = Some x
exports_in m = None

abbrev pub gateway_in : Option Content → Option NodeModel
gateway_in (Some (Gateway x)) = Some x
gateway_in m = None

abbrev pub message_in : Option Content → Option MessageModel
message_in (Some (Message x)) = Some x
message_in m = None

abbrev pub archive_in : Option Content → Option ArchiveState
archive_in (Some (Archive x)) = Some x
archive_in m = None

abbrev pub seat_in : Option Content → Option TheDesk
seat_in (Some (Desk x)) = Some x
seat_in m = None

abbrev pub ask_in : Option Content → Option TheAsk
ask_in (Some (Ask x)) = Some x
ask_in m = None

abbrev pub rows_in : Option Content → Option (List Row)
rows_in (Some (Rows x)) = Some x
rows_in m = None

abbrev pub streams_in : Option Content → Option (List Stream)
streams_in (Some (Streams x)) = Some x
streams_in m = None

abbrev pub incarnations_in : Option Content → Option (List Incarnation)
incarnations_in (Some (Incarnations x)) = Some x
incarnations_in m = None

abbrev pub text_in : Option Content → Option (List ℕ)
text_in (Some (Text x)) = Some x
text_in m = None

abbrev pub bytes_in : Option Content → Option (List ℕ)
bytes_in (Some (Bytes x)) = Some x
bytes_in m = None

-- of this kind, or nothing
abbrev pub is_pairs : Option Content → Bool
is_pairs None = true
is_pairs (Some h) = is_some (pairs_in (Some h))

abbrev pub is_attributes : Option Content → Bool
is_attributes None = true
is_attributes (Some h) = is_some (attributes_in (Some h))

abbrev pub is_instruments : Option Content → Bool
is_instruments None = true
is_instruments (Some h) = is_some (instruments_in (Some h))

abbrev pub is_view : Option Content → Bool
is_view None = true
is_view (Some h) = is_some (view_in (Some h))

abbrev pub is_views : Option Content → Bool
is_views None = true
is_views (Some h) = is_some (views_in (Some h))

abbrev pub is_keys : Option Content → Bool
is_keys None = true
is_keys (Some h) = is_some (keys_in (Some h))

abbrev pub is_plan : Option Content → Bool
is_plan None = true
is_plan (Some h) = is_some (plan_in (Some h))

abbrev pub is_writer : Option Content → Bool
is_writer None = true
is_writer (Some h) = is_some (writer_in (Some h))

abbrev pub is_recorder : Option Content → Bool
is_recorder None = true
is_recorder (Some h) = is_some (recorder_in (Some h))

abbrev pub is_export : Option Content → Bool
is_export None = true
is_export (Some h) = is_some (export_in (Some h))

abbrev pub is_exports : Option Content → Bool
is_exports None = true
is_exports (Some h) = is_some (exports_in (Some h))

abbrev pub is_gateway : Option Content → Bool
is_gateway None = true
is_gateway (Some h) = is_some (gateway_in (Some h))

abbrev pub is_message : Option Content → Bool
is_message None = true
is_message (Some h) = is_some (message_in (Some h))

abbrev pub is_archive : Option Content → Bool
is_archive None = true
is_archive (Some h) = is_some (archive_in (Some h))

abbrev pub is_seat : Option Content → Bool
is_seat None = true
is_seat (Some h) = is_some (seat_in (Some h))

abbrev pub is_ask : Option Content → Bool
is_ask None = true
is_ask (Some h) = is_some (ask_in (Some h))

abbrev pub is_rows : Option Content → Bool
is_rows None = true
is_rows (Some h) = is_some (rows_in (Some h))

abbrev pub is_streams : Option Content → Bool
is_streams None = true
is_streams (Some h) = is_some (streams_in (Some h))

abbrev pub is_incarnations : Option Content → Bool
is_incarnations None = true
is_incarnations (Some h) = is_some (incarnations_in (Some h))

abbrev pub is_text : Option Content → Bool
is_text None = true
is_text (Some h) = is_some (text_in (Some h))

abbrev pub is_bytes : Option Content → Bool
is_bytes None = true
is_bytes (Some h) = is_some (bytes_in (Some h))
