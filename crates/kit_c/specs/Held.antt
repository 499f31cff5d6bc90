-- What the handles of each kind have.
use Rattle.std.specs.Option.{option_map}
use Rattle.std.specs.Prelude.{ℕ, List, Option}
use Rattle.archive_kit.specs.Archive.{ArchiveState}
use Rattle.attr_kit.specs.declared.attr_set.AttrSet.{AttrSet}
use Rattle.attr_kit.specs.declared.attr_value.AttrValue.{AttrValue}
use Rattle.gateway_kit.specs.GatewayState.{GatewayState}
use Rattle.gossip_kit.specs.Views.{MessageModel, NodeModel}
use Rattle.plan_kit.specs.Plans.{Planned}
use Rattle.plan_kit.specs.declared.instrument.Instrument.{Instrument}
use Rattle.plan_kit.specs.declared.view.View.{View}
use Rattle.point_kit.specs.declared.export.Export.{Export}
use Rattle.point_kit.specs.declared.stream.Stream.{Stream}
use Rattle.recorder_kit.specs.Log.{Logged}
use Rattle.rollup_kit.specs.declared.ask.Ask.{Ask}
use Rattle.rollup_kit.specs.declared.row.Row.{Row}
use Rattle.writer_kit.specs.Written.{Written}
use Rattle.kit_c.specs.Calls.{listed}
use Rattle.kit_c.specs.Typed.{archive_in, ask_in, attributes_in, bytes_in, export_in, exports_in, gateway_in, incarnations_in, instruments_in, keys_in, message_in, pairs_in, plan_in, recorder_in, rows_in, seat_in, streams_in, text_in, view_in, views_in, writer_in}
use Rattle.kit_c.specs.declared.desk.Desk.{Desk}
use Rattle.kit_c.specs.declared.typed.KitArchive.{KitArchive}
use Rattle.kit_c.specs.declared.typed.KitAsk.{KitAsk}
use Rattle.kit_c.specs.declared.typed.KitAttributes.{KitAttributes}
use Rattle.kit_c.specs.declared.typed.KitBytes.{KitBytes}
use Rattle.kit_c.specs.declared.typed.KitExport.{KitExport}
use Rattle.kit_c.specs.declared.typed.KitExports.{KitExports}
use Rattle.kit_c.specs.declared.typed.KitGateway.{KitGateway}
use Rattle.kit_c.specs.declared.incarnations.Incarnation.{Incarnation}
use Rattle.kit_c.specs.declared.typed.KitIncarnations.{KitIncarnations}
use Rattle.kit_c.specs.declared.typed.KitInstruments.{KitInstruments}
use Rattle.kit_c.specs.declared.typed.KitKeys.{KitKeys}
use Rattle.kit_c.specs.declared.typed.KitMessage.{KitMessage}
use Rattle.kit_c.specs.declared.typed.KitPairs.{KitPairs}
use Rattle.kit_c.specs.declared.typed.KitPlan.{KitPlan}
use Rattle.kit_c.specs.declared.typed.KitRecorder.{KitRecorder}
use Rattle.kit_c.specs.declared.typed.KitRows.{KitRows}
use Rattle.kit_c.specs.declared.typed.KitSeat.{KitSeat}
use Rattle.kit_c.specs.declared.typed.KitStreams.{KitStreams}
use Rattle.kit_c.specs.declared.typed.KitText.{KitText}
use Rattle.kit_c.specs.declared.typed.KitView.{KitView}
use Rattle.kit_c.specs.declared.typed.KitViews.{KitViews}
use Rattle.kit_c.specs.declared.typed.KitWriter.{KitWriter}

-- those that are written down: a handle that has nothing stands for none
abbrev pub pairs_of : KitPairs → List (List ℕ × AttrValue)
pairs_of k = listed (pairs_in k.handle.inner.value)

abbrev pub attributes_of : KitAttributes → Option AttrSet
attributes_of k = attributes_in k.handle.inner.value

abbrev pub instruments_of : KitInstruments → List Instrument
instruments_of k = listed (instruments_in k.handle.inner.value)

abbrev pub view_of : KitView → Option View
view_of k = view_in k.handle.inner.value

abbrev pub views_of : KitViews → List View
views_of k = listed (views_in k.handle.inner.value)

abbrev pub keys_of : KitKeys → List (List ℕ)
keys_of k = listed (keys_in k.handle.inner.value)

abbrev pub plan_of : KitPlan → Option Planned
plan_of k = plan_in k.handle.inner.value

abbrev pub writer_of : KitWriter → Option Written
writer_of k = writer_in k.handle.inner.value

abbrev pub recorder_of : KitRecorder → Option Logged
recorder_of k = recorder_in k.handle.inner.value

abbrev pub export_of : KitExport → Option Export
export_of k = export_in k.handle.inner.value

abbrev pub exports_of : KitExports → Option (List Export)
exports_of k = exports_in k.handle.inner.value

-- a gateway with its books of what others acknowledged
abbrev pub node_of : KitGateway → Option NodeModel
node_of k = gateway_in k.handle.inner.value

abbrev pub gateway_of : KitGateway → Option GatewayState
gateway_of k = option_map (λ n. n.gateway) (node_of k)

abbrev pub message_of : KitMessage → Option MessageModel
message_of k = message_in k.handle.inner.value

abbrev pub archive_of : KitArchive → Option ArchiveState
archive_of k = archive_in k.handle.inner.value

abbrev pub seat_of : KitSeat → Option Desk
seat_of k = seat_in k.handle.inner.value

abbrev pub ask_of : KitAsk → Option Ask
ask_of k = ask_in k.handle.inner.value

abbrev pub rows_of : KitRows → Option (List Row)
rows_of k = rows_in k.handle.inner.value

abbrev pub streams_of : KitStreams → Option (List Stream)
streams_of k = streams_in k.handle.inner.value

abbrev pub incarnations_of : KitIncarnations → Option (List Incarnation)
incarnations_of k = incarnations_in k.handle.inner.value

abbrev pub text_of : KitText → Option (List ℕ)
text_of k = text_in k.handle.inner.value

abbrev pub bytes_of : KitBytes → Option (List ℕ)
bytes_of k = bytes_in k.handle.inner.value
