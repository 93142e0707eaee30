use Rattle.std.proofs.Common.{◌∙◌, sym}
use Rattle.wire_frames.specs.{frame_bytes}
use Rattle.proxy.specs.declared.options.Show.TheVariants as shows
use Rattle.proxy.proofs.Showing.{sink_written}
use Rattle.proxy.proofs.sink.Sink.put.Goals as goal

pub returns-in-Text-clause-written : goal.returns-in-Text-clause-written
returns-in-Text-clause-written g c =
    sink_written c.write_message.result _ _ _ c.args.self.now.show shows.Text c.args.number c.args.direction (frame_bytes c.args.frame)
    (sym c.in_ok-record.ensures.show ∙ c.in-Text.is) c.in_ok-record.ensures.told c.write_message.ensures

pub returns-in-Json-clause-written : goal.returns-in-Json-clause-written
returns-in-Json-clause-written g c =
    sink_written c.write_json_line.result _ _ _ c.args.self.now.show shows.Json c.args.number c.args.direction (frame_bytes c.args.frame)
    (sym c.in_ok-record.ensures.show ∙ c.in-Json.is) c.in_ok-record.ensures.told c.write_json_line.ensures
