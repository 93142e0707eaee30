use Rattle.std.proofs.Common.{◌∙◌, refl, sym}
use Rattle.std.specs.Int.{cast_signed, cast_unsigned, w64}
use Rattle.std.proofs.KnownBytes.{Keeps-refl}
use Rattle.wire_frames.specs.{frame_bytes}
use Rattle.wire_frames.specs.declared.head.RecordHead.{RecordHead}
use Rattle.proxy.specs.Recording.{IsHeadOf}
use Rattle.proxy.proofs.Recorded.{is_recorded}
use Rattle.proxy.proofs.recorder.Recorder.put.Goals as goal
use Rattle.proxy.proofs.recorder.Recorder.put.Goals.{else-len-ge-ROOM, then-len-ge-ROOM+in_ok-flush}

pub returns : goal.returns
returns g c =
    let h : RecordHead = record { micros = cast_signed w64 (cast_unsigned w64 c.in_ok-micros_now.field-0); connection = c.recorded_number.result; direction = c.recorded_direction.result } in
    let is : IsHeadOf c.args.number c.args.direction h = record { connection = c.recorded_number.ensures.own; direction_is = c.recorded_direction.ensures } in
    let file = g.R.File.Write.contents c.args.self.now.file in
    let has_room = sym c.is_full.ensures ∙ c.if-is_full.false in
    elim c.if-len-ge-ROOM.branch [
      | then-len-ge-ROOM+in_ok-flush w ↦
          rw w.self-is
          (is_recorded file _ c.args.self.now.waiting.bytes.items c.put.new.self.bytes.items c.args.self.now.waiting.left c.put.new.self.left _ c.args.number c.args.direction h (frame_bytes c.args.frame) c.in_ok-fits.fits
          w.flush.ensures.left has_room c.in_ok-fits.ensures.put w.in_ok-flush.ensures.written is)
      | else-len-ge-ROOM w ↦
          rw w.self-is
          (is_recorded file _ c.args.self.now.waiting.bytes.items c.put.new.self.bytes.items c.args.self.now.waiting.left c.put.new.self.left _ c.args.number c.args.direction h (frame_bytes c.args.frame) c.in_ok-fits.fits
          refl has_room c.in_ok-fits.ensures.put (Keeps-refl _) is)
    ]
