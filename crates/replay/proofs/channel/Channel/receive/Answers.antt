use Rattle.std.proofs.Common.{◌++◌, ◌∙◌, List, ℕ, ap, sym, take}
use Rattle.std.proofs.KnownBytes.{Appends-trans, Keeps-trans}
use Rattle.wire_frames.specs.{FrameReading}
use Rattle.replay.proofs.Feeding.{fed, pulled}
use Rattle.replay.proofs.channel.Channel.receive.Goals as goal

pub returns-in_err-n-in-Ok-Bytes-clause-bytes : goal.returns-in_err-n-in-Ok-Bytes-clause-bytes
returns-in_err-n-in-Ok-Bytes-clause-bytes g c =
    let i = c.loop.invariant in
    let f = c.pull.ensures.received in (
      i.bytes.0 ++ f.0,
      Appends-trans _ _ _ _ _ i.bytes.1 f.1,
      pulled _ _ _ _ _ _ i.bytes.2 f.2 ∙ ap (λ (h : List ℕ). h ++ c.pull.new.self) (sym (ap (λ (r : FrameReading). r.held) c.in_err-n-in-Ok-Bytes.ensures.unchanged)),
    )

pub returns-in-Err-clause-bytes : goal.returns-in-Err-clause-bytes
returns-in-Err-clause-bytes g c =
    let i = c.loop.invariant in
    let f = c.pull.ensures.received in
    (i.bytes.0 ++ f.0, Appends-trans _ _ _ _ _ i.bytes.1 f.1, pulled _ _ _ _ _ _ i.bytes.2 f.2)

pub loop-preserved : goal.loop-preserved
loop-preserved g c =
    let i = c.loop.invariant in
    let f = c.pull.ensures.received in
    record {
      bytes = (
        i.bytes.0 ++ f.0,
        Appends-trans _ _ _ _ _ i.bytes.1 f.1,
        fed _ _ _ _ _ _ _ _ c.in_ok-n-in-Ok-Bytes.n i.bytes.2 f.2 (c.in_ok-n-in-Ok-Bytes.ensures.held.1 ∙ ap (λ (l : List ℕ). c.loop.self.reader.held ++ take c.in_ok-n-in-Ok-Bytes.n l) c.bytes.ensures.bytes) c.used.ensures,
      );
      sent = Keeps-trans _ _ _ i.sent c.pull.ensures.sent;
      waiting = i.waiting;
    }
