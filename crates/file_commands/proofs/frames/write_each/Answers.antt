use Rattle.std.proofs.Common.{◌≡◌, ◌+◌, ◌-◌, ◌++◌, ◌∙◌, ℕ, List, ap, arith, drop, length, refl, subst, sym, take}
use Rattle.std.proofs.lemmas.Bool.Decides.{nat_tests}
use Rattle.wire_msg.specs.declared.fault.MsgFault.{MsgFault}
use Rattle.wire_frames.specs.{FrameReading, IsFrame, IsWholeFrame, frame_bytes}
use Rattle.file_commands.specs.Any.{IsOpenFrame, frames_of}
use Rattle.wire_text.specs.{IsFrameText, msg_fault_line}
use Rattle.file_commands.proofs.FrameReadings.{frame_alone, frames_kind, takes_some}
use Rattle.file_commands.proofs.ItemReadings.{fewer_left, no_item, item_fed, item_released, some_left, whole_takes}
use Rattle.file_commands.proofs.frames.write_each.Goals as goal

pub loop-taken-init : goal.loop-taken-init
loop-taken-init g c = (c.requires, refl, no_item _ _ _ _)

pub loop-taken-smaller-else-is_empty : goal.loop-taken-smaller-else-is_empty
loop-taken-smaller-else-is_empty g c =
    let o = c.loop-taken.invariant.0 in
    let n = c.in-Ok.taken in
    let old = c.loop-taken.rest.now in
    let left : length (take (length old - n) (drop n old)) ≡ 0 → ⊥ = λ e. grind (arith, nat_tests, e, c.is_empty.ensures, c.if-is_empty.false) in
    fewer_left n old (takes_some c.loop-taken.reader.frames.limit n c.loop-taken.reader.frames.held old o (c.in-Ok.ensures.wanted o.0 o.1) (some_left n old left)) c.in-Ok.ensures.held.0

pub returns-in-Bad : goal.returns-in-Bad
returns-in-Bad g c =
    let i = c.loop-taken.invariant in
    let n = c.in-Ok.taken in
    let new = c.feed.new.self in
    let start = c.loop-taken.reader.start in
    let rest = take (length c.loop-taken.rest.now - n) (drop n c.loop-taken.rest.now) in
    record {
      limit = c.in-Ok.ensures.limit ∙ i.1;
      rest = new.held ++ rest;
      written = item_fed _ n _ c.loop-taken.reader.frames.held new.held c.loop-taken.rest.now _ _ _ _ i.2 c.in-Ok.ensures.held.1;
      stopped = (frames_kind new.limit).bad_longer start new.held rest (msg_fault_line start c.in-Bad.fault.cause) (c.in-Bad.ensures.0, ap (λ (x : MsgFault). msg_fault_line start x.cause) c.in-Bad.ensures.1);
    }

pub loop-taken-smaller : goal.loop-taken-smaller
loop-taken-smaller g c =
    let n = c.in-Ok.taken in
    let r = c.loop-taken.reader.frames in
    let frame = frame_bytes c.in-Whole.frame in
    let w = subst (λ (k : ℕ). IsWholeFrame k c.feed.new.self.held frame c.in-Whole.rest.now) c.in-Ok.ensures.limit c.in-Whole.ensures in
    let some = whole_takes (frames_of r.limit) (frames_kind r.limit) n r.held c.feed.new.self.held c.loop-taken.rest.now frame c.in-Whole.rest.now c.loop-taken.invariant.0 c.in-Ok.ensures.held.1 w.parts w.is in
    fewer_left n c.loop-taken.rest.now some c.in-Ok.ensures.held.0

pub loop-taken-preserved : goal.loop-taken-preserved
loop-taken-preserved g c =
    let i = c.loop-taken.invariant in
    let o = i.0 in
    let n = c.in-Ok.taken in
    let r = c.loop-taken.reader.frames in
    let new = c.feed.new.self in
    let old = c.loop-taken.rest.now in
    let start = c.loop-taken.reader.start in
    let frame = frame_bytes c.in-Whole.frame in
    let whole = subst (λ (k : ℕ). IsWholeFrame k new.held frame c.in-Whole.rest.now) c.in-Ok.ensures.limit c.in-Whole.ensures in
    let alone : frame ≡ new.held = frame_alone r.limit n r.held new.held old frame c.in-Whole.rest.now o (c.in-Ok.ensures.wanted o.0 o.1) c.in-Ok.ensures.held.1 whole in
    let is = subst (λ (k : ℕ). IsFrame k new.held) i.1 (subst (IsFrame r.limit) alone whole.is) in
    let written = c.in_ok-write_frame-in-Whole.ensures in
    let next : c.in-Some.behind ≡ start + length new.held = c.in-Some.ensures.1 ∙ ap (λ (x : List ℕ). start + length x) (c.as_bytes.ensures ∙ alone) in
    let none = ap (λ (x : FrameReading). x.held) c.release.ensures in
    let fed = item_fed _ n _ r.held new.held old _ _ _ _ i.2 c.in-Ok.ensures.held.1 in (
      subst (IsOpenFrame c.release.new.self.limit) (sym none) (frames_kind c.release.new.self.limit).nothing_open,
      ap (λ (x : FrameReading). x.limit) c.release.ensures ∙ c.in-Ok.ensures.limit ∙ i.1,
      item_released _ _ new.held c.release.new.self.held _ written.0 _ start _ _ _ _ fed is (subst (λ (b : List ℕ). IsFrameText start b written.0) alone written.1) written.2 next none,
    )
