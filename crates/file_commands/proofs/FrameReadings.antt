-- Messages of any opCode, as items of one kind, and how a reader of them is fed.
use Rattle.std.proofs.Common.{◌≡◌, ◌≢◌, ◌≤◌, ◌++◌, ℕ, List, length, take, min, refl, ap, ◌∙◌, arith, length-append, length-take}
use Rattle.wire_msg.specs.{number_at}
use Rattle.wire_frames.specs.Frames.{of_header, of_frame}
use Rattle.wire_frames.specs.{IsWholeFrame, WantsMore}
use Rattle.wire_frames.proofs.Lemmas.{lacking_longer, number_front, wants_not_lacking, wants_not_whole, whole_size}
use Rattle.file_commands.specs.Any.{IsOpenFrame, frames_of}
use Rattle.file_commands.proofs.ItemReadings.{IsKind, item_alone}

pub frames_kind : (limit : ℕ) → IsKind (frames_of limit)
frames_kind limit = record {
  nothing_open = (16, of_header (omega arith) refl);
  open_not_bad = λ start bytes line o bad. wants_not_lacking limit bytes o.0 o.1 bad.0;
  open_not_item = λ frame rest o is. wants_not_whole limit (frame ++ rest) frame rest o.0 o.1 (record { parts = refl; is = is });
  bad_longer = λ start bytes more line bad. (lacking_longer limit bytes more bad.0, bad.1);
}

-- a reader that wants more takes some of what there is
pub takes_some : (limit n : ℕ) (held rest : List ℕ) (o : IsOpenFrame limit held) → n ≡ min o.0 (length rest) → length rest ≢ 0 → 1 ≤ n
takes_some limit n held rest (more, of_header some is) count there = omega (arith, some, count, there)
takes_some limit n held rest (more, of_frame some long good is) count there = omega (arith, some, count, there)

-- a reader that wants more takes no byte behind the end of a frame
pub within_frame : (limit n : ℕ) (held new rest frame after : List ℕ) (more : ℕ) → WantsMore limit held more → n ≤ more → n ≤ length rest → new ≡ held ++ take n rest → IsWholeFrame limit new frame after → length new ≤ length frame
within_frame limit n held new rest frame after more (of_header some sum) most there is w =
    let s = whole_size limit new frame after w in
    omega (arith, sum, most, there, s.least, ap length is, length-append held (take n rest), length-take n rest)
within_frame limit n held new rest frame after more (of_frame some long good sum) most there is w =
    let s = whole_size limit new frame after w in
    let same : number_at new 0 ≡ number_at held 0 = ap (λ (x : List ℕ). number_at x 0) is ∙ number_front held (take n rest) long in
    omega (arith, sum, most, there, s.announced, same, ap length is, length-append held (take n rest), length-take n rest)

-- what a reader holds is the frame that became whole, and nothing behind it
pub frame_alone : (limit n : ℕ) (held new rest frame after : List ℕ) (o : IsOpenFrame limit held) → n ≡ min o.0 (length rest) → new ≡ held ++ take n rest → IsWholeFrame limit new frame after → frame ≡ new
frame_alone limit n held new rest frame after o count is w =
    item_alone new frame after w.parts (within_frame limit n held new rest frame after o.0 o.1 (omega (arith, count)) (omega (arith, count)) is w)
