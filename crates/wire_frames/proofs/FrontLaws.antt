-- What stands in front of bytes is told in one way.
use Rattle.std.proofs.Common.{◌≡◌, ℕ, ◌+◌, ◌≤◌, List, ◌++◌, length, ap, ◌∙◌, length-append}
use Rattle.framing.proofs.Lemmas as laws
use Rattle.wire_msg.specs.declared.header.MsgHeader.{MsgHeader}
use Rattle.wire_msg.specs.declared.fault.MsgCause.TheVariants.{Length}
use Rattle.wire_msg.specs.{msg_fault, number_at}
use Rattle.wire_msg.proofs.Lemmas.{header_front}
use Rattle.wire_frames.specs.declared.front.FrameFront.{FrameFront}
use Rattle.wire_frames.specs.declared.front.FrameFront.TheVariants.{Whole, Open, Bad}
use Rattle.wire_frames.specs.FrameRule.{frame_rule}
use Rattle.wire_frames.specs.Frames.{FrameSplit, IsWholeFrame, LacksFrame, StandsAs, WantsMore, open_bytes, whole_frame, no_frame}
use Rattle.wire_frames.specs.Fronts.{HasFrame, IsFrontFrame}
use Rattle.wire_frames.proofs.FrameItems.{of_lacks, of_split, of_wants, of_whole, to_lacks}

-- the announced length stands in the first 16 bytes
pub number_front : (a rest : List ℕ) → 16 ≤ length a → number_at (a ++ rest) 0 ≡ number_at a 0
number_front a rest long = ap (λ (h : MsgHeader). h.length) (header_front a rest long)

-- the length of what bytes begin with
pub record WholeSize (limit : ℕ) (bytes frame rest : List ℕ) : Type 0 where
  pub least : 16 ≤ length frame
  pub most : length frame ≤ limit
  pub announced : number_at bytes 0 ≡ length frame
  pub sum : length bytes ≡ length frame + length rest

pub whole_size : (limit : ℕ) (bytes frame rest : List ℕ) → IsWholeFrame limit bytes frame rest → WholeSize limit bytes frame rest
whole_size limit bytes frame rest w = record {
  least = w.is.framed.header;
  most = w.is.within;
  announced = ap (λ (x : List ℕ). number_at x 0) w.parts ∙ number_front frame rest w.is.framed.header ∙ w.is.framed.announced;
  sum = ap length w.parts ∙ length-append frame rest;
}

-- ---- no two of the three

pub wants_not_whole : (limit : ℕ) (bytes frame rest : List ℕ) (n : ℕ) → WantsMore limit bytes n → IsWholeFrame limit bytes frame rest → ⊥
wants_not_whole limit bytes frame rest n o w = laws.wants_not_whole (frame_rule limit) bytes frame rest n (of_wants limit bytes n o) (of_whole limit bytes frame rest w)

pub wants_not_lacking : (limit : ℕ) (bytes : List ℕ) (n : ℕ) → WantsMore limit bytes n → LacksFrame limit bytes → ⊥
wants_not_lacking limit bytes n o l = laws.wants_not_refused (frame_rule limit) bytes n (msg_fault 0 Length) (of_wants limit bytes n o) (of_lacks limit bytes l)

pub lacking_not_whole : (limit : ℕ) (bytes frame rest : List ℕ) → LacksFrame limit bytes → IsWholeFrame limit bytes frame rest → ⊥
lacking_not_whole limit bytes frame rest l w = laws.refused_not_whole (frame_rule limit) bytes frame rest (msg_fault 0 Length) (of_lacks limit bytes l) (of_whole limit bytes frame rest w)

-- ---- each of them in one way

pub wants_once : (limit : ℕ) (bytes : List ℕ) (n m : ℕ) → WantsMore limit bytes n → WantsMore limit bytes m → n ≡ m
wants_once limit bytes n m o p = laws.wants_once (frame_rule limit) bytes n m (of_wants limit bytes n o) (of_wants limit bytes m p)

pub one_front : (limit : ℕ) (bytes frame other rest after : List ℕ) → IsWholeFrame limit bytes frame rest → IsWholeFrame limit bytes other after → (frame ≡ other) × (rest ≡ after)
one_front limit bytes frame other rest after w v = laws.one_item (frame_rule limit) bytes frame other rest after (of_whole limit bytes frame rest w) (of_whole limit bytes other after v)

-- a length that is at fault stays at fault, whatever follows
pub lacking_longer : (limit : ℕ) (bytes more : List ℕ) → LacksFrame limit bytes → LacksFrame limit (bytes ++ more)
lacking_longer limit bytes more l = (to_lacks limit (bytes ++ more) (msg_fault 0 Length) (laws.refused_longer (frame_rule limit) bytes more (msg_fault 0 Length) (of_lacks limit bytes l))).0

-- ---- frames, one after another

-- bytes are split in one way at most
pub one_split : (limit : ℕ) (bytes : List ℕ) (frames others : List (List ℕ)) (rest after : List ℕ) → FrameSplit limit bytes frames rest → FrameSplit limit bytes others after → (frames ≡ others) × (rest ≡ after)
one_split limit bytes frames others rest after s t = laws.one_split (frame_rule limit) bytes frames others rest after (of_split limit bytes frames rest s) (of_split limit bytes others after t)

-- ---- what is told

told_whole : (limit : ℕ) (bytes : List ℕ) (told : FrameFront) → IsFrontFrame limit bytes told → (frame rest : List ℕ) → IsWholeFrame limit bytes frame rest → HasFrame frame rest told
told_whole limit bytes (Whole f after) is frame rest w = one_front limit bytes _ frame after.now rest is w
told_whole limit bytes (Open n) is frame rest w = wants_not_whole limit bytes frame rest n is w
told_whole limit bytes (Bad f) is frame rest w = lacking_not_whole limit bytes frame rest is.0 w

told_open : (limit : ℕ) (bytes : List ℕ) (told : FrameFront) → IsFrontFrame limit bytes told → (n : ℕ) → WantsMore limit bytes n → told ≡ Open n
told_open limit bytes (Whole f after) is n o = absurd (wants_not_whole limit bytes _ after.now n o is)
told_open limit bytes (Open m) is n o = ap Open (wants_once limit bytes m n is o)
told_open limit bytes (Bad f) is n o = absurd (wants_not_lacking limit bytes n o is.0)

told_bad : (limit : ℕ) (bytes : List ℕ) (told : FrameFront) → IsFrontFrame limit bytes told → LacksFrame limit bytes → told ≡ Bad (msg_fault 0 Length)
told_bad limit bytes (Whole f after) is l = absurd (lacking_not_whole limit bytes _ after.now l is)
told_bad limit bytes (Open n) is l = absurd (wants_not_lacking limit bytes n is l)
told_bad limit bytes (Bad f) is l = ap Bad is.1

pub record Told (limit : ℕ) (bytes : List ℕ) (told : FrameFront) : Type 0 where
  pub front : IsFrontFrame limit bytes told
  pub whole : (frame rest : List ℕ) → IsWholeFrame limit bytes frame rest → HasFrame frame rest told
  pub too_few : (n : ℕ) → WantsMore limit bytes n → told ≡ Open n
  pub bad : LacksFrame limit bytes → told ≡ Bad (msg_fault 0 Length)

-- what is told is all that holds
pub told_all : (limit : ℕ) (bytes : List ℕ) (told : FrameFront) → IsFrontFrame limit bytes told → Told limit bytes told
told_all limit bytes told is = record { front = is; whole = told_whole limit bytes told is; too_few = told_open limit bytes told is; bad = told_bad limit bytes told is }

-- what is told holds
pub stands : (limit : ℕ) (bytes : List ℕ) (told : FrameFront) → IsFrontFrame limit bytes told → StandsAs limit bytes
stands limit bytes (Whole f after) is = whole_frame _ after.now is
stands limit bytes (Open n) is = open_bytes n is
stands limit bytes (Bad f) is = no_frame is.0
