-- Why a message isn't made.
use Rattle.std.specs.Prelude.{ℕ, List, codes, Option, Some}
use Rattle.wire_msg.specs.declared.refusal.MsgRefusal.{MsgRefusal}
use Rattle.wire_msg.specs.declared.refusal.MsgRefusal.TheVariants.{TooLarge, RepeatedField}
use Rattle.wire_msg.specs.declared.refusal.MsgRefusal.TheVariants.{SequenceInBody, ZeroInName}
use Rattle.wire_msg.specs.declared.refusal.MsgRefusal.TheVariants.{NoSequence, OutOfMemory}

-- the text that displays a refusal
abbrev pub refusal_text : MsgRefusal → List ℕ
refusal_text TooLarge = codes "the message is too large"
refusal_text RepeatedField = codes "a top-level name of the body is repeated"
refusal_text SequenceInBody = codes "an identifier is a top-level name of the body"
refusal_text ZeroInName = codes "an identifier has a 00 in it"
refusal_text NoSequence = codes "no sequence was begun"
refusal_text OutOfMemory = codes "out of memory"

abbrev pub shown_refusal : MsgRefusal → Option (List ℕ)
shown_refusal r = Some (refusal_text r)
