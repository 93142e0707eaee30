use Rattle.std.proofs.Common.{◌≡◌, List, ℕ, drop, subst, sym}
use Rattle.std.specs.Prelude.{◌↔◌, IsTrue}
use Rattle.bson_raw.specs.{DocumentSplit}
use Rattle.wire_msg.specs.{SpellsMsg}
use Rattle.replay.proofs.Replies.{no_message}
use Rattle.replay.proofs.content.are_same_answers.Goals as goal

pub returns-in-Message : goal.returns-in-Message
returns-in-Message c = record {
  messages = λ m n spelled spells short within.
      c.is_same_message.ensures.message m n
      (subst (λ (b : List ℕ). SpellsMsg m b) (sym (c.in-Message.ensures.message m spelled short)) spelled) spells within;
  other = λ no nor isnt neither. absurd (c.in-Message.ensures.none no);
  recorded_alone = λ m spelled short no. c.is_same_message.ensures.none no;
  received_alone = λ n no spells within. absurd (c.in-Message.ensures.none no);
  replies = λ ts us rest other is are split splits. absurd (c.in-Message.ensures.reply is);
  recorded_reply_alone = λ is isnt. absurd (c.in-Message.ensures.reply is);
  received_reply_alone = λ isnt is. c.is_same_message.ensures.none (λ one. no_message _ c.args.received.now one is);
}

pub returns-in-Reply : goal.returns-in-Reply
returns-in-Reply c = record {
  messages = λ m n spelled spells short within. absurd (c.in-Reply.ensures.message m spelled short);
  other = λ no nor isnt neither. absurd (c.in-Reply.ensures.other no isnt);
  recorded_alone = λ m spelled short no. absurd (c.in-Reply.ensures.message m spelled short);
  received_alone = λ n no spells within. c.is_same_reply.ensures.none (λ is. no_message _ c.args.received.now (within, (n, spells)) is);
  replies = λ ts us rest other is are split splits.
      c.is_same_reply.ensures.reply ts us rest other
      (subst (λ (b : List ℕ). DocumentSplit b ts rest) (sym (c.in-Reply.ensures.reply is)) split) are splits;
  recorded_reply_alone = λ is isnt. c.is_same_reply.ensures.none isnt;
  received_reply_alone = λ isnt is. absurd (c.in-Reply.ensures.no_reply isnt);
}

pub returns-in-Other : goal.returns-in-Other
returns-in-Other c = record {
  messages = λ m n spelled spells short within. absurd (c.in-Other.ensures.message m spelled short);
  other = λ no nor isnt neither.
      subst (λ (b : List ℕ). IsTrue c.is_same_other.result ↔ (b ≡ drop 12 c.args.received.now)) (c.in-Other.ensures.other no isnt)
      (c.is_same_other.ensures.other nor neither);
  recorded_alone = λ m spelled short no. absurd (c.in-Other.ensures.message m spelled short);
  received_alone = λ n no spells within. c.is_same_other.ensures.message n spells within;
  replies = λ ts us rest other is are split splits. absurd (c.in-Other.ensures.reply is);
  recorded_reply_alone = λ is isnt. absurd (c.in-Other.ensures.reply is);
  received_reply_alone = λ isnt is. c.is_same_other.ensures.reply is;
}
