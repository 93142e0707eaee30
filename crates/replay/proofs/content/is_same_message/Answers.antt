use Rattle.std.proofs.Common.{List, ℕ, refl, subst, sym}
use Rattle.wire_msg.specs.{SpellsMsg}
use Rattle.replay.proofs.Comparing.{read_as_message}
use Rattle.replay.proofs.content.is_same_message.Goals as goal

pub returns-in-Message-clause-message : goal.returns-in-Message-clause-message
returns-in-Message-clause-message c = λ m n spelled spells within.
    c.are_same_messages.ensures m n spelled
    (subst (λ (b : List ℕ). SpellsMsg n b) (sym (c.in-Message.ensures.message n spells within)) spells)

pub returns-in_default : goal.returns-in_default
returns-in_default c = record {
  message = λ m n spelled spells within.
      absurd (read_as_message c.args.received.now c.of.result (c.of.ensures.message n spells within) c.in_default.not-Message);
  none = λ no. refl;
}
