use Rattle.std.proofs.Common.{List, ℕ, subst, sym}
use Rattle.bson_raw.specs.{DocumentSplit}
use Rattle.replay.proofs.content.is_same_reply.Goals as goal

pub returns-in-Reply-clause-reply : goal.returns-in-Reply-clause-reply
returns-in-Reply-clause-reply c = λ ts us rest other split is splits.
    c.are_same_replies.ensures ts us rest other split
    (subst (λ (b : List ℕ). DocumentSplit b us other) (sym (c.in-Reply.ensures.reply is)) splits)
