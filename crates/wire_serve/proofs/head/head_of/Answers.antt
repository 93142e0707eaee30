use Rattle.std.proofs.Common.{◌≡◌, List, ℕ, ap, sym, subst, ◌∙◌, arith, take}
use Rattle.wire_msg.specs.declared.header.MsgHeader.{MsgHeader}
use Rattle.wire_msg.specs.{header_of}
use Rattle.wire_msg.proofs.Lemmas.{header_of-take}
use Rattle.wire_serve.specs.Heads.{IsQueryHeader}
use Rattle.wire_serve.proofs.head.head_of.Goals as goal

-- the header that was read is that of the bytes
is_header : (bytes chunk : List ℕ) (h : MsgHeader) → h ≡ header_of chunk → chunk ≡ take 16 bytes → h ≡ header_of bytes
is_header bytes chunk h read is = read ∙ ap header_of is ∙ header_of-take bytes

pub returns-then-is_query : goal.returns-then-is_query
returns-then-is_query c =
    let is = is_header c.args.bytes.now c.in-Some.header.now c.read-header.result c.read-header.ensures c.in-Some.ensures.cases.0 in (
      record {
        header = omega (arith, c.in-Some.ensures.cases.2);
        is_query = subst IsQueryHeader is (c.is_query.ensures.yes c.if-is_query.true);
      },
      ap (λ (h : MsgHeader). h.length) is,
    )

pub returns-else-is_query : goal.returns-else-is_query
returns-else-is_query c =
    let is = is_header c.args.bytes.now c.in-Some.header.now c.read-header.result c.read-header.ensures c.in-Some.ensures.cases.0 in (
      omega (arith, c.in-Some.ensures.cases.2),
      λ b. c.is_query.ensures.no c.if-is_query.false (subst IsQueryHeader (sym is) b.is_query),
    )
