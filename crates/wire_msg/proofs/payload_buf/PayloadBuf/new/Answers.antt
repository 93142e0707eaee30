use Rattle.std.proofs.Common.{◌+◌, ◌<◌, ◌^◌, [], length, ap, sym, ◌∙◌, arith}
use mathlib.Core.Logic.{∥∥₁_map}
use Rattle.bson_raw.specs.RawDocument.{document_bytes}
use Rattle.bson_raw.specs.Pairs.{first_repeated}
use Rattle.wire_msg.proofs.NameLaws.{not_repeated}
use Rattle.wire_msg.proofs.BufLaws.{alone_len, alone_parts, alone_known, copied_parts}
use Rattle.wire_msg.proofs.payload_buf.PayloadBuf.new.Goals as goal

pub returns-then-bytes-gt-MAX_LEN-clause-refused : goal.returns-then-bytes-gt-MAX_LEN-clause-refused
returns-then-bytes-gt-MAX_LEN-clause-refused c = λ t s.
    let unique = not_repeated (first_repeated [] t) (sym (c.has_repeated.ensures t (c.of.ensures t s)) ∙ c.if-has_repeated.false) in
    (unique, omega (arith, c.if-bytes-gt-MAX_LEN.true, ap length c.as_bytes-bytes.ensures.bytes, alone_len t (document_bytes c.args.body) s))

pub returns-in_default-clause-refused : goal.returns-in_default-clause-refused
returns-in_default-clause-refused c = λ t s.
    let unique = not_repeated (first_repeated [] t) (sym (c.has_repeated.ensures t (c.of.ensures t s)) ∙ c.if-has_repeated.false) in
    (unique, omega (arith, c.if-bytes-gt-MAX_LEN.false, ap length c.as_bytes-bytes.ensures.bytes, alone_len t (document_bytes c.args.body) s))

pub of_parts-requires : goal.of_parts-requires
of_parts-requires c =
    let short : length (document_bytes c.args.body) + 21 < 2 ^ 31 = omega (arith, c.if-bytes-gt-MAX_LEN.false, ap length c.as_bytes-bytes.ensures.bytes) in
    ∥∥₁_map c.args.body.spelled (alone_known (document_bytes c.args.body) _ _ (c.in-Ok.ensures.items ∙ c.as_bytes-bytes.ensures.bytes) c.new.ensures.items (λ t s. not_repeated (first_repeated [] t) (sym (c.has_repeated.ensures t (c.of.ensures t s)) ∙ c.if-has_repeated.false)) short)

pub returns-clause-made : goal.returns-clause-made
returns-clause-made c = λ t s.
    let short : length (document_bytes c.args.body) + 21 < 2 ^ 31 = omega (arith, c.if-bytes-gt-MAX_LEN.false, ap length c.as_bytes-bytes.ensures.bytes) in
    let unique = not_repeated (first_repeated [] t) (sym (c.has_repeated.ensures t (c.of.ensures t s)) ∙ c.if-has_repeated.false) in
    c.of_parts.ensures _ (copied_parts [] (document_bytes c.args.body) [] _ _ _ (c.in-Ok.ensures.items ∙ c.as_bytes-bytes.ensures.bytes) c.new.ensures.items (alone_parts t (document_bytes c.args.body) s unique short))
