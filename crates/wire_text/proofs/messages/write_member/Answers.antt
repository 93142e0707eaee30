use Rattle.std.proofs.Common.{sym, subst}
use Rattle.bson_elem.specs.Spelling.{Spells}
use Rattle.wire_text.proofs.MessageTexts.{member_written}
use Rattle.wire_text.proofs.messages.write_member.Goals as goal

pub returns : goal.returns
returns g c = λ t s.
    member_written c.dump_elements.result _ _ _ t c.as_bytes.result.now (subst (Spells t) (sym c.as_bytes.ensures.bytes) s)
    c.in_ok-writeln.ensures.bytes (c.dump_elements.ensures t s)
