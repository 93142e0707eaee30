use Rattle.std.proofs.Common.{◌≡◌, ℕ, ◌+◌, List, length, Some, sym, ap, ◌∙◌, arith}
use Rattle.bson_elem.specs.Trees.{Tree}
use Rattle.bson_elem.specs.Spelling.{Spells}
use Rattle.bson_raw.specs.RawDocument.{document_bytes}
use Rattle.wire_msg.specs.Messages.{Sequence}
use Rattle.wire_msg.specs.Spelling.{body_section, sequences_bytes}
use Rattle.wire_msg.proofs.SectionLaws.{length-body}
use Rattle.wire_msg.proofs.NameLaws.{names_before, names_after, names_none}
use Rattle.wire_msg.proofs.names.check_identifiers.Goals as goal

-- where the sequences behind the body begin
next_is : (before document : List ℕ) (first : List Sequence) (t : Tree) → before ≡ sequences_bytes first → Spells t document → 20 + length before + 1 + length document ≡ 20 + length (sequences_bytes first) + length (body_section t)
next_is before document first t is s = omega (arith, ap length is, ap length s.parts, length-body t)

pub returns-in-Some : goal.returns-in-Some
returns-in-Some g c = λ first t last fits are s fields fits' are' e.
    names_before first t last c.in-Some.offset e (c.in-Some.ensures t first fields fits are) ∙ ap Some (sym c.fault_at.ensures)

pub returns-in-Some-offset_in_body : goal.returns-in-Some-offset_in_body
returns-in-Some-offset_in_body g c = λ first t last fits are s fields fits' are' e.
    let next = ap (λ (x : List ℕ). 20 + length c.args.before.now + 1 + length x) c.as_bytes.ensures.bytes ∙ next_is c.args.before.now (document_bytes c.args.body) first t are s in
    names_after first t last (20 + length c.args.before.now + 1 + length c.as_bytes.result.now) c.in-Some-offset_in_body.offset e (c.in_default.ensures t first fields fits are) next (c.in-Some-offset_in_body.ensures t last fields fits' are') ∙ ap Some (sym c.fault_at-in-Some-offset_in_body.ensures)

pub returns-in-None : goal.returns-in-None
returns-in-None g c = λ first t last fits are s fields fits' are' e.
    let next = ap (λ (x : List ℕ). 20 + length c.args.before.now + 1 + length x) c.as_bytes.ensures.bytes ∙ next_is c.args.before.now (document_bytes c.args.body) first t are s in
    names_none first t last (20 + length c.args.before.now + 1 + length c.as_bytes.result.now) e (c.in_default.ensures t first fields fits are) next (c.in-None.ensures t last fields fits' are')
