use Rattle.byte_views.proofs.SectionLaws.{section_gives}
use Rattle.byte_views.proofs.parts.section_at.Goals as goal

pub returns-clause-sections : goal.returns-clause-sections
returns-clause-sections c = section_gives c.args.bytes.now c.args.at c.read_section.result c.read_section.ensures
