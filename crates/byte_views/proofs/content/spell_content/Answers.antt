use Rattle.byte_views.proofs.ContentLaws.{content_found, message_found}
use Rattle.byte_views.proofs.content.spell_content.Goals as goal

pub returns-clause-spelled : goal.returns-clause-spelled
returns-clause-spelled c = message_found c.args.limit c.args.body.now c.args.sequences.now c.spell_sections.result c.spell_sections.ensures.joined c.spell_sections.ensures.spelled

pub returns-clause-content : goal.returns-clause-content
returns-clause-content c = content_found c.args.body.now c.args.sequences.now c.spell_sections.result c.spell_sections.ensures.body c.spell_sections.ensures.joined
