use Rattle.std.proofs.Common.{inl, refl}
use Rattle.script_rules.specs.declared.action.Action.TheVariants as actions
use Rattle.test_script.specs.declared.keyword.Keyword.TheVariants as keywords
use Rattle.test_script.specs.Lines.{IsActionOf, IsReply}
use Rattle.test_script.specs.Tokens.{behind}
use Rattle.test_script.proofs.line.no_action.Goals as goal

pub no_document-requires : goal.no_document-requires
no_document-requires c = λ d is.
    let found = c.in-Some.ensures.found in
    let reply : IsReply (behind c.args.text.now) d = record { word = c.in-Some.document.now; words = found.1; document = is } in
    let action : IsActionOf keywords.Reply (behind c.args.text.now) (actions.Reply d) = (d, refl, reply) in
    c.requires (actions.Reply d) (keywords.Reply, found.0, action)

pub returns-in-Some : goal.returns-in-Some
returns-in-Some c = inl (c.in-Some.document.now, c.in-Some.ensures.found, c.no_document.ensures)
