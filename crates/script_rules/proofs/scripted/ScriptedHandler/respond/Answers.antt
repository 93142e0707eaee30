use Rattle.std.proofs.Common.{Some, ap, refl, ◌∙◌}
use Rattle.std.specs.Prelude.{option_copied}
use Rattle.wire_peer.specs.{asked, content_of}
use Rattle.script_rules.proofs.Handled.{cut_up, hung_up, is_passed, met_is, passed, passed_stop, replied, replied_stop}
use Rattle.script_rules.proofs.scripted.ScriptedHandler.respond.Goals as goal

pub returns-in-Reply-clause-answered : goal.returns-in-Reply-clause-answered
returns-in-Reply-clause-answered g c =
    let is = met_is c.in-Ok.found c.meet.new.self.rules.items (content_of c.args.request.now.payload) c.args.self.now.script.rules.items _ c.in-Ok.ensures.used c.in-Ok.ensures.met c.action.ensures.at ∙ ap option_copied c.in-Some.is ∙ ap Some c.in-Reply.is in
    replied g.H.Handler.does c.args.self.now (record { alloc = c.args.self.now.alloc; script = c.meet.new.self; inner = c.args.self.now.inner }) (asked c.args.request.now) c.in-Reply.answer _ _ c.put_answer.result is refl c.in-Ok.ensures.used c.requires c.put_answer.ensures.put

pub returns-in-Reply-clause-stopped : goal.returns-in-Reply-clause-stopped
returns-in-Reply-clause-stopped g c =
    let is = met_is c.in-Ok.found c.meet.new.self.rules.items (content_of c.args.request.now.payload) c.args.self.now.script.rules.items _ c.in-Ok.ensures.used c.in-Ok.ensures.met c.action.ensures.at ∙ ap option_copied c.in-Some.is ∙ ap Some c.in-Reply.is in
    replied_stop g.H.Handler.stops c.args.self.now (record { alloc = c.args.self.now.alloc; script = c.meet.new.self; inner = c.args.self.now.inner }) (asked c.args.request.now) c.in-Reply.answer c.put_answer.result is refl c.in-Ok.ensures.used c.put_answer.ensures.failed

pub returns-in-HangUp-clause-stopped : goal.returns-in-HangUp-clause-stopped
returns-in-HangUp-clause-stopped g c =
    let is = met_is c.in-Ok.found c.meet.new.self.rules.items (content_of c.args.request.now.payload) c.args.self.now.script.rules.items _ c.in-Ok.ensures.used c.in-Ok.ensures.met c.action.ensures.at ∙ ap option_copied c.in-Some.is ∙ ap Some c.in-HangUp.is in
    hung_up g.H.Handler.stops c.args.self.now (record { alloc = c.args.self.now.alloc; script = c.meet.new.self; inner = c.args.self.now.inner }) (asked c.args.request.now) is refl c.in-Ok.ensures.used

pub returns-in-CutUp-clause-stopped : goal.returns-in-CutUp-clause-stopped
returns-in-CutUp-clause-stopped g c =
    let is = met_is c.in-Ok.found c.meet.new.self.rules.items (content_of c.args.request.now.payload) c.args.self.now.script.rules.items _ c.in-Ok.ensures.used c.in-Ok.ensures.met c.action.ensures.at ∙ ap option_copied c.in-Some.is ∙ ap Some c.in-CutUp.is in
    cut_up g.H.Handler.stops c.args.self.now (record { alloc = c.args.self.now.alloc; script = c.meet.new.self; inner = c.args.self.now.inner }) (asked c.args.request.now) _ is refl c.in-Ok.ensures.used

pub returns-in_default-action : goal.returns-in_default-action
returns-in_default-action g c =
    let is = met_is c.in-Ok.found c.meet.new.self.rules.items (content_of c.args.request.now.payload) c.args.self.now.script.rules.items _ c.in-Ok.ensures.used c.in-Ok.ensures.met c.action.ensures.at ∙ ap option_copied c.in-Some.is in
    let pass = is_passed c.in-Some.action.now c.in_default-action.not-Reply c.in_default-action.not-HangUp c.in_default-action.not-CutUp in
    record {
      answered = passed g.H.Handler.does c.args.self.now (record { alloc = c.args.self.now.alloc; script = c.meet.new.self; inner = c.respond.new.self }) (asked c.args.request.now) _ _ c.respond.result is pass c.in-Ok.ensures.used c.respond.ensures.answered;
      count = c.respond.ensures.count;
      stopped = passed_stop g.H.Handler.stops c.args.self.now (record { alloc = c.args.self.now.alloc; script = c.meet.new.self; inner = c.respond.new.self }) (asked c.args.request.now) _ c.respond.result is pass c.in-Ok.ensures.used c.respond.ensures.stopped;
    }

pub returns-in-None-clause-answered : goal.returns-in-None-clause-answered
returns-in-None-clause-answered g c =
    let is = met_is c.in-Ok.found c.meet.new.self.rules.items (content_of c.args.request.now.payload) c.args.self.now.script.rules.items _ c.in-Ok.ensures.used c.in-Ok.ensures.met c.action.ensures.at ∙ ap option_copied c.in-None.is in
    passed g.H.Handler.does c.args.self.now (record { alloc = c.args.self.now.alloc; script = c.meet.new.self; inner = c.respond-in-None.new.self }) (asked c.args.request.now) _ _ c.respond-in-None.result is tt c.in-Ok.ensures.used c.respond-in-None.ensures.answered

pub returns-in-None-clause-stopped : goal.returns-in-None-clause-stopped
returns-in-None-clause-stopped g c =
    let is = met_is c.in-Ok.found c.meet.new.self.rules.items (content_of c.args.request.now.payload) c.args.self.now.script.rules.items _ c.in-Ok.ensures.used c.in-Ok.ensures.met c.action.ensures.at ∙ ap option_copied c.in-None.is in
    passed_stop g.H.Handler.stops c.args.self.now (record { alloc = c.args.self.now.alloc; script = c.meet.new.self; inner = c.respond-in-None.new.self }) (asked c.args.request.now) _ c.respond-in-None.result is tt c.in-Ok.ensures.used c.respond-in-None.ensures.stopped
