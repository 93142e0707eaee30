use Rattle.std.proofs.Common.{◌∙◌, ap, arith, sym}
use Rattle.sockets.specs.RelayActs.{WayView, tells}
use Rattle.sockets.proofs.Ways.{finishes, receives, sends}
use Rattle.sockets.proofs.Windows.{none_held, some_held}
use Rattle.sockets.proofs.way.Way.step.Goals as goal

pub returns-then-self : goal.returns-then-self
returns-then-self g c = sends (tells g.F.Link.received g.F.Link.sent g.F.Link.ends g.F.Link.waits g.F.Link.failures g.F.EndSending.endings) (tells g.T.Link.received g.T.Link.sent g.T.Link.ends g.T.Link.waits g.T.Link.failures g.T.EndSending.endings) c.send.result _ _ c.args.from.now _ _ (g.P.Tap.seen c.args.tap.now) (rw (← c.self.view_is) (some_held c.self.inside.piece.items c.self.inside.start c.self.inside.end c.if-self.true c.self.invariant.within)) c.send.ensures

pub returns-in-Open : goal.returns-in-Open
returns-in-Open g c =
    receives (tells g.F.Link.received g.F.Link.sent g.F.Link.ends g.F.Link.waits g.F.Link.failures g.F.EndSending.endings) (tells g.T.Link.received g.T.Link.sent g.T.Link.ends g.T.Link.waits g.T.Link.failures g.T.EndSending.endings) c.receive.result _ _ _ _ c.args.to.now _ _ (ap (λ (w : WayView). w.stage) (sym c.self.view_is) ∙ c.in-Open.is)
    (rw (← c.self.view_is) (none_held c.self.inside.piece.items c.self.inside.start c.self.inside.end (omega (arith, c.if-self.false)))) c.receive.ensures

pub returns-in-Ending : goal.returns-in-Ending
returns-in-Ending g c =
    finishes (tells g.F.Link.received g.F.Link.sent g.F.Link.ends g.F.Link.waits g.F.Link.failures g.F.EndSending.endings) (tells g.T.Link.received g.T.Link.sent g.T.Link.ends g.T.Link.waits g.T.Link.failures g.T.EndSending.endings) c.finish.result _ _ c.args.from.now _ _ (g.P.Tap.seen c.args.tap.now) (ap (λ (w : WayView). w.stage) (sym c.self.view_is) ∙ c.in-Ending.is)
    (rw (← c.self.view_is) (none_held c.self.inside.piece.items c.self.inside.start c.self.inside.end (omega (arith, c.if-self.false)))) c.finish.ensures
