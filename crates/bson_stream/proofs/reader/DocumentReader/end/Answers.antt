use Rattle.std.proofs.Common.{ap, subst, sym}
use Rattle.std.specs.Prelude.{Err}
use Rattle.bson_stream.specs.Standing.{IsOpen}
use Rattle.bson_stream.proofs.Holdings.{bad_is, bad_once, need_is, ready_is}
use Rattle.bson_stream.proofs.Standings.{nothing_open, spelled_not_bad, spelled_not_open}
use Rattle.bson_stream.proofs.reader.DocumentReader.end.Goals as goal

pub returns-in-Bad-clause-inside : goal.returns-in-Bad-clause-inside
returns-in-Bad-clause-inside c = λ o some. absurd ((bad_is _ _ _ _ c.self.invariant.state c.in-Bad.is).decided (rw (← c.self.view_is) at o))

pub returns-in-Bad-clause-between : goal.returns-in-Bad-clause-between
returns-in-Bad-clause-between c = λ none. absurd ((bad_is _ _ _ _ c.self.invariant.state c.in-Bad.is).decided (subst IsOpen (sym (rw (← c.self.view_is) at none)) nothing_open))

pub returns-in-Bad-clause-ready : goal.returns-in-Bad-clause-ready
returns-in-Bad-clause-ready c = λ s. absurd (spelled_not_bad _ _ _ c.self.invariant.fits (rw (← c.self.view_is) at s) (bad_is _ _ _ _ c.self.invariant.state c.in-Bad.is))

pub returns-in-Bad-clause-bad : goal.returns-in-Bad-clause-bad
returns-in-Bad-clause-bad c = λ f b. ap Err (bad_once _ _ _ f c.self.invariant.fits (bad_is _ _ _ _ c.self.invariant.state c.in-Bad.is) (rw (← c.self.view_is) at b))

pub returns-in-Ready-clause-inside : goal.returns-in-Ready-clause-inside
returns-in-Ready-clause-inside c = λ o some. absurd (spelled_not_open _ (ready_is _ _ _ _ c.self.invariant.state c.in-Ready.is) (rw (← c.self.view_is) at o))

pub returns-in-Ready-clause-bad : goal.returns-in-Ready-clause-bad
returns-in-Ready-clause-bad c = λ f b. absurd (spelled_not_bad _ _ f c.self.invariant.fits (ready_is _ _ _ _ c.self.invariant.state c.in-Ready.is) (rw (← c.self.view_is) at b))

pub returns-then-self-eq0-clause-bad : goal.returns-then-self-eq0-clause-bad
returns-then-self-eq0-clause-bad c = λ f b. absurd ((rw (← c.self.view_is) at b).decided (need_is _ _ _ c.self.invariant.state c.in-Need.is))

pub returns-else-self-eq0-clause-ready : goal.returns-else-self-eq0-clause-ready
returns-else-self-eq0-clause-ready c = λ s. absurd (spelled_not_open _ (rw (← c.self.view_is) at s) (need_is _ _ _ c.self.invariant.state c.in-Need.is))

pub returns-else-self-eq0-clause-bad : goal.returns-else-self-eq0-clause-bad
returns-else-self-eq0-clause-bad c = λ f b. absurd ((rw (← c.self.view_is) at b).decided (need_is _ _ _ c.self.invariant.state c.in-Need.is))
