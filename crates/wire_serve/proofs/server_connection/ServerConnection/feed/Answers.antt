use Rattle.std.proofs.Common.{ap, arith, inl, length, refl, take}
use Rattle.std.proofs.lemmas.Result.{err_from_is_err_and}
use Rattle.wire_serve.specs.declared.passing.Passed.TheVariants as passed
use Rattle.wire_serve.proofs.Feeding.{takes_some}
use Rattle.wire_serve.proofs.Taking.{next_of, not_inside, took_as, took_inside}
use Rattle.wire_serve.proofs.server_connection.ServerConnection.feed.Goals as goal

pub returns-then-is_inside-clause-taken : goal.returns-then-is_inside-clause-taken
returns-then-is_inside-clause-taken c = λ ready.
    let f = c.self.inside in
    let r = rw (← c.self.view_is) at ready in
    let some = c.if-is_inside.ensures.0 refl in
    rw (← c.self.view_is) (took_inside f.server c.feed.new.self f.part.items f.reply.items c.args.piece.now f.queried f.gone c.in_ok-n.n f.cause
    some (c.self.invariant.apart some) (c.in_ok-n.ensures.taken r.is_open (omega (arith, ap length r.none_waits, r.window))))

pub returns-then-is_inside-clause-some : goal.returns-then-is_inside-clause-some
returns-then-is_inside-clause-some c = λ ready some.
    let f = c.self.inside in
    let r = rw (← c.self.view_is) at ready in
    takes_some f.server c.feed.new.self c.args.piece.now c.in_ok-n.n
    (c.in_ok-n.ensures.taken r.is_open (omega (arith, ap length r.none_waits, r.window)))
    (rw (← c.self.view_is) at (c.is_ready.ensures.inside c.if-not-is_ready.false)) some

pub gather-requires-clause-next : goal.gather-requires-clause-next
gather-requires-clause-next c =
    let f = c.self.inside in
    let r = rw (← c.self.view_is) at (c.is_ready.ensures.yes c.if-not-is_ready.false) in
    next_of f.server f.part.items f.queried f.reply.items f.gone f.cause r (not_inside f.server.held c.if-is_inside.ensures.1) c.self.invariant.limit

pub returns-in-Nothing-clause-taken : goal.returns-in-Nothing-clause-taken
returns-in-Nothing-clause-taken c = λ ready.
    let f = c.self.inside in
    rw (← c.self.view_is) (took_as passed.Nothing f.server c.gather.new.server f.part.items (take c.in_ok-n-2.n c.args.piece.now) c.gather.new.part.items
    f.reply.items f.queried f.gone f.cause (not_inside f.server.held c.if-is_inside.ensures.1) (rw c.in-Nothing.is at c.in_ok-n-2.ensures.passed) c.in_ok-n-2.ensures.gathered)

pub returns-in-Header-clause-taken : goal.returns-in-Header-clause-taken
returns-in-Header-clause-taken c = λ ready.
    let f = c.self.inside in
    rw (← c.self.view_is) (took_as passed.Header f.server c.gather.new.server f.part.items (take c.in_ok-n-2.n c.args.piece.now) c.clear.new.self.items
    f.reply.items f.queried f.gone f.cause (not_inside f.server.held c.if-is_inside.ensures.1) (rw c.in-Header.is at c.in_ok-n-2.ensures.passed) c.clear.ensures.items)

pub returns-in-Query-clause-taken : goal.returns-in-Query-clause-taken
returns-in-Query-clause-taken c = λ ready.
    let f = c.self.inside in
    rw (← c.self.view_is) (took_as passed.Query f.server c.gather.new.server f.part.items (take c.in_ok-n-2.n c.args.piece.now) c.clear-in-Query.new.self.items
    f.reply.items f.queried f.gone f.cause (not_inside f.server.held c.if-is_inside.ensures.1) (rw c.in-Query.is at c.in_ok-n-2.ensures.passed) c.clear-in-Query.ensures.items)

pub returns-in-Refused-clause-taken : goal.returns-in-Refused-clause-taken
returns-in-Refused-clause-taken c = λ ready.
    let f = c.self.inside in
    rw (← c.self.view_is) (took_as (passed.Refused c.in-Refused.fault) f.server c.gather.new.server f.part.items (take c.in_ok-n-2.n c.args.piece.now) c.gather.new.part.items
    f.reply.items f.queried f.gone f.cause (not_inside f.server.held c.if-is_inside.ensures.1) (rw c.in-Refused.is at c.in_ok-n-2.ensures.passed) c.in_ok-n-2.ensures.gathered)

pub returns-in_err-n-2-clause-refused : goal.returns-in_err-n-2-clause-refused
returns-in_err-n-2-clause-refused c =
    let f = c.self.inside in
    let told = err_from_is_err_and c.from_residual-in_err-n-2.result c.from_residual-in_err-n-2.ensures.1 in
    rw (← c.self.view_is, told.1) (inl (not_inside f.server.held c.if-is_inside.ensures.1))
