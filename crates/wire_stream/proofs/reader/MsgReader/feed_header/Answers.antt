use Rattle.wire_stream.proofs.Readings.{IsRefused, bad_fed, good_fed, on_err, refused_fed, short_fed, still_open}
use Rattle.wire_stream.proofs.reader.MsgReader.feed_header.Goals as goal
use Rattle.wire_stream.proofs.reader.MsgReader.feed_header.Goals.{After-from_residual}

pub invariant_of-self : goal.invariant_of-self
invariant_of-self c =
    let short = short_fed c.self.inside.limit c.self.inside.header c.fill_header-n.new.header c.args.piece.now c.self.inside.len c.fill_header-n.result c.self.inside.message c.self.invariant.kept (rw (← c.self.view_is) at c.requires) c.if-self-n.true c.fill_header-n.ensures.count c.fill_header-n.ensures.filled in
    record {
      limit = c.self.invariant.limit;
      whole = c.fill_header-n.ensures.whole;
      state = still_open _ _ _ _ c.self.invariant.state (rw (← c.self.view_is) at c.requires) short.state;
      kept = short.kept;
    }

pub returns-then-self-n-clause-fed : goal.returns-then-self-n-clause-fed
returns-then-self-n-clause-fed c =
    let short = short_fed c.self.inside.limit c.self.inside.header c.fill_header-n.new.header c.args.piece.now c.self.inside.len c.fill_header-n.result c.self.inside.message c.self.invariant.kept (rw (← c.self.view_is) at c.requires) c.if-self-n.true c.fill_header-n.ensures.count c.fill_header-n.ensures.filled in
    rw (← c.self.view_is) short.feeds

pub invariant_of-self-in-Err : goal.invariant_of-self-in-Err
invariant_of-self-in-Err c =
    let bad = bad_fed c.self.inside.limit c.self.inside.header c.fill_header-n.new.header c.args.piece.now c.self.inside.len c.fill_header-n.result c.self.inside.message c.in-Err.fault c.self.invariant.kept (rw (← c.self.view_is) at c.requires) c.fill_header-n.ensures.whole c.if-self-n.false c.fill_header-n.ensures.count c.fill_header-n.ensures.filled (rw c.read.ensures at c.in-Err.ensures) in
    record { limit = c.self.invariant.limit; whole = c.fill_header-n.ensures.whole; state = bad.state; kept = bad.kept }

pub returns-in-Err-clause-fed : goal.returns-in-Err-clause-fed
returns-in-Err-clause-fed c =
    let bad = bad_fed c.self.inside.limit c.self.inside.header c.fill_header-n.new.header c.args.piece.now c.self.inside.len c.fill_header-n.result c.self.inside.message c.in-Err.fault c.self.invariant.kept (rw (← c.self.view_is) at c.requires) c.fill_header-n.ensures.whole c.if-self-n.false c.fill_header-n.ensures.count c.fill_header-n.ensures.filled (rw c.read.ensures at c.in-Err.ensures) in
    rw (← c.self.view_is) bad.feeds

refused : (c : After-from_residual) → IsRefused c.self.inside.limit c.self.inside.header c.fill_header-n.new.header c.args.piece.now c.self.inside.len c.self.inside.message
refused c = refused_fed _ _ _ _ _ _ _ c.self.invariant.kept (rw (← c.self.view_is) at c.requires) c.self.told c.fill_header-n.ensures.whole c.if-self-n.false c.fill_header-n.ensures.count c.fill_header-n.ensures.filled (rw c.read.ensures at c.in_default.ensures)

pub invariant_of-self-in_err-message : goal.invariant_of-self-in_err-message
invariant_of-self-in_err-message c = record { limit = c.self.invariant.limit; whole = c.fill_header-n.ensures.whole; state = rw (refused c).same c.self.invariant.state; kept = (refused c).kept }

pub returns-in_err-message-clause-refused : goal.returns-in_err-message-clause-refused
returns-in_err-message-clause-refused c = on_err c.from_residual.result _ (rw (← c.self.view_is) (refused c).completes)

pub returns-in_err-message-clause-unchanged : goal.returns-in_err-message-clause-unchanged
returns-in_err-message-clause-unchanged c = on_err c.from_residual.result _ (rw (refused c).same c.self.view_is)

pub returns-clause-fed : goal.returns-clause-fed
returns-clause-fed c = rw (← c.self.view_is) (good_fed _ _ _ _ _ _ _ _ _ c.self.invariant.kept (rw (← c.self.view_is) at c.requires) c.fill_header-n.ensures.whole c.if-self-n.false c.fill_header-n.ensures.count c.fill_header-n.ensures.filled (rw c.in_ok-message.ensures.items at c.append_piece-fed.ensures.fed))
