use Rattle.std.proofs.Common.{◌+◌, ◌++◌, length, subst, sym, take, arith, length-take}
use Rattle.bson_elem.proofs.Lemmas.{IsBytes-take}
use Rattle.bson_elem.specs.{IsBytes}
use Rattle.bson_stream.specs.Holding.{IsWanted}
use Rattle.bson_stream.proofs.Holdings.{IsFed, bytes_join, is_put, not_need, wanted_within}
use Rattle.bson_stream.proofs.reader.DocumentReader.feed.Goals as goal
use Rattle.bson_stream.proofs.reader.DocumentReader.feed.Goals.{After-deref-2}

fed : (c : After-deref-2) → IsFed c.self.inside.limit c.self.inside.start (take c.self.inside.len c.self.inside.bytes.items) c.args.piece.now (take (c.self.inside.len + c.min-n.result) c.put_behind.new.bytes.items) (length c.self.inside.bytes.items) (length c.put_behind.new.bytes.items) c.min-n.result c.in_ok-wanted.wanted
fed c =
    let wanted : IsWanted c.self.inside.limit (take c.self.inside.len c.self.inside.bytes.items ++ c.args.piece.now) c.in_ok-wanted.wanted = rw c.deref.ensures.value at c.in_ok-wanted.ensures.wanted in
    let more = rw c.deref.ensures.value at c.in_ok-wanted.ensures.more in
    is_put _ c.self.inside.start c.self.inside.len c.min-n.result c.in_ok-wanted.wanted c.self.inside.bytes.items c.put_behind.new.bytes.items c.args.piece.now c.self.invariant.within wanted more c.min-n.ensures c.in_ok-put_behind.ensures.filled c.put_behind.ensures.grown c.in_ok-put_behind.ensures.most

pub state_of-self-inside-requires-clause-gathered : goal.state_of-self-inside-requires-clause-gathered
state_of-self-inside-requires-clause-gathered c =
    rw c.deref-2.ensures.value (fed (goal.at.state_of-self-inside-requires-clause-gathered c).After-deref-2).gathers

pub invariant_of-self-2 : goal.invariant_of-self-2
invariant_of-self-2 c =
    let f = fed (goal.at.invariant_of-self-2 c).After-deref-2 in
    record {
      limit = c.self.invariant.limit;
      within = omega (arith, c.in_ok-put_behind.ensures.there, c.min-n.ensures, length-take c.min-n.result c.args.piece.now);
      offset = omega (arith, c.if-piece-self.false, c.min-n.ensures, c.self.invariant.offset);
      state = rw c.deref-2.ensures.value at c.state_of-self-inside.ensures.stands;
      no_more = f.no_more;
      fits = subst IsBytes (sym f.held_is) (IsBytes-take c.in_ok-wanted.wanted (take c.self.inside.len c.self.inside.bytes.items ++ c.args.piece.now) (bytes_join (take c.self.inside.len c.self.inside.bytes.items) c.args.piece.now c.self.invariant.fits (λ i. (c.type_inv.piece i).fits)));
    }

pub returns-clause-fed : goal.returns-clause-fed
returns-clause-fed c = λ o.
    let f = fed (goal.at.returns-clause-fed c).After-deref-2 in
    rw (← c.self.view_is) (f.feeds c.state_of-self-inside.result (rw c.deref-2.ensures.value at c.state_of-self-inside.ensures.stands) (λ e. rw c.deref-2.ensures.value at c.state_of-self-inside.ensures.all e))

pub returns-in_default-clause-long : goal.returns-in_default-clause-long
returns-in_default-clause-long c = λ o a. absurd (not_need _ _ _ c.self.invariant.state c.in_default.not-Need (rw (← c.self.view_is) at o))

pub returns-in_err-put_behind-clause-long : goal.returns-in_err-put_behind-clause-long
returns-in_err-put_behind-clause-long c = λ o a. absurd (wanted_within _ _ _ (rw c.deref.ensures.value at c.in_ok-wanted.ensures.wanted) (rw (← c.self.view_is) at a))

pub returns-clause-long : goal.returns-clause-long
returns-clause-long c = λ o a. absurd (wanted_within _ _ _ (rw c.deref.ensures.value at c.in_ok-wanted.ensures.wanted) (rw (← c.self.view_is) at a))
