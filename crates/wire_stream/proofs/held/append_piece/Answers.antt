use Rattle.std.proofs.Common.{◌≡◌, ◌-◌, ◌<◌, length, take, min, sym, ap, subst, ◌∙◌, arith, length-take}
use Rattle.std.specs.Int.{w32, from_le_bytes}
use Rattle.wire_msg.specs.{IsGoodHeader, header_of, number_at}
use Rattle.wire_stream.specs.declared.reader_state.ReaderState.TheVariants.{Need}
use Rattle.wire_stream.specs.Readers.{StandsAt}
use Rattle.wire_stream.proofs.Readings.{begun_on, goes_on, good_front}
use Rattle.wire_stream.proofs.held.append_piece.Goals as goal
use Rattle.wire_stream.proofs.held.append_piece.Goals.{After-deref-2}

announced : (c : After-deref-2) → c.little_u32-announced.result ≡ number_at c.args.message.now.items 0
announced c = c.little_u32-announced.ensures ∙ ap (λ x. from_le_bytes w32 (take 4 x)) c.deref.ensures.value

count : (c : After-deref-2) → c.min-n.result ≡ min (length c.args.piece.now) (number_at c.args.message.now.items 0 - length c.args.message.now.items)
count c = omega (arith, c.min-n.ensures, c.len.ensures, announced c)

pub state_of-requires-clause-good : goal.state_of-requires-clause-good
state_of-requires-clause-good c =
    subst (λ x. IsGoodHeader c.args.limit (header_of x)) (sym (c.deref-2.ensures.value ∙ c.in-Ok.ensures.items)) (good_front c.args.limit c.args.message.now.items (take c.min-n.result c.args.piece.now) c.requires.begun.header c.requires.begun.good)

pub returns-clause-fed : goal.returns-clause-fed
returns-clause-fed c =
    let at : StandsAt c.args.limit c.extend_from_slice.new.self.items c.state_of.result = rw c.deref-2.ensures.value at c.state_of.ensures.stands in
    let short : c.state_of.result ≡ Need → length c.extend_from_slice.new.self.items < number_at c.args.message.now.items 0 = λ e. rw (← announced (goal.at.returns-clause-fed c).After-deref-2, ← c.deref-2.ensures.value) (c.state_of.ensures.all e) in
    goes_on c.args.limit c.args.message.now c.extend_from_slice.new.self c.args.piece.now c.min-n.result c.state_of.result c.requires.begun (count (goal.at.returns-clause-fed c).After-deref-2) c.in-Ok.ensures.items at short

pub returns-clause-begun : goal.returns-clause-begun
returns-clause-begun c =
    begun_on c.args.limit c.args.message.now c.extend_from_slice.new.self (take c.min-n.result c.args.piece.now) c.requires.begun c.in-Ok.ensures.items (omega (arith, count (goal.at.returns-clause-begun c).After-deref-2, c.requires.begun.within, length-take c.min-n.result c.args.piece.now)) c.extend_from_slice.ensures.capacity
