use Rattle.std.proofs.Common.{ℕ, ◌+◌, refl, ap, ◌∙◌, arith}
use Rattle.byte_views.specs.Appends.{done, no_room}
use Rattle.byte_views.specs.Sequences.{is_put, no_name, out_of_range, too_large, too_short}
use Rattle.byte_views.proofs.build.sequence.put_sequence.Goals as goal

pub returns-then-start-room : goal.returns-then-start-room
returns-then-start-room c = out_of_range c.if-start-room.true c.refused.ensures refl refl

pub returns-then-not-is_name : goal.returns-then-not-is_name
returns-then-not-is_name c = no_name c.if-start-room.false (c.is_name.ensures.no c.if-not-is_name.true) c.refused-then-not-is_name.ensures refl refl

pub returns-in-None : goal.returns-in-None
returns-in-None c = too_large (c.is_name.ensures.yes c.if-not-is_name.false) c.if-start-room.false (omega (arith, c.in-None.ensures)) c.refused-in-None.ensures refl refl

pub returns-then-start-gt-MAX_LEN : goal.returns-then-start-gt-MAX_LEN
returns-then-start-gt-MAX_LEN c = too_large (c.is_name.ensures.yes c.if-not-is_name.false) c.if-start-room.false (omega (arith, c.if-start-gt-MAX_LEN.true)) c.refused-then-start-gt-MAX_LEN.ensures refl refl

pub returns-then-wanted-gt-MAX_LEN : goal.returns-then-wanted-gt-MAX_LEN
returns-then-wanted-gt-MAX_LEN c = too_large (c.is_name.ensures.yes c.if-not-is_name.false) c.if-start-room.false (omega (arith, c.if-wanted-gt-MAX_LEN.true, c.in-Some.ensures.0)) c.refused-then-wanted-gt-MAX_LEN.ensures refl refl

pub returns-then-wanted-room : goal.returns-then-wanted-room
returns-then-wanted-room c =
    too_short (c.is_name.ensures.yes c.if-not-is_name.false) (omega (arith, c.if-wanted-room.true, c.in-Some.ensures.0)) (omega (arith, c.if-wanted-gt-MAX_LEN.false, c.in-Some.ensures.0)) c.if-start-room.false (c.no_room.ensures ∙ ap (λ (n : ℕ). no_room (c.args.end.now + n)) c.in-Some.ensures.0) refl refl

pub put_section-requires : goal.put_section-requires
put_section-requires c = record { within = omega (arith, c.if-wanted-room.false, c.in-Some.ensures.0); short = omega (arith, c.if-wanted-gt-MAX_LEN.false, c.in-Some.ensures.0) }

pub returns : goal.returns
returns c =
    is_put (c.is_name.ensures.yes c.if-not-is_name.false) (omega (arith, c.if-wanted-room.false, c.in-Some.ensures.0)) (omega (arith, c.if-wanted-gt-MAX_LEN.false, c.in-Some.ensures.0))
    (c.done.ensures ∙ ap (λ (n : ℕ). done (c.args.end.now + n)) c.in-Some.ensures.0) c.put_section.ensures (ap (λ (n : ℕ). c.args.end.now + n) c.in-Some.ensures.0)
