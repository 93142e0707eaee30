use Rattle.std.proofs.Common.{[], arith, refl, sym, subst}
use Rattle.bson_elem.specs.{Spells}
use Rattle.wire_msg.specs.{body_alone}
use Rattle.core_handles.proofs.Answering.{alone_fits}
use Rattle.core_handles.proofs.client_calls.payload_alone.Goals as goal

pub returns-in-Ok-new : goal.returns-in-Ok-new
returns-in-Ok-new c =
    let spelled = c.in-Ok.ensures.found.1 in
    let carries = c.in-Ok-new.ensures.made spelled.0 (subst (Spells spelled.0) (sym c.in-Ok.ensures.found.0) spelled.1) in (
      body_alone spelled.0,
      carries,
      record { first = []; last = []; first_are = refl; body_is = spelled.1; last_are = refl; in_order = refl; content = carries.content; short = carries.short },
      alone_fits spelled.0 c.args.body.now spelled.1 (omega (arith, c.if-body-gt-MAX_BODY_LEN.false)),
    )
