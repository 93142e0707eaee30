use Rattle.std.proofs.Common.{codes, inl, refl, subst, sym}
use Rattle.bson_json.specs.declared.mode.Mode.TheVariants.{Canonical}
use Rattle.bson_json.proofs.Lemmas.{one_then_word}
use Rattle.wire_msg.specs.{SpellsMsg}
use Rattle.wire_frames.specs.{frame_bytes}
use Rattle.wire_text.specs.{IsMessageJson}
use Rattle.proxy.specs.Shown.{IsMsgLine}
use Rattle.proxy.proofs.message.write_op_msg.Goals as goal

pub returns-in_ok-write_message_json-in-Ok : goal.returns-in_ok-write_message_json-in-Ok
returns-in_ok-write_message_json-in-Ok g c =
    let found = c.in-Ok.ensures.found in
    let m = found.1.1.0 in
    let spelled = subst (SpellsMsg m) c.as_bytes.ensures found.1.1.1 in
    one_then_word c.write_all.result _ _ _ (codes "\n") (IsMessageJson Canonical m) (IsMsgLine (frame_bytes c.args.frame)) (λ json is. inl (m, json, spelled, is, refl))
    (c.in_ok-write_message_json-in-Ok.ensures m (subst (SpellsMsg m) (sym found.0) found.1.1.1)) c.write_all.ensures.bytes
