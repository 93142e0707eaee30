use Rattle.std.proofs.Common.{◌≡◌, [], false, inr, refl, subst, sym, true}
use Rattle.std.proofs.KnownBytes.{Appends-nil}
use Rattle.wire_msg.specs.declared.header.TheConstants.{MAX_MESSAGE_LEN}
use Rattle.wire_frames.specs.{frame_bytes}
use Rattle.wire_query.specs.{IsQuery, SpellsQuery}
use Rattle.proxy.proofs.Showing.{query_written}
use Rattle.proxy.proofs.message.write_query.Goals as goal

pub returns-in_ok-write_all-in-Ok-2 : goal.returns-in_ok-write_all-in-Ok-2
returns-in_ok-write_all-in-Ok-2 g c =
    let found = c.in-Ok.ensures.found in
    let q = found.1.1.0 in
    let spelled = subst (SpellsQuery q) c.as_bytes.ensures found.1.1.1 in
    let of_query = subst (SpellsQuery q) (sym found.0) found.1.1.1 in
    query_written c.write_json.result _ _ _ _ _ (frame_bytes c.args.frame) q _ spelled (c.database.ensures q of_query)
    c.in_ok-write_all-in-Ok.ensures.bytes c.in_ok-write_json_string-in-Ok.ensures c.in_ok-write_all-in-Ok-2.ensures.bytes (c.write_json.ensures q.body (c.body.ensures q of_query))

pub returns-in-Err : goal.returns-in-Err
returns-in-Err g c = ([], inr (λ is. let no : false ≡ true = c.in-Err.ensures.only (subst (IsQuery MAX_MESSAGE_LEN) (sym c.as_bytes.ensures) is) in cc, refl), Appends-nil _)
