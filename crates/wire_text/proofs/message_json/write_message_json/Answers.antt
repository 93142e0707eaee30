use Rattle.std.proofs.Common.{refl}
use Rattle.text_writer.proofs.Lemmas.{word_first}
use Rattle.bson_json.proofs.Lemmas.{exact_one}
use Rattle.wire_text.proofs.message_json.write_message_json.Goals as goal

pub returns : goal.returns
returns g c = λ m s.
    let content = c.payload-payload.ensures m s in
    let body = c.in_ok-write_json.ensures m.content.body (c.body.ensures m.content content) in
    let sequences = c.in_ok-write_sequences.ensures m.content content in
    let end = word_first _ _ _ _ _ _ sequences.2 c.write_all-4.ensures.bytes in
    let behind = word_first _ _ _ _ _ _ c.in_ok-write_all-3.ensures.bytes end in
    let inside = word_first _ _ _ _ _ _ body.2 behind in
    let named = word_first _ _ _ _ _ _ c.in_ok-write_all-2.ensures.bytes inside in
    let flags = word_first _ _ _ _ _ _ c.in_ok-write_flags.ensures named in
    let header = word_first _ _ _ _ _ _ (c.in_ok-write_header.ensures m s) flags in
    exact_one c.write_all-4.result _ _ _ _ (body.0, sequences.0, body.1, sequences.1, rw (c.flags.ensures m s) refl) (word_first _ _ _ _ _ _ c.in_ok-write_all.ensures.bytes header)
