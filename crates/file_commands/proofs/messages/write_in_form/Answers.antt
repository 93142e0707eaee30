use Rattle.std.proofs.Common.{codes, refl}
use Rattle.bson_json.proofs.Lemmas.{exact_one, one_then_word}
use Rattle.wire_text.specs.{message_text}
use Rattle.file_commands.proofs.messages.write_in_form.Goals as goal

pub returns-in-Text : goal.returns-in-Text
returns-in-Text g c = λ m s.
    rw (c.in-Text.is) (exact_one c.write_message.result _ _ (message_text m) _ refl (c.write_message.ensures m s))

pub returns-in_ok-write_message_json-in-Json : goal.returns-in_ok-write_message_json-in-Json
returns-in_ok-write_message_json-in-Json g c = λ m s.
    rw (c.in-Json.is)
    (one_then_word c.write_all.result _ _ _ (codes "\n") _ _ (λ json is. (json, is, refl)) (c.in_ok-write_message_json-in-Json.ensures m s) c.write_all.ensures.bytes)
