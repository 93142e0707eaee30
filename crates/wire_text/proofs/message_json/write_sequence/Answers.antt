use Rattle.std.proofs.Common.{refl}
use Rattle.text_writer.proofs.Lemmas.{word_first}
use Rattle.bson_json.proofs.Lemmas.{exact_one}
use Rattle.wire_text.proofs.message_json.write_sequence.Goals as goal

pub returns : goal.returns
returns g c = λ q name are.
    let documents = c.in_ok-write_documents.ensures q.documents are in
    let end = word_first _ _ _ _ _ _ documents.2 c.write_all-3.ensures.bytes in
    let behind = word_first _ _ _ _ _ _ c.in_ok-write_all-2.ensures.bytes end in
    let named = word_first _ _ _ _ _ _ c.in_ok-write_json_string.ensures behind in
    exact_one c.write_all-3.result _ _ _ _ (documents.0, documents.1, rw name refl) (word_first _ _ _ _ _ _ c.in_ok-write_all.ensures.bytes named)
