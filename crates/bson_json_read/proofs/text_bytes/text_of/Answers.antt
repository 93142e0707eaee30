use Rattle.std.proofs.lemmas.Bool.{false_from_ne_true}
use Rattle.std.proofs.lemmas.Str.{IsUtf8-from_is_utf8, is_utf8-from_IsUtf8}
use Rattle.bson_json_read.proofs.text_bytes.text_of.Goals as goal

pub returns-in-Ok-clause-cases : goal.returns-in-Ok-clause-cases
returns-in-Ok-clause-cases c = (c.in-Ok.ensures.cases.0, is_utf8-from_IsUtf8 _ c.in-Ok.ensures.cases.1)

pub returns-in-Err-clause-cases : goal.returns-in-Err-clause-cases
returns-in-Err-clause-cases c = false_from_ne_true _ (λ e. c.in-Err.ensures.cases.0 (IsUtf8-from_is_utf8 _ e))
