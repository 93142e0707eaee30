use Rattle.std.proofs.lemmas.Bool.{false_from_ne_true}
use Rattle.std.proofs.lemmas.Str.{IsUtf8-from_is_utf8, IsUtf8-from_ascii, is_utf8-from_IsUtf8}
use Rattle.bson_elem.proofs.text.text_of.Goals as goal

pub known_text-requires : goal.known_text-requires
known_text-requires c = is_utf8-from_IsUtf8 _ (IsUtf8-from_ascii _ c.if-is_ascii.ensures.cases)

pub returns-then-is_ascii : goal.returns-then-is_ascii
returns-then-is_ascii c = (c.known_text.ensures, is_utf8-from_IsUtf8 _ (IsUtf8-from_ascii _ c.if-is_ascii.ensures.cases))

pub returns-in-Ok : goal.returns-in-Ok
returns-in-Ok c = (c.in-Ok.ensures.0, is_utf8-from_IsUtf8 _ c.in-Ok.ensures.1)

pub returns-in-Err : goal.returns-in-Err
returns-in-Err c = false_from_ne_true _ (λ e. c.in-Err.ensures (IsUtf8-from_is_utf8 _ e))
