-- What the bytes of a text are read as, by whether they are UTF-8.
use Rattle.std.proofs.Common.{◌≡◌, ◌∙◌, [], ℕ, List, Bool, true, false, Err, ap, sym}
use Rattle.std.specs.Prelude.{if◌then◌else◌}
use Rattle.std.specs.Str.{is_utf8}
use Rattle.bson_json_read.specs.declared.fault.Cause.TheVariants as causes
use Rattle.bson_json_read.specs.Reads.{Read, refused}
use Rattle.bson_json_read.specs.Sequences.{utf8_read}
use Rattle.bson_json_read.specs.Texts.{document_in}
use Rattle.bson_json_read.specs.Values.{Pair}

abbrev pub by_form : (text : List ℕ) → Bool → Read (List Pair)
by_form text utf8 = if utf8 then document_in text else refused causes.NotJson

pub of_text : (bytes text : List ℕ) → text ≡ bytes → is_utf8 bytes ≡ true → utf8_read bytes ≡ document_in text
of_text bytes text same is = ap (by_form bytes) is ∙ ap document_in (sym same)

pub of_others : (bytes : List ℕ) → is_utf8 bytes ≡ false → utf8_read bytes ≡ Err (causes.NotJson, [])
of_others bytes is = ap (by_form bytes) is
