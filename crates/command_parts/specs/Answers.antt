-- Parts of answers, and whole ones, as lists of a name and a value (MongoDB manual, Database
-- Commands: hello, buildInfo, and the Output of each command).
use Rattle.std.specs.Prelude.{ℕ, ℤ, pos, List, [], ◌∷◌, Bool, true, false, codes}
use Rattle.std.specs.Prelude.{if◌then◌else◌}
use Rattle.bson_elem.specs.declared.kinds.Kind.TheVariants as kinds
use Rattle.bson_elem.specs.{raw_value}
use Rattle.bson_raw.specs.{TreeValue, leaf_value}
use Rattle.doc_query.specs.declared.failure.CommandError.{CommandError}
use Rattle.doc_query.specs.{array, code_name_of, code_of, int32, text, truth, words_of}
use Rattle.wire_msg.specs.declared.header.TheConstants.{MAX_MESSAGE_LEN}

-- the double 0
abbrev pub double_zero : TreeValue
double_zero = leaf_value kinds.Double (raw_value (0 ∷ 0 ∷ 0 ∷ 0 ∷ 0 ∷ 0 ∷ 0 ∷ 0 ∷ []))

-- the double 1
abbrev pub double_one : TreeValue
double_one = leaf_value kinds.Double (raw_value (0 ∷ 0 ∷ 0 ∷ 0 ∷ 0 ∷ 0 ∷ 240 ∷ 63 ∷ []))

-- ---- answers

-- `ok` alone
abbrev pub ok_alone : List (List ℕ × TreeValue)
ok_alone = (codes "ok", double_one) ∷ []

-- an error by its words, its number and its name
abbrev pub error_pairs : List ℕ → ℤ → List ℕ → List (List ℕ × TreeValue)
error_pairs words code name =
    (codes "ok", double_zero) ∷ (codes "errmsg", text words) ∷ (codes "code", int32 code)
    ∷ (codes "codeName", text name) ∷ []

-- the answer to a refused command
abbrev pub refusal_pairs : CommandError → List (List ℕ × TreeValue)
refusal_pairs e = error_pairs (words_of e) (code_of e) (code_name_of e)

-- the field that says that the server takes writes, by whether an older form of hello asks for it
abbrev pub primary_name : Bool → List ℕ
primary_name legacy = if legacy then codes "ismaster" else codes "isWritablePrimary"

-- the answer to hello
abbrev pub hello_pairs : Bool → List (List ℕ × TreeValue)
hello_pairs legacy =
    (codes "helloOk", truth true) ∷ (primary_name legacy, truth true)
    ∷ (codes "maxBsonObjectSize", int32 (pos 16777216))
    ∷ (codes "maxMessageSizeBytes", int32 (pos MAX_MESSAGE_LEN))
    ∷ (codes "maxWriteBatchSize", int32 (pos 100000)) ∷ (codes "minWireVersion", int32 (pos 0))
    ∷ (codes "maxWireVersion", int32 (pos 13)) ∷ (codes "readOnly", truth false) ∷ ok_alone

-- the numbers of the version
abbrev pub version_parts : List TreeValue
version_parts = int32 (pos 5) ∷ int32 (pos 0) ∷ int32 (pos 0) ∷ int32 (pos 0) ∷ []

-- the answer to buildInfo
abbrev pub build_pairs : List (List ℕ × TreeValue)
build_pairs =
    (codes "version", text (codes "5.0.0")) ∷ (codes "versionArray", array version_parts)
    ∷ (codes "maxBsonObjectSize", int32 (pos 16777216)) ∷ ok_alone
