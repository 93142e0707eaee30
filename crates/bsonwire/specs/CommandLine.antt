-- The command line of the program, as `clap` sees it.
use Rattle.std.specs.Prelude.{[], ◌∷◌, List, true, codes, fold}
use Rattle.clap.specs.Words.{App, Text, new_app, with_rule, with_subcommand}
use Rattle.clap.specs.Simple.{on_top}
use Rattle.command_words.specs.{count_rule, flag_rule, operand_rule}

-- a subcommand that reads a file, with these flags
abbrev pub file_app : Text → List Text → App
file_app name flags =
    fold (λ a flag. with_rule a (flag_rule flag))
    (with_rule (new_app name) (operand_rule (codes "file"))) flags

-- the flags of one that reads text
abbrev pub text_flags : List Text
text_flags = codes "quiet" ∷ []

-- the flags of one that reads bytes, which may be spelt as hexadecimal text
abbrev pub bytes_flags : List Text
bytes_flags = codes "quiet" ∷ codes "hex" ∷ []

-- the flags of the one that writes the text of documents
abbrev pub dump_flags : List Text
dump_flags = codes "quiet" ∷ codes "hex" ∷ codes "offsets" ∷ []

-- the flags of one that reads documents, also where some bytes are damaged
abbrev pub salvage_flags : List Text
salvage_flags = codes "quiet" ∷ codes "hex" ∷ codes "salvage" ∷ []

-- the flags of the one that reads messages
abbrev pub msg_flags : List Text
msg_flags = codes "quiet" ∷ codes "hex" ∷ codes "json" ∷ codes "relaxed" ∷ codes "any" ∷ []

-- the flags of the one that writes Extended JSON
abbrev pub json_flags : List Text
json_flags = codes "quiet" ∷ codes "hex" ∷ codes "relaxed" ∷ codes "array" ∷ []

-- the subcommand that writes the text of documents
abbrev pub dump_app : App
dump_app = file_app (codes "dump") dump_flags

-- the subcommand that says of documents whether they are in canonical form
abbrev pub check_app : App
check_app = file_app (codes "check") salvage_flags

-- the subcommand that writes their canonical form
abbrev pub canon_app : App
canon_app = file_app (codes "canon") salvage_flags

-- the subcommand that reads messages
abbrev pub msg_app : App
msg_app = file_app (codes "msg") msg_flags

-- the subcommand that writes Extended JSON
abbrev pub json_app : App
json_app = file_app (codes "json") json_flags

-- the subcommand that writes the documents of Extended JSON
abbrev pub bson_app : App
bson_app = file_app (codes "bson") text_flags

-- the subcommand that runs a script
abbrev pub play_app : App
play_app = file_app (codes "play") text_flags

-- the subcommand that makes N calls
abbrev pub loop_app : App
loop_app = with_rule (new_app (codes "loop")) (count_rule (codes "calls"))

-- the program without subcommands: it has a version, and requires a subcommand
abbrev pub top_app : App
top_app = on_top (λ s. record s { subcommand_required = true; has_version = true })
    (new_app (codes "bsonwire"))

-- the program with the subcommands that tell of documents
abbrev pub check_line : App
check_line = with_subcommand (with_subcommand top_app dump_app.top) check_app.top

-- the program with all that read bytes, but for those of Extended JSON
abbrev pub file_line : App
file_line = with_subcommand (with_subcommand check_line canon_app.top) msg_app.top

-- the program with those that write and read Extended JSON, too
abbrev pub json_line : App
json_line = with_subcommand (with_subcommand file_line json_app.top) bson_app.top

-- the whole command line
abbrev pub command_line : App
command_line = with_subcommand (with_subcommand json_line play_app.top) loop_app.top
