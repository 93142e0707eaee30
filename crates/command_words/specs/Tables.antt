-- The command line that a table makes, and what its matches hold.
use Rattle.std.specs.Prelude.{◌≡◌, ◌⊎◌, ◌≤◌, ⊤, ℕ, Bool, List, [], ◌∷◌, ◌&&◌, true, false, not, map}
use Rattle.std.specs.Prelude.{Option, Some, None, IfSome, is_some, codes, pos, if◌then◌else◌}
use Rattle.std.specs.List.{list_all, list_any}
use Rattle.std.specs.Str.{bytes_eq}
use Rattle.clap.specs.Simple.{on_top, new_shape}
use Rattle.clap.specs.Words.{App, IsUnsignedIn, Row as Found, Rule, Shape, Text, first_of}
use Rattle.clap.specs.Words.{is_simple_and_free, new_app, new_rule, one_of}
use Rattle.clap.specs.declared.builder.value_parser.ValueParser.TheVariants.{Signed, Unsigned}
use Rattle.command_words.specs.Arguments.{flag_rule, text_rule}
use Rattle.command_words.specs.Values.{IsNumber}
use Rattle.command_words.specs.declared.table.Form.{Form}
use Rattle.command_words.specs.declared.table.Kind.{Kind}
use Rattle.command_words.specs.declared.table.Kind.TheVariants as kind
use Rattle.command_words.specs.declared.table.Row.{Row}
use Rattle.command_words.specs.declared.table.Table.{Table}

-- ---- the command line

-- a required operand
abbrev pub operand_rule : Text → Rule
operand_rule id = record (new_rule id) { value_names = 1; required = true }

-- an operand that is a number from 1 to 100
abbrev pub count_rule : Text → Rule
count_rule id = record (operand_rule id) { parser = Some (Signed (pos 1) (pos 100)) }

-- an option that gives a number in this range
abbrev pub range_rule : ℕ → ℕ → Text → Rule
range_rule least most id = record (text_rule id) { parser = Some (Unsigned least most) }

abbrev pub kind_rule : Kind → Text → Rule
kind_rule kind.Flag id = flag_rule id
kind_rule kind.Text id = text_rule id
kind_rule (kind.Number least most) id = range_rule least most id
kind_rule kind.Operand id = operand_rule id
kind_rule kind.Count id = count_rule id

abbrev pub row_rule : Row → Rule
row_rule r = kind_rule r.kind r.name.now

-- a command with these arguments
abbrev pub shape_with : Text → List Row → Shape
shape_with name rows = record (new_shape name) { rules = map row_rule rows }

abbrev pub form_shape : Form → Shape
form_shape f = shape_with f.name.now f.rows.now

abbrev pub app_with : Text → List Row → App
app_with name rows = record { top = shape_with name rows; subs = [] }

abbrev pub form_app : Form → App
form_app f = app_with f.name.now f.rows.now

-- the program without subcommands: it has a version, and requires a subcommand
abbrev pub top_app : Table → App
top_app t = on_top (λ s. record s { subcommand_required = true; has_version = true })
    (new_app t.name.now)

abbrev pub has_no_form : List Form → Bool
has_no_form [] = true
has_no_form (f ∷ rest) = false

-- the program with these subcommands
abbrev pub line_with : Text → List Form → App
line_with name forms = record {
  top = record (new_shape name) {
    is_leaf = has_no_form forms;
    subcommand_required = true;
    has_version = true;
  };
  subs = map form_shape forms;
}

abbrev pub line_app : Table → App
line_app t = line_with t.name.now t.forms.now

-- ---- what a table has to be

-- no two rows have one name
abbrev pub are_apart : List Row → Bool
are_apart [] = true
are_apart (r ∷ rest) =
    not (list_any (λ q. bytes_eq r.name.now q.name.now) rest) && are_apart rest

-- there is a command, `clap` reads the words simply, and no two arguments of a command have one
-- name
abbrev pub IsTable : Table → Type 0
IsTable t = (has_no_form t.forms.now ≡ false) × (is_simple_and_free (line_app t) ≡ true)
    × (list_all (λ f. are_apart f.rows.now) t.forms.now ≡ true)

-- ---- what the matches hold

-- they hold the flag of this name, which was given or not
abbrev pub HoldsFlag : Text → Bool → List Found → Type 0
HoldsFlag name given rows =
    one_of name rows ≡ Some (if given then codes "true" else codes "false")

-- there is a text, and it is this number from 1 to 100
abbrev pub IsCount : ℕ → Option Text → Type 0
IsCount n found = (text : Text) × (found ≡ Some text) × IsNumber n text × (1 ≤ n) × (n ≤ 100)

-- what they hold of an argument of this kind
abbrev pub HoldsKind : Kind → Text → List Found → Type 0
HoldsKind kind.Flag name rows = (given : Bool) × HoldsFlag name given rows
HoldsKind kind.Text name rows = ⊤
HoldsKind (kind.Number least most) name rows = IfSome (one_of name rows) (IsUnsignedIn least most)
HoldsKind kind.Operand name rows = is_some (first_of name rows) ≡ true
HoldsKind kind.Count name rows = (n : ℕ) × IsCount n (one_of name rows)

-- they hold what each row says
abbrev pub Satisfies : List Row → List Found → Type 0
Satisfies [] rows = ⊤
Satisfies (r ∷ rest) rows = HoldsKind r.kind r.name.now rows × Satisfies rest rows

-- the name is that of a command, and they hold what its rows say
abbrev pub IsOfForm : List Form → Text → List Found → Type 0
IsOfForm [] name rows = ⊥
IsOfForm (f ∷ rest) name rows =
    ((name ≡ f.name.now) × Satisfies f.rows.now rows) ⊎ IsOfForm rest name rows

-- there is a subcommand, and it is one of these
abbrev pub IsMet : List Form → Option (Text × List Found) → Type 0
IsMet forms None = ⊥
IsMet forms (Some met) = IsOfForm forms met.0 met.1
