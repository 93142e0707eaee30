-- What `clap` finds no fault in names a command of the table, and holds what its rows say.
use Rattle.std.proofs.Common.{◌≡◌, ◌∙◌, refl, ap, sym, Bool, true, false, not, ◌&&◌, ◌||◌, List, [], ◌∷◌, ◌++◌, map, Option, Some, None, is_some, option_map, codes, true≢false, inl, inr}
use Rattle.std.specs.Prelude.{IfSome, find}
use Rattle.std.specs.Option.{option_map_or}
use Rattle.std.specs.List.{list_all, list_any}
use Rattle.std.specs.Str.{bytes_eq}
use Rattle.std.proofs.lemmas.Slice.Eq.{bytes_eq-Decides}
use Rattle.clap.specs.Facts.{explicit_source}
use Rattle.clap.specs.Kinds.{check_kinds}
use Rattle.clap.specs.Faults.{check_fault, defaults_fault, entered_fault, fault_of, is_simple_and_free, level_fault, settle_fault, walk_fault}
use Rattle.clap.specs.Simple.{App, Shape, argument_words, built, built_leaf, entered, help_shape, inherited, is_simple, label_of, names_of, rows_at, subcommand_of}
use Rattle.clap.specs.Takes.{is_given}
use Rattle.clap.specs.Walk.{Row as Found, Text, answers_to, finished, nothing_held, settled, walk, walk_from}
use Rattle.command_words.specs.Tables.{IsMet, are_apart, form_shape, has_no_form, line_with}
use Rattle.command_words.specs.declared.table.Form.{Form}
use Rattle.command_words.proofs.FormLemmas.{IsUnfaulted, above, leaf_satisfies}
use Rattle.command_words.proofs.FoundRows.{Each, find_holds, no_kind, or_nil}
use Rattle.command_words.proofs.Stops.{IsNoHelp, walk_stop}

both : (a b : Bool) → (a && b) ≡ true → (a ≡ true) × (b ≡ true)
both true true e = (refl, refl)
both true false e = absurd (true≢false (sym e))
both false b e = absurd (true≢false (sym e))

-- where the subcommand has no fault, it is a command of the table
abbrev Meets : List Form → List Text → Shape → Type 0
Meets forms words s = IsUnfaulted s words → IsMet forms (Some (rows_at s words))

-- the subcommands, as building leaves them
abbrev leaves : Text → List Form → List Shape
leaves program forms = map built_leaf (map (inherited (above program false)) (map form_shape forms) ++ help_shape ∷ [])

is_help : (word : Text) → bytes_eq word (codes "help") ≡ false → (bytes_eq (codes "help") word || false) ≡ true → ⊥
is_help word differs is_one = go (bytes_eq (codes "help") word) refl is_one
  where
    go : (b : Bool) → bytes_eq (codes "help") word ≡ b → (b || false) ≡ true → ⊥
    go true is e =
        let same_word = (bytes_eq-Decides (codes "help") word).0 is in
        true≢false (ap (λ t. bytes_eq t (codes "help")) same_word ∙ differs)
    go false is e = true≢false (sym e)

-- what meets a later command meets one of all
meets_more : (f : Form) (rest : List Form) (word : Text) (words : List Text) (ss : List Shape) → Each (λ s. answers_to word (label_of s) ≡ true → Meets rest words s) ss
    → Each (λ s. answers_to word (label_of s) ≡ true → Meets (f ∷ rest) words s) ss
meets_more f rest word words [] each = tt
meets_more f rest word words (s ∷ ss) each = ((λ answers none. inr (each.0 answers none)), meets_more f rest word words ss each.1)

subs_meet : (program : Text) (forms : List Form) (word : Text) (words : List Text) → list_all (λ f. are_apart f.rows.now) forms ≡ true → bytes_eq word (codes "help") ≡ false
    → Each (λ s. answers_to word (label_of s) ≡ true → Meets forms words s) (leaves program forms)
subs_meet program [] word words apart differs = ((λ is_one. absurd (is_help word differs is_one)), tt)
subs_meet program (f ∷ rest) word words apart differs =
    let parts = both (are_apart f.rows.now) _ apart in (
      (λ _ none. inl (refl, leaf_satisfies program f.name.now f.rows.now words parts.0 none)),
      meets_more f rest word words (leaves program rest) (subs_meet program rest word words parts.1 differs),
    )

entered_meets : (forms : List Form) (o : Option Shape) (words : List Text) → IfSome o (Meets forms words)
    → option_map_or (λ s. level_fault s [] nothing_held words false []) o [] ≡ [] → is_some (option_map (λ s. rows_at s words) o) ≡ true
    → IsMet forms (option_map (λ s. rows_at s words) o)
entered_meets forms None words meets none some = absurd (true≢false (sym some))
entered_meets forms (Some s) words meets none some = meets none

misses : (help command argument : Bool) → command ≡ true → check_kinds help command argument ≡ [] → ⊥
misses true command argument is none = no_kind _ refl none
misses false true argument is none = no_kind _ refl none
misses false false argument is none = true≢false (sym is)

wants_subcommand : (s : Shape) (rows : List Found) (met : Bool) → s.subcommand_required ≡ true → check_fault s rows met ≡ [] → met ≡ true
wants_subcommand s rows true is none = refl
wants_subcommand s rows false is none =
    absurd (misses (s.arg_required_else_help && not (list_any (λ r. explicit_source r.source) rows)) s.subcommand_required
    (not (s.subcommand_negates_reqs && false) && list_any (λ a. a.required && not (is_given a.id rows)) s.rules) is none)

module _ (program : Text) (first : Form) (rest : List Form) (apart : list_all (λ f. are_apart f.rows.now) (first ∷ rest) ≡ true) where
  abbrev forms : List Form
  forms = first ∷ rest

  stop_meets : (stop : Option (Text × List Text)) → IsNoHelp stop → entered_fault (built (line_with program forms)) stop ≡ [] → is_some (entered (built (line_with program forms)) stop) ≡ true
      → IsMet forms (entered (built (line_with program forms)) stop)
  stop_meets None differs none some = absurd (true≢false (sym some))
  stop_meets (Some p) differs none some =
      entered_meets forms (find (λ s. answers_to p.0 (label_of s)) (built (line_with program forms)).subs) p.1
      (find_holds (λ s. answers_to p.0 (label_of s)) (Meets forms p.1) (built (line_with program forms)).subs (subs_meet program forms p.0 p.1 apart differs)) none some

  unfaulted_is_met : (words : List Text) → fault_of (line_with program forms) words ≡ [] → IsMet forms (subcommand_of (line_with program forms) words)
  unfaulted_is_met words none =
      let a = built (line_with program forms) in
      let args = argument_words (line_with program forms) words in
      let end = walk a.top.rules (names_of a) nothing_held args in
      let walking = or_nil (walk_fault a.top (names_of a) (walk_from nothing_held) args) _ none in
      let entering = or_nil (entered_fault a end.stopped) _ walking.1 in
      let settling = or_nil (settle_fault a.top.rules a.top.args_override_self end.held) _ entering.1 in
      let defaulting = or_nil (defaults_fault (settled a.top.rules end.held).rows a.top.rules) _ settling.1 in
      let some = wants_subcommand a.top (finished a.top.rules end.held) (is_some (entered a end.stopped)) refl defaulting.1 in
      stop_meets end.stopped (walk_stop a.top (names_of a) refl (walk_from nothing_held) args walking.0 tt) entering.0 some

pub is_met : (program : Text) (forms : List Form) (words : List Text) → has_no_form forms ≡ false → list_all (λ f. are_apart f.rows.now) forms ≡ true
    → fault_of (line_with program forms) words ≡ [] → IsMet forms (subcommand_of (line_with program forms) words)
is_met program [] words some apart none = absurd (true≢false some)
is_met program (f ∷ rest) words some apart none = unfaulted_is_met program f rest apart words none

-- a command that is simple and free is simple
pub simple_of : (a : App) → is_simple_and_free a ≡ true → is_simple a ≡ true
simple_of a e = (both (is_simple a) _ e).0
