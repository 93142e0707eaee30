-- Where `clap` finds no fault, the words name a subcommand other than `help`.
use Rattle.std.proofs.Common.{◌≡◌, ℕ, refl, Bool, true, false, not, ◌&&◌, List, [], ◌∷◌, Option, Some, None, is_some, codes}
use Rattle.std.specs.Prelude.{⊤, if◌then◌else◌, fold}
use Rattle.std.specs.Str.{bytes_eq}
use Rattle.clap.specs.Lexer.{long_of, short_of}
use Rattle.clap.specs.Kinds.{or_else}
use Rattle.clap.specs.Faults.{other_fault, step_fault, turn_fault, walk_fault, word_fault}
use Rattle.clap.specs.Simple.{Shape}
use Rattle.clap.specs.Walk.{Held, Names, Outcome, Rule, Step, Text, Waiting, Walk, done, waits, plain, refused, idle, option, positional, next, trailing, subcommand, value, after_flag, after_step, arg_by_index, long_or_other, plain_word, short_or_plain, subcommand_met, subcommand_or_other, to_positional, walked, walked_from, word_met, bundle, long_met, arg_by_long}
use Rattle.clap.specs.declared.error.kind.ErrorKind.TheVariants as kind
use Rattle.command_words.proofs.FoundRows.{no_kind, or_nil}

abbrev pub IsNoHelp : Option (Text × List Text) → Type 0
IsNoHelp None = ⊤
IsNoHelp (Some p) = bytes_eq p.0 (codes "help") ≡ false

abbrev StepsToNoHelp : Step → Type 0
StepsToNoHelp (subcommand name) = bytes_eq name (codes "help") ≡ false
StepsToNoHelp (next waiting) = ⊤
StepsToNoHelp (trailing position) = ⊤
StepsToNoHelp value = ⊤

module _ (s : Shape) (names : Names) (helps : s.disable_help_subcommand ≡ false) where
  plain_stop : (waiting : Waiting) (word : Text) (h : Held) → StepsToNoHelp (plain_word s.rules waiting word h).1
  plain_stop (option id) word h = tt
  plain_stop idle word h = tt
  plain_stop positional word h = tt

  after_stop : (waiting : Waiting) (word : Text) (h : Held) (o : Outcome) → StepsToNoHelp (after_flag s.rules waiting word h o).1
  after_stop waiting word h done = tt
  after_stop waiting word h (waits id) = tt
  after_stop waiting word h plain = plain_stop waiting word h
  after_stop waiting word h refused = plain_stop waiting word h

  short_stop : (o : Option Text) (waiting : Waiting) (word : Text) (h : Held) → StepsToNoHelp (short_or_plain s.rules waiting word o h).1
  short_stop (Some flags) waiting word h =
      let met = bundle s.rules flags h in
      after_stop waiting word met.0 met.1
  short_stop None waiting word h = plain_stop waiting word h

  long_stop : (o : Option (Text × Option Text)) (waiting : Waiting) (word : Text) (h : Held) → StepsToNoHelp (long_or_other s.rules waiting word o h).1
  long_stop (Some p) waiting word h =
      let met = long_met s.rules (arg_by_long s.rules p.0) p.1 h in
      after_stop waiting word met.0 met.1
  long_stop None waiting word h = short_stop (short_of word) waiting word h

  no_help : (b d : Bool) → d ≡ false → (if b && not d then kind.DisplayHelp ∷ kind.InvalidSubcommand ∷ [] else []) ≡ [] → b ≡ false
  no_help false d is none = refl
  no_help true true is none = is
  no_help true false is none = absurd (no_kind _ refl none)

  other_stop : (o : Option Text) (waiting : Waiting) (position : ℕ) (word : Text) (h : Held) → other_fault s o word h ≡ []
      → StepsToNoHelp (subcommand_or_other s.rules o waiting position word h).1
  other_stop (Some name) waiting position word h none = no_help (bytes_eq name (codes "help")) s.disable_help_subcommand helps none
  other_stop None waiting position word h none = go (bytes_eq word (45 ∷ 45 ∷ []))
    where
      go : (b : Bool) → StepsToNoHelp ((if b then (h, trailing position) else long_or_other s.rules waiting word (long_of word) h).1)
      go true = tt
      go false = long_stop (long_of word) waiting word h

  word_stop : (is_trailing : Bool) (waiting : Waiting) (position : ℕ) (word : Text) (h : Held) → word_fault s names is_trailing waiting word h ≡ []
      → StepsToNoHelp (word_met s.rules names is_trailing waiting position word h).1
  word_stop true waiting position word h none = tt
  word_stop false waiting position word h none = other_stop (subcommand_met names waiting word) waiting position word h none

  to_positional_stop : (o : Option Rule) (word : Text) (w : Walk) (h : Held) → IsNoHelp w.stopped → IsNoHelp (to_positional s.rules o word w h).stopped
  to_positional_stop None word w h before = before
  to_positional_stop (Some a) word w h before = tt

  step_stop : (st : Step) (w : Walk) (word : Text) (h : Held) → StepsToNoHelp st → IsNoHelp w.stopped → IsNoHelp (after_step s.rules word w h st).stopped
  step_stop (next waiting) w word h step before = before
  step_stop (trailing position) w word h step before = before
  step_stop (subcommand name) w word h step before = step
  step_stop value w word h step before = to_positional_stop (arg_by_index s.rules w.position) word w h before

  turn_stop : (w : Walk) (word : Text) → turn_fault s names w word ≡ [] → IsNoHelp w.stopped → IsNoHelp (walked s.rules names w word).stopped
  unfolding walked
  turn_stop w word none before = go w.stopped none before
    where
      go : (o : Option (Text × List Text))
          → (if is_some o then [] else or_else (word_fault s names w.is_trailing w.waiting word w.held)
          (step_fault s w.position (word_met s.rules names w.is_trailing w.waiting w.position word w.held).0 (word_met s.rules names w.is_trailing w.waiting w.position word w.held).1)) ≡ []
          → IsNoHelp o → IsNoHelp (walked_from s.rules names o w word).stopped
      go (Some p) e stopped = stopped
      go None e stopped =
          let met = word_met s.rules names w.is_trailing w.waiting w.position word w.held in
          let parts = or_nil (word_fault s names w.is_trailing w.waiting word w.held) _ e in
          step_stop met.1 w word met.0 (word_stop w.is_trailing w.waiting w.position word w.held parts.0) before

  pub walk_stop : (w : Walk) (words : List Text) → walk_fault s names w words ≡ [] → IsNoHelp w.stopped → IsNoHelp (fold (walked s.rules names) w words).stopped
  unfolding walk_fault
  walk_stop w [] none before = before
  walk_stop w (word ∷ rest) none before =
      let parts = or_nil (turn_fault s names w word) _ none in
      walk_stop (walked s.rules names w word) rest parts.1 (turn_stop w word parts.0 before)
