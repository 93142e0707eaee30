-- The parts of a line as they are read: its first word, and what follows that.
use Rattle.std.specs.Prelude.{ℕ, List, [], ◌∷◌, Option, Some, None}
use Rattle.std.specs.Borrow.{Bor}
use Rattle.wire_model.specs.declared.events.Event.{Event}
use Rattle.wire_model.specs.declared.events.Event.TheVariants as events
use Rattle.wire_play.specs.declared.operands.SetupWords.{SetupWords}
use Rattle.wire_play.specs.Words.{words_of}

-- the words after a word, if a space follows it
abbrev pub words_behind : Option (Bor (List ℕ)) → List (List ℕ)
words_behind None = []
words_behind (Some rest) = words_of rest.now

-- the words of a setup, in order
abbrev pub setup_words : SetupWords → List (List ℕ)
setup_words x = x.handler.now ∷ x.first.now ∷ x.window.now ∷ x.max.now ∷ x.limit.now ∷ []

-- the event names no bytes
abbrev pub IsBare : Event → Type 0
IsBare (events.Call c kind payload) = ⊥
IsBare (events.Raw c bytes) = ⊥
IsBare e = Unit {0}
