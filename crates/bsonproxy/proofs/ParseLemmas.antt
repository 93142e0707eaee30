-- What a parse holds names a choice.
use Rattle.std.proofs.Common.{◌≡◌, ◌⊎◌, ◌≤◌, ℕ, sym, subst, Option, List, Some, None, codes, inl, inr, arith}
use Rattle.std.specs.Prelude.{⊤, IfSome, is_some, true}
use Rattle.clap.specs.Words.{IsUnsignedIn, Row, Text, first_of, one_of}
use Rattle.command_words.specs.{HasNumber, HoldsFlag, IsMet}
use Rattle.command_words.specs.declared.table.Form.{Form}
use Rattle.bsonproxy.specs.Choices.{HasOptions, HasReplay, MakeChoices, MayChoose, NamesSubcommand}

-- a number in a range is one of 64 bits
number_in : (least most : ℕ) (o : Option Text) → most ≤ 18446744073709551615 → IfSome o (IsUnsignedIn least most) → IfSome o (IsUnsignedIn 0 18446744073709551615)
number_in least most None small is = tt
number_in least most (Some t) small is = (is.0, is.1, omega (arith), omega (arith, small, is.3))

-- there is a first value of this name
abbrev HasFirst : Text → List Row → Type 0
HasFirst name rows = is_some (first_of name rows) ≡ true

-- there is a number in a range, where there is a text
abbrev HasNumberIn : ℕ → ℕ → Text → List Row → Type 0
HasNumberIn least most name rows = IfSome (one_of name rows) (IsUnsignedIn least most)

abbrev HasFlag : Text → List Row → Type 0
HasFlag name rows = (given : _) × HoldsFlag name given rows

-- what the rows of `serve` say
abbrev pub ServeHolds : List Row → Type 0
ServeHolds rows =
    HasFirst (codes "listen") rows × (HasFirst (codes "upstream") rows × (HasFlag (codes "text") rows × (HasFlag (codes "json") rows ×
    (⊤ × (HasNumber (codes "limit") rows × (HasNumberIn 1 1024 (codes "share") rows × (HasNumber (codes "connections") rows ×
    (HasFlag (codes "until-stdin-closes") rows × (⊤ × (⊤ × (HasNumber (codes "seed") rows × ⊤)))))))))))

serve_names : (rows : List Row) → ServeHolds rows → HasOptions rows
serve_names rows (listen, (upstream, (text, (json, (record_, (limit, (share, (connections, (until, (port, (script, (seed, end)))))))))))) =
    (listen, upstream, connections, seed, limit, number_in 1 1024 (one_of (codes "share") rows) (omega arith) share)

-- what the rows of `replay` say
abbrev pub ReplayHolds : List Row → Type 0
ReplayHolds rows = HasFirst (codes "file") rows × (HasFirst (codes "address") rows × (⊤ × (HasNumberIn 1 18446744073709551615 (codes "speed") rows × ⊤)))

replay_names : (rows : List Row) → ReplayHolds rows → HasReplay rows
replay_names rows (file, (address, (ignore, (speed, end)))) =
    (file, address, number_in 1 18446744073709551615 (one_of (codes "speed") rows) (omega arith) speed)

-- the name is that of a subcommand, and the matches hold what its rows say
abbrev pub IsOfTable : Text → List Row → Type 0
IsOfTable name rows = ((name ≡ codes "serve") × ServeHolds rows) ⊎ ((name ≡ codes "replay") × ReplayHolds rows) ⊎ ⊥

names : (name : Text) (rows : List Row) → IsOfTable name rows → NamesSubcommand name rows
names name rows (inl (is, held)) = inl (is, serve_names rows held)
names name rows (inr (inl (is, held))) = inr (is, replay_names rows held)
names name rows (inr (inr none)) = absurd none

pub of_table : (name : Text) (rows : List Row) → IsOfTable name rows → MayChoose (Some (name, rows))
of_table name rows is = λ none. names name rows is

pub met_may_choose : (forms : List Form) → MakeChoices forms → (met : Option (Text × List Row)) → IsMet forms met → MayChoose met
met_may_choose forms makes None met = absurd met
met_may_choose forms makes (Some met) is = makes met.0 met.1 is
