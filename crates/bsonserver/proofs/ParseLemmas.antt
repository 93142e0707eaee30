-- What a parse of the command line holds: a number of connections where one was given.
use Rattle.std.proofs.Common.{zero, suc, ◌≡◌, ◌∙◌, ◌<◌, ◌&&◌, ◌||◌, ap, refl, sym, subst, ℕ, Bool, true, false, not, List, [], ◌∷◌, length, Option, Some, None, inl, inr, codes, arith, true≢false}
use Rattle.std.specs.Prelude.{IfSome, option_and_then, option_map, map, slice_get}
use Rattle.std.specs.Borrow.{Bor}
use Rattle.std.specs.List.{All, list_any, slice_index_or}
use Rattle.std.specs.Str.{bytes_eq}
use Rattle.std.proofs.Math.Dec.{eqb-suc-zero}
use Rattle.std.proofs.lemmas.List.{length-map}
use Rattle.std.proofs.lemmas.List.Elements.{All-get_or}
use Rattle.std.proofs.lemmas.Slice.Eq.{bytes_eq-Decides}
use Rattle.clap.specs.Built.{IsParsedFrom, IsPlain, IsPlainArg}
use Rattle.clap.specs.Facts.{Entry, EntryPasses, HasReading, PassesArg, args_of, groups_of, parser_of, parser_of_value}
use Rattle.clap.specs.Matches.{found_of, matched_of}
use Rattle.clap.specs.Simple.{App, app_of}
use Rattle.clap.specs.Values.{Accepts, IsUnsignedIn, read_as, reading_of}
use Rattle.clap.specs.Walk.{Rule, Text, is_empty, rows_of, rule_of}
use Rattle.clap.specs.declared.builder.arg.Arg.{Arg}
use Rattle.clap.specs.declared.builder.command.Command.{Command}
use Rattle.clap.specs.declared.builder.command.Command.TheViews.{out-Command}
use Rattle.clap.specs.declared.builder.value_parser.Reading.{Reading}
use Rattle.clap.specs.declared.builder.value_parser.Reading.TheVariants.{AsWritten}
use Rattle.clap.specs.declared.builder.value_parser.ValueParser.{ValueParser}
use Rattle.clap.specs.declared.builder.value_parser.ValueParser.TheVariants.{Unsigned}
use Rattle.clap.specs.declared.parser.matches.ArgMatches.{ArgMatches}
use Rattle.clap.specs.declared.parser.matches.MatchedArg.{MatchedArg}
use Rattle.clap.proofs.CallerLemmas.{entry_by_id, same_rules_by_id}
use Rattle.clap.proofs.WalkLemmas.{both, one_text-rows}
use Rattle.command_words.specs.{HasNumber, number_rule}
use Rattle.bsonserver.specs.CommandLine.{command_line}
use Rattle.bsonserver.specs.Choices.{HasChoice}

is_nil : {X : Type 0} (xs : List X) → is_empty xs ≡ true → xs ≡ []
is_nil [] e = refl
is_nil (x ∷ xs) e = absurd (true≢false (sym e ∙ eqb-suc-zero (length xs)))

is_false : (b : Bool) → not b ≡ true → b ≡ false
is_false true e = sym e
is_false false e = refl

-- an argument that changes nothing of how words are read, and has no rule on another, excludes nothing
plain_arg : (a : Arg) → (rule_of a).is_simple ≡ true → (rule_of a).is_free ≡ true → IsPlainArg a
plain_arg a simple free =
    let overrides = both (is_empty a.overrides.items) _ simple in
    let ifs = both (is_empty a.default_vals_ifs.items) _ overrides.1 in
    let groups = both (is_empty a.groups.items) _ ifs.1 in
    let exclusive = both (not a.exclusive) _ free in
    let conflicts = both (is_empty a.conflicts.items) _ exclusive.1 in
    (is_false a.exclusive exclusive.0, is_nil a.conflicts.items conflicts.0, is_nil a.overrides.items overrides.0, is_nil a.groups.items groups.0)

differs : (a b : Text) → bytes_eq a a ≡ true → bytes_eq a b ≡ false → a ≡ b → ⊥
differs a b same other e = true≢false (sym same ∙ (ap (bytes_eq a) e ∙ other))

-- ---- the arguments

-- no rule but the one at this place has this id
abbrev only_at : Text → ℕ → List Rule → Bool
only_at id zero [] = true
only_at id (suc k) [] = true
only_at id zero (r ∷ rs) = not (list_any (λ s. bytes_eq s.id id) rs)
only_at id (suc k) (r ∷ rs) = not (bytes_eq r.id id) && only_at id k rs

-- a place in a list of arguments and in that of their rules
rule_at : (l : List Arg) (j : ℕ) (d : Arg) → rule_of (slice_index_or l j d) ≡ slice_index_or (map rule_of l) j (rule_of d)
rule_at [] j d = refl
rule_at (a ∷ l) zero d = refl
rule_at (a ∷ l) (suc j) d = rule_at l j d

-- one of two truths, and the second of two untruths
first_of_two : (a b : Bool) → a ≡ true → (a || b) ≡ true
first_of_two true b is = refl
first_of_two false b is = absurd (true≢false (sym is))

second_of_two : (a b : Bool) → (a || b) ≡ false → b ≡ false
second_of_two true b none = absurd (true≢false none)
second_of_two false b none = none

no_other : (id : Text) (rs : List Rule) (j : ℕ) (d : Rule) → list_any (λ s. bytes_eq s.id id) rs ≡ false → j < length rs
    → bytes_eq (slice_index_or rs j d).id id ≡ true → ⊥
no_other id [] j d none lt same = absurd (omega arith)
no_other id (r ∷ rs) zero d none lt same = true≢false (sym (first_of_two (bytes_eq r.id id) _ same) ∙ none)
no_other id (r ∷ rs) (suc j) d none lt same = no_other id rs j d (second_of_two (bytes_eq r.id id) _ none) (omega (arith, lt)) same

only_one : (id : Text) (k : ℕ) (rs : List Rule) (d : Rule) → only_at id k rs ≡ true → (j : ℕ) → j < length rs
    → bytes_eq (slice_index_or rs j d).id id ≡ true → j ≡ k
only_one id zero [] d only j lt same = absurd (omega arith)
only_one id (suc k) [] d only j lt same = absurd (omega arith)
only_one id zero (r ∷ rs) d only zero lt same = refl
only_one id zero (r ∷ rs) d only (suc j) lt same = absurd (no_other id rs j d (is_false _ only) (omega (arith, lt)) same)
only_one id (suc k) (r ∷ rs) d only zero lt same = absurd (true≢false (sym same ∙ is_false _ (both (not (bytes_eq r.id id)) _ only).0))
only_one id (suc k) (r ∷ rs) d only (suc j) lt same = ap suc (only_one id k rs d (both (not (bytes_eq r.id id)) _ only).1 j (omega (arith, lt)) same)

-- each rule changes nothing of how words are read, and has no rule on another
abbrev all_plain : List Rule → Bool
all_plain [] = true
all_plain (r ∷ rs) = r.is_simple && (r.is_free && all_plain rs)

are_plain : (l : List Arg) → all_plain (map rule_of l) ≡ true → All IsPlainArg l
are_plain [] plain k d lt = absurd (omega arith)
are_plain (a ∷ l) plain zero d lt =
    let simple = both (rule_of a).is_simple _ plain in
    plain_arg a simple.0 (both (rule_of a).is_free _ simple.1).0
are_plain (a ∷ l) plain (suc k) d lt =
    let simple = both (rule_of a).is_simple _ plain in
    are_plain l (both (rule_of a).is_free _ simple.1).1 k d (omega (arith, lt))

module _ (cmd : Command) (x : Arg) (rules : map rule_of (args_of cmd) ≡ command_line.top.rules)
    (groups : groups_of cmd ≡ []) (local : (out-Command cmd).has_globals ≡ false)
    (m : ArgMatches) (p : IsParsedFrom cmd m) where
  abbrev second : Arg
  second = slice_index_or (args_of cmd) 1 x

  -- the rule at a place
  at : (j : ℕ) → rule_of (slice_index_or (args_of cmd) j x) ≡ slice_index_or command_line.top.rules j (rule_of x)
  at j = rule_at (args_of cmd) j x ∙ ap (λ (l : List Rule). slice_index_or l j (rule_of x)) rules

  is_second : rule_of second ≡ number_rule (codes "connections")
  is_second = at 1

  count : 6 ≡ length (args_of cmd)
  count = sym (ap (λ (l : List Rule). length l) rules) ∙ length-map (args_of cmd) rule_of

  plain : IsPlain cmd
  plain = (are_plain (args_of cmd) (ap all_plain rules), groups)

  -- an argument with the id of one that stands alone is that one
  only : (id : Text) (k : ℕ) → only_at id k command_line.top.rules ≡ true → (j : ℕ) (e : Arg) → j < length (args_of cmd)
      → bytes_eq (slice_index_or (args_of cmd) j e).id.now id ≡ true → j ≡ k
  only id k alone j e lt same =
      let named = ap (λ (r : Rule). bytes_eq r.id id) (rule_at (args_of cmd) j e ∙ ap (λ (l : List Rule). slice_index_or l j (rule_of e)) rules) in
      only_one id k command_line.top.rules (rule_of e) alone j (subst (λ n. j < n) (sym count) lt) (sym named ∙ same)

  -- ---- the option

  second_id : second.id.now ≡ codes "connections"
  second_id = ap (λ (r : Rule). r.id) is_second

  only_second : (j : ℕ) (e : Arg) → j < length (args_of cmd) → bytes_eq (slice_index_or (args_of cmd) j e).id.now second.id.now ≡ true → j ≡ 1
  only_second j e lt same = only (codes "connections") 1 refl j e lt (subst (λ (t : Text). bytes_eq (slice_index_or (args_of cmd) j e).id.now t ≡ true) second_id same)

  -- an argument of the built command with the id of the option has its rules
  same_as_second : (j : ℕ) (a : Arg) → j < length (args_of p.built) → slice_index_or (args_of p.built) j a ≡ a → bytes_eq a.id.now (codes "connections") ≡ true
      → parser_of a ≡ Unsigned 0 18446744073709551615
  same_as_second j a lt at same =
      let rules = same_rules_by_id cmd m p 1 x (subst (λ n. 1 < n) count (omega arith)) only_second
      (λ auto. elim auto [
        | inl h ↦ differs (codes "connections") (codes "help") refl refl (sym second_id ∙ h)
        | inr h ↦ differs (codes "connections") (codes "version") refl refl (sym second_id ∙ h)
      ])
      j a lt at (subst (λ (t : Text). bytes_eq a.id.now t ≡ true) (sym second_id) same) in
      ap parser_of_value (rules.parser (Unsigned 0 18446744073709551615) (ap (λ (r : Rule). r.parser) is_second))

  abbrev IsNumber : Text → Type 0
  IsNumber = IsUnsignedIn 0 18446744073709551615

  passes : (t : Text) → PassesArg p.built (codes "connections") t → IsNumber t
  passes t pass =
      subst (λ (q : ValueParser). Accepts pass.1.ignore_case q t) (same_as_second pass.0 pass.1 pass.2 pass.3 pass.4.0) pass.4.1

  reads : (how : Reading) → HasReading p.built (codes "connections") how → how ≡ AsWritten
  reads how any = sym any.4.1 ∙ ap reading_of (same_as_second any.0 any.1 any.2 any.3 any.4.0)

  -- the first text of an entry, as it is read
  abbrev read_first : MatchedArg → Option Text
  read_first a = option_map (λ s. read_as a.reading s.now) (slice_get a.vals.items 0)

  first_is_number : (how : Reading) (vs : List (Bor Text)) → how ≡ AsWritten → All (λ v. PassesArg p.built (codes "connections") v.now) vs
      → IfSome (option_map (λ s. read_as how s.now) (slice_get vs 0)) IsNumber
  first_is_number how [] is all = tt
  first_is_number how (v ∷ vs) is all =
      subst (λ (r : Reading). IsNumber (read_as r v.now)) (sym is) (passes v.now (All-get_or (λ v. PassesArg p.built (codes "connections") v.now) (v ∷ vs) 0 v (omega arith) all))

  entry_is_number : (e : Entry) → e.0.now ≡ codes "connections" → EntryPasses p.built e → IfSome (read_first e.1) IsNumber
  entry_is_number e id pass =
      let no_group : e.1.is_group ≡ true → ⊥ = λ g. elim (pass.3 g) [
        | inl empty ↦ differs (codes "connections") [] refl refl (sym id ∙ empty)
        | inr some ↦
            let none : 0 < 0 = subst (λ l. 0 < length l) (p.from.plain plain).1 some in
            absurd (omega arith)
      ] in
      let how : e.1.reading ≡ AsWritten = elim pass.4 [
        | inl g ↦ absurd (no_group g)
        | inr h ↦ reads e.1.reading (subst (λ (t : Text). HasReading p.built t e.1.reading) id h)
      ] in
      let all : All (λ v. PassesArg p.built (codes "connections") v.now) e.1.vals.items = elim pass.0 [
        | inl g ↦ absurd (no_group g)
        | inr vs ↦ subst (λ (t : Text). All (λ v. PassesArg p.built t v.now) e.1.vals.items) id vs
      ] in
      first_is_number e.1.reading e.1.vals.items how all

  has_number : HasNumber (codes "connections") (rows_of (found_of m))
  has_number = subst (λ (o : Option Text). IfSome o IsNumber) (one_text-rows (found_of m) (codes "connections")) (go (matched_of (found_of m) (codes "connections")) refl)
    where
      go : (o : Option MatchedArg) → matched_of (found_of m) (codes "connections") ≡ o → IfSome (option_and_then read_first o) IsNumber
      go None is = tt
      go (Some a) is =
          let found = entry_by_id (EntryPasses p.built) (found_of m).entries.items (codes "connections") a (p.parsed (p.from.globals ∙ local)).values is in
          subst (λ (a : MatchedArg). IfSome (read_first a) IsNumber) found.1
          (entry_is_number found.0 ((bytes_eq-Decides found.0.0.now (codes "connections")).0 found.2) found.3)

-- ---- the whole command line

pub parsed_has_choice : (cmd : Command) (m : ArgMatches) → app_of cmd ≡ command_line → IsParsedFrom cmd m → HasChoice (rows_of (found_of m))
parsed_has_choice cmd m is p = go (args_of cmd) refl
  where
    fields : (is_empty (groups_of cmd) ≡ true) × ((out-Command cmd).has_globals ≡ false)
    fields =
        let c = out-Command cmd in
        let groups = both (is_empty (groups_of cmd)) _ (ap (λ (a : App). a.top.is_plain) is) in
        let external = both (not c.allow_external_subcommands) _ groups.1 in
        (groups.0, is_false c.has_globals (both (not c.has_globals) _ external.1).0)

    rules : map rule_of (args_of cmd) ≡ command_line.top.rules
    rules = ap (λ (a : App). a.top.rules) is

    go : (l : List Arg) → args_of cmd ≡ l → HasChoice (rows_of (found_of m))
    go [] args =
        let none : map rule_of [] ≡ command_line.top.rules = sym (ap (map rule_of) args) ∙ rules in
        cc
    go (x ∷ l) args =
        has_number cmd x rules (is_nil _ fields.0) fields.1 m p
