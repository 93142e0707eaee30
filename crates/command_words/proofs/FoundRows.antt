-- What the words of a command leave in its rows: each has a value, and reads as the kind of its argument says.
use Rattle.std.proofs.Common.{◌≡◌, ◌∙◌, ℕ, zero, suc, refl, ap, sym, subst, Bool, true, false, cond, ◌&&◌, List, [], ◌∷◌, ◌++◌, length, drop, Option, Some, None, is_some, option_map, codes, true≢false}
use Rattle.std.specs.Prelude.{⊤, IfSome, if◌then◌else◌, find, fold, pos, slice_get, encode_utf8}
use Rattle.std.specs.Option.{option_map_or}
use Rattle.std.specs.Str.{bytes_eq, chars}
use Rattle.clap.specs.Lexer.{long_of, short_of}
use Rattle.clap.specs.Values.{IsUnsignedIn, read_as}
use Rattle.clap.specs.ValueTests.{accepts}
use Rattle.std.proofs.Math.Dec.{eqb-zero-suc}
use Rattle.clap.specs.Kinds.{Kinds, or_else, range_kinds, value_kinds}
use Rattle.clap.specs.Faults.{bundle_step_fault, flag_word_fault, flags_fault, long_fault, option_fault, other_fault, positional_fault, react_fault, repeat_fault, settle_fault, short_fault, step_fault, stray_fault, turn_fault, use_fault, walk_fault, word_fault, bundle_fault}
use Rattle.clap.specs.Simple.{Shape, filled, help_rule, with_index}
use Rattle.clap.specs.Walk.{Held, Names, Outcome, Row, Rule, Step, Text, Waiting, Walk, done, waits, plain, refused, idle, option, positional, next, trailing, subcommand, value, after_flag, after_step, arg_by_id, arg_by_index, arg_by_long, arg_by_short, at_row, bundle_met, bundle_step, flag_met, is_pending, long_met, long_or_other, more_values, option_met, option_word, plain_word, reacted, reading_by, row_text, settled, settled_rows, short_met, short_or_plain, subcommand_met, subcommand_or_other, takes_several, takes_values, to_positional, used, used_by_id, walked, walked_from, with_values, without, word_met, attached_value, bundle}
use Rattle.clap.specs.declared.builder.value_parser.Reading.{Reading}
use Rattle.clap.specs.declared.error.kind.ErrorKind.{ErrorKind}
use Rattle.clap.specs.declared.error.kind.ErrorKind.TheVariants as kind
use Rattle.clap.specs.declared.builder.value_parser.ValueParser.TheVariants.{Signed, Unsigned}
use Rattle.clap.specs.declared.parser.matches.ValueSource.{ValueSource}
use Rattle.clap.specs.declared.parser.matches.ValueSource.TheVariants.{CommandLine}
use Rattle.clap.proofs.ValueTestLemmas.{accepts-Accepts}
use Rattle.command_words.specs.Tables.{IsCount, kind_rule}
use Rattle.command_words.specs.declared.table.Kind.{Kind}
use Rattle.command_words.specs.declared.table.Kind.TheVariants as kinds
use Rattle.command_words.proofs.NumberLemmas.{count_text}

-- ---- lists of kinds

abbrev is_some_kind : Kinds → Bool
is_some_kind [] = false
is_some_kind (k ∷ ks) = true

pub no_kind : (a : Kinds) → is_some_kind a ≡ true → a ≡ [] → ⊥
no_kind a some none = true≢false (sym some ∙ ap is_some_kind none)

pub or_nil : (a b : Kinds) → or_else a b ≡ [] → (a ≡ []) × (b ≡ [])
or_nil [] b e = (refl, e)
or_nil (k ∷ ks) b e = absurd (no_kind (k ∷ ks) refl e)

-- ---- each of a list

abbrev pub Each : {X : Type 0} → (X → Type 0) → List X → Type 0
Each P [] = ⊤
Each P (x ∷ xs) = P x × Each P xs

each_append : {X : Type 0} (P : X → Type 0) (xs ys : List X) → Each P xs → Each P ys → Each P (xs ++ ys)
each_append P [] ys f g = g
each_append P (x ∷ xs) ys f g = (f.0, each_append P xs ys f.1 g)

pub find_holds : {X : Type 0} (p : X → Bool) (P : X → Type 0) (xs : List X) → Each (λ x. p x ≡ true → P x) xs → IfSome (find p xs) P
find_holds p P [] all = tt
find_holds {X} p P (x ∷ xs) all = go (p x) all.0 (find_holds p P xs all.1)
  where
    go : (b : Bool) → (b ≡ true → P x) → IfSome (find p xs) P → IfSome (cond b (Some x) (find p xs)) P
    go true f rest = f refl
    go false f rest = rest

-- ---- rows

-- one of the two texts that a flag reads
abbrev pub IsBoolText : Option Text → Type 0
IsBoolText o = (given : Bool) × (o ≡ Some (if given then codes "true" else codes "false"))

-- a number from 1 to 100
abbrev pub IsCountText : Option Text → Type 0
IsCountText o = (n : ℕ) × IsCount n o

-- a text that reads as this kind, where an argument of the command has the name
abbrev pub IsTextOf : Option Kind → Option Text → Type 0
IsTextOf None o = ⊤
IsTextOf (Some kinds.Flag) o = IsBoolText o
IsTextOf (Some kinds.Text) o = ⊤
IsTextOf (Some (kinds.Number least most)) o = IfSome o (IsUnsignedIn least most)
IsTextOf (Some kinds.Operand) o = ⊤
IsTextOf (Some kinds.Count) o = IsCountText o

-- the kind of the argument with each name
abbrev pub KindOf : Type 0
KindOf = Text → Option Kind

abbrev pub IsGoodRow : KindOf → Row → Type 0
IsGoodRow K r = (is_some (slice_get r.values 0) ≡ true) × IsTextOf (K r.id) (row_text r)

abbrev pub AreGood : KindOf → List Row → Type 0
AreGood K = Each (IsGoodRow K)

good_at : (K : KindOf) (id : Text) (change : Row → List Row) (missing rows : List Row) → ((r : Row) → IsGoodRow K r → AreGood K (change r)) → AreGood K missing → AreGood K rows
    → AreGood K (at_row id change missing rows)
good_at K id change missing [] keeps new all = new
good_at K id change missing (r ∷ rs) keeps new all = go (bytes_eq r.id id) (good_at K id change missing rs keeps new all.1)
  where
    go : (b : Bool) → AreGood K (at_row id change missing rs) → AreGood K (cond b (change r ++ rs) (r ∷ at_row id change missing rs))
    go true rest = each_append (IsGoodRow K) (change r) rs (keeps r all.0) all.1
    go false rest = (all.0, rest)

-- more values behind the first leave what it reads as
more_first : (vs values : List Text) → is_some (slice_get vs 0) ≡ true → slice_get vs 0 ≡ slice_get (vs ++ values) 0
more_first [] values e = absurd (true≢false (sym e))
more_first (v ∷ vs) values e = refl

good_more : (K : KindOf) (s : ValueSource) (values : List Text) (r : Row) → IsGoodRow K r → AreGood K (more_values s values r)
good_more K s values r h =
    let same = more_first r.values values h.0 in (
      (
        subst (λ (o : Option Text). is_some o ≡ true) same h.0,
        subst (λ (o : Option Text). IsTextOf (K r.id) (option_map (read_as r.reading) o)) same h.1,
      ),
      tt,
    )

abbrev new_row : Text → Reading → ValueSource → List Text → Row
new_row id how s values = record { id = id; values = values; count = None; source = Some s; reading = how }

pub good_with : (K : KindOf) (id : Text) (how : Reading) (s : ValueSource) (values : List Text) (rows : List Row) → IsGoodRow K (new_row id how s values) → AreGood K rows
    → AreGood K (with_values id how s values rows)
good_with K id how s values rows new all = good_at K id (more_values s values) (new_row id how s values ∷ []) rows (good_more K s values) (new, tt) all

good_without : (K : KindOf) (id : Text) (rows : List Row) → AreGood K rows → AreGood K (without id rows)
good_without K id rows all = good_at K id (λ _. []) [] rows (λ r h. tt) tt all

-- ---- the arguments of a command, as building leaves them

-- a use of the argument that has no fault keeps the rows good
abbrev pub KeepsUse : KindOf → Rule → Type 0
KeepsUse K r = (again : Bool) (values : List Text) (rows : List Row) → use_fault again r values rows ≡ [] → AreGood K rows → AreGood K (used r values rows)

abbrev pub built_rule : ℕ → Kind → Text → Rule
built_rule place k name = with_index place (filled (kind_rule k name))

no_values : (n : ℕ) → range_kinds 0 0 (suc n) ≡ [] → ⊥
no_values n e = no_kind (range_kinds 0 0 (suc n)) (ap (λ b. is_some_kind (if b then [] else kind.WrongNumberOfValues ∷ [])) (eqb-zero-suc n)) e

accepted : (b : Bool) (k : ErrorKind) → (if b then [] else k ∷ []) ≡ [] → b ≡ true
accepted true k none = refl
accepted false k none = absurd (no_kind _ refl none)

-- the name is that of an argument of this kind
abbrev pub IsOfKind : KindOf → Kind → Text → Type 0
IsOfKind K k name = K name ≡ Some k

-- a row that the words give
given_row : (K : KindOf) (k : Kind) (name : Text) (how : Reading) (v : Text) (vs : List Text) (rows : List Row) → IsOfKind K k name → IsTextOf (Some k) (Some (read_as how v))
    → AreGood K rows → AreGood K (with_values name how CommandLine (v ∷ vs) (without name rows))
given_row K k name how v vs rows of reads all =
    good_with K name how CommandLine (v ∷ vs) (without name rows) (refl, subst (λ (o : Option Kind). IsTextOf o (Some (read_as how v))) (sym of) reads) (good_without K name rows all)

flag_keeps : (K : KindOf) (place : ℕ) (name : Text) → IsOfKind K kinds.Flag name → KeepsUse K (built_rule place kinds.Flag name)
flag_keeps K place name of again [] rows none all = given_row K kinds.Flag name (reading_by (built_rule place kinds.Flag name)) (codes "true") [] rows of (true, refl) all
flag_keeps K place name of again (v ∷ vs) rows none all = absurd (no_values (length vs) (or_nil (range_kinds 0 0 (length (v ∷ vs))) _ none).0)

text_keeps : (K : KindOf) (place : ℕ) (name : Text) → IsOfKind K kinds.Text name → KeepsUse K (built_rule place kinds.Text name)
text_keeps K place name of again [] rows none all = absurd (no_kind _ refl none)
text_keeps K place name of again (v ∷ vs) rows none all = given_row K kinds.Text name (reading_by (built_rule place kinds.Text name)) v vs rows of tt all

operand_keeps : (K : KindOf) (place : ℕ) (name : Text) → IsOfKind K kinds.Operand name → KeepsUse K (built_rule place kinds.Operand name)
operand_keeps K place name of again [] rows none all = absurd (no_kind _ refl none)
operand_keeps K place name of again (v ∷ vs) rows none all = given_row K kinds.Operand name (reading_by (built_rule place kinds.Operand name)) v vs rows of tt all

number_text : (least most : ℕ) (v : Text) → accepts false (Unsigned least most) v ≡ true → IsUnsignedIn least most v
number_text least most v is = accepts-Accepts false (Unsigned least most) v is

number_keeps : (K : KindOf) (place least most : ℕ) (name : Text) → IsOfKind K (kinds.Number least most) name → KeepsUse K (built_rule place (kinds.Number least most) name)
number_keeps K place least most name of again [] rows none all = absurd (no_kind _ refl none)
number_keeps K place least most name of again (v ∷ vs) rows none all =
    let used = or_nil (range_kinds 1 1 (length (v ∷ vs))) _ none in
    let set = or_nil (repeat_fault again name rows) _ used.1 in
    let first = or_nil (value_kinds false (Unsigned least most) v) _ set.1 in
    given_row K (kinds.Number least most) name (reading_by (built_rule place (kinds.Number least most) name)) v vs rows of (number_text least most v (accepted _ _ first.0)) all

count_keeps : (K : KindOf) (place : ℕ) (name : Text) → IsOfKind K kinds.Count name → KeepsUse K (built_rule place kinds.Count name)
count_keeps K place name of again [] rows none all = absurd (no_kind _ refl none)
count_keeps K place name of again (v ∷ vs) rows none all =
    let used = or_nil (range_kinds 1 1 (length (v ∷ vs))) _ none in
    let set = or_nil (repeat_fault again name rows) _ used.1 in
    let first = or_nil (value_kinds false (Signed (pos 1) (pos 100)) v) _ set.1 in
    given_row K kinds.Count name (reading_by (built_rule place kinds.Count name)) v vs rows of (count_text v (accepted _ _ first.0)) all

pub kind_keeps : (K : KindOf) (place : ℕ) (k : Kind) (name : Text) → IsOfKind K k name → KeepsUse K (built_rule place k name)
kind_keeps K place kinds.Flag name of = flag_keeps K place name of
kind_keeps K place kinds.Text name of = text_keeps K place name of
kind_keeps K place (kinds.Number least most) name of = number_keeps K place least most name of
kind_keeps K place kinds.Operand name of = operand_keeps K place name of
kind_keeps K place kinds.Count name of = count_keeps K place name of

pub help_keeps : (K : KindOf) → KeepsUse K (filled help_rule)
help_keeps K again values rows none all = all

-- ---- a walk keeps the rows good

found_keeps : (K : KindOf) (p : Rule → Bool) (c : List Rule) → Each (KeepsUse K) c → IfSome (find p c) (KeepsUse K)
found_keeps K p c all = find_holds p (KeepsUse K) c (any c all)
  where
    any : (xs : List Rule) → Each (KeepsUse K) xs → Each (λ x. p x ≡ true → KeepsUse K x) xs
    any [] each = tt
    any (x ∷ xs) each = ((λ _. each.0), any xs each.1)

module _ (K : KindOf) (c : List Rule) (again : Bool) (all : Each (KeepsUse K) c) where
  used_good : (o : Option Rule) → IfSome o (KeepsUse K) → (values : List Text) (rows : List Row) → option_map_or (λ a. use_fault again a values rows) o [] ≡ []
      → AreGood K rows → AreGood K (used_by_id o values rows)
  used_good None keeps values rows none good = good
  used_good (Some a) keeps values rows none good = keeps again values rows none good

  settle_of : (p : Option (Text × List Text)) (rows : List Row)
      → option_map_or (λ p. option_map_or (λ a. use_fault again a p.1 rows) (arg_by_id c p.0) []) p [] ≡ []
      → AreGood K rows → AreGood K (settled_rows c p rows)
  settle_of None rows none good = good
  settle_of (Some p) rows none good = used_good (arg_by_id c p.0) (found_keeps K _ c all) p.1 rows none good

  pub settle_good : (h : Held) → settle_fault c again h ≡ [] → AreGood K h.rows → AreGood K (settled c h).rows
  settle_good h none good = settle_of h.pending h.rows none good

  react_good : (a : Rule) → KeepsUse K a → (values : List Text) (h : Held) → react_fault c again a values h ≡ [] → AreGood K h.rows → AreGood K (reacted c a values h).rows
  react_good a keeps values h none good =
      let parts = or_nil (settle_fault c again h) _ none in
      keeps again values (settled c h).rows parts.1 (settle_good h parts.0 good)

  option_good : (a : Rule) → KeepsUse K a → (v : Option Text) (h : Held) → option_fault c again a v h ≡ [] → AreGood K h.rows → AreGood K (option_met c a v h).0.rows
  option_good a keeps (Some v) h none good = react_good a keeps (v ∷ []) h none good
  option_good a keeps None h none good = settle_good h none good

  flag_good : (a : Rule) → KeepsUse K a → (v : Option Text) (h : Held) → (if is_some v then kind.TooManyValues ∷ [] else react_fault c again a [] h) ≡ []
      → AreGood K h.rows → AreGood K (flag_met c a v h).0.rows
  flag_good a keeps (Some v) h none good = good
  flag_good a keeps None h none good = react_good a keeps [] h none good

  long_good : (o : Option Rule) → IfSome o (KeepsUse K) → (v : Option Text) (h : Held) → long_fault c again o v h ≡ [] → AreGood K h.rows → AreGood K (long_met c o v h).0.rows
  long_good None keeps v h none good = good
  long_good (Some a) keeps v h none good = go (takes_values a) none
    where
      go : (b : Bool) → (if b then option_fault c again a v h else (if is_some v then kind.TooManyValues ∷ [] else react_fault c again a [] h)) ≡ []
          → AreGood K ((if b then option_met c a v h else flag_met c a v h).0.rows)
      go true e = option_good a keeps v h e good
      go false e = flag_good a keeps v h e good

  short_good : (o : Option Rule) → IfSome o (KeepsUse K) → (rest : Text) (h : Held) (faults : Held → Kinds) (met : Held → Held × Outcome)
      → ((h : Held) → faults h ≡ [] → AreGood K h.rows → AreGood K (met h).0.rows)
      → short_fault c again o rest h faults ≡ [] → AreGood K h.rows → AreGood K (short_met c o rest h met).0.rows
  short_good None keeps rest h faults met goes none good = good
  short_good (Some a) keeps rest h faults met goes none good = go (takes_values a) none
    where
      go : (b : Bool) → (if b then option_fault c again a (attached_value rest) h else or_else (react_fault c again a [] h) (faults (reacted c a [] h))) ≡ []
          → AreGood K ((if b then option_met c a (attached_value rest) h else met (reacted c a [] h)).0.rows)
      go true e = option_good a keeps (attached_value rest) h e good
      go false e =
          let parts = or_nil (react_fault c again a [] h) _ e in
          goes (reacted c a [] h) parts.1 (react_good a keeps [] h parts.0 good)

  bundle_step_good : (o : Option ℕ) (flags : Text) (skip : ℕ) (so_far : Outcome) (h : Held) (faults : Text → ℕ → Held → Kinds) (met : Text → ℕ → Outcome → Held → Held × Outcome)
      → ((flags : Text) (skip : ℕ) (so_far : Outcome) (h : Held) → faults flags skip h ≡ [] → AreGood K h.rows → AreGood K (met flags skip so_far h).0.rows)
      → bundle_step_fault c again o flags skip h faults ≡ [] → AreGood K h.rows → AreGood K (bundle_step c o flags skip so_far h met).0.rows
  bundle_step_good None flags skip so_far h faults met goes none good = good
  bundle_step_good (Some x) flags zero so_far h faults met goes none good =
      let rest = drop (length (encode_utf8 x)) flags in
      short_good (arg_by_short c x) (found_keeps K _ c all) rest h (faults rest 0) (met rest 0 done) (goes rest 0 done) none good
  bundle_step_good (Some x) flags (suc skip) so_far h faults met goes none good =
      goes (drop (length (encode_utf8 x)) flags) skip so_far h none good

  bundle_good : (k : ℕ) (flags : Text) (skip : ℕ) (so_far : Outcome) (h : Held) → flags_fault c again k flags skip h ≡ [] → AreGood K h.rows → AreGood K (bundle_met c k flags skip so_far h).0.rows
  unfolding flags_fault bundle_met
  bundle_good zero flags skip so_far h none good = good
  bundle_good (suc k) flags skip so_far h none good =
      bundle_step_good (slice_get (chars flags) 0) flags skip so_far h (flags_fault c again k) (bundle_met c k) (bundle_good k) none good

  option_word_good : (o : Option Rule) (id word : Text) (h : Held) → AreGood K h.rows → AreGood K (option_word o id word h).0.rows
  option_word_good None id word h good = good
  option_word_good (Some a) id word h good = good

  plain_good : (waiting : Waiting) (word : Text) (h : Held) → AreGood K h.rows → AreGood K (plain_word c waiting word h).0.rows
  plain_good (option id) word h good = option_word_good (arg_by_id c id) id word h good
  plain_good idle word h good = good
  plain_good positional word h good = good

  after_good : (waiting : Waiting) (word : Text) (h : Held) (o : Outcome) → AreGood K h.rows → AreGood K (after_flag c waiting word h o).0.rows
  after_good waiting word h done good = good
  after_good waiting word h (waits id) good = good
  after_good waiting word h plain good = plain_good waiting word h good
  after_good waiting word h refused good = plain_good waiting word h good

  short_word_good : (o : Option Text) (waiting : Waiting) (word : Text) (h : Held)
      → option_map_or (λ flags. bundle_fault c again flags h) o [] ≡ [] → AreGood K h.rows → AreGood K (short_or_plain c waiting word o h).0.rows
  short_word_good (Some flags) waiting word h none good =
      let met = bundle c flags h in
      after_good waiting word met.0 met.1 (bundle_good (length flags) flags h.skip plain (record h { skip = 0 }) none good)
  short_word_good None waiting word h none good = plain_good waiting word h good

  flag_word_good : (o : Option (Text × Option Text)) (waiting : Waiting) (word : Text) (h : Held) → flag_word_fault c again o word h ≡ []
      → AreGood K h.rows → AreGood K (long_or_other c waiting word o h).0.rows
  flag_word_good (Some p) waiting word h none good =
      let met = long_met c (arg_by_long c p.0) p.1 h in
      after_good waiting word met.0 met.1 (long_good (arg_by_long c p.0) (found_keeps K _ c all) p.1 h none good)
  flag_word_good None waiting word h none good = short_word_good (short_of word) waiting word h none good

  to_positional_good : (o : Option Rule) (word : Text) (w : Walk) (h : Held) (stray : Kinds) → option_map_or (λ a. positional_fault c again a h) o stray ≡ []
      → AreGood K h.rows → AreGood K (to_positional c o word w h).held.rows
  to_positional_good None word w h stray none good = good
  to_positional_good (Some a) word w h stray none good = go (is_pending a h.pending && takes_several a) none
    where
      go : (b : Bool) → (if b then [] else settle_fault c again h) ≡ [] → AreGood K ((if b then h else settled c h).rows)
      go true e = good
      go false e = settle_good h e good

module _ (K : KindOf) (s : Shape) (names : Names) (all : Each (KeepsUse K) s.rules) where
  other_good : (o : Option Text) (waiting : Waiting) (position : ℕ) (word : Text) (h : Held) → other_fault s o word h ≡ []
      → AreGood K h.rows → AreGood K (subcommand_or_other s.rules o waiting position word h).0.rows
  other_good (Some name) waiting position word h none good = good
  other_good None waiting position word h none good = go (bytes_eq word (45 ∷ 45 ∷ [])) none
    where
      go : (b : Bool) → (if b then [] else flag_word_fault s.rules s.args_override_self (long_of word) word h) ≡ []
          → AreGood K ((if b then (h, trailing position) else long_or_other s.rules waiting word (long_of word) h).0.rows)
      go true e = good
      go false e = flag_word_good K s.rules s.args_override_self all (long_of word) waiting word h e good

  word_good : (is_trailing : Bool) (waiting : Waiting) (position : ℕ) (word : Text) (h : Held) → word_fault s names is_trailing waiting word h ≡ []
      → AreGood K h.rows → AreGood K (word_met s.rules names is_trailing waiting position word h).0.rows
  word_good true waiting position word h none good = good
  word_good false waiting position word h none good = other_good (subcommand_met names waiting word) waiting position word h none good

  step_good : (st : Step) (w : Walk) (word : Text) (h : Held) → step_fault s w.position h st ≡ [] → AreGood K h.rows → AreGood K (after_step s.rules word w h st).held.rows
  step_good (next waiting) w word h none good = good
  step_good (trailing position) w word h none good = good
  step_good (subcommand name) w word h none good = good
  step_good value w word h none good =
      to_positional_good K s.rules s.args_override_self all (arg_by_index s.rules w.position) word w h (stray_fault s) none good

  turn_good : (w : Walk) (word : Text) → turn_fault s names w word ≡ [] → AreGood K w.held.rows → AreGood K (walked s.rules names w word).held.rows
  unfolding walked
  turn_good w word none good = go w.stopped none
    where
      go : (o : Option (Text × List Text))
          → (if is_some o then [] else or_else (word_fault s names w.is_trailing w.waiting word w.held)
          (step_fault s w.position (word_met s.rules names w.is_trailing w.waiting w.position word w.held).0 (word_met s.rules names w.is_trailing w.waiting w.position word w.held).1)) ≡ []
          → AreGood K (walked_from s.rules names o w word).held.rows
      go (Some p) e = good
      go None e =
          let met = word_met s.rules names w.is_trailing w.waiting w.position word w.held in
          let parts = or_nil (word_fault s names w.is_trailing w.waiting word w.held) _ e in
          step_good met.1 w word met.0 parts.1 (word_good w.is_trailing w.waiting w.position word w.held parts.0 good)

  pub walk_good : (w : Walk) (words : List Text) → walk_fault s names w words ≡ [] → AreGood K w.held.rows → AreGood K (fold (walked s.rules names) w words).held.rows
  unfolding walk_fault
  walk_good w [] none good = good
  walk_good w (word ∷ rest) none good =
      let parts = or_nil (turn_fault s names w word) _ none in
      walk_good (walked s.rules names w word) rest parts.1 (turn_good w word parts.0 good)
