-- What the matches of a command hold in whose words `clap` finds no fault.
use Rattle.std.proofs.Common.{◌≡◌, ◌∙◌, ℕ, refl, ap, sym, subst, Bool, true, false, cond, not, ◌||◌, ◌&&◌, List, [], ◌∷◌, ◌++◌, map, Option, Some, None, is_some, option_map, codes, true≢false}
use Rattle.std.specs.Prelude.{⊤, IfSome, if◌then◌else◌, find, fold, slice_get, option_and_then}
use Rattle.std.specs.Option.{option_map_or}
use Rattle.std.specs.List.{list_any}
use Rattle.std.specs.Str.{bytes_eq}
use Rattle.std.proofs.lemmas.Slice.Eq.{bytes_eq-Decides}
use Rattle.clap.specs.Facts.{explicit_source}
use Rattle.clap.specs.Kinds.{check_kinds}
use Rattle.clap.specs.Faults.{defaults_fault, level_fault, settle_fault, walk_fault}
use Rattle.clap.specs.Simple.{Shape, built_leaf, filled_from, help_rule, index_after, inherited, marked_built, new_shape, rows_at, with_leaf_noted}
use Rattle.clap.specs.Takes.{is_given}
use Rattle.clap.specs.Walk.{Row as Found, Rule, Text, finished, has_row, more_values, nothing_held, row_text, settled, walk, walk_from, with_default, with_values}
use Rattle.clap.specs.declared.builder.value_parser.Reading.{Reading}
use Rattle.clap.specs.declared.builder.value_parser.Reading.TheVariants.{AsWritten}
use Rattle.clap.specs.declared.parser.matches.ValueSource.{ValueSource}
use Rattle.clap.specs.declared.parser.matches.ValueSource.TheVariants.{DefaultValue}
use Rattle.command_words.specs.Tables.{HoldsKind, Satisfies, are_apart, row_rule, shape_with}
use Rattle.command_words.specs.declared.table.Kind.{Kind}
use Rattle.command_words.specs.declared.table.Kind.TheVariants as kinds
use Rattle.command_words.specs.declared.table.Row.{Row}
use Rattle.command_words.proofs.FoundRows.{AreGood, Each, built_rule, IsGoodRow, IsOfKind, IsTextOf, KeepsUse, KindOf, find_holds, good_with, help_keeps, kind_keeps, no_kind, or_nil, settle_good, walk_good}

-- ---- the kind of each name

-- the kind of the first row with the name
abbrev pub kind_in : List Row → Text → Option Kind
kind_in rows name = option_map (λ r. r.kind) (find (λ r. bytes_eq r.name.now name) rows)

-- each row is of the kind that its name has
abbrev pub AreOf : KindOf → List Row → Type 0
AreOf K = Each (λ r. IsOfKind K r.kind r.name.now)

both : (a b : Bool) → (a && b) ≡ true → (a ≡ true) × (b ≡ true)
both true true e = (refl, refl)
both true false e = absurd (true≢false (sym e))
both false b e = absurd (true≢false (sym e))

is_false : (a : Bool) → not a ≡ true → a ≡ false
is_false true e = absurd (true≢false (sym e))
is_false false e = refl

neither : (a b : Bool) → (a || b) ≡ false → (a ≡ false) × (b ≡ false)
neither true b e = absurd (true≢false e)
neither false true e = absurd (true≢false e)
neither false false e = (refl, refl)

same_name : (t : Text) → bytes_eq t t ≡ true
same_name t = (bytes_eq-Decides t t).1 refl

-- behind a row, others keep their kinds
behind : (r : Row) (K : KindOf) (rest : List Row) → list_any (λ q. bytes_eq r.name.now q.name.now) rest ≡ false → AreOf K rest
    → AreOf (λ name. if bytes_eq r.name.now name then Some r.kind else K name) rest
behind r K [] apart of = tt
behind r K (q ∷ rest) apart of =
    let parts = neither (bytes_eq r.name.now q.name.now) _ apart in (
      ap (λ b. if b then Some r.kind else K q.name.now) parts.0 ∙ of.0,
      behind r K rest parts.1 of.1,
    )

first_kind : (r : Row) (rest : List Row) (name : Text) → kind_in (r ∷ rest) name ≡ (if bytes_eq r.name.now name then Some r.kind else kind_in rest name)
first_kind r rest name = go (bytes_eq r.name.now name)
  where
    go : (b : Bool) → option_map (λ r. r.kind) (cond b (Some r) (find (λ r. bytes_eq r.name.now name) rest)) ≡ (if b then Some r.kind else kind_in rest name)
    go true = refl
    go false = refl

each_kind : (K L : KindOf) (rows : List Row) → ((name : Text) → L name ≡ K name) → AreOf K rows → AreOf L rows
each_kind K L [] same of = tt
each_kind K L (r ∷ rest) same of = (same r.name.now ∙ of.0, each_kind K L rest same of.1)

pub are_of : (rows : List Row) → are_apart rows ≡ true → AreOf (kind_in rows) rows
are_of [] apart = tt
are_of (r ∷ rest) apart =
    let parts = both (not (list_any (λ q. bytes_eq r.name.now q.name.now) rest)) _ apart in
    let K : KindOf = λ name. if bytes_eq r.name.now name then Some r.kind else kind_in rest name in (
      first_kind r rest r.name.now ∙ ap (λ b. if b then Some r.kind else kind_in rest r.name.now) (same_name r.name.now),
      each_kind K (kind_in (r ∷ rest)) rest (first_kind r rest) (behind r (kind_in rest) rest (is_false _ parts.0) (are_of rest parts.1)),
    )

-- ---- the arguments of a command, as building leaves them

abbrev pub built_rules : ℕ → List Row → List Rule
built_rules place rows = filled_from place (map row_rule rows ++ help_rule ∷ [])

pub rules_keep : (K : KindOf) (place : ℕ) (rows : List Row) → AreOf K rows → Each (KeepsUse K) (built_rules place rows)
rules_keep K place [] of = (help_keeps K, tt)
rules_keep K place (r ∷ rest) of = (kind_keeps K place r.kind r.name.now of.0, rules_keep K (index_after place (row_rule r)) rest of.1)

-- ---- the rows at the end of a walk

abbrev Has : Text → List Found → Type 0
Has name rows = has_row name rows ≡ true

has_with : (id : Text) (how : Reading) (s : ValueSource) (values : List Text) (rows : List Found) → has_row id (with_values id how s values rows) ≡ true
has_with id how s values [] = ap (λ b. b || false) (same_name id)
has_with id how s values (r ∷ rs) = go (bytes_eq r.id id) refl (has_with id how s values rs)
  where
    go : (b : Bool) → bytes_eq r.id id ≡ b → has_row id (with_values id how s values rs) ≡ true
        → has_row id (cond b (more_values s values r ++ rs) (r ∷ with_values id how s values rs)) ≡ true
    go true is rest = ap (λ b. b || has_row id rs) is
    go false is rest = ap (λ b. b || has_row id (with_values id how s values rs)) is ∙ rest

-- a row that is there stays there
has_still : (id name : Text) (how : Reading) (s : ValueSource) (values : List Text) (rows : List Found) → has_row id rows ≡ true → has_row id (with_values name how s values rows) ≡ true
has_still id name how s values [] has = absurd (true≢false (sym has))
has_still id name how s values (r ∷ rs) has = go (bytes_eq r.id name) (bytes_eq r.id id) refl has (has_still id name how s values rs)
  where
    go : (b d : Bool) → bytes_eq r.id id ≡ d → (d || has_row id rs) ≡ true → (has_row id rs ≡ true → has_row id (with_values name how s values rs) ≡ true)
        → has_row id (cond b (more_values s values r ++ rs) (r ∷ with_values name how s values rs)) ≡ true
    go true d is has rest = ap (λ b. b || has_row id rs) is ∙ has
    go false true is has rest = ap (λ b. b || has_row id (with_values name how s values rs)) is
    go false false is has rest = ap (λ b. b || has_row id (with_values name how s values rs)) is ∙ rest has

-- the name is there where it is that of a flag
abbrev HasIfFlag : Kind → Text → List Found → Type 0
HasIfFlag kinds.Flag name rows = Has name rows
HasIfFlag _ name rows = ⊤

abbrev Flags : List Row → List Found → Type 0
Flags rows found = Each (λ r. HasIfFlag r.kind r.name.now found) rows

-- what is there stays there
abbrev Stay : List Found → List Found → Type 0
Stay before after = (id : Text) → Has id before → Has id after

-- an argument's default keeps the rows good and there, and a flag gets one
abbrev Defaults : KindOf → Kind → Text → List Found → List Found → Type 0
Defaults K k name before after = AreGood K after × HasIfFlag k name after × Stay before after

-- a flag gets its default where it was not given
abbrev with_flag : Text → Bool → List Found → List Found
with_flag name b rows = if b then rows else with_values name AsWritten DefaultValue (codes "false" ∷ []) rows

flag_default : (K : KindOf) (name : Text) (rows : List Found) → IsOfKind K kinds.Flag name → AreGood K rows
    → Defaults K kinds.Flag name rows (with_flag name (has_row name rows) rows)
flag_default K name rows of good = go (has_row name rows) refl
  where
    reads : IsTextOf (K name) (Some (codes "false"))
    reads = subst (λ (o : Option Kind). IsTextOf o (Some (codes "false"))) (sym of) (false, refl)

    go : (b : Bool) → has_row name rows ≡ b → Defaults K kinds.Flag name rows (with_flag name b rows)
    go true is = (good, is, (λ id has. has))
    go false is = (
      good_with K name AsWritten DefaultValue (codes "false" ∷ []) rows (refl, reads) good,
      has_with name AsWritten DefaultValue (codes "false" ∷ []) rows,
      (λ id has. has_still id name AsWritten DefaultValue (codes "false" ∷ []) rows has),
    )

-- an argument without a default leaves the rows as they are
same : (b : Bool) (P : List Found → Type 0) (rows : List Found) → P rows → P (if b then rows else rows)
same true P rows p = p
same false P rows p = p

abbrev Untouched : KindOf → List Found → List Found → Type 0
Untouched K before after = AreGood K after × Stay before after

untouched : (K : KindOf) (name : Text) (rows : List Found) → AreGood K rows → Untouched K rows (if has_row name rows then rows else rows)
untouched K name rows good = same (has_row name rows) (Untouched K rows) rows (good, (λ id has. has))

kind_default : (K : KindOf) (place : ℕ) (k : Kind) (name : Text) (rows : List Found) → IsOfKind K k name → AreGood K rows
    → Defaults K k name rows (with_default rows (built_rule place k name))
kind_default K place kinds.Flag name rows of good = flag_default K name rows of good
kind_default K place kinds.Text name rows of good =
    let is = untouched K name rows good in
    (is.0, tt, is.1)
kind_default K place (kinds.Number least most) name rows of good =
    let is = untouched K name rows good in
    (is.0, tt, is.1)
kind_default K place kinds.Operand name rows of good =
    let is = untouched K name rows good in
    (is.0, tt, is.1)
kind_default K place kinds.Count name rows of good =
    let is = untouched K name rows good in
    (is.0, tt, is.1)

if_flag_stays : (k : Kind) (name : Text) (before after : List Found) → Stay before after → HasIfFlag k name before → HasIfFlag k name after
if_flag_stays kinds.Flag name before after stay has = stay name has
if_flag_stays kinds.Text name before after stay has = tt
if_flag_stays (kinds.Number least most) name before after stay has = tt
if_flag_stays kinds.Operand name before after stay has = tt
if_flag_stays kinds.Count name before after stay has = tt

-- the rows are good, the flags are there, and so is what was there
abbrev pub AreFinished : KindOf → List Row → List Found → List Found → Type 0
AreFinished K rows before after = AreGood K after × Flags rows after × Stay before after

pub defaults_good : (K : KindOf) (place : ℕ) (rows : List Row) (found : List Found) → AreOf K rows → AreGood K found
    → AreFinished K rows found (fold with_default found (built_rules place rows))
defaults_good K place [] found of good =
    let is = untouched K (codes "help") found good in
    (is.0, tt, is.1)
defaults_good K place (r ∷ rest) found of good =
    let next = with_default found (built_rule place r.kind r.name.now) in
    let after = index_after place (row_rule r) in
    let first = kind_default K place r.kind r.name.now found of.0 good in
    let others = defaults_good K after rest next of.1 first.0 in
    let end = fold with_default next (built_rules after rest) in (
      others.0,
      (if_flag_stays r.kind r.name.now next end others.2 first.1, others.1),
      (λ id has. others.2 id (first.2 id has)),
    )

-- ---- what is found of a name

abbrev IsFound : KindOf → Text → Found → Type 0
IsFound K id r = (r.id ≡ id) × IsGoodRow K r

abbrev row_of : Text → List Found → Option Found
row_of id rows = find (λ r. bytes_eq r.id id) rows

found : (K : KindOf) (id : Text) (rows : List Found) → AreGood K rows → IfSome (row_of id rows) (IsFound K id)
found K id rows good = find_holds (λ r. bytes_eq r.id id) (IsFound K id) rows (any rows good)
  where
    any : (rs : List Found) → AreGood K rs → Each (λ r. bytes_eq r.id id ≡ true → IsFound K id r) rs
    any [] each = tt
    any (r ∷ rs) each = ((λ e. ((bytes_eq-Decides r.id id).0 e, each.0)), any rs each.1)

has_found : (id : Text) (rows : List Found) → has_row id rows ≡ true → is_some (row_of id rows) ≡ true
has_found id [] has = has
has_found id (r ∷ rs) has = go (bytes_eq r.id id) has (has_found id rs)
  where
    go : (b : Bool) → (b || has_row id rs) ≡ true → (has_row id rs ≡ true → is_some (row_of id rs) ≡ true)
        → is_some (cond b (Some r) (row_of id rs)) ≡ true
    go true e rest = refl
    go false e rest = rest e

abbrev is_explicit : Option Found → Bool
is_explicit o = option_map_or (λ r. explicit_source r.source) o false

value_found : (K : KindOf) (id : Text) (o : Option Found) → IfSome o (IsFound K id) → is_explicit o ≡ true → is_some (option_and_then (λ r. slice_get r.values 0) o) ≡ true
value_found K id None is given = absurd (true≢false (sym given))
value_found K id (Some r) is given = is.1.0

-- a row that is there reads as its kind says
reads_as : (K : KindOf) (k : Kind) (id : Text) (r : Found) → IsOfKind K k id → IsFound K id r → IsTextOf (Some k) (row_text r)
reads_as K k id r of is =
    let same : K r.id ≡ Some k = ap K is.0 ∙ of in
    subst (λ (o : Option Kind). IsTextOf o (row_text r)) same is.1.1

count_found : (K : KindOf) (id : Text) (o : Option Found) → IsOfKind K kinds.Count id → IfSome o (IsFound K id) → is_explicit o ≡ true → IsTextOf (Some kinds.Count) (option_and_then row_text o)
count_found K id None of is given = absurd (true≢false (sym given))
count_found K id (Some r) of is given = reads_as K kinds.Count id r of is

number_found : (K : KindOf) (least most : ℕ) (id : Text) (o : Option Found) → IsOfKind K (kinds.Number least most) id → IfSome o (IsFound K id)
    → IsTextOf (Some (kinds.Number least most)) (option_and_then row_text o)
number_found K least most id None of is = tt
number_found K least most id (Some r) of is = reads_as K (kinds.Number least most) id r of is

flag_found : (K : KindOf) (id : Text) (o : Option Found) → IsOfKind K kinds.Flag id → IfSome o (IsFound K id) → is_some o ≡ true → IsTextOf (Some kinds.Flag) (option_and_then row_text o)
flag_found K id None of is has = absurd (true≢false (sym has))
flag_found K id (Some r) of is has = reads_as K kinds.Flag id r of is

-- ---- a required argument is given

abbrev IsRequired : Kind → Text → List Found → Type 0
IsRequired kinds.Operand name rows = is_given name rows ≡ true
IsRequired kinds.Count name rows = is_given name rows ≡ true
IsRequired _ name rows = ⊤

-- an argument that is required and not given
abbrev lacks : List Found → Rule → Bool
lacks rows a = a.required && not (is_given a.id rows)

given : (b : Bool) → not b ≡ false → b ≡ true
given true e = refl
given false e = absurd (true≢false e)

kind_given : (place : ℕ) (k : Kind) (name : Text) (rows : List Found) → lacks rows (built_rule place k name) ≡ false → IsRequired k name rows
kind_given place kinds.Flag name rows e = tt
kind_given place kinds.Text name rows e = tt
kind_given place (kinds.Number least most) name rows e = tt
kind_given place kinds.Operand name rows e = given (is_given name rows) e
kind_given place kinds.Count name rows e = given (is_given name rows) e

abbrev Given : List Row → List Found → Type 0
Given rows found = Each (λ r. IsRequired r.kind r.name.now found) rows

all_given : (place : ℕ) (rows : List Row) (found : List Found) → list_any (lacks found) (built_rules place rows) ≡ false → Given rows found
all_given place [] found e = tt
all_given place (r ∷ rest) found e =
    let parts = neither (lacks found (built_rule place r.kind r.name.now)) _ e in
    (kind_given place r.kind r.name.now found parts.0, all_given (index_after place (row_rule r)) rest found parts.1)

-- ---- what the matches hold

kind_holds : (K : KindOf) (k : Kind) (name : Text) (rows : List Found) → IsOfKind K k name → AreGood K rows → HasIfFlag k name rows → IsRequired k name rows → HoldsKind k name rows
kind_holds K kinds.Flag name rows of good has required = flag_found K name (row_of name rows) of (found K name rows good) (has_found name rows has)
kind_holds K kinds.Text name rows of good has required = tt
kind_holds K (kinds.Number least most) name rows of good has required = number_found K least most name (row_of name rows) of (found K name rows good)
kind_holds K kinds.Operand name rows of good has required = value_found K name (row_of name rows) (found K name rows good) required
kind_holds K kinds.Count name rows of good has required = count_found K name (row_of name rows) of (found K name rows good) required

all_hold : (K : KindOf) (rows : List Row) (found : List Found) → AreOf K rows → AreGood K found → Flags rows found → Given rows found → Satisfies rows found
all_hold K [] found of good has required = tt
all_hold K (r ∷ rest) found of good has required = (kind_holds K r.kind r.name.now found of.0 good has.0 required.0, all_hold K rest found of.1 good has.1 required.1)

-- ---- a command, as building leaves it

-- the program without subcommands, as building goes into them
abbrev pub above : Text → Bool → Shape
above name alone = with_leaf_noted (marked_built (record (new_shape name) { is_leaf = alone; subcommand_required = true; has_version = true }))

abbrev pub leaf : Text → Text → List Row → Shape
leaf program name rows = built_leaf (inherited (above program false) (shape_with name rows))

unlacking : (b : Bool) → check_kinds false false b ≡ [] → b ≡ false
unlacking false none = refl
unlacking true none = absurd (no_kind _ refl none)

-- no fault is found in these words of a command
abbrev pub IsUnfaulted : Shape → List Text → Type 0
IsUnfaulted s words = level_fault s [] nothing_held words false [] ≡ []

pub leaf_satisfies : (program name : Text) (rows : List Row) (words : List Text) → are_apart rows ≡ true → IsUnfaulted (leaf program name rows) words
    → Satisfies rows (rows_at (leaf program name rows) words).1
leaf_satisfies program name rows words apart none =
    let s = leaf program name rows in
    let K = kind_in rows in
    let of = are_of rows apart in
    let keeps = rules_keep K 1 rows of in
    let end = (walk s.rules [] nothing_held words).held in
    let walking = or_nil (walk_fault s [] (walk_from nothing_held) words) _ none in
    let settling = or_nil (settle_fault s.rules s.args_override_self end) _ walking.1 in
    let defaulting = or_nil (defaults_fault (settled s.rules end).rows s.rules) _ settling.1 in
    let walked : AreGood K end.rows = walk_good K s [] keeps (walk_from nothing_held) words walking.0 tt in
    let good = settle_good K s.rules s.args_override_self keeps end settling.0 walked in
    let after = finished s.rules end in
    let is = defaults_good K 1 rows (settled s.rules end).rows of good in
    let lacking : list_any (lacks after) (built_rules 1 rows) ≡ false = unlacking _ defaulting.1 in
    all_hold K rows after of is.0 is.1 (all_given 1 rows after lacking)
