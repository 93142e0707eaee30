-- How far a text reaches that is an object: to the brace that closes its first one. Braces in
-- strings don't count.
use Rattle.std.specs.Prelude.{◌≡◌, ℕ, suc, ◌+◌, ◌-◌, ◌<◌, ◌≤◌, List, [], ◌∷◌, ◌++◌, Bool, false}
use Rattle.std.specs.Prelude.{nat_le, ◌==◌, ◌&&◌, drop, if◌then◌else◌, length}
use Rattle.bson_json_read.specs.declared.extent.Scan.{Scan}
use Rattle.bson_json_read.specs.declared.extent.Scanned.{Scanned}
use Rattle.bson_json_read.specs.declared.extent.Scanned.TheVariants as scanned
use Rattle.bson_json_read.specs.declared.extent.Within.{Within}
use Rattle.bson_json_read.specs.declared.extent.Within.TheVariants.{Code, Quoted, Escaped}

-- where a scan stands behind a byte: a quote (34) begins and ends a string, but for one behind a
-- backslash (92)
abbrev pub within_next : Within → ℕ → Within
within_next Code b = if b == 34 then Quoted else Code
within_next Quoted b = if b == 34 then Code else if b == 92 then Escaped else Quoted
within_next Escaped b = Quoted

-- how many braces are open behind a byte
abbrev pub open_next : Within → ℕ → ℕ → ℕ
open_next Code count b = if b == 123 then count + 1 else if b == 125 then count - 1 else count
open_next Quoted count b = count
open_next Escaped count b = count

-- the byte is the brace that closes the outermost open one
abbrev pub closes : Within → ℕ → ℕ → Bool
closes Code count b = b == 125 && nat_le count 1
closes Quoted count b = false
closes Escaped count b = false

-- how many bytes of a text are left, in which so many braces are open: all, where none closes it
abbrev pub extent : Within → ℕ → List ℕ → ℕ
extent within count [] = 0
extent within count (b ∷ bs) =
    if closes within count b then 1
    else suc (extent (within_next within b) (open_next within count b) bs)

-- how many bytes the text has that begins here
abbrev pub text_len : List ℕ → ℕ
text_len rest = extent Code 0 rest

-- ---- texts that go on

-- A scan has passed the first bytes of a text, none of which ends it: what the text has, whatever
-- follows, is these and what the scan finds behind them.
pub record HasPassed (s : Scan) (text : List ℕ) : Type 0 where
  pub inside : s.len ≤ length text
  pub few : s.braces ≤ s.len
  pub behind : (more : List ℕ)
      → text_len (text ++ more) ≡ s.len + extent s.within s.braces (drop s.len text ++ more)

-- the text that begins here ends behind so many bytes, whatever follows
pub record EndsBehind (n : ℕ) (text : List ℕ) : Type 0 where
  pub some : 0 < n
  pub inside : n ≤ length text
  pub whatever : (more : List ℕ) → text_len (text ++ more) ≡ n

-- the end of the text was found, or it isn't in these bytes
abbrev pub IsScanned : List ℕ → Scanned → Type 0
IsScanned text (scanned.Closed n) = EndsBehind n text
IsScanned text (scanned.Open s) = HasPassed s text × (s.len ≡ length text)

-- one byte more was passed
abbrev pub IsStepped : Scan → List ℕ → Scanned → Type 0
IsStepped old text (scanned.Closed n) = EndsBehind n text
IsStepped old text (scanned.Open s) = HasPassed s text × (s.len ≡ old.len + 1)
