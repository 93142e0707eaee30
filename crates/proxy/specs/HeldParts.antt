-- The numbers of a link that holds its messages.
use Rattle.std.specs.Prelude.{◌≡◌, ◌≤◌, ℕ, List, [], length, Bool, true}
use Rattle.proxy.specs.declared.held.Standing.{Standing}
use Rattle.proxy.specs.declared.held.Standing.TheVariants as stands

-- So many of these bytes were given, and so many may be: all where bytes are given as they come.
-- There are none where nothing was ever held or put.
pub record AreParts (bytes : List ℕ) (given may : ℕ) (standing : Standing) (plain : Bool) : Type 0
  where
    pub in_order : given ≤ may
    pub within : may ≤ length bytes
    pub all : standing ≡ stands.Free → may ≡ length bytes
    pub none : plain ≡ true → bytes ≡ []
    pub plain_free : plain ≡ true → standing ≡ stands.Free
