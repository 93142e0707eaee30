-- The exit status if the words of a command line can't be read or ask for nothing.
use Rattle.std.specs.Prelude.{ℕ, ℤ, Bool, Option, None, if◌then◌else◌}
use Rattle.clap.specs.declared.error.kind.ErrorKind as clap
use Rattle.clap.specs.declared.error.kind.ErrorKind.TheVariants as kind
use Rattle.std.specs.declared.io.ErrorKind as io
use Rattle.std.specs.declared.io.ErrorKind.TheVariants as io_kind

-- the exit status if reading the words gives an error of this kind
abbrev pub unread_status : io.ErrorKind → ℕ
unread_status io_kind.OutOfMemory = 4
unread_status _ = 2

-- the exit status of words for which `clap` has an error of this kind, by whether its text could
-- be printed
abbrev pub words_status : clap.ErrorKind → Bool → ℕ
words_status kind.OutOfMemory printed = 4
words_status kind.DisplayHelp printed = if printed then 0 else 3
words_status kind.DisplayVersion printed = if printed then 0 else 3
words_status _ printed = 2

-- the exit status of a run that stops with an error of this kind, which has this code of the system
abbrev pub error_status : io.ErrorKind → Option ℤ → ℕ
error_status io_kind.OutOfMemory None = 4
error_status kind code = 3
