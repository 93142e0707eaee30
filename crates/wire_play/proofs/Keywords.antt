-- The keywords of what a line names.
use Rattle.std.proofs.Common.{◌≡◌, ◌∙◌, List, ℕ, Option, Some, None, refl, sym, ap}
use Rattle.std.specs.Prelude.{codes, if◌then◌else◌}
use Rattle.std.specs.Str.{bytes_eq}
use Rattle.wire_peer.specs.declared.calls.CallKind.TheVariants.{Plain, Exhaust, Unacknowledged}
use Rattle.wire_play.specs.declared.keyword.Keyword.{Keyword}
use Rattle.wire_play.specs.declared.keyword.Keyword.TheVariants as keywords
use Rattle.wire_play.specs.Naming.{keyword_text}

-- the keyword of a text
abbrev keyword_for : List ℕ → Option Keyword
keyword_for text =
    if bytes_eq text (codes "world") then Some keywords.World
    else if bytes_eq text (codes "open") then Some keywords.Open
    else if bytes_eq text (codes "return") then Some keywords.Return
    else if bytes_eq text (codes "call") then Some (keywords.Call Plain)
    else if bytes_eq text (codes "exhaust") then Some (keywords.Call Exhaust)
    else if bytes_eq text (codes "send") then Some (keywords.Call Unacknowledged)
    else if bytes_eq text (codes "up") then Some keywords.Up
    else if bytes_eq text (codes "down") then Some keywords.Down
    else if bytes_eq text (codes "answer") then Some keywords.Answer
    else if bytes_eq text (codes "cutup") then Some keywords.CutUp
    else if bytes_eq text (codes "cutdown") then Some keywords.CutDown
    else if bytes_eq text (codes "clear") then Some keywords.Clear
    else if bytes_eq text (codes "restart") then Some keywords.Restart
    else if bytes_eq text (codes "rawopen") then Some keywords.RawOpen
    else if bytes_eq text (codes "raw") then Some keywords.Raw
    else if bytes_eq text (codes "rawtake") then Some keywords.RawTake
    else None

keyword_back : (k : Keyword) → keyword_for (keyword_text k) ≡ Some k
keyword_back keywords.World = refl
keyword_back keywords.Open = refl
keyword_back keywords.Return = refl
keyword_back (keywords.Call Plain) = refl
keyword_back (keywords.Call Exhaust) = refl
keyword_back (keywords.Call Unacknowledged) = refl
keyword_back keywords.Up = refl
keyword_back keywords.Down = refl
keyword_back keywords.Answer = refl
keyword_back keywords.CutUp = refl
keyword_back keywords.CutDown = refl
keyword_back keywords.Clear = refl
keyword_back keywords.Restart = refl
keyword_back keywords.RawOpen = refl
keyword_back keywords.Raw = refl
keyword_back keywords.RawTake = refl

one_some : (k l : Keyword) → Some k ≡ Some l → k ≡ l
one_some k l e = cc

-- a text is one keyword at most
pub one_keyword : (k l : Keyword) → keyword_text k ≡ keyword_text l → k ≡ l
one_keyword k l same = one_some k l (sym (keyword_back k) ∙ (ap keyword_for same ∙ keyword_back l))
