-- What a proxy tells of connections.
use Rattle.std.specs.Prelude.{ℕ, List, ◌++◌, Bool, false, true, codes, encode_utf8, Option, Some}
use Rattle.std.specs.Prelude.{None, ℤ}
use Rattle.std.specs.Fmt.{decimal, signed_decimal}
use Rattle.wire_msg.specs.declared.fault.MsgFault.{MsgFault}
use Rattle.wire_msg.specs.{fault_text}
use Rattle.proxy.specs.declared.direction.Direction.{Direction}
use Rattle.proxy.specs.declared.direction.Direction.TheVariants as directions
use Rattle.proxy.specs.declared.options.Show.{Show}
use Rattle.proxy.specs.declared.options.Show.TheVariants as shown
use Rattle.proxy.specs.declared.ending.Ending.{Ending}
use Rattle.proxy.specs.declared.ending.Ending.TheVariants as endings
use Rattle.proxy.specs.declared.ending.Side.{Side}
use Rattle.proxy.specs.declared.ending.Side.TheVariants as sides

-- messages are shown
abbrev pub shows : Show → Bool
shows shown.Nothing = false
shows shown.Text = true
shows shown.Json = true

-- How a connection ended is told also where nothing is shown: the proxy ended it, or the side of
-- the server failed.
abbrev pub is_told : Ending → Bool
is_told endings.Ended = false
is_told (endings.Unconnected failure) = true
is_told (endings.Failed sides.Client fault) = false
is_told (endings.Failed sides.Server fault) = true
is_told (endings.HungUp id) = true
is_told (endings.Cut direction count) = true

-- the sign for a way, as a character
abbrev pub sign_of : Direction → ℕ
sign_of directions.There = 62
sign_of directions.Back = 60

-- the words for a way, and for who is at one end
abbrev pub word_of : Direction → List ℕ
word_of directions.There = codes "there"
word_of directions.Back = codes "back"

abbrev pub name_of : Side → List ℕ
name_of sides.Client = codes "client"
name_of sides.Server = codes "server"

-- what stands before a message that goes this way on the connection of this number
abbrev pub start_text : (number : ℕ) → Direction → List ℕ
start_text number direction =
    decimal number ++ (codes " " ++ (encode_utf8 (sign_of direction) ++ codes " "))

-- the line of bytes that no message begins with
abbrev pub fault_line : (number : ℕ) → Direction → MsgFault → List ℕ
fault_line number direction fault =
    decimal number ++ (codes " " ++ (encode_utf8 (sign_of direction)
    ++ (codes " " ++ (fault_text fault.at fault.cause ++ codes "\n"))))

-- the line of a connection that is new
abbrev pub new_line : ℕ → List ℕ
new_line number = decimal number ++ codes " new\n"

-- what an ending displays as, but for those with a failure of the system, whose text it has
abbrev pub ending_text : Ending → Option (List ℕ)
ending_text endings.Ended = Some (codes "ended")
ending_text (endings.Unconnected failure) = None
ending_text (endings.Failed side fault) = None
ending_text (endings.HungUp id) = Some (codes "hangup id " ++ signed_decimal id)
ending_text (endings.Cut direction count) =
    Some (codes "cut " ++ (word_of direction ++ (codes " " ++ decimal count)))

-- the line of a connection that ended so
abbrev pub end_line : (number : ℕ) → (ending : List ℕ) → List ℕ
end_line number ending = decimal number ++ (codes " " ++ (ending ++ codes "\n"))

-- the line of a reply of a rule to the request with this id
abbrev pub reply_line : (number : ℕ) → (id : ℤ) → List ℕ
reply_line number id =
    decimal number ++ (codes " reply to " ++ (signed_decimal id ++ codes "\n"))
