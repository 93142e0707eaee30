-- What a script's run writes at its end: the calls with their parts, and the entries of the log.
use Rattle.std.specs.Prelude.{ℕ, ◌+◌, Bool, true, false, Option, None, Some, List, [], ◌∷◌, ◌++◌}
use Rattle.std.specs.Prelude.{codes, flat_map, length}
use Rattle.std.specs.Fmt.{decimal}
use Rattle.hex.specs.Hex.{encode_lower}
use Rattle.bson_elem.specs.{document, elements}
use Rattle.wire_msg.specs.{Content}
use Rattle.wire_peer.specs.{LogEntry}
use Rattle.wire_model.specs.{Done, Foreign, Lost, Pending, Record, Sent, State, World}

-- the body of a payload, in hexadecimal
abbrev pub body_hex : Content → List ℕ
body_hex c = encode_lower (document (elements c.body))

-- the texts of a list's elements, one after another; the elements are numbered from this number on
abbrev pub numbered : {A : Type 0} → (ℕ → A → List ℕ) → ℕ → List A → List ℕ
numbered text n [] = []
numbered text n (x ∷ xs) = text n x ++ numbered text (n + 1) xs

-- ---- calls

-- what a call asks for: just one reply, one or more, or none
abbrev pub kind_word : (exhaust_allowed more_to_come : Bool) → List ℕ
kind_word exhaust_allowed true = codes "unacknowledged"
kind_word true false = codes "exhaust"
kind_word false false = codes "plain"

-- the state of a call; no call of a world is foreign
abbrev pub state_word : State → List ℕ
state_word Pending = codes "pending"
state_word Done = codes "done"
state_word Sent = codes "sent"
state_word Lost = codes "lost"
state_word Foreign = codes "foreign"

-- the line of a call: its number, its connection, what it asks for, its state, and the number of
-- its parts
abbrev pub call_line : ℕ → Record → List ℕ
call_line k r =
    codes "call " ++ (decimal k ++ (codes " connection "
    ++ (decimal r.connection ++ (codes " "
    ++ (kind_word r.asked.exhaust_allowed r.asked.more_to_come
    ++ (codes " " ++ (state_word r.state
    ++ (codes " " ++ (decimal (length r.parts) ++ codes "\n")))))))))

abbrev pub part_line : Content → List ℕ
part_line c = codes "part " ++ (body_hex c ++ codes "\n")

-- a call's line, and a line for each of its parts
abbrev pub call_text : ℕ → Record → List ℕ
call_text k r = call_line k r ++ flat_map part_line r.parts

-- ---- entries

-- the number of answers that the handler gave, or that it failed
abbrev pub outcome_text : Option (List Content) → List ℕ
outcome_text (Some answers) = codes " answers " ++ decimal (length answers)
outcome_text None = codes " failed"

abbrev pub body_text : Content → List ℕ
body_text c = codes " body " ++ (body_hex c ++ codes "\n")

-- the line of an entry: its number, its connection, its outcome, and the request's body
abbrev pub entry_line : ℕ → LogEntry → List ℕ
entry_line e entry =
    codes "entry " ++ (decimal e
    ++ (codes " connection " ++ (decimal entry.connection
    ++ (outcome_text entry.answers ++ body_text entry.payload))))

-- ---- both

-- the number of calls, and each of them; then the number of entries, and each of them
abbrev pub closing_text : {H : Type 0} → World H → List ℕ
closing_text w =
    codes "calls " ++ (decimal (length w.calls) ++ (codes "\n" ++ (numbered call_text 0 w.calls
    ++ (codes "entries " ++ (decimal (length w.log)
    ++ (codes "\n" ++ numbered entry_line 0 w.log))))))
