-- What stands between texts, which are objects: white space where they stand one after another, and
-- else the brackets and commas of the one array whose items they are.
use Rattle.std.specs.Prelude.{ℕ, ◌==◌, ◌||◌, Bool, true, false, if◌then◌else◌}
use Rattle.bson_json_read.specs.declared.fault.Cause.TheVariants as causes
use Rattle.bson_json_read.specs.declared.frame.Frame.{Frame}
use Rattle.bson_json_read.specs.declared.frame.Frame.TheVariants.{Start, Between, Opened, Item}
use Rattle.bson_json_read.specs.declared.frame.Frame.TheVariants.{Comma, Closed}
use Rattle.bson_json_read.specs.declared.frame.Step.{Step}
use Rattle.bson_json_read.specs.declared.frame.Step.TheVariants.{Pass, Text, Refuse}

-- a space, a tab, a line feed or a carriage return
abbrev pub is_space : ℕ → Bool
is_space b = b == 32 || (b == 9 || (b == 10 || b == 13))

-- a text begins with a brace
abbrev pub text_at : ℕ → Step
text_at b = if b == 123 then Text else Refuse causes.NotAnObject

-- what a byte is that isn't white space: a bracket (91, 93), a comma (44), or the front of a text
abbrev pub step_at : Frame → ℕ → Step
step_at Start b = if b == 91 then Pass Opened else text_at b
step_at Between b = text_at b
step_at Opened b = if b == 93 then Pass Closed else text_at b
step_at Item b =
    if b == 44 then Pass Comma else if b == 93 then Pass Closed else Refuse causes.NotJson
step_at Comma b = text_at b
step_at Closed b = Refuse causes.NotJson

-- what a byte between texts is
abbrev pub step : Frame → ℕ → Step
step frame b = if is_space b then Pass frame else step_at frame b

-- the input may end here
abbrev pub may_end : Frame → Bool
may_end Start = true
may_end Between = true
may_end Opened = false
may_end Item = false
may_end Comma = false
may_end Closed = true

-- where reading stands behind a text
abbrev pub behind_text : Frame → Frame
behind_text Start = Between
behind_text Between = Between
behind_text Opened = Item
behind_text Item = Item
behind_text Comma = Item
behind_text Closed = Item
