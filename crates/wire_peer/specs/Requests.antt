-- What a handler is asked, and how many answers it may give.
use Rattle.std.specs.Prelude.{◌≡◌, ℕ, ◌<◌, Bool, true, false}
use Rattle.wire_msg.specs.{Content, Message}
use Rattle.wire_peer.specs.declared.requests.Request.{Request}
use Rattle.wire_peer.specs.Contents.{content_of}

-- a request: its payload, whether more than one reply may be sent to it, and whether none is wanted
pub record Asked : Type 0 where
  pub payload : Content
  pub exhaust_allowed : Bool
  pub more_to_come : Bool

abbrev pub asked : Request → Asked
asked r =
    record {
      payload = content_of r.payload;
      exhaust_allowed = r.exhaust_allowed;
      more_to_come = r.more_to_come;
    }

-- the request that a message is
abbrev pub asked_by : Message → Asked
asked_by m =
    record {
      payload = m.content;
      exhaust_allowed = m.flags.exhaust_allowed;
      more_to_come = m.flags.more_to_come;
    }

-- more than one answer may be given
abbrev pub may_get_more : Bool → Bool → Bool
may_get_more exhaust_allowed true = false
may_get_more exhaust_allowed false = exhaust_allowed

abbrev pub takes_more : Asked → Bool
takes_more a = may_get_more a.exhaust_allowed a.more_to_come

-- n answers may be given: one, or more where the request takes more
abbrev pub IsCount : Asked → ℕ → Type 0
IsCount a n = (0 < n) × (takes_more a ≡ false → n ≡ 1)
