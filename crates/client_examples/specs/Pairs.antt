-- The two ends of the program, as a system of one pair, and what is known of a run of them.
use Rattle.std.specs.Prelude.{◌≡◌, ℕ, ◌<◌, Bool, Some, List, [], ◌∷◌, length, slice_get}
use Rattle.wire_peer.specs.{Does, Stops, log_of}
use Rattle.wire_model.specs.{Arrive}
use Rattle.wire_model.specs.Channels.{Pair, Steps, System, Trace, no_pairs}
use Rattle.wire_model.specs.Seen.{Channelled}
use Rattle.wire_end.specs.{AreAnswered, PairKnows, records_of}
use Rattle.client_examples.specs.Owning.{Acts, Told, client_end, made_for_four, message_limit}
use Rattle.client_examples.specs.Owning.{server_end}
use Rattle.client_examples.specs.declared.pair.ends.Ends.{Ends}

-- ---- the ends as a system

-- each of so many calls has its number as the index of its record
pub record AreNumbered (n : ℕ) (calls : List ℕ) : Type 0 where
  pub as_many : length calls ≡ n
  pub at : (k : ℕ) → k < n → slice_get calls k ≡ Some k

-- the ends as a pair, whose client made calls with these indexes, and of which these were told
abbrev pub pair_of : {H : Type 0} → Ends H → List ℕ → (server_told client_told : Bool) → Pair
pair_of e calls server_told client_told = record {
  client = e.client;
  server = e.server;
  calls = calls;
  up = e.up;
  down = e.down;
  server_told = server_told;
  client_told = client_told;
}

-- The ends are a system of one pair. Its calls are those that the program keeps, all of connection
-- 1, and its log and its handler are the program's.
pub record Shows {H : Type 0} (e : Ends H) (s : System H) : Type 0 where
  pub calls : List ℕ
  pub server_told : Bool
  pub client_told : Bool
  pub pair : s.pairs ≡ pair_of e calls server_told client_told ∷ []
  pub numbered : AreNumbered (length s.calls) calls
  pub records : s.calls ≡ records_of 1 e.calls.items
  pub log : s.log ≡ log_of e.logged.entries.items
  pub handler : s.handler ≡ e.logged.handler

-- ---- what the ends did

-- from any system that the old ends are, steps lead to one that the new ends are
abbrev pub StepsLead : {H : Type 0} → Does H → Stops H → Ends H → Ends H → Type 0
StepsLead {H} does stops old new = (s : System H) → Shows old s
    → (s' : System H) × Steps H does stops message_limit s s' × Shows new s'

-- The old ends became the new ones by steps of a system of pairs, which are acts of the owners.
pub record Moves {H : Type 0} (does : Does H) (stops : Stops H) (old new : Ends H) : Type 0 where
  pub steps : StepsLead does stops old new
  pub acts : Acts does stops old new

-- The ends were made with this handler, and moved since.
pub record Reached {H : Type 0} (does : Does H) (stops : Stops H) (first : H) (e : Ends H) :
    Type 0 where
  pub s : System H
  pub trace : Trace does stops message_limit (no_pairs first) s
  pub shows : Shows e s
  pub told : Told does stops first e

-- So the headline holds of the calls that the program keeps, with its log. It holds of the run of
-- pairs that the ends made, wherever its ways were cut; and it is what the owners of the ends know,
-- since bytes arrived in order between them. Each call that is done has an entry of its own, with
-- its payload, and holds exactly the answers of this entry.
pub record HaveRun {H : Type 0} (does : Does H) (stops : Stops H) (first : H) (e : Ends H) :
    Type 0 where
  pub reached : Reached does stops first e
  pub headline : Channelled does stops first reached.s
  pub arrive : Arrive (λ _. []) (λ _. []) reached.told.deeds
  pub known : PairKnows does stops message_limit made_for_four first reached.told.deeds
      (client_end e) (server_end e)
  pub answered : AreAnswered (records_of 1 e.calls.items) (log_of e.logged.entries.items)
