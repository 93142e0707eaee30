-- What is done with servers alone, among what clients did meanwhile.
use Rattle.std.proofs.Common.{ℕ, List, [], ◌∷◌}
use Rattle.wire_peer.specs.{Does, Stops}
use Rattle.wire_model.specs.{Made, ServerEnds, ServersGrow, Turn, server_turns}
use Rattle.wire_model.specs.Deeds.{AtClient, AtServer, Is, Opens, opened}

module _ {H : Type 0} (does : Does H) (stops : Stops H) (limit : ℕ) (made : ℕ → Made) where
  -- what was done at the clients meanwhile can be left out
  pub grown_alone : (turns : List Turn) (old new : ServerEnds H)
      → ServersGrow does stops limit made old turns new
      → ServersGrow does stops limit made old (server_turns turns) new
  grown_alone [] old new run = run
  grown_alone (Opens ∷ turns) old new run = grown_alone turns (opened limit made old) new run
  grown_alone (Is (AtClient c act) ∷ turns) old new run = grown_alone turns old new run
  grown_alone (Is (AtServer c act) ∷ turns) old new (mid, a, run) =
      (mid, a, grown_alone turns mid new run)
