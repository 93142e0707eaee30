-- What the owners of the ends know of a run.
use Rattle.std.proofs.Common.{[], append-nil, arith, subst}
use Rattle.wire_peer.specs.{Does, Stops}
use Rattle.wire_model.specs.{AreMade, Arrive}
use Rattle.wire_model.specs.Seen.{Channelled}
use Rattle.wire_end.proofs.Lemmas.{are_answered, pair_knows}
use Rattle.client_examples.specs.declared.pair.ends.Ends.{Ends}
use Rattle.client_examples.specs.Owning.{Told, client_end, made_for_four, message_limit, server_end}
use Rattle.client_examples.specs.Pairs.{HaveRun, Reached}

made_well : AreMade (λ _. made_for_four)
made_well c = (grind arith, grind arith)

module _ {H : Type 0} (does : Does H) (stops : Stops H) (first : H) (e : Ends H) where
  arrived : (told : Told does stops first e) → Arrive (λ _. []) (λ _. []) told.deeds
  arrived told = subst (Arrive (λ _. []) (λ _. [])) (append-nil told.deeds) (told.arrives [] (λ up down u d. tt))

  pub have_run : (r : Reached does stops first e) → Channelled does stops first r.s → HaveRun does stops first e
  have_run r headline =
      let told = r.told in
      let arrive = arrived told in
      let known = pair_knows does stops message_limit (omega arith) made_for_four made_well told.acts told.served told.deeds
      (client_end e) first (server_end e) told.ran told.serves told.order arrive in
      record {
        reached = r;
        headline = headline;
        arrive = arrive;
        known = known;
        answered = are_answered does stops message_limit made_for_four first told.deeds (client_end e) (server_end e) known;
      }
