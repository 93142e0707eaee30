-- The acts of an owner, and those that it did from there on, are one list of acts.
use Rattle.std.proofs.Common.{◌≡◌, ℕ, List, [], ◌∷◌, ◌++◌, refl, sym, ◌∙◌, ap, subst, append_assoc}
use Rattle.wire_peer.specs.{Does, Stops}
use Rattle.wire_model.specs.Owners.{ClientAct, ClientEnd, ClientRun, ServerEnds, bytes_sent, bytes_taken, sent_by, taken_by}
use Rattle.wire_model.specs.Deeds.{AtClient, AtServer, Deed, ServersRun}

pub client_on : (c : ℕ) (acts more : List ClientAct) (old mid new : ClientEnd) → ClientRun c old
    acts mid
    → ClientRun c mid more new → ClientRun c old (acts ++ more) new
client_on c [] more old mid new same run = subst (λ z. ClientRun c z more new) same run
client_on c (act ∷ acts) more old mid new (next, one, rest) run =
    (next, one, client_on c acts more next mid new rest run)

pub servers_on : {H : Type 0} (does : Does H) (stops : Stops H) (deeds more : List Deed)
    (old mid new : ServerEnds H) → ServersRun does stops old deeds mid → ServersRun does stops mid
    more new
    → ServersRun does stops old (deeds ++ more) new
servers_on does stops [] more old mid new same run =
    subst (λ z. ServersRun does stops z more new) same run
servers_on does stops (AtClient c act ∷ deeds) more old mid new rest run =
    servers_on does stops deeds more old mid new rest run
servers_on does stops (AtServer c act ∷ deeds) more old mid new (next, one, rest) run =
    (next, one, servers_on does stops deeds more next mid new rest run)

pub sent_on : (acts more : List ClientAct) → bytes_sent (acts ++ more) ≡ bytes_sent acts ++
    bytes_sent more
sent_on [] more = refl
sent_on (act ∷ acts) more =
    ap (λ b. sent_by act ++ b) (sent_on acts more)
    ∙ sym (append_assoc (sent_by act) (bytes_sent acts) (bytes_sent more))

pub taken_on : (acts more : List ClientAct) → bytes_taken (acts ++ more) ≡ bytes_taken acts ++
    bytes_taken more
taken_on [] more = refl
taken_on (act ∷ acts) more =
    ap (λ b. taken_by act ++ b) (taken_on acts more)
    ∙ sym (append_assoc (taken_by act) (bytes_taken acts) (bytes_taken more))
