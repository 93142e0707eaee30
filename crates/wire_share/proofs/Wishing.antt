-- What a request needs, from what its body tells.
use Rattle.std.proofs.Common.{◌≡◌, ◌∙◌, ap, subst, sym, List, Option, ℕ}
use Rattle.std.proofs.Math.IntN.{ℤ_set}
use base.Stored.{Coded-set}
use mathlib.Core.Sum.{⊎_set}
use Rattle.bson_elem.specs.{coded_text}
use Rattle.wire_msg.specs.{Carries, Content, Message, SpellsMsg}
use Rattle.wire_model.proofs.Lemmas.{same_request}
use Rattle.wire_peer.specs.{Asked, ServerView, WaitsAt, asked, asked_by}
use Rattle.wire_peer.specs.declared.requests.Request.{Request}
use Rattle.wire_peer.proofs.Lemmas.{of_content}
use Rattle.wire_share.specs.declared.need.Need.{Need}
use Rattle.wire_share.specs.declared.need.SessionId.{SessionId}
use Rattle.wire_share.specs.Needs.{begun_by, command_in, need_of}
use Rattle.wire_share.specs.Cores.{command_of, need_in}
use Rattle.wire_share.proofs.Standing.{some_same}

bytes_set : (a b : List ℕ) → IsProp (a ≡ b)
bytes_set a b = Coded-set coded_text a b

need_prop : (a b : Need) → IsProp (a ≡ b)
need_prop a b = hlevel (⊎_set, ℤ_set, bytes_set)

-- the request that waits is one message
pub one_waits : (s : ServerView) (m n : Message) → WaitsAt s 0 m → WaitsAt s 0 n → m ≡ n
one_waits s m n a b =
    same_request m n a.bytes a.spelled
    (subst (λ (bytes : List ℕ). SpellsMsg n bytes) (some_same b.bytes a.bytes (sym b.at ∙ a.at)) b.spelled)

-- what is read of it is what it asks
pub asks : (s : ServerView) (r : Request) (m : Message) → ((n : Message) × WaitsAt s 0 n × (asked r ≡ asked_by n)) → WaitsAt s 0 m → asked r ≡ asked_by m
asks s r m shown waits = shown.2 ∙ ap asked_by (one_waits s shown.0 m shown.1 waits)

pub need_is : (r : Request) (m : Message) (need : Need) → asked r ≡ asked_by m → ((c : Content) → Carries r.payload c → need ≡ need_of (command_in c.body)) → need ≡ need_in m
need_is r m need same each =
    of_content r.payload {P = λ c. need ≡ need_of (command_in c.body)} (need_prop need _) each ∙ ap (λ (a : Asked). need_of (command_in a.payload.body)) same

begun_prop : (a b : Option SessionId) → IsProp (a ≡ b)
begun_prop a b = hlevel (⊎_set, bytes_set)

pub begun_is : (r : Request) (m : Message) (begun : Option SessionId) → asked r ≡ asked_by m → ((c : Content) → Carries r.payload c → begun ≡ begun_by (command_in c.body))
    → begun ≡ begun_by (command_of m)
begun_is r m begun same each =
    of_content r.payload {P = λ c. begun ≡ begun_by (command_in c.body)} (begun_prop begun _) each ∙ ap (λ (a : Asked). begun_by (command_in a.payload.body)) same
