-- What a server connection took, by what became of the bytes.
use Rattle.std.proofs.Common.{◌≡◌, ◌≢◌, ℕ, List, [], ◌∷◌, ◌++◌, Option, Some, Bool, true, false, length, take, drop, ap, refl, sym, subst, ◌∙◌}
use Rattle.std.specs.Prelude.{IsTrue, Ok}
use Rattle.wire_stream.specs.declared.reader_state.ReaderState.{ReaderState}
use Rattle.wire_stream.specs.declared.reader_state.ReaderState.TheVariants.{Bad, Need, Ready}
use Rattle.wire_peer.specs.{ServerView, TakesBytes}
use Rattle.wire_peer.specs.Servers.{holding}
use Rattle.wire_peer.proofs.Lemmas.{server_own}
use Rattle.wire_serve.specs.declared.cause.CloseCause.{CloseCause}
use Rattle.wire_serve.specs.declared.cause.CloseCause.TheVariants as causes
use Rattle.wire_serve.specs.declared.passing.Passed.{Passed}
use Rattle.wire_serve.specs.declared.passing.Passed.TheVariants as passed
use Rattle.wire_serve.specs.ServerConnections.{ConnTakes, IsReady, asks, begins, gathers, goes_on, refuses}
use Rattle.wire_serve.specs.Kept.{view_of}
use Rattle.wire_serve.specs.Passing.{PassesOn, TakesNext}
use Rattle.wire_msg.specs.declared.header.TheConstants.{MAX_MESSAGE_LEN}

-- ---- the server, without its output

abbrev pub quiet : ServerView → ServerView
quiet s = record s { output = [] }

quiet_holding : (found : ReaderState) (s : ServerView) (bytes : List ℕ) → quiet (holding s bytes found) ≡ holding (quiet s) bytes found
quiet_holding Need s bytes = refl
quiet_holding Ready s bytes = refl
quiet_holding (Bad f) s bytes = refl

same_output : (found : ReaderState) (s : ServerView) (bytes : List ℕ) → (holding s bytes found).output ≡ s.output
same_output Need s bytes = refl
same_output Ready s bytes = refl
same_output (Bad f) s bytes = refl

quiet_takes : (s s' : ServerView) (piece : List ℕ) (n : ℕ) → TakesBytes s piece n s' → TakesBytes (quiet s) piece n (quiet s')
quiet_takes s s' piece n t =
    record { bytes = t.bytes; found = t.found; fed = t.fed; is = ap quiet t.is ∙ quiet_holding t.found s t.bytes }

output_kept : (s s' : ServerView) (piece : List ℕ) (n : ℕ) → TakesBytes s piece n s' → s'.output ≡ s.output
output_kept s s' piece n t = ap (λ (z : ServerView). z.output) t.is ∙ same_output t.found s t.bytes

-- ---- inside a message

pub took_inside : (s s' : ServerView) (part reply piece : List ℕ) (queried : Bool) (gone n : ℕ) (cause : Option CloseCause)
    → s.held ≢ [] → part ≡ [] → TakesBytes s piece n s'
    → ConnTakes (view_of s part queried reply gone cause) (take n piece) (view_of s' part false reply gone cause)
took_inside s s' part reply piece queried gone n cause some empty t =
    goes_on (quiet s') some empty (quiet_takes s s' (take n piece) (length (take n piece)) (server_own s piece n s' t))
    (ap (λ (o : List ℕ). record (view_of s part queried reply gone cause) { server = quiet s'; queried = false; output = drop gone reply ++ o })
    (output_kept s s' piece n t))

-- ---- between messages

abbrev IsFalse : Bool → Type 0
IsFalse false = Unit {0}
IsFalse true = ⊥

pub not_inside : (held : List ℕ) → (held ≢ [] → IsTrue false) → held ≡ []
not_inside [] none = refl
not_inside (b ∷ bytes) none = absurd (subst IsFalse (none (λ e. absurd (cc))) tt)

pub next_of : (s : ServerView) (part : List ℕ) (queried : Bool) (reply : List ℕ) (gone : ℕ) (cause : Option CloseCause)
    → IsReady (view_of s part queried reply gone cause) → s.held ≡ [] → s.limit ≡ MAX_MESSAGE_LEN → TakesNext s
next_of s part queried reply gone cause r between limit = record {
  is_open = r.is_open;
  between = between;
  none_waits = r.none_waits;
  window = r.window;
  limit = limit;
}

-- the bytes that are gathered then, whether a query came last, and why the server connection closed
abbrev pub left : Passed → List ℕ → List ℕ
left passed.Nothing all = all
left passed.Header all = []
left passed.Query all = []
left (passed.Refused fault) all = all

abbrev pub queried_by : Passed → Bool → Bool
queried_by passed.Nothing queried = queried
queried_by passed.Header queried = false
queried_by passed.Query queried = true
queried_by (passed.Refused fault) queried = queried

abbrev pub cause_by : Passed → Option CloseCause → Option CloseCause
cause_by passed.Nothing cause = cause
cause_by passed.Header cause = cause
cause_by passed.Query cause = cause
cause_by (passed.Refused fault) cause = Some (causes.Query fault)

-- with what was gathered, if the server is as it was
same_view : (s s' : ServerView) (part reply : List ℕ) (queried : Bool) (gone : ℕ) (cause : Option CloseCause) → s' ≡ s
    → view_of s' part queried reply gone cause ≡ view_of s part queried reply gone cause
same_view s s' part reply queried gone cause same = ap (λ (z : ServerView). view_of z part queried reply gone cause) same

as_passed : (what : Passed) (s s' : ServerView) (part bytes reply : List ℕ) (queried : Bool) (gone : ℕ) (cause : Option CloseCause)
    → s.held ≡ [] → PassesOn (Ok what) (part ++ bytes) s s'
    → ConnTakes (view_of s part queried reply gone cause) bytes
    (view_of s' (left what (part ++ bytes)) (queried_by what queried) reply gone (cause_by what cause))
as_passed passed.Nothing s s' part bytes reply queried gone cause between (is, same) =
    gathers between is (same_view s s' (part ++ bytes) reply queried gone cause same)
as_passed passed.Header s s' part bytes reply queried gone cause between (other, t) =
    begins (quiet s') between other (quiet_takes s s' (part ++ bytes) 16 t)
    (ap (λ (o : List ℕ). record (view_of s part queried reply gone cause) { server = quiet s'; part = []; queried = false; output = drop gone reply ++ o })
    (output_kept s s' (part ++ bytes) 16 t))
as_passed passed.Query s s' part bytes reply queried gone cause between (whole, (q, spelled, same)) =
    asks q between whole spelled (ap (λ (z : ServerView). view_of z [] true reply gone cause) same)
as_passed (passed.Refused fault) s s' part bytes reply queried gone cause between (whole, first, same) =
    refuses fault between whole first (same_view s s' (part ++ bytes) reply queried gone (Some (causes.Query fault)) same)

pub took_as : (what : Passed) (s s' : ServerView) (part bytes now reply : List ℕ) (queried : Bool) (gone : ℕ) (cause : Option CloseCause)
    → s.held ≡ [] → PassesOn (Ok what) (part ++ bytes) s s' → now ≡ left what (part ++ bytes)
    → ConnTakes (view_of s part queried reply gone cause) bytes
    (view_of s' now (queried_by what queried) reply gone (cause_by what cause))
took_as what s s' part bytes now reply queried gone cause between p is =
    subst (λ (x : List ℕ). ConnTakes (view_of s part queried reply gone cause) bytes (view_of s' x (queried_by what queried) reply gone (cause_by what cause)))
    (sym is) (as_passed what s s' part bytes reply queried gone cause between p)
