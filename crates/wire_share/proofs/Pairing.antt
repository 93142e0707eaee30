-- A request is answered with the reply to the call that it was passed on as.
use Rattle.std.proofs.Common.{◌≡◌, ◌≢◌, ℕ, Bool, true, false, List, [], ◌∷◌, ◌++◌, refl, sym, ◌∙◌, ap, subst, Some, inl, inr}
use Rattle.std.specs.Prelude.{slice_get}
use Rattle.std.proofs.lemmas.Option.{none-some, same_Some}
use Rattle.wire_msg.specs.{Content, Message, SpellsMsg}
use Rattle.wire_peer.specs.{LogEntry, WaitsAt}
use Rattle.wire_serve.specs.{ConnView, state_of}
use Rattle.wire_serve.specs.ServerConnections.{ended_by}
use Rattle.wire_serve.specs.declared.cause.ConnState.{ConnState}
use Rattle.wire_serve.specs.declared.cause.ConnState.TheVariants as conn_states
use Rattle.wire_model.proofs.Lemmas.{same_request}
use Rattle.wire_share.specs.declared.awaited.Awaited.{Awaited}
use Rattle.wire_share.specs.Acts.{Answers, DownAct, DownDoes, DownMove, DownMoves, DownRun, Ends, GoesWith, Moves, PassesOn, Sends, Stays, Takes}
use Rattle.wire_share.specs.Sharing.{DownSeen}
use Rattle.wire_share.proofs.Among.{Inside}

-- what waits where a call is awaited is a request that was passed on as it
abbrev pub Fits : (Message → Awaited → Type 0) → DownSeen → Type 0
Fits P d = (call : Awaited) → d.awaited ≡ Some call → (d.conn.server.waiting ≢ []) × ((m : Message) → WaitsAt d.conn.server 0 m → P m call)

there_is : (ws : List (List ℕ)) (bytes : List ℕ) → slice_get ws 0 ≡ Some bytes → ws ≢ []
there_is [] bytes at none = none-some bytes at
there_is (w ∷ ws) bytes at none = cc

goes : (P : Message → Awaited → Type 0) (m : Message) (call : Awaited) (old new : DownSeen) → WaitsAt old.conn.server 0 m → P m call → new ≡ record old { awaited = Some call } → Fits P new
goes P m call old new waits p is = subst (Fits P) (sym is) fits
  where
    fits : Fits P (record old { awaited = Some call })
    fits c same = (
      there_is old.conn.server.waiting waits.bytes waits.at,
      λ n w.
          let bytes = same_Some waits.bytes w.bytes (sym waits.at ∙ w.at) in
          subst (λ (x : Awaited). P n x) (same_Some call c same)
          (subst (λ (x : Message). P x call) (same_request m n w.bytes (subst (λ (bs : List ℕ). SpellsMsg m bs) bytes waits.spelled) w.spelled) p),
    )

goes_with : (P : Message → Awaited → Type 0) (m : Message) (call : Awaited) (made : List LogEntry) (old new : DownSeen) (b : Bool) → WaitsAt old.conn.server 0 m → P m call
    → GoesWith b call made old new → Fits P new
goes_with P m call made old new true waits p (inl gone) = λ c is. absurd (none-some c (sym gone.1 ∙ is))
goes_with P m call made old new true waits p (inr is) = goes P m call old new waits p is.0
goes_with P m call made old new false waits p is = goes P m call old new waits p is.0

ended_waits : (state : ConnState) (part : List ℕ) (f : ConnView) → (ended_by state part f).server.waiting ≡ f.server.waiting
ended_waits (conn_states.Closed cause) part f = refl
ended_waits conn_states.Open [] f = refl
ended_waits conn_states.Open (b ∷ bytes) f = refl

-- a call is awaited on, and what waits waits on, where bytes are moved
moves_on : (move : DownMove) (old new : DownSeen) → DownMoves move old new
    → (new.awaited ≡ old.awaited) × (old.conn.server.waiting ≢ [] → new.conn.server.waiting ≡ old.conn.server.waiting)
moves_on (Takes bytes) old new does_ = (does_.2, λ some. absurd (some does_.0.none_waits))
moves_on (Sends bytes) old new does_ = (ap (λ (d : DownSeen). d.awaited) does_.2, λ some. ap (λ (d : DownSeen). d.conn.server.waiting) does_.2)
moves_on Ends old new does_ =
    (ap (λ (d : DownSeen). d.awaited) does_, λ some. ap (λ (d : DownSeen). d.conn.server.waiting) does_ ∙ ended_waits (state_of old.conn) old.conn.part old.conn)
moves_on Stays old new does_ = (ap (λ (d : DownSeen). d.awaited) does_, λ some. ap (λ (d : DownSeen). d.conn.server.waiting) does_)

step : (P : Message → Awaited → Type 0) (act : DownAct) (old new : DownSeen) → Fits P old → ((m : Message) (call : Awaited) (made : List LogEntry) → act ≡ PassesOn m call made → P m call)
    → DownDoes act old new → Fits P new
step P (Moves move) old new fits own does_ = λ call is.
    let on = moves_on move old new does_ in
    let k = fits call (sym on.0 ∙ is) in
    let same = on.1 k.0 in (
      λ none. k.0 (sym same ∙ none),
      λ m w. k.1 m (record { bytes = w.bytes; at = ap (λ (ws : List (List ℕ)). slice_get ws 0) (sym same) ∙ w.at; spelled = w.spelled }),
    )
step P (PassesOn m call made) old new fits own does_ = goes_with P m call made old new m.flags.more_to_come does_.0.at (own m call made refl) does_.1
step P (Answers m call answer made) old new fits own does_ = λ c is. absurd (none-some c (sym does_.3 ∙ is))

-- a run of acts and further ones
pub split_run : (acts more : List DownAct) (old new : DownSeen) → DownRun old (acts ++ more) new → (mid : DownSeen) × DownRun old acts mid × DownRun mid more new
split_run [] more old new run = (old, refl, run)
split_run (act ∷ acts) more old new run =
    let rest = split_run acts more run.0 new run.2 in
    (rest.0, (run.0, run.1, rest.1), rest.2)

-- what holds of each call that a request is passed on as holds of the call that is awaited
pub fits_on : (P : Message → Awaited → Type 0) (acts : List DownAct) (old new : DownSeen) → Fits P old
    → ((m : Message) (call : Awaited) (made : List LogEntry) → Inside (PassesOn m call made) acts → P m call) → DownRun old acts new → Fits P new
fits_on P [] old new fits all run = subst (Fits P) (sym run) fits
fits_on P (act ∷ acts) old new fits all run =
    fits_on P acts run.0 new (step P act old run.0 fits (λ n c told is. all n c told (inl is)) run.1) (λ n c told j. all n c told (inr j)) run.2

-- what holds of each call that a request is passed on as holds of each call whose reply it gets
pub paired : (P : Message → Awaited → Type 0) (acts : List DownAct) (old new : DownSeen) → Fits P old
    → ((m : Message) (call : Awaited) (made : List LogEntry) → Inside (PassesOn m call made) acts → P m call) → DownRun old acts new
    → (m : Message) (call : Awaited) (answer : Content) (made : List LogEntry) → Inside (Answers m call answer made) acts → P m call
paired P [] old new fits all run m call answer made i = absurd i
paired P (act ∷ acts) old new fits all run m call answer made (inl same) =
    let given = subst (λ (a : DownAct). DownDoes a old run.0) same run.1 in
    (fits call given.0).1 m given.1
paired P (act ∷ acts) old new fits all run m call answer made (inr i) =
    paired P acts run.0 new (step P act old run.0 fits (λ n c told is. all n c told (inl is)) run.1) (λ n c told j. all n c told (inr j)) run.2 m call answer made i
