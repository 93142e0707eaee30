-- What a server takes that is between messages, and that a server takes some bytes.
use Rattle.std.proofs.Common.{◌≡◌, ℕ, zero, suc, ◌<◌, ◌≤◌, List, [], ◌∷◌, ◌++◌, length, take, drop, ap, arith, refl, sym, subst, ◌∙◌, append-nil, length-take, take-append-drop}
use Rattle.std.proofs.Math.Seq.{take-length}
use Rattle.wire_msg.specs.{IsBad, IsOpen, IsWhole, Message, SpellsMsg}
use Rattle.wire_msg.specs.Standing.{bad_header, bad_message}
use Rattle.wire_msg.specs.declared.fault.MsgFault.{MsgFault}
use Rattle.wire_msg.proofs.Lemmas.{bad_longer, bad_not_whole, least_length, msg_are_bytes, one_front, open_not_bad, open_not_whole}
use Rattle.wire_stream.specs.{StandsAt}
use Rattle.wire_stream.specs.declared.reader_state.ReaderState.{ReaderState}
use Rattle.wire_stream.specs.declared.reader_state.ReaderState.TheVariants.{Bad, Need, Ready}
use Rattle.wire_peer.specs.{ServerView, TakesBytes}
use Rattle.wire_peer.specs.Servers.{holding}
use Rattle.wire_serve.specs.Passing.{TakesNext, with_request}
use Rattle.wire_msg.specs.declared.header.TheConstants.{MAX_MESSAGE_LEN}

alone : (m : Message) (bytes : List ℕ) → SpellsMsg m bytes → length bytes ≤ MAX_MESSAGE_LEN → IsWhole MAX_MESSAGE_LEN bytes m []
alone m bytes s le = record { front = bytes; parts = sym (append-nil bytes); spelled = s; within = le }

-- one request may wait
pub room : (s : ServerView) → TakesNext s → length s.waiting < s.window
room s next = omega (arith, ap length next.none_waits, next.window)

-- ---- a whole message

fed_as : (found : ReaderState) (s : ServerView) (msg bytes : List ℕ) (n : ℕ) (m : Message) → s.held ≡ [] → s.waiting ≡ []
    → bytes ≡ take n msg → (found ≡ Need → n ≡ length msg) → StandsAt MAX_MESSAGE_LEN bytes found → SpellsMsg m msg
    → length msg ≤ MAX_MESSAGE_LEN → holding s bytes found ≡ with_request s msg
fed_as Need s msg bytes n m none waits is all stands spelled le =
    let whole : bytes ≡ msg = is ∙ ap (λ (k : ℕ). take k msg) (all refl) ∙ take-length msg in
    absurd (open_not_whole MAX_MESSAGE_LEN msg [] m (subst (IsOpen MAX_MESSAGE_LEN) whole stands) (alone m msg spelled le))
fed_as Ready s msg bytes n m none waits is all stands spelled le =
    let parts : bytes ++ drop n msg ≡ msg ++ [] = ap (λ (b : List ℕ). b ++ drop n msg) is ∙ take-append-drop n msg ∙ sym (append-nil msg) in
    let same = one_front stands.1.0 m bytes msg (drop n msg) [] (msg_are_bytes stands.1.0 bytes stands.1.1) stands.1.1 spelled parts in
    ap (λ (w : List (List ℕ)). record s { held = []; waiting = w ++ bytes ∷ [] }) waits
    ∙ ap (λ (b : List ℕ). record s { held = []; waiting = b ∷ [] }) same.1
    ∙ ap (λ (h : List ℕ). record s { held = h; waiting = msg ∷ [] }) (sym none)
fed_as (Bad f) s msg bytes n m none waits is all stands spelled le =
    let whole : bytes ++ drop n msg ≡ msg = ap (λ (b : List ℕ). b ++ drop n msg) is ∙ take-append-drop n msg in
    let bad : IsBad MAX_MESSAGE_LEN msg f = subst (λ (b : List ℕ). IsBad MAX_MESSAGE_LEN b f) whole (bad_longer MAX_MESSAGE_LEN bytes (drop n msg) f stands) in
    absurd (bad_not_whole MAX_MESSAGE_LEN msg [] m f (msg_are_bytes m msg spelled) bad (alone m msg spelled le))

-- a server between messages that takes some of a whole message takes all of it, and it waits
pub fed_whole : (s s' : ServerView) (msg : List ℕ) (n : ℕ) (m : Message) → TakesNext s → TakesBytes s msg n s' → SpellsMsg m msg
    → length msg ≤ MAX_MESSAGE_LEN → s' ≡ with_request s msg
fed_whole s s' msg n m next t spelled le =
    t.is ∙ fed_as t.found s msg t.bytes n m next.between next.none_waits
    (t.fed.held ∙ ap (λ (h : List ℕ). h ++ take n msg) next.between) t.fed.all
    (subst (λ (l : ℕ). StandsAt l t.bytes t.found) next.limit t.fed.state) spelled le

-- ---- a header

-- bytes that are at fault have a whole header
bad_long : (limit : ℕ) (bytes : List ℕ) (f : MsgFault) → IsBad limit bytes f → 16 ≤ length bytes
bad_long limit bytes f (bad_header le fault) = le
bad_long limit bytes f (bad_message le good within fault) = le

header_as : (found : ReaderState) (limit : ℕ) (part bytes : List ℕ) (k : ℕ) → bytes ≡ take k part → length part ≡ 16 → k ≤ length part
    → (found ≡ Need → k ≡ length part) → StandsAt limit bytes found → k ≡ 16
header_as Need limit part bytes k is whole le all stands = all refl ∙ whole
header_as Ready limit part bytes k is whole le all stands =
    let long : 26 ≤ length bytes = least_length stands.1.0 bytes stands.1.1 in
    omega (arith, long, ap length is, length-take k part, whole)
header_as (Bad f) limit part bytes k is whole le all stands =
    let long : 16 ≤ length bytes = bad_long limit bytes f stands in
    omega (arith, long, ap length is, length-take k part, whole, le)

-- a server between messages that takes some of a header takes all of it
pub fed_header : (s s' : ServerView) (part : List ℕ) (k : ℕ) → s.held ≡ [] → TakesBytes s part k s' → length part ≡ 16
    → TakesBytes s part 16 s'
fed_header s s' part k none t whole =
    let all : k ≡ 16 = header_as t.found s.limit part t.bytes k (t.fed.held ∙ ap (λ (h : List ℕ). h ++ take k part) none) whole t.fed.taken t.fed.all t.fed.state in
    subst (λ (n : ℕ). TakesBytes s part n s') all t

-- ---- some bytes

takes_by : (found : ReaderState) (limit : ℕ) (held piece bytes : List ℕ) (n : ℕ) → StandsAt limit bytes found
    → bytes ≡ held ++ take n piece → IsOpen limit held → (found ≡ Need → n ≡ length piece) → 0 < length piece → 0 < n
takes_by Need limit held piece bytes n stands is opens all some = omega (arith, all refl, some)
takes_by Ready limit held piece bytes zero (le, (m, spelled)) is opens all some =
    absurd (open_not_whole limit bytes [] m (subst (IsOpen limit) (sym (is ∙ append-nil held)) opens)
    (record { front = bytes; parts = sym (append-nil bytes); spelled = spelled; within = le }))
takes_by Ready limit held piece bytes (suc n) stands is opens all some = omega arith
takes_by (Bad f) limit held piece bytes zero stands is opens all some =
    absurd (open_not_bad limit bytes f (subst (IsOpen limit) (sym (is ∙ append-nil held)) opens) stands)
takes_by (Bad f) limit held piece bytes (suc n) stands is opens all some = omega arith

-- an open server takes one byte at least
pub takes_some : (s s' : ServerView) (piece : List ℕ) (n : ℕ) → TakesBytes s piece n s' → IsOpen s.limit s.held
    → 0 < length piece → 0 < n
takes_some s s' piece n t opens some =
    takes_by t.found s.limit s.held piece t.bytes n t.fed.state t.fed.held opens t.fed.all some
