-- Requests of commands, as they are read and answered.
use Rattle.std.proofs.Common.{◌≡◌, ◌∙◌, ◌++◌, ◌≤◌, ℕ, ℤ, FitsSigned, Bool, true, false, List, [], Result, ap, append-nil, arith, of_z, sym, subst, to_z}
use Rattle.std.proofs.lemmas.Int.{to_z-of_z}
use Rattle.std.specs.Int.{w32}
use Rattle.std.specs.Prelude.{OnOk, if◌then◌else◌, not}
use Rattle.bson_elem.specs.{Tree}
use mathlib.Core.Logic.{∥∥₁_elim, ∥∥₁_prop}
use Rattle.wire_msg.specs.{Carries, IsMessage, IsSpelledMsg, Message, SpellsMsg, body_alone, canonical, message_len, msg_bytes}
use Rattle.wire_msg.specs.declared.msg.RawMsg.{RawMsg}
use Rattle.wire_msg.specs.declared.payloads.Payload.{Payload}
use Rattle.wire_peer.specs.{content_of}
use Rattle.wire_peer.proofs.Lemmas.{content_is}
use Rattle.wire_query.specs.{IsQuery, IsSpelledQuery, Query, SpellsQuery, message_of, raw_query_bytes}
use Rattle.wire_query.proofs.Lemmas.{message_spelled}
use Rattle.wire_query.specs.declared.query.RawQuery.{RawQuery}
use Rattle.proxy.specs.declared.fate.Request.TheVariants as requests
use Rattle.proxy.specs.Fates.{Asked, IsAsked, IsRequest, answering, asked_content, by_message, by_query, reply_size, reply_to, wants_reply}
use Rattle.wire_msg.specs.declared.header.TheConstants.{MAX_MESSAGE_LEN}

-- ---- reading

pub message_found : (r : RawMsg) (frame bytes : List ℕ) → bytes ≡ frame → (msg_bytes r ≡ bytes) × IsMessage MAX_MESSAGE_LEN bytes
    → ((a : Asked) × IsAsked frame a × IsRequest (requests.Message r) a)
message_found r frame bytes at found =
    let asked : Asked = by_message found.1.1.0 in
    let is : IsAsked bytes asked = (found.1.0, found.1.1.1) in
    (asked, subst (λ (b : List ℕ). IsAsked b asked) at is, subst (λ (b : List ℕ). IsAsked b asked) (sym found.0) is)

pub query_found : (r : RawQuery) (frame bytes : List ℕ) → bytes ≡ frame → (raw_query_bytes r ≡ bytes) × IsQuery MAX_MESSAGE_LEN bytes
    → ((a : Asked) × IsAsked frame a × IsRequest (requests.Query r) a)
query_found r frame bytes at found =
    let asked : Asked = by_query found.1.1.0 in
    let is : IsAsked bytes asked = (found.1.0, found.1.1.1) in
    (asked, subst (λ (b : List ℕ). IsAsked b asked) at is, subst (λ (b : List ℕ). IsAsked b asked) (sym found.0) is)

-- ---- what rules see

-- these bytes are the message of whatever query the request is
abbrev pub IsMessageOf : RawQuery → List ℕ → Type 0
IsMessageOf r bytes = (q : Query) → SpellsQuery q (raw_query_bytes r) → bytes ≡ canonical (message_of q)

pub query_spelled : (r : RawQuery) (bytes : List ℕ) → ∥ IsSpelledQuery (raw_query_bytes r) ∥₁ → IsMessageOf r bytes → ∥ IsSpelledMsg bytes ∥₁
query_spelled r bytes known written =
    ∥∥₁_elim known ∥∥₁_prop (λ s. ∣ (message_of s.0, subst (SpellsMsg (message_of s.0)) (sym (written s.0 s.1)) (message_spelled s.0 (raw_query_bytes r) s.1).0) ∣₁)

pub content_of_message : (r : RawMsg) (a : Asked) (p : Payload) → IsRequest (requests.Message r) a → ((m : Message) → SpellsMsg m (msg_bytes r) → Carries p m.content)
    → content_of p ≡ asked_content a
content_of_message r (by_message m) p is carries = content_is p m.content (carries m is.1)
content_of_message r (by_query q) p is carries = absurd is

pub content_of_query : (r : RawQuery) (a : Asked) (s : RawMsg) (p : Payload) → IsRequest (requests.Query r) a → IsMessageOf r (msg_bytes s)
    → ((m : Message) → SpellsMsg m (msg_bytes s) → Carries p m.content) → content_of p ≡ asked_content a
content_of_query r (by_message m) s p is written carries = absurd is
content_of_query r (by_query q) s p is written carries =
    content_is p (message_of q).content (carries (message_of q) (subst (SpellsMsg (message_of q)) (sym (written q is.1)) (message_spelled q (raw_query_bytes r) is.1).0))

-- ---- answering

-- what is told of a message is told of the request
abbrev pub IsTold : RawMsg → Bool → Type 0
IsTold r more = (m : Message) → SpellsMsg m (msg_bytes r) → more ≡ m.flags.more_to_come

pub wanted : (r : RawMsg) (a : Asked) (more : Bool) → IsRequest (requests.Message r) a → IsTold r more → not more ≡ wants_reply a
wanted r (by_message m) more is told = ap not (told m is.1)
wanted r (by_query q) more is told = absurd is

pub none_replied : (r : RawMsg) (a : Asked) (more : Bool) (t : Tree) (old : List ℕ) → IsRequest (requests.Message r) a → IsTold r more → more ≡ true → old ≡ old ++ reply_to a t
none_replied r (by_message m) more t old is told so =
    sym (append-nil old) ∙ ap (λ (e : Bool). old ++ (if e then [] else canonical (answering m.id t))) (sym so ∙ told m is.1)
none_replied r (by_query q) more t old is told so = absurd is

pub none_within : (r : RawMsg) (a : Asked) (more : Bool) (t : Tree) → IsRequest (requests.Message r) a → IsTold r more → more ≡ true → reply_size a t ≤ MAX_MESSAGE_LEN
none_within r (by_message m) more t is told so =
    subst (λ (e : Bool). (if e then 0 else message_len (body_alone t)) ≤ MAX_MESSAGE_LEN) (sym so ∙ told m is.1) (omega arith)
none_within r (by_query q) more t is told so = absurd is

pub same_id : (m : Message) (bytes : List ℕ) (id : ℤ) → SpellsMsg m bytes → id ≡ m.id → to_z w32 (of_z w32 id) ≡ m.id
same_id m bytes id spelled is = to_z-of_z w32 id (subst (FitsSigned w32) (sym is) spelled.id) ∙ is

pub replied : {E : Type 0} (r : RawMsg) (a : Asked) (more : Bool) (id : ℤ) (t : Tree) (written : Result (Unit {0}) E) (old new : List ℕ) → IsRequest (requests.Message r) a
    → IsTold r more → more ≡ false → ((m : Message) → SpellsMsg m (msg_bytes r) → id ≡ m.id) → OnOk written (new ≡ old ++ canonical (answering id t)) → OnOk written (new ≡ old ++ reply_to a t)
replied r (by_message m) more id t written old new is told not_so own added =
    subst (λ (e : Bool). OnOk written (new ≡ old ++ (if e then [] else canonical (answering m.id t)))) (sym not_so ∙ told m is.1)
    (subst (λ (i : ℤ). OnOk written (new ≡ old ++ canonical (answering i t))) (own m is.1) added)
replied r (by_query q) more id t written old new is told not_so own added = absurd is

pub replied_within : {E : Type 0} (r : RawMsg) (a : Asked) (more : Bool) (t : Tree) (written : Result (Unit {0}) E) → IsRequest (requests.Message r) a
    → IsTold r more → more ≡ false → OnOk written (message_len (body_alone t) ≤ MAX_MESSAGE_LEN) → OnOk written (reply_size a t ≤ MAX_MESSAGE_LEN)
replied_within r (by_message m) more t written is told not_so fits =
    subst (λ (e : Bool). OnOk written ((if e then 0 else message_len (body_alone t)) ≤ MAX_MESSAGE_LEN)) (sym not_so ∙ told m is.1) fits
replied_within r (by_query q) more t written is told not_so fits = absurd is
