-- The calls of a link while a connection is served: at each one, all that had come was answered.
use Rattle.std.proofs.Common.{ℕ, List, [], ◌∷◌, ◌++◌, Option, ap, append-nil, append_assoc, subst, sym, ◌∙◌}
use Rattle.std.specs.Io.KnownBytes.{Appends}
use Rattle.std.proofs.KnownBytes.{Appends-kept, Appends-trans}
use Rattle.wire_msg.specs.{AreSpelled, Message}
use Rattle.wire_msg.proofs.Lemmas.{open_ends}
use Rattle.wire_peer.specs.{LogEntry}
use Rattle.wire_stream.specs.{Turn}
use Rattle.wire_end.specs.Turns.{AreBetween}
use Rattle.wire_end.specs.Serving.{AllSent, AreInTurn}

-- those before a point, and those behind it
pub in_turn_append : (limit : ℕ) (r s : Option (List ℕ)) (ms : List Message) (es : List LogEntry) (ts us : List Turn) → AreInTurn limit r s ms es ts → AreInTurn limit r s ms es us → AreInTurn limit r s ms es (ts ++ us)
in_turn_append limit r s ms es [] us a b = b
in_turn_append limit r s ms es (t ∷ ts) us a b = (a.0, in_turn_append limit r s ms es ts us a.1 b)

-- one more message was answered
pub in_turn_more : (limit : ℕ) (r s : Option (List ℕ)) (ms : List Message) (es : List LogEntry) (m : Message) (e : LogEntry) (ts : List Turn) → AreInTurn limit r s ms es ts → AreInTurn limit r s (ms ++ m ∷ []) (es ++ e ∷ []) ts
in_turn_more limit r s ms es m e [] a = tt
in_turn_more limit r s ms es m e (t ∷ ts) a =
    let x = a.0 in (
      record {
        got = x.got;
        gave = x.gave;
        early = x.early;
        late = x.late ++ m ∷ [];
        past = x.past;
        after = x.after ++ e ∷ [];
        rest = x.rest;
        received = x.received;
        sent = x.sent;
        messages = ap (λ (q : List Message). q ++ m ∷ []) x.messages ∙ append_assoc x.early x.late (m ∷ []);
        entries = ap (λ (q : List LogEntry). q ++ e ∷ []) x.entries ∙ append_assoc x.past x.after (e ∷ []);
        split = x.split;
        all = x.all;
      },
      in_turn_more limit r s ms es m e ts a.1,
    )

-- while the next message comes, all messages before it are answered, and all replies to them sent
pub between_in_turn : (limit : ℕ) (r0 ra s0 sa : Option (List ℕ)) (ms : List Message) (es : List LogEntry) (joined held gave : List ℕ) (ts : List Turn)
    → Appends r0 ra (joined ++ held) → Appends s0 sa gave → AreSpelled limit ms joined → AllSent ms es gave → AreBetween limit ra sa held ts → AreInTurn limit r0 s0 ms es ts
between_in_turn limit r0 ra s0 sa ms es joined held gave [] came went spelled all b = tt
between_in_turn limit r0 ra s0 sa ms es joined held gave (t ∷ ts) came went spelled all b =
    let more = b.1.0 in (
      record {
        got = joined ++ (held ++ more);
        gave = gave;
        early = ms;
        late = [];
        past = es;
        after = [];
        rest = held ++ more;
        received = subst (Appends r0 t.received) (append_assoc joined held more) (Appends-trans r0 ra t.received (joined ++ held) more came b.1.1);
        sent = Appends-kept s0 sa t.sent gave went b.0;
        messages = sym (append-nil ms);
        entries = sym (append-nil es);
        split = open_ends limit ms joined (held ++ more) spelled b.1.2;
        all = all;
      },
      between_in_turn limit r0 ra s0 sa ms es joined held gave ts came went spelled all b.2,
    )
