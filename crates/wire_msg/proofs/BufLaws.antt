-- Owned payloads.
use Rattle.std.proofs.Common.{◌≡◌, ℕ, ◌+◌, ◌^◌, ◌<◌, List, [], ◌++◌, length, None, refl, sym, ap, subst, ◌∙◌, arith, length-append}
use Rattle.bson_elem.specs.Trees.{Tree}
use Rattle.bson_elem.specs.Spelling.{Spells}
use Rattle.bson_raw.specs.Pairs.{first_repeated}
use Rattle.bson_raw.specs.Spelled.{IsSpelled}
use Rattle.wire_msg.specs.Messages.{Content}
use Rattle.wire_msg.specs.Spelling.{body_section, sequences_bytes, message_len}
use Rattle.wire_msg.specs.Payload.{AreParts, IsPayload}
use Rattle.wire_msg.specs.Buf.{body_alone}
use Rattle.bson_raw.proofs.Lemmas.{is_document}
use Rattle.wire_msg.proofs.SequenceLaws.{sequences-append}
use Rattle.wire_msg.proofs.SectionLaws.{length-body}

-- the sequences behind the body may stand behind those before it
pub joined_parts : (before body after : List ℕ) (c : Content) → AreParts before body after c → AreParts [] body (before ++ after) c
joined_parts before body after c p = record {
  first = [];
  last = p.first ++ p.last;
  first_are = refl;
  body_is = p.body_is;
  last_are = ap (λ (x : List ℕ). x ++ after) p.first_are ∙ ap (λ (x : List ℕ). sequences_bytes p.first ++ x) p.last_are ∙ sym (sequences-append p.first p.last);
  in_order = p.in_order;
  content = p.content;
  short = p.short;
}

pub parts_spelled : (before body after : List ℕ) → IsPayload before body after → IsSpelled body
parts_spelled before body after (c, p) = (c.body, p.body_is)

pub copied_parts : (before body after b s : List ℕ) (c : Content) → b ≡ body → s ≡ before ++ after → AreParts before body after c → AreParts [] b s c
copied_parts before body after b s c e f p = subst (λ (x : List ℕ). AreParts [] x s c) (sym e) (subst (λ (x : List ℕ). AreParts [] body x c) (sym f) (joined_parts before body after c p))

pub copied_payload : (before body after b s : List ℕ) → b ≡ body → s ≡ before ++ after → IsPayload before body after → IsPayload [] b s
copied_payload before body after b s e f (c, p) = (c, copied_parts before body after b s c e f p)

-- ---- a body alone

pub alone_len : (t : Tree) (d : List ℕ) → Spells t d → message_len (body_alone t) ≡ length d + 21
alone_len t d s = omega (arith, ap length s.parts, length-body t, length-append (body_section t) [])

pub alone_parts : (t : Tree) (d : List ℕ) → Spells t d → first_repeated [] t ≡ None → length d + 21 < 2 ^ 31 → AreParts [] d [] (body_alone t)
alone_parts t d s unique short = record {
  first = [];
  last = [];
  first_are = refl;
  body_is = s;
  last_are = refl;
  in_order = refl;
  content = record { body = is_document t d s; sequences = tt; unique = unique; apart = tt };
  short = omega (arith, short, alone_len t d s);
}

pub alone_payload : (d : List ℕ) → ((t : Tree) → Spells t d → first_repeated [] t ≡ None) → length d + 21 < 2 ^ 31 → IsSpelled d → IsPayload [] d []
alone_payload d unique short (t, s) = (body_alone t, alone_parts t d s (unique t s) short)

pub alone_known : (d b s : List ℕ) → b ≡ d → s ≡ [] → ((t : Tree) → Spells t d → first_repeated [] t ≡ None) → length d + 21 < 2 ^ 31 → IsSpelled d → IsPayload [] b s
alone_known d b s e f unique short known = copied_payload [] d [] b s e f (alone_payload d unique short known)
