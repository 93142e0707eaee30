-- A framed message whose parts were checked.
use Rattle.std.proofs.Common.{◌≡◌, ℕ, ◌+◌, ◌-◌, ◌^◌, ◌<◌, ◌≤◌, List, ◌++◌, length, take, drop, Result, Ok, Err, None, Some, refl, sym, ap, ◌∙◌, append_assoc, arith, length-append, Fits}
use Rattle.std.specs.Prelude.{slice_range, MatchResult}
use Rattle.std.specs.Int.{w32, cast_signed}
use Rattle.std.proofs.Math.Facts.{sfits_to_z}
use Rattle.std.proofs.lemmas.List.{take_at, drop_at, drop-drop}
use Rattle.bson_elem.specs.Spelling.{IsBytes}
use Rattle.wire_msg.specs.declared.fault.MsgFault.{MsgFault}
use Rattle.wire_msg.specs.declared.flags.MsgFlags.{MsgFlags}
use Rattle.wire_msg.specs.Header.{number_at}
use Rattle.wire_msg.specs.Messages.{Content, Message, IsContent}
use Rattle.wire_msg.specs.Spelling.{body_section, sequences_bytes, sections_bytes, FlagsAre, SpellsMsg, IsMessage}
use Rattle.wire_msg.specs.Faults.{names_fault, flags_fault, of_names, IsFramedMsg, PartsFault, of_sections}
use Rattle.wire_msg.specs.Checks.{HasSequences, HasSections, HasParts}
use Rattle.bson_raw.proofs.Lemmas.{is_document}
use Rattle.wire_msg.proofs.SequenceLaws.{AreSequences-append}
use Rattle.wire_msg.proofs.SectionLaws.{length-body}
use Rattle.wire_msg.proofs.NameLaws.{no_names_fault}
use Rattle.wire_msg.proofs.FrameLaws.{framed_parts, number_fits}
use Rattle.wire_msg.specs.declared.header.TheConstants.{MAX_MESSAGE_LEN}

pub short_msg : (limit : ℕ) (bytes : List ℕ) → limit ≤ MAX_MESSAGE_LEN → IsFramedMsg limit bytes → length bytes < 2 ^ 31
short_msg limit bytes le framed = omega (arith, framed.whole, framed.good.most)

pub msg_found : (limit : ℕ) (bytes : List ℕ) (flags : MsgFlags) (at next : ℕ) (d : List ℕ) → IsBytes bytes → length bytes < 2 ^ 31 → IsFramedMsg limit bytes → 20 ≤ length bytes → FlagsAre (number_at bytes 16) flags → (s : HasSections bytes at d next) → names_fault s.before s.body s.after ≡ None → IsMessage limit bytes
msg_found limit bytes flags at next d fits short framed room flags_are s names =
    let n = no_names_fault s.before s.body s.after names in
    let c : Content = record { body = s.body; sequences = s.before ++ s.after } in
    let m : Message = record { id = cast_signed w32 (number_at bytes 4); response_to = cast_signed w32 (number_at bytes 8); flags = flags; content = c } in
    let is : IsContent c = record { body = is_document s.body d s.spelled; sequences = AreSequences-append s.before s.after s.before_fit s.after_fit; unique = n.0; apart = n.1 } in
    let id_fits : Fits w32 (number_at bytes 4) = record { fits = number_fits bytes 4 fits } in
    let to_fits : Fits w32 (number_at bytes 8) = record { fits = number_fits bytes 8 fits } in
    let spelled : SpellsMsg m bytes = record {
      word = number_at bytes 16;
      before = s.before;
      after = s.after;
      parts = framed_parts limit bytes (sections_bytes s.before s.body s.after) fits framed room s.parts;
      short = short;
      id = sfits_to_z id_fits;
      response_to = sfits_to_z to_fits;
      flags = flags_are;
      in_order = refl;
      content = is;
    } in
    (omega (arith, framed.whole, framed.good.most), (m, spelled))

-- ---- the parts of split sections

pub before_are : (bytes : List ℕ) (at next : ℕ) (d : List ℕ) → (s : HasSections bytes at d next) → slice_range bytes 20 at ≡ sequences_bytes s.before
before_are bytes at next d s =
    let n : at - 20 ≡ length (sequences_bytes s.before) = omega (arith, s.at_is) in
    ap (λ (k : ℕ). take k (drop 20 bytes)) n ∙ ap (take (length (sequences_bytes s.before))) s.parts ∙ take_at (sequences_bytes s.before) (body_section s.body ++ sequences_bytes s.after) (length (sequences_bytes s.before)) refl

pub after_are : (bytes : List ℕ) (at next : ℕ) (d : List ℕ) → (s : HasSections bytes at d next) → drop next bytes ≡ sequences_bytes s.after
after_are bytes at next d s =
    let front : List ℕ = sequences_bytes s.before ++ body_section s.body in
    let n : length front ≡ next - 20 = omega (arith, s.at_is, s.next_is, ap length s.spelled.parts, length-body s.body, length-append (sequences_bytes s.before) (body_section s.body)) in
    let back : next ≡ 20 + (next - 20) = omega (arith, s.at_is, s.next_is) in
    let parts : drop 20 bytes ≡ front ++ sequences_bytes s.after = s.parts ∙ sym (append_assoc (sequences_bytes s.before) (body_section s.body) (sequences_bytes s.after)) in
    ap (λ (k : ℕ). drop k bytes) back ∙ sym (drop-drop (next - 20) 20 bytes) ∙ ap (drop (next - 20)) parts ∙ drop_at front (sequences_bytes s.after) (next - 20) n

pub before_known : (bytes : List ℕ) (at next : ℕ) (d : List ℕ) → HasSections bytes at d next → HasSequences (slice_range bytes 20 at)
before_known bytes at next d s = (s.before, s.before_fit, before_are bytes at next d s)

pub after_known : (bytes : List ℕ) (at next : ℕ) (d : List ℕ) → HasSections bytes at d next → HasSequences (drop next bytes)
after_known bytes at next d s = (s.after, s.after_fit, after_are bytes at next d s)

-- the search for names decides last
pub decided : {A B : Type 0} (r : Result A B) (P : Type 0) (Q : B → Type 0) (G : Type 0) (F : B → Type 0) → (P → G) → ((f : B) → Q f → F f) → MatchResult r (λ _. P) (λ f. Q f) → MatchResult r (λ _. G) (λ f. F f)
decided (Ok x) P Q G F good bad m = good m
decided (Err f) P Q G F good bad m = bad f m

pub names_fail : (bytes : List ℕ) (at next : ℕ) (d : List ℕ) (f : MsgFault) → 20 ≤ length bytes → flags_fault (number_at bytes 16) ≡ None → (s : HasSections bytes at d next) → names_fault s.before s.body s.after ≡ Some f → PartsFault bytes f
names_fail bytes at next d f room flags s names = of_sections room flags (of_names s.before s.body s.after s.parts s.before_fit (is_document s.body d s.spelled) s.after_fit names)

pub named : (bytes : List ℕ) (at next : ℕ) (d : List ℕ) (r : Result (Unit {0}) MsgFault) → IsBytes bytes → length bytes < 2 ^ 31 → (s : HasParts bytes at d next)
    → MatchResult r (λ _. names_fault s.sections.before s.sections.body s.sections.after ≡ None) (λ f. names_fault s.sections.before s.sections.body s.sections.after ≡ Some f)
    → MatchResult r (λ _. (limit : ℕ) → IsFramedMsg limit bytes → IsMessage limit bytes) (λ f. PartsFault bytes f)
named bytes at next d r fits short s names =
    decided r (names_fault s.sections.before s.sections.body s.sections.after ≡ None) (λ (f : MsgFault). names_fault s.sections.before s.sections.body s.sections.after ≡ Some f) ((limit : ℕ) → IsFramedMsg limit bytes → IsMessage limit bytes) (λ (f : MsgFault). PartsFault bytes f)
    (λ none limit framed. msg_found limit bytes s.flags at next d fits short framed s.room s.flags_are s.sections none)
    (λ f found. names_fail bytes at next d f s.room s.faultless s.sections found)
    names
