use Rattle.std.proofs.Common.{◌≡◌, ℕ, List, take, drop, sym, ap, subst, ◌∙◌, arith, Result, Ok, Err}
use Rattle.std.specs.Prelude.{slice_range, MatchResult}
use Rattle.std.specs.Int.{w32, from_le_bytes}
use Rattle.std.proofs.lemmas.List.{take-take}
use Rattle.std.proofs.lemmas.Result.{err_from_is_err_and}
use Rattle.wire_msg.specs.Header.{number_at}
use Rattle.wire_msg.specs.Spelling.{FlagsAre}
use Rattle.bson_raw.specs.RawDocument.{document_bytes}
use Rattle.wire_msg.specs.Checks.{HasSections, HasParts}
use Rattle.wire_msg.specs.Faults.{SectionsFault, PartsFault, no_flags, of_flags, of_sections, flags_fault}
use Rattle.wire_msg.proofs.msg.split_message.Goals as goal

-- the four bytes of flags
word_is : (bytes : List ℕ) (word : ℕ) → word ≡ from_le_bytes w32 (take 4 (slice_range bytes 16 20)) → word ≡ number_at bytes 16
word_is bytes word e = e ∙ ap (from_le_bytes w32) (take-take 4 4 (drop 16 bytes) (omega arith))

pub returns-then-bytes-lt-SECTIONS : goal.returns-then-bytes-lt-SECTIONS
returns-then-bytes-lt-SECTIONS c = no_flags (omega arith) c.fault_at.ensures

pub returns-in_err-read : goal.returns-in_err-read
returns-in_err-read c =
    let p = err_from_is_err_and c.from_residual.result c.from_residual.ensures.1 in
    let w = word_is c.args.bytes.now c.little_u32.result c.little_u32.ensures in
    rw (p.1, p.2) (of_flags c.if-bytes-lt-SECTIONS.false (ap flags_fault (sym w) ∙ c.in_err-read.ensures.read))

pub split_sections-requires : goal.split_sections-requires
split_sections-requires c = record { short = c.requires; inside = c.if-bytes-lt-SECTIONS.false }

each : {A B : Type 0} (r : Result A B) (P G : A → Type 0) (Q F : B → Type 0) → ((x : A) → P x → G x) → ((f : B) → Q f → F f) → MatchResult r P Q → MatchResult r G F
each (Ok x) P G Q F good bad m = good x m
each (Err f) P G Q F good bad m = bad f m

pub returns : goal.returns
returns c =
    let bytes = c.args.bytes.now in
    let room = c.if-bytes-lt-SECTIONS.false in
    let w = word_is bytes c.little_u32.result c.little_u32.ensures in
    let faultless = ap flags_fault (sym w) ∙ c.in_ok-read.ensures.none in
    let flags_are = subst (λ (n : ℕ). FlagsAre n c.in_ok-read.field-0) w c.in_ok-read.ensures.read in
    each c.split_sections.result (λ x. HasSections bytes x.0 (document_bytes x.1) x.2) (λ x. HasParts bytes x.0 (document_bytes x.1) x.2) (λ f. SectionsFault (drop 20 bytes) f) (λ f. PartsFault bytes f)
    (λ x sections. record { room = room; flags = c.in_ok-read.field-0; flags_are = flags_are; faultless = faultless; sections = sections })
    (λ f fault. of_sections room faultless fault)
    c.split_sections.ensures
