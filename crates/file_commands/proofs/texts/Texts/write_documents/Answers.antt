use Rattle.std.proofs.Common.{◌≡◌, ◌∙◌, ◌+◌, ◌<◌, ◌≤◌, Some, Ok, length, refl, sym, subst, ap, arith}
use Rattle.std.specs.Io.KnownBytes.{Appends}
use Rattle.bson_json_read.specs.declared.texts.NextBytes.{NextBytes}
use Rattle.bson_json_read.specs.declared.texts.NextBytes.TheVariants.{AtEnd, Document, Refused as NoBytes}
use Rattle.bson_json_read.specs.{Held, IsOpen}
use Rattle.file_commands.specs.TextPieces.{HaveRead, left_of}
use Rattle.file_commands.proofs.TextPieceLemmas.{GivesNow, other, placed, told, wrote_next}
use Rattle.file_commands.proofs.TextsRead.{refused}
use Rattle.file_commands.proofs.texts.Texts.write_documents.Goals as goal

pub returns-in-Ok-Some-AtEnd-clause-ok : goal.returns-in-Ok-Some-AtEnd-clause-ok
returns-in-Ok-Some-AtEnd-clause-ok g c = λ read start r.
    let h = c.loop-refusal.self.reader in
    let now = c.in-Ok-Some-AtEnd in
    let gives = told (GivesNow c.args.last h c.next_bytes.new.self c.next_bytes.new.out.items) now.field-0 now.field-0-0 AtEnd now.ensures.ok now.field-0-is now.field-0-0-is in
    let ended = now.ensures.ended (ap Ok (now.field-0-is ∙ ap Some now.field-0-0-is)) in
    (λ none. ended.0, h, c.loop-refusal.invariant.2 read start r, λ more may. (gives more may, tt))

pub returns-in-Ok-Some-Refused-clause-ok : goal.returns-in-Ok-Some-Refused-clause-ok
returns-in-Ok-Some-Refused-clause-ok g c = λ read start r.
    let h = c.loop-refusal.self.reader in
    let new = c.next_bytes.new.self in
    let bytes = c.next_bytes.new.out.items in
    let now = c.in-Ok-Some-Refused in
    let gives = told (GivesNow c.args.last h new bytes) now.field-0 now.field-0-0 (NoBytes now.refusal) now.ensures.ok now.field-0-is now.field-0-0-is in
    (λ none. absurd cc, h, c.loop-refusal.invariant.2 read start r, λ more may. ((refl, refused (left_of h more) (left_of new more) bytes now.refusal (gives more may)), tt))

pub returns-in-Ok-None-clause-ok : goal.returns-in-Ok-None-clause-ok
returns-in-Ok-None-clause-ok g c = λ read start r.
    let open_is = c.in-Ok-None.ensures.open (ap Ok c.in-Ok-None.field-0-is) in (
      open_is.0,
      subst (λ (x : Held). IsOpen x.frame x.bytes) (sym open_is.1) open_is.2,
      subst (λ (x : Held). HaveRead c.args.last read c.loop-refusal.self.count x start (g.W.Write.contents c.loop-refusal.out)) (sym open_is.1) (c.loop-refusal.invariant.2 read start r),
    )

pub returns-in-OutOfMemory-clause-memory : goal.returns-in-OutOfMemory-clause-memory
returns-in-OutOfMemory-clause-memory g c = λ read start r same.
    subst (λ (x : Held). HaveRead c.args.last read c.loop-refusal.self.count x start (g.W.Write.contents c.loop-refusal.out)) (sym c.in-Err.ensures.unchanged) (c.loop-refusal.invariant.2 read start r)

pub returns-in_default : goal.returns-in_default
returns-in_default g c =
    let h = c.loop-refusal.self.reader in
    let count = c.loop-refusal.self.count in record {
      fewer = subst (λ (x : Held). count + length x.bytes ≤ c.args.self.now.count + length c.args.self.now.reader.bytes) (sym c.in-Err.ensures.unchanged) c.loop-refusal.invariant.0;
      ok = λ read start r.
          let held = c.loop-refusal.invariant.2 read start r in (
            λ none. absurd cc,
            h,
            held,
            λ more may. (
              other c.in_default.not-OutOfMemory c.in-Err.ensures.err more may,
              placed c.args.last read more count h c.in-Err.fault.place start (g.W.Write.contents c.loop-refusal.out) held c.in-Err.ensures.place,
            ),
          );
      memory = λ read start r same. absurd cc;
      cut = tt;
      unread = λ same. absurd cc;
    }

pub loop-refusal-preserved : goal.loop-refusal-preserved
loop-refusal-preserved g c =
    let h = c.loop-refusal.self.reader in
    let new = c.next_bytes.new.self in
    let bytes = c.next_bytes.new.out.items in
    let now = c.in-Ok-Some-Document in
    let mid = g.W.Write.contents c.loop-refusal.out in
    let after = g.W.Write.contents c.write_bytes.new.out in
    let gives = told (GivesNow c.args.last h new bytes) now.field-0 now.field-0-0 Document now.ensures.ok now.field-0-is now.field-0-0-is in
    let less = told (λ (x : NextBytes). (x ≡ AtEnd → ⊥) → length new.bytes < length h.bytes) now.field-0 now.field-0-0 Document now.ensures.shorter now.field-0-is now.field-0-0-is (λ same. absurd cc) in
    let written = subst (Appends mid after) c.deref.ensures.value c.in_ok-write_bytes.ensures.written in (
      omega (arith, c.loop-refusal.invariant.0, less),
      c.loop-refusal.invariant.1,
      λ read start r.
          wrote_next c.args.last read c.loop-refusal.self.count now.ensures.moved.0 h new bytes start mid after (c.loop-refusal.invariant.2 read start r) now.ensures.moved.1 gives written,
    )
