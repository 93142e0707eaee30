use Rattle.std.proofs.Common.{◌+◌, ◌∙◌, List, ℕ, ap, drop, inl, inr, sym, take}
use Rattle.bson_json_read.specs.Pieces.{Held}
use Rattle.bson_json_read.specs.Sequences.{utf8_read}
use Rattle.bson_json_read.proofs.HeldLemmas.{fails, gives, text_slice}
use Rattle.bson_json_read.proofs.text_reader.TextReader.write_whole.Goals as goal

pub returns-in-None-clause-ok : goal.returns-in-None-clause-ok
returns-in-None-clause-ok c = λ last ends more may.
    let i = c.self.inside in
    let text_is = text_slice i.bytes.items c.args.self.now.bytes i.at c.args.begun.passed (ap (λ (h : Held). h.bytes) (sym c.self.view_is)) in
    let left = c.pass.ensures.moved.bytes ∙ ap (λ (h : Held). drop (c.args.begun.passed + c.args.len) h.bytes) c.self.view_is in
    let ok = rw c.deref.ensures.value at (rw c.in-None.is at c.in-Ok.ensures.ok) in
    let read = ap (λ (t : List ℕ). utf8_read (take c.args.len t)) (sym text_is) ∙ ok.1 in
    (ok.0, gives c.args.self.now.frame c.args.self.now.bytes c.args.begun last c.args.len ok.0 c.pass.new.self c.requires.begun ends read c.pass.ensures.frame left more may, ok.2)

pub returns-in-Some-clause-ok : goal.returns-in-Some-clause-ok
returns-in-Some-clause-ok c = λ last ends more may.
    let i = c.self.inside in
    let text_is = text_slice i.bytes.items c.args.self.now.bytes i.at c.args.begun.passed (ap (λ (h : Held). h.bytes) (sym c.self.view_is)) in
    let left = c.pass.ensures.moved.bytes ∙ ap (λ (h : Held). drop (c.args.begun.passed + c.args.len) h.bytes) c.self.view_is in
    let ok = rw c.deref.ensures.value at (rw c.in-Some.is at c.in-Ok.ensures.ok) in
    let read = ap (λ (t : List ℕ). utf8_read (take c.args.len t)) (sym text_is) ∙ ok.1 in
    (ok.0, gives c.args.self.now.frame c.args.self.now.bytes c.args.begun last c.args.len ok.0 c.pass.new.self c.requires.begun ends read c.pass.ensures.frame left more may, ok.2)

pub returns-in-Err-clause-err : goal.returns-in-Err-clause-err
returns-in-Err-clause-err c =
    let i = c.self.inside in
    let text_is = text_slice i.bytes.items c.args.self.now.bytes i.at c.args.begun.passed (ap (λ (h : Held). h.bytes) (sym c.self.view_is)) in
    elim (rw c.deref.ensures.value at c.in-Err.ensures.err) [
      | inl memory ↦ inl (c.fault.ensures.cause ∙ memory)
      | inr read ↦
          inr (λ last ends more may.
          rw c.fault.ensures.cause (fails c.args.self.now.frame c.args.self.now.bytes c.args.begun last c.args.len c.in-Err.fault.cause read.0 c.requires.begun ends
          (ap (λ (t : List ℕ). utf8_read (take c.args.len t)) (sym text_is) ∙ read.1) more may))
    ]
