use Rattle.std.proofs.Common.{List, ℕ, arith, refl, sym, subst, ◌∙◌}
use Rattle.wire_msg.specs.Spelling.{SpellsMsg}
use Rattle.wire_msg.proofs.Lemmas.{length-spelled}
use Rattle.byte_views.specs.Writing.{no_content, no_flags, no_memory}
use Rattle.byte_views.proofs.ContentWriting.{written_is_put}
use Rattle.byte_views.proofs.write.write_message.Goals as goal

pub returns-in_default-clause-written : goal.returns-in_default-clause-written
returns-in_default-clause-written c = λ small. no_flags (sym c.flags_of.ensures ∙ c.in_default.is) c.by_number-in_default.ensures refl

pub returns-in-Err-clause-written : goal.returns-in-Err-clause-written
returns-in-Err-clause-written c = λ small. no_content c.in-Some.flags c.in-Err.refusal (sym c.flags_of.ensures ∙ c.in-Some.is) c.in-Err.ensures.refused c.of_refusal.ensures refl

pub returns-in-Some-with_numbers-clause-written : goal.returns-in-Some-with_numbers-clause-written
returns-in-Some-with_numbers-clause-written c = λ small.
    written_is_put c.args.numbers.now c.in-Some.flags c.args.limit c.args.body.now c.args.sequences.now c.in-Ok.message.items c.in-Some-with_numbers.written.items c.deref-in-Some-with_numbers.result.now
    c.args.room.now c.put.new.room c.put.result c.of_put.result (sym c.flags_of.ensures ∙ c.in-Some.is) c.in-Ok.ensures.spelled c.in-Ok.ensures.content
    (λ m s. c.in-Some-with_numbers.ensures m (subst (λ (x : List ℕ). SpellsMsg m x) (sym c.deref.ensures.value) s)) c.deref-in-Some-with_numbers.ensures.value c.put.ensures c.of_put.ensures

pub returns-clause-written : goal.returns-clause-written
returns-clause-written c = λ small.
    let m = c.in-Ok.ensures.spelled.1.0 in let s = c.in-Ok.ensures.spelled.1.1 in
    no_memory c.in-Some.flags m.content (sym c.flags_of.ensures ∙ c.in-Some.is) (c.in-Ok.ensures.content m s) (omega (arith, length-spelled m c.in-Ok.message.items s, c.in-Ok.ensures.spelled.0)) c.by_number-in-None.ensures refl
