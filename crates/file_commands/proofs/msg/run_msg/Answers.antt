use Rattle.std.proofs.Common.{◌≡◌, subst, true}
use Rattle.std.specs.Prelude.{IfSome}
use Rattle.command_run.specs.{AppendsText, is_done, is_fault}
use Rattle.file_commands.specs.declared.record_text.RecordForm.{RecordForm}
use Rattle.command_run.specs.declared.run.RunEnd.TheVariants.{OutOfMemory, Unread}
use Rattle.file_commands.specs.Msg.{AllMessages, FirstMessages, MsgText}
use Rattle.file_commands.specs.OrRecords.{AllOrRecords, FirstOrRecords, TextOrRecords}
use Rattle.file_commands.specs.Output.{AppendsOne, IsAllOf, IsFirstOf, IsOutput, WritesRead}
use Rattle.file_commands.proofs.WaitLemmas.{messages_wait}
use Rattle.file_commands.proofs.msg.run_msg.Goals as goal

pub invariant_of-walk : goal.invariant_of-walk
invariant_of-walk g c = record { waits = messages_wait c.args.form }

pub returns-clause-written : goal.returns-clause-written
returns-clause-written g c =
    let end = c.run_walk.result in
    let old = g.W.Write.contents c.args.writer.now in
    let new = g.W.Write.contents c.run_walk.new.writer in
    subst (λ (f : RecordForm). IfSome (g.R.Read.remaining c.args.reader.now) (λ input. is_done end ≡ true → AppendsText (IsOutput (TextOrRecords f (MsgText c.args.form)) c.args.hex input) (is_fault end) old new))
    c.of_records.ensures c.run_walk.ensures.written

pub returns-clause-unread : goal.returns-clause-unread
returns-clause-unread g c =
    let from = g.R.Read.remaining c.args.reader.now in
    let to = g.R.Read.remaining c.run_walk.new.reader in
    let old = g.W.Write.contents c.args.writer.now in
    let new = g.W.Write.contents c.run_walk.new.writer in
    subst (λ (f : RecordForm). c.run_walk.result ≡ Unread → WritesRead (IsAllOf (AllOrRecords f (AllMessages c.args.form)) c.args.hex) from to old new)
    c.of_records.ensures c.run_walk.ensures.unread

pub returns-clause-memory : goal.returns-clause-memory
returns-clause-memory g c =
    let from = g.R.Read.remaining c.args.reader.now in
    let old = g.W.Write.contents c.args.writer.now in
    let new = g.W.Write.contents c.run_walk.new.writer in
    subst (λ (f : RecordForm). c.run_walk.result ≡ OutOfMemory → IfSome from (λ input. AppendsOne (IsFirstOf (FirstOrRecords f (FirstMessages c.args.form)) c.args.hex input) old new)) c.of_records.ensures c.run_walk.ensures.memory
