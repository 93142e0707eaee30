use Rattle.std.proofs.Common.{◌≡◌, List, Option, ℕ, refl, sym, subst, true}
use Rattle.std.specs.Prelude.{IfSome}
use Rattle.command_run.specs.declared.run.RunEnd.{RunEnd}
use Rattle.command_run.specs.declared.run.RunEnd.TheVariants.{OutOfMemory, Unread}
use Rattle.command_run.specs.{AppendsText, is_done, is_fault}
use Rattle.file_commands.specs.{AppendsOne, WritesRead}
use Rattle.bsonwire.specs.declared.choice.Command.{Command}
use Rattle.bsonwire.specs.Texts.{AllOf, CommandText, FirstOf}
use Rattle.bsonwire.proofs.StopLemmas.{done_ok, ended_so, written_whole}
use Rattle.bsonwire.proofs.commands.run_over.Goals as goal

-- the whole text of a command was written, if the run is done
abbrev Written : Option (List ℕ) → RunEnd → Option (List ℕ) → Option (List ℕ) → Command → Type 0
Written from end old new command = IfSome from (λ input. is_done end ≡ true → AppendsText (CommandText command input) (is_fault end) old new)

-- the texts of all that was read were written
abbrev All : Option (List ℕ) → Option (List ℕ) → Option (List ℕ) → Option (List ℕ) → Command → Type 0
All from to old new command = WritesRead (AllOf command) from to old new

-- the first few texts were written
abbrev First : Option (List ℕ) → Option (List ℕ) → Option (List ℕ) → Command → Type 0
First from old new command = IfSome from (λ input. AppendsOne (FirstOf command input) old new)

pub returns-in-Bson-clause-read : goal.returns-in-Bson-clause-read
returns-in-Bson-clause-read g c = done_ok c.run_bson.result c.tell_stop.result c.tell_stop.ensures.err c.run_bson.ensures.cut c.run_bson.ensures.read

pub returns-in-Bson-clause-written : goal.returns-in-Bson-clause-written
returns-in-Bson-clause-written g c =
    let from = g.R.Read.remaining c.args.reader.now in
    let old = g.W.Write.contents c.args.writer.now in
    let new = g.W.Write.contents c.run_bson.new.writer in
    let end = c.tell_stop.result in
    subst (Written from end old new) (sym c.in-Bson.is)
    (written_whole from old new c.run_bson.result end c.tell_stop.ensures.ok c.tell_stop.ensures.err c.run_bson.ensures.cut c.run_bson.ensures.written)

pub returns-in-Bson-clause-unread : goal.returns-in-Bson-clause-unread
returns-in-Bson-clause-unread g c = λ is first.
    subst (All (g.R.Read.remaining c.args.reader.now) (g.R.Read.remaining c.run_bson.new.reader) (g.W.Write.contents c.args.writer.now) (g.W.Write.contents c.run_bson.new.writer)) (sym c.in-Bson.is)
    (c.run_bson.ensures.unread (ended_so c.run_bson.result c.tell_stop.result Unread c.tell_stop.ensures.ok c.tell_stop.ensures.err refl is))

pub returns-in-Bson-clause-first : goal.returns-in-Bson-clause-first
returns-in-Bson-clause-first g c = λ is first.
    subst (First (g.R.Read.remaining c.args.reader.now) (g.W.Write.contents c.args.writer.now) (g.W.Write.contents c.run_bson.new.writer)) (sym c.in-Bson.is)
    (c.run_bson.ensures.memory (ended_so c.run_bson.result c.tell_stop.result OutOfMemory c.tell_stop.ensures.ok c.tell_stop.ensures.err refl is))

pub returns-in-Json-clause-written : goal.returns-in-Json-clause-written
returns-in-Json-clause-written g c =
    subst (Written (g.R.Read.remaining c.args.reader.now) c.run_json.result (g.W.Write.contents c.args.writer.now) (g.W.Write.contents c.run_json.new.writer)) (sym c.in-Json.is) c.run_json.ensures.written

pub returns-in-Msg-clause-written : goal.returns-in-Msg-clause-written
returns-in-Msg-clause-written g c =
    subst (Written (g.R.Read.remaining c.args.reader.now) c.run_msg.result (g.W.Write.contents c.args.writer.now) (g.W.Write.contents c.run_msg.new.writer)) (sym c.in-Msg.is) c.run_msg.ensures.written

pub returns-in-Any-clause-written : goal.returns-in-Any-clause-written
returns-in-Any-clause-written g c =
    subst (Written (g.R.Read.remaining c.args.reader.now) c.run_any.result (g.W.Write.contents c.args.writer.now) (g.W.Write.contents c.run_any.new.writer)) (sym c.in-Any.is) c.run_any.ensures.written
