use Rattle.std.proofs.Common.{List, map}
use Rattle.std.proofs.lemmas.List.{at_drop_all}
use Rattle.wire_peer.specs.{entry_of}
use Rattle.wire_peer.specs.declared.log.Entry.{Entry}
use Rattle.wire_play.specs.Closing.{entry_line, numbered}
use Rattle.wire_play.proofs.Listings.{listed_all, listed_more, none_listed, numbered_more}
use Rattle.wire_play.proofs.closing.write_entries.Goals as goal

pub loop-e-init : goal.loop-e-init
loop-e-init g c = none_listed _ _

pub loop-e-preserved : goal.loop-e-preserved
loop-e-preserved g c =
    listed_more _ _ _ _ _ (entry_line c.loop-e.e (entry_of c.index-entries-e.result)) _ c.loop-e.invariant (c.in_ok-write_entry.ensures)
    (numbered_more entry_of entry_line c.args.entries.now c.loop-e.e c.index-entries-e.result c.loop-e-test.true c.index-entries-e.is)

pub returns : goal.returns
returns g c =
    listed_all _ _ _ _ c.loop-e.invariant
    (at_drop_all (λ (es : List Entry). numbered entry_line c.loop-e.e (map entry_of es)) c.args.entries.now c.loop-e.e c.loop-e-test.false)
