use Rattle.std.proofs.Common.{List, map}
use Rattle.std.proofs.lemmas.List.{at_drop_all}
use Rattle.wire_world.specs.Records.{record_of}
use Rattle.wire_world.specs.declared.records.CallRecord.{CallRecord}
use Rattle.wire_play.specs.Closing.{call_text, numbered}
use Rattle.wire_play.proofs.Listings.{listed_all, listed_more, none_listed, numbered_more}
use Rattle.wire_play.proofs.closing.write_calls.Goals as goal

pub loop-k-init : goal.loop-k-init
loop-k-init g c = none_listed _ _

pub loop-k-preserved : goal.loop-k-preserved
loop-k-preserved g c =
    listed_more _ _ _ _ _ (call_text c.loop-k.k (record_of c.index-calls-k.result)) _ c.loop-k.invariant (c.in_ok-write_call.ensures)
    (numbered_more record_of call_text c.args.calls.now c.loop-k.k c.index-calls-k.result c.loop-k-test.true c.index-calls-k.is)

pub returns : goal.returns
returns g c =
    listed_all _ _ _ _ c.loop-k.invariant
    (at_drop_all (λ (rs : List CallRecord). numbered call_text c.loop-k.k (map record_of rs)) c.args.calls.now c.loop-k.k c.loop-k-test.false)
