use Rattle.std.proofs.Common.{◌∙◌, [], ap, refl, subst}
use Rattle.std.proofs.KnownBytes.{Keeps-refl, Keeps-trans}
use Rattle.bson_elem.specs.{IsBytes}
use Rattle.wire_stream.proofs.Lemmas.{AddsTurns-nil}
use Rattle.wire_stream.specs.{CompletesHeader, Rose}
use Rattle.wire_stream.specs.declared.reader_state.ReaderState.TheVariants.{Bad, Need, Ready}
use Rattle.wire_end.specs.ServerEnds.{parts}
use Rattle.wire_end.proofs.Gathering.{comes_bad, comes_cut, comes_end, comes_refused, comes_whole, fed_on, gathers_came, gathers_fed, gathers_none, left_bytes, turned}
use Rattle.wire_end.proofs.ServerFeeds.{fed_here}
use Rattle.wire_end.proofs.requesting.receive_request.Goals as goal

pub loop-server-init : goal.loop-server-init
loop-server-init g c =
    let L = g.L.Link in
    record {
      gathers = gathers_none L.sent L.received c.args.server.now c.args.link.now c.args.inlet.now c.requires.open;
      sent = Keeps-refl _;
      turns = ([], AddsTurns-nil _, tt);
      works = refl;
      told = refl;
      waits = refl;
    }

-- ---- the calls of the link

pub returns-in-Ok-Later-clause-turns : goal.returns-in-Ok-Later-clause-turns
returns-in-Ok-Later-clause-turns g c =
    let L = g.L.Link in
    let i = c.loop-server.invariant in
    turned L.sent L.received L.turns (parts c.args.server.now c.args.link.now c.args.inlet.now) (parts c.loop-server.server c.loop-server.link c.loop-server.inlet)
    c.pull.new.link i.gathers i.sent i.turns (λ some. ap L.turns (c.pull.ensures.held some).2) c.pull.ensures.turn

pub returns-in-Ok-End-clause-turns : goal.returns-in-Ok-End-clause-turns
returns-in-Ok-End-clause-turns g c =
    let L = g.L.Link in
    let i = c.loop-server.invariant in
    turned L.sent L.received L.turns (parts c.args.server.now c.args.link.now c.args.inlet.now) (parts c.loop-server.server c.loop-server.link c.loop-server.inlet)
    c.pull.new.link i.gathers i.sent i.turns (λ some. ap L.turns (c.pull.ensures.held some).2) c.pull.ensures.turn

pub returns-in-Err-clause-turns : goal.returns-in-Err-clause-turns
returns-in-Err-clause-turns g c =
    let L = g.L.Link in
    let i = c.loop-server.invariant in
    turned L.sent L.received L.turns (parts c.args.server.now c.args.link.now c.args.inlet.now) (parts c.loop-server.server c.loop-server.link c.loop-server.inlet)
    c.pull.new.link i.gathers i.sent i.turns (λ some. ap L.turns (c.pull.ensures.held some).2) c.pull.ensures.turn

pub returns-in_default-clause-turns : goal.returns-in_default-clause-turns
returns-in_default-clause-turns g c =
    let L = g.L.Link in
    let i = c.loop-server.invariant in
    turned L.sent L.received L.turns (parts c.args.server.now c.args.link.now c.args.inlet.now) (parts c.loop-server.server c.loop-server.link c.loop-server.inlet)
    c.pull.new.link i.gathers i.sent i.turns (λ some. ap L.turns (c.pull.ensures.held some).2) c.pull.ensures.turn

pub returns-in-Ready-clause-turns : goal.returns-in-Ready-clause-turns
returns-in-Ready-clause-turns g c =
    let L = g.L.Link in
    let i = c.loop-server.invariant in
    turned L.sent L.received L.turns (parts c.args.server.now c.args.link.now c.args.inlet.now) (parts c.loop-server.server c.loop-server.link c.loop-server.inlet)
    c.pull.new.link i.gathers i.sent i.turns (λ some. ap L.turns (c.pull.ensures.held some).2) c.pull.ensures.turn

pub returns-in-Bad-clause-turns : goal.returns-in-Bad-clause-turns
returns-in-Bad-clause-turns g c =
    let L = g.L.Link in
    let i = c.loop-server.invariant in
    turned L.sent L.received L.turns (parts c.args.server.now c.args.link.now c.args.inlet.now) (parts c.loop-server.server c.loop-server.link c.loop-server.inlet)
    c.pull.new.link i.gathers i.sent i.turns (λ some. ap L.turns (c.pull.ensures.held some).2) c.pull.ensures.turn

-- ---- what came of it

pub returns-in-Ok-End-clause-comes : goal.returns-in-Ok-End-clause-comes
returns-in-Ok-End-clause-comes g c =
    let L = g.L.Link in
    let i = c.loop-server.invariant in
    let p = c.pull.ensures in
    let old = parts c.args.server.now c.args.link.now c.args.inlet.now in
    let came = gathers_came L.sent L.received old (parts c.loop-server.server c.loop-server.link c.loop-server.inlet) c.pull.new.link c.pull.new.self p.received.0 i.gathers p.sent p.received.1 p.received.2 in
    let found = rw c.in-Ok-End.field-0-is at c.in-Ok-End.ensures.found in
    comes_end L.sent L.received L.ends old c.loop-server.server c.end.new.server c.pull.new.link c.pull.new.self c.end.result c.requires.more came found.0
    c.end.ensures.ended c.end.ensures.closed (subst (λ n. Rose n (L.ends c.pull.new.link)) i.told found.1)

pub returns-in-Err-clause-comes : goal.returns-in-Err-clause-comes
returns-in-Err-clause-comes g c =
    let L = g.L.Link in
    let i = c.loop-server.invariant in
    let p = c.pull.ensures in
    let old = parts c.args.server.now c.args.link.now c.args.inlet.now in
    let came = gathers_came L.sent L.received old (parts c.loop-server.server c.loop-server.link c.loop-server.inlet) c.pull.new.link c.pull.new.self p.received.0 i.gathers p.sent p.received.1 p.received.2 in
    comes_cut L.sent L.received L.ends c.in-Err.fault old (parts c.loop-server.server c.pull.new.link c.pull.new.self) c.requires.more came
    (c.in-Err.ensures.found ∙ i.told)

pub returns-in_default-clause-comes : goal.returns-in_default-clause-comes
returns-in_default-clause-comes g c =
    let L = g.L.Link in
    let i = c.loop-server.invariant in
    let p = c.pull.ensures in
    let old = parts c.args.server.now c.args.link.now c.args.inlet.now in
    let s = c.loop-server.server in
    let came = gathers_came L.sent L.received old (parts s c.loop-server.link c.loop-server.inlet) c.pull.new.link c.pull.new.self p.received.0 i.gathers p.sent p.received.1 p.received.2 in
    let found = rw c.in-Ok-Bytes.field-0-is at c.in-Ok-Bytes.ensures.found in
    comes_refused L.sent L.received L.ends old s c.feed.new.server c.pull.new.link c.pull.new.self c.requires.more came c.in_default.ensures.unchanged
    (subst (λ piece. CompletesHeader s.limit s.held piece) c.bytes.ensures.bytes c.in_default.ensures.refused) (found.1 ∙ i.told)

pub loop-server-preserved : goal.loop-server-preserved
loop-server-preserved g c =
    let L = g.L.Link in
    let i = c.loop-server.invariant in
    let p = c.pull.ensures in
    let old = parts c.args.server.now c.args.link.now c.args.inlet.now in
    let s = c.loop-server.server in
    let now = parts s c.loop-server.link c.loop-server.inlet in
    let came = gathers_came L.sent L.received old now c.pull.new.link c.pull.new.self p.received.0 i.gathers p.sent p.received.1 p.received.2 in
    let found = rw c.in-Ok-Bytes.field-0-is at c.in-Ok-Bytes.ensures.found in
    let later = rw c.in-Ok-Bytes.field-0-is at c.in-Ok-Bytes.ensures.later in
    let fed = fed_here c.in-Ok.fed.state Need s c.feed.new.server c.bytes.result.now c.pull.new.self c.used.new.self c.in-Ok.fed.taken c.in-Ok.ensures.fed
    c.bytes.ensures.bytes c.used.ensures c.in-Need.is in
    record {
      gathers = gathers_fed L.sent L.received old (parts c.feed.new.server c.pull.new.link c.used.new.self)
          (fed_on L.sent L.received Need old s c.feed.new.server c.pull.new.link c.pull.new.self c.used.new.self came fed
          (subst IsBytes c.bytes.ensures.bytes c.feed.ensures.bytes));
      sent = Keeps-trans _ _ _ i.sent p.sent;
      turns = turned L.sent L.received L.turns old now c.pull.new.link i.gathers i.sent i.turns (λ some. ap L.turns (p.held some).2) p.turn;
      works = c.in-Ok-Bytes.ensures.works ∙ i.works;
      told = found.1 ∙ i.told;
      waits = later ∙ i.waits;
    }

pub returns-in-Ready-clause-comes : goal.returns-in-Ready-clause-comes
returns-in-Ready-clause-comes g c =
    let L = g.L.Link in
    let i = c.loop-server.invariant in
    let p = c.pull.ensures in
    let old = parts c.args.server.now c.args.link.now c.args.inlet.now in
    let s = c.loop-server.server in
    let came = gathers_came L.sent L.received old (parts s c.loop-server.link c.loop-server.inlet) c.pull.new.link c.pull.new.self p.received.0 i.gathers p.sent p.received.1 p.received.2 in
    let found = rw c.in-Ok-Bytes.field-0-is at c.in-Ok-Bytes.ensures.found in
    let fed = fed_here c.in-Ok.fed.state Ready s c.feed.new.server c.bytes.result.now c.pull.new.self c.used.new.self c.in-Ok.fed.taken c.in-Ok.ensures.fed
    c.bytes.ensures.bytes c.used.ensures c.in-Ready.is in
    comes_whole L.sent L.received L.ends old (parts c.feed.new.server c.pull.new.link c.used.new.self) c.requires.more
    (fed_on L.sent L.received Ready old s c.feed.new.server c.pull.new.link c.pull.new.self c.used.new.self came fed
    (subst IsBytes c.bytes.ensures.bytes c.feed.ensures.bytes)) (found.1 ∙ i.told)

pub returns-in-Bad-clause-comes : goal.returns-in-Bad-clause-comes
returns-in-Bad-clause-comes g c =
    let L = g.L.Link in
    let i = c.loop-server.invariant in
    let p = c.pull.ensures in
    let old = parts c.args.server.now c.args.link.now c.args.inlet.now in
    let s = c.loop-server.server in
    let came = gathers_came L.sent L.received old (parts s c.loop-server.link c.loop-server.inlet) c.pull.new.link c.pull.new.self p.received.0 i.gathers p.sent p.received.1 p.received.2 in
    let found = rw c.in-Ok-Bytes.field-0-is at c.in-Ok-Bytes.ensures.found in
    let are = subst IsBytes c.bytes.ensures.bytes c.feed.ensures.bytes in
    let fed = fed_here c.in-Ok.fed.state (Bad c.in-Bad.fault) s c.feed.new.server c.bytes.result.now c.pull.new.self c.used.new.self c.in-Ok.fed.taken c.in-Ok.ensures.fed
    c.bytes.ensures.bytes c.used.ensures c.in-Bad.is in
    comes_bad L.sent L.received L.ends c.in-Bad.fault old (parts c.feed.new.server c.pull.new.link c.used.new.self) c.requires.more
    (fed_on L.sent L.received (Bad c.in-Bad.fault) old s c.feed.new.server c.pull.new.link c.pull.new.self c.used.new.self came fed are)
    (left_bytes L.sent L.received (Bad c.in-Bad.fault) s c.feed.new.server c.pull.new.self c.used.new.self fed are) (found.1 ∙ i.told)
