use Rattle.std.proofs.Common.{◌≡◌, sym, subst, drop}
use Rattle.std.proofs.lemmas.List.{take_rest}
use Rattle.wire_play.specs.Loopback.{AppendsUpTo}
use Rattle.wire_play.proofs.LoopLemmas.{none_written, some_written}
use Rattle.wire_play.proofs.loopback.write_line.Goals as goal
use Rattle.wire_play.proofs.loopback.write_line.Goals.{in-Ok-write, in-Err-write}

pub loop-preserved : goal.loop-preserved
loop-preserved g c = elim c.match-write.branch [
  | in-Ok-write w ↦
      let is : c.match-write.rest.now ≡ drop w.in-Ok-write.n c.loop.rest.now = rw w.rest-is (take_rest c.loop.rest.now w.in-Ok-write.n) in
      subst (λ rest. AppendsUpTo rest c.args.line.now (g.W.Write.contents c.args.out.now) (g.W.Write.contents c.write.new.self)) (sym is)
      (some_written c.loop.rest.now c.args.line.now w.in-Ok-write.n _ _ _ c.loop.invariant w.in-Ok-write.ensures.bytes)
  | in-Err-write w ↦ rw w.rest-is (none_written c.loop.rest.now c.args.line.now _ _ _ c.loop.invariant w.in-Err-write.ensures.bytes)
]
