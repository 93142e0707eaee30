use Rattle.std.proofs.Common.{◌≡◌, ◌-◌, ◌∙◌, ◌++◌, [], ap, drop, length, take}
use Rattle.std.proofs.lemmas.Result.{err_from_is_err_and}
use Rattle.bson_stream.specs.Readers.{AnnouncesMore, Feeds, Reading}
use Rattle.bson_stream.proofs.Gatherings.{moved_out, ok_is_short, rest_refused, smaller, still_within, stops, taken_on}
use Rattle.bson_stream.proofs.Standings.{nothing_open}
use Rattle.bson_stream.proofs.pieces.read_piece.Goals as goal
use Rattle.bson_stream.proofs.pieces.read_piece.Goals.{In_ok-fed}

fed : (c : In_ok-fed) → Feeds c.loop-fed.reader (take (length c.args.piece.now - c.loop-fed.taken) (drop c.loop-fed.taken c.args.piece.now)) c.feed.new.self c.in_ok-fed.fed
fed c = c.in_ok-fed.ensures.fed c.loop-fed.invariant.wants

-- no good length above the limit comes in the piece
short : (c : In_ok-fed) → AnnouncesMore c.loop-fed.reader.limit (c.loop-fed.reader.held ++ take (length c.args.piece.now - c.loop-fed.taken) (drop c.loop-fed.taken c.args.piece.now)) → ⊥
short c = λ a. ok_is_short c.in_ok-fed.fed (c.in_ok-fed.ensures.long c.loop-fed.invariant.wants a)

pub returns-in_default-clause-gathers : goal.returns-in_default-clause-gathers
returns-in_default-clause-gathers c =
    let i = (goal.at.returns-in_default-clause-gathers c).In_ok-fed in
    stops _ _ _ _ _ _ _ _ c.loop-fed.invariant.taken c.loop-fed.invariant.gathered (fed i) (short i) c.loop-fed.invariant.limit (λ s. let e = c.in_default.ensures.ready s in cc)

pub returns-in_err-fed-clause-refused : goal.returns-in_err-fed-clause-refused
returns-in_err-fed-clause-refused c =
    let p = err_from_is_err_and c.from_residual.result c.from_residual.ensures.1 in
    rw (p.1, p.2) (λ bytes g. rest_refused _ _ _ _ _ _ _ c.loop-fed.invariant.taken c.loop-fed.invariant.limit (c.loop-fed.invariant.gathered bytes g) c.in_err-fed.ensures.refused)

pub loop-fed-smaller : goal.loop-fed-smaller
loop-fed-smaller c =
    let m = c.in-Some.ensures.some in
    smaller _ _ _ c.release.new.self _ _ c.loop-fed.invariant.taken (fed (goal.at.loop-fed-smaller c).In_ok-fed) m.1 (ap (λ (r : Reading). r.held) (c.release.ensures.ready m.1))

pub loop-fed-preserved : goal.loop-fed-preserved
loop-fed-preserved c =
    let m = c.in-Some.ensures.some in
    let i = (goal.at.loop-fed-preserved c).In_ok-fed in
    let f = fed i in
    let behind = c.release.ensures.ready m.1 in
    let none : c.release.new.self.held ≡ [] = ap (λ (r : Reading). r.held) behind in
    record {
      limit = ap (λ (r : Reading). r.limit) behind ∙ f.limit ∙ c.loop-fed.invariant.limit;
      taken = still_within _ _ _ _ _ c.loop-fed.invariant.taken f;
      wants = rw none nothing_open;
      gathered = λ bytes g. moved_out _ _ _ _ _ _ (taken_on _ _ _ _ _ _ _ (c.loop-fed.invariant.gathered bytes g) f (short i)) c.in-Ok-push.ensures.items (rw m.0 at c.in-Ok.ensures) m.1 f.no_more behind;
    }
