use Rattle.std.proofs.Common.{sym, arith, ◌∙◌, pos, ◌≡◌, ◌<◌, ◌≤◌, ◌^◌, ℕ, nat_abs, to_z, of_z, w32}
use Rattle.std.proofs.lemmas.Int.{ints}
use Rattle.wire_peer.specs.FreeIds.{id_past}
use Rattle.wire_peer.proofs.IdLaws.{id_past_range}
use Rattle.wire_peer.proofs.MarkLaws.{no_mark, one_mark}
use Rattle.wire_peer.proofs.free_id.mark.Goals as goal

pub returns-then-id-lt1 : goal.returns-then-id-lt1
returns-then-id-lt1 c = no_mark (pos c.args.start) c.args.id c.args.marks.now (λ k lt e.
    let r : (m : ℕ) × (id_past (pos c.args.start) k ≡ pos m) × (1 ≤ m) × (m < 2 ^ 31) = id_past_range c.args.start k (omega arith) (omega arith) (omega arith) in
    let is : c.args.id ≡ pos r.0 = e ∙ r.1 in
    omega (arith, ints))

pub returns-then-place-lt-PLACES : goal.returns-then-place-lt-PLACES
returns-then-place-lt-PLACES c =
    let same : pos (nat_abs (to_z w32 (of_z w32 c.args.id))) ≡ c.args.id = omega (arith, ints) in
    one_mark (pos c.args.start) c.args.id c.args.marks.now c.place_of-place.result (omega arith)
    (sym same ∙ c.place_of-place.ensures.back)
    (λ k lt e. c.place_of-place.ensures.place k (same ∙ e) lt)
