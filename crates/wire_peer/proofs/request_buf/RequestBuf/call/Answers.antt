use Rattle.std.proofs.Common.{◌≡◌, ◌∙◌, ◌≤◌, ◌<◌, ◌^◌, sym, refl, subst, Some, FitsSigned, w32, to_z, of_z, to_z-of_z, rules, arith}
use Rattle.std.proofs.lemmas.Bool.{false≢true}
use Rattle.wire_msg.specs.{message_len}
use Rattle.wire_peer.specs.CallTables.{ids}
use Rattle.wire_peer.specs.Contents.{content_of}
use Rattle.wire_peer.specs.FreeIds.{IsFirstFree}
use Rattle.wire_peer.specs.Requesting.{IsFull, number_after, RequestState}
use Rattle.wire_peer.proofs.TableLaws.{no_bearer}
use Rattle.wire_peer.proofs.RequestLaws.{awaiting_fits, number_told}
use Rattle.wire_peer.proofs.request_buf.RequestBuf.call.Goals as goal
use Rattle.wire_peer.proofs.request_buf.RequestBuf.call.Goals.{In_ok-put_out}

pub put_out-requires-clause-free : goal.put_out-requires-clause-free
put_out-requires-clause-free c =
    let fits : FitsSigned w32 c.free_id-id.result = search rules in
    rw (to_z-of_z fits) (no_bearer c.free_id-id.result c.self.inside.table c.free_id-id.ensures.free.free)

room : (c : In_ok-put_out) → IsFull c.args.self.now c.args.kind → ⊥
room c full = false≢true (sym c.if-is_full.false ∙ c.is_full.ensures.1 full)

pub invariant_of-self-2 : goal.invariant_of-self-2
invariant_of-self-2 c =
    let fits : FitsSigned w32 c.next_after-self-inside.result = search rules in
    record {
      window = c.self.invariant.window;
      few = rw c.in_ok-put_out.ensures.awaiting (awaiting_fits c.self.inside.table c.args.kind _ c.self.inside.window c.self.invariant.few
          (subst (λ (r : RequestState). IsFull r c.args.kind → ⊥) (sym c.self.view_is) (room (goal.at.invariant_of-self-2 c).In_ok-put_out)));
      next_id = rw (to_z-of_z fits) c.next_after-self-inside.ensures.least;
    }

pub returns-clause-called : goal.returns-clause-called
returns-clause-called c =
    let content = content_of c.args.payload in
    let next_fits : FitsSigned w32 c.next_after-self-inside.result = search rules in
    let from_fits : FitsSigned w32 c.self.inside.next_id = search rules in
    let id_fits : FitsSigned w32 c.free_id-id.result = search rules in
    let small : c.in-Some.number < 2 ^ 64 = search rules in
    let free = simp to_z-of_z at c.free_id-id.ensures.free in
    let number : c.checked_add-self-inside.result ≡ number_after c.in-Some.number = number_told c.in-Some.number c.checked_add-self-inside.result small c.checked_add-self-inside.ensures in
    let len : c.length_of.result ≡ message_len content = c.length_of.ensures in (
      record {
        next = record { number = subst (λ (r : RequestState). r.next_number ≡ Some c.in-Some.number) c.self.view_is c.in-Some.is; id = subst (λ (r : RequestState). IsFirstFree r.next_id (ids r.outstanding) (to_z w32 (of_z w32 c.free_id-id.result))) c.self.view_is (rw (to_z-of_z id_fits) free) };
        window = room (goal.at.returns-clause-called c).In_ok-put_out;
        within = subst (λ (r : RequestState). message_len content ≤ r.limit) c.self.view_is (omega arith);
      },
      rw (c.in_ok-put_out.ensures.put, c.in_ok-put_out.ensures.awaiting, number, to_z-of_z next_fits, c.next_after-self-inside.ensures.after, ← c.self.view_is) refl,
    )
