-- The parts of a world still belong together after replies went into the records.
use Rattle.std.specs.Prelude.{length, ◌≡◌, ℕ, zero, suc, ◌≤◌, All, Bool, true, false, if◌then◌else◌, List, [], ◌∷◌, map, Option, None, Some, Result, Ok, Err, slice_get}
use Rattle.std.proofs.Common.{◌∙◌, ap, arith, inl, inr, refl, subst, sym, true≢false}
use Rattle.std.proofs.lemmas.List.Elements.{All-cons, All-head, All-set, All-tail, All-weaker}
use Rattle.std.proofs.lemmas.Option.{none-some, same_Some}
use Rattle.wire_msg.specs.{Content}
use Rattle.wire_pool.specs.{PoolSeen}
use Rattle.wire_peer.specs.{ClientSeen, released}
use Rattle.wire_peer.specs.ClientSteps.{end_cause, state_after}
use Rattle.wire_peer.specs.declared.call_table.ReadyReply.{ReadyReply}
use Rattle.wire_peer.specs.declared.client_state.ClientState.{ClientState}
use Rattle.wire_peer.specs.declared.client_state.ClientState.TheVariants as clients
use Rattle.wire_model.specs.{Conn, Record, conn_at, cut_both, given_record, has_closed_client, is_closed, lost_record, settled_record}
use Rattle.wire_model.specs.Moves.{ClientTakesAll, CopiesReply, put_at, put_part}
use Rattle.wire_model.specs.declared.limits.WorldLimits.{WorldLimits}
use Rattle.wire_world.specs.Moving.{DownResult}
use Rattle.wire_world.specs.Worlds.{AreParts}

-- the record is of a connection that exists, and settling leaves it as it is
abbrev Fine : ℕ → List Conn → Record → Type 0
Fine many ks x = (x.connection ≤ many) × (settled_record ks x ≡ x)

given_settled : (ks : List Conn) (x : Record) (part : Content) (last : Bool) → settled_record ks x ≡ x → settled_record ks (given_record x part last) ≡ given_record x part last
given_settled ks x part last e = by (has_closed_client (conn_at ks x.connection)) last e
  where
    by : (b last : Bool) → (if b then lost_record x else x) ≡ x → (if b then lost_record (given_record x part last) else given_record x part last) ≡ given_record x part last
    by false last e = refl
    by true true e = refl
    by true false e = ap (λ (y : Record). let z : Record = record { connection = x.connection; asked = x.asked; parts = (given_record x part false).parts; state = y.state } in z) e

given_fine : (many : ℕ) (ks : List Conn) (x : Record) (part : Content) (last : Bool) → Fine many ks x → Fine many ks (given_record x part last)
given_fine many ks x part last f = (f.0, given_settled ks x part last f.1)

fine_at : (many : ℕ) (ks : List Conn) (xs : List Record) (i : ℕ) (x : Record) → All (Fine many ks) xs → slice_get xs i ≡ Some x → Fine many ks x
fine_at many ks [] i x all at = absurd (none-some x at)
fine_at many ks (y ∷ ys) zero x all at = subst (Fine many ks) (same_Some y x at) (All-head (Fine many ks) y ys all)
fine_at many ks (y ∷ ys) (suc i) x all at = fine_at many ks ys i x (All-tail (Fine many ks) y ys all) at

put_part_fine : (many : ℕ) (ks : List Conn) (xs : List Record) (i : ℕ) (part : Content) (last : Bool) (o : Option Record) → slice_get xs i ≡ o → All (Fine many ks) xs → All (Fine many ks) (put_part o i part last xs)
put_part_fine many ks xs i part last None at all = all
put_part_fine many ks xs i part last (Some x) at all = All-set (Fine many ks) xs i (given_record x part last) (given_fine many ks x part last (fine_at many ks xs i x all at)) all

put_fine : (many : ℕ) (ks : List Conn) (xs : List Record) (o : Option ℕ) (part : Content) (last : Bool) → All (Fine many ks) xs → All (Fine many ks) (put_at o part last xs)
put_fine many ks xs None part last all = all
put_fine many ks xs (Some i) part last all = put_part_fine many ks xs i part last (slice_get xs i) refl all

copied_fine : (many : ℕ) (ks : List Conn) (indexes held : List ℕ) (o : Option ReadyReply) (xs ys : List Record) → CopiesReply indexes held o xs ys → All (Fine many ks) xs → All (Fine many ks) ys
copied_fine many ks indexes held None xs ys is all = subst (All (Fine many ks)) (sym is) all
copied_fine many ks indexes held (Some reply) xs ys (m, spells, is) all = subst (All (Fine many ks)) (sym is) (put_fine many ks xs (slice_get indexes reply.call) m.content reply.last all)

taken_fine : (many : ℕ) (ks : List Conn) (indexes : List ℕ) (old : ClientSeen) (xs : List Record) (pieces : List (List ℕ)) (new : ClientSeen) (ys : List Record) → ClientTakesAll indexes old xs pieces new ys → All (Fine many ks) xs → All (Fine many ks) ys
taken_fine many ks indexes old xs [] new ys (same, is) all = subst (All (Fine many ks)) (sym is) all
taken_fine many ks indexes old xs (p ∷ ps) new ys (mid, takes, (copied, copies, more)) all =
    taken_fine many ks indexes (released mid) copied ps new ys more (copied_fine many ks indexes mid.held mid.reply xs copied copies all)

-- ---- all of them

abbrev head_or : Record → List Record → Record
head_or d [] = d
head_or d (x ∷ xs) = x

abbrev rest_of : List Record → List Record
rest_of [] = []
rest_of (x ∷ xs) = xs

all_fine : (many : ℕ) (ks : List Conn) (xs : List Record) → All (λ (x : Record). x.connection ≤ many) xs → map (settled_record ks) xs ≡ xs → All (Fine many ks) xs
all_fine many ks [] made e = λ k d lt. absurd (omega (arith, lt))
all_fine many ks (x ∷ xs) made e = All-cons (Fine many ks) x xs (All-head (λ (y : Record). y.connection ≤ many) x xs made, ap (head_or x) e)
    (all_fine many ks xs (All-tail (λ (y : Record). y.connection ≤ many) x xs made) (ap rest_of e))

all_settled : (many : ℕ) (ks : List Conn) (xs : List Record) → All (Fine many ks) xs → map (settled_record ks) xs ≡ xs
all_settled many ks [] all = refl
all_settled many ks (x ∷ xs) all = ap (λ (y : Record). y ∷ map (settled_record ks) xs) (All-head (Fine many ks) x xs all).1 ∙ ap (λ (ys : List Record). x ∷ ys) (all_settled many ks xs (All-tail (Fine many ks) x xs all))

copied_parts : (l : WorldLimits) (p : PoolSeen) (ks : List Conn) (indexes : List ℕ) (old : ClientSeen) (xs : List Record) (pieces : List (List ℕ)) (new : ClientSeen) (ys : List Record)
    → ClientTakesAll indexes old xs pieces new ys → AreParts l p ks xs → AreParts l p ks ys
copied_parts l p ks indexes old xs pieces new ys takes a =
    let fine = taken_fine (length ks) ks indexes old xs pieces new ys takes (all_fine (length ks) ks xs a.made a.settled_are) in
    record {
      limits_are = a.limits_are;
      is_open = a.is_open;
      next_is = a.next_is;
      made = All-weaker (Fine (length ks) ks) (λ (x : Record). x.connection ≤ length ks) (λ x f. f.0) ys fine;
      settled_are = all_settled (length ks) ks ys fine;
    }

-- ---- what moves down

-- records that were settled still are
pub moved_parts : {E : Type 0} (l : WorldLimits) (p : PoolSeen) (ks : List Conn) (k k' : Conn) (n : ℕ) (xs ys : List Record) (r : Result ℕ E) → DownResult k n xs k' ys r → AreParts l p ks xs → AreParts l p ks ys
moved_parts l p ks k k' n xs ys (Ok moved) (m, are, fewer) a = copied_parts l p ks k.calls k.client xs m.pieces m.client ys m.takes a
moved_parts l p ks k k' n xs ys (Err e) (done, inl (m, wants), cut) a = copied_parts l p ks k.calls k.client xs m.pieces m.client ys m.takes a
moved_parts l p ks k k' n xs ys (Err e) (done, inr (mid, m, u), cut) a = copied_parts l p ks k.calls k.client xs m.pieces m.client ys m.takes a

was_open : (indexes : List ℕ) (old : ClientSeen) (xs : List Record) (pieces : List (List ℕ)) (new : ClientSeen) (ys : List Record) → ClientTakesAll indexes old xs pieces new ys → is_closed new.state ≡ false → is_closed old.state ≡ false
was_open indexes old xs [] new ys (same, is) live = ap (λ (z : ClientSeen). is_closed z.state) (sym same) ∙ live
was_open indexes old xs (p ∷ ps) new ys (mid, takes, more) live = ap is_closed takes.may.1

cut_is_closed : (k : Conn) → is_closed (cut_both k).client.state ≡ true
cut_is_closed k = by k.client.state
  where
    by : (s : ClientState) → is_closed (state_after s (end_cause k.client.reply k.client.held)) ≡ true
    by clients.Open = refl
    by (clients.Closed cause) = refl

-- a client that is open was open
pub open_before : {E : Type 0} (k k' : Conn) (n : ℕ) (xs ys : List Record) (r : Result ℕ E) → DownResult k n xs k' ys r → is_closed k'.client.state ≡ false → is_closed k.client.state ≡ false
open_before k k' n xs ys (Ok moved) (m, are, fewer) live = was_open k.calls k.client xs m.pieces m.client ys m.takes (ap (λ (z : Conn). is_closed z.client.state) (sym m.after) ∙ live)
open_before k k' n xs ys (Err e) (done, stopped, cut) live = absurd (true≢false (sym (cut_is_closed done) ∙ ap (λ (z : Conn). is_closed z.client.state) (sym cut) ∙ live))
