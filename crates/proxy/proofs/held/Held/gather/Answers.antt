use Rattle.std.proofs.Common.{◌≡◌, ◌∙◌, ◌++◌, ℕ, ap, arith, drop, length, refl, sym, take}
use Rattle.wire_stream.specs.{bytes_moved}
use Rattle.proxy.specs.Holding.{view_of}
use Rattle.proxy.proofs.HeldLists.{piece_front}
use Rattle.proxy.proofs.Pulling.{pulled_end, pulled_later, pulled_piece}
use Rattle.proxy.proofs.held.Held.gather.Goals as goal

pub returns-in-Later-clause-pulls : goal.returns-in-Later-clause-pulls
returns-in-Later-clause-pulls g c =
    pulled_later g.L.Link.received (view_of c.args.self.now) (view_of c.forget.new.self) _ (take (bytes_moved c.in_ok-recv.field-0) c.recv.new.buffer) c.forget.ensures.view
    (ap (λ m. take (bytes_moved m) c.recv.new.buffer) c.in-Later.is) c.in_ok-recv.ensures.received refl refl refl

pub returns-in-Bytes-eq0-clause-pulls : goal.returns-in-Bytes-eq0-clause-pulls
returns-in-Bytes-eq0-clause-pulls g c =
    let mid = view_of c.forget.new.self in
    let zero : c.in-Bytes-eq0.field-0 ≡ 0 = omega (arith, c.in-Bytes-eq0.field-0-is) in
    pulled_end g.L.Link.received (view_of c.args.self.now) mid (record { link = c.recv.new.self; owed = mid.owed; rest = mid.rest; left = mid.left }) (view_of c.free.new.self)
    (take (bytes_moved c.in_ok-recv.field-0) c.recv.new.buffer) c.forget.ensures.view
    (ap (λ m. take (bytes_moved m) c.recv.new.buffer) c.in-Bytes-eq0.is ∙ ap (λ (n : ℕ). take n c.recv.new.buffer) zero) c.in_ok-recv.ensures.received refl refl refl c.free.ensures.frees

pub returns-in-Bytes-clause-pulls : goal.returns-in-Bytes-clause-pulls
returns-in-Bytes-clause-pulls g c =
    let piece = c.forget.new.self.piece in
    let buffer = c.recv.new.buffer in
    let long : length buffer ≡ piece.len = omega (arith, c.recv.auto.buffer, c.deref_mut.ensures.len) in
    let front = piece_front buffer piece.items c.in-Bytes.n piece.len long in
    pulled_piece g.L.Link.received c.append_piece.result (view_of c.args.self.now) (view_of c.forget.new.self) (view_of c.append_piece.new.self) c.recv.new.self
    (take (bytes_moved c.in_ok-recv.field-0) c.recv.new.buffer) (take c.in-Bytes.n (take piece.len (buffer ++ drop (length buffer) piece.items))) c.forget.ensures.view
    (ap (λ m. take (bytes_moved m) buffer) c.in-Bytes.is ∙ sym front) c.in_ok-recv.ensures.received c.append_piece.ensures.link c.append_piece.ensures.owed c.append_piece.ensures.rest c.append_piece.ensures.left
