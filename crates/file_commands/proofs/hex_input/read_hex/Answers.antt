use Rattle.std.proofs.Common.{◌++◌, ◌∙◌, List, Option, ap, length, subst, take, ℕ}
use Rattle.std.specs.Io.KnownBytes.{Consumes}
use Rattle.std.proofs.KnownBytes.{Consumes-trans}
use Rattle.file_commands.specs.Input.{IsDecoded, packed}
use Rattle.file_commands.specs.Source.{given}
use Rattle.file_commands.proofs.HexLemmas.{room_is}
use Rattle.file_commands.proofs.hex_input.read_hex.Goals as goal

pub returns-in_default-decode-clause-read : goal.returns-in_default-decode-clause-read
returns-in_default-decode-clause-read g c =
    let from = g.R.Read.remaining c.loop.reader in
    let to = g.R.Read.remaining c.read_piece.new.reader in
    let inv = c.loop.invariant in
    let came = subst (λ (x : Option ℕ). Consumes from to (take (given x) c.read_piece.new.room)) c.in-Some.is c.in_ok-n.ensures.read in
    (inv.1 ++ take c.in-Some.n c.read_piece.new.room, Consumes-trans _ from to inv.1 _ inv.2 came)

pub loop-preserved : goal.loop-preserved
loop-preserved g c =
    let from = g.R.Read.remaining c.loop.reader in
    let to = g.R.Read.remaining c.read_piece.new.reader in
    let inv = c.loop.invariant in
    let came = subst (λ (x : Option ℕ). Consumes from to (take (given x) c.read_piece.new.room)) c.in-Some.is c.in_ok-n.ensures.read in
    let size = c.in_ok-n.ensures.size ∙ ap length c.as_mut_slice.ensures.value in
    let room = room_is c.loop.room.len c.read_piece.new.room c.loop.room.items size c.loop.room.ok.0 in (
      ap length room ∙ size ∙ inv.0,
      inv.1 ++ take c.in-Some.n c.read_piece.new.room,
      Consumes-trans _ from to inv.1 _ inv.2 came,
      subst (λ (x : List ℕ). IsDecoded c.decode.new.self (packed (inv.1 ++ take c.in-Some.n x))) (c.deref.ensures.value ∙ room) (c.in-Ok-decode.ensures inv.1 inv.3),
    )
