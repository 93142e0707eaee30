-- What is done with a connection that came.
use Rattle.std.specs.Prelude.{◌≡◌, ◌⊎◌, ℕ, Some}
use Rattle.mio.specs.declared.net.stream.TcpStream.{TcpStream}
use Rattle.wire_stream.specs.{Rose}
use Rattle.sockets.specs.declared.acceptor.Acceptor.{Acceptor}

-- The connection was counted as opened: it is served, or was closed at once, and is counted as
-- ended too; or it was taken back by what accepts, and nothing was counted.
abbrev pub IsTakenOn : TcpStream → (opened opened' ended ended' : ℕ) → Acceptor → Type 0
IsTakenOn near opened opened' ended ended' acceptor =
    (Rose opened opened' × ((ended' ≡ ended) ⊎ Rose ended ended'))
    ⊎ ((acceptor.returned ≡ Some near) × (opened' ≡ opened) × (ended' ≡ ended))
