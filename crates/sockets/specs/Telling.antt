-- What a program that listens tells of that.
use Rattle.std.specs.Prelude.{ℕ, List, ◌++◌, codes}
use Rattle.std.specs.Fmt.{decimal}
use Rattle.std.specs.Net.Text.{socket_text}
use Rattle.std.specs.declared.net.socket_addr.SocketAddr.{SocketAddr}

-- the first line, which says where it listens
abbrev pub listening_line : SocketAddr → List ℕ
listening_line local = codes "listening " ++ (socket_text local ++ codes "\n")

-- what a file of the port has
abbrev pub port_text : ℕ → List ℕ
port_text port = decimal port ++ codes "\n"
