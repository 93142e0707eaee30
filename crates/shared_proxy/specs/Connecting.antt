-- New connections.
use Rattle.std.specs.Prelude.{◌≡◌, ℕ, ◌^◌, ◌-◌, true, false, [], Option, None}
use Rattle.proxy.specs.declared.direction.Direction.TheVariants as ways
use Rattle.shared_proxy.specs.Lines.{new_sending}
use Rattle.shared_proxy.specs.declared.connector.Connector.{Connector}
use Rattle.shared_proxy.specs.declared.line.Line.{Line}

-- the line of a client that was accepted, over which nothing came or went
pub record IsAccepted (l : Line) : Type 0 where
  pub stands : l.connecting ≡ false
  pub empty : l.inlet ≡ []
  pub sending : l.sending ≡ new_sending ways.Back (2 ^ 64 - 1)

-- The line of a connection to the server that is being made, over which nothing came or went.
-- Without a seed it isn't cut.
pub record IsBegun (seed : Option ℕ) (l : Line) : Type 0 where
  pub connects : l.connecting ≡ true
  pub empty : l.inlet ≡ []
  pub direction : l.sending.direction ≡ ways.There
  pub count : l.sending.count ≡ 0
  pub uncut : seed ≡ None → l.sending.left ≡ 2 ^ 64 - 1
  pub given : seed ≡ None → l.link.held.left ≡ 2 ^ 64 - 1

-- it connects to the same server in the same way
pub record SameServer (old new : Connector) : Type 0 where
  pub upstream : new.upstream ≡ old.upstream
  pub seed : new.seed ≡ old.seed
  pub holds : new.holds ≡ old.holds

-- as many connections are still accepted, and the same one was taken back
pub record SameWanted (old new : Connector) : Type 0 where
  pub returned : new.acceptor.returned ≡ old.acceptor.returned
  pub wanted : new.acceptor.wanted ≡ old.acceptor.wanted
