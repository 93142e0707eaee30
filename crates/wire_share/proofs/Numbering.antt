-- The numbers of connections to the server, where one more is opened.
use Rattle.std.proofs.Common.{◌≡◌, ℕ, Option, Some, sym, ◌∙◌, ap}
use Rattle.std.specs.Prelude.{◌==◌}
use Rattle.std.proofs.lemmas.Bool.{eqb-true}
use Rattle.wire_share.specs.declared.server.Server.{Server}
use Rattle.wire_share.specs.Cores.{Puts}
use Rattle.wire_share.proofs.Standing.{put_case, some_same}

abbrev pub Numbers : (ℕ → Option Server) → Type 0
Numbers ups = (u : ℕ) (y : Server) → ups u ≡ Some y → y.upstream.number ≡ u

pub numbers_on : (k : ℕ) (row : Server) (old new : ℕ → Option Server) → Puts old k (Some row) new → row.upstream.number ≡ k → Numbers old → Numbers new
numbers_on k row old new puts number all u =
    put_case (λ (r : Option Server). (y : Server) → r ≡ Some y → y.upstream.number ≡ u) (k == u) (Some row) (old u) (new u) (puts u)
    (λ is y at. ap (λ (z : Server). z.upstream.number) (sym (some_same row y at)) ∙ number ∙ eqb-true k u is) (λ is. all u)
