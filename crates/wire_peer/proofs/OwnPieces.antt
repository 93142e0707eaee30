-- The bytes of a piece that an end took are a piece of their own, of which it took all.
use Rattle.std.proofs.Common.{◌≡◌, ℕ, List, ◌++◌, length, take, ap, refl, sym, subst, ◌∙◌, arith}
use Rattle.std.proofs.Math.Seq.{take-length}
use Rattle.wire_stream.specs.{HoldsNoMore}
use Rattle.wire_peer.specs.{ClientSeen, ServerView, Settles, Takes, TakesBytes, holding}

pub server_own : (s : ServerView) (piece : List ℕ) (n : ℕ) (new : ServerView) → TakesBytes s piece n new
    → TakesBytes s (take n piece) (length (take n piece)) new
server_own s piece n new t = record {
  bytes = t.bytes;
  found = t.found;
  fed = record {
    taken = omega arith;
    held = t.fed.held ∙ ap (λ (b : List ℕ). s.held ++ b) (sym (take-length (take n piece)));
    state = t.fed.state;
    no_more = t.fed.no_more;
    all = λ e. refl;
  };
  is = t.is;
}

pub client_own : (k : ClientSeen) (piece : List ℕ) (n : ℕ) (new : ClientSeen) → Takes k piece n new
    → Takes k (take n piece) (length (take n piece)) new
client_own k piece n new t = record {
  within = omega arith;
  no_more = subst (λ (b : List ℕ). HoldsNoMore k.requests.limit (k.held ++ b)) own t.no_more;
  all = λ live. refl;
  settles = subst (λ (b : List ℕ). Settles (holding k (k.held ++ b)) new) own t.settles;
}
  where
    own : take n piece ≡ take (length (take n piece)) (take n piece)
    own = sym (take-length (take n piece))
