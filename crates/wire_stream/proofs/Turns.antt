-- Turns that were added in several calls, taken together.
use Rattle.std.proofs.Common.{List, [], ◌++◌, Option, Some, None, sym, ap, ◌∙◌, append_assoc, append-nil}
use Rattle.wire_stream.specs.{AddsTurns, Turn}

pub AddsTurns-nil : (a : Option (List Turn)) → AddsTurns a a []
AddsTurns-nil None = tt
AddsTurns-nil (Some x) = sym (append-nil x)

pub AddsTurns-trans : (a b c : Option (List Turn)) (xs ys : List Turn) → AddsTurns a b xs → AddsTurns b c ys → AddsTurns a c (xs ++ ys)
AddsTurns-trans None b c xs ys k l = tt
AddsTurns-trans (Some x) None c xs ys k l = absurd k
AddsTurns-trans (Some x) (Some y) None xs ys k l = absurd l
AddsTurns-trans (Some x) (Some y) (Some z) xs ys k l = l ∙ ap (λ q. q ++ ys) k ∙ append_assoc x xs ys
