-- The tokens of nodes.
use Rattle.std.proofs.Common.{◌≡◌, ◌+◌, ◌<◌, ◌≤◌, List, [], ◌∷◌, ℕ, zero, suc, drop, get_or, length, map, refl, sym, arith}
use Rattle.std.proofs.lemmas.List.{drop-drop}
use Rattle.json.specs.Tape.{node_token}
use Rattle.json.specs.declared.tape.Node.{Node}

-- the next node, and those behind it
pub first_node : (ns : List Node) (i : ℕ) (d : Node) → i < length ns → drop i (map node_token ns) ≡ node_token (get_or ns i d) ∷ drop 1 (drop i (map node_token ns))
first_node [] i d lt = absurd (omega arith)
first_node (n ∷ ns) zero d lt = refl
first_node (n ∷ ns) (suc i) d lt = first_node ns i d (omega arith)

pub no_node : (ns : List Node) (i : ℕ) → length ns ≤ i → drop i (map node_token ns) ≡ []
no_node [] zero le = refl
no_node [] (suc i) le = refl
no_node (n ∷ ns) zero le = absurd (omega arith)
no_node (n ∷ ns) (suc i) le = no_node ns i (omega arith)

pub one_less : (ns : List Node) (i : ℕ) → drop (i + 1) (map node_token ns) ≡ drop 1 (drop i (map node_token ns))
one_less ns i = sym (drop-drop 1 i (map node_token ns))
