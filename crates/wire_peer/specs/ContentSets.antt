-- Two proofs that contents are equal are the same proof.
use Rattle.std.specs.Prelude.{◌≡◌, ℕ, List, refl}
use Rattle.std.specs.Coded.{Coded, code_by, coded_list, coded×}
use base.Stored.{Coded-set}
use Rattle.bson_elem.specs.{Tree, coded_text, coded_tree}
use Rattle.wire_msg.specs.{Content, Sequence}

coded_sequence : Coded Sequence
coded_sequence =
    code_by (List ℕ × List Tree) (coded× coded_text (coded_list coded_tree))
    (λ q. (q.identifier, q.documents)) (λ p. record { identifier = p.0; documents = p.1 })
    (λ _. refl)

pub coded_content : Coded Content
coded_content =
    code_by (Tree × List Sequence) (coded× coded_tree (coded_list coded_sequence))
    (λ c. (c.body, c.sequences)) (λ p. record { body = p.0; sequences = p.1 }) (λ _. refl)

pub content_set : (c d : Content) → IsProp (c ≡ d)
content_set c d = Coded-set coded_content c d
