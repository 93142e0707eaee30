-- Values that are copied one after another.
use Rattle.std.proofs.Common.{◌≡◌, ℕ, ◌+◌, ◌<◌, List, [], ◌∷◌, ◌++◌, length, map, take, get_or, sym, ◌∙◌}
use Rattle.std.proofs.lemmas.List.{map_more}
use Rattle.bson_doc.specs.declared.bson_values.Bson.{Bson}
use Rattle.bson_doc.specs.Bson.{value_of}

-- one more copy
pub one_copied : (vs ws zs : List Bson) (i : ℕ) (v : Bson) → i < length vs → v ≡ get_or vs i v → map value_of ws ≡ map value_of (take i vs)
    → map value_of zs ≡ map value_of ws ++ value_of v ∷ [] → map value_of zs ≡ map value_of (take (i + 1) vs)
one_copied vs ws zs i v short is so_far pushed =
    pushed ∙ (λ j. so_far j ++ value_of (is j) ∷ []) ∙ sym (map_more value_of vs i v short)
