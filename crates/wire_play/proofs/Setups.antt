-- Setups: operands name one at most.
use Rattle.std.proofs.Common.{◌≡◌, ◌∙◌, ◌^◌, ℕ, ℤ, pos, List, [], ◌∷◌, refl, sym, ap}
use Rattle.std.specs.Str.Parse.{digits_value}
use Rattle.script_lines.specs.{IsNumber}
use Rattle.wire_play.specs.declared.named.HandlerName.{HandlerName}
use Rattle.wire_play.specs.declared.named.HandlerName.TheVariants.{Echo, Count}
use Rattle.wire_play.specs.declared.named.Setup.{Setup}
use Rattle.wire_play.specs.Naming.{IsSetup, handler_word}

abbrev made : HandlerName → ℤ → ℕ → ℕ → ℕ → Setup
made h id window max limit = record { handler = h; limits = record { first_id = id; window = window; connections = max; limit = limit } }

same_made : (h k : HandlerName) (i j : ℤ) (w x m n l o : ℕ) → h ≡ k → i ≡ j → w ≡ x → m ≡ n → l ≡ o → made h i w m l ≡ made k j x n o
same_made h k i j w x m n l o a b c d e = rw (a, b, c, d, e) refl

one_handler : (h k : HandlerName) → handler_word h ≡ handler_word k → h ≡ k
one_handler Echo Echo same = refl
one_handler Echo Count same = absurd cc
one_handler Count Echo same = absurd cc
one_handler Count Count same = refl

same_number : (bound : ℕ) (v w : List ℕ) (m n : ℕ) → v ≡ w → IsNumber bound v m → IsNumber bound w n → m ≡ n
same_number bound v w m n words is is' = is.value ∙ (ap (digits_value 10) words ∙ sym is'.value)

pub same_setup : (operands : List (List ℕ)) (s t : Setup) → IsSetup operands s → IsSetup operands t → t ≡ s
same_setup operands s t is is' =
    let words : handler_word t.handler ∷ is'.first ∷ is'.window ∷ is'.max ∷ is'.limit ∷ [] ≡ handler_word s.handler ∷ is.first ∷ is.window ∷ is.max ∷ is.limit ∷ [] = sym is'.words ∙ is.words in
    let ids : is'.id ≡ is.id = same_number (2 ^ 31) is'.first is.first is'.id is.id (cc words) is'.first_is is.first_is in
    same_made t.handler s.handler t.limits.first_id s.limits.first_id t.limits.window s.limits.window t.limits.connections s.limits.connections t.limits.limit s.limits.limit
    (one_handler t.handler s.handler (cc words))
    (is'.id_is ∙ (ap pos ids ∙ sym is.id_is))
    (same_number (2 ^ 64) is'.window is.window t.limits.window s.limits.window (cc words) is'.window_is is.window_is)
    (same_number (2 ^ 64) is'.max is.max t.limits.connections s.limits.connections (cc words) is'.max_is is.max_is)
    (same_number (2 ^ 32) is'.limit is.limit t.limits.limit s.limits.limit (cc words) is'.limit_is is.limit_is)
