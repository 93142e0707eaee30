-- The log without the entries of strangers.
use Rattle.std.proofs.Common.{◌≡◌, ℕ, Bool, true, false, List, [], ◌∷◌, ◌++◌, sym, ◌∙◌, ap}
use Rattle.std.specs.Prelude.{All, if◌then◌else◌}
use Rattle.std.specs.Option.{ForSome}
use Rattle.std.proofs.lemmas.List.Elements.{All-cons, All-head, All-tail}
use Rattle.wire_msg.specs.{Content, IsContent}
use Rattle.wire_peer.specs.{LogEntry}
use Rattle.wire_model.specs.Happening.{AreContents}
use Rattle.wire_model.specs.Strangers.{log_beside}

module _ (strange : ℕ → Bool) where
  pub beside_push : (log : List LogEntry) (en : LogEntry) → strange en.connection ≡ false
      → log_beside strange (log ++ en ∷ []) ≡ log_beside strange log ++ en ∷ []
  beside_push [] en n = ap (λ b. if b then [] else en ∷ []) n
  beside_push (x ∷ log) en n = by (strange x.connection) (beside_push log en n)
    where
      by : (b : Bool)
          → log_beside strange (log ++ en ∷ []) ≡ log_beside strange log ++ en ∷ []
          → (if b then log_beside strange (log ++ en ∷ [])
          else x ∷ log_beside strange (log ++ en ∷ []))
          ≡ (if b then log_beside strange log else x ∷ log_beside strange log) ++ en ∷ []
      by true e = e
      by false e = ap (λ z. x ∷ z) e

  pub beside_skip : (log : List LogEntry) (en : LogEntry) → strange en.connection ≡ true
      → log_beside strange (log ++ en ∷ []) ≡ log_beside strange log
  beside_skip [] en n = ap (λ b. if b then [] else en ∷ []) n
  beside_skip (x ∷ log) en n =
      ap (λ z. if strange x.connection then z else x ∷ z) (beside_skip log en n)

  abbrev Fine : LogEntry → Type 0
  Fine e = ForSome e.answers (All (λ (c : Content). ∥ IsContent c ∥₁))

  pub contents_beside : (log : List LogEntry) → AreContents log → AreContents (log_beside strange log)
  contents_beside [] all = all
  contents_beside (x ∷ log) all =
      by (strange x.connection) (contents_beside log (All-tail Fine x log all))
    where
      by : (b : Bool) → AreContents (log_beside strange log)
          → AreContents (if b then log_beside strange log else x ∷ log_beside strange log)
      by true more = more
      by false more =
          All-cons Fine x (log_beside strange log) (All-head Fine x log all) more

pub true_is : (b : Bool) → b ≡ true → b ≡ false → ⊥
true_is b t f = let no_ : true ≡ false = sym t ∙ f in cc
