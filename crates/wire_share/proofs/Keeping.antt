-- What a map of clients leaves where some are closed.
use Rattle.std.proofs.Common.{◌≡◌, ◌∙◌, ℕ, List, Bool, true, false, Option, Some, None, refl, ap, filter, not, nat_eq}
use Rattle.std.specs.Prelude.{if◌then◌else◌}
use Rattle.std.specs.Map.{keys_of, lookup}
use Rattle.std.specs.List.{IsDistinct}
use Rattle.std.proofs.lemmas.Map.Entries.{lookup-filter-values, option_filter}
use Rattle.std.specs.Cmp.{nat_eq_equiv}
use Rattle.wire_share.specs.declared.client.Client.{Client}
use Rattle.wire_share.specs.Cores.{hangs_on, unless_hung}

kept_if : (u : ℕ) (row : Option Client) → option_filter (λ x. not (hangs_on u x)) row ≡ unless_hung u row
kept_if u None = refl
kept_if u (Some x) = by (hangs_on u x)
  where
    by : (b : Bool) → (if not b then Some x else None) ≡ (if b then None else Some x)
    by true = refl
    by false = refl

pub unless_filter : (u q : ℕ) (es kept : List (ℕ × Client)) → IsDistinct nat_eq (keys_of es) → kept ≡ filter (λ e. not (hangs_on u e.1)) es
    → lookup (nat_eq q) kept ≡ unless_hung u (lookup (nat_eq q) es)
unless_filter u q es kept distinct is =
    ap (lookup (nat_eq q)) is ∙ lookup-filter-values nat_eq_equiv (λ x. not (hangs_on u x)) q es distinct ∙ kept_if u (lookup (nat_eq q) es)
