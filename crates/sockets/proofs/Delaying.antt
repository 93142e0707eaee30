-- When the first message is let go.
use Rattle.std.proofs.Common.{◌≡◌, ◌+◌, ◌++◌, ◌<◌, ℕ, Option, None, Some, List, [], ◌∷◌, take, length, get_or, min, refl, sym, ap, ◌∙◌, arith}
use Rattle.std.proofs.lemmas.List.{take_more}
use Rattle.std.specs.declared.time.Instant.{Instant}
use Rattle.sockets.specs.declared.delays.Delay.{Delay}
use Rattle.sockets.specs.Delaying.{first_left, nanos_left, sooner}

sooner_none : (a : Option ℕ) → sooner a None ≡ a
sooner_none None = refl
sooner_none (Some a) = refl

sooner_assoc : (a b c : Option ℕ) → sooner a (sooner b c) ≡ sooner (sooner a b) c
sooner_assoc None b c = refl
sooner_assoc (Some a) None c = refl
sooner_assoc (Some a) (Some b) None = refl
sooner_assoc (Some a) (Some b) (Some c) = ap Some (omega arith)

left_of_both : (ds : List Delay) (d : Delay) (now : Instant) → first_left (ds ++ d ∷ []) now ≡ sooner (first_left ds now) (nanos_left d.due now)
left_of_both [] d now = sooner_none (nanos_left d.due now)
left_of_both (e ∷ ds) d now = ap (sooner (nanos_left e.due now)) (left_of_both ds d now) ∙ sooner_assoc (nanos_left e.due now) (first_left ds now) (nanos_left d.due now)

pub one_more : (ds : List Delay) (i : ℕ) (none : Delay) (now : Instant) → i < length ds
    → first_left (take (i + 1) ds) now ≡ sooner (first_left (take i ds) now) (nanos_left (get_or ds i none).due now)
one_more ds i none now short =
    ap (λ (xs : List Delay). first_left xs now) (take_more ds i none short) ∙ left_of_both (take i ds) (get_or ds i none) now
