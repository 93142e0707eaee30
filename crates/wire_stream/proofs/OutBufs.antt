-- What an output holds after a message was appended.
use Rattle.std.proofs.Common.{◌≡◌, ℕ, ℤ, ◌≤◌, List, ◌++◌, length, drop, Result, Ok, Err, OnOk, OnErr, arith, length-append, ◌∙◌, ap}
use Rattle.std.proofs.lemmas.List.{drop-append-le}
use Rattle.wire_msg.specs.declared.flags.MsgFlags.{MsgFlags}
use Rattle.wire_msg.specs.Messages.{Content}
use Rattle.wire_msg.specs.Spelling.{canonical}

-- bytes that grew or stayed the same are at least as long as they were
pub length_stays : {A E : Type 0} (r : Result A E) (old new added : List ℕ) → OnOk r (new ≡ old ++ added) → OnErr r (new ≡ old)
    → length old ≤ length new
length_stays (Ok x) old new added grown kept = omega (arith, ap length grown, length-append old added)
length_stays (Err e) old new added grown kept = omega (arith, ap length kept)

-- what is appended to all the bytes is appended to those that weren't sent
pub added_behind : {A E : Type 0} (r : Result A E) (old new added same : List ℕ) (start : ℕ)
    → start ≤ length old → added ≡ same → OnOk r (new ≡ old ++ added) → OnOk r (drop start new ≡ drop start old ++ same)
added_behind (Ok x) old new added same start le e grown = ap (drop start) grown ∙ drop-append-le start old added le ∙ ap (λ (a : List ℕ). drop start old ++ a) e
added_behind (Err x) old new added same start le e grown = tt

-- messages of the same numbers have one canonical spelling
pub same_canonical : (i j t u : ℤ) (flags : MsgFlags) (c : Content) → i ≡ j → t ≡ u
    → canonical (record { id = i; response_to = t; flags = flags; content = c }) ≡ canonical (record { id = j; response_to = u; flags = flags; content = c })
same_canonical i j t u flags c e f =
    ap (λ (z : ℤ). canonical (record { id = z; response_to = t; flags = flags; content = c })) e
    ∙ ap (λ (z : ℤ). canonical (record { id = j; response_to = z; flags = flags; content = c })) f
