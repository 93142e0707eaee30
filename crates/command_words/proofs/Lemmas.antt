-- What is read of the matches.
use Rattle.std.proofs.Common.{◌≡◌, ℕ, ap, refl, sym, Bool, true, false, Option, Some, None, Result, Ok, Err, codes}
use Rattle.std.specs.Prelude.{◌≢◌, IfSome, MatchBool, if◌then◌else◌}
use Rattle.std.specs.Option.{option_map_or}
use Rattle.std.specs.Str.{bytes_eq}
use Rattle.std.specs.Str.Parse.{ParsesUnsigned}
use Rattle.std.proofs.lemmas.Slice.Eq.{bytes_eq-Decides}
use Rattle.clap.specs.Words.{IsUnsignedIn, ReadsOne, Text}
use Rattle.command_words.specs.Values.{AsksFor, AsksForMany}

-- the text of a flag that read as b
pub flag_text : (o : Option Text) (b : Bool) → (o ≡ None → Some b ≡ None) → ((t : Text) → o ≡ Some t → MatchBool b (t ≡ codes "true") (t ≡ codes "false"))
    → o ≡ Some (if b then codes "true" else codes "false")
flag_text None b none value =
    let bad : Some b ≡ None = none refl in
    cc
flag_text (Some t) true none value = ap Some (value t refl)
flag_text (Some t) false none value = ap Some (value t refl)

-- a text that a flag wrote is no other than its two
pub flag_reads : {E : Type 0} (o : Option Text) (b : Bool) → o ≡ Some (if b then codes "true" else codes "false")
    → ((t : Text) → o ≡ Some t → (e : E) × ((t ≢ codes "true") × (t ≢ codes "false"))) → ⊥
flag_reads o true is value = (value (codes "true") is).1.0 refl
flag_reads o false is value = (value (codes "false") is).1.1 refl

-- ---- whether a flag was given

abbrev pub reads_true : Option Text → Bool
reads_true o = option_map_or (λ text. bytes_eq text (codes "true")) o false

-- one that read as b
pub given_read : (o : Option Text) (b : Bool) → o ≡ Some (if b then codes "true" else codes "false") → b ≡ option_map_or (λ text. bytes_eq text (codes "true")) o false
given_read o true is = sym (ap reads_true is)
given_read o false is = sym (ap reads_true is)

-- one that read as neither wasn't
pub unread_given : {E : Type 0} (o : Option Text) → ((t : Text) → o ≡ Some t → (e : E) × ((t ≢ codes "true") × (t ≢ codes "false")))
    → false ≡ option_map_or (λ text. bytes_eq text (codes "true")) o false
unread_given None value = refl
unread_given (Some t) value = go (bytes_eq t (codes "true")) refl
  where
    go : (b : Bool) → bytes_eq t (codes "true") ≡ b → false ≡ b
    go false is = refl
    go true is = absurd ((value t refl).1.0 ((bytes_eq-Decides t (codes "true")).0 is))

-- ---- a number that an option gives

module _ {E : Type 0} (G : Text → Result ℕ E → Type 0) (parses : (t : Text) (r : Result ℕ E) → G t r → ParsesUnsigned 64 10 t r) where
  -- what was read is what stands there
  pub read_number : (o : Option Text) (given : Option ℕ) → IfSome o (IsUnsignedIn 0 18446744073709551615) → (o ≡ None → given ≡ None)
      → ((t : Text) → o ≡ Some t → ReadsOne G t given) → AsksFor given o
  read_number None given held none value = none refl
  read_number (Some t) (Some k) held none value = (held.0, sym (parses t (Ok k) (value t refl)).1)
  read_number (Some t) None held none value =
      let read = value t refl in
      absurd (parses t (Err read.0) read.1 (held.0, held.1))

pub asks_for : (o : Option Text) (k : ℕ) → AsksFor (Some k) o → AsksForMany k o
asks_for None k asks =
    let none : Some k ≡ None = asks in
    cc
asks_for (Some t) k asks = asks

pub asks_for_all : (o : Option Text) → AsksFor None o → AsksForMany 18446744073709551615 o
asks_for_all None asks = refl
asks_for_all (Some t) asks = absurd asks
