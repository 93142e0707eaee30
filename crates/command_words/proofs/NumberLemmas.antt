-- A text that a range of numbers accepts is a number in that range.
use Rattle.std.proofs.Common.{◌≡◌, ◌∙◌, ◌<◌, ◌^◌, ◌==◌, ℕ, refl, sym, subst, Bool, true, false, cond, [], ◌∷◌, Option, Some, None, Result, Ok, Err, true≢false, arith}
use Rattle.std.specs.Prelude.{pos, unwrap_or}
use Rattle.std.specs.Str.Parse.{IsNumeral, ParsesUnsigned, digits_value, starts_with_minus, without_leading_plus}
use Rattle.std.proofs.lemmas.Int.{ints}
use Rattle.clap.specs.Lexer.{without_minus}
use Rattle.clap.specs.Words.{ReadsOne, Text}
use Rattle.clap.specs.Values.{IsSignedIn}
use Rattle.clap.specs.ValueTests.{accepts}
use Rattle.clap.specs.declared.builder.value_parser.ValueParser.TheVariants.{Signed}
use Rattle.clap.proofs.ValueTestLemmas.{accepts-Accepts}
use Rattle.command_words.specs.Tables.{IsCount}

unsigned_text : (t : Text) → starts_with_minus t ≡ false → without_minus t ≡ t
unsigned_text [] e = refl
unsigned_text (x ∷ xs) e = go (x == 45) e
  where
    go : (b : Bool) → b ≡ false → unwrap_or (cond b (Some xs) None) (x ∷ xs) ≡ x ∷ xs
    go true e = absurd (true≢false e)
    go false e = refl

unsigned_count : (t : Text) → starts_with_minus t ≡ false → IsSignedIn (pos 1) (pos 100) t → IsCount (digits_value 10 (without_leading_plus t)) (Some t)
unsigned_count t plain is =
    let numeral : IsNumeral 10 (without_leading_plus t) = rw plain at is.0 in
    let low = rw plain at is.2 in
    let high = rw plain at is.3 in
    (t, refl, (numeral, refl), omega (arith, ints), omega (arith, ints))

no_minus : (t : Text) → starts_with_minus t ≡ true → IsSignedIn (pos 1) (pos 100) t → ⊥
no_minus t minus is =
    let low = rw minus at is.2 in
    omega (arith, ints)

pub count_text : (v : Text) → accepts false (Signed (pos 1) (pos 100)) v ≡ true → (n : ℕ) × IsCount n (Some (without_minus v))
count_text v accepted = go (starts_with_minus v) refl
  where
    is : IsSignedIn (pos 1) (pos 100) v
    is = accepts-Accepts false (Signed (pos 1) (pos 100)) v accepted

    go : (b : Bool) → starts_with_minus v ≡ b → (n : ℕ) × IsCount n (Some (without_minus v))
    go true minus = absurd (no_minus v minus is)
    go false plain = (
      digits_value 10 (without_leading_plus v),
      subst (λ (t : Text). IsCount (digits_value 10 (without_leading_plus v)) (Some t)) (sym (unsigned_text v plain)) (unsigned_count v plain is),
    )

-- ---- a number from 1 to 100, as it is read

module _ {E : Type 0} (G : Text → Result ℕ E → Type 0) (parses : (t : Text) (r : Result ℕ E) → G t r → ParsesUnsigned 8 10 t r) where
  -- a count that was read is the one that stands there
  pub read_count : (o : Option Text) (n k : ℕ) → IsCount n o → ((t : Text) → o ≡ Some t → ReadsOne G t (Some k)) → IsCount k o
  read_count o n k count value =
      let read = parses count.0 (Ok k) (value count.0 count.1) in
      let same : n ≡ k = sym count.2.1 ∙ sym read.1 in
      subst (λ (m : ℕ). IsCount m o) same count

  -- a count can be read
  pub count_reads : (o : Option Text) (n : ℕ) → IsCount n o → ((t : Text) → o ≡ Some t → ReadsOne G t None) → ⊥
  count_reads o n count value =
      let read = value count.0 count.1 in
      let small : digits_value 10 (without_leading_plus count.0) < 2 ^ 8 = omega (arith, count.2.1, count.4) in
      parses count.0 (Err read.0) read.1 (count.2.0, small)
