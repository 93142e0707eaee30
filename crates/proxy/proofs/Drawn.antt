-- The words that are drawn.
use Rattle.std.proofs.Common.{◌≡◌, ◌∙◌, ◌<◌, ◌*◌, ℕ, ◌%◌, ◌^◌, ◌==◌, if◌then◌else◌, ap, arith}
use Rattle.std.proofs.lemmas.Nat.{pow_below}
use Rattle.std.proofs.Math.Nat.{mod-eq_of_lt}
use Rattle.rand_pcg.specs.Lcg.{Lcg, increment_of, started}
use Rattle.rand_pcg.specs.Pcg.{multiplier_64, pcg32}
use Rattle.proxy.specs.declared.direction.Direction.{Direction}
use Rattle.proxy.specs.declared.direction.Direction.TheVariants as directions
use Rattle.proxy.specs.Drawing.{drawn_count, drawn_direction, first_word, second_word, third_word, words_of}

pub is_first : (g words : Lcg) (w : ℕ) (next : Lcg) → g ≡ words → (w, next) ≡ pcg32 g → w ≡ first_word words
unfolding first_word
is_first g words w next is step = ap (λ (p : ℕ × Lcg). p.0) (step ∙ ap pcg32 is)

pub is_second : (g words next next' : Lcg) (v w : ℕ) → g ≡ words → (v, next) ≡ pcg32 g → (w, next') ≡ pcg32 next → w ≡ second_word words
unfolding second_word
is_second g words next next' v w is one two = ap (λ (p : ℕ × Lcg). p.0) (two ∙ ap pcg32 (ap (λ (p : ℕ × Lcg). p.1) (one ∙ ap pcg32 is)))

pub is_third : (g words next next' last : Lcg) (u v w : ℕ) → g ≡ words → (u, next) ≡ pcg32 g → (v, next') ≡ pcg32 next → (w, last) ≡ pcg32 next' → w ≡ third_word words
unfolding third_word
is_third g words next next' last u v w is one two three =
    ap (λ (p : ℕ × Lcg). p.0) (three ∙ ap pcg32 (ap (λ (p : ℕ × Lcg). p.1) (two ∙ ap pcg32 (ap (λ (p : ℕ × Lcg). p.1) (one ∙ ap pcg32 is)))))

power_fits : (k : ℕ) → 1 * 2 ^ (k % 17) % 4294967296 ≡ 2 ^ (k % 17)
power_fits k =
    let below : 2 ^ (k % 17) < 2 ^ 32 = pow_below (k % 17) 32 (omega arith) in
    let one : 1 * 2 ^ (k % 17) ≡ 2 ^ (k % 17) = omega arith in
    rw one (mod-eq_of_lt below)

pub is_count : (words : Lcg) (n v w : ℕ) → v ≡ second_word words → w ≡ third_word words → n ≡ w % (1 * 2 ^ (v % 17) % 4294967296) → n ≡ drawn_count words
is_count words n v w second third is = is ∙ ap (λ (m : ℕ). w % m) (power_fits v) ∙ ap (λ (m : ℕ). w % 2 ^ (m % 17)) second ∙ ap (λ (m : ℕ). m % 2 ^ (second_word words % 17)) third

pub is_words : (g : Lcg) (seed number : ℕ) → g ≡ started 64 multiplier_64 seed (increment_of 64 number) → g ≡ words_of seed number
unfolding words_of
is_words g seed number is = is

pub is_direction : (words : Lcg) (w : ℕ) (d e : Direction) → w ≡ first_word words → d ≡ e → e ≡ (if w % 2 == 0 then directions.There else directions.Back) → d ≡ drawn_direction words
is_direction words w d e first is by_word = is ∙ by_word ∙ ap (λ (n : ℕ). if n % 2 == 0 then directions.There else directions.Back) first
