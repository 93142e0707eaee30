-- The flag bits, as masks find them and as they are written.
use Rattle.std.proofs.Common.{◌≡◌, ℕ, zero, suc, ◌*◌, ◌%◌, ◌^◌, ◌<◌, ◌≤◌, Bool, true, false, eqb, refl, sym, ◌∙◌, arith}
use Rattle.std.specs.Prelude.{not, bit_and, nat_le, None}
use Rattle.std.proofs.lemmas.Bool.{ne_eqb, lt-leb}
use Rattle.std.specs.Int.{bit_at, from_bool}
use Rattle.std.proofs.lemmas.Nat.{and_mask}
use Rattle.std.proofs.lemmas.Nat.Bits.{and_pow}
use Rattle.wire_msg.specs.declared.flags.MsgFlags.{MsgFlags}
use Rattle.wire_msg.specs.Spelling.{flag_word, FlagsAre}
use Rattle.wire_msg.specs.Faults.{flags_fault}

-- of the required bits one alone may be set
only_more : (r : ℕ) → r ≤ 3 → bit_and r 1 ≡ 0 → r ≡ from_bool (not (eqb (bit_and r 2) 0)) * 2
only_more zero le even = refl
only_more (suc zero) le even = absurd (omega (arith, even))
only_more (suc (suc zero)) le even = refl
only_more (suc (suc (suc zero))) le even = absurd (omega (arith, even))
only_more (suc (suc (suc (suc r)))) le even = absurd (omega (arith, le))

one_bit : (b n : ℕ) → b < 2 → n ≡ b * 2 ^ 16 → b ≡ from_bool (not (eqb n 0))
one_bit zero n lt e = rw e refl
one_bit (suc zero) n lt e = rw e refl
one_bit (suc (suc b)) n lt e = absurd (omega (arith, lt))

abbrev flags_of : Bool → Bool → MsgFlags
flags_of more exhaust_allowed = record { more_to_come = more; exhaust_allowed = exhaust_allowed }

pub flags_are : (word : ℕ) → word < 2 ^ 32 → bit_and word 65535 ≤ 3 → bit_and (bit_and word 65535) 1 ≡ 0 → FlagsAre word (flags_of (not (eqb (bit_and (bit_and word 65535) 2) 0)) (not (eqb (bit_and word 65536) 0)))
flags_are word four le even = record {
  four_bytes = four;
  required = sym (and_mask word 16) ∙ only_more (bit_and word 65535) le even;
  optional = one_bit (bit_at word 16) (bit_and word 65536) (omega arith) (and_pow word 16);
}

-- ---- the flags of a message

no_unknown : (word r : ℕ) → word % 2 ^ 16 ≡ r → r < 4 → nat_le 4 (word % 2 ^ 16) ≡ false
no_unknown word r e lt = lt-leb 4 (word % 2 ^ 16) (omega (arith, e, lt))

no_checksum : (word : ℕ) (more : Bool) → word % 2 ^ 16 ≡ from_bool more * 2 → eqb (bit_at word 0) 1 ≡ false
no_checksum word true e = ne_eqb (bit_at word 0) 1 (λ f. omega (arith, e, f))
no_checksum word false e = ne_eqb (bit_at word 0) 1 (λ f. omega (arith, e, f))

small : (more : Bool) → from_bool more * 2 < 4
small true = omega arith
small false = omega arith

pub flags_are_sound : (word : ℕ) (flags : MsgFlags) → FlagsAre word flags → flags_fault word ≡ None
flags_are_sound word flags f = rw (no_unknown word (from_bool flags.more_to_come * 2) f.required (small flags.more_to_come), no_checksum word flags.more_to_come f.required) refl

same_bool : (a b : Bool) → from_bool a ≡ from_bool b → a ≡ b
same_bool true true e = refl
same_bool false false e = refl
same_bool true false e = absurd (omega (arith, e))
same_bool false true e = absurd (omega (arith, e))

same_twice : (a b : Bool) → from_bool a * 2 ≡ from_bool b * 2 → a ≡ b
same_twice true true e = refl
same_twice false false e = refl
same_twice true false e = absurd (omega (arith, e))
same_twice false true e = absurd (omega (arith, e))

same_flags_of : (more more' exhaust_allowed exhaust_allowed' : Bool) → more ≡ more' → exhaust_allowed ≡ exhaust_allowed' → flags_of more exhaust_allowed ≡ flags_of more' exhaust_allowed'
same_flags_of more more' exhaust_allowed exhaust_allowed' e f = rw (e, f) refl

-- a word has one reading
pub same_flags : (word : ℕ) (a b : MsgFlags) → FlagsAre word a → FlagsAre word b → a ≡ b
same_flags word a b f g = same_flags_of a.more_to_come b.more_to_come a.exhaust_allowed b.exhaust_allowed (same_twice a.more_to_come b.more_to_come (sym f.required ∙ g.required)) (same_bool a.exhaust_allowed b.exhaust_allowed (sym f.optional ∙ g.optional))

-- ---- the flags as they are written

flag_word_of : (more exhaust_allowed : Bool) → FlagsAre (flag_word (flags_of more exhaust_allowed)) (flags_of more exhaust_allowed)
flag_word_of true true = record { four_bytes = omega arith; required = refl; optional = refl }
flag_word_of true false = record { four_bytes = omega arith; required = refl; optional = refl }
flag_word_of false true = record { four_bytes = omega arith; required = refl; optional = refl }
flag_word_of false false = record { four_bytes = omega arith; required = refl; optional = refl }

-- the word of flags is read as those
pub flag_word_is : (flags : MsgFlags) → FlagsAre (flag_word flags) flags
flag_word_is flags = flag_word_of flags.more_to_come flags.exhaust_allowed
