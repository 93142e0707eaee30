use Rattle.std.proofs.Common.{◌≡◌, ◌<◌, ℕ, Bool, true, false, not, eqb, List, length, take, drop, ap, ◌∙◌, arith}
use Rattle.std.specs.Prelude.{slice_range}
use Rattle.std.specs.Int.{w32, from_le_bytes}
use Rattle.std.proofs.lemmas.Grind.{not_there}
use Rattle.std.proofs.lemmas.List.{take-take}
use Rattle.wire_msg.specs.Header.{number_at}
use Rattle.wire_query.specs.Spelling.{flag_word}
use Rattle.wire_query.proofs.ReadLaws.{query_read}
use Rattle.wire_query.proofs.query.RawQuery.secondary_ok.Goals as goal

-- the four bytes of flags
word_is : (bytes : List ℕ) (word : ℕ) → word ≡ from_le_bytes w32 (take 4 (slice_range bytes 16 20)) → word ≡ number_at bytes 16
word_is bytes word e = e ∙ ap (from_le_bytes w32) (take-take 4 4 (drop 16 bytes) (omega arith))

is_set : (b : Bool) (word : ℕ) → word ≡ flag_word b → not (eqb word 0) ≡ b
is_set true word e = ap (λ (n : ℕ). not (eqb n 0)) e
is_set false word e = ap (λ (n : ℕ). not (eqb n 0)) e

pub slice_bounds-little_u32-end : goal.slice_bounds-little_u32-end
slice_bounds-little_u32-end c =
    let no : length c.args.self.bytes.now < 20 → ⊥ = λ lt. not_there c.args.self.spelled (λ s. let r = query_read s.0 c.args.self.bytes.now s.1 in omega (arith, lt, r.long)) in
    omega (arith, no)

pub returns : goal.returns
returns c = λ q s. is_set q.secondary_ok c.little_u32.result (word_is c.args.self.bytes.now c.little_u32.result c.little_u32.ensures ∙ (query_read q c.args.self.bytes.now s).word)
