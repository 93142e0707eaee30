use Rattle.std.proofs.Common.{◌≡◌, ◌∙◌, ◌*◌, ◌%◌, ◌^◌, Bool, cond, ℕ, ne_eqb, ap, sym}
use Rattle.std.specs.Prelude.{bit_xor}
use Rattle.std.specs.Hash.FoldHasher.{finish, initial, write}
use Rattle.bson_json_read.specs.Seen.{code_of, some_code}
use Rattle.bson_json_read.proofs.seen.code_of.Goals as goal

other : (code : ℕ) → (code ≡ 0 → ⊥) → some_code code ≡ code
other code some = ap (λ (b : Bool). cond b 1 code) (ne_eqb code 0 some)

pub returns-then-code-eq0-clause-code : goal.returns-then-code-eq0-clause-code
unfolding code_of
returns-then-code-eq0-clause-code c =
    let salt = c.args.offset * 0x9e37_79b9_7f4a_7c15 % 2 ^ 64 in
    let is : c.finish.result ≡ finish (write initial c.args.name.now) = c.finish.ensures ∙ ap finish (c.write.ensures ∙ (λ i. write (c.default-hasher.ensures i) (c.as_bytes.ensures.value i))) in
    sym (ap (λ (hash : ℕ). some_code (bit_xor hash salt)) (sym is) ∙ ap some_code c.if-code-eq0.true)

pub returns-else-code-eq0-clause-code : goal.returns-else-code-eq0-clause-code
unfolding code_of
returns-else-code-eq0-clause-code c =
    let salt = c.args.offset * 0x9e37_79b9_7f4a_7c15 % 2 ^ 64 in
    let is : c.finish.result ≡ finish (write initial c.args.name.now) = c.finish.ensures ∙ ap finish (c.write.ensures ∙ (λ i. write (c.default-hasher.ensures i) (c.as_bytes.ensures.value i))) in
    sym (ap (λ (hash : ℕ). some_code (bit_xor hash salt)) (sym is) ∙ other (bit_xor c.finish.result salt) c.if-code-eq0.false)
