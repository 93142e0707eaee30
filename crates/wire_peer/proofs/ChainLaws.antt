-- The chain of replies, one reply at a time.
use Rattle.std.proofs.Common.{◌≡◌, ◌≤◌, ℕ, ℤ, arith, true≢false, length, map, Bool, true, false, List, [], ◌∷◌, ◌++◌, refl, ap, sym, ◌∙◌, append_assoc}
use Rattle.std.specs.Prelude.{Result, Ok, Err, OnOk, if◌then◌else◌, nat_lt, pos, not, ◌==◌}
use Rattle.std.specs.Result.{is_ok}
use Rattle.std.specs.Io.{StartsWith}
use Rattle.std.proofs.lemmas.Bool.Decides.{nat_tests}
use Rattle.std.proofs.Transfers.{starts_with_of_append, starts_with_trans}
use Rattle.wire_msg.specs.declared.payload_buf.PayloadBuf.{PayloadBuf}
use Rattle.wire_peer.specs.Contents.{buf_content}
use Rattle.wire_msg.specs.{Content, Message, canonical, message_len}
use Rattle.wire_peer.specs.Chains.{are_left, chain, id_after, id_after_one, is_longer, reply, written}

pub on_ok : {T E P : Type 0} (r : Result T E) → is_ok r ≡ true → OnOk r P → P
on_ok (Ok x) e p = p
on_ok (Err x) e p = absurd (apart e)
  where
    apart : false ≡ true → ⊥
    apart q = cc

-- how long the replies are doesn't depend on their ids
pub same_longer : (limit : ℕ) (id id' : ℕ) (to to' : ℤ) (cs : List Content) → is_longer limit (chain id to cs) ≡ is_longer limit (chain id' to' cs)
same_longer limit id id' to to' [] = refl
same_longer limit id id' to to' (c ∷ cs) = ap (λ (b : Bool). if nat_lt limit (message_len c) then true else b) (same_longer limit (id_after_one id) (id_after_one id') (pos id) (pos id') cs)

-- a reply whose id is given as an int32
abbrev pub reply_with : ℤ → ℤ → Bool → Content → Message
reply_with id to more answer = record { id = id; response_to = to; flags = record { more_to_come = more; exhaust_allowed = false }; content = answer }

-- a chain within the limit has a first reply within it, and others
pub first_within : (limit id : ℕ) (to : ℤ) (c : Content) (cs : List Content) → is_longer limit (chain id to (c ∷ cs)) ≡ false
    → (message_len c ≤ limit) × (is_longer limit (chain (id_after_one id) (pos id) cs) ≡ false)
first_within limit id to c cs e = within (nat_lt limit (message_len c)) refl e
  where
    others : Bool
    others = is_longer limit (chain (id_after_one id) (pos id) cs)

    not_below : nat_lt limit (message_len c) ≡ false → message_len c ≤ limit
    not_below n = grind (arith, nat_tests)

    within : (b : Bool) → nat_lt limit (message_len c) ≡ b → (if b then true else others) ≡ false → (message_len c ≤ limit) × (others ≡ false)
    within true n q = absurd (true≢false q)
    within false n q = (not_below n, q)

-- the first reply is too long
pub first_longer : (limit id : ℕ) (to : ℤ) (c : Content) (cs : List Content) → true ≡ nat_lt limit (message_len c) → true ≡ is_longer limit (chain id to (c ∷ cs))
first_longer limit id to c cs e = ap (λ (b : Bool). if b then true else is_longer limit (chain (id_after_one id) (pos id) cs)) e

-- the first reply isn't too long
pub first_not_longer : (limit id : ℕ) (to : ℤ) (c : Content) (cs : List Content) → false ≡ nat_lt limit (message_len c) → is_longer limit (chain id to (c ∷ cs)) ≡ is_longer limit (chain id to cs)
first_not_longer limit id to c cs e =
    sym (ap (λ (b : Bool). if b then true else is_longer limit (chain (id_after_one id) (pos id) cs)) e) ∙ same_longer limit (id_after_one id) id (pos id) to cs

-- whether answers are left
pub others_left : (bs : List PayloadBuf) → not (length bs == 0) ≡ are_left (map buf_content bs)
others_left [] = refl
others_left (b ∷ bs) = grind (arith, nat_tests)

-- how far the replies were appended, with some of the answers left
pub record IsAppended (limit first : ℕ) (to : ℤ) (all : List Content) (old : List ℕ) (next : ℕ) (to' : ℤ) (left : List Content) (new : List ℕ) : Type 0 where
  pub within : is_longer limit (chain next to' left) ≡ false
  pub next_is : id_after first all ≡ id_after next left
  pub added : old ++ written (chain first to all) ≡ new ++ written (chain next to' left)
  pub kept : StartsWith new old

-- one more reply was appended
pub one_appended : (limit first : ℕ) (to : ℤ) (all : List Content) (old : List ℕ) (next next' : ℕ) (to' to'' : ℤ) (more : Bool) (a : Content) (left others : List Content) (new new' : List ℕ)
    → IsAppended limit first to all old next to' left new → left ≡ a ∷ others → next' ≡ id_after_one next → to'' ≡ pos next → more ≡ are_left others
    → new' ≡ new ++ canonical (reply next to' more a) → IsAppended limit first to all old next' to'' others new'
one_appended limit first to all old next next' to' to'' more a left others new new' was cut id one is_more grown = record {
  within = rw (id, one) (first_within limit next to' a others (ap (λ cs. is_longer limit (chain next to' cs)) (sym cut) ∙ was.within)).1;
  next_is = was.next_is ∙ ap (id_after next) cut ∙ ap (λ n. id_after n others) (sym id);
  added = was.added ∙ ap (λ cs. new ++ written (chain next to' cs)) cut
      ∙ sym (append_assoc new (canonical (reply next to' (are_left others) a)) (written (chain (id_after_one next) (pos next) others)))
      ∙ ap (λ b. (new ++ canonical (reply next to' b a)) ++ written (chain (id_after_one next) (pos next) others)) (sym is_more)
      ∙ ap (λ bs. bs ++ written (chain (id_after_one next) (pos next) others)) (sym grown)
      ∙ ap (λ n. new' ++ written (chain n (pos next) others)) (sym id)
      ∙ ap (λ t. new' ++ written (chain next' t others)) (sym one);
  kept = starts_with_trans new' new old (starts_with_of_append new' new (canonical (reply next to' more a)) grown) was.kept;
}

pub length-zero : {A : Type 0} (xs : List A) → length xs ≡ 0 → xs ≡ []
length-zero [] e = refl
length-zero (x ∷ xs) e = absurd (omega (arith, e))
