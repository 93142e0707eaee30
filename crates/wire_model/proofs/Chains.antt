-- The ids of requests and replies, and the chain of replies.
use Rattle.std.proofs.Common.{◌≡◌, inl, inr, ℕ, zero, suc, ℤ, pos, ◌+◌, ◌≤◌, FitsSigned, Bool, true, false, true≢false, List, [], ◌∷◌, ◌++◌, refl, sym, ap, subst, ◌∙◌, append_assoc, arith}
use Rattle.std.specs.Prelude.{◌≤ℤ◌, negsuc, All, if◌then◌else◌, nat_lt}
use Rattle.std.specs.Int.{w32}
use Rattle.std.proofs.lemmas.Bool.{cases_lt}
use Rattle.std.proofs.lemmas.Bool.Decides.{nat_tests}
use Rattle.std.proofs.lemmas.List.Elements.{All-head, All-tail}
use Rattle.wire_msg.specs.{Content, IsContent, Message, canonical, message_len}
use Rattle.wire_peer.specs.{Asked, IsFirstFree, chain, id_after, id_after_one, id_following, id_past, is_longer, next_id, request, written}
use Rattle.wire_peer.specs.declared.calls.CallKind.{CallKind}
use Rattle.wire_model.proofs.Lists.{Each}
use Rattle.wire_model.proofs.Wires.{Fit}

-- ---- reply ids

-- from 1 to the greatest int32
pub record IsReplyId (n : ℕ) : Type 0 where
  pub least : 1 ≤ n
  pub most : n ≤ 2147483647

pub first_reply_id : IsReplyId 1
first_reply_id = record { least = omega arith; most = omega arith }

pub reply_id_fits : (n : ℕ) → IsReplyId n → FitsSigned w32 (pos n)
reply_id_fits n r = let most = r.most in grind arith

pub reply_id_next : (n : ℕ) → IsReplyId n → IsReplyId (id_after_one n)
reply_id_next n r = by (nat_lt n 2147483647) refl
  where
    by : (b : Bool) → nat_lt n 2147483647 ≡ b → IsReplyId (if b then n + 1 else 1)
    by true e = record { least = omega arith; most = grind (arith, nat_tests) }
    by false e = first_reply_id

pub reply_id_after : (n : ℕ) (answers : List Content) → IsReplyId n → IsReplyId (id_after n answers)
reply_id_after n [] r = r
reply_id_after n (a ∷ answers) r = reply_id_after (id_after_one n) answers (reply_id_next n r)

-- the id after the replies to a request, which may want none, is one too
pub reply_id_behind : (n : ℕ) (a : Asked) (answers : List Content) → IsReplyId n → IsReplyId (next_id n a answers)
reply_id_behind n a answers r = elim a.more_to_come as (λ b. IsReplyId (if b then n else id_after n answers)) [
  | true ↦ r
  | false ↦ reply_id_after n answers r
]

-- ---- chains

-- each of them has a spelling within the limit
abbrev pub AllFit : ℕ → List Message → Type 0
AllFit limit ms = Each (Fit limit) ms

-- of messages within the limit the first one is within it, and so are the others
first_within : (limit : ℕ) (c : Content) (others : Bool) → (if nat_lt limit (message_len c) then true else others) ≡ false → (message_len c ≤ limit) × (others ≡ false)
first_within limit c others e = by (nat_lt limit (message_len c)) refl e
  where
    by : (b : Bool) → nat_lt limit (message_len c) ≡ b → (if b then true else others) ≡ false → (message_len c ≤ limit) × (others ≡ false)
    by true n q = absurd (true≢false q)
    by false n q = (let le : message_len c ≤ limit = grind (arith, nat_tests) in le, q)

pub chain_fits : (limit id : ℕ) (to : ℤ) (answers : List Content) → is_longer limit (chain id to answers) ≡ false → IsReplyId id → FitsSigned w32 to
    → All (λ (c : Content). ∥ IsContent c ∥₁) answers → AllFit limit (chain id to answers)
chain_fits limit id to [] short r fits are = tt
chain_fits limit id to (a ∷ answers) short r fits are =
    let cut = first_within limit a (is_longer limit (chain (id_after_one id) (pos id) answers)) short in (
      record { within = cut.0; id = reply_id_fits id r; response_to = fits; content = All-head (λ (c : Content). ∥ IsContent c ∥₁) a answers are },
      chain_fits limit (id_after_one id) (pos id) answers cut.1 (reply_id_next id r) (reply_id_fits id r) (All-tail (λ (c : Content). ∥ IsContent c ∥₁) a answers are),
    )

pub written-append : (ms ns : List Message) → written (ms ++ ns) ≡ written ms ++ written ns
written-append [] ns = refl
written-append (m ∷ ms) ns = ap (λ bytes. canonical m ++ bytes) (written-append ms ns) ∙ sym (append_assoc (canonical m) (written ms) (written ns))

-- ---- request ids

-- from 1 to the greatest int32
pub record IsRequestId (id : ℤ) : Type 0 where
  pub number : ℕ
  pub is : id ≡ pos number
  pub least : 1 ≤ number
  pub most : number ≤ 2147483647

pub request_id_fits : (id : ℤ) → IsRequestId id → FitsSigned w32 id
request_id_fits id r = let most = r.most in subst (FitsSigned w32) (sym r.is) (grind arith)

pub request_id_next : (id : ℤ) → IsRequestId id → IsRequestId (id_following id)
request_id_next id r = rw r.is (by r.number r.least r.most)
  where
    by : (n : ℕ) → 1 ≤ n → n ≤ 2147483647 → IsRequestId (id_following (pos n))
    by n least most = elim (cases_lt n 2147483647) [
      | inl low ↦ record { number = n + 1; is = grind arith; least = omega arith; most = omega arith }
      | inr high ↦ record { number = 1; is = grind arith; least = omega arith; most = omega arith }
    ]

pub request_id_past : (id : ℤ) (places : ℕ) → IsRequestId id → IsRequestId (id_past id places)
request_id_past id zero r = r
request_id_past id (suc k) r = request_id_next (id_past id k) (request_id_past id k r)

-- the first free id is one, and so is the one after it
pub request_id_free : (next : ℤ) (used : List ℤ) (id : ℤ) → IsFirstFree next used id → IsRequestId next → IsRequestId id
request_id_free next used id f r = subst IsRequestId (sym f.is) (request_id_past next f.places r)

pub request_id_behind : (next : ℤ) (used : List ℤ) (id : ℤ) → IsFirstFree next used id → IsRequestId next → IsRequestId (id_following id)
request_id_behind next used id f r = request_id_next id (request_id_free next used id f r)

-- a request under it has a spelling, if its content has one within the limit
pub request_fits : (limit : ℕ) (id : ℤ) (kind : CallKind) (c : Content) → IsRequestId id → message_len c ≤ limit → ∥ IsContent c ∥₁ → Fit limit (request id kind c)
request_fits limit id kind c r le is = record { within = le; id = request_id_fits id r; response_to = grind arith; content = is }

-- an int32 from 1 on is one
pub request_id_of : (id : ℤ) → pos 1 ≤ℤ id → FitsSigned w32 id → IsRequestId id
request_id_of (pos n) le fits = record { number = n; is = refl; least = grind arith; most = grind arith }
request_id_of (negsuc n) le fits = absurd (grind arith)
