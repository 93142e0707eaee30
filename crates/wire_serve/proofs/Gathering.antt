-- How many bytes are gathered, and what they are then.
use Rattle.std.proofs.Common.{◌≡◌, ℕ, ◌-◌, ◌<◌, ◌≤◌, List, ◌++◌, length, ap, arith, subst, sym, length-append}
use Rattle.wire_msg.specs.declared.header.MsgHeader.{MsgHeader}
use Rattle.wire_msg.specs.{number_at}
use Rattle.wire_msg.proofs.Lemmas.{header_front}
use Rattle.wire_serve.specs.Heads.{BeginsQuery, IsOtherHeader, IsPart, IsQueryHeader, IsWholeQuery, IsWithin, of_header, of_query}

-- the header stays that of the bytes when more come
begins_longer : (part more : List ℕ) → BeginsQuery part → BeginsQuery (part ++ more)
begins_longer part more b = record {
  header = omega (arith, b.header, length-append part more);
  is_query = subst IsQueryHeader (sym (header_front part more b.header)) b.is_query;
}

same_length : (part more : List ℕ) → BeginsQuery part → number_at (part ++ more) 0 ≡ number_at part 0
same_length part more b = ap (λ (h : MsgHeader). h.length) (header_front part more b.header)

-- of a header no more than 16 bytes are wanted
pub within_header : (part more : List ℕ) → length part < 16 → length more ≤ 16 - length part → IsWithin (part ++ more)
within_header part more lt le = record {
  query = λ b. omega (arith, lt, le, length-append part more, b.is_query.least);
  header = λ none. omega (arith, lt, le, length-append part more);
}

-- of a query no more than its header says
pub within_query : (part more : List ℕ) → BeginsQuery part → length part < number_at part 0
    → length more ≤ number_at part 0 - length part → IsWithin (part ++ more)
within_query part more begun lt le = record {
  query = λ b. omega (arith, lt, le, length-append part more, same_length part more begun);
  header = λ none. absurd (none (begins_longer part more begun));
}

-- what is begun as a query isn't a header alone
pub part_of_query : (part : List ℕ) → BeginsQuery part → IsPart part → length part < number_at part 0
part_of_query part b (of_header lt) = omega (arith, lt, b.header)
part_of_query part b (of_query begun lt) = lt

pub not_other : (part : List ℕ) → 16 ≤ length part → (BeginsQuery part → ⊥) → IsPart part → ⊥
not_other part le none (of_header lt) = omega (arith, lt, le)
not_other part le none (of_query begun lt) = none begun

pub whole_query : (part : List ℕ) (len : ℕ) → BeginsQuery part → len ≡ number_at part 0 → IsWithin part → len ≤ length part → IsWholeQuery part
whole_query part len b is w le = record { begins = b; whole = let most = w.query b in omega (arith, most, is, le) }

pub other_header : (part : List ℕ) → 16 ≤ length part → (BeginsQuery part → ⊥) → IsWithin part → IsOtherHeader part
other_header part le none w = record { whole = let most = w.header none in omega (arith, most, le); other = none }
