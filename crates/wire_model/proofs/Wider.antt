-- The state of bytes under a greater limit on messages.
use Rattle.std.proofs.Common.{◌≡◌, ◌≢◌, ℕ, ◌<◌, ◌≤◌, ℤ, pos, Bool, true, false, List, [], ◌∷◌, length, take, drop, refl, sym, ◌∙◌, ap, subst, arith, ◌⊎◌, inl, inr, nat_lt}
use Rattle.std.specs.Prelude.{if◌then◌else◌}
use Rattle.std.specs.Ordering.{int_eq}
use Rattle.std.proofs.lemmas.Bool.{cases_lt}
use Rattle.std.proofs.lemmas.Bool.Decides.{Decides-int_eq, nat_tests}
use Rattle.std.proofs.lemmas.List.{take-append-drop}
use Rattle.wire_msg.specs.{FaultMsg, HeaderFault, IsBad, IsGoodHeader, IsMessage, IsOpen, Message, header_of, message_len, number_at}
use Rattle.wire_msg.specs.Faults.{no_header, of_frame, of_header, of_parts, unlike}
use Rattle.wire_msg.specs.Header.{of_length, of_opcode}
use Rattle.wire_msg.specs.Standing.{bad_header, bad_message, in_header, in_message}
use Rattle.wire_msg.specs.declared.fault.MsgFault.{MsgFault}
use Rattle.wire_msg.specs.declared.header.MsgHeader.{MsgHeader}
use Rattle.wire_msg.proofs.Lemmas.{header_front}
use Rattle.wire_stream.specs.{HoldsNoMore}
use Rattle.wire_peer.specs.{is_longer}

module _ (l wide : ℕ) (least : 26 ≤ l) (le : l ≤ wide) where
  pub good_wider : (h : MsgHeader) → IsGoodHeader l h → IsGoodHeader wide h
  good_wider h g = let most = g.most in
      record { least = g.least; most = omega (arith, most, le); opcode = g.opcode }

  pub open_wider : (b : List ℕ) → IsOpen l b → IsOpen wide b
  open_wider b (in_header lt) = in_header lt
  open_wider b (in_message room good lt) = in_message room (good_wider (header_of b) good) lt

  pub no_more_wider : (b : List ℕ) → HoldsNoMore l b → HoldsNoMore wide b
  no_more_wider b (inl few) = inl few
  no_more_wider b (inr more) = inr (good_wider (header_of b) more.0, more.1)

  pub message_wider : (b : List ℕ) → IsMessage l b → IsMessage wide b
  message_wider b (within, spelled) = (omega (arith, within, le), spelled)

  -- a good header has no fault
  no_fault : (h : MsgHeader) (f : MsgFault) → IsGoodHeader l h → HeaderFault l h f → ⊥
  no_fault h f g (of_length (inl low) e) = let x = g.least in omega (arith, low, x)
  no_fault h f g (of_length (inr high) e) = let x = g.most in omega (arith, high, x)
  no_fault h f g (of_opcode low most other e) = other g.opcode

  same_or_other : (x y : ℤ) → (x ≡ y) ⊎ (x ≢ y)
  same_or_other x y = by (int_eq x y) refl
    where
      by : (b : Bool) → int_eq x y ≡ b → (x ≡ y) ⊎ (x ≢ y)
      by true e = inl (grind (arith, Decides-int_eq x y))
      by false e = inr (λ same. (let no_ : true ≡ false = grind (arith, Decides-int_eq x y) in cc))

  -- Bytes that are bad, with no more of them than show it, are bad under the greater limit too, or
  -- the beginning of a message there.
  pub bad_wider : (b : List ℕ) (f : MsgFault) → IsBad l b f → HoldsNoMore l b
      → IsOpen wide b ⊎ ((g : MsgFault) × IsBad wide b g)
  bad_wider b f (bad_header room (of_length (inl low) e)) more =
      inr (f, bad_header room (of_length (inl low) e))
  bad_wider b f (bad_header room (of_length (inr high) e)) more =
      elim (cases_lt wide (header_of b).length) [
        | inl beyond ↦ inr (f, bad_header room (of_length (inr beyond) e))
        | inr within ↦ elim (same_or_other (header_of b).opcode (pos 2013)) [
          | inl same ↦ inl (in_message room (record {
            least = omega (arith, least, high);
            most = within;
            opcode = same;
          }) (few more))
          | inr other ↦ inr (
            _,
            bad_header room
                (of_opcode (omega (arith, least, high)) within other refl),
          )
        ]
      ]
    where
      few : HoldsNoMore l b → length b < number_at b 0
      few (inl n) = omega (arith, n, least, high)
      few (inr n) = absurd (let x = n.0.most in omega (arith, x, high))
  bad_wider b f (bad_header room (of_opcode low most other e)) more =
      inr (f, bad_header room (of_opcode low (omega (arith, most, le)) other e))
  bad_wider b f (bad_message room good enough fault) more =
      inr (f, bad_message room (good_wider (header_of b) good) enough (by fault))
    where
      part : List ℕ
      part = take (number_at b 0) b

      by : FaultMsg part l f → FaultMsg part wide f
      by (of_frame (no_header lt e)) = of_frame (no_header lt e)
      by (of_frame (of_header long h)) =
          let same : header_of b ≡ header_of part = ap header_of
          (sym (take-append-drop (number_at b 0) b)) ∙ header_front part (drop (number_at b 0) b)
          long in
          absurd (no_fault (header_of part) f (subst (IsGoodHeader l) same good) h)
      by (of_frame (unlike long g other e)) =
          of_frame (unlike long (good_wider (header_of part) g) other e)
      by (of_parts framed p) = of_parts (record {
        header = framed.header;
        good = good_wider (header_of part) framed.good;
        whole = framed.whole;
      }) p

  -- messages that aren't longer than the limit aren't longer than the greater one
  pub longer_wider : (ms : List Message) → is_longer l ms ≡ false → is_longer wide ms ≡ false
  longer_wider [] e = refl
  longer_wider (m ∷ ms) e =
      by (nat_lt l (message_len m.content)) refl (nat_lt wide (message_len m.content)) refl
      (λ x. longer_wider ms x) e
    where
      by : (a : Bool) → nat_lt l (message_len m.content) ≡ a → (b : Bool)
          → nat_lt wide (message_len m.content) ≡ b
          → (is_longer l ms ≡ false → is_longer wide ms ≡ false)
          → (if a then true else is_longer l ms) ≡ false
          → (if b then true else is_longer wide ms) ≡ false
      by true x b y others z = absurd (let no_ : true ≡ false = z in cc)
      by false x true y others z = absurd (let low : message_len m.content ≤ l = grind (arith, nat_tests)
          in let high : wide < message_len m.content = grind (arith, nat_tests) in
          omega (arith, low, high, le))
      by false x false y others z = others z
