-- What is written of a head is read as the same one.
use Rattle.std.proofs.Common.{◌≡◌, ℕ, ◌<◌, FitsSigned, List, ◌++◌, length, take, drop, refl, sym, ap, subst, ◌∙◌, append_assoc, arith, length-append}
use Rattle.std.specs.Int.{w32, w64, cast_signed, cast_unsigned, from_le_bytes, to_le_bytes}
use Rattle.std.proofs.Math.Facts.{Fits-of_z}
use Rattle.std.proofs.lemmas.Int.{to_z-of_z}
use Rattle.std.proofs.lemmas.List.{take_at, drop_at}
use Rattle.std.proofs.lemmas.Nat.{from_le_bytes-to_le_bytes_4, from_le_bytes-to_le_bytes_8}
use Rattle.wire_frames.specs.Frames.{IsFrame}
use Rattle.wire_frames.specs.declared.head.Direction.{Direction}
use Rattle.wire_frames.specs.declared.head.Direction.TheVariants.{ToServer, FromServer}
use Rattle.wire_frames.specs.declared.head.RecordHead.{RecordHead}
use Rattle.wire_frames.specs.Heads.{HasHead, IsConnection, IsGoodHead, IsHead, connection_at, direction_at, direction_number, head_bytes, micros_at}
use Rattle.wire_frames.specs.Records.{IsRecord, head_of, message_of}
use Rattle.wire_frames.specs.Written.{record_of}

direction_small : (d : Direction) → direction_number d < 2
direction_small ToServer = omega arith
direction_small FromServer = omega arith

-- the numbers of a head that was written
micros_read : (h : RecordHead) → FitsSigned w64 h.micros → micros_at (head_bytes h) ≡ h.micros
micros_read h f =
    let z = h.micros in
    let is : take 8 (head_bytes h) ≡ to_le_bytes w64 (cast_unsigned w64 z) = refl in
    ap (λ (x : List ℕ). cast_signed w64 (from_le_bytes w64 x)) is
    ∙ ap (cast_signed w64) (from_le_bytes-to_le_bytes_8 (cast_unsigned w64 z) (Fits-of_z {w = w64} {z = z} f).fits) ∙ to_z-of_z w64 z f

connection_read : (h : RecordHead) → IsConnection h.connection → connection_at (head_bytes h) ≡ h.connection
connection_read h c =
    let is : take 8 (drop 8 (head_bytes h)) ≡ to_le_bytes w64 h.connection = refl in
    ap (from_le_bytes w64) is ∙ from_le_bytes-to_le_bytes_8 h.connection (omega (arith, c.fits))

direction_read : (h : RecordHead) → direction_at (head_bytes h) ≡ direction_number h.direction
direction_read h =
    let n = direction_number h.direction in
    let is : take 4 (drop 16 (head_bytes h)) ≡ to_le_bytes w32 n = refl in
    ap (from_le_bytes w32) is ∙ from_le_bytes-to_le_bytes_4 n (omega (arith, direction_small h.direction))

pub head_read : (h : RecordHead) → IsHead h → HasHead (head_bytes h) h
head_read h is = record { micros = sym (micros_read h is.micros); connection = sym (connection_read h is.connection); direction = sym (direction_read h) }

head_good : (h : RecordHead) → IsHead h → IsGoodHead (head_bytes h)
head_good h is = record {
  connection = subst IsConnection (sym (connection_read h is.connection)) is.connection;
  direction = subst (λ (n : ℕ). n < 2) (sym (direction_read h)) (direction_small h.direction);
}

-- the parts of a record that was written
pub written_head : (h : RecordHead) (message : List ℕ) → head_of (record_of h message) ≡ head_bytes h
written_head h message = take_at (head_bytes h) message 20 refl

pub written_message : (h : RecordHead) (message : List ℕ) → message_of (record_of h message) ≡ message
written_message h message = drop_at (head_bytes h) message 20 refl

pub written_is : (limit : ℕ) (h : RecordHead) (message : List ℕ) → IsHead h → IsFrame limit message → IsRecord limit (record_of h message)
written_is limit h message is frame =
    let size : length (head_bytes h) ≡ 20 = refl in
    record {
      head = omega (arith, size, length-append (head_bytes h) message);
      good = subst IsGoodHead (sym (written_head h message)) (head_good h is);
      message = subst (IsFrame limit) (sym (written_message h message)) frame;
    }

pub reads_back : (limit : ℕ) (h : RecordHead) (message : List ℕ) → IsHead h → IsFrame limit message
    → IsRecord limit (record_of h message) × HasHead (head_of (record_of h message)) h × (message_of (record_of h message) ≡ message)
reads_back limit h message is frame =
    (written_is limit h message is frame, subst (λ (b : List ℕ). HasHead b h) (sym (written_head h message)) (head_read h is), written_message h message)

-- the bytes of a record, appended in two steps
pub appended : (old mid new head message : List ℕ) (h : RecordHead) → mid ≡ old ++ head → head ≡ head_bytes h → new ≡ mid ++ message → new ≡ old ++ record_of h message
appended old mid new head message h first is second =
    second ∙ ap (λ (x : List ℕ). x ++ message) (first ∙ ap (λ (x : List ℕ). old ++ x) is) ∙ append_assoc old (head_bytes h) message
