-- Bytes that are put into a room, one part behind the other.
use Rattle.std.proofs.Common.{◌≡◌, ℕ, ◌+◌, ◌≤◌, List, ◌++◌, length, take, drop, sym, ap, ◌∙◌, arith, append_assoc, length-append}
use Rattle.std.proofs.Math.Seq.{take-append_seam, drop-append_seam}
use Rattle.std.proofs.lemmas.List.{take-append-drop, length-take-le, length-drop}
use Rattle.byte_views.specs.Placing.{placed}

-- in place of as many bytes
pub placed_seam : (a mid part c : List ℕ) → length part ≡ length mid → placed (length a) part (a ++ (mid ++ c)) ≡ a ++ (part ++ c)
placed_seam a mid part c same =
    let cut : drop (length a + length part) (a ++ (mid ++ c)) ≡ c =
    ap (λ (n : ℕ). drop n (a ++ (mid ++ c))) (ap (λ (n : ℕ). length a + n) same ∙ sym (length-append a mid))
    ∙ ap (λ (x : List ℕ). drop (length (a ++ mid)) x) (sym (append_assoc a mid c)) ∙ drop-append_seam (a ++ mid) c in
    ap (λ (x : List ℕ). x ++ (part ++ drop (length a + length part) (a ++ (mid ++ c)))) (take-append_seam a (mid ++ c)) ∙ ap (λ (x : List ℕ). a ++ (part ++ x)) cut

-- a room of so many bytes, in three parts
pub record Parted (room : List ℕ) (at n : ℕ) : Type 0 where
  pub front : List ℕ
  pub mid : List ℕ
  pub behind : List ℕ
  pub room_is : room ≡ front ++ (mid ++ behind)
  pub front_is : length front ≡ at
  pub mid_is : length mid ≡ n

pub parted : (room : List ℕ) (at n : ℕ) → at + n ≤ length room → Parted room at n
parted room at n le = record {
  front = take at room;
  mid = take n (drop at room);
  behind = drop n (drop at room);
  room_is = sym (ap (λ (x : List ℕ). take at room ++ x) (take-append-drop n (drop at room)) ∙ take-append-drop at room);
  front_is = length-take-le at room (omega (arith, le));
  mid_is = length-take-le n (drop at room) (omega (arith, le, length-drop at room));
}

pub placed_in : (room part : List ℕ) (at : ℕ) (p : Parted room at (length part)) → placed at part room ≡ p.front ++ (part ++ p.behind)
placed_in room part at p =
    ap (λ (x : List ℕ). placed at part x) p.room_is ∙ ap (λ (n : ℕ). placed n part (p.front ++ (p.mid ++ p.behind))) (sym p.front_is)
    ∙ placed_seam p.front p.mid part p.behind (sym p.mid_is)

-- one part behind the other
pub and_then : (room part next one two : List ℕ) (at behind : ℕ) → at + length part + length next ≤ length room → one ≡ placed at part room → behind ≡ at + length part → two ≡ placed behind next one
    → two ≡ placed at (part ++ next) room
and_then room part next one two at behind le is-one is-behind is-two =
    let both : length (part ++ next) ≡ length part + length next = length-append part next in
    let p = parted room at (length (part ++ next)) (omega (arith, le, both)) in
    let x = take (length part) p.mid in let y = drop (length part) p.mid in
    let mid : p.mid ≡ x ++ y = sym (take-append-drop (length part) p.mid) in
    let x-is : length x ≡ length part = length-take-le (length part) p.mid (omega (arith, both, p.mid_is)) in
    let y-is : length y ≡ length next = omega (arith, both, p.mid_is, length-drop (length part) p.mid) in
    let room-is : room ≡ p.front ++ (x ++ (y ++ p.behind)) = p.room_is ∙ ap (λ (m : List ℕ). p.front ++ (m ++ p.behind)) mid ∙ ap (λ (m : List ℕ). p.front ++ m) (append_assoc x y p.behind) in
    let one-is : one ≡ (p.front ++ part) ++ (y ++ p.behind) =
    is-one ∙ ap (λ (r : List ℕ). placed at part r) room-is ∙ ap (λ (n : ℕ). placed n part (p.front ++ (x ++ (y ++ p.behind)))) (sym p.front_is)
    ∙ placed_seam p.front x part (y ++ p.behind) (sym x-is) ∙ sym (append_assoc p.front part (y ++ p.behind)) in
    let behind-is : behind ≡ length (p.front ++ part) = omega (arith, is-behind, p.front_is, length-append p.front part) in
    let two-is : two ≡ (p.front ++ part) ++ (next ++ p.behind) =
    is-two ∙ ap (λ (r : List ℕ). placed behind next r) one-is ∙ ap (λ (n : ℕ). placed n next ((p.front ++ part) ++ (y ++ p.behind))) behind-is
    ∙ placed_seam (p.front ++ part) y next p.behind (sym y-is) in
    two-is ∙ append_assoc p.front part (next ++ p.behind) ∙ ap (λ (m : List ℕ). p.front ++ m) (sym (append_assoc part next p.behind)) ∙ sym (placed_in room (part ++ next) at p)

-- three parts
pub three_parts : (room a b c r1 r2 r3 : List ℕ) (at m n : ℕ) → at + length (a ++ (b ++ c)) ≤ length room → r1 ≡ placed at a room → m ≡ at + length a → r2 ≡ placed m b r1 → n ≡ m + length b → r3 ≡ placed n c r2
    → r3 ≡ placed at (a ++ (b ++ c)) room
three_parts room a b c r1 r2 r3 at m n le s1 m-is s2 n-is s3 =
    let l1 = length-append a (b ++ c) in let l2 = length-append b c in let ab = length-append a b in
    let t2 = and_then room a b r1 r2 at m (omega (arith, le, l1, l2)) s1 m-is s2 in
    let t3 = and_then room (a ++ b) c r2 r3 at n (omega (arith, le, l1, l2, ab)) t2 (omega (arith, m-is, n-is, ab)) s3 in
    t3 ∙ ap (λ (x : List ℕ). placed at x room) (append_assoc a b c)

-- four parts
pub four_parts : (room a b c d r1 r2 r3 r4 : List ℕ) (at m n o : ℕ) → at + length (a ++ (b ++ (c ++ d))) ≤ length room
    → r1 ≡ placed at a room → m ≡ at + length a → r2 ≡ placed m b r1 → n ≡ m + length b → r3 ≡ placed n c r2 → o ≡ n + length c → r4 ≡ placed o d r3
    → r4 ≡ placed at (a ++ (b ++ (c ++ d))) room
four_parts room a b c d r1 r2 r3 r4 at m n o le s1 m-is s2 n-is s3 o-is s4 =
    let l1 = length-append a (b ++ (c ++ d)) in let l2 = length-append b (c ++ d) in let l3 = length-append c d in
    let ab = length-append a b in let abc = length-append (a ++ b) c in
    let t2 = and_then room a b r1 r2 at m (omega (arith, le, l1, l2, l3)) s1 m-is s2 in
    let t3 = and_then room (a ++ b) c r2 r3 at n (omega (arith, le, l1, l2, l3, ab)) t2 (omega (arith, m-is, n-is, ab)) s3 in
    let t4 = and_then room ((a ++ b) ++ c) d r3 r4 at o (omega (arith, le, l1, l2, l3, ab, abc)) t3 (omega (arith, m-is, n-is, o-is, ab, abc)) s4 in
    t4 ∙ ap (λ (x : List ℕ). placed at x room) (append_assoc (a ++ b) c d ∙ append_assoc a b (c ++ d))

-- five parts
pub five_parts : (room a b c d e r1 r2 r3 r4 r5 : List ℕ) (at m n o p : ℕ) → at + length (a ++ (b ++ (c ++ (d ++ e)))) ≤ length room
    → r1 ≡ placed at a room → m ≡ at + length a → r2 ≡ placed m b r1 → n ≡ m + length b → r3 ≡ placed n c r2 → o ≡ n + length c → r4 ≡ placed o d r3 → p ≡ o + length d → r5 ≡ placed p e r4
    → r5 ≡ placed at (a ++ (b ++ (c ++ (d ++ e)))) room
five_parts room a b c d e r1 r2 r3 r4 r5 at m n o p le s1 m-is s2 n-is s3 o-is s4 p-is s5 =
    let l1 = length-append a (b ++ (c ++ (d ++ e))) in let l2 = length-append b (c ++ (d ++ e)) in let l3 = length-append c (d ++ e) in let l4 = length-append d e in
    let m1 = length-append a (b ++ (c ++ d)) in let m2 = length-append b (c ++ d) in let m3 = length-append c d in
    let t4 = four_parts room a b c d r1 r2 r3 r4 at m n o (omega (arith, le, l1, l2, l3, l4, m1, m2, m3)) s1 m-is s2 n-is s3 o-is s4 in
    let t5 = and_then room (a ++ (b ++ (c ++ d))) e r4 r5 at p (omega (arith, le, l1, l2, l3, l4, m1, m2, m3)) t4 (omega (arith, m-is, n-is, o-is, p-is, m1, m2, m3)) s5 in
    t5 ∙ ap (λ (x : List ℕ). placed at x room) (append_assoc a (b ++ (c ++ d)) e ∙ ap (λ (x : List ℕ). a ++ x) (append_assoc b (c ++ d) e ∙ ap (λ (x : List ℕ). b ++ x) (append_assoc c d e)))
