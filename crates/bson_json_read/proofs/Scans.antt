-- A scan of a text that passes the plain bytes of a string, whatever follows, and what it tells of a whole text.
use Rattle.std.proofs.Common.{◌≡◌, ◌∙◌, ◌+◌, ◌<◌, ◌≤◌, ◌==◌, ◌||◌, ◌-◌, ℕ, zero, suc, List, [], ◌∷◌, ◌++◌, Bool, true, false, append-nil, drop, get_or, length, nat_lt, not, refl, sym, ap, arith}
use Rattle.std.specs.List.{prefix_len}
use Rattle.std.proofs.lemmas.List.{drop-drop, drop_all, length-drop}
use Rattle.std.proofs.lemmas.List.Sums.{prefix_len-le-length, prefix_len_passes}
use Rattle.json.specs.Run.{is_plain}
use Rattle.bson_json_read.specs.declared.extent.Scan.{Scan}
use Rattle.bson_json_read.specs.declared.extent.Within.TheVariants.{Quoted}
use Rattle.bson_json_read.specs.Extents.{EndsBehind, HasPassed, extent, text_len}

-- ---- the plain bytes of a string

neither : (p q r : Bool) → not (p || q || r) ≡ true → (p ≡ false) × (q ≡ false)
neither true q r h = cc h
neither false true r h = cc h
neither false false r h = (refl, refl)

-- a plain byte neither ends a string nor begins an escape
plain_byte : (count b : ℕ) (bs : List ℕ) → is_plain b ≡ true → extent Quoted count (b ∷ bs) ≡ suc (extent Quoted count bs)
plain_byte count b bs plain =
    let this = neither (b == 34) (b == 92) (nat_lt b 32) plain in
    rw (this.0, this.1) refl

plain_bytes : (count n : ℕ) (bs more : List ℕ) → n ≤ length bs → ((k : ℕ) → k < n → is_plain (get_or bs k 0) ≡ true) → extent Quoted count (bs ++ more) ≡ n + extent Quoted count (drop n bs ++ more)
plain_bytes count zero bs more le plain = omega arith
plain_bytes count (suc n) [] more le plain = absurd (omega arith)
plain_bytes count (suc n) (b ∷ bs) more le plain =
    let others = plain_bytes count n bs more (omega arith) (λ k below. plain (suc k) (omega arith)) in
    omega (arith, plain_byte count b (bs ++ more) (plain 0 (omega arith)), others)

pub past_plain : (s t : Scan) (text : List ℕ) → HasPassed s text → s.within ≡ Quoted → t.within ≡ s.within → t.braces ≡ s.braces → t.len ≡ s.len + prefix_len is_plain (drop s.len text) → HasPassed t text
past_plain s t text p quoted within opened len =
    let n : ℕ = prefix_len is_plain (drop s.len text) in
    let few : n ≤ length (drop s.len text) = prefix_len-le-length is_plain (drop s.len text) in
    let room : n ≤ length text - s.len = omega (arith, few, length-drop s.len text) in record {
      inside = omega (arith, p.inside, room, len);
      few = omega (arith, p.few, opened, len);
      behind = λ more.
          let passed = plain_bytes s.braces n (drop s.len text) more few (λ k below. prefix_len_passes is_plain (drop s.len text) k 0 below) in
          let old : extent s.within s.braces (drop s.len text ++ more) ≡ extent Quoted s.braces (drop s.len text ++ more) = rw quoted refl in
          let here : extent t.within t.braces (drop t.len text ++ more) ≡ extent Quoted s.braces (drop n (drop s.len text) ++ more) = rw (within, quoted, opened, len, drop-drop n s.len text) refl in
          omega (arith, p.behind more, old, passed, here, len);
    }

-- ---- a whole text

pub closed_len : (n : ℕ) (text : List ℕ) → EndsBehind n text → n ≡ text_len text
closed_len n text e = sym (e.whatever []) ∙ ap text_len (append-nil text)

pub open_len : (s : Scan) (text : List ℕ) → HasPassed s text → s.len ≡ length text → length text ≡ text_len text
open_len s text p all =
    let none : extent s.within s.braces (drop s.len text ++ []) ≡ 0 = ap (extent s.within s.braces) (append-nil (drop s.len text) ∙ drop_all s.len text (omega (arith, all))) in
    omega (arith, p.behind [], none, all, ap text_len (append-nil text))
