-- A cursor whose documents are taken.
use Rattle.std.proofs.Common.{◌≡◌, ◌<◌, ℕ, zero, suc, List, [], ◌∷◌, Option, Some, length, map, get_or, refl, sym, ap, ◌∙◌, arith}
use Rattle.std.specs.Prelude.{slice_get, slice_set}
use Rattle.bson_raw.specs.{TreeValue}
use Rattle.test_store.specs.declared.store.Cursor.{Cursor}
use Rattle.test_store.specs.Held.{CursorView, NamespaceView, closed_at, cursor_of, namespace_buf, open_at, with_left}

pub left_set : (cs : List Cursor) (i : ℕ) (x y : Cursor) (vs : List TreeValue) → x ≡ get_or cs i x → cursor_of y ≡ record { namespace = namespace_buf x.namespace; left = vs }
    → map cursor_of (slice_set cs i y) ≡ with_left (Some i) vs (map cursor_of cs)
left_set [] i x y vs at new = refl
left_set (c ∷ cs) zero x y vs at new =
    ap (λ (z : CursorView). z ∷ map cursor_of cs) (new ∙ ap (λ (z : Cursor). record { namespace = namespace_buf z.namespace; left = vs }) at)
left_set (c ∷ cs) (suc i) x y vs at new = ap (λ (l : List CursorView). cursor_of c ∷ l) (left_set cs i x y vs at new)

pub cursor_at : (cs : List Cursor) (i : ℕ) (x : Cursor) → i < length cs → x ≡ get_or cs i x → slice_get (map cursor_of cs) i ≡ Some (cursor_of x)
cursor_at [] i x inside at = absurd (omega arith)
cursor_at (c ∷ cs) zero x inside at = ap (λ (z : Cursor). Some (cursor_of z)) (sym at)
cursor_at (c ∷ cs) (suc i) x inside at = cursor_at cs i x (omega arith) at

pub set_there : (cs : List Cursor) (i : ℕ) (y d : Cursor) → i < length cs → get_or (slice_set cs i y) i d ≡ y
set_there [] i y d inside = absurd (omega arith)
set_there (c ∷ cs) zero y d inside = refl
set_there (c ∷ cs) (suc i) y d inside = set_there cs i y d (omega arith)

pub closed : (n : NamespaceView) (i : Option ℕ) (cs : List CursorView) (c : CursorView) → open_at n i cs ≡ Some c → closed_at n i cs ≡ with_left i [] cs
closed n i cs c e = rw e refl
