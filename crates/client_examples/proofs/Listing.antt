-- The lines of calls are written one after another.
use Rattle.std.proofs.Common.{◌≡◌, ◌+◌, ◌<◌, ◌≤◌, ◌++◌, [], ℕ, List, Option, length, drop, get_or, refl, sym, ap, subst, ◌∙◌, append_assoc}
use Rattle.std.specs.Io.KnownBytes.{Appends}
use Rattle.std.proofs.KnownBytes.{Appends-nil, Appends-trans}
use Rattle.std.proofs.lemmas.List.{at_drop_all, at_drop_more, append-nil}
use Rattle.wire_end.specs.declared.call_record.CallRecord.{CallRecord}
use Rattle.client_examples.specs.Lines.{call_line, call_lines}

-- what was written, and the lines of the calls from this index on, are all lines
pub record Listed (old new : Option (List ℕ)) (calls : List CallRecord) (k : ℕ) : Type 0 where
  pub text : List ℕ
  pub written : Appends old new text
  pub with_left : call_lines 0 calls ≡ text ++ call_lines k (drop k calls)

pub none_listed : (a : Option (List ℕ)) (calls : List CallRecord) → Listed a a calls 0
none_listed a calls = record { text = []; written = Appends-nil a; with_left = refl }

lines_more : (calls : List CallRecord) (k : ℕ) (call : CallRecord) → k < length calls → call ≡ get_or calls k call
    → call_lines k (drop k calls) ≡ call_line k call ++ call_lines (k + 1) (drop (k + 1) calls)
lines_more calls k call within is =
    at_drop_more (call_lines k) calls k call within
    ∙ ap (λ (x : CallRecord). call_line k x ++ call_lines (k + 1) (drop (k + 1) calls)) (sym is)

-- one more line is written
pub listed_more : (a b c : Option (List ℕ)) (calls : List CallRecord) (k : ℕ) (call : CallRecord) → k < length calls → call ≡ get_or calls k call
    → Listed a b calls k → Appends b c (call_line k call) → Listed a c calls (k + 1)
listed_more a b c calls k call within is l w = record {
  text = l.text ++ call_line k call;
  written = Appends-trans a b c l.text (call_line k call) l.written w;
  with_left = l.with_left ∙ ap (λ (x : List ℕ). l.text ++ x) (lines_more calls k call within is)
      ∙ sym (append_assoc l.text (call_line k call) (call_lines (k + 1) (drop (k + 1) calls)));
}

-- none is left
pub listed_all : (a b : Option (List ℕ)) (calls : List CallRecord) (k : ℕ) → length calls ≤ k → Listed a b calls k
    → Appends a b (call_lines 0 calls)
listed_all a b calls k past l =
    subst (Appends a b)
    (sym (l.with_left ∙ ap (λ (x : List ℕ). l.text ++ x) (at_drop_all (call_lines k) calls k past) ∙ append-nil l.text)) l.written
