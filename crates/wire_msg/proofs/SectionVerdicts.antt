-- All sections: what they are, or their first fault, but for the names; one of them at most.
use Rattle.std.proofs.Common.{◌≡◌, ◌≢◌, ℕ, ◌+◌, cond, eqb, List, [], ◌∷◌, ◌++◌, length, Result, Ok, Err, refl, sym, ap, subst, ◌∙◌, append_assoc, arith, length-append}
use Rattle.bson_elem.specs.declared.fault.BsonFault.{BsonFault}
use Rattle.bson_elem.specs.Trees.{Tree}
use Rattle.bson_elem.specs.Spelling.{IsBytes, document, elements}
use Rattle.bson_elem.specs.Faults.{FrontFault}
use Rattle.bson_elem.proofs.Lemmas.{IsBytes-after, no_front, ok_is, one_front, same_front}
use Rattle.wire_msg.specs.declared.fault.MsgFault.{MsgFault}
use Rattle.wire_msg.specs.declared.fault.MsgCause.TheVariants as causes
use Rattle.wire_msg.specs.Causes.{msg_fault}
use Rattle.bson_raw.specs.Split.{IsDocument}
use Rattle.wire_msg.specs.Messages.{Sequence, IsSequence, AreSequences}
use Rattle.wire_msg.specs.Spelling.{body_section, sequence_section, sequences_bytes}
use Rattle.wire_msg.specs.Faults.{SequenceFault}
use Rattle.wire_msg.specs.Checks.{IsNoSequence}
use Rattle.wire_msg.proofs.Verdicts.{same_sequence, sequence_is_sound, sequence_fails_once}

-- ---- a run of sequences, and how it ends: where none begins, or with a fault

pub data RunEnd (p : ℕ) (x : List ℕ) (out : Result (List ℕ) MsgFault) : Type 0 where
  ends_here : IsNoSequence x → out ≡ Ok x → RunEnd p x out
  fails_here : (rest : List ℕ) (f : MsgFault) → x ≡ 1 ∷ rest → SequenceFault p rest f → out ≡ Err f → RunEnd p x out

pub record Run (p : ℕ) (bytes : List ℕ) (qs : List Sequence) (out : Result (List ℕ) MsgFault) : Type 0 where
  pub rest : List ℕ
  pub fits : AreSequences qs
  pub parts : bytes ≡ sequences_bytes qs ++ rest
  pub stops : RunEnd (p + length (sequences_bytes qs)) rest out

tail_is : (a b : ℕ) (x y : List ℕ) → a ∷ x ≡ b ∷ y → x ≡ y
tail_is a b x y e = cc

end_once : (p : ℕ) (x y : List ℕ) (o o' : Result (List ℕ) MsgFault) → IsBytes x → x ≡ y → RunEnd p x o → RunEnd p y o' → o ≡ o'
end_once p x y o o' fits e (ends_here s is) (ends_here s' is') = is ∙ ap Ok e ∙ sym is'
end_once p x y o o' fits e (ends_here s is) (fails_here rest f one fault is') = absurd ((subst IsNoSequence (e ∙ one) s) refl)
end_once p x y o o' fits e (fails_here rest f one fault is) (ends_here s is') = absurd ((subst IsNoSequence (sym e ∙ one) s) refl)
end_once p x y o o' fits e (fails_here rest f one fault is) (fails_here rest' f' one' fault' is') =
    let same : rest ≡ rest' = tail_is 1 1 rest rest' (sym one ∙ e ∙ one') in
    let bytes : IsBytes rest = IsBytes-after (1 ∷ []) rest (subst IsBytes one fits) in
    is ∙ ap Err (sequence_fails_once p rest f f' bytes fault (subst (λ (z : List ℕ). SequenceFault p z f') (sym same) fault')) ∙ sym is'

begins_with_one : (q : Sequence) (rest : List ℕ) → IsNoSequence (sequence_section q ++ rest) → ⊥
unfolding sequence_section
begins_with_one q rest h = h refl

-- no sequence stands where a run ends
no_more : (p : ℕ) (x : List ℕ) (o : Result (List ℕ) MsgFault) (q : Sequence) (rest : List ℕ) → IsBytes x → IsSequence q → x ≡ sequence_section q ++ rest → RunEnd p x o → ⊥
no_more p x o q rest fits is e (ends_here s same) = begins_with_one q rest (subst IsNoSequence e s)
no_more p x o q rest fits is e (fails_here rest' f one fault same) = sequence_is_sound p rest' f q rest (IsBytes-after (1 ∷ []) rest' (subst IsBytes one fits)) is (sym one ∙ e) fault

further : (p : ℕ) (q : Sequence) (qs : List Sequence) → p + length (sequences_bytes (q ∷ qs)) ≡ (p + length (sequence_section q)) + length (sequences_bytes qs)
further p q qs = omega (arith, length-append (sequence_section q) (sequences_bytes qs))

one_run_from : (p : ℕ) (bytes : List ℕ) (qs rs : List Sequence) (x y : List ℕ) (o o' : Result (List ℕ) MsgFault) → IsBytes bytes → AreSequences qs → AreSequences rs → bytes ≡ sequences_bytes qs ++ x → bytes ≡ sequences_bytes rs ++ y → RunEnd (p + length (sequences_bytes qs)) x o → RunEnd (p + length (sequences_bytes rs)) y o' → (qs ≡ rs) × (o ≡ o')
one_run_from p bytes [] [] x y o o' fits f g is is' e e' = (refl, end_once (p + 0) x y o o' (subst IsBytes is fits) (sym is ∙ is') e e')
one_run_from p bytes [] (r ∷ rs) x y o o' fits f g is is' e e' = absurd (no_more (p + 0) x o r (sequences_bytes rs ++ y) (subst IsBytes is fits) g.0 (sym is ∙ is' ∙ append_assoc (sequence_section r) (sequences_bytes rs) y) e)
one_run_from p bytes (q ∷ qs) [] x y o o' fits f g is is' e e' = absurd (no_more (p + 0) y o' q (sequences_bytes qs ++ x) (subst IsBytes is' fits) f.0 (sym is' ∙ is ∙ append_assoc (sequence_section q) (sequences_bytes qs) x) e')
one_run_from p bytes (q ∷ qs) (r ∷ rs) x y o o' fits f g is is' e e' =
    let a = is ∙ append_assoc (sequence_section q) (sequences_bytes qs) x in
    let a' = is' ∙ append_assoc (sequence_section r) (sequences_bytes rs) y in
    let s = same_sequence bytes q r (sequences_bytes qs ++ x) (sequences_bytes rs ++ y) f.0 g.0 a a' in
    let after : IsBytes (sequences_bytes qs ++ x) = IsBytes-after (sequence_section q) (sequences_bytes qs ++ x) (subst IsBytes a fits) in
    let offset : p + length (sequences_bytes (r ∷ rs)) ≡ (p + length (sequence_section q)) + length (sequences_bytes rs) = further p r rs ∙ ap (λ (z : Sequence). (p + length (sequence_section z)) + length (sequences_bytes rs)) (sym s.0) in
    let t = one_run_from (p + length (sequence_section q)) (sequences_bytes qs ++ x) qs rs x y o o' after f.1 g.1 refl s.1 (subst (λ (n : ℕ). RunEnd n x o) (further p q qs) e) (subst (λ (n : ℕ). RunEnd n y o') offset e') in
    (ap (λ (z : Sequence). z ∷ qs) s.0 ∙ ap (λ (z : List Sequence). r ∷ z) t.0, t.1)

pub one_run : (p : ℕ) (bytes : List ℕ) (qs rs : List Sequence) (o o' : Result (List ℕ) MsgFault) → IsBytes bytes → Run p bytes qs o → Run p bytes rs o' → (qs ≡ rs) × (o ≡ o')
one_run p bytes qs rs o o' fits a b = one_run_from p bytes qs rs a.rest b.rest o o' fits a.fits b.fits a.parts b.parts a.stops b.stops

-- ---- all sections

abbrev pub Parts : Type 0
Parts = List Sequence × Tree × List Sequence

-- what follows where the sequences behind a body ended
abbrev pub after_body : ℕ → Parts → Result (List ℕ) MsgFault → Result Parts MsgFault
after_body p parts (Err f) = Err f
after_body p parts (Ok []) = Ok parts
after_body p parts (Ok (kind ∷ rest)) = Err (msg_fault p (cond (eqb kind 0) causes.TwoBodies causes.SectionKind))

pub data AtBody (p : ℕ) (before : List Sequence) (kind : ℕ) (rest : List ℕ) (v : Result Parts MsgFault) : Type 0 where
  other_kind : kind ≢ 0 → v ≡ Err (msg_fault p causes.SectionKind) → AtBody p before kind rest v
  bad_body : (g : BsonFault) → kind ≡ 0 → FrontFault rest g → v ≡ Err (msg_fault (p + 1) (causes.Document g)) → AtBody p before kind rest v
  good_body : (body : Tree) (tail : List ℕ) (after : List Sequence) (out : Result (List ℕ) MsgFault) → kind ≡ 0 → IsDocument body → rest ≡ document (elements body) ++ tail → Run (p + length (body_section body)) tail after out → v ≡ after_body (p + length (body_section body) + length (sequences_bytes after)) (before, body, after) out → AtBody p before kind rest v

-- what follows where the sequences before a body ended
abbrev pub AfterRun : ℕ → List Sequence → Result (List ℕ) MsgFault → Result Parts MsgFault → Type 0
AfterRun total before (Err f) v = v ≡ Err f
AfterRun total before (Ok []) v = v ≡ Err (msg_fault (20 + total) causes.NoBody)
AfterRun total before (Ok (kind ∷ rest)) v = AtBody (20 + length (sequences_bytes before)) before kind rest v

pub record Verdict (bytes : List ℕ) (v : Result Parts MsgFault) : Type 0 where
  pub before : List Sequence
  pub out : Result (List ℕ) MsgFault
  pub run : Run 20 bytes before out
  pub follows : AfterRun (length bytes) before out v

-- ---- at most one

same_after : (p : ℕ) (before : List Sequence) (body body' : Tree) (after after' : List Sequence) (out out' : Result (List ℕ) MsgFault) → body ≡ body' → after ≡ after' → out ≡ out' → after_body (p + length (body_section body) + length (sequences_bytes after)) (before, body, after) out ≡ after_body (p + length (body_section body') + length (sequences_bytes after')) (before, body', after') out'
same_after p before body body' after after' out out' a b d = rw (a, b, d) refl

body_once : (p : ℕ) (before : List Sequence) (kind : ℕ) (rest : List ℕ) (v w : Result Parts MsgFault) → IsBytes rest → AtBody p before kind rest v → AtBody p before kind rest w → v ≡ w
body_once p before kind rest v w fits (other_kind ne e) (other_kind ne' e') = e ∙ sym e'
body_once p before kind rest v w fits (other_kind ne e) (bad_body g is front e') = absurd (ne is)
body_once p before kind rest v w fits (other_kind ne e) (good_body body tail after out is doc parts run e') = absurd (ne is)
body_once p before kind rest v w fits (bad_body g is front e) (other_kind ne e') = absurd (ne is)
body_once p before kind rest v w fits (bad_body g is front e) (bad_body g' is' front' e') = e ∙ ap (λ (x : BsonFault). Err (msg_fault (p + 1) (causes.Document x))) (one_front rest g g' fits front front') ∙ sym e'
body_once p before kind rest v w fits (bad_body g is front e) (good_body body tail after out is' doc parts run e') = absurd (no_front rest body (document (elements body)) tail g fits doc parts front)
body_once p before kind rest v w fits (good_body body tail after out is doc parts run e) (other_kind ne e') = absurd (ne is)
body_once p before kind rest v w fits (good_body body tail after out is doc parts run e) (bad_body g is' front e') = absurd (no_front rest body (document (elements body)) tail g fits doc parts front)
body_once p before kind rest v w fits (good_body body tail after out is doc parts run e) (good_body body' tail' after' out' is' doc' parts' run' e') =
    let s = same_front rest body body' (document (elements body)) (document (elements body')) tail tail' doc doc' parts parts' in
    let tail_fits : IsBytes tail = IsBytes-after (document (elements body)) tail (subst IsBytes parts fits) in
    let moved : Run (p + length (body_section body)) tail after' out' = subst (λ (t : List ℕ). Run (p + length (body_section body)) t after' out') (sym s.1) (subst (λ (t : Tree). Run (p + length (body_section t)) tail' after' out') (sym s.0) run') in
    let t = one_run (p + length (body_section body)) tail after after' out out' tail_fits run moved in
    e ∙ same_after p before body body' after after' out out' s.0 t.0 t.1 ∙ sym e'

follows_once : (total : ℕ) (before : List Sequence) (out : Result (List ℕ) MsgFault) (v w : Result Parts MsgFault) → ((x : List ℕ) → out ≡ Ok x → IsBytes x) → AfterRun total before out v → AfterRun total before out w → v ≡ w
follows_once total before (Err f) v w fits a b = a ∙ sym b
follows_once total before (Ok []) v w fits a b = a ∙ sym b
follows_once total before (Ok (kind ∷ rest)) v w fits a b = body_once (20 + length (sequences_bytes before)) before kind rest v w (IsBytes-after (kind ∷ []) rest (fits (kind ∷ rest) refl)) a b

abbrev out_ok : List ℕ → Result (List ℕ) MsgFault
out_ok x = Ok x

end_bytes : (p : ℕ) (x y : List ℕ) (out : Result (List ℕ) MsgFault) → IsBytes x → RunEnd p x out → out ≡ Ok y → IsBytes y
end_bytes p x y out fits (ends_here s is) e = subst IsBytes (ok_is {E = MsgFault} x y (sym is ∙ e)) fits
end_bytes p x y out fits (fails_here rest f one fault is) e = absurd (let same : out_ok y ≡ Err f = sym e ∙ is in cc)

pub one_verdict : (bytes : List ℕ) (v w : Result Parts MsgFault) → IsBytes bytes → Verdict bytes v → Verdict bytes w → v ≡ w
one_verdict bytes v w fits a b =
    let s = one_run 20 bytes a.before b.before a.out b.out fits a.run b.run in
    let moved : AfterRun (length bytes) a.before a.out w = subst (λ (o : Result (List ℕ) MsgFault). AfterRun (length bytes) a.before o w) (sym s.1) (subst (λ (q : List Sequence). AfterRun (length bytes) q b.out w) (sym s.0) b.follows) in
    let rest_fits : IsBytes a.run.rest = IsBytes-after (sequences_bytes a.before) a.run.rest (subst IsBytes a.run.parts fits) in
    follows_once (length bytes) a.before a.out v w (λ x e. end_bytes _ a.run.rest x a.out rest_fits a.run.stops e) a.follows moved
