-- Sections that are spelled, and sections with a fault, as the one verdict on their bytes.
use Rattle.std.proofs.Common.{◌≡◌, ◌≢◌, ℕ, ◌+◌, false, eqb, List, [], ◌∷◌, ◌++◌, length, Option, Result, Ok, Err, Some, None, refl, sym, ap, subst, ◌∙◌, append_assoc, arith, length-append}
use Rattle.std.proofs.lemmas.List.{append-nil}
use Rattle.std.proofs.lemmas.Bool.{ne_eqb}
use Rattle.bson_elem.specs.Trees.{Tree}
use Rattle.bson_elem.specs.Spelling.{IsBytes, document, elements}
use Rattle.bson_elem.proofs.Lemmas.{ok_is}
use Rattle.wire_msg.specs.declared.fault.MsgFault.{MsgFault}
use Rattle.wire_msg.specs.declared.fault.MsgCause.TheVariants as causes
use Rattle.wire_msg.specs.Causes.{msg_fault}
use Rattle.bson_raw.specs.Split.{IsDocument}
use Rattle.wire_msg.specs.Messages.{Sequence, AreSequences}
use Rattle.wire_msg.specs.Spelling.{body_section, sequences_bytes, sections_bytes}
use Rattle.wire_msg.specs.Faults.{SequenceFault, no_body_yet, body_seen, SectionFault, two_bodies, of_body, of_sequence, of_kind, SectionsFault, at_section, without_body, of_names, names_fault}
use Rattle.wire_msg.proofs.SectionVerdicts.{ends_here, fails_here, Run, Parts, after_body, other_kind, bad_body, good_body, Verdict, one_verdict}

body_cells : (body : Tree) (tail : List ℕ) → body_section body ++ tail ≡ 0 ∷ (document (elements body) ++ tail)
unfolding body_section
body_cells body tail = refl

-- a body with sequences before it, and what follows it
with_body : (bytes : List ℕ) (before : List Sequence) (body : Tree) (tail : List ℕ) (after : List Sequence) (out : Result (List ℕ) MsgFault) → bytes ≡ sequences_bytes before ++ (body_section body ++ tail) → AreSequences before → IsDocument body → Run (20 + length (sequences_bytes before) + length (body_section body)) tail after out → Verdict bytes (after_body (20 + length (sequences_bytes before) + length (body_section body) + length (sequences_bytes after)) (before, body, after) out)
with_body bytes before body tail after out is fits doc run = record {
  before = before;
  out = Ok (0 ∷ (document (elements body) ++ tail));
  run = record { rest = 0 ∷ (document (elements body) ++ tail); fits = fits; parts = is ∙ ap (λ (x : List ℕ). sequences_bytes before ++ x) (body_cells body tail); stops = ends_here (λ e. absurd (omega (arith, e))) refl };
  follows = good_body body tail after out refl doc refl run refl;
}

all_run : (p : ℕ) (qs : List Sequence) → AreSequences qs → Run p (sequences_bytes qs) qs (Ok [])
all_run p qs fits = record { rest = []; fits = fits; parts = sym (append-nil (sequences_bytes qs)); stops = ends_here tt refl }

pub verdict_spelled : (bytes : List ℕ) (before : List Sequence) (body : Tree) (after : List Sequence) → bytes ≡ sections_bytes before body after → AreSequences before → IsDocument body → AreSequences after → Verdict bytes (Ok (before, body, after))
verdict_spelled bytes before body after is f doc g = with_body bytes before body (sequences_bytes after) after (Ok []) is f doc (all_run (20 + length (sequences_bytes before) + length (body_section body)) after g)

-- where the section behind these stands
behind_offset : (before : List Sequence) (body : Tree) (after : List Sequence) → 20 + length (sections_bytes before body after) ≡ 20 + length (sequences_bytes before) + length (body_section body) + length (sequences_bytes after)
behind_offset before body after = omega (arith, length-append (sequences_bytes before) (body_section body ++ sequences_bytes after), length-append (body_section body) (sequences_bytes after))

regroup : (before : List Sequence) (body : Tree) (after : List Sequence) (x : List ℕ) → sections_bytes before body after ++ x ≡ sequences_bytes before ++ (body_section body ++ (sequences_bytes after ++ x))
regroup before body after x = append_assoc (sequences_bytes before) (body_section body ++ sequences_bytes after) x ∙ ap (λ (y : List ℕ). sequences_bytes before ++ y) (append_assoc (body_section body) (sequences_bytes after) x)

verdict_is : (bytes : List ℕ) (v w : Result Parts MsgFault) → v ≡ w → Verdict bytes v → Verdict bytes w
verdict_is bytes v w e x = subst (Verdict bytes) e x

second_told : (kind p q : ℕ) (parts : Parts) (rest : List ℕ) (f : MsgFault) → kind ≡ 0 → p ≡ q → f ≡ msg_fault p causes.TwoBodies → after_body q parts (Ok (kind ∷ rest)) ≡ Err f
second_told kind p q parts rest f is e same = rw (is, same, e) refl

kind_told : (kind p q : ℕ) (parts : Parts) (rest : List ℕ) (f : MsgFault) → kind ≢ 0 → p ≡ q → f ≡ msg_fault p causes.SectionKind → after_body q parts (Ok (kind ∷ rest)) ≡ Err f
kind_told kind p q parts rest f ne e same =
    let test : eqb kind 0 ≡ false = ne_eqb kind 0 ne in
    rw (test, same, e) refl

-- ---- a section that fails a check

before_fault : (bytes : List ℕ) (qs : List Sequence) (kind : ℕ) (rest : List ℕ) (f : MsgFault) → bytes ≡ sequences_bytes qs ++ kind ∷ rest → AreSequences qs → SectionFault (no_body_yet qs) (20 + length (sequences_bytes qs)) kind rest f → Verdict bytes (Err f)
before_fault bytes qs kind rest f is fits (two_bodies second e) = absurd second
before_fault bytes qs kind rest f is fits (of_body g first front e) = record {
  before = qs;
  out = Ok (kind ∷ rest);
  run = record { rest = kind ∷ rest; fits = fits; parts = is; stops = ends_here (λ one. omega (arith, one, first)) refl };
  follows = bad_body g first front (ap Err e);
}
before_fault bytes qs kind rest f is fits (of_sequence one fault) = record {
  before = qs;
  out = Err f;
  run = record { rest = kind ∷ rest; fits = fits; parts = is; stops = fails_here rest f (ap (λ (k : ℕ). k ∷ rest) one) fault refl };
  follows = refl;
}
before_fault bytes qs kind rest f is fits (of_kind ne ne' e) = record {
  before = qs;
  out = Ok (kind ∷ rest);
  run = record { rest = kind ∷ rest; fits = fits; parts = is; stops = ends_here ne' refl };
  follows = other_kind ne (ap Err e);
}

behind_fault : (bytes : List ℕ) (before : List Sequence) (body : Tree) (after : List Sequence) (kind : ℕ) (rest : List ℕ) (f : MsgFault) → bytes ≡ sections_bytes before body after ++ kind ∷ rest → AreSequences before → IsDocument body → AreSequences after → SectionFault (body_seen before body after) (20 + length (sections_bytes before body after)) kind rest f → Verdict bytes (Err f)
behind_fault bytes before body after kind rest f is fit doc fits (two_bodies second e) =
    let p : ℕ = 20 + length (sequences_bytes before) + length (body_section body) in
    let run : Run p (sequences_bytes after ++ kind ∷ rest) after (Ok (kind ∷ rest)) = record { rest = kind ∷ rest; fits = fits; parts = refl; stops = ends_here (λ one. omega (arith, one, second)) refl } in
    verdict_is bytes _ (Err f) (second_told kind (20 + length (sections_bytes before body after)) (p + length (sequences_bytes after)) (before, body, after) rest f second (behind_offset before body after) e) (with_body bytes before body (sequences_bytes after ++ kind ∷ rest) after (Ok (kind ∷ rest)) (is ∙ regroup before body after (kind ∷ rest)) fit doc run)
behind_fault bytes before body after kind rest f is fit doc fits (of_body g first front e) = absurd first
behind_fault bytes before body after kind rest f is fit doc fits (of_sequence one fault) =
    let p : ℕ = 20 + length (sequences_bytes before) + length (body_section body) in
    let run : Run p (sequences_bytes after ++ kind ∷ rest) after (Err f) = record { rest = kind ∷ rest; fits = fits; parts = refl; stops = fails_here rest f (ap (λ (k : ℕ). k ∷ rest) one) (subst (λ (n : ℕ). SequenceFault n rest f) (behind_offset before body after) fault) refl } in
    with_body bytes before body (sequences_bytes after ++ kind ∷ rest) after (Err f) (is ∙ regroup before body after (kind ∷ rest)) fit doc run
behind_fault bytes before body after kind rest f is fit doc fits (of_kind ne ne' e) =
    let p : ℕ = 20 + length (sequences_bytes before) + length (body_section body) in
    let run : Run p (sequences_bytes after ++ kind ∷ rest) after (Ok (kind ∷ rest)) = record { rest = kind ∷ rest; fits = fits; parts = refl; stops = ends_here ne' refl } in
    verdict_is bytes _ (Err f) (kind_told kind (20 + length (sections_bytes before body after)) (p + length (sequences_bytes after)) (before, body, after) rest f ne (behind_offset before body after) e) (with_body bytes before body (sequences_bytes after ++ kind ∷ rest) after (Ok (kind ∷ rest)) (is ∙ regroup before body after (kind ∷ rest)) fit doc run)

no_body_verdict : (bytes : List ℕ) (qs : List Sequence) (f : MsgFault) → bytes ≡ sequences_bytes qs → AreSequences qs → f ≡ msg_fault (20 + length bytes) causes.NoBody → Verdict bytes (Err f)
no_body_verdict bytes qs f is fits e = record {
  before = qs;
  out = Ok [];
  run = record { rest = []; fits = fits; parts = is ∙ sym (append-nil (sequences_bytes qs)); stops = ends_here tt refl };
  follows = ap Err e;
}

-- ---- one fault, and none of a message

-- what a fault of the sections says: a verdict, or names that stand twice
pub data Says (bytes : List ℕ) (f : MsgFault) : Type 0 where
  says_fault : Verdict bytes (Err f) → Says bytes f
  says_names : (before : List Sequence) (body : Tree) (after : List Sequence) → Verdict bytes (Ok (before, body, after)) → names_fault before body after ≡ Some f → Says bytes f

pub says : (bytes : List ℕ) (f : MsgFault) → SectionsFault bytes f → Says bytes f
says bytes f (at_section (no_body_yet qs) kind rest is fits fault) = says_fault (before_fault bytes qs kind rest f is fits fault)
says bytes f (at_section (body_seen before body after) kind rest is fits fault) = says_fault (behind_fault bytes before body after kind rest f is fits.0 fits.1 fits.2 fault)
says bytes f (without_body qs is fits e) = says_fault (no_body_verdict bytes qs f is fits e)
says bytes f (of_names before body after is fit doc fits names) = says_names before body after (verdict_spelled bytes before body after is fit doc fits) names

abbrev ok_parts : Parts → Result Parts MsgFault
ok_parts p = Ok p

abbrev err_parts : MsgFault → Result Parts MsgFault
err_parts f = Err f

abbrev names_of_parts : Parts → Option MsgFault
names_of_parts p = names_fault p.0 p.1 p.2

pub one_says : (bytes : List ℕ) (f g : MsgFault) → IsBytes bytes → Says bytes f → Says bytes g → f ≡ g
one_says bytes f g fits (says_fault a) (says_fault b) = let same : err_parts f ≡ err_parts g = one_verdict bytes (Err f) (Err g) fits a b in cc
one_says bytes f g fits (says_fault a) (says_names before body after b names) = absurd (let same : err_parts f ≡ ok_parts (before, body, after) = one_verdict bytes (Err f) (Ok (before, body, after)) fits a b in cc)
one_says bytes f g fits (says_names before body after a names) (says_fault b) = absurd (let same : ok_parts (before, body, after) ≡ err_parts g = one_verdict bytes (Ok (before, body, after)) (Err g) fits a b in cc)
one_says bytes f g fits (says_names before body after a names) (says_names before' body' after' b names') =
    let same = ok_is {E = MsgFault} (before, body, after) (before', body', after') (one_verdict bytes (Ok (before, body, after)) (Ok (before', body', after')) fits a b) in
    let both : Some f ≡ Some g = sym names ∙ ap names_of_parts same ∙ names' in
    cc

pub no_says : (bytes : List ℕ) (f : MsgFault) (before : List Sequence) (body : Tree) (after : List Sequence) → IsBytes bytes → Verdict bytes (Ok (before, body, after)) → names_fault before body after ≡ None → Says bytes f → ⊥
no_says bytes f before body after fits v none (says_fault b) = absurd (let same : ok_parts (before, body, after) ≡ err_parts f = one_verdict bytes (Ok (before, body, after)) (Err f) fits v b in cc)
no_says bytes f before body after fits v none (says_names before' body' after' b names) =
    let same = ok_is {E = MsgFault} (before, body, after) (before', body', after') (one_verdict bytes (Ok (before, body, after)) (Ok (before', body', after')) fits v b) in
    let both : None ≡ Some f = sym none ∙ ap names_of_parts same ∙ names in
    absurd cc
