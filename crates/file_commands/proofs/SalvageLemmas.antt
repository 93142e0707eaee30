-- What was written of a damaged input, part by part and piece by piece.
use Rattle.std.proofs.Common.{◌≡◌, ◌⊎◌, inl, inr, ◌++◌, [], ◌∷◌, ℕ, List, Option, None, Some, IfSome, Result, Ok, IfOk, Bool, true, false, true≢false, ◌||◌, take, refl, sym, ap, subst, ◌∙◌, append_assoc, append-nil, ◌≤◌}
use Rattle.std.specs.Io.KnownBytes.{Appends, Consumes, IsAtEnd, Keeps, append_known}
use Rattle.std.proofs.KnownBytes.{Appends-kept, Appends-nil, Appends-trans, Consumes-kept, Consumes-nil, Consumes-trans, Consumes-whole}
use Rattle.bson_elem.specs.{Spells, Tree}
use Rattle.bson_stream.specs.declared.gap.Find.TheVariants as find
use Rattle.bson_stream.specs.declared.gap.Gap.{Gap}
use Rattle.bson_stream.specs.{IsFound, IsSettled, MayFollow, Part, Salvaging, SoFar, a_document, a_gap}
use Rattle.bson_stream.specs.Salvage.{no_more}
use Rattle.bson_stream.proofs.Lemmas.{all_told, ended_now, told_first, told_so_far}
use Rattle.command_run.specs.{AppendsText, IsCutShort, is_done, is_fault}
use Rattle.file_commands.specs.declared.documents.Written.{Written}
use Rattle.file_commands.specs.declared.documents.Written.TheVariants as written
use Rattle.command_run.specs.declared.run.RunEnd.{RunEnd}
use Rattle.command_run.specs.declared.run.RunEnd.TheVariants.{Good, Fault, Unread, InOut}
use Rattle.command_run.specs.declared.run.RunEnd.TheVariants as run
use Rattle.file_commands.specs.Documents.{TextRule}
use Rattle.file_commands.specs.DocumentWalk.{IsWritten}
use Rattle.file_commands.specs.Output.{AppendsOne, WritesRead}
use Rattle.file_commands.specs.Salvaged.{ArePartTexts, FirstSalvaged, IsPartText, SalvageText, SalvagedSoFar, gap_text}
use Rattle.file_commands.specs.SalvageWalk.{Manner, Passed, SalvageEnds, Wrote, WroteFirst, end_of_parts}

-- ---- texts, one behind another

or-false : (b : Bool) → (b || false) ≡ b
or-false true = refl
or-false false = refl

or-true : (b : Bool) → (b || true) ≡ true
or-true true = refl
or-true false = refl

or-assoc : (a b c : Bool) → ((a || b) || c) ≡ (a || (b || c))
or-assoc true b c = refl
or-assoc false b c = refl

-- the text of one part more
texts-push : (rule : TextRule) (lines : Bool) (parts : List Part) (texts : List ℕ) (fault : Bool) (p : Part) (text : List ℕ) (here : Bool) → ArePartTexts rule lines parts texts fault
    → IsPartText rule lines p text here → ArePartTexts rule lines (parts ++ p ∷ []) (texts ++ text) (fault || here)
texts-push rule lines [] texts fault p text here (none, good) is =
    (text, [], here, false, is, (refl, refl), ap (λ (x : List ℕ). x ++ text) none ∙ sym (append-nil text), ap (λ (b : Bool). b || here) good ∙ sym (or-false here))
texts-push rule lines (q ∷ parts) texts fault p text here (first, others, at, behind, one, rest, joined, faults) is = (
  first,
  others ++ text,
  at,
  behind || here,
  one,
  texts-push rule lines parts others behind p text here rest is,
  ap (λ (x : List ℕ). x ++ text) joined ∙ append_assoc first others text,
  ap (λ (b : Bool). b || here) faults ∙ or-assoc at behind here,
)

-- ---- what was written of what came

-- nothing came, and nothing was written
pub wrote_nothing : (m : Manner) (s : Salvaging) (known : Option (List ℕ)) (bytes : List ℕ) → bytes ≡ [] → SoFar false [] [] s → s.limit ≡ m.limit → Wrote m false [] s false known (append_known known bytes)
wrote_nothing m s known bytes none so same = record {
  told = [];
  texts = [];
  so_far = so;
  limit_is = same;
  texts_are = (refl, refl);
  appends = subst (λ (new : Option (List ℕ)). Appends known new []) (sym (empty_behind known)) (Appends-nil known);
}
  where
    empty_behind : (known : Option (List ℕ)) → append_known known bytes ≡ known
    empty_behind None = refl
    empty_behind (Some xs) = ap Some (ap (λ (x : List ℕ). xs ++ x) none ∙ append-nil xs)

-- a piece came
pub wrote_fed : (m : Manner) (bytes piece : List ℕ) (s new : Salvaging) (fault : Bool) (start now : Option (List ℕ)) → ((told : List Part) → SoFar false bytes told s → SoFar false (bytes ++ piece) told new)
    → new.limit ≡ s.limit → Wrote m false bytes s fault start now → Wrote m false (bytes ++ piece) new fault start now
wrote_fed m bytes piece s new fault start now on same w = record {
  told = w.told;
  texts = w.texts;
  so_far = on w.told w.so_far;
  limit_is = same ∙ w.limit_is;
  texts_are = w.texts_are;
  appends = w.appends;
}

-- no more bytes come, or they may
pub wrote_by : (m : Manner) (ended : Bool) (bytes : List ℕ) (s : Salvaging) (fault : Bool) (start now : Option (List ℕ)) → Wrote m false bytes s fault start now → Wrote m ended bytes s fault start now
wrote_by m false bytes s fault start now w = w
wrote_by m true bytes s fault start now w = record {
  told = w.told;
  texts = w.texts;
  so_far = ended_now bytes w.told s w.so_far;
  limit_is = w.limit_is;
  texts_are = w.texts_are;
  appends = w.appends;
}

-- nothing more was found
pub wrote_same : (m : Manner) (ended : Bool) (bytes : List ℕ) (s new : Salvaging) (fault : Bool) (start now : Option (List ℕ))
    → ((told : List Part) → SoFar ended bytes told s → IsFound ended bytes told new find.Nothing) → new.limit ≡ s.limit → Wrote m ended bytes s fault start now
    → Passed m ended bytes new fault true start now
wrote_same m ended bytes s new fault start now on same w =
    let is = on w.told w.so_far in
    (record { told = w.told; texts = w.texts; so_far = is.0; limit_is = same ∙ w.limit_is; texts_are = w.texts_are; appends = w.appends }, is.1)

-- one part more
wrote_more : (m : Manner) (ended : Bool) (bytes : List ℕ) (s new : Salvaging) (before here : Bool) (p : Part) (text : List ℕ) (start mid now : Option (List ℕ)) (w : Wrote m ended bytes s before start mid)
    → SoFar ended bytes (w.told ++ p ∷ []) new → new.limit ≡ s.limit → IsPartText m.rule m.lines p text here → Appends mid now text → Wrote m ended bytes new (before || here) start now
wrote_more m ended bytes s new before here p text start mid now w so same is more = record {
  told = w.told ++ p ∷ [];
  texts = w.texts ++ text;
  so_far = so;
  limit_is = same ∙ w.limit_is;
  texts_are = texts-push m.rule m.lines w.told w.texts before p text here w.texts_are is;
  appends = Appends-trans start mid now w.texts text w.appends more;
}

pub wrote_gap : (m : Manner) (ended : Bool) (bytes : List ℕ) (s new : Salvaging) (before : Bool) (g : Gap) (start mid now : Option (List ℕ))
    → ((told : List Part) → SoFar ended bytes told s → IsFound ended bytes told new (find.Gap g)) → new.limit ≡ s.limit → Appends mid now (gap_text m.lines g)
    → Wrote m ended bytes s before start mid → Wrote m ended bytes new true start now
wrote_gap m ended bytes s new before g start mid now on same more w =
    subst (λ (b : Bool). Wrote m ended bytes new b start now) (or-true before)
    (wrote_more m ended bytes s new before true (a_gap g) (gap_text m.lines g) start mid now w (on w.told w.so_far) same (refl, refl) more)

-- ---- where memory ran out

pub wrote_first : (m : Manner) (ended : Bool) (bytes : List ℕ) (s : Salvaging) (fault : Bool) (start now : Option (List ℕ)) → Wrote m ended bytes s fault start now → WroteFirst m ended bytes start now
wrote_first m ended bytes s fault start now w = (
  w.texts,
  w.appends,
  (λ more may. let first = told_first m.limit ended bytes more w.told s w.so_far w.limit_is may in (w.told, first.0, fault, first.1, w.texts_are)),
)

-- nothing more was written
pub first_kept : (m : Manner) (ended : Bool) (bytes : List ℕ) (start mid now : Option (List ℕ)) → Keeps mid now → WroteFirst m ended bytes start mid → WroteFirst m ended bytes start now
first_kept m ended bytes start mid now keeps (texts, appends, first) = (texts, Appends-kept start mid now texts appends keeps, first)

-- nothing was written at all
pub wrote_none : (m : Manner) (from old : Option (List ℕ)) → IfSome from (λ input. AppendsOne (FirstSalvaged m.rule m.lines m.limit input) old old)
wrote_none m None old = tt
wrote_none m (Some input) old = ([], ([], input, false, no_more, (refl, refl)), Appends-nil old)

-- where a piece wasn't taken
pub first_before : (m : Manner) (ended : Bool) (bytes piece : List ℕ) (s : Salvaging) (fault : Bool) (start now : Option (List ℕ)) → Wrote m false bytes s fault start now → WroteFirst m ended (bytes ++ piece) start now
first_before m ended bytes piece s fault start now w =
    let first = wrote_first m false bytes s fault start now w in (
      first.0,
      first.1,
      (λ more may. subst (λ (x : List ℕ). FirstSalvaged m.rule m.lines m.limit x first.0) (sym (append_assoc bytes piece more)) (first.2 (piece ++ more) (λ e. absurd (true≢false (sym e))))),
    )

-- ---- a document that was found

-- a document was found, and let go once its text was written
abbrev pub Goes : Bool → List ℕ → Salvaging → ℕ → Salvaging → Type 0
Goes ended bytes mid len new =
    (told : List Part) (t : Tree) → SoFar ended bytes told mid → mid.gap ≡ None → len ≤ mid.limit → Spells t (take len mid.held) → SoFar ended bytes (told ++ a_document mid.start t ∷ []) new

module _ (m : Manner) (ended : Bool) (bytes : List ℕ) (s mid : Salvaging) (before : Bool) (len : ℕ) (canonical : Bool) (start old now : Option (List ℕ))
    (on : (told : List Part) → SoFar ended bytes told s → IsFound ended bytes told mid (find.Document len canonical)) (kept : mid.limit ≡ s.limit) (w : Wrote m ended bytes s before start old) where
  abbrev is : IsFound ended bytes w.told mid (find.Document len canonical)
  is = on w.told w.so_far

  -- the tree of the document
  abbrev tree : Tree
  tree = is.2.2.0

  abbrev spelled : Spells tree (take len mid.held)
  spelled = is.2.2.1

  -- what became of the document that was found
  abbrev pub Becomes : Written → Type 0
  Becomes what = (t : Tree) → Spells t (take len mid.held) → IsWritten (m.rule mid.start t) what old now

  pub wrote_document : (new : Salvaging) → Goes ended bytes mid len new → new.limit ≡ mid.limit → Becomes written.Whole → Wrote m ended bytes new before start now
  wrote_document new gone same became =
      let b = became tree spelled in
      subst (λ (x : Bool). Wrote m ended bytes new x start now) (or-false before)
      (wrote_more m ended bytes s new before false (a_document mid.start tree) b.0 start old now w (gone w.told tree is.0 is.1 is.2.1 spelled) (same ∙ kept) (inl (b.1, refl)) b.2)

  pub passed_over : (new : Salvaging) → Goes ended bytes mid len new → new.limit ≡ mid.limit → Becomes written.TooLarge → Wrote m ended bytes new true start now
  passed_over new gone same became =
      let b = became tree spelled in
      subst (λ (x : Bool). Wrote m ended bytes new x start now) (or-true before)
      (wrote_more m ended bytes s new before true (a_document mid.start tree) [] start old now w (gone w.told tree is.0 is.1 is.2.1 spelled) (same ∙ kept) (inr (b.0, refl, refl)) (Appends-kept old old now [] (Appends-nil old) b.1))

  -- memory ran out
  pub short_of : Becomes written.OutOfMemory → WroteFirst m ended bytes start now
  short_of became = first_kept m ended bytes start old now (became tree spelled) (wrote_first m ended bytes s before start old w)

-- ---- between two pieces

-- Bytes were read, and the texts of all parts that they decide were written.
abbrev pub Stands : Manner → Option (List ℕ) → Option (List ℕ) → Salvaging → Bool → Option (List ℕ) → Option (List ℕ) → Type 0
Stands m from to s fault start now = (read : List ℕ) × Consumes from to read × Wrote m false read s fault start now × IsSettled false s

pub begun : (m : Manner) (from : Option (List ℕ)) (s : Salvaging) (fault : Bool) (start now : Option (List ℕ)) → IsSettled false s → Wrote m false [] s fault start now → Stands m from from s fault start now
begun m from s fault start now settled w = ([], Consumes-nil from, w, settled)

-- a piece came, and what became of it
pub goes_on : (m : Manner) (from mid to : Option (List ℕ)) (s new : Salvaging) (before fault : Bool) (start known now : Option (List ℕ)) (piece : List ℕ) (b : Stands m from mid s before start known)
    → Consumes mid to piece → Passed m false (b.0 ++ piece) new fault true start now → Stands m from to new fault start now
goes_on m from mid to s new before fault start known now piece (read, c, w, settled) more passed = (read ++ piece, Consumes-trans from mid to read piece c more, passed.0, passed.1)

-- what became of a piece
pub came_of : {E : Type 0} (m : Manner) (ended : Bool) (bytes : List ℕ) (s : Salvaging) (fault : Bool) (result : Result Bool E) (whole all : Bool) (start now : Option (List ℕ))
    → IfOk result (λ w. Passed m ended bytes s fault w start now) → result ≡ Ok whole → whole ≡ all → Passed m ended bytes s fault all start now
came_of m ended bytes s fault result whole all start now passed same so =
    subst (λ (x : Bool). Passed m ended bytes s fault x start now) so (subst (λ x. IfOk x (λ w. Passed m ended bytes s fault w start now)) same passed)

-- ---- the ways to end

-- all was read and told, or memory ran out
ends_parts : (m : Manner) (bytes : List ℕ) (s : Salvaging) (fault whole : Bool) (from to start now : Option (List ℕ)) → Consumes from to bytes → IsAtEnd to
    → Passed m true bytes s fault whole start now → SalvageEnds m (end_of_parts whole fault) from to start now
ends_parts m bytes s false true from to start now c end (w, settled) =
    (bytes, w.texts, c, w.appends, (end, (w.told, all_told m.limit bytes w.told s w.so_far settled w.limit_is, w.texts_are)))
ends_parts m bytes s true true from to start now c end (w, settled) =
    (bytes, w.texts, c, w.appends, (end, (w.told, all_told m.limit bytes w.told s w.so_far settled w.limit_is, w.texts_are)))
ends_parts m bytes s fault false from to start now c end (texts, appends, first) = (bytes, texts, c, appends, (true, (λ e. end), first))

pub ends_whole : (m : Manner) (from mid to : Option (List ℕ)) (s new : Salvaging) (before fault whole : Bool) (end : RunEnd) (start known now : Option (List ℕ)) (b : Stands m from mid s before start known)
    → Consumes mid to [] → IsAtEnd to → Passed m true (b.0 ++ []) new fault whole start now → end ≡ end_of_parts whole fault → SalvageEnds m end from to start now
ends_whole m from mid to s new before fault whole end start known now (read, c, w, settled) more at passed is =
    subst (λ (e : RunEnd). SalvageEnds m e from to start now) (sym is)
    (ends_parts m (read ++ []) new fault whole from to start now (Consumes-trans from mid to read [] c more) at passed)

-- memory ran out before the end
ends_short : (m : Manner) (bytes : List ℕ) (from to start now : Option (List ℕ)) → Consumes from to bytes → WroteFirst m false bytes start now → SalvageEnds m run.OutOfMemory from to start now
ends_short m bytes from to start now c (texts, appends, first) = (bytes, texts, c, appends, (false, (λ e. absurd (true≢false (sym e))), first))

pub ends_refused : (m : Manner) (from mid to : Option (List ℕ)) (s new : Salvaging) (before fault : Bool) (start known now : Option (List ℕ)) (piece : List ℕ) (b : Stands m from mid s before start known)
    → Consumes mid to piece → Passed m false (b.0 ++ piece) new fault false start now → SalvageEnds m run.OutOfMemory from to start now
ends_refused m from mid to s new before fault start known now piece (read, c, w, settled) more first = ends_short m (read ++ piece) from to start now (Consumes-trans from mid to read piece c more) first

-- reading failed
pub ends_cut : (m : Manner) (from mid to : Option (List ℕ)) (s : Salvaging) (fault : Bool) (end : RunEnd) (start now : Option (List ℕ)) → Stands m from mid s fault start now → Keeps mid to → IsCutShort end
    → SalvageEnds m end from to start now
ends_cut m from mid to s fault end start now (read, c, w, settled) kept (inl is) =
    subst (λ (e : RunEnd). SalvageEnds m e from to start now) (sym is)
    (read, w.texts, Consumes-kept from mid to read c kept, w.appends, (w.told, fault, told_so_far m.limit read w.told s w.so_far settled w.limit_is, w.texts_are))
ends_cut m from mid to s fault end start now (read, c, w, settled) kept (inr is) =
    subst (λ (e : RunEnd). SalvageEnds m e from to start now) (sym is) (ends_short m read from to start now (Consumes-kept from mid to read c kept) (wrote_first m false read s fault start now w))

-- ---- the end of a run

-- the end of a run that passed on what waited, or couldn't
abbrev pub IsLastOf : RunEnd → RunEnd → Option (List ℕ) → Option (List ℕ) → Type 0
IsLastOf end last mid new = (last ≡ InOut) ⊎ ((last ≡ end) × Keeps mid new)

-- what holds of each end holds of the last one
module _ (m : Manner) (end last : RunEnd) (from to old mid new : Option (List ℕ)) (ends : SalvageEnds m end from to old mid) (is : IsLastOf end last mid new) where
  ended_as : (e : RunEnd) → (e ≡ InOut → ⊥) → last ≡ e → SalvageEnds m e from to old new
  ended_as e other same = go is
    where
      go : IsLastOf end last mid new → SalvageEnds m e from to old new
      go (inl failed) = absurd (other (sym same ∙ failed))
      go (inr (told, keeps)) =
          let at = subst (λ (x : RunEnd). SalvageEnds m x from to old mid) (sym told ∙ same) ends in
          (at.0, at.1, at.2, Appends-kept old mid new at.1 at.3 keeps, at.4)

  pub salvage_read : is_done last ≡ true → IsAtEnd to
  salvage_read done = by last refl done
    where
      by : (e : RunEnd) → last ≡ e → is_done e ≡ true → IsAtEnd to
      by Good same done = (ended_as Good (λ e. absurd cc) same).4.0
      by Fault same done = (ended_as Fault (λ e. absurd cc) same).4.0
      by Unread same done = absurd cc
      by InOut same done = absurd cc
      by run.OutOfMemory same done = absurd cc

  pub salvage_written : IfSome from (λ input. is_done last ≡ true → AppendsText (SalvageText m.rule m.lines m.limit input) (is_fault last) old new)
  salvage_written = under from (λ done. by last refl done)
    where
      under : (known : Option (List ℕ)) → (is_done last ≡ true → IfSome known (λ input. AppendsText (SalvageText m.rule m.lines m.limit input) (is_fault last) old new))
          → IfSome known (λ input. is_done last ≡ true → AppendsText (SalvageText m.rule m.lines m.limit input) (is_fault last) old new)
      under None is = tt
      under (Some input) is = is

      whole : (e : RunEnd) (fault : Bool) (ended : SalvageEnds m e from to old new) → IsAtEnd to → SalvageText m.rule m.lines m.limit ended.0 ended.1 fault
          → IfSome from (λ input. AppendsText (SalvageText m.rule m.lines m.limit input) fault old new)
      whole e fault ended end text =
          Consumes-whole from to ended.0 (λ (input : List ℕ). AppendsText (SalvageText m.rule m.lines m.limit input) fault old new) ended.2 end (ended.1, text, ended.3)

      by : (e : RunEnd) → last ≡ e → is_done e ≡ true → IfSome from (λ input. AppendsText (SalvageText m.rule m.lines m.limit input) (is_fault last) old new)
      by Good same done =
          let ended = ended_as Good (λ e. absurd cc) same in
          subst (λ (b : Bool). IfSome from (λ input. AppendsText (SalvageText m.rule m.lines m.limit input) b old new)) (ap is_fault (sym same)) (whole Good false ended ended.4.0 ended.4.1)
      by Fault same done =
          let ended = ended_as Fault (λ e. absurd cc) same in
          subst (λ (b : Bool). IfSome from (λ input. AppendsText (SalvageText m.rule m.lines m.limit input) b old new)) (ap is_fault (sym same)) (whole Fault true ended ended.4.0 ended.4.1)
      by Unread same done = absurd cc
      by InOut same done = absurd cc
      by run.OutOfMemory same done = absurd cc

  pub salvage_unread : last ≡ Unread → WritesRead (SalvagedSoFar m.rule m.lines m.limit) from to old new
  salvage_unread same =
      let ended = ended_as Unread (λ e. absurd cc) same in
      (ended.0, ended.2, (ended.1, ended.4, ended.3))

  pub salvage_short : last ≡ run.OutOfMemory → IfSome from (λ input. AppendsOne (FirstSalvaged m.rule m.lines m.limit input) old new)
  salvage_short same = first from to ended.2 ended.4.1
    where
      ended : SalvageEnds m run.OutOfMemory from to old new
      ended = ended_as run.OutOfMemory (λ e. absurd cc) same

      left : (known : List ℕ) → (ended.4.0 ≡ true → known ≡ []) → MayFollow ended.4.0 known
      left known none = none

      first : (from to : Option (List ℕ)) → Consumes from to ended.0 → (ended.4.0 ≡ true → IsAtEnd to) → IfSome from (λ input. AppendsOne (FirstSalvaged m.rule m.lines m.limit input) old new)
      first None to c end = tt
      first (Some input) None c end = absurd c
      first (Some input) (Some more) c end =
          (ended.1, subst (λ (x : List ℕ). FirstSalvaged m.rule m.lines m.limit x ended.1) (sym c) (ended.4.2 more (left more end)), ended.3)
