-- What was read of an input and written for it, piece by piece.
use Rattle.std.proofs.Common.{◌≡◌, ◌⊎◌, inl, inr, ◌++◌, [], ℕ, Bool, List, Option, None, Some, IfSome, Result, Ok, Err, IfOk, true, take, refl, sym, ap, subst, ◌∙◌, append-nil}
use Rattle.std.specs.Io.KnownBytes.{Appends, Consumes, IsAtEnd, Keeps, append_known}
use Rattle.std.proofs.KnownBytes.{Appends-kept, Appends-nil, Appends-trans, Consumes-kept, Consumes-nil, Consumes-trans, Consumes-whole}
use Rattle.command_run.specs.{AppendsText, IsCutShort, is_done, is_fault}
use Rattle.file_commands.specs.declared.input_fault.InputFault.{InputFault}
use Rattle.file_commands.specs.declared.pieces.Ending.{Ending}
use Rattle.file_commands.specs.declared.pieces.Ending.TheVariants.{Whole, Cut}
use Rattle.command_run.specs.declared.run.RunEnd.{RunEnd}
use Rattle.command_run.specs.declared.run.RunEnd.TheVariants.{Good, Fault, Unread, InOut, OutOfMemory}
use Rattle.file_commands.specs.declared.walk.Stop.{Stop}
use Rattle.file_commands.specs.declared.walk.Stop.TheVariants as stop
use Rattle.file_commands.specs.Input.{bytes_of, hex_fault}
use Rattle.file_commands.specs.InputFault.{line_of}
use Rattle.file_commands.specs.Output.{AppendsOne, IsFirstOf, OrNone, WritesRead}
use Rattle.file_commands.specs.Source.{given}
use Rattle.file_commands.specs.Walk.{Ends, IsBetween, IsEnding, IsFinish, Tells, Walks}

-- ---- between two pieces

-- Bytes were read, and texts were written for them.
abbrev pub Between : {R : Type 0} → Tells R → Option (List ℕ) → Option (List ℕ) → R → Option (List ℕ) → Option (List ℕ) → Type 0
Between t from to r old new = (read : List ℕ) × (texts : List ℕ) × Consumes from to read × Appends old new texts × IsBetween t r read texts

pub begun : {R : Type 0} (t : Tells R) (from old : Option (List ℕ)) (r : R) → IsBetween t r [] [] → Between t from from r old old
begun t from old r fresh = ([], [], Consumes-nil from, Appends-nil old, fresh)

-- what came by a read
pub came : (mid to : Option (List ℕ)) (room : List ℕ) (v w : Option ℕ) → Consumes mid to (take (given v) room) → v ≡ w → Consumes mid to (take (given w) room)
came mid to room v w c is = subst (λ (x : Option ℕ). Consumes mid to (take (given x) room)) is c

-- what became of a piece
pub walked : {E R : Type 0} (t : Tells R) (after : R) (bytes texts : List ℕ) (result : Result (Option Stop) E) (s u : Option Stop) (old new : Option (List ℕ))
    → IfOk result (λ s. Walks t after bytes texts s old new) → result ≡ Ok s → s ≡ u → Walks t after bytes texts u old new
walked t after bytes texts result s u old new walks is same =
    subst (λ (x : Option Stop). Walks t after bytes texts x old new) same (subst (λ x. IfOk x (λ s. Walks t after bytes texts s old new)) is walks)

pub goes_on : {R : Type 0} (t : Tells R) (from mid to old known new : Option (List ℕ)) (r after : R) (piece : List ℕ) (b : Between t from mid r old known)
    → Consumes mid to piece → Walks t after (b.0 ++ piece) b.1 None known new → Between t from to after old new
goes_on t from mid to old known new r after piece (read, texts, c, a, w) more (text, b, stands) =
    (read ++ piece, texts ++ text, Consumes-trans from mid to read piece c more, Appends-trans old known new texts text a b, stands)

-- ---- the ways to end

-- at the end of the input
pub ends_whole : {R : Type 0} (t : Tells R) (from mid to old new : Option (List ℕ)) (r : R) (last : Option InputFault) (b : Between t from mid r old new) → Consumes mid to []
    → t.ends r b.0 b.1 (line_of last) → Ends t r (Whole last) from to old new
ends_whole t from mid to old new r last (read, texts, c, a, w) end ends =
    (read, texts, subst (Consumes from to) (append-nil read) (Consumes-trans from mid to read [] c end), a, ends)

-- an end of a run that was cut short
cut_so : {R : Type 0} (t : Tells R) (r : R) (read texts : List ℕ) (end : RunEnd) → t.all read texts → ((more : List ℕ) → t.first (read ++ more) texts) → IsCutShort end
    → IsEnding t r read texts (Cut end)
cut_so t r read texts end all first (inl is) = subst (λ (e : RunEnd). IsEnding t r read texts (Cut e)) (sym is) all
cut_so t r read texts end all first (inr is) = subst (λ (e : RunEnd). IsEnding t r read texts (Cut e)) (sym is) first

-- where reading failed
pub ends_cut : {R : Type 0} (t : Tells R) (from mid to old new : Option (List ℕ)) (r : R) (end : RunEnd) → Between t from mid r old new → Keeps mid to → IsCutShort end
    → Ends t r (Cut end) from to old new
ends_cut t from mid to old new r end (read, texts, c, a, w) kept short =
    (read, texts, Consumes-kept from mid to read c kept, a, cut_so t r read texts end w.all w.first short)

-- at a fault, behind which all was read
pub ends_gone : {R : Type 0} (t : Tells R) (from mid to last old known new : Option (List ℕ)) (r after : R) (piece more : List ℕ) (f : InputFault) (k : Ending)
    (b : Between t from mid r old known) → Consumes mid to piece → Walks t after (b.0 ++ piece) b.1 (Some (stop.Fault f)) known new → Consumes to last more
    → (k ≡ Whole (Some f)) ⊎ ((end : RunEnd) × (k ≡ Cut end) × IsCutShort end) → Ends t after k from last old new
ends_gone t from mid to last old known new r after piece more f k (read, texts, c, a, w) some (text, b, faulted) gone ending =
    let at = faulted more in (
      (read ++ piece) ++ more,
      texts ++ text,
      Consumes-trans from to last (read ++ piece) more (Consumes-trans from mid to read piece c some) gone,
      Appends-trans old known new texts text a b,
      so ending,
    )
  where
    so : (k ≡ Whole (Some f)) ⊎ ((end : RunEnd) × (k ≡ Cut end) × IsCutShort end) → IsEnding t after ((read ++ piece) ++ more) (texts ++ text) k
    so (inl is) = subst (IsEnding t after ((read ++ piece) ++ more) (texts ++ text)) (sym is) (faulted more).ends
    so (inr (end, is, short)) = subst (IsEnding t after ((read ++ piece) ++ more) (texts ++ text)) (sym is)
        (cut_so t after ((read ++ piece) ++ more) (texts ++ text) end (faulted more).all (faulted more).first short)

-- where memory ran out
pub ends_short : {R : Type 0} (t : Tells R) (from mid to old known new : Option (List ℕ)) (r after : R) (piece : List ℕ) (b : Between t from mid r old known)
    → Consumes mid to piece → Walks t after (b.0 ++ piece) b.1 (Some stop.OutOfMemory) known new → Ends t after (Cut OutOfMemory) from to old new
ends_short t from mid to old known new r after piece (read, texts, c, a, w) more (text, b, first) =
    (read ++ piece, texts ++ text, Consumes-trans from mid to read piece c more, Appends-trans old known new texts text a b, first)

-- a fact of a result
pub where_ok : {A E : Type 0} (r : Result A E) (P Q : A → Type 0) → ((x : A) → P x → Q x) → IfOk r P → IfOk r Q
where_ok (Ok x) P Q more p = more x p
where_ok (Err e) P Q more p = tt

-- ---- a writer whose buffer is empty

empty_behind : (known : Option (List ℕ)) (bytes : List ℕ) → bytes ≡ [] → append_known known bytes ≡ known
empty_behind None bytes none = refl
empty_behind (Some xs) bytes none = ap Some (ap (λ (x : List ℕ). xs ++ x) none ∙ append-nil xs)

pub from_empty : {R : Type 0} (t : Tells R) (from to known mid : Option (List ℕ)) (bytes : List ℕ) (r : R) (k : Ending) → bytes ≡ []
    → Ends t r k from to (append_known known bytes) mid → Ends t r k from to known mid
from_empty t from to known mid bytes r k none ended = subst (λ (old : Option (List ℕ)). Ends t r k from to old mid) (empty_behind known bytes none) ended

-- nothing was written of an input that memory had no room for
pub none_first : {R : Type 0} (t : Tells R) (r : R) (hex : Bool) (from old : Option (List ℕ)) → IsBetween t r [] [] → IfSome from (λ input. AppendsOne (IsFirstOf t.first hex input) old old)
none_first t r hex None old b = tt
none_first t r hex (Some input) old b = ([], none_of (hex_fault hex input) (bytes_of hex input), Appends-nil old)
  where
    none_of : (fault : Option ℕ) (bytes : List ℕ) → OrNone t.first fault bytes []
    none_of None bytes = b.first bytes
    none_of (Some place) bytes = refl

-- ---- the end of a run

-- a fact of all known bytes, under a premise
under : {A : Type 0} (P : List ℕ → Type 0) (known : Option (List ℕ)) → (A → IfSome known P) → IfSome known (λ input. A → P input)
under P None is = tt
under P (Some input) is = is

-- what the last function promises of an ending
abbrev pub Finishes : {R : Type 0} → Tells R → R → Ending → RunEnd → Option (List ℕ) → Option (List ℕ) → Type 0
Finishes t r k end mid new = (read texts : List ℕ) → IsEnding t r read texts k → IsFinish t read texts end mid new

-- the whole text of what was read
text_whole : {R : Type 0} (t : Tells R) (read texts : List ℕ) (end : RunEnd) (old mid new : Option (List ℕ)) → Appends old mid texts → IsFinish t read texts end mid new → is_done end ≡ true
    → AppendsText (t.whole read) (is_fault end) old new
text_whole t read texts Good old mid new a (behind, whole, b) done = (texts ++ behind, whole, Appends-trans old mid new texts behind a b)
text_whole t read texts Fault old mid new a (behind, whole, b) done = (texts ++ behind, whole, Appends-trans old mid new texts behind a b)
text_whole t read texts Unread old mid new a f done = absurd cc
text_whole t read texts OutOfMemory old mid new a f done = absurd cc
text_whole t read texts InOut old mid new a f done = absurd cc

pub run_done : {R : Type 0} (t : Tells R) (from to old mid new : Option (List ℕ)) (r : R) (k : Ending) (end : RunEnd) → Ends t r k from to old mid → Finishes t r k end mid new
    → ((read texts : List ℕ) → IsEnding t r read texts k → is_done end ≡ true → (last : Option InputFault) × (k ≡ Whole last))
    → ((last : Option InputFault) → k ≡ Whole last → IsAtEnd to)
    → IfSome from (λ input. is_done end ≡ true → AppendsText (t.whole input) (is_fault end) old new)
run_done t from to old mid new r k end (read, texts, c, a, ending) finish ended whole =
    under (λ input. AppendsText (t.whole input) (is_fault end) old new) from (λ (done : is_done end ≡ true).
    let last = ended read texts ending done in
    Consumes-whole from to read (λ (input : List ℕ). AppendsText (t.whole input) (is_fault end) old new) c (whole last.0 last.1)
    (text_whole t read texts end old mid new a (finish read texts ending) done))

pub run_read : {R : Type 0} (t : Tells R) (from to old mid : Option (List ℕ)) (r : R) (k : Ending) (end : RunEnd) → Ends t r k from to old mid
    → ((read texts : List ℕ) → IsEnding t r read texts k → is_done end ≡ true → (last : Option InputFault) × (k ≡ Whole last))
    → ((last : Option InputFault) → k ≡ Whole last → IsAtEnd to) → is_done end ≡ true → IsAtEnd to
run_read t from to old mid r k end (read, texts, c, a, ending) ended whole done =
    let last = ended read texts ending done in whole last.0 last.1

-- where reading failed
pub run_unread : {R : Type 0} (t : Tells R) (from to old mid new : Option (List ℕ)) (r : R) (k : Ending) (end : RunEnd) → Ends t r k from to old mid → Finishes t r k end mid new
    → end ≡ Unread → WritesRead t.all from to old new
run_unread t from to old mid new r k end (read, texts, c, a, ending) finish is =
    let told = subst (λ (e : RunEnd). IsFinish t read texts e mid new) is (finish read texts ending) in
    (read, c, (texts, told.0, Appends-kept old mid new texts a told.1))

-- where memory ran out
first_of_all : {R : Type 0} (t : Tells R) (from to old new : Option (List ℕ)) (read texts : List ℕ) → Consumes from to read → ((more : List ℕ) → t.first (read ++ more) texts) → Appends old new texts
    → IfSome from (λ input. AppendsOne (t.first input) old new)
first_of_all t None to old new read texts c first a = tt
first_of_all t (Some input) None old new read texts c first a = absurd c
first_of_all t (Some input) (Some left) old new read texts c first a = (texts, subst (λ (x : List ℕ). t.first x texts) (sym c) (first left), a)

pub run_short : {R : Type 0} (t : Tells R) (from to old mid new : Option (List ℕ)) (r : R) (k : Ending) (end : RunEnd) → Ends t r k from to old mid → Finishes t r k end mid new
    → end ≡ OutOfMemory → IfSome from (λ input. AppendsOne (t.first input) old new)
run_short t from to old mid new r k end (read, texts, c, a, ending) finish is =
    let told = subst (λ (e : RunEnd). IsFinish t read texts e mid new) is (finish read texts ending) in
    first_of_all t from to old new read texts c told.0 (Appends-kept old mid new texts a told.1)
