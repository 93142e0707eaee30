-- What was read and written of texts, as pieces come and documents are written.
use Rattle.std.proofs.Common.{◌≡◌, ◌⊎◌, inl, inr, ◌++◌, [], ℕ, ◌+◌, List, Bool, true, false, Option, None, Some, IfOk, IfSome, Result, Ok, Err, take, refl, sym, ap, subst, ◌∙◌, append-nil, append_assoc, take-append-drop, true≢false}
use Rattle.std.specs.Prelude.{OnOk, is_some, not, unwrap_or}
use Rattle.std.specs.Io.KnownBytes.{Appends, Consumes, IsAtEnd, Keeps, append_known}
use Rattle.std.proofs.KnownBytes.{Appends-kept, Appends-nil, Consumes-nil, Consumes-trans}
use Rattle.bson_json_read.specs.declared.frame.Frame.TheVariants.{Start}
use Rattle.bson_json_read.specs.declared.texts.NextBytes.{NextBytes}
use Rattle.bson_json_read.specs.declared.texts.NextBytes.TheVariants.{Document}
use Rattle.bson_json_read.specs.declared.place.Place.{Place}
use Rattle.bson_json_read.specs.Pieces.{Held, IsOpen, MayFollow, MovesBy, StandsBehind}
use Rattle.bson_json_read.specs.Places.{StandsIn}
use Rattle.bson_json_read.specs.Sequences.{GivesBytes, Left, ReadsTo, next_in}
use Rattle.bson_json_read.proofs.Lemmas.{stands_further, stands_in}
use Rattle.file_commands.specs.declared.bson.TextStop.{TextStop}
use Rattle.file_commands.specs.declared.bson.TextStop.TheVariants.{Fault, Refused}
use Rattle.command_run.specs.declared.run.RunEnd.{RunEnd}
use Rattle.command_run.specs.declared.run.RunEnd.TheVariants.{InOut, OutOfMemory}
use Rattle.file_commands.specs.declared.texts.Passed.{Passed}
use Rattle.file_commands.specs.declared.texts.Passed.TheVariants.{Over, Wanted}
use Rattle.file_commands.specs.BsonOf.{AllBson, EndsAt, FirstBson, IsPlaced, StopsAt, WritesTexts, bytes_of_each}
use Rattle.file_commands.specs.Output.{AppendsOne, WritesRead}
use Rattle.file_commands.specs.Source.{given}
use Rattle.file_commands.specs.TextPieces.{HaveRead, IsBegun, IsPassed, Reached, left_of}
use Rattle.file_commands.proofs.PieceLemmas.{where_ok}
use Rattle.file_commands.proofs.TextsRead.{goes_on}

pub begins : (count : ℕ) (h : Held) (known : Option (List ℕ)) → IsBegun count h → HaveRead false [] count h known known
begins count h known (none, is) = record {
  reached = λ more may. ([], ap (λ (x : Held). left_of x more) is, none, Appends-nil known);
  before = [];
  held = sym (ap (λ (x : Held). x.bytes) is);
  place = ap (λ (x : Held). x.place) is;
}

-- a piece came
pub came : (read piece : List ℕ) (count : ℕ) (h fed : Held) (old new : Option (List ℕ)) → fed ≡ record h { bytes = h.bytes ++ piece } → HaveRead false read count h old new
    → HaveRead false (read ++ piece) count fed old new
came read piece count h fed old new is r = record {
  reached = λ more may. subst (λ (input : List ℕ). Reached input count (left_of fed more) old new) (sym (append_assoc read piece more))
      (subst (λ (left : Left). Reached (read ++ (piece ++ more)) count left old new) (left_is more) (r.reached (piece ++ more) (λ no. absurd (true≢false (sym no)))));
  before = r.before;
  held = ap (λ (x : List ℕ). x ++ piece) r.held ∙ append_assoc r.before h.bytes piece ∙ ap (λ (x : List ℕ). r.before ++ x) (sym (ap (λ (x : Held). x.bytes) is));
  place = ap (λ (x : Held). x.place) is ∙ r.place;
}
  where
    left_is : (more : List ℕ) → left_of h (piece ++ more) ≡ left_of fed more
    left_is more = ap (λ (x : List ℕ). record { frame = h.frame; rest = x }) (sym (append_assoc h.bytes piece more)) ∙ ap (λ (x : Held). left_of x more) (sym is)

-- it may be the last one
pub any_last : (last : Bool) (read : List ℕ) (count : ℕ) (h : Held) (old new : Option (List ℕ)) → HaveRead false read count h old new → HaveRead last read count h old new
any_last last read count h old new r = record {
  reached = λ more may. r.reached more (λ no. absurd (true≢false (sym no)));
  before = r.before;
  held = r.held;
  place = r.place;
}

-- the next document was written, too
pub wrote_next : (last : Bool) (read : List ℕ) (count n : ℕ) (h to : Held) (bytes : List ℕ) (old mid new : Option (List ℕ)) → HaveRead last read count h old mid → MovesBy n h to
    → ((more : List ℕ) → MayFollow last more → GivesBytes (next_in h.frame (h.bytes ++ more)) Document bytes (left_of to more)) → Appends mid new bytes → HaveRead last read (count + 1) to old new
wrote_next last read count n h to bytes old mid new r moved gives more = record {
  reached = λ rest may. goes_on (read ++ rest) count (left_of h rest) (left_of to rest) bytes old mid new (r.reached rest may) (gives rest may) more;
  before = r.before ++ take n h.bytes;
  held = r.held ∙ ap (λ (x : List ℕ). r.before ++ x) (sym (take-append-drop n h.bytes) ∙ ap (λ (x : List ℕ). take n h.bytes ++ x) (sym moved.bytes))
      ∙ sym (append_assoc r.before (take n h.bytes) to.bytes);
  place = stands_further r.before n h to r.place moved;
}

-- a place among the held bytes is one of the input
pub placed : (last : Bool) (read more : List ℕ) (count : ℕ) (h : Held) (p : Place) (old new : Option (List ℕ)) → HaveRead last read count h old new → StandsBehind h p → StandsIn (read ++ more) p.line p.column
placed last read more count h p old new r stands =
    subst (λ (x : List ℕ). StandsIn (x ++ more) p.line p.column) (sym r.held) (stands_in r.before more h p r.place stands)

-- what was read next, whatever follows
abbrev pub GivesNow : Bool → Held → Held → List ℕ → NextBytes → Type 0
GivesNow last old new bytes read = (more : List ℕ) → MayFollow last more → GivesBytes (next_in old.frame (old.bytes ++ more)) read bytes (left_of new more)

-- a fact of what was found
pub told : {A : Type 0} (P : A → Type 0) (found : Option A) (n read : A) → IfSome found P → found ≡ Some n → n ≡ read → P read
told P found n read p is same = subst P same (subst (λ o. IfSome o P) is p)

-- what isn't the one is the other
pub other : {A B : Type 0} → (A → ⊥) → A ⊎ B → B
other isnt (inl a) = absurd (isnt a)
other isnt (inr b) = b

-- ---- the ends of a run

-- the texts that came were read, as far as they are whole
pub all_written : (read : List ℕ) (count : ℕ) (h : Held) (old new : Option (List ℕ)) → HaveRead false read count h old new → IsOpen h.frame h.bytes → AppendsOne (AllBson read) old new
all_written read count h old new r is_open =
    let (ds, reads, same, appends) = r.reached [] (λ no. absurd (true≢false (sym no))) in (
      bytes_of_each ds,
      (
        ds,
        record { frame = h.frame; rest = h.bytes },
        subst (λ (input : List ℕ). ReadsTo input ds (record { frame = h.frame; rest = h.bytes })) (append-nil read)
            (subst (λ (rest : List ℕ). ReadsTo (read ++ []) ds (record { frame = h.frame; rest = rest })) (append-nil h.bytes) reads),
        inl is_open,
        refl,
      ),
      appends,
    )

-- memory ran out behind these bytes
pub first_written : (last : Bool) (read : List ℕ) (count : ℕ) (h : Held) (from to old new : Option (List ℕ)) → HaveRead last read count h old new → Consumes from to read → (last ≡ true → IsAtEnd to)
    → IfSome from (λ input. AppendsOne (FirstBson input) old new)
first_written last read count h None to old new r c ended = tt
first_written last read count h (Some input) None old new r c ended = absurd c
first_written last read count h (Some input) (Some more) old new r c ended =
    let (ds, reads, same, appends) = r.reached more ended in
    (bytes_of_each ds, (ds, left_of h more, subst (λ (x : List ℕ). ReadsTo x ds (left_of h more)) (sym c) reads, refl), appends)

ends_so : (stop : Option TextStop) (count : ℕ) (left : Left) → StopsAt stop count left → (stop ≡ None → ⊥) → EndsAt true left
ends_so None count left why some = absurd (some refl)
ends_so (Some (Fault f)) count left why some = inl (f.cause, why)
ends_so (Some (Refused refusal number)) count left why some = inr (refusal, why.1)

-- no more documents are written, whatever follows
pub stopped : (last : Bool) (read more : List ℕ) (stop : Option TextStop) (count : ℕ) (h : Held) (old new : Option (List ℕ)) → IsPassed last read (Over stop) count h old new → MayFollow last more
    → WritesTexts (read ++ more) (StopsAt stop) old new × IsPlaced (read ++ more) stop
stopped last read more stop count h old new (ended, from, r, why) may =
    let (ds, reads, same, appends) = r.reached more may in
    let (stops, placed) = why more may in
    ((ds, left_of from more, reads, subst (λ (k : ℕ). StopsAt stop k (left_of from more)) same stops, appends), placed)

-- all texts before a fault were read
pub all_stopped : (read more : List ℕ) (stop : Option TextStop) (count : ℕ) (h : Held) (old new : Option (List ℕ)) → IsPassed false read (Over stop) count h old new → AppendsOne (AllBson (read ++ more)) old new
all_stopped read more stop count h old new (ended, from, r, why) =
    let may : MayFollow false more = λ no. absurd (true≢false (sym no)) in
    let (ds, reads, same, appends) = r.reached more may in (
      bytes_of_each ds,
      (ds, left_of from more, reads, inr (ends_so stop count (left_of from more) (why more may).0 (λ none. true≢false (sym (ended none)))), refl),
      appends,
    )

-- memory ran out as the rest was read
pub first_stopped : (read : List ℕ) (stop : Option TextStop) (count : ℕ) (h : Held) (from to old new : Option (List ℕ)) → IsPassed false read (Over stop) count h old new → Consumes from to read
    → IfSome from (λ input. AppendsOne (FirstBson input) old new)
first_stopped read stop count h from to old new (ended, held, r, why) c = first_written false read count held from to old new r c (λ no. absurd (true≢false (sym no)))

-- ---- between two pieces

-- What was read of an input was written, as far as its texts are whole.
abbrev pub Came : Option (List ℕ) → Option (List ℕ) → ℕ → Held → Option (List ℕ) → Option (List ℕ) → Type 0
Came from to count h old new = (read : List ℕ) × Consumes from to read × HaveRead false read count h old new × IsOpen h.frame h.bytes

pub begun : (from old : Option (List ℕ)) (count : ℕ) (h : Held) → IsBegun count h → Came from from count h old old
begun from old count h is = ([], Consumes-nil from, begins count h old is, subst (λ (x : Held). IsOpen x.frame x.bytes) (sym is.1) (inl (Start, λ more. refl)))

-- what came by a read
pub given_or : (v : Option ℕ) → given v ≡ unwrap_or v 0
given_or None = refl
given_or (Some n) = refl

pub none_of : (v : Option ℕ) (last : Bool) → is_some v ≡ not last → last ≡ true → v ≡ None
none_of None last told is = refl
none_of (Some n) last told is = absurd (true≢false (told ∙ ap not is))

pub fed : (last : Bool) (from mid old known : Option (List ℕ)) (count : ℕ) (h behind : Held) (piece : List ℕ) (b : Came from mid count h old known) → behind ≡ record h { bytes = h.bytes ++ piece }
    → HaveRead last (b.0 ++ piece) count behind old known
fed last from mid old known count h behind piece b is = any_last last (b.0 ++ piece) count behind old known (came b.0 piece count h behind old known is b.2)

-- ---- what a writer behind a buffer got

pub read_kept : (last : Bool) (read : List ℕ) (count : ℕ) (h : Held) (old mid new : Option (List ℕ)) → HaveRead last read count h old mid → Keeps mid new → HaveRead last read count h old new
read_kept last read count h old mid new r kept = record {
  reached = λ more may. let (ds, reads, same, appends) = r.reached more may in (ds, reads, same, Appends-kept old mid new (bytes_of_each ds) appends kept);
  before = r.before;
  held = r.held;
  place = r.place;
}

passed_kept : (last : Bool) (read : List ℕ) (passed : Passed) (count : ℕ) (h : Held) (old mid new : Option (List ℕ)) → Keeps mid new → IsPassed last read passed count h old mid → IsPassed last read passed count h old new
passed_kept last read Wanted count h old mid new kept (more, is_open, r) = (more, is_open, read_kept last read count h old mid new r kept)
passed_kept last read (Over stop) count h old mid new kept (ended, from, r, why) = (ended, from, read_kept last read count from old mid new r kept, why)

-- how it ended, where all was passed on
abbrev pub Flushed : Result Passed RunEnd → Result Passed RunEnd → List ℕ → Type 0
Flushed passed result waits = (result ≡ Err InOut) ⊎ ((result ≡ passed) × (waits ≡ []))

pub flushed_empty : (passed result : Result Passed RunEnd) (waits : List ℕ) → Flushed passed result waits → OnOk result (waits ≡ [])
flushed_empty passed result waits (inl is) = subst (λ (r : Result Passed RunEnd). OnOk r (waits ≡ [])) (sym is) tt
flushed_empty passed (Ok p) waits (inr (same, none)) = none
flushed_empty passed (Err e) waits (inr (same, none)) = tt

append_known-nil : (known : Option (List ℕ)) → append_known known [] ≡ known
append_known-nil None = refl
append_known-nil (Some xs) = ap Some (append-nil xs)

got_all : (mid known inner : Option (List ℕ)) (waits : List ℕ) → Keeps mid known → append_known inner waits ≡ known → waits ≡ [] → Keeps mid inner
got_all mid known inner waits kept is none = subst (Keeps mid) (sym is ∙ ap (append_known inner) none ∙ append_known-nil inner) kept

pub flushed_ok : (last : Bool) (read : List ℕ) (passed result : Result Passed RunEnd) (count : ℕ) (h : Held) (waits : List ℕ) (old mid known inner : Option (List ℕ)) → Flushed passed result waits
    → Keeps mid known → append_known inner waits ≡ known → IfOk passed (λ p. IsPassed last read p count h old mid) → IfOk result (λ p. IsPassed last read p count h old inner)
flushed_ok last read passed result count h waits old mid known inner (inl is) kept same p =
    subst (λ (r : Result Passed RunEnd). IfOk r (λ p. IsPassed last read p count h old inner)) (sym is) tt
flushed_ok last read passed result count h waits old mid known inner (inr (is, none)) kept same p =
    subst (λ (r : Result Passed RunEnd). IfOk r (λ p. IsPassed last read p count h old inner)) (sym is)
    (where_ok passed (λ p. IsPassed last read p count h old mid) (λ p. IsPassed last read p count h old inner) (λ x. passed_kept last read x count h old mid inner (got_all mid known inner waits kept same none)) p)

pub flushed_memory : (last : Bool) (read : List ℕ) (passed result : Result Passed RunEnd) (count : ℕ) (h : Held) (waits : List ℕ) (old mid known inner : Option (List ℕ)) → Flushed passed result waits
    → Keeps mid known → append_known inner waits ≡ known → (passed ≡ Err OutOfMemory → HaveRead last read count h old mid) → result ≡ Err OutOfMemory → HaveRead last read count h old inner
flushed_memory last read passed result count h waits old mid known inner (inl is) kept same r short = let clash = sym is ∙ short in absurd cc
flushed_memory last read passed result count h waits old mid known inner (inr (is, none)) kept same r short =
    read_kept last read count h old mid inner (r (sym is ∙ short)) (got_all mid known inner waits kept same none)

-- ---- behind a piece

-- a fact of a result
pub told_ok : {A E : Type 0} (P : A → Type 0) (result : Result A E) (found x : A) → IfOk result P → result ≡ Ok found → found ≡ x → P x
told_ok P result found x p is same = subst P same (subst (λ r. IfOk r P) is p)

-- An input was read so far, its documents were written, and no more are, for this reason.
abbrev pub Stopped : Option (List ℕ) → Option (List ℕ) → Option (List ℕ) → Option (List ℕ) → Option TextStop → Type 0
Stopped from to old new stop = (read : List ℕ) × Consumes from to read × WritesTexts read (StopsAt stop) old new × IsPlaced read stop

pub over : (last : Bool) (read more : List ℕ) (stop : Option TextStop) (count : ℕ) (h : Held) (from mid to old new : Option (List ℕ)) → IsPassed last read (Over stop) count h old new
    → Consumes from mid read → Consumes mid to more → MayFollow last more → Stopped from to old new stop
over last read more stop count h from mid to old new passed c d may =
    let whole = stopped last read more stop count h old new passed may in
    (read ++ more, Consumes-trans from mid to read more c d, whole.0, whole.1)

-- reading failed behind them
pub unread_behind : (last : Bool) (read more : List ℕ) (stop : Option TextStop) (count : ℕ) (h : Held) (from mid to old new : Option (List ℕ)) → IsPassed last read (Over stop) count h old new → last ≡ false
    → Consumes from mid read → Consumes mid to more → WritesRead AllBson from to old new
unread_behind last read more stop count h from mid to old new passed goes c d =
    (read ++ more, Consumes-trans from mid to read more c d, all_stopped read more stop count h old new (subst (λ (b : Bool). IsPassed b read (Over stop) count h old new) goes passed))

-- memory ran out behind them
pub short_behind : (last : Bool) (read : List ℕ) (stop : Option TextStop) (count : ℕ) (h : Held) (from mid old new : Option (List ℕ)) → IsPassed last read (Over stop) count h old new → last ≡ false
    → Consumes from mid read → IfSome from (λ input. AppendsOne (FirstBson input) old new)
short_behind last read stop count h from mid old new passed goes c = first_stopped read stop count h from mid old new (subst (λ (b : Bool). IsPassed b read (Over stop) count h old new) goes passed) c

-- all that is whole was written
pub came_behind : (last : Bool) (read : List ℕ) (count : ℕ) (h : Held) (from to old new : Option (List ℕ)) → IsPassed last read Wanted count h old new → Consumes from to read → Came from to count h old new
came_behind last read count h from to old new (goes, is_open, r) c = (read, c, subst (λ (b : Bool). HaveRead b read count h old new) goes r, is_open)
