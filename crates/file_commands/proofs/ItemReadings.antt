-- Items of one kind, back to back: what was read of them and written for them, piece by piece.
use Rattle.std.proofs.Common.{◌≡◌, ◌≢◌, inl, inr, ◌+◌, ◌-◌, ◌<◌, ◌≤◌, ◌++◌, [], ◌∷◌, ℕ, List, Option, None, Some, Result, Ok, Err, OnOk, length, take, drop, refl, sym, ap, subst, ◌∙◌, append_assoc, append-nil, arith, length-append, length-drop, length-take, take-append-drop}
use Rattle.std.specs.Prelude.{nat_lt}
use Rattle.std.proofs.Math.Seq.{take-length}
use Rattle.std.proofs.lemmas.Bool.{le-ltb, lt-ltb}
use Rattle.std.proofs.lemmas.List.{nil_from_length}
use Rattle.std.specs.List.{concat}
use Rattle.std.proofs.lemmas.List.Folds.{concat-append}
use Rattle.std.specs.Io.KnownBytes.{Appends, Keeps}
use Rattle.std.proofs.KnownBytes.{Appends-kept, Appends-nil, Appends-trans}
use Rattle.command_run.specs.{is_there, or_nothing}
use Rattle.file_commands.specs.declared.input_fault.InputFault.{InputFault}
use Rattle.file_commands.specs.declared.walk.Stop.{Stop}
use Rattle.file_commands.specs.declared.walk.Stop.TheVariants as stop
use Rattle.file_commands.specs.InputFault.{input_fault_line}
use Rattle.file_commands.specs.ItemWalk.{EndAt, GoesOverItems, IsStoppedAt, ItemReading, ItemWalk, ItemsWritten, StandAt, item_tells}
use Rattle.framing.specs.{AreAll}
use Rattle.file_commands.specs.Items.{AreTextsOf, FirstItems, HaveItems, IsLastItem, ItemKind, ItemsText, are_there}
use Rattle.file_commands.specs.Walk.{IsAtFault, IsBetween, Walks}

-- what is known of a kind: bytes that more decide are at no fault, and begin with no item; and what follows bytes doesn't change their fault
pub record IsKind (k : ItemKind) : Type 0 where
  pub nothing_open : k.is_open []
  pub open_not_bad : (start : ℕ) (bytes line : List ℕ) → k.is_open bytes → k.is_bad start bytes line → ⊥
  pub open_not_item : (item after : List ℕ) → k.is_open (item ++ after) → k.is_item item → ⊥
  pub bad_longer : (start : ℕ) (bytes more line : List ℕ) → k.is_bad start bytes line → k.is_bad start (bytes ++ more) line

-- ---- bytes that a reader takes

-- what stands from an offset on
tail_is : (n : ℕ) (xs : List ℕ) → take (length xs - n) (drop n xs) ≡ drop n xs
tail_is n xs = ap (λ (k : ℕ). take k (drop n xs)) (sym (length-drop n xs)) ∙ take-length (drop n xs)

-- the front of the rest was taken
pub taken_is : (n : ℕ) (held new rest : List ℕ) → new ≡ held ++ take n rest → held ++ rest ≡ new ++ take (length rest - n) (drop n rest)
taken_is n held new rest is =
    ap (λ (x : List ℕ). held ++ x) (sym (take-append-drop n rest)) ∙ sym (append_assoc held (take n rest) (drop n rest))
    ∙ ap (λ (x : List ℕ). x ++ drop n rest) (sym is) ∙ ap (λ (x : List ℕ). new ++ x) (sym (tail_is n rest))

-- the bytes that weren't taken are fewer
pub fewer_left : (n : ℕ) (rest : List ℕ) → 1 ≤ n → n ≤ length rest → length (take (length rest - n) (drop n rest)) < length rest
fewer_left n rest some there = omega (arith, some, there, ap length (tail_is n rest), length-drop n rest)

-- what was there before some was left
pub some_left : (n : ℕ) (rest : List ℕ) → (length (take (length rest - n) (drop n rest)) ≡ 0 → ⊥) → length rest ≢ 0
some_left n rest left none = left (omega (arith, none, ap length (tail_is n rest), length-drop n rest))

-- an item that was taken whole ends, so that fewer bytes are left of the piece, or fewer are held
pub fewer_held : (n : ℕ) (held new rest none : List ℕ) → n ≤ length rest → new ≡ held ++ take n rest → 1 ≤ length new → none ≡ [] → length (take (length rest - n) (drop n rest)) + length none < length rest + length held
fewer_held n held new rest none there is some empty =
    omega (arith, there, some, ap length (tail_is n rest), length-drop n rest, ap length is, length-append held (take n rest), length-take n rest, ap length empty)

-- an item in front of bytes that aren't longer is all of them
pub item_alone : (bytes item after : List ℕ) → bytes ≡ item ++ after → length bytes ≤ length item → item ≡ bytes
item_alone bytes item after is short =
    let none : after ≡ [] = nil_from_length after (omega (arith, short, ap length is, length-append item after)) in
    sym (is ∙ ap (λ (x : List ℕ). item ++ x) none ∙ append-nil item)

pub is_empty : (held : List ℕ) → (held ≢ [] → ⊥) → held ≡ []
is_empty [] none = refl
is_empty (x ∷ xs) none = absurd (none (λ e. absurd cc))

not_zero : (n : ℕ) → (n ≡ 0 → ⊥) → 1 ≤ n
not_zero n some = omega (arith, some)

-- ---- items that have texts

-- how many bytes items have
len-append : (ps qs : List (List ℕ)) → length (concat (ps ++ qs)) ≡ length (concat ps) + length (concat qs)
len-append ps qs = ap length (concat-append ps qs) ∙ length-append (concat ps) (concat qs)

items-append : (k : ItemKind) (ps qs : List (List ℕ)) → AreAll k.is_item ps → AreAll k.is_item qs → AreAll k.is_item (ps ++ qs)
items-append k [] qs a b = b
items-append k (p ∷ ps) qs a b = (a.0, items-append k ps qs a.1 b)

texts-joined : (k : ItemKind) (start : ℕ) (ps qs : List (List ℕ)) (a b : List ℕ) → AreTextsOf k start ps a → AreTextsOf k (start + length (concat ps)) qs b → AreTextsOf k start (ps ++ qs) (a ++ b)
texts-joined k start [] qs a b none more =
    subst (AreTextsOf k start qs) (ap (λ (x : List ℕ). x ++ b) (sym none)) (subst (λ (n : ℕ). AreTextsOf k n qs b) (omega arith) more)
texts-joined k start (p ∷ ps) qs a b (text, others, is, all, sum) more =
    let behind : AreTextsOf k ((start + length p) + length (concat ps)) qs b = subst (λ (n : ℕ). AreTextsOf k n qs b) (omega (arith, length-append p (concat ps))) more in
    (text, others ++ b, is, texts-joined k (start + length p) ps qs others b all behind, ap (λ (x : List ℕ). x ++ b) sum ∙ append_assoc text others b)

abbrev none_have : (k : ItemKind) (start : ℕ) (bytes : List ℕ) → HaveItems k start bytes [] bytes
none_have k start bytes = record { items = []; items_are = tt; joined = refl; texts_are = refl }

-- items, and those of what is left
abbrev have_on : (k : ItemKind) (start at : ℕ) (bytes rest after a b : List ℕ) (h : HaveItems k start bytes a rest) (g : HaveItems k at rest b after) → at ≡ start + length (concat h.items) → HaveItems k start bytes (a ++ b) after
have_on k start at bytes rest after a b h g is = record {
  items = h.items ++ g.items;
  items_are = items-append k h.items g.items h.items_are g.items_are;
  joined = h.joined ∙ ap (λ (x : List ℕ). concat h.items ++ x) g.joined ∙ sym (append_assoc (concat h.items) (concat g.items) after)
      ∙ ap (λ (x : List ℕ). x ++ after) (sym (concat-append h.items g.items));
  texts_are = texts-joined k start h.items g.items a b h.texts_are (subst (λ (n : ℕ). AreTextsOf k n g.items b) is g.texts_are);
}

-- one item
abbrev one_has : (k : ItemKind) (start : ℕ) (item after text : List ℕ) → k.is_item item → k.is_text start item text → HaveItems k start (item ++ after) text after
one_has k start item after text is text_is = record {
  items = item ∷ [];
  items_are = (is, tt);
  joined = ap (λ (x : List ℕ). x ++ after) (sym (append-nil item));
  texts_are = (text, [], text_is, refl, sym (append-nil text));
}

-- more bytes came
abbrev have_before : (k : ItemKind) (start : ℕ) (bytes texts rest more : List ℕ) → HaveItems k start bytes texts rest → HaveItems k start (bytes ++ more) texts (rest ++ more)
have_before k start bytes texts rest more h = record {
  items = h.items;
  items_are = h.items_are;
  joined = ap (λ (x : List ℕ). x ++ more) h.joined ∙ append_assoc (concat h.items) rest more;
  texts_are = h.texts_are;
}

-- ---- texts that were written

pub no_item : (k : ItemKind) (bytes : List ℕ) (start : ℕ) (old : Option (List ℕ)) → ItemsWritten k bytes start start bytes old old
no_item k bytes start old = record { texts = []; have = none_have k start bytes; start_is = omega arith; appends = Appends-nil old }

-- a reader took the front of the rest
pub item_fed : (k : ItemKind) (n : ℕ) (bytes held new rest : List ℕ) (base start : ℕ) (from to : Option (List ℕ)) → ItemsWritten k bytes base start (held ++ rest) from to
    → new ≡ held ++ take n rest → ItemsWritten k bytes base start (new ++ take (length rest - n) (drop n rest)) from to
item_fed k n bytes held new rest base start from to w is = subst (λ (x : List ℕ). ItemsWritten k bytes base start x from to) (taken_is n held new rest is) w

-- the text of the item that a reader held was written, and the reader let go of it
pub item_released : (k : ItemKind) (bytes held none rest text : List ℕ) (base start behind : ℕ) (from mid to : Option (List ℕ))
    → ItemsWritten k bytes base start (held ++ rest) from mid → k.is_item held → k.is_text start held text → Appends mid to text
    → behind ≡ start + length held → none ≡ [] → ItemsWritten k bytes base behind (none ++ rest) from to
item_released k bytes held none rest text base start behind from mid to w is text_is appends next empty =
    let sum : length (concat (w.have.items ++ held ∷ [])) ≡ length (concat w.have.items) + length held = len-append w.have.items (held ∷ []) ∙ omega (arith, length-append held []) in
    let after : ItemsWritten k bytes base behind rest from to = record {
      texts = w.texts ++ text;
      have = have_on k base start bytes (held ++ rest) rest w.texts text w.have (one_has k start held rest text is text_is) w.start_is;
      start_is = omega (arith, next, w.start_is, sum);
      appends = Appends-trans from mid to w.texts text w.appends appends;
    } in
    subst (λ (x : List ℕ). ItemsWritten k bytes base behind (x ++ rest) from to) (sym empty) after

-- nothing more was written
pub item_kept : (k : ItemKind) (bytes : List ℕ) (base start : ℕ) (rest : List ℕ) (old mid new : Option (List ℕ)) → ItemsWritten k bytes base start rest old mid → Keeps mid new → ItemsWritten k bytes base start rest old new
item_kept k bytes base start rest old mid new w keeps = record { texts = w.texts; have = w.have; start_is = w.start_is; appends = Appends-kept old mid new w.texts w.appends keeps }

-- ---- how bytes end

module _ (k : ItemKind) (is_kind : IsKind k) where
  -- an item that became whole took some bytes
  pub whole_takes : (n : ℕ) (held new rest item after : List ℕ) → k.is_open held → new ≡ held ++ take n rest → new ≡ item ++ after → k.is_item item → 1 ≤ n
  whole_takes n held new rest item after o is sum p =
      not_zero n
      (λ none.
      let same : item ++ after ≡ held = sym sum ∙ is ∙ ap (λ (k : ℕ). held ++ take k rest) none ∙ append-nil held in
      is_kind.open_not_item item after (subst k.is_open (sym same) o) p)

  -- the last line of bytes at fault
  last_bad : (start : ℕ) (rest line : List ℕ) → k.is_bad start rest line → IsLastItem k start rest (Some line)
  last_bad start [] line bad = absurd (is_kind.open_not_bad start [] line is_kind.nothing_open bad)
  last_bad start (x ∷ xs) line bad = inr (line, bad, refl)

-- the last line of bytes that more bytes would decide
last_open : (k : ItemKind) (start : ℕ) (rest : List ℕ) → k.is_open rest → (last : Option (List ℕ)) × IsLastItem k start rest last
last_open k start [] o = (None, refl)
last_open k start (x ∷ xs) o = (Some (k.inside_line start), inl (o, refl))

last_none : (k : ItemKind) (start : ℕ) (rest : List ℕ) → rest ≡ [] → IsLastItem k start rest None
last_none k start rest none = subst (λ (x : List ℕ). IsLastItem k start x None) (sym none) refl

last_inside : (k : ItemKind) (start : ℕ) (rest : List ℕ) → k.is_open rest → rest ≢ [] → IsLastItem k start rest (Some (k.inside_line start))
last_inside k start [] o some = absurd (some refl)
last_inside k start (x ∷ xs) o some = inl (o, refl)

-- the stop at a fault of what a reader holds
pub stopped_at_fault : (kind : ℕ → ItemKind) (r : ItemReading) (held more : List ℕ) (s : Stop) → IsKind (kind r.limit) → ((f : InputFault) → s ≡ stop.Fault f → (kind r.limit).is_bad r.start held (input_fault_line f))
    → IsStoppedAt kind r (held ++ more) (Some s)
stopped_at_fault kind r held more (stop.Fault f) is bad = is.bad_longer r.start held more (input_fault_line f) (bad f refl)
stopped_at_fault kind r held more stop.OutOfMemory is bad = tt

-- ---- what is told of items

still_first : (k : ItemKind) (base : ℕ) (bytes texts rest more : List ℕ) → HaveItems k base bytes texts rest → FirstItems k base (bytes ++ more) texts
still_first k base bytes texts rest more h = (rest ++ more, have_before k base bytes texts rest more h)

module _ {R : Type 0} (walk : ItemWalk R) (is_kind : IsKind (walk.kind walk.limit)) where
  -- items, and then bytes with this last line
  ends_at : (r : R) (bytes texts rest : List ℕ) (last : Option (List ℕ)) → StandAt walk r bytes texts rest → IsLastItem (walk.kind walk.limit) (walk.reading r).start rest last → EndAt walk r bytes texts last
  ends_at r bytes texts rest last s is = (record { rest = rest; have = s.have; last_is = subst (λ (n : ℕ). IsLastItem (walk.kind walk.limit) n rest last) s.start_is is }, s.start_is)

  -- where a reader may be fed more
  between : (r : R) (read texts : List ℕ) → StandAt walk r read texts (walk.reading r).held → (walk.kind walk.limit).is_open (walk.reading r).held → IsBetween (item_tells walk) r read texts
  between r read texts s o =
      let k = walk.kind walk.limit in
      let held = (walk.reading r).held in
      let last = last_open k (walk.reading r).start held o in
      record {
        stands = (s, o);
        all = (last.0, (ends_at r read texts held last.0 s last.1).0);
        first = λ more. still_first k walk.base read texts held more s.have;
      }

  pub items_begun : (r : R) → (walk.reading r).limit ≡ walk.limit → (walk.reading r).held ≡ [] → (walk.reading r).start ≡ walk.base → IsBetween (item_tells walk) r [] []
  items_begun r limit none first =
      let k = walk.kind walk.limit in
      let s : StandAt walk r [] [] [] = record { limit = limit; have = none_have k walk.base []; start_is = omega (arith, first) } in
      between r [] [] (subst (StandAt walk r [] []) (sym none) s) (subst k.is_open (sym none) is_kind.nothing_open)

  -- at a fault, whatever follows it
  at_fault : (r : R) (bytes texts rest line later : List ℕ) → StandAt walk r bytes texts rest → (walk.kind walk.limit).is_bad (walk.reading r).start rest line → IsAtFault (item_tells walk) r (bytes ++ later) texts line
  at_fault r bytes texts rest line later s bad =
      let k = walk.kind walk.limit in
      let start = (walk.reading r).start in
      let more : StandAt walk r (bytes ++ later) texts (rest ++ later) = record { limit = s.limit; have = have_before k walk.base bytes texts rest later s.have; start_is = s.start_is } in
      let faulty : k.is_bad start (rest ++ later) line = is_kind.bad_longer start rest later line bad in
      let ends = ends_at r (bytes ++ later) texts (rest ++ later) (Some line) more (last_bad k is_kind start (rest ++ later) line faulty) in
      record {
        ends = ends;
        is_bad = (rest ++ later, more, faulty);
        all = (Some line, ends.0);
        first = λ after. still_first k walk.base (bytes ++ later) texts (rest ++ later) after more.have;
      }

  -- a reader was fed a piece
  walks : (new : R) (bytes texts more rest : List ℕ) (s : Option Stop) (from to : Option (List ℕ)) → StandAt walk new bytes (texts ++ more) rest → Appends from to more
      → IsStoppedAt walk.kind (walk.reading new) rest s → Walks (item_tells walk) new bytes texts s from to
  walks new bytes texts more rest None from to s a (held, o) =
      (more, a, between new bytes (texts ++ more) (subst (StandAt walk new bytes (texts ++ more)) held s) (subst (λ (n : ℕ). (walk.kind n).is_open (walk.reading new).held) s.limit o))
  walks new bytes texts more rest (Some (stop.Fault f)) from to s a bad =
      let line = input_fault_line f in
      (more, a, (λ later. at_fault new bytes (texts ++ more) rest line later s (subst (λ (n : ℕ). (walk.kind n).is_bad (walk.reading new).start rest line) s.limit bad)))
  walks new bytes texts more rest (Some stop.OutOfMemory) from to s a any = (more, a, (λ later. still_first (walk.kind walk.limit) walk.base bytes (texts ++ more) rest later s.have))

  pub items_walk : (old new : R) (piece : List ℕ) (s : Option Stop) (from to : Option (List ℕ)) (read texts : List ℕ)
      → IsBetween (item_tells walk) old read texts → GoesOverItems walk.kind (walk.reading old) piece (walk.reading new) s from to → Walks (item_tells walk) new (read ++ piece) texts s from to
  items_walk old new piece s from to read texts b w =
      let k = walk.kind walk.limit in
      let at = b.stands.0 in
      let held = (walk.reading old).held in
      let start = (walk.reading old).start in
      let written = subst (λ (n : ℕ). ItemsWritten (walk.kind n) (held ++ piece) start (walk.reading new).start w.rest from to) at.limit w.written in
      let stands : StandAt walk new (read ++ piece) (texts ++ written.texts) w.rest = record {
        limit = w.limit ∙ at.limit;
        have = have_on k walk.base start (read ++ piece) (held ++ piece) w.rest texts written.texts (have_before k walk.base read texts held piece at.have) written.have at.start_is;
        start_is = omega (arith, at.start_is, written.start_is, len-append at.have.items written.have.items);
      } in
      walks new (read ++ piece) texts written.texts w.rest s from to stands written.appends w.stopped

  -- a reader between two pieces may be fed
  pub may_feed : (r : R) (read texts : List ℕ) → IsBetween (item_tells walk) r read texts → (walk.kind (walk.reading r).limit).is_open (walk.reading r).held
  may_feed r read texts b = subst (λ (n : ℕ). (walk.kind n).is_open (walk.reading r).held) (sym b.stands.0.limit) b.stands.1

  -- at the end of the input
  pub ends_between : (r : R) (read texts : List ℕ) → IsBetween (item_tells walk) r read texts → (walk.reading r).held ≡ [] → EndAt walk r read texts None
  ends_between r read texts b none = ends_at r read texts (walk.reading r).held None b.stands.0 (last_none (walk.kind walk.limit) (walk.reading r).start (walk.reading r).held none)

  pub ends_inside : (r : R) (read texts : List ℕ) → IsBetween (item_tells walk) r read texts → (walk.reading r).held ≢ [] → EndAt walk r read texts (Some ((walk.kind walk.limit).inside_line (walk.reading r).start))
  ends_inside r read texts b some =
      ends_at r read texts (walk.reading r).held _ b.stands.0 (last_inside (walk.kind walk.limit) (walk.reading r).start (walk.reading r).held b.stands.1 some)

  -- an item has some bytes
  item_some : (item : List ℕ) → (walk.kind walk.limit).is_item item → 1 ≤ length item
  item_some [] is = absurd (is_kind.open_not_item [] [] is_kind.nothing_open is)
  item_some (x ∷ xs) is = omega arith

  -- whether there are items is told by where the reader stands
  any_there : (ps : List (List ℕ)) → AreAll (walk.kind walk.limit).is_item ps → nat_lt walk.base (walk.base + length (concat ps)) ≡ are_there ps
  any_there [] are = le-ltb walk.base (walk.base + 0) (omega arith)
  any_there (p ∷ ps) are = lt-ltb walk.base (walk.base + length (concat (p ∷ ps))) (omega (arith, item_some p are.0, length-append p (concat ps)))

  -- what follows the texts of all items
  pub closing_told : {E : Type 0} (w : Result (Unit {0}) E) (a b : Option (List ℕ)) (r : R) (word bytes texts : List ℕ) (last : Option (List ℕ)) → EndAt walk r bytes texts last
      → word ≡ walk.closing (nat_lt walk.base (walk.reading r).start) → OnOk w (Appends a b word)
      → OnOk w ((closing : List ℕ) × ItemsText (walk.kind walk.limit) walk.base walk.closing bytes (texts ++ (closing ++ or_nothing last)) (is_there last) × Appends a b closing)
  closing_told (Err x) a b r word bytes texts last e is w = tt
  closing_told (Ok x) a b r word bytes texts last (are, at) is w =
      let any : nat_lt walk.base (walk.reading r).start ≡ are_there are.have.items = ap (nat_lt walk.base) at ∙ any_there are.have.items are.have.items_are in
      let same : word ≡ walk.closing (are_there are.have.items) = is ∙ ap walk.closing any in
      (word, (texts, last, are, ap (λ (y : List ℕ). texts ++ (y ++ or_nothing last)) same, refl), w)
