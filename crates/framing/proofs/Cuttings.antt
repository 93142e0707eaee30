-- The items that are gathered from pieces are those of the split.
use Rattle.std.proofs.Common.{◌≡◌, ◌⊎◌, inl, inr, Bor, ℕ, zero, suc, ◌+◌, ◌*◌, ◌-◌, ◌<◌, ◌≤◌, min, List, [], ◌∷◌, ◌++◌, length, take, drop, Ok, Err, refl, sym, ap, subst, ◌∙◌, arith, append_assoc, append-nil, length-append, length-drop, length-take, take-add, take-append-drop, take_all, get_or}
use Rattle.std.proofs.Math.Seq.{take-append_seam}
use Rattle.std.proofs.lemmas.Grind.{flat_map-append}
use Rattle.std.proofs.lemmas.List.{drop_more, nil_from_length, take_more}
use Rattle.std.specs.List.{concat, flat_map}
use Rattle.framing.specs.Cutting.{Cuts, IsHeldOf, all, header, lead}
use Rattle.framing.specs.Gathering.{Gathered, Gathers, IsHeld, held_header, held_lead, held_open}
use Rattle.framing.specs.Items.{Announces, HasLead, IsItem, IsRefused, IsWholeItem, LacksLead, WantsMore, at_open, at_refused, by_header, by_lead, of_header, of_item, of_lead}
use Rattle.framing.specs.Rules.{IsSound, Rule}
use Rattle.framing.proofs.ItemLaws.{announces_longer, lacks_longer, leads_longer, leads_not_lacks, leads_or_lacks, not_both, one_length, refused_longer, refused_not_whole, wants_not_refused, whole_size}
use Rattle.framing.proofs.Splits.{cut_more, none_at_end, one_split, split_of_all}

-- ---- one more feed

-- a reader that held the old bytes took this many bytes of what is left of a piece
pub record Fed {E : Type 0} (rule : Rule E) (old piece new : List ℕ) (n : ℕ) : Type 0 where
  pub within : n ≤ length piece
  pub held : new ≡ old ++ take n piece
  pub wanted : (more : ℕ) → WantsMore rule old more → n ≡ min more (length piece)
  pub refused : (fault : E) → IsRefused rule old fault → n ≡ 0

pub fed_size : {E : Type 0} (rule : Rule E) (old piece new : List ℕ) (n : ℕ) → Fed rule old piece new n → length new ≡ length old + n
fed_size rule old piece new n fed = omega (arith, ap length fed.held, length-append old (take n piece), length-take n piece, fed.within)

-- what was announced before still is
still_announced : {E : Type 0} (rule : Rule E) (old piece new : List ℕ) (n m : ℕ) → Fed rule old piece new n → Announces rule old (Ok m) → Announces rule new (Ok m)
still_announced rule old piece new n m fed a = subst (λ (x : List ℕ). Announces rule x (Ok m)) (sym fed.held) (announces_longer rule old (take n piece) (Ok m) a)

-- a lead that passed still does
still_leads : {E : Type 0} (rule : Rule E) (old piece new : List ℕ) (n : ℕ) → Fed rule old piece new n → HasLead rule old → HasLead rule new
still_leads rule old piece new n fed l = subst (HasLead rule) (sym fed.held) (leads_longer rule old (take n piece) l)

-- nothing was taken behind a lead or a header that no item has
unmoved : {E : Type 0} (rule : Rule E) (old piece new : List ℕ) (n : ℕ) (fault : E) → Fed rule old piece new n → IsRefused rule old fault → new ≡ old
unmoved rule old piece new n fault fed r = fed.held ∙ ap (λ (k : ℕ). old ++ take k piece) (fed.refused fault r) ∙ append-nil old

-- so no more than that is held
pub no_more : {E : Type 0} (rule : Rule E) (old piece new : List ℕ) (n : ℕ) (fault : E) → IsSound rule → IsHeld rule old → Fed rule old piece new n → IsRefused rule new fault → IsHeld rule new
no_more rule old piece new n fault sound (held_open more (of_lead some is)) fed (by_lead k) = held_lead fault k (omega (arith, is, fed.wanted more (of_lead some is), fed_size rule old piece new n fed, k.long))
no_more rule old piece new n fault sound (held_open more (of_lead some is)) fed (by_header r) = held_header fault r (omega (arith, is, fed.wanted more (of_lead some is), fed_size rule old piece new n fed, sound.begins, r.header))
no_more rule old piece new n fault sound (held_open more (of_header some l is)) fed (by_lead k) = absurd (leads_not_lacks rule new fault (still_leads rule old piece new n fed l) k)
no_more rule old piece new n fault sound (held_open more (of_header some l is)) fed (by_header r) = held_header fault r (omega (arith, is, fed.wanted more (of_header some l is), fed_size rule old piece new n fed, r.header))
no_more rule old piece new n fault sound (held_open more (of_item some a)) fed r = absurd (not_both rule new (length old + more) fault (still_announced rule old piece new n (length old + more) fed a) r)
no_more rule old piece new n fault sound (held_lead f k size) fed r = subst (IsHeld rule) (sym (unmoved rule old piece new n f fed (by_lead k))) (held_lead f k size)
no_more rule old piece new n fault sound (held_header f a size) fed r = subst (IsHeld rule) (sym (unmoved rule old piece new n f fed (by_header a))) (held_header f a size)

-- no bytes are taken behind an item
stays_refused : {E : Type 0} (rule : Rule E) (old piece new : List ℕ) (n : ℕ) (fault : E) → Fed rule old piece new n → IsRefused rule old fault → IsRefused rule new fault
stays_refused rule old piece new n fault fed r = subst (λ (x : List ℕ). IsRefused rule x fault) (sym (unmoved rule old piece new n fault fed r)) r

pub no_rest : {E : Type 0} (rule : Rule E) (old piece new item rest : List ℕ) (n : ℕ) → IsSound rule → IsHeld rule old → Fed rule old piece new n → IsWholeItem rule new item rest → rest ≡ []
no_rest rule old piece new item rest n sound (held_open more (of_lead some is)) fed w =
    let s = whole_size rule new item rest w in
    nil_from_length rest (omega (arith, is, fed.wanted more (of_lead some is), fed_size rule old piece new n fed, sound.begins, s.header, s.sum))
no_rest rule old piece new item rest n sound (held_open more (of_header some l is)) fed w =
    let s = whole_size rule new item rest w in
    nil_from_length rest (omega (arith, is, fed.wanted more (of_header some l is), fed_size rule old piece new n fed, s.header, s.sum))
no_rest rule old piece new item rest n sound (held_open more (of_item some a)) fed w =
    let s = whole_size rule new item rest w in
    nil_from_length rest (omega (arith, fed.wanted more (of_item some a), fed_size rule old piece new n fed, s.sum, one_length rule new (length old + more) (length item) (still_announced rule old piece new n (length old + more) fed a) s.announces))
no_rest rule old piece new item rest n sound (held_lead f k size) fed w = absurd (refused_not_whole rule new item rest f (stays_refused rule old piece new n f fed (by_lead k)) w)
no_rest rule old piece new item rest n sound (held_header f a size) fed w = absurd (refused_not_whole rule new item rest f (stays_refused rule old piece new n f fed (by_header a)) w)

-- some bytes are taken where more are wanted after that, and more are there
pub progress : {E : Type 0} (rule : Rule E) (old piece new : List ℕ) (n m : ℕ) → IsHeld rule old → Fed rule old piece new n → WantsMore rule new m → n < length piece → 0 < n
progress rule old piece new n m (held_open more (of_lead some is)) fed o lt = omega (arith, some, lt, fed.wanted more (of_lead some is))
progress rule old piece new n m (held_open more (of_header some l is)) fed o lt = omega (arith, some, lt, fed.wanted more (of_header some l is))
progress rule old piece new n m (held_open more (of_item some a)) fed o lt = omega (arith, some, lt, fed.wanted more (of_item some a))
progress rule old piece new n m (held_lead f k size) fed o lt = absurd (wants_not_refused rule new m f o (stays_refused rule old piece new n f fed (by_lead k)))
progress rule old piece new n m (held_header f a size) fed o lt = absurd (wants_not_refused rule new m f o (stays_refused rule old piece new n f fed (by_header a)))

-- then fewer bytes are left of the piece, twice as many as are held more
pub smaller : (len at n old new : ℕ) → 0 < n → at + n ≤ len → new ≡ old + n → 2 * (len - (at + n)) + new < 2 * (len - at) + old
smaller len at n old new some le is = omega (arith, some, le, is)

-- ---- the rest of a piece

pub tail_is : (at : ℕ) (piece : List ℕ) → take (length piece - at) (drop at piece) ≡ drop at piece
tail_is at piece = take_all (length piece - at) (drop at piece) (omega (arith, length-drop at piece))

pub tail_size : (at : ℕ) (piece : List ℕ) → length (take (length piece - at) (drop at piece)) ≡ length piece - at
tail_size at piece = ap length (tail_is at piece) ∙ length-drop at piece

-- more of a piece was taken
pub taken_on : {E : Type 0} (rule : Rule E) (bytes held new piece : List ℕ) (found : List (List ℕ)) (at n : ℕ) → new ≡ held ++ take n (take (length piece - at) (drop at piece)) → Gathered rule (bytes ++ take at piece) found held → Gathered rule (bytes ++ take (at + n) piece) found new
taken_on rule bytes held new piece found at n is g =
    let more : List ℕ = take n (drop at piece) in
    let new_is : new ≡ held ++ more = is ∙ ap (λ (x : List ℕ). held ++ take n x) (tail_is at piece) in
    record {
      items_are = g.items_are;
      parts = ap (λ (x : List ℕ). bytes ++ x) (take-add at n piece) ∙ sym (append_assoc bytes (take at piece) more) ∙ ap (λ (x : List ℕ). x ++ more) g.parts ∙ append_assoc (concat found) held more ∙ ap (λ (x : List ℕ). concat found ++ x) (sym new_is);
    }

-- an item was told, and let go
pub moved_out : {E : Type 0} (rule : Rule E) (bytes held item rest new : List ℕ) (found more : List (List ℕ)) → more ≡ found ++ item ∷ [] → rest ≡ [] → new ≡ [] → IsWholeItem rule held item rest → Gathered rule bytes found held → Gathered rule bytes more new
moved_out rule bytes held item rest new found more is none empty w g =
    subst (λ (x : List (List ℕ)). Gathered rule bytes x new) (sym is) (subst (Gathered rule bytes (found ++ item ∷ [])) (none ∙ sym empty) (cut_more rule bytes held rest item found g w))

-- a reader that holds nothing wants a lead, or a header where a lead has no bytes
holds_lead : {E : Type 0} (rule : Rule E) → IsSound rule → HasLead rule [] ⊎ ((fault : E) × LacksLead rule [] fault) → IsHeld rule []
holds_lead rule sound (inl l) = held_open rule.header (of_header sound.some l (omega arith))
holds_lead rule sound (inr k) = held_lead k.0 k.1 (omega (arith, k.1.long))

holds_from : {E : Type 0} (rule : Rule E) → IsSound rule → (rule.lead ≤ 0) ⊎ (0 < rule.lead) → IsHeld rule []
holds_from rule sound (inl none) = holds_lead rule sound (leads_or_lacks rule [] none)
holds_from rule sound (inr some) = held_open rule.lead (of_lead some (omega arith))

none_or_some : (n : ℕ) → (n ≤ 0) ⊎ (0 < n)
none_or_some zero = inl (omega arith)
none_or_some (suc n) = inr (omega arith)

pub holds_nothing : {E : Type 0} (rule : Rule E) (held : List ℕ) → IsSound rule → held ≡ [] → IsHeld rule held
holds_nothing rule held sound none = subst (IsHeld rule) (sym none) (holds_from rule sound (none_or_some rule.lead))

-- it gathered nothing yet
pub nothing_gathered : {E : Type 0} (rule : Rule E) (items : List (List ℕ)) (held : List ℕ) → items ≡ [] → held ≡ [] → Gathered rule [] items held
nothing_gathered rule items held none empty = rw (none, empty) (record { items_are = tt; parts = refl })

-- ---- the split

-- a lead or a header that no item has was met
cuts_refused : {E : Type 0} (rule : Rule E) (bytes front untaken held : List ℕ) (found : List (List ℕ)) (fault : E) → bytes ≡ front ++ untaken → Gathered rule front found held → IsRefused rule held fault → IsHeldOf rule (held ++ untaken) held → Cuts rule bytes found held
cuts_refused rule bytes front untaken held found fault is g r of_rest = record {
  rest = held ++ untaken;
  split = split_of_all (IsItem rule) bytes found (held ++ untaken) g.items_are
      (is ∙ ap (λ (x : List ℕ). x ++ untaken) g.parts ∙ append_assoc (concat found) held untaken)
      (none_at_end rule (held ++ untaken) (at_refused fault (refused_longer rule held untaken fault r)));
  of_rest = of_rest;
}

-- what is held is the beginning of the rest, of its own length
is_front : (held untaken : List ℕ) (n : ℕ) → length held ≡ n → held ≡ take n (held ++ untaken)
is_front held untaken n size = sym (take-append_seam held untaken) ∙ ap (λ (k : ℕ). take k (held ++ untaken)) size

cuts_lead : {E : Type 0} (rule : Rule E) (bytes front untaken held : List ℕ) (found : List (List ℕ)) (fault : E) → bytes ≡ front ++ untaken → Gathered rule front found held → LacksLead rule held fault → length held ≡ rule.lead → Cuts rule bytes found held
cuts_lead rule bytes front untaken held found fault is g k size = cuts_refused rule bytes front untaken held found fault is g (by_lead k) (lead fault (lacks_longer rule held untaken fault k) (is_front held untaken rule.lead size))

cuts_header : {E : Type 0} (rule : Rule E) (bytes front untaken held : List ℕ) (found : List (List ℕ)) (fault : E) → bytes ≡ front ++ untaken → Gathered rule front found held → Announces rule held (Err fault) → length held ≡ rule.header → Cuts rule bytes found held
cuts_header rule bytes front untaken held found fault is g r size = cuts_refused rule bytes front untaken held found fault is g (by_header r) (header fault (announces_longer rule held untaken (Err fault) r) (is_front held untaken rule.header size))

-- all bytes were taken
pub cuts_all : {E : Type 0} (rule : Rule E) (bytes held : List ℕ) (found : List (List ℕ)) → Gathered rule bytes found held → IsHeld rule held → Cuts rule bytes found held
cuts_all rule bytes held found g (held_open more o) = record {
  rest = held;
  split = split_of_all (IsItem rule) bytes found held g.items_are g.parts (none_at_end rule held (at_open more o));
  of_rest = all more o refl;
}
cuts_all rule bytes held found g (held_lead fault k size) = cuts_lead rule bytes bytes [] held found fault (sym (append-nil bytes)) g k size
cuts_all rule bytes held found g (held_header fault r size) = cuts_header rule bytes bytes [] held found fault (sym (append-nil bytes)) g r size

-- or the reader stopped at a lead or a header that no item has
cuts_some : {E : Type 0} (rule : Rule E) (bytes front untaken held : List ℕ) (found : List (List ℕ)) → bytes ≡ front ++ untaken → Gathered rule front found held → IsHeld rule held → ((n : ℕ) → WantsMore rule held n → ⊥) → Cuts rule bytes found held
cuts_some rule bytes front untaken held found is g (held_open more o) none = absurd (none more o)
cuts_some rule bytes front untaken held found is g (held_lead fault k size) none = cuts_lead rule bytes front untaken held found fault is g k size
cuts_some rule bytes front untaken held found is g (held_header fault r size) none = cuts_header rule bytes front untaken held found fault is g r size

-- a rest that is refused is not open, and what is held of it is told by why
refused_rest : {E : Type 0} (rule : Rule E) (rest after : List ℕ) (fault : E) (m : ℕ) → rest ≡ after → WantsMore rule rest m → IsRefused rule after fault → ⊥
refused_rest rule rest after fault m same o r = wants_not_refused rule after m fault (subst (λ (x : List ℕ). WantsMore rule x m) same o) r

one_held : {E : Type 0} (rule : Rule E) (rest after held kept : List ℕ) → rest ≡ after → IsHeldOf rule rest held → IsHeldOf rule after kept → held ≡ kept
one_held rule rest after held kept same (all m o is) (all n p at) = is ∙ same ∙ sym at
one_held rule rest after held kept same (all m o is) (lead f k at) = absurd (refused_rest rule rest after f m same o (by_lead k))
one_held rule rest after held kept same (all m o is) (header f r at) = absurd (refused_rest rule rest after f m same o (by_header r))
one_held rule rest after held kept same (lead f k is) (all n p at) = absurd (refused_rest rule after rest f n (sym same) p (by_lead k))
one_held rule rest after held kept same (lead f k is) (lead g q at) = is ∙ ap (take rule.lead) same ∙ sym at
one_held rule rest after held kept same (lead f k is) (header g q at) = absurd (leads_not_lacks rule rest f (subst (HasLead rule) (sym same) q.leads) k)
one_held rule rest after held kept same (header f r is) (all n p at) = absurd (refused_rest rule after rest f n (sym same) p (by_header r))
one_held rule rest after held kept same (header f r is) (lead g k at) = absurd (leads_not_lacks rule after g (subst (HasLead rule) same r.leads) k)
one_held rule rest after held kept same (header f r is) (header g q at) = is ∙ ap (take rule.header) same ∙ sym at

-- bytes are cut in one way at most
pub one_cut : {E : Type 0} (rule : Rule E) (bytes : List ℕ) (found others : List (List ℕ)) (held kept : List ℕ) → Cuts rule bytes found held → Cuts rule bytes others kept → (found ≡ others) × (held ≡ kept)
one_cut rule bytes found others held kept c d =
    let same = one_split rule bytes found others c.rest d.rest c.split d.split in
    (same.0, one_held rule c.rest d.rest held kept same.1 c.of_rest d.of_rest)

-- ---- pieces

abbrev Piece : Type 0
Piece = Bor (List ℕ)

-- the bytes of the pieces, joined
abbrev told : List Piece → List ℕ
told pieces = flat_map (λ piece. piece.now) pieces

-- the pieces up to and with one
up_to : (pieces : List Piece) (i : ℕ) (d : Piece) → i < length pieces → told (take (i + 1) pieces) ≡ told (take i pieces) ++ (get_or pieces i d).now
up_to pieces i d lt = ap told (take_more pieces i d lt) ∙ flat_map-append (λ piece. piece.now) (take i pieces) (get_or pieces i d ∷ []) ∙ ap (λ (q : List ℕ). told (take i pieces) ++ q) (append-nil (get_or pieces i d).now)

-- the pieces before it and some of it, the rest of it, and the pieces after it
around : (pieces : List Piece) (i n : ℕ) (d : Piece) → i < length pieces → told pieces ≡ (told (take i pieces) ++ take n (get_or pieces i d).now) ++ (drop n (get_or pieces i d).now ++ told (drop (i + 1) pieces))
around pieces i n d lt =
    let before : List ℕ = told (take i pieces) in
    let x : List ℕ = (get_or pieces i d).now in
    let behind : List ℕ = told (drop (i + 1) pieces) in
    ap told (sym (take-append-drop i pieces)) ∙ flat_map-append (λ piece. piece.now) (take i pieces) (drop i pieces)
    ∙ ap (λ (q : List Piece). before ++ told q) (drop_more pieces i d lt)
    ∙ ap (λ (q : List ℕ). before ++ (q ++ behind)) (sym (take-append-drop n x))
    ∙ ap (λ (q : List ℕ). before ++ q) (append_assoc (take n x) (drop n x) behind)
    ∙ sym (append_assoc before (take n x) (drop n x ++ behind))

-- a piece was taken whole
pub whole_piece : {E : Type 0} (rule : Rule E) (pieces : List Piece) (i : ℕ) (d : Piece) (found more : List (List ℕ)) (held new : List ℕ) (taken : ℕ) → i < length pieces → Gathered rule (told (take i pieces)) found held → Gathers rule found held (get_or pieces i d).now more new taken → length (get_or pieces i d).now ≤ taken → Gathered rule (told (take (i + 1) pieces)) more new
whole_piece rule pieces i d found more held new taken lt before g most =
    let x : List ℕ = (get_or pieces i d).now in
    subst (λ (b : List ℕ). Gathered rule b more new) (ap (λ (q : List ℕ). told (take i pieces) ++ q) (take_all taken x most) ∙ sym (up_to pieces i d lt)) (g.gathered (told (take i pieces)) before)

-- in a piece comes a lead or a header that no item has
pub stopped_in_piece : {E : Type 0} (rule : Rule E) (pieces : List Piece) (i : ℕ) (d : Piece) (found more : List (List ℕ)) (held new : List ℕ) (taken : ℕ) → i < length pieces → Gathered rule (told (take i pieces)) found held → Gathers rule found held (get_or pieces i d).now more new taken → taken < length (get_or pieces i d).now → Cuts rule (told pieces) more new
stopped_in_piece rule pieces i d found more held new taken lt before g less =
    let x : List ℕ = (get_or pieces i d).now in
    cuts_some rule (told pieces) (told (take i pieces) ++ take taken x) (drop taken x ++ told (drop (i + 1) pieces)) new more (around pieces i taken d lt) (g.gathered (told (take i pieces)) before) g.held_is (λ n o. let e = g.all n o in omega (arith, less, e))

-- no piece is left
pub no_more_pieces : {E : Type 0} (rule : Rule E) (pieces : List Piece) (i : ℕ) (found : List (List ℕ)) (held : List ℕ) → length pieces ≤ i → Gathered rule (told (take i pieces)) found held → IsHeld rule held → Cuts rule (told pieces) found held
no_more_pieces rule pieces i found held le g h = cuts_all rule (told pieces) held found (subst (λ (x : List Piece). Gathered rule (told x) found held) (take_all i pieces le) g) h
