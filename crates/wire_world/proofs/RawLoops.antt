-- Pieces of the bytes of a raw connection that go into its server, one after another.
use Rattle.std.proofs.Common.{◌≡◌, ℕ, ◌+◌, ◌-◌, ◌≤◌, ◌⊎◌, inl, inr, Bool, true, true≢false, List, [], ◌∷◌, ◌++◌, length, take, drop, Option, None, Some, ap, refl, sym, subst, ◌∙◌, arith, append_assoc}
use Rattle.std.proofs.Math.Seq.{drop-append-add}
use Rattle.std.specs.Result.{IsErr}
use Rattle.std.specs.Prelude.{Result, Ok, Err}
use Rattle.std.proofs.lemmas.List.{drop_all, length-drop, length-take-le, take_rest, take-append-drop}
use Rattle.wire_stream.specs.declared.reader_state.ReaderState.{ReaderState}
use Rattle.wire_stream.specs.declared.reader_state.ReaderState.TheVariants.{Need, Ready, Bad}
use Rattle.wire_peer.specs.{ClientSeen, ServerView}
use Rattle.wire_model.specs.{Conn, no_client}
use Rattle.wire_peer.specs.Servers.{holding as servers_holding}
use Rattle.wire_world.specs.Connections.{conn_of}
use Rattle.wire_model.specs.Moves.{ServerTakesAll, TakesNone, joined}
use Rattle.wire_model.specs.Happening.{WantsRoom}
use Rattle.wire_world.specs.Moving.{FedServer, GoneRaw, TakenRaw, RawEnd, RawResult}
use Rattle.wire_world.proofs.Pieces.{joined_more, length_more, takes_after}

pub raw_none : (old : ServerView) (bytes : List ℕ) (server : ServerView) → server ≡ old → GoneRaw old bytes 0 server
raw_none old bytes server e = record { pieces = []; many = refl; input = refl; takes = e }

pub raw_more : (old : ServerView) (bytes : List ℕ) (moved taken : ℕ) (server after : ServerView) → GoneRaw old bytes moved server → FedServer server (drop moved bytes) taken after → GoneRaw old bytes (moved + taken) after
raw_more old bytes moved taken server after g f = record {
  pieces = g.pieces ++ f.pieces;
  many = ap (λ (k : ℕ). k + taken) g.many ∙ length_more (joined g.pieces) (joined f.pieces) taken (ap length f.are ∙ length-take-le taken (drop moved bytes) f.within) ∙ ap length (sym (joined_more g.pieces f.pieces));
  input = g.input ∙ ap (λ (b : List ℕ). joined g.pieces ++ b) (sym (take-append-drop taken (drop moved bytes))) ∙ sym (append_assoc (joined g.pieces) (take taken (drop moved bytes)) (drop taken (drop moved bytes)))
      ∙ ap (λ (b : List ℕ). (joined g.pieces ++ b) ++ drop taken (drop moved bytes)) (sym f.are)
      ∙ ap (λ (b : List ℕ). b ++ drop taken (drop moved bytes)) (sym (joined_more g.pieces f.pieces))
      ∙ ap (λ (b : List ℕ). joined (g.pieces ++ f.pieces) ++ b) (sym later);
  takes = takes_after g.pieces f.pieces old server after g.takes f.takes;
}
  where
    later : drop (moved + taken) bytes ≡ drop taken (drop moved bytes)
    later = ap (λ (b : List ℕ). drop (moved + taken) b) g.input ∙ ap (λ (k : ℕ). drop (k + taken) (joined g.pieces ++ drop moved bytes)) g.many
        ∙ drop-append-add (joined g.pieces) (drop moved bytes) taken

abbrev pub taken_raw : (old new : Conn) (bytes : List ℕ) (moved : ℕ) (server : ServerView) → GoneRaw old.server bytes moved server → new ≡ record old { server = server } → TakenRaw old bytes new
taken_raw old new bytes moved server g e = record { pieces = g.pieces; rest = drop moved bytes; input = g.input; server = server; takes = g.takes; after = e }

-- the windows and the limits stay
kept : (ps : List (List ℕ)) (old new : ServerView) → ServerTakesAll old ps new → (new.window ≡ old.window) × (new.limit ≡ old.limit)
kept [] old new all = (ap (λ (s : ServerView). s.window) all, ap (λ (s : ServerView). s.limit) all)
kept (p ∷ ps) old new all =
    let k = kept ps all.0 new all.2 in
    let h = held_same old all.0 all.1.takes.bytes all.1.takes.found all.1.takes.is in
    (k.0 ∙ h.0, k.1 ∙ h.1)
  where
    held_same : (s t : ServerView) (bytes : List ℕ) (found : ReaderState) → t ≡ servers_holding s bytes found → (t.window ≡ s.window) × (t.limit ≡ s.limit)
    held_same s t bytes Need e = (ap (λ (x : ServerView). x.window) e, ap (λ (x : ServerView). x.limit) e)
    held_same s t bytes Ready e = (ap (λ (x : ServerView). x.window) e, ap (λ (x : ServerView). x.limit) e)
    held_same s t bytes (Bad f) e = (ap (λ (x : ServerView). x.window) e, ap (λ (x : ServerView). x.limit) e)

-- a raw connection with its server in another state
pub raw_with : (client : Option ClientSeen) (s t : ServerView) (calls : List ℕ) (up down : Bool) (ps : List (List ℕ)) → (conn_of client s calls up down).raw ≡ true → ServerTakesAll s ps t
    → conn_of client t calls up down ≡ record (conn_of client s calls up down) { server = t }
raw_with None s t calls up down ps raw all = let k = kept ps s t all in
    ap (λ (w : ℕ). let x : Conn = record { raw = true; client = no_client w t.limit; server = t; calls = calls; up_cut = up; down_cut = down } in x) k.0
    ∙ ap (λ (l : ℕ). let x : Conn = record { raw = true; client = no_client s.window l; server = t; calls = calls; up_cut = up; down_cut = down } in x) k.1
raw_with (Some client) s t calls up down ps raw all = refl

pub raw_result : {E : Type 0} (old new : Conn) (bytes : List ℕ) (moved : ℕ) (server : ServerView) (r : Result ℕ E) → GoneRaw old.server bytes moved server
    → RawEnd bytes moved server r → new ≡ record old { server = server } → (m : TakenRaw old bytes new) × RawResult m r
raw_result old new bytes moved server (Ok k) g end e = (taken_raw old new bytes moved server g e, (end.0 ∙ g.many, end.1))
raw_result old new bytes moved server (Err x) g end e = (taken_raw old new bytes moved server g e, end)

pub all_gone : (bytes : List ℕ) (moved : ℕ) → length bytes ≤ moved → drop moved bytes ≡ []
all_gone bytes moved le = drop_all moved bytes le

pub raw_whole : {E : Type 0} (old : Conn) (inside : Option ClientSeen) (s server : ServerView) (calls bytes : List ℕ) (u d : Bool) (r : Result ℕ E) → conn_of inside s calls u d ≡ old → old.raw ≡ true
    → (moved : ℕ) × GoneRaw s bytes moved server × RawEnd bytes moved server r → (m : TakenRaw old bytes (conn_of inside server calls u d)) × RawResult m r
raw_whole old None s server calls bytes u d r view raw p =
    subst (λ (o : Conn). (m : TakenRaw o bytes (conn_of None server calls u d)) × RawResult m r) view
    (raw_result (conn_of None s calls u d) (conn_of None server calls u d) bytes p.0 server r p.1 p.2 (raw_with None s server calls u d p.1.pieces refl p.1.takes))
raw_whole old (Some k) s server calls bytes u d r view raw p = absurd (true≢false (sym raw ∙ ap (λ (o : Conn). o.raw) (sym view)))

pub pass_raw_err : {E : Type 0} (moved : ℕ) (ks server after : ServerView) (bytes piece : List ℕ) (r : Result ℕ E) → IsErr r → piece ≡ drop moved bytes
    → GoneRaw ks bytes moved server → WantsRoom server piece → after ≡ server → (x : ℕ) × GoneRaw ks bytes x after × RawEnd bytes x after r
pass_raw_err moved ks server after bytes piece (Ok k) is e g w same = absurd (true≢false (sym is))
pass_raw_err moved ks server after bytes piece (Err x) is e g w same =
    (moved, subst (GoneRaw ks bytes moved) (sym same) g, subst (λ (s : ServerView). WantsRoom s (drop moved bytes)) (sym same) (subst (WantsRoom server) e w))

pub pass_raw_none : (moved taken : ℕ) (ks server after : ServerView) (bytes piece : List ℕ) → piece ≡ drop moved bytes → taken ≡ 0
    → GoneRaw ks bytes moved server → FedServer server piece taken after → (x : ℕ) × GoneRaw ks bytes x after × ((moved ≡ x) × ((drop x bytes ≡ []) ⊎ TakesNone after))
pass_raw_none moved taken ks server after bytes piece is zero-is g f =
    let e : moved + taken ≡ moved = omega (arith, zero-is) in
    (moved + taken, raw_more ks bytes moved taken server after g (subst (λ (b : List ℕ). FedServer server b taken after) is f), (sym e, last e (f.none zero-is)))
  where
    last : moved + taken ≡ moved → (piece ≡ []) ⊎ TakesNone after → (drop (moved + taken) bytes ≡ []) ⊎ TakesNone after
    last e (inl none) = inl (ap (λ (k : ℕ). drop k bytes) e ∙ sym is ∙ none)
    last e (inr t) = inr t

-- the rest of a slice
pub rest_piece : (moved many : ℕ) (bytes : List ℕ) → many ≡ length bytes - moved → take many (drop moved bytes) ≡ drop moved bytes
rest_piece moved many bytes e = ap (λ (k : ℕ). take k (drop moved bytes)) e ∙ take_rest bytes moved

pub raw_within : (moved taken : ℕ) (server after : ServerView) (bytes piece : List ℕ) → piece ≡ drop moved bytes → moved ≤ length bytes → FedServer server piece taken after → moved + taken ≤ length bytes
raw_within moved taken server after bytes piece is le f =
    let w : taken ≤ length (drop moved bytes) = subst (λ (b : List ℕ). taken ≤ length b) is f.within in
    let l = length-drop moved bytes in
    omega (arith, w, l, le)
