-- Bytes that are moved at a client.
use Rattle.std.proofs.Common.{◌≡◌, ◌∙◌, ℕ, List, [], refl, subst, sym, Option, Some, Result, Ok, Err, IfOk, OnErr, take, drop, take-append-drop}
use Rattle.wire_serve.specs.{ConnTakes, IsReady}
use Rattle.wire_share.specs.{DownSeen}
use Rattle.wire_share.specs.Acts.{DownMove, DownMoves, MovesDown, Sends, Stays, Takes}
use Rattle.wire_share.specs.declared.client.Client.{Client}
use Rattle.wire_share.specs.Cores.{CoreAct, CoreDoes, CoreRun, CoreSeen, Puts, Shares}
use Rattle.wire_share.proofs.Passing_on.{down_part, same_core, stays_put}
use Rattle.wire_share.proofs.Runs.{one_act}
use Rattle.wire_share.proofs.Standing.{some_same}

-- a client moved, and nothing else did
abbrev pub with_downs : CoreSeen → (ℕ → Option Client) → CoreSeen
with_downs s downs = record { downs = downs; ups = s.ups; routes = s.routes; accepted = s.accepted; opened = s.opened }

pub does_move : (old : CoreSeen) (news : ℕ → Option Client) (d : ℕ) (x x' : Client) (move : DownMove) → old.downs d ≡ Some x → Puts old.downs d (Some x') news
    → x'.kept ≡ x.kept → DownMoves move x.downstream x'.downstream → CoreDoes (Shares (MovesDown d move)) old (with_downs old news)
does_move old news d x x' move at puts kept does =
    record { fit = tt; bytes = tt; permitted = tt; downs = λ e. down_part d e _ old.downs news x x' at puts does kept; ups = λ u. refl; routes = refl; accepted = refl; opened = refl }

pub moves : (old : CoreSeen) (news : ℕ → Option Client) (d : ℕ) (x x' : Client) (move : DownMove) → old.downs d ≡ Some x → Puts old.downs d (Some x') news
    → x'.kept ≡ x.kept → DownMoves move x.downstream x'.downstream → (acts : List CoreAct) × CoreRun old acts (with_downs old news)
moves old news d x x' move at puts kept does =
    one_act (Shares (MovesDown d move)) old (with_downs old news) (does_move old news d x x' move at puts kept does)

-- what is true of the one value that is there
pub of_row : {A : Type 0} (P : A → Type 0) (row : Option A) (z : A) → row ≡ Some z → P z → (x : A) → row ≡ Some x → P x
of_row P row z at p x is = subst P (some_same z x (sym at ∙ is)) p

-- a ready client takes what it is fed
pub takes_fed : {E : Type 0} (result : Result ℕ E) (old : CoreSeen) (news : ℕ → Option Client) (d : ℕ) (z z' : Client) (piece : List ℕ) → old.downs d ≡ Some z
    → Puts old.downs d (Some z') news → z'.kept ≡ z.kept → IsReady z.downstream.conn → IfOk result (λ n. ConnTakes z.downstream.conn (take n piece) z'.downstream.conn)
    → z'.downstream.awaited ≡ z.downstream.awaited → IfOk result (λ n. CoreDoes (Shares (MovesDown d (Takes (take n piece)))) old (with_downs old news))
takes_fed (Ok n) old news d z z' piece at puts kept ready takes awaited =
    does_move old news d z z' (Takes (take n piece)) at puts kept (ready, takes, awaited)
takes_fed (Err e) old news d z z' piece at puts kept ready takes awaited = tt

pub unmoved : (old : CoreSeen) (news : ℕ → Option Client) (d : ℕ) (x : Client) → old.downs d ≡ Some x → Puts old.downs d (Some x) news
    → (acts : List CoreAct) × CoreRun old acts (with_downs old news)
unmoved old news d x at puts = ([], same_core old _ (stays_put d old.downs news (Some x) (Some x) at puts refl) (λ u. refl) refl refl refl)

-- what a ready client was fed
pub fed : {E : Type 0} (result : Result ℕ E) (piece : List ℕ) (old new : DownSeen) → IsReady old.conn → IfOk result (λ n. ConnTakes old.conn (take n piece) new.conn)
    → new.awaited ≡ old.awaited → OnErr result (new ≡ old) → (move : DownMove) × DownMoves move old new
fed (Ok n) piece old new ready takes awaited unchanged = (Takes (take n piece), (ready, takes, awaited))
fed (Err e) piece old new ready takes awaited unchanged = (Stays, unchanged)

pub sent_so : (n : ℕ) (old new : DownSeen) → new ≡ record old { conn = record (old.conn) { output = drop n old.conn.output } } → DownMoves (Sends (take n old.conn.output)) old new
sent_so n old new is = (drop n old.conn.output, sym (take-append-drop n old.conn.output), is)
