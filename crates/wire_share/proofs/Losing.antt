-- Each connection whose reply a client awaits is there, so that none awaits one of a lost one.
use Rattle.std.proofs.Common.{◌≡◌, ℕ, ◌≤◌, ◌<◌, Bool, true, false, List, [], ◌∷◌, refl, sym, ◌∙◌, ap, subst, Option, Some, None, ◌⊎◌, inl, inr, arith}
use Rattle.std.specs.Prelude.{◌==◌, if◌then◌else◌, nat_le as leb}
use Rattle.std.proofs.lemmas.Bool.{eqb-true, leb-false, leb-true}
use Rattle.std.proofs.lemmas.Option.{none-some}
use Rattle.wire_model.proofs.Lemmas.{is_here}
use Rattle.wire_model.specs.{ClientAct}
use Rattle.wire_share.specs.{DownSeen}
use Rattle.wire_share.specs.declared.awaited.Awaited.{Awaited}
use Rattle.wire_share.specs.Acts.{Answers, DownAct, DownDoes, DownMove, DownMoves, Ends, EndsUp, Gives, GoesWith, LetsGo, Moves, MovesDown, Passes, PassesOn, Sends, SendsUp, ShareAct, Stays, Takes, TakesUp, act_at, act_of}
use Rattle.wire_share.proofs.Among.{Inside, inside}
use Rattle.wire_share.specs.declared.client.Client.{Client}
use Rattle.wire_share.specs.declared.server.Server.{Server}
use Rattle.wire_share.specs.declared.uses.Use.{Use}
use Rattle.wire_share.specs.declared.uses.Use.TheVariants as used
use Rattle.wire_share.specs.Cores.{ClosesDown, CoreAct, CoreDoes, CoreRun, CoreSeen, DownPart, Finishes, IsPermitted, KeepsFor, LosesUp, OpensDown, OpensUp, RunsOut, Shares, UpPart, hangs_on, is_call_of, new_client, new_core, unless_hung}
use Rattle.wire_share.specs.Core_laws.{IsKept, Told}
use Rattle.wire_share.proofs.Standing.{Stands, none_at, put_case, same_at, some_same, stands_along}

-- ---- what a client awaits

abbrev pub Awaits : Option Client → Awaited → Type 0
Awaits row call = (x : Client) × (row ≡ Some x) × (x.downstream.awaited ≡ Some call)

moved : (move : DownMove) (old new : DownSeen) → DownMoves move old new → new.awaited ≡ old.awaited
moved (Takes bytes) old new does = does.2
moved (Sends bytes) old new does = ap (λ (d : DownSeen). d.awaited) does.2
moved Ends old new does = ap (λ (d : DownSeen). d.awaited) does
moved Stays old new does = ap (λ (d : DownSeen). d.awaited) does

-- the call that an act makes of a request
abbrev passed_as : DownAct → Option Awaited
passed_as (Moves move) = None
passed_as (PassesOn m call made) = Some call
passed_as (Answers m call answer made) = None

gone_on : (more : Bool) (c call : Awaited) (made : List _) (old new : DownSeen) → GoesWith more c made old new → new.awaited ≡ Some call → Some c ≡ Some call
gone_on false c call made old new goes is = sym (ap (λ (d : DownSeen). d.awaited) goes.0) ∙ is
gone_on true c call made old new (inl goes) is = absurd (none-some call (sym goes.1 ∙ is))
gone_on true c call made old new (inr goes) is = sym (ap (λ (d : DownSeen). d.awaited) goes.0) ∙ is

-- a call that is awaited was awaited before, or is the one that the request was passed on as
awaited_by : (act : DownAct) (old new : DownSeen) (call : Awaited) → DownDoes act old new → new.awaited ≡ Some call → (old.awaited ≡ Some call) ⊎ (passed_as act ≡ Some call)
awaited_by (Moves move) old new call does is = inl (sym (moved move old new does) ∙ is)
awaited_by (PassesOn m c made) old new call does is = inr (gone_on m.flags.more_to_come c call made old new does.1 is)
awaited_by (Answers m c answer made) old new call does is = absurd (none-some call (sym does.3 ∙ is))

part_awaits : (o : Option DownAct) (old new : Option Client) (call : Awaited) → DownPart o old new → Awaits new call
    → Awaits old call ⊎ ((act : DownAct) × (o ≡ Some act) × (passed_as act ≡ Some call))
part_awaits None old new call part a = inl (a.0, sym part ∙ a.1, a.2)
part_awaits (Some act) old new call part a =
    let same : a.0 ≡ part.1 = some_same a.0 part.1 (sym a.1 ∙ part.3) in
    by (awaited_by act part.0.downstream part.1.downstream call part.4 (ap (λ (x : Client). x.downstream.awaited) (sym same) ∙ a.2))
  where
    by : (part.0.downstream.awaited ≡ Some call) ⊎ (passed_as act ≡ Some call) → Awaits old call ⊎ ((a : DownAct) × (Some act ≡ Some a) × (passed_as a ≡ Some call))
    by (inl is) = inl (part.0, part.2, is)
    by (inr is) = inr (act, refl, is)

-- ---- what is there

abbrev pub IsThere : Option Server → Type 0
IsThere row = (y : Server) × (row ≡ Some y)

there_on : (u : ℕ) (o : Option ClientAct) (old new : Option Server) → UpPart u o old new → IsThere old → IsThere new
there_on u None old new part y = (y.0, part ∙ y.1)
there_on u (Some act) old new part y = (part.1, part.3)

if_some : {A : Type 0} (b : Bool) (a x : A) → (if b then Some a else None) ≡ Some x → a ≡ x
if_some true a x is = some_same a x is
if_some false a x is = absurd (none-some x is)

-- a request is passed on over a connection that is there
passed_there : (act : ShareAct) (s : CoreSeen) (d : ℕ) (a : DownAct) (call : Awaited) → act_at act d ≡ Some a → passed_as a ≡ Some call → IsPermitted act s → IsThere (s.ups call.upstream)
passed_there (MovesDown e move) s d a call at made_as p = absurd (none-some call (ap passed_as (if_some (e == d) _ a at) ∙ made_as))
passed_there (SendsUp u bytes) s d a call at made_as p = absurd (none-some a at)
passed_there (TakesUp u bytes) s d a call at made_as p = absurd (none-some a at)
passed_there (EndsUp u) s d a call at made_as p = absurd (none-some a at)
passed_there (Passes e u m payload number made) s d a call at made_as p =
    let same : record { upstream = u; call = number.number } ≡ call = some_same _ call (ap passed_as (if_some (e == d) _ a at) ∙ made_as) in
    (p.server, ap (λ (c : Awaited). s.ups c.upstream) (sym same) ∙ p.server_at)
passed_there (Gives e u m reply answer made) s d a call at made_as p = absurd (none-some call (ap passed_as (if_some (e == d) _ a at) ∙ made_as))
passed_there (LetsGo u reply answer) s d a call at made_as p = absurd (none-some a at)

-- ---- one act

abbrev Wanted : CoreSeen → Type 0
Wanted s = (d : ℕ) (call : Awaited) → Awaits (s.downs d) call → IsThere (s.ups call.upstream)

put_there : (b : Bool) (value : Server) (old new : Option Server) → new ≡ (if b then Some value else old) → IsThere old → IsThere new
put_there true value old new is y = (value, is)
put_there false value old new is y = (y.0, is ∙ y.1)

keeps_awaits : (use_ : Use) (u : ℕ) (old new : ℕ → Option Client) (d : ℕ) (call : Awaited) → KeepsFor use_ u old new → Awaits (new d) call → Awaits (old d) call
keeps_awaits used.Shared u old new d call keeps a = (a.0, sym (keeps d) ∙ a.1, a.2)
keeps_awaits used.Once u old new d call keeps a = (a.0, sym (keeps d) ∙ a.1, a.2)
keeps_awaits (used.Transaction b) u old new d call keeps a = (a.0, sym (keeps d) ∙ a.1, a.2)
keeps_awaits used.Over u old new d call keeps a = (a.0, sym (keeps d) ∙ a.1, a.2)
keeps_awaits (used.Kept o) u old new d call keeps a =
    put_case (λ (row : Option Client). Awaits row call → Awaits (old d) call) (o == d) _ (old d) (new d) (keeps.3 d)
    (λ is b. (keeps.0, ap old (sym (eqb-true o d is)) ∙ keeps.1, ap (λ (x : Client). x.downstream.awaited) (some_same _ b.0 b.1) ∙ b.2)) (λ is b. b) a

if_none : (b : Bool) (x y : Client) → (if b then None else Some x) ≡ Some y → (b ≡ false) × (x ≡ y)
if_none true x y is = absurd (none-some y is)
if_none false x y is = (refl, some_same x y is)

unhung : (u : ℕ) (row : Option Client) (call : Awaited) → Awaits (unless_hung u row) call → Awaits row call × ((call.upstream == u) ≡ false)
unhung u None call a = absurd (none-some a.0 a.1)
unhung u (Some x) call a =
    let s = if_none (hangs_on u x) x a.0 a.1 in
    let is : x.downstream.awaited ≡ Some call = ap (λ (c : Client). c.downstream.awaited) s.1 ∙ a.2 in
    ((x, refl, is), sym (ap (is_call_of u) is) ∙ s.0)

other_there : (u v : ℕ) (old new : Option Server) → new ≡ (if u == v then None else old) → (v == u) ≡ false → IsThere old → IsThere new
other_there u v old new is differ y = by (u == v) refl
  where
    by : (b : Bool) → (u == v) ≡ b → IsThere new
    by true at = absurd (false-true (sym differ ∙ is_here u v (sym (eqb-true u v at))))
      where
        false-true : false ≡ true → ⊥
        false-true p = cc
    by false at = (y.0, is ∙ ap (λ (b : Bool). if b then None else old) at ∙ y.1)

wanted_on : (act : CoreAct) (old new : CoreSeen) → CoreDoes act old new → Wanted old → Wanted new
wanted_on (Shares act) old new does w d call a =
    there_on call.upstream (act_of act call.upstream) (old.ups call.upstream) (new.ups call.upstream) (does.ups call.upstream)
    (by (part_awaits (act_at act d) (old.downs d) (new.downs d) call (does.downs d) a))
  where
    by : Awaits (old.downs d) call ⊎ ((x : DownAct) × (act_at act d ≡ Some x) × (passed_as x ≡ Some call)) → IsThere (old.ups call.upstream)
    by (inl before) = w d call before
    by (inr now) = passed_there act old d now.0 call now.1 now.2 does.permitted
wanted_on (OpensDown e) old new does w d call a =
    let y =
    put_case (λ (row : Option Client). Awaits row call → IsThere (old.ups call.upstream)) (e == d) _ (old.downs d) (new.downs d) (does.downs d)
    (λ is b. absurd (none-some call (ap (λ (x : Client). x.downstream.awaited) (some_same (new_client e) b.0 b.1) ∙ b.2))) (λ is b. w d call b) a in
    (y.0, does.ups call.upstream ∙ y.1)
wanted_on (ClosesDown e) old new does w d call a =
    let y =
    put_case (λ (row : Option Client). Awaits row call → IsThere (old.ups call.upstream)) (e == d) None (old.downs d) (new.downs d) (does.downs d)
    (λ is b. absurd (none-some b.0 b.1)) (λ is b. w d call b) a in
    (y.0, does.ups call.upstream ∙ y.1)
wanted_on (OpensUp u use_) old new does w d call a =
    put_there (u == call.upstream) _ (old.ups call.upstream) (new.ups call.upstream) (does.ups call.upstream) (w d call (keeps_awaits use_ u old.downs new.downs d call does.downs a))
wanted_on (Finishes u) old new does w d call a =
    put_there (u == call.upstream) _ (old.ups call.upstream) (new.ups call.upstream) (does.ups call.upstream) (w d call (a.0, sym (does.downs d) ∙ a.1, a.2))
wanted_on (LosesUp u) old new does w d call a =
    let s = unhung u (old.downs d) call (a.0, sym (does.downs d) ∙ a.1, a.2) in
    other_there u call.upstream (old.ups call.upstream) (new.ups call.upstream) (does.ups call.upstream) s.1 (w d call s.0)
wanted_on RunsOut old new does w d call a = let y = w d call (a.0, sym (does.downs d) ∙ a.1, a.2) in (y.0, does.ups call.upstream ∙ y.1)

-- ---- numbers

abbrev Numbered : CoreSeen → Type 0
Numbered s = (u : ℕ) → s.opened < u → s.ups u ≡ None

none_on : (u : ℕ) (o : Option ClientAct) (row new : Option Server) → UpPart u o row new → row ≡ None → new ≡ None
none_on u None row new part absent = part ∙ absent
none_on u (Some act) row new part absent = absurd (none-some part.0 (sym absent ∙ part.2))

put_none : (b : Bool) (value old new : Option Server) → new ≡ (if b then value else old) → (b ≡ true → value ≡ None) → old ≡ None → new ≡ None
put_none true value old new is at absent = is ∙ at refl
put_none false value old new is at absent = is ∙ absent

numbered_on : (act : CoreAct) (old new : CoreSeen) → CoreDoes act old new → Numbered old → Numbered new
numbered_on (Shares act) old new does n u above = none_on u (act_of act u) (old.ups u) (new.ups u) (does.ups u) (n u (subst (λ k. k < u) does.opened above))
numbered_on (OpensDown d) old new does n u above = does.ups u ∙ n u (subst (λ k. k < u) does.opened above)
numbered_on (ClosesDown d) old new does n u above = does.ups u ∙ n u (subst (λ k. k < u) does.opened above)
numbered_on (OpensUp v use_) old new does n u above =
    let before : old.opened < u = omega (arith, does.number, does.opened, above) in
    put_none (v == u) _ (old.ups u) (new.ups u) (does.ups u)
    (λ is. (let same = eqb-true v u is in let no : ⊥ = omega (arith, does.opened, above, same) in absurd no)) (n u before)
numbered_on (Finishes v) old new does n u above =
    let before = n u (subst (λ k. k < u) does.opened above) in
    put_none (v == u) _ (old.ups u) (new.ups u) (does.ups u)
    (λ is. absurd (none-some does.server (sym before ∙ ap old.ups (sym (eqb-true v u is)) ∙ does.server_at))) before
numbered_on (LosesUp v) old new does n u above = put_none (v == u) None (old.ups u) (new.ups u) (does.ups u) (λ is. refl) (n u (subst (λ k. k < u) does.opened above))
numbered_on RunsOut old new does n u above = does.ups u ∙ n u (subst (λ k. k < u) does.opened above)

-- ---- many

keeps_along : (acts : List CoreAct) (old new : CoreSeen) → CoreRun old acts new → Wanted old → Numbered old → IsKept new
keeps_along [] old new run w n = subst IsKept (sym run) (record { wanted = (λ d x call at is. w d call (x, at, is)); numbered = n })
keeps_along (act ∷ acts) old new run w n = keeps_along acts run.0 new run.2 (wanted_on act old run.0 run.1 w) (numbered_on act old run.0 run.1 n)

pub kept_all : (acts : List CoreAct) (now : CoreSeen) → CoreRun new_core acts now → IsKept now
kept_all acts now run = keeps_along acts new_core now run (λ d call a. absurd (none-some a.0 a.1)) (λ u above. refl)

-- a connection that was lost stays away
abbrev Gone : ℕ → CoreSeen → Type 0
Gone u s = Stands (λ use_. ⊥) u s

below_or : (v : ℕ) (s : CoreSeen) (y : Server) → Numbered s → s.ups v ≡ Some y → v ≤ s.opened
below_or v s y n at = by (leb v s.opened) refl
  where
    by : (b : Bool) → leb v s.opened ≡ b → v ≤ s.opened
    by true is = leb-true v s.opened is
    by false is = absurd (none-some y (sym (n v (leb-false v s.opened is)) ∙ at))

lost_here : (v : ℕ) (old new : CoreSeen) → Numbered old → CoreDoes (LosesUp v) old new → Gone v new
lost_here v old new n does = record {
  below = subst (λ n. v ≤ n) (sym does.opened) (below_or v old does.server n does.server_at);
  at = same_at (λ use_. ⊥) None (new.ups v) (does.ups v ∙ ap (λ (b : Bool). if b then None else old.ups v) (is_here v v refl)) (none_at (λ use_. ⊥));
}

gone : (u : ℕ) (acts : List CoreAct) (old new : CoreSeen) → CoreRun old acts new → Numbered old → Inside (LosesUp u) acts → Gone u new
gone u [] old new run n i = absurd i
gone u (act ∷ acts) old new run n (inl is) =
    stands_along (λ use_. ⊥) (λ use_ q. q) (λ use_ q. q) acts run.0 new u run.2 (lost_here u old run.0 n (subst (λ (x : CoreAct). CoreDoes x old run.0) is run.1))
gone u (act ∷ acts) old new run n (inr i) = gone u acts run.0 new run.2 (numbered_on act old run.0 run.1 n) i

pub told : (acts : List CoreAct) (now : CoreSeen) → CoreRun new_core acts now → Told acts now
told acts now run u d x call lost at is of =
    let i = subst (λ (xs : List CoreAct). Inside (LosesUp u) xs) (sym lost.2) (inside (LosesUp u) lost.0 lost.1) in
    let y = (kept_all acts now run).wanted d x call at is in
    (gone u acts new_core now run (λ u above. refl) i).at y.0 (ap now.ups (sym of) ∙ y.1)
