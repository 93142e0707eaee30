-- What was done at each end is a run of wire_share's own acts.
use Rattle.std.proofs.Common.{◌≡◌, ℕ, ◌<◌, Bool, true, false, List, [], ◌∷◌, ◌++◌, refl, sym, ◌∙◌, ap, subst, Option, Some, None, arith}
use Rattle.std.specs.Prelude.{◌==◌, if◌then◌else◌}
use Rattle.std.proofs.lemmas.Bool.{eqb-true}
use Rattle.std.proofs.lemmas.Option.{none-some}
use Rattle.bson_elem.specs.{IsBytes}
use Rattle.wire_model.specs.{ClientAct, ClientEnd, ClientRun, bytes_taken, first_end}
use Rattle.wire_model.specs.Owners as owners
use Rattle.wire_peer.specs.{ClientSeen}
use Rattle.wire_share.specs.{DownSeen, new_downstream}
use Rattle.wire_share.specs.Acts.{AreFit, DownAct, DownDoes, DownRun, EndsUp, Gives, LetsGo, MovesDown, Passes, SendsUp, ShareAct, TakesUp, act_at, act_of, acts_at, acts_of, with_act}
use Rattle.wire_share.specs.declared.client.Client.{Client}
use Rattle.wire_msg.proofs.Lemmas.{bytes_append}
use Rattle.wire_msg.specs.declared.header.TheConstants.{MAX_MESSAGE_LEN}
use Rattle.wire_share.specs.Sharing.{kind_by}
use Rattle.wire_share.specs.declared.server.Server.{Server}
use Rattle.wire_share.specs.declared.uses.Use.{Use}
use Rattle.wire_share.specs.declared.uses.Use.TheVariants as used
use Rattle.wire_share.specs.Cores.{AreBytes, ClosesDown, CoreAct, CoreDoes, CoreRun, CoreSeen, DownPart, Finishes, KeepsFor, LosesUp, OpensDown, OpensUp, RunsOut, Shares, UpPart, hangs_on, new_client, new_core, new_server, recorded, unless_hung}
use Rattle.wire_share.specs.Core_laws.{AreEnds, own_made, shared_in}
use Rattle.wire_share.proofs.Standing.{put_case, some_same}

-- ---- at a client

abbrev pub Same : DownSeen → Option Client → Type 0
Same seen row = (x : Client) → row ≡ Some x → x.downstream ≡ seen

-- the client is there with what was done, or is gone; before it is accepted, nothing was done
pub record DownAt (d : ℕ) (s : CoreSeen) (seen : DownSeen) : Type 0 where
  is : Same seen (s.downs d)
  fresh : s.accepted < d → (seen ≡ new_downstream d) × (s.downs d ≡ None)

abbrev DownLink : DownSeen → Option DownAct → DownSeen → Type 0
DownLink seen o next = (acts : List DownAct) (last : DownSeen) → DownRun next acts last → DownRun seen (with_act o acts) last

down_step : (o : Option DownAct) (row new : Option Client) (seen : DownSeen) → DownPart o row new → Same seen row
    → (next : DownSeen) × DownLink seen o next × Same next new × (row ≡ None → (next ≡ seen) × (new ≡ None))
down_step None row new seen part same = (seen, (λ acts last r. r), (λ x is. same x (sym part ∙ is)), (λ none. (refl, part ∙ none)))
down_step (Some a) row new seen part same = (
  part.1.downstream,
  (λ acts last r. (part.1.downstream, subst (λ (z : DownSeen). DownDoes a z part.1.downstream) (same part.0 part.2) part.4, r)),
  (λ x is. ap (λ (z : Client). z.downstream) (some_same x part.1 (sym is ∙ part.3))),
  (λ none. absurd (none-some part.0 (sym none ∙ part.2))),
)

none_same : (seen : DownSeen) → Same seen None
none_same seen x is = absurd (none-some x is)

keeps_same : (use_ : Use) (u : ℕ) (old new : ℕ → Option Client) (d : ℕ) (seen : DownSeen) → KeepsFor use_ u old new → Same seen (old d) → Same seen (new d)
keeps_same used.Shared u old new d seen keeps same = λ x is. same x (sym (keeps d) ∙ is)
keeps_same used.Once u old new d seen keeps same = λ x is. same x (sym (keeps d) ∙ is)
keeps_same (used.Transaction b) u old new d seen keeps same = λ x is. same x (sym (keeps d) ∙ is)
keeps_same used.Over u old new d seen keeps same = λ x is. same x (sym (keeps d) ∙ is)
keeps_same (used.Kept o) u old new d seen keeps same =
    put_case (Same seen) (o == d) _ (old d) (new d) (keeps.3 d)
    (λ is x at. ap (λ (z : Client). z.downstream) (sym (some_same _ x at)) ∙ same keeps.0 (ap old (sym (eqb-true o d is)) ∙ keeps.1)) (λ is. same)

keeps_none : (use_ : Use) (u : ℕ) (old new : ℕ → Option Client) (d : ℕ) → KeepsFor use_ u old new → old d ≡ None → new d ≡ None
keeps_none used.Shared u old new d keeps none = keeps d ∙ none
keeps_none used.Once u old new d keeps none = keeps d ∙ none
keeps_none (used.Transaction b) u old new d keeps none = keeps d ∙ none
keeps_none used.Over u old new d keeps none = keeps d ∙ none
keeps_none (used.Kept o) u old new d keeps none =
    put_case (λ (row : Option Client). row ≡ None) (o == d) _ (old d) (new d) (keeps.3 d)
    (λ is. absurd (none-some keeps.0 (sym none ∙ ap old (sym (eqb-true o d is)) ∙ keeps.1))) (λ is. none)

unless_same : (u : ℕ) (row : Option Client) (seen : DownSeen) → Same seen row → Same seen (unless_hung u row)
unless_same u None seen same = same
unless_same u (Some c) seen same = by (hangs_on u c)
  where
    by : (b : Bool) → Same seen (if b then None else Some c)
    by true = none_same seen
    by false = same

unless_none : (u : ℕ) (row : Option Client) → row ≡ None → unless_hung u row ≡ None
unless_none u None none = refl
unless_none u (Some c) none = absurd (none-some c (sym none))

-- an act that is none of wire_share
down_opens : (e d : ℕ) (old mid : CoreSeen) (seen : DownSeen) → CoreDoes (OpensDown e) old mid → DownAt d old seen → DownAt d mid seen
down_opens e d old mid seen does at = record {
  is =
      put_case (Same seen) (e == d) _ (old.downs d) (mid.downs d) (does.downs d)
      (λ is x here.
      let same = eqb-true e d is in
      let above : old.accepted < d = omega (arith, does.number, same) in
      ap (λ (z : Client). z.downstream) (sym (some_same (new_client e) x here)) ∙ ap new_downstream same ∙ sym (at.fresh above).0) (λ is. at.is);
  fresh = λ above.
      let before : old.accepted < d = omega (arith, does.number, does.accepted, above) in
      let f = at.fresh before in (
        f.0,
        put_case (λ (row : Option Client). row ≡ None) (e == d) _ (old.downs d) (mid.downs d) (does.downs d)
            (λ is. (let same = eqb-true e d is in let no : ⊥ = omega (arith, does.accepted, above, same) in absurd no)) (λ is. f.1),
      );
}

down_run : (d : ℕ) (acts : List CoreAct) (old new : CoreSeen) (seen : DownSeen) → CoreRun old acts new → DownAt d old seen
    → (last : DownSeen) × DownRun seen (acts_at (shared_in acts) d) last × DownAt d new last
down_run d [] old new seen run at = (seen, refl, subst (λ (s : CoreSeen). DownAt d s seen) (sym run) at)
down_run d (Shares act ∷ acts) old new seen run at =
    let s = down_step (act_at act d) (old.downs d) (run.0.downs d) seen (run.1.downs d) at.is in
    let mid : DownAt d run.0 s.0 = record {
      is = s.2;
      fresh = λ above. (let f = at.fresh (subst (λ n. n < d) run.1.accepted above) in let g = s.3 f.1 in (g.0 ∙ f.0, g.1));
    } in
    let rest = down_run d acts run.0 new s.0 run.2 mid in (rest.0, s.1 (acts_at (shared_in acts) d) rest.0 rest.1, rest.2)
down_run d (OpensDown e ∷ acts) old new seen run at = down_run d acts run.0 new seen run.2 (down_opens e d old run.0 seen run.1 at)
down_run d (ClosesDown e ∷ acts) old new seen run at =
    down_run d acts run.0 new seen run.2 (record {
      is = put_case (Same seen) (e == d) None (old.downs d) (run.0.downs d) (run.1.downs d) (λ is. none_same seen) (λ is. at.is);
      fresh = λ above. (let f = at.fresh (subst (λ n. n < d) run.1.accepted above) in
          (f.0, put_case (λ (row : Option Client). row ≡ None) (e == d) None (old.downs d) (run.0.downs d) (run.1.downs d) (λ is. refl) (λ is. f.1)));
    })
down_run d (OpensUp v use_ ∷ acts) old new seen run at =
    down_run d acts run.0 new seen run.2 (record {
      is = keeps_same use_ v old.downs run.0.downs d seen run.1.downs at.is;
      fresh = λ above. (let f = at.fresh (subst (λ n. n < d) run.1.accepted above) in (f.0, keeps_none use_ v old.downs run.0.downs d run.1.downs f.1));
    })
down_run d (Finishes v ∷ acts) old new seen run at =
    down_run d acts run.0 new seen run.2 (record {
      is = λ x is. at.is x (sym (run.1.downs d) ∙ is);
      fresh = λ above. (let f = at.fresh (subst (λ n. n < d) run.1.accepted above) in (f.0, run.1.downs d ∙ f.1));
    })
down_run d (LosesUp v ∷ acts) old new seen run at =
    down_run d acts run.0 new seen run.2 (record {
      is = subst (Same seen) (sym (run.1.downs d)) (unless_same v (old.downs d) seen at.is);
      fresh = λ above. (let f = at.fresh (subst (λ n. n < d) run.1.accepted above) in (f.0, run.1.downs d ∙ unless_none v (old.downs d) f.1));
    })
down_run d (RunsOut ∷ acts) old new seen run at =
    down_run d acts run.0 new seen run.2 (record {
      is = λ x is. at.is x (sym (run.1.downs d) ∙ is);
      fresh = λ above. (let f = at.fresh (subst (λ n. n < d) run.1.accepted above) in (f.0, run.1.downs d ∙ f.1));
    })

-- ---- at a connection to the server

abbrev pub Alike : ClientEnd → Option Server → Type 0
Alike end row = (y : Server) → row ≡ Some y → y.upstream.client ≡ end.client

pub record UpAt (u : ℕ) (s : CoreSeen) (end : ClientEnd) : Type 0 where
  is : Alike end (s.ups u)
  fresh : s.opened < u → (end ≡ first_end MAX_MESSAGE_LEN own_made u) × (s.ups u ≡ None)

abbrev UpLink : ℕ → ClientEnd → Option ClientAct → ClientEnd → Type 0
UpLink u end o next = (acts : List ClientAct) (last : ClientEnd) → ClientRun u next acts last → ClientRun u end (with_act o acts) last

up_step : (u : ℕ) (o : Option ClientAct) (row new : Option Server) (end : ClientEnd) → UpPart u o row new → Alike end row
    → (next : ClientEnd) × UpLink u end o next × Alike next new × (row ≡ None → (next ≡ end) × (new ≡ None))
up_step u None row new end part same = (end, (λ acts last r. r), (λ x is. same x (sym part ∙ is)), (λ none. (refl, part ∙ none)))
up_step u (Some a) row new end part same =
    let next : ClientEnd = record { client = part.1.upstream.client; records = recorded u a end.records } in (
      next,
      (λ acts last r. (next, subst (λ (c : ClientSeen). owners.ClientDoes u a (record { client = c; records = end.records }) next) (same part.0 part.2) (part.4.1 end.records), r)),
      (λ x is. ap (λ (z : Server). z.upstream.client) (some_same x part.1 (sym is ∙ part.3))),
      (λ none. absurd (none-some part.0 (sym none ∙ part.2))),
    )

none_alike : (end : ClientEnd) → Alike end None
none_alike end x is = absurd (none-some x is)

up_opens : (v u : ℕ) (use_ : Use) (old mid : CoreSeen) (end : ClientEnd) → CoreDoes (OpensUp v use_) old mid → UpAt u old end → UpAt u mid end
up_opens v u use_ old mid end does at = record {
  is =
      put_case (Alike end) (v == u) _ (old.ups u) (mid.ups u) (does.ups u)
      (λ is x here.
      let same = eqb-true v u is in
      let above : old.opened < u = omega (arith, does.number, same) in
      ap (λ (z : Server). z.upstream.client) (sym (some_same (new_server v use_) x here)) ∙ ap (λ (e : ClientEnd). e.client) (sym (at.fresh above).0)) (λ is. at.is);
  fresh = λ above.
      let before : old.opened < u = omega (arith, does.number, does.opened, above) in
      let f = at.fresh before in (
        f.0,
        put_case (λ (row : Option Server). row ≡ None) (v == u) _ (old.ups u) (mid.ups u) (does.ups u)
            (λ is. (let same = eqb-true v u is in let no : ⊥ = omega (arith, does.opened, above, same) in absurd no)) (λ is. f.1),
      );
}

up_finishes : (v u : ℕ) (old mid : CoreSeen) (end : ClientEnd) → CoreDoes (Finishes v) old mid → UpAt u old end → UpAt u mid end
up_finishes v u old mid end does at = record {
  is =
      put_case (Alike end) (v == u) _ (old.ups u) (mid.ups u) (does.ups u)
      (λ is x here. ap (λ (z : Server). z.upstream.client) (sym (some_same _ x here)) ∙ at.is does.server (ap old.ups (sym (eqb-true v u is)) ∙ does.server_at)) (λ is. at.is);
  fresh = λ above. (let f = at.fresh (subst (λ n. n < u) does.opened above) in (
    f.0,
    put_case (λ (row : Option Server). row ≡ None) (v == u) _ (old.ups u) (mid.ups u) (does.ups u)
        (λ is. absurd (none-some does.server (sym f.1 ∙ ap old.ups (sym (eqb-true v u is)) ∙ does.server_at))) (λ is. f.1),
  ));
}

up_same : (u : ℕ) (old mid : CoreSeen) (end : ClientEnd) → mid.ups u ≡ old.ups u → mid.opened ≡ old.opened → UpAt u old end → UpAt u mid end
up_same u old mid end same opened at = record {
  is = λ x is. at.is x (sym same ∙ is);
  fresh = λ above. (let f = at.fresh (subst (λ n. n < u) opened above) in (f.0, same ∙ f.1));
}

up_run : (u : ℕ) (acts : List CoreAct) (old new : CoreSeen) (end : ClientEnd) → CoreRun old acts new → UpAt u old end
    → (last : ClientEnd) × ClientRun u end (acts_of (shared_in acts) u) last × UpAt u new last
up_run u [] old new end run at = (end, refl, subst (λ (s : CoreSeen). UpAt u s end) (sym run) at)
up_run u (Shares act ∷ acts) old new end run at =
    let s = up_step u (act_of act u) (old.ups u) (run.0.ups u) end (run.1.ups u) at.is in
    let mid : UpAt u run.0 s.0 = record {
      is = s.2;
      fresh = λ above. (let f = at.fresh (subst (λ n. n < u) run.1.opened above) in let g = s.3 f.1 in (g.0 ∙ f.0, g.1));
    } in
    let rest = up_run u acts run.0 new s.0 run.2 mid in (rest.0, s.1 (acts_of (shared_in acts) u) rest.0 rest.1, rest.2)
up_run u (OpensDown e ∷ acts) old new end run at = up_run u acts run.0 new end run.2 (up_same u old run.0 end (run.1.ups u) run.1.opened at)
up_run u (ClosesDown e ∷ acts) old new end run at = up_run u acts run.0 new end run.2 (up_same u old run.0 end (run.1.ups u) run.1.opened at)
up_run u (OpensUp v use_ ∷ acts) old new end run at = up_run u acts run.0 new end run.2 (up_opens v u use_ old run.0 end run.1 at)
up_run u (Finishes v ∷ acts) old new end run at = up_run u acts run.0 new end run.2 (up_finishes v u old run.0 end run.1 at)
up_run u (LosesUp v ∷ acts) old new end run at =
    up_run u acts run.0 new end run.2 (record {
      is = put_case (Alike end) (v == u) None (old.ups u) (run.0.ups u) (run.1.ups u) (λ is. none_alike end) (λ is. at.is);
      fresh = λ above. (let f = at.fresh (subst (λ n. n < u) run.1.opened above) in
          (f.0, put_case (λ (row : Option Server). row ≡ None) (v == u) None (old.ups u) (run.0.ups u) (run.1.ups u) (λ is. refl) (λ is. f.1)));
    })
up_run u (RunsOut ∷ acts) old new end run at = up_run u acts run.0 new end run.2 (up_same u old run.0 end (run.1.ups u) run.1.opened at)

-- ---- all

fits_all : (acts : List CoreAct) (old new : CoreSeen) → CoreRun old acts new → AreFit (shared_in acts)
fits_all [] old new run = tt
fits_all (Shares act ∷ acts) old new run = (run.1.fit, fits_all acts run.0 new run.2)
fits_all (OpensDown e ∷ acts) old new run = fits_all acts run.0 new run.2
fits_all (ClosesDown e ∷ acts) old new run = fits_all acts run.0 new run.2
fits_all (OpensUp v use_ ∷ acts) old new run = fits_all acts run.0 new run.2
fits_all (Finishes v ∷ acts) old new run = fits_all acts run.0 new run.2
fits_all (LosesUp v ∷ acts) old new run = fits_all acts run.0 new run.2
fits_all (RunsOut ∷ acts) old new run = fits_all acts run.0 new run.2

pub down_all : (acts : List CoreAct) (now : CoreSeen) → CoreRun new_core acts now → (d : ℕ) → (last : DownSeen) × DownRun (new_downstream d) (acts_at (shared_in acts) d) last × DownAt d now last
down_all acts now run d = down_run d acts new_core now (new_downstream d) run (record { is = none_same (new_downstream d); fresh = λ above. (refl, refl) })

pub up_all : (acts : List CoreAct) (now : CoreSeen) → CoreRun new_core acts now → (u : ℕ) → (last : ClientEnd) × ClientRun u (first_end MAX_MESSAGE_LEN own_made u) (acts_of (shared_in acts) u) last × UpAt u now last
up_all acts now run u = up_run u acts new_core now (first_end MAX_MESSAGE_LEN own_made u) run (record { is = none_alike (first_end MAX_MESSAGE_LEN own_made u); fresh = λ above. (refl, refl) })

abbrev pub downs_of : (acts : List CoreAct) (now : CoreSeen) → CoreRun new_core acts now → ℕ → DownSeen
downs_of acts now run d = (down_all acts now run d).0

abbrev pub ends_of : (acts : List CoreAct) (now : CoreSeen) → CoreRun new_core acts now → ℕ → ClientEnd
ends_of acts now run u = (up_all acts now run u).0

pub are_ends : (acts : List CoreAct) (now : CoreSeen) (run : CoreRun new_core acts now) → AreEnds (shared_in acts) now (downs_of acts now run) (ends_of acts now run)
are_ends acts now run = record {
  fit = fits_all acts new_core now run;
  below = λ d. (down_all acts now run d).1;
  above = λ u. (up_all acts now run u).1;
  here = λ d. (down_all acts now run d).2.is;
  there = λ u. (up_all acts now run u).2.is;
}

-- ---- bytes

no_bytes : IsBytes []
no_bytes i = omega arith

with_bytes : (b : Bool) (bytes : List ℕ) (acts : List ClientAct) → IsBytes bytes → IsBytes (bytes_taken acts)
    → IsBytes (bytes_taken (with_act (if b then Some (owners.TakesDown bytes) else None) acts))
with_bytes true bytes acts one others = bytes_append bytes (bytes_taken acts) one others
with_bytes false bytes acts one others = others

abbrev TakesNone : Option ClientAct → Type 0
TakesNone None = Unit {0}
TakesNone (Some a) = owners.taken_by a ≡ []

if_none : (b : Bool) (a : ClientAct) → owners.taken_by a ≡ [] → TakesNone (if b then Some a else None)
if_none true a none = none
if_none false a none = tt

skip_bytes : (o : Option ClientAct) (acts : List ClientAct) → TakesNone o → IsBytes (bytes_taken acts) → IsBytes (bytes_taken (with_act o acts))
skip_bytes None acts none others = others
skip_bytes (Some a) acts none others = subst (λ (xs : List ℕ). IsBytes (xs ++ bytes_taken acts)) (sym none) others

act_bytes : (act : ShareAct) (u : ℕ) (acts : List ClientAct) → AreBytes act → IsBytes (bytes_taken acts) → IsBytes (bytes_taken (with_act (act_of act u) acts))
act_bytes (MovesDown e move) u acts one others = others
act_bytes (SendsUp v bytes) u acts one others = skip_bytes _ acts (if_none (v == u) (owners.SendsUp bytes) refl) others
act_bytes (TakesUp v bytes) u acts one others = with_bytes (v == u) bytes acts one others
act_bytes (EndsUp v) u acts one others = skip_bytes _ acts (if_none (v == u) owners.EndsDown refl) others
act_bytes (Passes e v m payload call made) u acts one others = skip_bytes _ acts (if_none (v == u) (owners.Calls (kind_by m.flags.more_to_come) payload call) refl) others
act_bytes (Gives e v m reply answer made) u acts one others = skip_bytes _ acts (if_none (v == u) (owners.Collects reply answer) refl) others
act_bytes (LetsGo v reply answer) u acts one others = skip_bytes _ acts (if_none (v == u) (owners.Collects reply answer) refl) others

pub bytes_all : (u : ℕ) (acts : List CoreAct) (old new : CoreSeen) → CoreRun old acts new → IsBytes (bytes_taken (acts_of (shared_in acts) u))
bytes_all u [] old new run = no_bytes
bytes_all u (Shares act ∷ acts) old new run = act_bytes act u (acts_of (shared_in acts) u) run.1.bytes (bytes_all u acts run.0 new run.2)
bytes_all u (OpensDown e ∷ acts) old new run = bytes_all u acts run.0 new run.2
bytes_all u (ClosesDown e ∷ acts) old new run = bytes_all u acts run.0 new run.2
bytes_all u (OpensUp v use_ ∷ acts) old new run = bytes_all u acts run.0 new run.2
bytes_all u (Finishes v ∷ acts) old new run = bytes_all u acts run.0 new run.2
bytes_all u (LosesUp v ∷ acts) old new run = bytes_all u acts run.0 new run.2
bytes_all u (RunsOut ∷ acts) old new run = bytes_all u acts run.0 new run.2
