-- Where requests go.
use Rattle.std.proofs.Common.{◌≡◌, ℕ, Bool, List, [], ◌∷◌, ◌++◌, refl, sym, ◌∙◌, ap, subst, Option, Some, None, is_some}
use Rattle.std.specs.Prelude.{if◌then◌else◌}
use Rattle.std.proofs.lemmas.Bool.{eqb-true}
use Rattle.wire_msg.specs.{Message}
use Rattle.wire_share.specs.declared.need.Need.{Need}
use Rattle.wire_share.specs.declared.need.SessionId.{SessionId}
use Rattle.wire_share.specs.Needs.{begun_by}
use Rattle.wire_share.specs.Acts.{Passes}
use Rattle.wire_share.specs.Routing.{found}
use Rattle.wire_share.specs.declared.client.Client.{Client}
use Rattle.wire_share.specs.Placing.{home, if_serves, is_home, is_served_by}
use Rattle.wire_share.specs.Cores.{CoreAct, CoreRun, CoreSeen, Shares, begins_in, command_of, home_of, need_in, new_core}
use Rattle.wire_share.specs.Core_laws.{GoesThere, Routed}
use Rattle.wire_share.proofs.Standing.{some_same}

-- a run of acts and of more is one run after another
split_run : (before after : List CoreAct) (old new : CoreSeen) → CoreRun old (before ++ after) new → (mid : CoreSeen) × CoreRun old before mid × CoreRun mid after new
split_run [] after old new run = (old, refl, run)
split_run (act ∷ before) after old new run =
    let s = split_run before after run.0 new run.2 in (s.0, (run.0, run.1, s.1), s.2)

pub routed : (acts : List CoreAct) (now : CoreSeen) → CoreRun new_core acts now → Routed acts
routed acts now run before after d u m p call made is =
    let s = split_run before (Shares (Passes d u m p call made) ∷ after) new_core now (subst (λ (xs : List CoreAct). CoreRun new_core xs now) is run) in
    (s.0, s.1, s.2.1.permitted)

pub goes_there : GoesThere
goes_there s d u v m x y placed x_at free goes_on lives y_at served =
    sym (eqb-true v u (sym (ap (λ (h : Option ℕ). is_home h u) home_is) ∙ placed.goes_home))
  where
    serves_there : if_serves s.ups (need_in m) d (Some v) ≡ Some v
    serves_there = ap (λ (b : Bool). if b then Some v else None) (ap (is_served_by (need_in m) d) y_at ∙ served)

    kept_is : placed.client.kept ≡ None
    kept_is = ap (λ (c : Client). c.kept) (some_same placed.client x (sym placed.client_at ∙ x_at)) ∙ free

    home_is : home s.ups (need_in m) (begins_in m) d placed.client.kept (found s.routes (need_in m)) ≡ Some v
    home_is =
        ap (λ (k : Option ℕ). home s.ups (need_in m) (begins_in m) d k (found s.routes (need_in m))) kept_is
        ∙ ap (λ (b : Bool). home s.ups (need_in m) b d None (found s.routes (need_in m))) goes_on
        ∙ ap (if_serves s.ups (need_in m) d) lives ∙ serves_there

-- the home of a request, by what was read of it
pub home_is : (s : CoreSeen) (d : ℕ) (m : Message) (x : Client) (need : Need) (begun : Option SessionId) (begins : Bool) (u : ℕ) → need ≡ need_in m → begun ≡ begun_by (command_of m)
    → begins ≡ is_some begun → home s.ups need begins d x.kept (found s.routes need) ≡ Some u → home_of s d m x ≡ Some u
home_is s d m x need begun begins u same began so is =
    sym
    (ap (λ (n : Need). home s.ups n begins d x.kept (found s.routes n)) same
    ∙ ap (λ (b : Bool). home s.ups (need_in m) b d x.kept (found s.routes (need_in m))) (so ∙ ap is_some began)) ∙ is
