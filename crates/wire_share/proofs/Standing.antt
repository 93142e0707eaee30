-- What stays true of one connection to the server, act by act.
use Rattle.std.proofs.Common.{◌≡◌, ℕ, ◌≤◌, Bool, true, false, List, [], ◌∷◌, refl, sym, ◌∙◌, ap, subst, Option, Some, None, arith}
use Rattle.std.specs.Prelude.{◌==◌, if◌then◌else◌}
use Rattle.std.proofs.lemmas.Bool.{eqb-true}
use Rattle.std.proofs.lemmas.Option.{none-some}
use Rattle.wire_model.specs.{ClientAct}
use Rattle.wire_model.specs.Owners as owners
use Rattle.wire_share.specs.Acts.{act_of}
use Rattle.wire_share.specs.declared.server.Server.{Server}
use Rattle.wire_share.specs.declared.uses.Use.{Use}
use Rattle.wire_share.specs.declared.uses.Use.TheVariants as used
use Rattle.wire_share.specs.Placing.{used_up}
use Rattle.wire_share.specs.Cores.{ClosesDown, CoreAct, CoreDoes, CoreRun, CoreSeen, Finishes, LosesUp, OpensDown, OpensUp, RunsOut, Shares, UpPart, used_by}

pub some_same : {A : Type 0} (a b : A) → Some a ≡ Some b → a ≡ b
some_same a b p = cc

pub other_than : {A : Type 0} (b : Bool) (a c : A) → (b ≡ true → ⊥) → (if b then a else c) ≡ c
other_than true a c never = absurd (never refl)
other_than false a c never = refl

-- a fact of a value that was put, and of the one that stays
pub put_case : {A : Type 0} (P : A → Type 0) (b : Bool) (value old new : A) → new ≡ (if b then value else old)
    → (b ≡ true → P value) → (b ≡ false → P old) → P new
put_case P true value old new is a c = subst P (sym is) (a refl)
put_case P false value old new is a c = subst P (sym is) (c refl)

module _ (Q : Use → Type 0) where
  -- the use of a connection, if that is there, is one of these
  abbrev pub AtUse : Option Server → Type 0
  AtUse row = (y : Server) → row ≡ Some y → Q y.used

  -- the connection was opened, and if it is there, its use is one of these
  pub record Stands (u : ℕ) (s : CoreSeen) : Type 0 where
    pub below : u ≤ s.opened
    pub at : AtUse (s.ups u)

  pub none_at : AtUse None
  none_at y is = absurd (none-some y is)

  pub some_at : (x : Server) → Q x.used → AtUse (Some x)
  some_at x q y is = subst (λ (z : Server). Q z.used) (some_same x y is) q

  pub same_at : (row new : Option Server) → new ≡ row → AtUse row → AtUse new
  same_at row new is at = subst AtUse (sym is) at

  module _ (up : (use_ : Use) → Q use_ → Q (used_up use_)) (over : (use_ : Use) → Q use_ → Q used.Over) where
    by_on : (act : ClientAct) (use_ : Use) → Q use_ → Q (used_by act use_)
    by_on (owners.Calls kind payload number) use_ q = up use_ q
    by_on (owners.SendsUp bytes) use_ q = q
    by_on (owners.TakesDown bytes) use_ q = q
    by_on (owners.Collects reply m) use_ q = q
    by_on owners.EndsDown use_ q = q

    part_on : (u : ℕ) (o : Option ClientAct) (row new : Option Server) → UpPart u o row new → AtUse row → AtUse new
    part_on u None row new part at = same_at row new part at
    part_on u (Some act) row new part at =
        same_at (Some part.1) new part.3 (some_at part.1 (subst Q (sym part.5) (by_on act part.0.used (at part.0 part.2))))

    -- each act keeps it
    pub stands_on : (act : CoreAct) (old new : CoreSeen) (u : ℕ) → CoreDoes act old new → Stands u old → Stands u new
    stands_on (Shares act) old new u does s = record {
      below = subst (λ n. u ≤ n) (sym does.opened) s.below;
      at = part_on u (act_of act u) (old.ups u) (new.ups u) (does.ups u) s.at;
    }
    stands_on (OpensDown d) old new u does s = record {
      below = subst (λ n. u ≤ n) (sym does.opened) s.below;
      at = same_at (old.ups u) (new.ups u) (does.ups u) s.at;
    }
    stands_on (ClosesDown d) old new u does s = record {
      below = subst (λ n. u ≤ n) (sym does.opened) s.below;
      at = same_at (old.ups u) (new.ups u) (does.ups u) s.at;
    }
    stands_on (OpensUp v use_) old new u does s =
        let below_now : u ≤ new.opened = omega (arith, s.below, does.number, does.opened) in
        let differ : (v == u) ≡ true → ⊥ = λ is. (let same = eqb-true v u is in omega (arith, s.below, does.number, same)) in record {
          below = below_now;
          at = same_at (old.ups u) (new.ups u) (does.ups u ∙ other_than (v == u) _ (old.ups u) differ) s.at;
        }
    stands_on (Finishes v) old new u does s = record {
      below = subst (λ n. u ≤ n) (sym does.opened) s.below;
      at =
          put_case AtUse (v == u) _ (old.ups u) (new.ups u) (does.ups u)
          (λ is. some_at _ (over does.server.used (s.at does.server (ap old.ups (sym (eqb-true v u is)) ∙ does.server_at)))) (λ is. s.at);
    }
    stands_on (LosesUp v) old new u does s = record {
      below = subst (λ n. u ≤ n) (sym does.opened) s.below;
      at = put_case AtUse (v == u) None (old.ups u) (new.ups u) (does.ups u) (λ is. none_at) (λ is. s.at);
    }
    stands_on RunsOut old new u does s = record {
      below = subst (λ n. u ≤ n) (sym does.opened) s.below;
      at = same_at (old.ups u) (new.ups u) (does.ups u) s.at;
    }

    -- and so do many
    pub stands_along : (acts : List CoreAct) (old new : CoreSeen) (u : ℕ) → CoreRun old acts new → Stands u old → Stands u new
    stands_along [] old new u run s = subst (Stands u) (sym run) s
    stands_along (act ∷ acts) old new u run s = stands_along acts run.0 new u run.2 (stands_on act old run.0 u run.1 s)
