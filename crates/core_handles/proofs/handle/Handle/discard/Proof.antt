-- `discard` takes apart a handle that owns nothing.
use mathlib.Core.Path.{◌≡◌, refl, sym, subst, ◌∙◌}
use mathlib.Core.List.{List, [], ◌∷◌, ◌++◌}
use seplogic.Ra.Ura.{Ura}
use mir.Val.{Val, vstruct, vcons, vnil, vunit, of_list}
use Rattle.std.specs.Prelude.{None}
use contract.Monad.{fact}
use base.Logic.{SProp, ent}
use base.Fml.{ftrue, fsep}
use prog.Memory.{Memory}
use prog.Routine.{Routine}
use prog.Wp.{WpFn, Tables}
use types.Logic.{Logic}
use contract.Monad.{Fun}
use contract.Running.{tables, tables_of}
use sound.WpLaws.{WpFn-mono}
use types.Kit.{Item, ‵, raw, ◌⊛◌, ◌$◌, ◌∵◌, !, qed, by, move, keep, drop, split, fsplit, fjoin, fpick, feq_i, feq_l, suffices, done}
use types.Run.{of_opd, unit_lit, returns, enter}
use types.ByLocal.{alloc_all, pass_all, free_all, look_at, sets}
use denote.Exit.{yes}
use denote.Steps.{nothing}
use denote.Triple.Spec.{triple_of}
use denote.Triple.Table.{entered}
use denote.RawPtr.{ptr_val}
use denote.Triple.Walked.{Stays, stay_dropped, walk_of, Goes-dropped, walk_Meets}
use Rattle.core.proofs.alloc.Calls.{α, handle_tells}
use Rattle.core.proofs.atomic.Steps.{Ptr-Good}
use Rattle.std.proofs.raw_atomic.Walks.{leaves}
use Rattle.std_alloc.proofs.ResultValues.{and_tt}
use mir.Val.{has_ty}
use mir.Syntax.{ty_ptr}
use mathlib.Core.Bool.{true, ◌&&◌}
use prog.Align.{both}
use Rattle.core_handles.proofs.AsBox.{E, FromSeal as From}
use Rattle.core_handles.specs.contracts.handle.Handle as Handle
use Rattle.core_handles.specs.contracts.handle.Handle.discard as F
use Rattle.core_handles.specs.contracts.handle.Handle.discard.Key.{name as #self}
use Rattle.core_handles.proofs.handle.Handle.discard.Statement as stated
use Rattle.core_handles.proofs.handle.Handle.discard.Code as code

abbrev stayed : Stays (F.ended).signature.params (F.ended).kept
stayed = (stay_dropped From yes, tt)

module _ {M : Type 1} {𝓤 : Ura M} (𝓛 : Logic 𝓤) (at_mem : Memory → SProp 𝓤) (run : Routine → Fun 𝓤) (𝓣 : Tables 𝓤 𝓛.H) where
  open 𝓛 use {H}

  walk : (z : (walk_of 𝓛 F.ended stayed (F.clauses 𝓛 at_mem run)).Ghost)
      → ent 𝓤 ((walk_of 𝓛 F.ended stayed (F.clauses 𝓛 at_mem run)).pre z) (WpFn 𝓤 H 𝓣.C 𝓣.Λ code.function (z.0.4.0 ++ []) ((walk_of 𝓛 F.ended stayed (F.clauses 𝓛 at_mem run)).post z))
  walk z =
      let Post = (walk_of 𝓛 F.ended stayed (F.clauses 𝓛 at_mem run)).post z in
      let h = z.0.3.0 in
      qed 𝓛 ((‵ ftrue ⊛ ‵ (fsep ((Handle.the_row).own_val h z.0.4.0) ftrue)) ∷ raw (fact 𝓤 (h.core ≡ None)) ∷ []) ∵ split ! $ drop ! $ fsplit ! $ fsplit ! $
      fpick ! (λ vss. fsplit ! $ feq_l ! (λ ev. fsplit ! $ feq_l ! (λ ep. fsplit ! $ handle_tells E.al ! h.alloc vss.1.0 (λ hv ea fa.
      let w : Val = vstruct (vcons (ptr_val h.at) (vcons hv vnil)) in
      let ws : z.0.4.0 ≡ w ∷ [] = ev ∙ (λ j. vstruct (of_list (ep j ++ (ea j ++ []))) ∷ []) in
      nothing ! $ keep ! (0 ∷ []) $
      let Γ : List (Item 𝓤) = ‵ ftrue ∷ [] in
      by ! (subst (λ (us : List Val). ent 𝓤 (types.Kit.⋆ 𝓛 Γ) (WpFn 𝓤 H 𝓣.C 𝓣.Λ code.function (us ++ []) Post)) (sym ws)
      (qed 𝓛 Γ ∵ enter ! 𝓣.C 𝓣.Λ code.function (w ∷ []) _ $ alloc_all ! (λ ls. pass_all ! refl ((both (has_ty ty_ptr (ptr_val h.at)) (has_ty (α E.al) hv && true) (Ptr-Good h.at).0 (and_tt (has_ty (α E.al) hv) fa.0), ((Ptr-Good h.at).1, (fa.1, tt))), tt) $
      sets ! (of_opd ! (unit_lit !)) refl (tt, tt) $ returns ! (look_at ! 0 refl) $ free_all ! refl $
      feq_i ! (List Val) (vunit ∷ []) (vunit ∷ []) refl $ nothing ! $ nothing ! $ nothing ! $ fjoin ! $ nothing ! $ keep ! (0 ∷ 1 ∷ 3 ∷ 2 ∷ []) $
      by ! (leaves 𝓛 F.ended stayed (F.clauses 𝓛 at_mem run) z vunit tt (tt, tt) (tt, tt)))))))))

pub discard_spec : {M : Type 1} → stated.statement M
unfolding tables_of
discard_spec 𝓤 𝓛 𝓜 𝓡 wired =
    let 𝓣 : Tables 𝓤 𝓛.H = tables_of 𝓤 𝓛.H 𝓜 (tables 𝓤 𝓛.H 𝓜 𝓡 𝓡.env) in
    entered 𝓤 𝓛.H (triple_of 𝓛 F.signature (F.spec 𝓛 𝓜.mem 𝓡.returns)) 𝓣.C 𝓣.Λ #self code.function (code.unfolded 𝓤 𝓛.H 𝓜 𝓡 wired)
    (walk_Meets 𝓛 F.ended stayed (Goes-dropped 𝓛 0 From yes (λ κs x f. refl), tt) (F.clauses 𝓛 𝓜.mem 𝓡.returns) (WpFn 𝓤 𝓛.H 𝓣.C 𝓣.Λ code.function) (WpFn-mono 𝓤 𝓛.H 𝓛.laws 𝓣 code.function)
    (walk 𝓛 𝓜.mem 𝓡.returns 𝓣))
