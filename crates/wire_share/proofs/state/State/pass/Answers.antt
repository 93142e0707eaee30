use Rattle.std.proofs.Common.{◌≡◌, ◌∙◌, ap, refl, subst, sym, [], IsNone, Some, nat_eq, is_some}
use Rattle.indexmap.specs.IndexMap.{get}
use Rattle.wire_share.specs.Cores.{NotesBegin, core_seen}
use Rattle.wire_share.specs.Placing.{was_passed}
use Rattle.wire_peer.specs.{WaitsAt}
use Rattle.wire_share.specs.declared.client.Client.{Client}
use Rattle.wire_share.proofs.Moves.{of_row}
use Rattle.wire_share.proofs.Passing_on.{client_same, if_out, ok_anyway, passes, passes_run, refused, same_core, server_same, stays_put, unpassed, used_so}
use Rattle.wire_share.proofs.state.State.pass.Goals as goal

pub returns-in_default-wish-clause-run : goal.returns-in_default-wish-clause-run
returns-in_default-wish-clause-run c =
    let old = core_seen c.args.self.now in
    let at : old.downs c.args.number ≡ Some c.in-Some.client.now = sym c.in-Some.ensures.value in
    ([], same_core old _ (stays_put c.args.number old.downs _ _ _ at ((c.get_mut.follows.holds c.in-Some.client.now).3 (ap is_some at)).0 refl) (λ u. refl) refl refl refl)

pub returns-in_default-get_mut-clause-run : goal.returns-in_default-get_mut-clause-run
returns-in_default-get_mut-clause-run c =
    let old = core_seen c.args.self.now in
    let at : old.downs c.args.number ≡ Some c.in-Some.client.now = sym c.in-Some.ensures.value in (
      [],
      same_core old _ (stays_put c.args.number old.downs _ _ _ at ((c.get_mut.follows.holds c.in-Some.client.now).3 (ap is_some at)).0 refl)
          (λ u. ap (λ m. get nat_eq m u) c.get_mut-2.follows.holds-at-none) refl refl refl,
    )

pub returns-then-not-was_passed-clause-run : goal.returns-then-not-was_passed-clause-run
returns-then-not-was_passed-clause-run c =
    let old = core_seen c.args.self.now in
    let x = c.in-Some.client.now in
    let y = c.in-Some-get_mut.server.now in
    let y' = c.pass_on-result.new.self in
    let at : old.downs c.args.number ≡ Some x = sym c.in-Some.ensures.value in
    let there : old.ups c.args.upstream ≡ Some y = sym c.in-Some-get_mut.ensures.value in
    let not : was_passed c.pass_on-result.result ≡ _ = sym c.was_passed.ensures ∙ c.if-not-was_passed.true in
    let same = unpassed c.pass_on-result.result x.downstream _ y.upstream _ not c.pass_on-result.ensures.passed in (
      [],
      same_core old _
          (stays_put c.args.number old.downs _ _ _ at ((c.get_mut.follows.holds _).3 (ap is_some at)).0 (ap Some (client_same x _ same.0)))
          (stays_put c.args.upstream old.ups _ _ _ there ((c.get_mut-2.follows.holds _).3 (ap is_some there)).0 (ap Some (server_same y y' _ same.1 not c.pass_on-result.ensures.used)))
          refl refl refl,
    )

pub returns-then-not-was_passed-clause-refused : goal.returns-then-not-was_passed-clause-refused
returns-then-not-was_passed-clause-refused c =
    let old = core_seen c.args.self.now in
    let x = c.in-Some.client.now in
    let y = c.in-Some-get_mut.server.now in
    let y' = c.pass_on-result.new.self in
    let at : old.downs c.args.number ≡ Some x = sym c.in-Some.ensures.value in
    let there : old.ups c.args.upstream ≡ Some y = sym c.in-Some-get_mut.ensures.value in
    let not : was_passed c.pass_on-result.result ≡ _ = sym c.was_passed.ensures ∙ c.if-not-was_passed.true in
    let same = unpassed c.pass_on-result.result x.downstream _ y.upstream _ not c.pass_on-result.ensures.passed in
    refused c.refused_as.result c.pass_on-result.result c.args.number c.args.upstream old _ x y _ _ c.refused_as.ensures not c.pass_on-result.ensures.passed at there
    (same_core old _
    (stays_put c.args.number old.downs _ _ _ at ((c.get_mut.follows.holds _).3 (ap is_some at)).0 (ap Some (client_same x _ same.0)))
    (stays_put c.args.upstream old.ups _ _ _ there ((c.get_mut-2.follows.holds _).3 (ap is_some there)).0 (ap Some (server_same y y' _ same.1 not c.pass_on-result.ensures.used)))
    refl refl refl)

pub returns-in_default-wish-clause-refused : goal.returns-in_default-wish-clause-refused
returns-in_default-wish-clause-refused c =
    let old = core_seen c.args.self.now in
    let at : old.downs c.args.number ≡ Some c.in-Some.client.now = sym c.in-Some.ensures.value in
    let none : IsNone c.wish.result = search in (
      same_core old _ (stays_put c.args.number old.downs _ _ _ at ((c.get_mut.follows.holds c.in-Some.client.now).3 (ap is_some at)).0 refl) (λ u. refl) refl refl refl,
      (λ m asks placed. of_row (λ (x : Client). WaitsAt x.downstream.conn.server 0 m → ⊥) (old.downs c.args.number) c.in-Some.client.now at (c.wish.ensures.none none m) asks.0 asks.1 asks.2),
    )

pub returns-then-not-may_go-clause-refused : goal.returns-then-not-may_go-clause-refused
returns-then-not-may_go-clause-refused c = (refl, c.may_go.ensures.no c.if-not-may_go.true)

pub returns-in-Ok-clause-refused : goal.returns-in-Ok-clause-refused
returns-in-Ok-clause-refused c = if_out c.passed_as.result c.args.number c.args.upstream (core_seen c.args.self.now) _ c.passed_as.ensures

pub returns-in-Ok-clause-passed : goal.returns-in-Ok-clause-passed
returns-in-Ok-clause-passed c =
    let old = core_seen c.args.self.now in
    let x = c.in-Some.client.now in
    let y = c.in-Some-get_mut.server.now in
    let at : old.downs c.args.number ≡ Some x = sym c.in-Some.ensures.value in
    let there : old.ups c.args.upstream ≡ Some y = sym c.in-Some-get_mut.ensures.value in
    let was = sym c.was_passed.ensures ∙ c.if-not-was_passed.false in
    ok_anyway _ c.passed_as.result
    (passes old _ c.args.number c.args.upstream x _ y c.pass_on-result.new.self at there
    ((c.get_mut.follows.holds _).3 (ap is_some at)).0 ((c.get_mut-2.follows.holds _).3 (ap is_some there)).0
    refl (c.args.self.now.numbers c.args.upstream y there) (used_so y c.pass_on-result.new.self _ was c.pass_on-result.ensures.used) refl refl
    (λ m w. c.may_go.ensures.yes c.if-not-may_go.false m (x, at, w))
    (λ m w. subst (λ b. NotesBegin b c.args.upstream c.args.self.now.routes c.note_begin.new.routes) (c.in-Some-wish.ensures.begun m w) c.note_begin.ensures)
    c.pass_on-result.result was c.pass_on-result.ensures.passed)

pub returns-in-Ok-clause-run : goal.returns-in-Ok-clause-run
returns-in-Ok-clause-run c =
    let old = core_seen c.args.self.now in
    let x = c.in-Some.client.now in
    let y = c.in-Some-get_mut.server.now in
    let at : old.downs c.args.number ≡ Some x = sym c.in-Some.ensures.value in
    let there : old.ups c.args.upstream ≡ Some y = sym c.in-Some-get_mut.ensures.value in
    let was = sym c.was_passed.ensures ∙ c.if-not-was_passed.false in
    passes_run old _ c.args.number c.args.upstream x _ y c.pass_on-result.new.self at there
    ((c.get_mut.follows.holds _).3 (ap is_some at)).0 ((c.get_mut-2.follows.holds _).3 (ap is_some there)).0
    refl (c.args.self.now.numbers c.args.upstream y there) (used_so y c.pass_on-result.new.self _ was c.pass_on-result.ensures.used) refl refl
    (λ m w. c.may_go.ensures.yes c.if-not-may_go.false m (x, at, w))
    (λ m w. subst (λ b. NotesBegin b c.args.upstream c.args.self.now.routes c.note_begin.new.routes) (c.in-Some-wish.ensures.begun m w) c.note_begin.ensures)
    c.pass_on-result.result was c.pass_on-result.ensures.passed

pub returns-in-Err-clause-run : goal.returns-in-Err-clause-run
returns-in-Err-clause-run c =
    let old = core_seen c.args.self.now in
    let x = c.in-Some.client.now in
    let y = c.in-Some-get_mut.server.now in
    let at : old.downs c.args.number ≡ Some x = sym c.in-Some.ensures.value in
    let there : old.ups c.args.upstream ≡ Some y = sym c.in-Some-get_mut.ensures.value in
    let was = sym c.was_passed.ensures ∙ c.if-not-was_passed.false in
    passes_run old _ c.args.number c.args.upstream x _ y c.pass_on-result.new.self at there
    ((c.get_mut.follows.holds _).3 (ap is_some at)).0 ((c.get_mut-2.follows.holds _).3 (ap is_some there)).0
    refl (c.args.self.now.numbers c.args.upstream y there) (used_so y c.pass_on-result.new.self _ was c.pass_on-result.ensures.used) refl refl
    (λ m w. c.may_go.ensures.yes c.if-not-may_go.false m (x, at, w))
    (λ m w. subst (λ b. NotesBegin b c.args.upstream c.args.self.now.routes c.note_begin.new.routes) (c.in-Some-wish.ensures.begun m w) c.note_begin.ensures)
    c.pass_on-result.result was c.pass_on-result.ensures.passed
