use Rattle.std.proofs.Common.{◌≡◌, ◌∙◌, ap, refl, sym, [], Some, is_some, nat_eq}
use Rattle.indexmap.specs.IndexMap.{get}
use Rattle.wire_share.specs.Cores.{core_seen}
use Rattle.wire_share.proofs.Giving_back.{gives_on, gives_run, ran_out, same_number, ungiven, unnoted}
use Rattle.wire_share.proofs.Passing_on.{same_core, stays_put}
use Rattle.wire_share.proofs.Numbering.{numbers_on}
use Rattle.wire_share.proofs.state.State.give.Goals as goal

pub invariant_of-self-in-Ok-clause-numbers : goal.invariant_of-self-in-Ok-clause-numbers
invariant_of-self-in-Ok-clause-numbers c =
    let y = c.in-Some-get_mut.server.now in
    let there : get nat_eq c.args.self.now.ups c.args.upstream ≡ Some y = sym c.in-Some-get_mut.ensures.value in
    numbers_on c.args.upstream _ (λ u. get nat_eq c.args.self.now.ups u) _ ((c.get_mut-2.follows.holds _).3 (ap is_some there)).0
    (same_number c.answer.result c.in-Some.client.now.downstream _ y.upstream _ c.answer.ensures ∙ c.args.self.now.numbers c.args.upstream y there)
    c.args.self.now.numbers

pub returns-in-Ok-clause-given : goal.returns-in-Ok-clause-given
returns-in-Ok-clause-given c =
    let old = core_seen c.args.self.now in
    let x = c.in-Some.client.now in
    let y = c.in-Some-get_mut.server.now in
    let at : old.downs c.args.number ≡ Some x = sym c.in-Some.ensures.value in
    let there : old.ups c.args.upstream ≡ Some y = sym c.in-Some-get_mut.ensures.value in
    gives_on old _ c.args.number c.args.upstream x _ y _ c.answer.result at there
    ((c.get_mut.follows.holds _).3 (ap is_some at)).0 ((c.get_mut-2.follows.holds _).3 (ap is_some there)).0
    refl (c.args.self.now.numbers c.args.upstream y there) refl refl refl
    c.in-Ok.ensures.noted
    c.answer.ensures

pub returns-in-Ok-clause-run : goal.returns-in-Ok-clause-run
returns-in-Ok-clause-run c =
    let old = core_seen c.args.self.now in
    let x = c.in-Some.client.now in
    let y = c.in-Some-get_mut.server.now in
    let at : old.downs c.args.number ≡ Some x = sym c.in-Some.ensures.value in
    let there : old.ups c.args.upstream ≡ Some y = sym c.in-Some-get_mut.ensures.value in
    gives_run old _ c.args.number c.args.upstream x _ y _ c.answer.result at there
    ((c.get_mut.follows.holds _).3 (ap is_some at)).0 ((c.get_mut-2.follows.holds _).3 (ap is_some there)).0
    refl (c.args.self.now.numbers c.args.upstream y there) refl refl refl
    c.in-Ok.ensures.noted
    c.answer.ensures

pub returns-in_default-get_mut-clause-run : goal.returns-in_default-get_mut-clause-run
returns-in_default-get_mut-clause-run c =
    let old = core_seen c.args.self.now in
    let at : old.downs c.args.number ≡ Some c.in-Some.client.now = sym c.in-Some.ensures.value in (
      [],
      same_core old _ (stays_put c.args.number old.downs _ _ _ at ((c.get_mut.follows.holds c.in-Some.client.now).3 (ap is_some at)).0 refl)
          (λ u. ap (λ m. get nat_eq m u) c.get_mut-2.follows.holds-at-none) refl refl refl,
    )

pub returns-in-Ok-clause-refused : goal.returns-in-Ok-clause-refused
returns-in-Ok-clause-refused c =
    ungiven c.answer.result c.args.number c.args.upstream (core_seen c.args.self.now) _ c.in-Some.client.now c.in-Some-get_mut.server.now _ _ c.in-Ok.ensures.awaited c.in-Ok.ensures.is_open
    c.answer.ensures

pub returns-in-Err-clause-run : goal.returns-in-Err-clause-run
returns-in-Err-clause-run c =
    let old = core_seen c.args.self.now in
    let x = c.in-Some.client.now in
    let y = c.in-Some-get_mut.server.now in
    let at : old.downs c.args.number ≡ Some x = sym c.in-Some.ensures.value in
    let there : old.ups c.args.upstream ≡ Some y = sym c.in-Some-get_mut.ensures.value in
    ran_out old _ c.args.number c.args.upstream x x y y at there
    ((c.get_mut.follows.holds x).3 (ap is_some at)).0 ((c.get_mut-2.follows.holds y).3 (ap is_some there)).0 refl refl refl refl

pub returns-in-Err-clause-refused : goal.returns-in-Err-clause-refused
returns-in-Err-clause-refused c =
    let old = core_seen c.args.self.now in
    let x = c.in-Some.client.now in
    let y = c.in-Some-get_mut.server.now in
    let at : old.downs c.args.number ≡ Some x = sym c.in-Some.ensures.value in
    let there : old.ups c.args.upstream ≡ Some y = sym c.in-Some-get_mut.ensures.value in
    unnoted c.in-Err.refusal c.args.number c.args.upstream old _ x y at there
    (λ same.
    same_core old _ (stays_put c.args.number old.downs _ _ _ at ((c.get_mut.follows.holds x).3 (ap is_some at)).0 refl)
    (stays_put c.args.upstream old.ups _ _ _ there ((c.get_mut-2.follows.holds y).3 (ap is_some there)).0 refl) same refl refl)
    c.in-Err.ensures.refused
