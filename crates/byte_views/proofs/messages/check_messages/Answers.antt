use Rattle.std.proofs.Common.{rules, ◌≡◌, ◌<◌, [], ◌∷◌, ◌++◌, length, refl, ap, arith, length-append}
use Rattle.std.proofs.lemmas.List.{nil_from_length}
use Rattle.byte_views.proofs.ToldMessages.{message_takes, nothing_seen, one_more, told_all, told_bad, told_inside, whole_of}
use Rattle.byte_views.proofs.messages.check_messages.Goals as goal

pub returns-clause-read : goal.returns-clause-read
returns-clause-read g c = λ within.
    let i = c.loop-rest.invariant.so_far in
    let none : length c.loop-rest.rest.now ≡ 0 = search rules in
    told_all c.args.limit c.args.bytes.now c.loop-rest.rest.now i.0 _ _ _ _ (λ j. (c.type_inv.bytes j).fits, i.2, omega (arith, none)) i.1 (nil_from_length c.loop-rest.rest.now none) c.none-none.ensures c.none-none.ensures

pub returns-in-Open-clause-read : goal.returns-in-Open-clause-read
returns-in-Open-clause-read g c = λ within.
    let i = c.loop-rest.invariant in
    let some : 0 < length c.loop-rest.rest.now = search rules in
    told_inside c.args.limit c.args.bytes.now c.loop-rest.rest.now i.so_far.0 _ _ _ _ (λ j. (c.type_inv.bytes j).fits, i.so_far.2, omega (arith, i.room)) i.so_far.1
    (λ none. omega (arith, some, ap length none)) c.in-Open.ensures.front c.ended_inside.ensures c.none-none.ensures

pub returns-in-Bad-clause-read : goal.returns-in-Bad-clause-read
returns-in-Bad-clause-read g c = λ within.
    let i = c.loop-rest.invariant in
    told_bad c.args.limit c.args.bytes.now c.loop-rest.rest.now i.so_far.0 _ _ c.in-Bad.found _ _ (λ j. (c.type_inv.bytes j).fits, i.so_far.2, omega (arith, i.room)) i.so_far.1
    c.in-Bad.ensures.front.0 c.of_message.ensures c.inside.ensures

pub loop-rest-preserved : goal.loop-rest-preserved
loop-rest-preserved g c =
    let i = c.loop-rest.invariant in
    let front = c.in-Whole.ensures.front in
    let m = front.1.1.0 in
    let w = whole_of c.args.limit c.loop-rest.rest.now _ c.in-Whole.after.now front.0 front.1 in
    let takes = message_takes c.args.limit c.loop-rest.rest.now c.in-Whole.after.now m w in
    record {
      room = omega (arith, i.room, takes);
      so_far = (
        i.so_far.0 ++ m ∷ [],
        one_more c.args.limit c.args.bytes.now c.loop-rest.rest.now c.in-Whole.after.now i.so_far.0 m w i.so_far.1,
        omega (arith, i.so_far.2, length-append i.so_far.0 (m ∷ [])),
      );
    }

pub loop-rest-init : goal.loop-rest-init
loop-rest-init g c = record { room = omega arith; so_far = ([], nothing_seen c.args.limit c.args.bytes.now, refl) }

pub loop-rest-smaller : goal.loop-rest-smaller
loop-rest-smaller g c =
    let front = c.in-Whole.ensures.front in
    omega (arith, message_takes c.args.limit c.loop-rest.rest.now c.in-Whole.after.now front.1.1.0 (whole_of c.args.limit c.loop-rest.rest.now _ c.in-Whole.after.now front.0 front.1))
