use Rattle.std.proofs.Common.{◌≡◌, ◌≢◌, true, false, length, sym, arith, ◌∙◌}
use Rattle.std.proofs.lemmas.Bool.Decides.{nat_tests}
use Rattle.wire_msg.specs.Messages.{is_field}
use Rattle.wire_msg.proofs.NameLaws.{all_left, first_left, here_in_body, later_in_body, none_in_body}
use Rattle.wire_msg.proofs.names.offset_in_body.Goals as goal

pub loop-rest-init : goal.loop-rest-init
loop-rest-init g c = (c.requires.known, omega arith, λ t qs s fits are. all_left t c.args.start c.args.sequences.now qs fits are)

pub returns-then-contains : goal.returns-then-contains
returns-then-contains g c = λ t qs s fits are.
    let some : length c.loop-rest.rest.now ≢ 0 = λ e. grind (arith, nat_tests) in
    let f = first_left t c.args.start c.args.sequences.now qs c.loop-rest.rest.now some (c.loop-rest.invariant.2 t qs s fits are) in
    let p = c.split_sequence.ensures.parts f.sequence f.others f.fits f.are in
    let found : is_field c.split_sequence.result.0.now t ≡ true = sym (c.contains.ensures t s) ∙ c.if-contains.true in
    here_in_body t c.args.start c.args.sequences.now qs c.loop-rest.rest.now c.split_sequence.result.0.now f p.0 found

pub loop-rest-preserved : goal.loop-rest-preserved
loop-rest-preserved g c =
    let some : length c.loop-rest.rest.now ≢ 0 = λ e. grind (arith, nat_tests) in (
      c.split_sequence.ensures.others,
      omega (arith, c.split_sequence.ensures.shorter, c.loop-rest.invariant.1),
      λ t qs s fits are.
          let f = first_left t c.args.start c.args.sequences.now qs c.loop-rest.rest.now some (c.loop-rest.invariant.2 t qs s fits are) in
          let p = c.split_sequence.ensures.parts f.sequence f.others f.fits f.are in
          let absent : is_field c.split_sequence.result.0.now t ≡ false = sym (c.contains.ensures t s) ∙ c.if-contains.false in
          later_in_body t c.args.start c.args.sequences.now qs c.loop-rest.rest.now c.split_sequence.result.0.now c.split_sequence.result.2.now f c.loop-rest.invariant.1 p.0 p.2 absent,
    )

pub returns : goal.returns
returns g c = λ t qs s fits are.
    let none : length c.loop-rest.rest.now ≡ 0 = grind (arith, nat_tests) in
    none_in_body t c.args.start c.args.sequences.now qs c.loop-rest.rest.now none (c.loop-rest.invariant.2 t qs s fits are)
