use Rattle.std.proofs.Common.{◌-◌, ◌∙◌, ℕ, ap, length}
use Rattle.replay.specs.Carried.{field_ids, pair_ids, with_ids}
use Rattle.replay.proofs.carrying.carry.Goals as goal

pub returns-in-Some : goal.returns-in-Some
returns-in-Some c = λ same. record {
  body = λ t rest has.
      let some = c.in-Some.ensures.some t rest has in
      c.carry_fields.ensures t some.0 ∙ ap (with_ids c.args.cursors.now.list.items (pair_ids field_ids c.end_before.result t)) same
      ∙ ap (λ (n : ℕ). with_ids c.args.cursors.now.list.items (pair_ids field_ids n t) c.args.bytes.now)
      (c.end_before.ensures ∙ ap (λ (n : ℕ). length c.args.bytes.now - n) (ap length some.1));
  none = λ no. absurd (no c.in-Some.ensures.only.0 _ c.in-Some.ensures.only.1);
}

pub returns-in-None : goal.returns-in-None
returns-in-None c = λ same. record {
  body = λ t rest has. absurd (c.in-None.ensures.some t rest has);
  none = λ no. same;
}
