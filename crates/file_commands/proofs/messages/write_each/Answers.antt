use Rattle.std.proofs.Common.{◌≡◌, ◌≤◌, ◌+◌, ◌-◌, ◌++◌, ◌∙◌, ℕ, List, ap, arith, drop, length, refl, subst, sym, take}
use Rattle.wire_msg.specs.{SpellsMsg}
use Rattle.wire_msg.proofs.Lemmas.{least_length}
use Rattle.wire_stream.specs.{Reading, StandsAt}
use Rattle.file_commands.specs.MessageWalk.{message_reading}
use Rattle.file_commands.specs.Msg.{messages_of}
use Rattle.file_commands.proofs.MessageReadings.{messages_kind}
use Rattle.file_commands.proofs.ItemReadings.{fewer_held, no_item, item_fed, item_released, stopped_at_fault}
use Rattle.file_commands.proofs.messages.write_each.Goals as goal

pub loop-fed-init : goal.loop-fed-init
loop-fed-init g c = (c.requires, refl, no_item _ _ _ _)

pub returns-in-Bad : goal.returns-in-Bad
returns-in-Bad g c =
    let i = c.loop-fed.invariant in
    let new = c.feed.new.self in
    let fed = c.in-Ok.fed in
    let rest = take (length c.loop-fed.rest.now - fed.taken) (drop fed.taken c.loop-fed.rest.now) in
    let bad = subst (StandsAt new.limit new.held) c.in-Bad.is c.in-Ok.ensures.state in
    record {
      limit = c.in-Ok.ensures.limit ∙ i.1;
      rest = new.held ++ rest;
      written = item_fed _ fed.taken _ c.loop-fed.reader.messages.held new.held c.loop-fed.rest.now _ _ _ _ i.2 (c.in-Ok.ensures.fed i.0).held;
      stopped = stopped_at_fault (messages_of c.args.form) (message_reading (record { messages = new; start = c.loop-fed.reader.start })) new.held rest c.stop_at.result (messages_kind c.args.form new.limit)
          (λ f is. (c.in-Bad.fault, bad, c.stop_at.ensures f is));
    }

pub loop-fed-smaller : goal.loop-fed-smaller
loop-fed-smaller g c =
    let ready = c.in-Some.ensures.some.1 in
    let f = c.in-Ok.ensures.fed c.loop-fed.invariant.0 in
    let new = c.feed.new.self.held in
    let none = ap (λ (r : Reading). r.held) (c.release.ensures.ready ready) in
    fewer_held c.in-Ok.fed.taken c.loop-fed.reader.messages.held new c.loop-fed.rest.now c.release.new.self.held f.taken f.held (omega (arith, least_length ready.1.0 new ready.1.1)) none

pub loop-fed-preserved : goal.loop-fed-preserved
loop-fed-preserved g c =
    let i = c.loop-fed.invariant in
    let new = c.feed.new.self in
    let ready = c.in-Some.ensures.some in
    let m = ready.1.1.0 in
    let behind = c.release.ensures.ready ready.1 in
    let limit = c.in-Ok.ensures.limit ∙ i.1 in
    let w = item_fed _ c.in-Ok.fed.taken _ c.loop-fed.reader.messages.held new.held c.loop-fed.rest.now _ _ _ _ i.2 (c.in-Ok.ensures.fed i.0).held in
    let written = c.in_ok-write_in_form.ensures m (subst (SpellsMsg m) (sym ready.0) ready.1.1.1) in
    let within : length new.held ≤ c.args.reader.now.messages.limit = omega (arith, ready.1.0, limit) in
    let next : c.in-Some-checked_add.behind ≡ c.loop-fed.reader.start + length new.held = c.in-Some-checked_add.ensures.1 ∙ ap (λ (x : List ℕ). c.loop-fed.reader.start + length x) (c.as_bytes.ensures ∙ ready.0) in
    let none = ap (λ (r : Reading). r.held) behind in (
      subst (messages_of c.args.form c.release.new.self.limit).is_open (sym none) (messages_kind c.args.form c.release.new.self.limit).nothing_open,
      ap (λ (r : Reading). r.limit) behind ∙ limit,
      item_released _ _ new.held c.release.new.self.held _ written.0 _ _ _ _ _ _ w (within, (m, ready.1.1.1)) (m, ready.1.1.1, written.1) written.2 next none,
    )
