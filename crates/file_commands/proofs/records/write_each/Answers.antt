use Rattle.std.proofs.Common.{◌≡◌, ◌+◌, ◌-◌, ◌++◌, ◌∙◌, ℕ, List, ap, arith, drop, length, refl, subst, sym, take}
use Rattle.std.proofs.lemmas.Bool.Decides.{nat_tests}
use Rattle.wire_frames.specs.{IsRecord, IsWholeRecord, RecordReading, record_bytes}
use Rattle.file_commands.specs.RecordText.{IsRecordText}
use Rattle.file_commands.specs.RecordWalk.{file_reading}
use Rattle.file_commands.specs.Records.{IsOpenRecord, records_of}
use Rattle.file_commands.proofs.ItemReadings.{fewer_left, no_item, item_fed, item_released, some_left, stopped_at_fault, whole_takes}
use Rattle.file_commands.proofs.RecordReadings.{record_alone, records_kind, takes_some}
use Rattle.file_commands.proofs.records.write_each.Goals as goal

pub loop-taken-init : goal.loop-taken-init
loop-taken-init g c = (c.requires, refl, no_item _ _ _ _)

pub loop-taken-smaller-else-is_empty : goal.loop-taken-smaller-else-is_empty
loop-taken-smaller-else-is_empty g c =
    let o = c.loop-taken.invariant.0 in
    let n = c.in-Ok.taken in
    let old = c.loop-taken.rest.now in
    let left : length (take (length old - n) (drop n old)) ≡ 0 → ⊥ = λ e. grind (arith, nat_tests, e, c.is_empty.ensures, c.if-is_empty.false) in
    fewer_left n old (takes_some c.loop-taken.reader.records.limit n c.loop-taken.reader.records.held old o (c.in-Ok.ensures.wanted o.0 o.1) (some_left n old left)) c.in-Ok.ensures.held.0

pub returns-in-Bad : goal.returns-in-Bad
returns-in-Bad g c =
    let i = c.loop-taken.invariant in
    let n = c.in-Ok.taken in
    let new = c.feed.new.self in
    let rest = take (length c.loop-taken.rest.now - n) (drop n c.loop-taken.rest.now) in
    record {
      limit = c.in-Ok.ensures.limit ∙ i.1;
      rest = new.held ++ rest;
      written = item_fed _ n _ c.loop-taken.reader.records.held new.held c.loop-taken.rest.now _ _ _ _ i.2 c.in-Ok.ensures.held.1;
      stopped = stopped_at_fault (records_of c.args.form) (file_reading (record { alloc = c.loop-taken.reader.alloc; records = new; start = c.loop-taken.reader.start })) new.held rest c.stop_at.result (records_kind c.args.form new.limit)
          (λ f is. (c.in-Bad.fault, c.in-Bad.ensures, c.stop_at.ensures f is));
    }

pub loop-taken-smaller : goal.loop-taken-smaller
loop-taken-smaller g c =
    let n = c.in-Ok.taken in
    let r = c.loop-taken.reader.records in
    let one = record_bytes c.in-Whole.one in
    let w = subst (λ (k : ℕ). IsWholeRecord k c.feed.new.self.held one c.in-Whole.rest.now) c.in-Ok.ensures.limit c.in-Whole.ensures in
    let some = whole_takes (records_of c.args.form r.limit) (records_kind c.args.form r.limit) n r.held c.feed.new.self.held c.loop-taken.rest.now one c.in-Whole.rest.now c.loop-taken.invariant.0 c.in-Ok.ensures.held.1 w.parts w.is in
    fewer_left n c.loop-taken.rest.now some c.in-Ok.ensures.held.0

pub loop-taken-preserved : goal.loop-taken-preserved
loop-taken-preserved g c =
    let i = c.loop-taken.invariant in
    let o = i.0 in
    let n = c.in-Ok.taken in
    let r = c.loop-taken.reader.records in
    let new = c.feed.new.self in
    let old = c.loop-taken.rest.now in
    let start = c.loop-taken.reader.start in
    let one = record_bytes c.in-Whole.one in
    let whole = subst (λ (k : ℕ). IsWholeRecord k new.held one c.in-Whole.rest.now) c.in-Ok.ensures.limit c.in-Whole.ensures in
    let alone : one ≡ new.held = record_alone r.limit n r.held new.held old one c.in-Whole.rest.now o (c.in-Ok.ensures.wanted o.0 o.1) c.in-Ok.ensures.held.1 whole in
    let is = subst (λ (k : ℕ). IsRecord k new.held) i.1 (subst (IsRecord r.limit) alone whole.is) in
    let written = c.in_ok-write_record-in-Whole.ensures in
    let next : c.in-Some.behind ≡ start + length new.held = c.in-Some.ensures.1 ∙ ap (λ (x : List ℕ). start + length x) (c.as_bytes.ensures ∙ alone) in
    let none = ap (λ (x : RecordReading). x.held) c.release.ensures in
    let fed = item_fed _ n _ r.held new.held old _ _ _ _ i.2 c.in-Ok.ensures.held.1 in (
      subst (IsOpenRecord c.release.new.self.limit) (sym none) (records_kind c.args.form c.release.new.self.limit).nothing_open,
      ap (λ (x : RecordReading). x.limit) c.release.ensures ∙ c.in-Ok.ensures.limit ∙ i.1,
      item_released _ _ new.held c.release.new.self.held _ written.0 _ start _ _ _ _ fed is (subst (λ (b : List ℕ). IsRecordText c.args.form start b written.0) alone written.1) written.2 next none,
    )
