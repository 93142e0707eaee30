use Rattle.std.proofs.Common.{◌≡◌, ◌<◌, ◌+◌, ◌∙◌, ℕ, List, [], ◌∷◌, ◌++◌, length, drop, suc, refl, sym, ap, subst, arith, slice_set, append_assoc}
use Rattle.std.proofs.Math.ListN.{get_or}
use Rattle.std.proofs.Math.Seq.{drop-cons, set-append_seam}
use Rattle.std.proofs.lemmas.List.{append-nil, drop_all, get_or-set_same, length-append}
use Rattle.byte_views.specs.declared.element.Element.{Element}
use Rattle.byte_views.specs.declared.iter.ElementIter.{ElementIter}
use Rattle.byte_views.specs.Filling.{nothing_read, one_more, is_full, has_room}
use Rattle.byte_views.specs.Iters.{IsStep, moved}
use Rattle.byte_views.proofs.iter.walk_next_elements.Goals as goal

-- the room, with an element written behind those that were read
written : (es old room : List Element) (count : ℕ) (e : Element) → count ≡ length es → room ≡ es ++ drop (length es) old → length es < length old → slice_set room count e ≡ es ++ e ∷ drop (length es + 1) old
written es old room count e is held lt =
    let next : suc (length es) ≡ length es + 1 = omega arith in
    ap (λ (x : List Element). slice_set x count e) (held ∙ ap (λ (x : List Element). es ++ x) (drop-cons old (length es) e lt ∙ ap (λ (n : ℕ). get_or old (length es) e ∷ drop n old) next))
    ∙ (ap (λ (n : ℕ). slice_set (es ++ get_or old (length es) e ∷ drop (length es + 1) old) n e) is
    ∙ set-append_seam es (get_or old (length es) e) (drop (length es + 1) old) e)

-- the element at the place that was written
read_back : (room : List Element) (count : ℕ) (e d : Element) → count < length room → (get_or (slice_set room count e) count d).kind ≡ e.kind
read_back room count e d lt = ap (λ (x : Element). x.kind) (get_or-set_same room count e d lt)

pub loop-count-init : goal.loop-count-init
loop-count-init c = record { so_far = ([], nothing_read refl, refl, refl); same = refl; within = omega arith }

pub returns-then-room-count-eq0-clause-fills : goal.returns-then-room-count-eq0-clause-fills
returns-then-room-count-eq0-clause-fills c =
    let i = c.loop-count.invariant in
    let es = i.so_far.0 in
    let e = c.step-iter.new.element in
    let step : IsStep c.args.bytes.now (moved c.args.iter.now c.loop-count.iter.at) e c.step-iter.result = subst (λ (s : ElementIter). IsStep c.args.bytes.now s e c.step-iter.result) i.same c.step-iter.ensures in
    let lt : length es < length c.args.room.now = omega arith in
    has_room es c.loop-count.iter.at e i.so_far.1 step (sym (read_back c.loop-count.room c.loop-count.count e _ (omega arith)) ∙ c.if-room-count-eq0.true) lt (written es c.args.room.now c.loop-count.room c.loop-count.count e i.so_far.2 i.so_far.3 lt) i.so_far.2

pub loop-count-preserved : goal.loop-count-preserved
loop-count-preserved c =
    let i = c.loop-count.invariant in
    let es = i.so_far.0 in
    let e = c.step-iter.new.element in
    let step : IsStep c.args.bytes.now (moved c.args.iter.now c.loop-count.iter.at) e c.step-iter.result = subst (λ (s : ElementIter). IsStep c.args.bytes.now s e c.step-iter.result) i.same c.step-iter.ensures in
    let lt : length es < length c.args.room.now = omega arith in
    let more = length-append es (e ∷ []) in
    record {
      so_far = (
        es ++ e ∷ [],
        one_more es c.loop-count.iter.at e i.so_far.1 step (λ none. c.if-room-count-eq0.false (read_back c.loop-count.room c.loop-count.count e _ (omega arith) ∙ none)),
        omega (arith, i.so_far.2, more),
        written es c.args.room.now c.loop-count.room c.loop-count.count e i.so_far.2 i.so_far.3 lt
            ∙ (sym (append_assoc es (e ∷ []) (drop (length es + 1) c.args.room.now)) ∙ ap (λ (n : ℕ). (es ++ e ∷ []) ++ drop n c.args.room.now) (sym more)),
      );
      same = ap (λ (s : ElementIter). moved s c.step-iter.result) i.same;
      within = omega arith;
    }

pub returns-clause-fills : goal.returns-clause-fills
returns-clause-fills c =
    let i = c.loop-count.invariant in
    let es = i.so_far.0 in
    let whole : length es ≡ length c.args.room.now = omega (arith, ap length i.so_far.3, length-append es (drop (length es) c.args.room.now)) in
    let none = drop_all (length es) c.args.room.now (omega (arith, whole)) in
    is_full es i.so_far.1 (i.so_far.3 ∙ (ap (λ (x : List Element). es ++ x) none ∙ append-nil es)) whole i.so_far.2
