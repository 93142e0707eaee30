use Rattle.std.proofs.Common.{rules, ◌≡◌, ◌≤◌, ◌+◌, ◌++◌, ◌∙◌, List, ℕ, ap, None, arith, length}
use Rattle.std.proofs.KnownBytes.{Appends-trans}
use Rattle.bson_elem.specs.Spelling.{elements}
use Rattle.bson_elem.specs.Trees.{Tree}
use Rattle.bson_raw.specs.Pairs.{with_first}
use Rattle.bson_raw.specs.RawDocument.{document_bytes}
use Rattle.bson_raw.specs.RawIter.{pairs_bound, walked_len}
use Rattle.bson_text.specs.Dump.{element_line}
use Rattle.bson_text.specs.DumpValues.{held_tree, inner_end, lines_to, offset_before, offset_front, value_text}
use Rattle.bson_text.proofs.Ends.{ends_before}
use Rattle.bson_text.proofs.Lines.{lines-held, lines-leaf, lines_so_far, within}
use Rattle.bson_text.proofs.dump.write_to_held.Goals as goal

pub before_end-requires : goal.before_end-requires
before_end-requires g c =
    let less : c.loop-name.left ≤ walked_len c.args.pairs.now = omega arith in
    within c.args.end c.loop-name.left (walked_len c.args.pairs.now) less c.requires

pub loop-name-preserved : goal.loop-name-preserved
loop-name-preserved g c =
    let fewer : pairs_bound c.next_inlined.new.self ≤ pairs_bound c.args.pairs.now = search rules in
    let less : c.loop-name.left ≤ walked_len c.args.pairs.now = omega arith in
    let room = within c.args.end c.loop-name.left (walked_len c.args.pairs.now) less c.requires in (
      c.in-Some.ensures.steps.0 ∙ c.loop-name.invariant.0,
      fewer,
      c.bytes_left-left-in-Some.ensures.bound,
      λ whole spelled.
          let left = c.loop-name.invariant.3 whole spelled in
          let pair = c.in-Some.ensures.steps.1.0 left.0 left.2 in
          let v = pair.tree_value in
          let name : List ℕ = c.in-Some.name.now in
          let front : List ℕ = offset_front (offset_before c.args.end c.loop-name.left) in
          let line : List ℕ = element_line c.args.deep name (value_text v) in
          let rest : List ℕ = lines_to c.args.end c.args.deep pair.others in
          let none : held_tree v ≡ None = c.in_default-held_document.ensures.tree v pair.shown in
          let size : c.loop-name.left ≡ length (elements (with_first name v pair.others)) + 1 = left.3 ∙ ap (λ (x : Tree). length (elements x) + 1) pair.is_first in (
            pair.others,
            left.1 ++ (front ++ line),
            pair.left,
            c.bytes_left-left-in-Some.ensures.pairs pair.others pair.left,
            Appends-trans _ _ _ left.1 (front ++ line) left.4
                (Appends-trans _ _ _ front line (rw c.before_end.ensures at c.in_ok-write_offset.ensures) (c.in_ok-write_line.ensures v pair.shown)),
            lines_so_far (lines_to c.args.end c.args.deep whole) left.1 (front ++ line) rest (lines_to c.args.end c.args.deep left.0) left.5
                (ap (lines_to c.args.end c.args.deep) pair.is_first ∙ lines-leaf c.args.end c.loop-name.left c.args.deep name v pair.others none size room),
          ),
    )

pub returns-in-Some-held_document-clause-lines : goal.returns-in-Some-held_document-clause-lines
returns-in-Some-held_document-clause-lines g c =
    let less : c.loop-name.left ≤ walked_len c.args.pairs.now = omega arith in
    let room = within c.args.end c.loop-name.left (walked_len c.args.pairs.now) less c.requires in
    λ whole spelled.
    let left = c.loop-name.invariant.3 whole spelled in
    let pair = c.in-Some.ensures.steps.1.0 left.0 left.2 in
    let v = pair.tree_value in
    let name : List ℕ = c.in-Some.name.now in
    let front : List ℕ = offset_front (offset_before c.args.end c.loop-name.left) in
    let line : List ℕ = element_line c.args.deep name (value_text v) in
    let held = c.in-Some-held_document.ensures.tree v pair.shown in
    let size : c.loop-name.left ≡ length (elements (with_first name v pair.others)) + 1 = left.3 ∙ ap (λ (x : Tree). length (elements x) + 1) pair.is_first in
    let rest : List ℕ = lines_to (inner_end c.args.end pair.others) (c.args.deep + 1) held.0 ++ lines_to c.args.end c.args.deep pair.others in
    record {
      inner = held.0;
      others = pair.others;
      text = left.1 ++ (front ++ line);
      spelled = held.2;
      left = pair.left;
      written = Appends-trans _ _ _ left.1 (front ++ line) left.4 (Appends-trans _ _ _ front line (rw c.before_end.ensures at c.in_ok-write_offset.ensures) (c.in_ok-write_line.ensures v pair.shown));
      lines = lines_so_far (lines_to c.args.end c.args.deep whole) left.1 (front ++ line) rest (lines_to c.args.end c.args.deep left.0) left.5
          (ap (lines_to c.args.end c.args.deep) pair.is_first ∙ lines-held c.args.end c.loop-name.left c.args.deep name v held.0 pair.others held.1 size room);
    }

pub returns-in-Some-held_document-clause-inside : goal.returns-in-Some-held_document-clause-inside
returns-in-Some-held_document-clause-inside g c =
    let s = c.loop-name.pairs in
    let after = c.next_inlined.new.self in
    let d = c.in-Some-held_document.held in
    let inside = ends_before s.bytes.now after.bytes.now (document_bytes d) s.offset after.offset s.left c.in-Some.ensures.steps.0
    (λ t left.
    let pair = c.in-Some.ensures.steps.1.0 t left in
    (c.in-Some.name.now, pair.tree_value, pair.others, pair.is_first, pair.left, c.in-Some-held_document.ensures.tree pair.tree_value pair.shown)) in
    omega arith
