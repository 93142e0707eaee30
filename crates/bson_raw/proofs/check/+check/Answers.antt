use Rattle.std.proofs.Common.{eqb, get_or, ◌≡◌, ℕ, ◌+◌, ◌-◌, ◌<◌, Bool, ◌&&◌, List, Option, Some, Err, ap, sym, subst, ◌∙◌, length, drop, arith, length-take, length-drop}
use Rattle.std.specs.Prelude.{slice_range}
use Rattle.std.proofs.lemmas.Result.{err_from_is_err_and}
use Rattle.bson_elem.proofs.Lemmas.{joined}
use Rattle.bson_elem.specs.declared.fault.BsonFault.{BsonFault}
use Rattle.bson_elem.specs.Checks.{element_at}
use Rattle.bson_elem.specs.Faults.{Before, FaultIn}
use Rattle.bson_raw.specs.Naming.{is_array_kind}
use Rattle.bson_raw.specs.Checks.{IsTree}
use Rattle.bson_raw.proofs.Naming.{array_byte, named_more, counted_more}
use Rattle.bson_raw.proofs.Steps.{IsHead, is_head, end_failed, kind_failed, name_failed, value_failed, IsPassed, passed, Passes, Inside, inside_of, leaf_passed, inner_passed, fault_here, fault_inside, fault_after, Before-joined, joined_offset}
use Rattle.bson_raw.proofs.check.+check.Goals as goal
use Rattle.bson_raw.proofs.check.+check.Goals.{check_pair-In-Ok, check_pair-In_ok-document, check_pair-then-canonical, check_pair-else-canonical}

pub check_elements-returns-in_err-offset-clause-checked : goal.check_elements-returns-in_err-offset-clause-checked
check_elements-returns-in_err-offset-clause-checked t c =
    let p = err_from_is_err_and c.from_residual.result c.from_residual.ensures.1 in
    let i = c.loop-offset.invariant in
    rw (p.1, p.2) (fault_after (c.args.start + 4) (slice_range c.args.bytes.now (c.args.start + 4) c.args.end) i.3.0 i.3.1 i.3.2 c.in_err-offset.ensures.checked)

pub check_elements-loop-offset-preserved : goal.check_elements-loop-offset-preserved
check_elements-loop-offset-preserved t c =
    let i = c.loop-offset.invariant in
    let n = c.in_ok-offset.ensures.checked in
    let before : Before c.args.depth (slice_range c.args.bytes.now c.loop-offset.offset c.args.end) n.2.pair (slice_range c.args.bytes.now c.in_ok-offset.field-0-0 c.args.end) = record { parts = n.2.parts; fits = n.2.fits } in (
      omega (arith, n.0, i.0),
      n.1,
      omega (arith, n.0, i.2),
      (
        joined i.3.0 n.2.pair,
        Before-joined c.args.depth (slice_range c.args.bytes.now (c.args.start + 4) c.args.end) (slice_range c.args.bytes.now c.loop-offset.offset c.args.end) (slice_range c.args.bytes.now c.in_ok-offset.field-0-0 c.args.end) i.3.0 n.2.pair i.3.1 before,
        omega (arith, joined_offset (c.args.start + 4) i.3.0 n.2.pair, i.3.2, n.2.size, n.0),
        counted_more c.loop-offset.index n.2.name i.3.0 n.2.pair i.3.3 n.2.is_one,
        named_more c.args.in_array c.loop-offset.canonical c.in_ok-offset.field-0-1 c.loop-offset.index i.3.0 n.2.pair i.3.4 i.3.3 n.2.named,
      ),
    )

-- an element that can't be read gives the container the same fault
fault_of : (bytes : List ℕ) (depth start at end : ℕ) (f : BsonFault) → at < end → end < length bytes → element_at depth start at (slice_range bytes at end) ≡ Err f → FaultIn depth start at (slice_range bytes at end) f
fault_of bytes depth start at end f lt whole is =
    fault_here depth start at (slice_range bytes at end) f (omega (arith, length-take (end - at) (drop at bytes), length-drop at bytes, lt, whole)) is

pub check_pair-returns-then-byte-eq0-clause-checked : goal.check_pair-returns-then-byte-eq0-clause-checked
check_pair-returns-then-byte-eq0-clause-checked t c =
    fault_of c.args.bytes.now c.args.depth c.args.start c.args.offset c.args.end _ c.requires.inside c.requires.whole (end_failed c.args.bytes.now c.args.depth c.args.start c.args.offset c.args.end c.requires.inside c.requires.whole c.if-byte-eq0.true ∙ ap Err (sym c.fault_at.ensures))

pub check_pair-returns-in_default-clause-checked : goal.check_pair-returns-in_default-clause-checked
check_pair-returns-in_default-clause-checked t c =
    fault_of c.args.bytes.now c.args.depth c.args.start c.args.offset c.args.end _ c.requires.inside c.requires.whole (kind_failed c.args.bytes.now c.args.depth c.args.start c.args.offset c.args.end c.requires.inside c.requires.whole c.if-byte-eq0.false (sym c.in_default.ensures) ∙ ap Err (sym c.fault_at-in_default.ensures))

pub check_pair-returns-in-Err-clause-checked : goal.check_pair-returns-in-Err-clause-checked
check_pair-returns-in-Err-clause-checked t c =
    fault_of c.args.bytes.now c.args.depth c.args.start c.args.offset c.args.end _ c.requires.inside c.requires.whole
    (name_failed c.args.bytes.now c.args.depth c.args.start c.args.offset c.args.end c.args.in_array c.args.index _ _ c.requires.inside c.requires.whole c.if-byte-eq0.false (sym c.in-Some.ensures) c.in-Err.ensures.read ∙ ap Err (sym c.fault_at-in-Err.ensures))

-- the kind and the name that were read
headed : {t : ℕ} (c : check_pair-In-Ok t) → IsHead c.args.bytes.now c.args.offset c.args.end c.args.in_array c.args.index c.in-Ok.read.0 c.in-Some.kind c.in-Ok.read.1.now
headed c = is_head c.args.bytes.now c.args.offset c.args.end c.args.in_array c.args.index c.in-Ok.read.0 c.in-Some.kind c.in-Ok.read.1.now (λ i. (c.type_inv.bytes i).fits) c.requires.inside c.requires.whole c.if-byte-eq0.false (sym c.in-Some.ensures) c.in-Ok.ensures.read

pub check_pair-returns-in_err-document-clause-checked : goal.check_pair-returns-in_err-document-clause-checked
check_pair-returns-in_err-document-clause-checked t c =
    let p = err_from_is_err_and c.from_residual.result c.from_residual.ensures.1 in
    let h = headed (goal.at.check_pair-returns-in_err-document-clause-checked t c).In-Ok in
    rw (p.1, p.2) (fault_of c.args.bytes.now c.args.depth c.args.start c.args.offset c.args.end _ c.requires.inside c.requires.whole (value_failed c.args.bytes.now c.args.depth c.args.start c.args.offset c.args.end c.args.in_array c.args.index c.in-Ok.read.0 c.in-Some.kind c.in-Ok.read.1.now _ c.requires.inside c.requires.whole h c.in_err-document.ensures.read))

-- the element that the code went over
abbrev Reaches : {t : ℕ} → check_pair-In_ok-document t → Option ℕ → Type 0
Reaches c document = IsPassed c.args.bytes.now c.args.depth c.args.start c.args.offset c.args.end c.args.in_array c.args.index c.in-Ok.read.0 c.in-Some.kind document (c.args.end - length c.in_ok-document.rest.now)

reached : {t : ℕ} (c : check_pair-In_ok-document t) → Reaches c c.in_ok-document.document
reached c =
    let h = is_head c.args.bytes.now c.args.offset c.args.end c.args.in_array c.args.index c.in-Ok.read.0 c.in-Some.kind c.in-Ok.read.1.now (λ i. (c.type_inv.bytes i).fits) c.requires.inside c.requires.whole c.if-byte-eq0.false (sym c.in-Some.ensures) c.in-Ok.ensures.read in
    passed c.args.bytes.now c.args.depth c.args.start c.args.offset c.args.end c.args.in_array c.args.index c.in-Ok.read.0 c.in-Some.kind c.in-Ok.read.1.now c.in_ok-document.document c.in_ok-document.rest.now (λ i. (c.type_inv.bytes i).fits) c.requires.inside c.requires.whole h c.in_ok-document.ensures.read

-- the same where there is a document in it
opened : {t : ℕ} (c : check_pair-In_ok-document t) (q : ℕ) → c.in_ok-document.document ≡ Some q → Reaches c (Some q)
opened c q is = subst (Reaches c) is (reached c)

inside : {t : ℕ} (c : check_pair-In_ok-document t) (q : ℕ) (is : c.in_ok-document.document ≡ Some q) → Inside c.args.bytes.now c.args.depth c.args.offset (c.args.end - length c.in_ok-document.rest.now) q (opened c q is).element
inside c q is = inside_of c.args.bytes.now c.args.depth c.args.start c.args.offset c.args.end c.args.in_array c.args.index c.in-Ok.read.0 c.in-Some.kind q (c.args.end - length c.in_ok-document.rest.now) (opened c q is) (λ i. (c.type_inv.bytes i).fits) c.requires.inside c.requires.whole

-- what is known of the names before its value
both : {t : ℕ} (c : check_pair-In_ok-document t) → c.if-canonical.canonical ≡ (c.args.canonical && c.in-Ok.read.0)
both c = elim c.if-canonical.branch [
  | check_pair-then-canonical w ↦ w.canonical-is ∙ sym (ap (λ (b : Bool). b && c.in-Ok.read.0) w.if-canonical.true)
  | check_pair-else-canonical w ↦ w.canonical-is ∙ w.if-canonical.false ∙ sym (ap (λ (b : Bool). b && c.in-Ok.read.0) w.if-canonical.false)
]

pub check_pair-overflow_sub-next : goal.check_pair-overflow_sub-next
check_pair-overflow_sub-next t c = let x = reached (goal.at.check_pair-overflow_sub-next t c).In_ok-document in omega (arith, x.low)

pub check_pair-overflow_sub-next-in-Some-document : goal.check_pair-overflow_sub-next-in-Some-document
check_pair-overflow_sub-next-in-Some-document t c = let x = reached (goal.at.check_pair-overflow_sub-next-in-Some-document t c).In_ok-document in omega (arith, x.low)

pub check_pair-check-requires : goal.check_pair-check-requires
check_pair-check-requires t c =
    let at = (goal.at.check_pair-check-requires t c).In_ok-document in
    let x = opened at c.in-Some-document.inner c.in-Some-document.is in
    let k = inside at c.in-Some-document.inner c.in-Some-document.is in
    (omega (arith, k.0, c.decreases), (omega (arith, k.2), (omega (arith, x.high, c.requires.whole), omega (arith, k.0))))

pub check_pair-returns-in_err-within-clause-checked : goal.check_pair-returns-in_err-within-clause-checked
check_pair-returns-in_err-within-clause-checked t c =
    let p = err_from_is_err_and c.from_residual-in_err-within.result c.from_residual-in_err-within.ensures.1 in
    let at = (goal.at.check_pair-returns-in_err-within-clause-checked t c).In_ok-document in
    let x = opened at c.in-Some-document.inner c.in-Some-document.is in
    let k = inside at c.in-Some-document.inner c.in-Some-document.is in
    rw (p.1, p.2) (fault_inside c.args.depth c.args.start c.args.offset (slice_range c.args.bytes.now c.args.offset c.args.end) x.element c.in-Some-document.inner k.3.0 _ _ x.is_read k.3.1 c.in_err-within.ensures.checked)

-- a pair whose value holds a document
abbrev Leaves : {t : ℕ} → check_pair-In_ok-document t → Bool → Type 0
Leaves c canonical = Passes c.args.bytes.now c.args.depth c.args.offset c.args.end c.args.in_array c.args.index c.args.canonical (c.args.end - length c.in_ok-document.rest.now) canonical

holds : {t : ℕ} (c : check_pair-In_ok-document t) (q : ℕ) (is_array within : Bool) → c.in_ok-document.document ≡ Some q → is_array ≡ is_array_kind c.in-Some.kind
    → IsTree (c.args.depth + 1) is_array (slice_range c.args.bytes.now (q + 4) (c.args.end - length c.in_ok-document.rest.now - 1)) within → Leaves c (c.if-canonical.canonical && within)
holds c q is_array within is kind_is tree =
    inner_passed c.args.bytes.now c.args.depth c.args.start c.args.offset c.args.end c.args.in_array c.args.index c.in-Ok.read.0 c.in-Some.kind q (c.args.end - length c.in_ok-document.rest.now) c.args.canonical c.if-canonical.canonical is_array within
    (opened c q is) (λ i. (c.type_inv.bytes i).fits) c.requires.inside c.requires.whole (both c) kind_is tree

pub check_pair-returns-then-canonical-2-clause-checked : goal.check_pair-returns-then-canonical-2-clause-checked
check_pair-returns-then-canonical-2-clause-checked t c =
    let at = (goal.at.check_pair-returns-then-canonical-2-clause-checked t c).In_ok-document in
    let is_array : Bool = eqb (get_or c.args.bytes.now c.args.offset 0) c.byte.result in
    let kind_is : is_array ≡ is_array_kind c.in-Some.kind = ap (eqb (get_or c.args.bytes.now c.args.offset 0)) c.byte.ensures ∙ array_byte (get_or c.args.bytes.now c.args.offset 0) c.in-Some.kind (sym c.in-Some.ensures) in
    subst (Leaves at) (ap (λ (b : Bool). b && c.in_ok-within.within) c.if-canonical-2.true) (holds at c.in-Some-document.inner is_array c.in_ok-within.within c.in-Some-document.is kind_is c.in_ok-within.ensures.checked)

pub check_pair-returns-else-canonical-2-clause-checked : goal.check_pair-returns-else-canonical-2-clause-checked
check_pair-returns-else-canonical-2-clause-checked t c =
    let at = (goal.at.check_pair-returns-else-canonical-2-clause-checked t c).In_ok-document in
    let is_array : Bool = eqb (get_or c.args.bytes.now c.args.offset 0) c.byte.result in
    let kind_is : is_array ≡ is_array_kind c.in-Some.kind = ap (eqb (get_or c.args.bytes.now c.args.offset 0)) c.byte.ensures ∙ array_byte (get_or c.args.bytes.now c.args.offset 0) c.in-Some.kind (sym c.in-Some.ensures) in
    subst (Leaves at) (ap (λ (b : Bool). b && c.in_ok-within.within) c.if-canonical-2.false ∙ sym c.if-canonical-2.false) (holds at c.in-Some-document.inner is_array c.in_ok-within.within c.in-Some-document.is kind_is c.in_ok-within.ensures.checked)

pub check_pair-returns-clause-checked : goal.check_pair-returns-clause-checked
check_pair-returns-clause-checked t c =
    let at = (goal.at.check_pair-returns-clause-checked t c).In_ok-document in
    leaf_passed c.args.bytes.now c.args.depth c.args.start c.args.offset c.args.end c.args.in_array c.args.index c.in-Ok.read.0 c.in-Some.kind (c.args.end - length c.in_ok-document.rest.now) c.args.canonical c.if-canonical.canonical
    (subst (Reaches at) c.in_default-document.is (reached at)) (λ i. (c.type_inv.bytes i).fits) c.requires.inside c.requires.whole (both at)
