use Rattle.std.proofs.Common.{◌≡◌, ◌∙◌, ◌+◌, ◌-◌, ℕ, ap, arith, drop, length, length-drop, sym, take}
use Rattle.std.proofs.lemmas.List.{take_rest}
use Rattle.bson_json_read.specs.Places.{place_behind}
use Rattle.bson_json_read.proofs.PlaceLemmas.{in_line, next_line}
use Rattle.bson_json_read.proofs.place.Place.behind.Goals as goal

pub loop-len-preserved : goal.loop-len-preserved
loop-len-preserved c =
    let stop = c.in-Some.ensures in
    let rest = c.loop-len.rest.now in
    let behind = c.in-Some.len + 1 in
    let tail = take_rest rest behind in
    let next = next_line c.loop-len.place.line c.loop-len.place.column c.in-Some.len rest stop.0.high stop.0.before stop.1 in
    let size : length (take (length rest - behind) (drop behind rest)) ≡ length rest - behind = ap length tail ∙ length-drop behind rest in (
      ap (place_behind (c.loop-len.place.line + 1) 1) tail ∙ sym next ∙ c.loop-len.invariant.0,
      omega (arith, size, stop.0.high, c.loop-len.invariant.1),
      omega (arith, size, stop.0.high, c.loop-len.invariant.1),
    )

pub returns : goal.returns
returns c =
    ap (λ (k : ℕ). (c.loop-len.place.line, c.loop-len.place.column + k)) c.characters.ensures.count
    ∙ sym (in_line c.loop-len.place.line c.loop-len.place.column c.loop-len.rest.now c.in_default.ensures) ∙ c.loop-len.invariant.0
