use Rattle.std.proofs.Common.{◌≡◌, ℕ, ap, arith, length, length-drop, length-take, take}
use Rattle.bson_json_read.proofs.PlaceLemmas.{few_places}
use Rattle.bson_json_read.proofs.text_reader.TextReader.let_go.Goals as goal

pub invariant_of-self : goal.invariant_of-self
invariant_of-self c =
    let i = c.self.inside in
    let few = few_places i.start i.place.line i.place.column (take i.at i.bytes.items) c.self.invariant.lines c.self.invariant.columns in
    let passed : length (take i.at i.bytes.items) ≡ i.at = omega (arith, c.self.invariant.within, length-take i.at i.bytes.items) in
    let place = rw c.deref.ensures.value at c.behind-self-inside.ensures in
    let left = ap length c.remove_front.ensures in
    record {
      within = omega arith;
      offset = omega (arith, left, length-drop i.at i.bytes.items, c.self.invariant.offset, c.self.invariant.within);
      lines = omega (arith, few.0, passed, ap (λ (p : ℕ × ℕ). p.0) place);
      columns = omega (arith, few.1, passed, ap (λ (p : ℕ × ℕ). p.1) place);
      begun = rw c.remove_front.ensures c.self.invariant.begun;
    }
