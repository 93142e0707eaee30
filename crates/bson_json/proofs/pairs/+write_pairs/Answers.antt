use Rattle.std.proofs.Common.{◌++◌, ◌∙◌, List, ℕ, sym, subst, true}
use Rattle.std.proofs.KnownBytes.{Appends-trans}
use Rattle.bson_json.specs.Json.{IsPairsJson, closing}
use Rattle.bson_json.proofs.Walking.{regrouped}
use Rattle.bson_json.proofs.pairs.+write_pairs.Goals as goal

pub loop-held-preserved : goal.loop-held-preserved
loop-held-preserved g t c = (
  c.write_to_held.ensures.same ∙ c.loop-held.invariant.0,
  λ whole spelled.
      let left = c.loop-held.invariant.1 whole spelled in
      let stop = rw c.in-Some.is at (c.in_ok-held.ensures.pairs left.0 left.2) in
      let inside = c.in_ok-write_pairs.ensures stop.inner stop.spelled in
      let closed : List ℕ = closing c.in-Some.held.kind in (
        stop.others,
        left.1 ++ (stop.text ++ (inside.0 ++ closed)),
        stop.left,
        Appends-trans _ _ _ left.1 (stop.text ++ (inside.0 ++ closed)) left.3
            (Appends-trans _ _ _ stop.text (inside.0 ++ closed) stop.written
            (Appends-trans _ _ _ inside.0 closed inside.2 c.in_ok-write_closing.ensures)),
        λ rest others.
            subst (IsPairsJson c.args.mode c.args.holder true whole) (sym (regrouped left.1 stop.text inside.0 closed rest))
            (left.4 (stop.text ++ (inside.0 ++ (closed ++ rest))) (stop.whole inside.0 rest inside.1 others)),
      ),
)
