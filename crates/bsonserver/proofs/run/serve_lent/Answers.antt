use Rattle.std.proofs.Common.{[], ◌∙◌, ap}
use Rattle.std.specs.Prelude.{min}
use Rattle.std.proofs.KnownBytes.{Appends-trans}
use Rattle.bsonserver.proofs.Shows.{enough_of, min_under}
use Rattle.bsonserver.proofs.run.serve_lent.Goals as goal

pub returns : goal.returns
returns g c = λ rules replies begun.
    let told = c.in_ok-sources.ensures in
    let went = c.in_ok-serve_shown.ensures.served begun.first replies 0 [] begun.serving in
    record {
      first = begun.first;
      script = begun.script;
      nothing = begun.nothing;
      connections = c.serve_shown.new.serving;
      ended = went.0;
      text = went.1;
      serving = went.2;
      transcript = c.what_is_written_was_done.ensures begun.first replies went.0 _ _ _ _ went.1 went.2.serves;
      enough = enough_of c.args.choice went.0 c.serve_shown.new.serving.ended went.2.counts c.in_ok-serve_shown.ensures.enough;
      counted = c.told_count.ensures.least
          ∙ (ap (λ e. min e c.args.choice.connections) (c.ended.ensures ∙ went.2.counts) ∙ min_under went.0 c.args.choice.connections c.told_count.ensures.range);
      local = told.0;
      written = Appends-trans _ _ _ _ _ told.1 went.3;
    }
