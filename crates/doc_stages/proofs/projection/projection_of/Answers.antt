use Rattle.std.proofs.Common.{Err, refl}
use Rattle.doc_query.specs.declared.failure.CommandError.TheVariants as errors
use Rattle.doc_stages.specs.Projection.{projection_of}
use Rattle.doc_query.proofs.Lemmas.{no_document}
use Rattle.doc_stages.proofs.projection.projection_of.Goals as goal

pub returns-in_default-value : goal.returns-in_default-value
returns-in_default-value c =
    record {
      ok = λ found shows. tt;
      refused = λ found shows. no_document projection_of (Err errors.Projection) (λ k x. refl) (λ b t. refl) (λ b t. refl) c.args.value c.in-Some.value found c.in-Some.is c.in_default-value.not-Document shows;
    }
