use Rattle.server_core.proofs.Transcripts.{transcript_of}
use Rattle.server_core.proofs.laws.what_is_written_was_done.Goals as goal

pub returns : goal.returns
returns g c = λ first script ended slots logged next rules text serves.
    let part = transcript_of _ _ _ _ serves in
    record {
      begun = part.begun;
      fresh = part.fresh;
      acts = part.acts;
      run = part.run;
      writes = part.writes;
      owns = λ made windows. c.connections_own_servers.ensures made first part.acts part.begun _ windows part.fresh part.run;
    }
