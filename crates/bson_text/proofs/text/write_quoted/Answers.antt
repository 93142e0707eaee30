use Rattle.std.proofs.Common.{sym, subst}
use Rattle.std.specs.Io.KnownBytes.{Appends}
use Rattle.std.specs.List.{flat_map}
use Rattle.bson_text.specs.Text.{escaped}
use Rattle.text_writer.proofs.Lemmas.{plain_written}
use Rattle.bson_text.proofs.Quoted.{plain_kept, quoted_end}
use Rattle.bson_text.proofs.text.write_quoted.Goals.{in-None+in_ok-write_all-in-None, in-Some+in_ok-write_runs-in-Some}
use Rattle.text_writer.specs.{text_contents}
use Rattle.bson_text.proofs.text.write_quoted.Goals as goal

pub returns : goal.returns
returns g c =
    let opened = text_contents g.W.Write.contents c.write_all.new.self in
    let after = text_contents g.W.Write.contents c.match-first_escaped.out in
    let bytes = c.as_bytes-bytes.result.now in
    let inside : Appends opened after (flat_map escaped bytes) =
    elim c.match-first_escaped.branch [
      | in-None+in_ok-write_all-in-None w ↦ subst (λ x. Appends opened (text_contents g.W.Write.contents x) (flat_map escaped bytes)) (sym w.out-is) (plain_written escaped plain_kept opened _ bytes (sym w.in-None.ensures) w.in_ok-write_all-in-None.ensures.bytes)
      | in-Some+in_ok-write_runs-in-Some w ↦ subst (λ x. Appends opened (text_contents g.W.Write.contents x) (flat_map escaped bytes)) (sym w.out-is) w.in_ok-write_runs-in-Some.ensures
    ] in
    let whole = subst (λ x. Appends opened after (flat_map escaped x)) c.as_bytes-bytes.ensures.value inside in
    quoted_end _ _ _ _ _ c.args.text.now c.in_ok-write_all.ensures.bytes whole c.write_all-2.ensures.bytes
