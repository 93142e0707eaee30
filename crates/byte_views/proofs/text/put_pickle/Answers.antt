use Rattle.std.proofs.Common.{refl}
use Rattle.bson_raw.specs.RawDocument.{document_bytes}
use Rattle.byte_views.specs.Texts.{no_memory}
use Rattle.byte_views.proofs.TextLaws.{told_fault, told_put}
use Rattle.byte_views.proofs.text.put_pickle.Goals as goal

pub returns-in-Err : goal.returns-in-Err
returns-in-Err c = told_fault c.args.bytes.now c.args.room.now _ c.in-Err.fault _ c.none.result c.in-Err.ensures.fault c.of_document.ensures c.none.ensures

pub returns-in-Some : goal.returns-in-Some
returns-in-Some c =
    let found = c.in-Ok.ensures.found in
    told_put c.args.bytes.now (document_bytes c.in-Ok.document) c.args.room.now c.put.new.room c.in-Some.text.items c.as_slice.result.now _ c.put.result found.0 found.1 c.in-Some.ensures c.as_slice.ensures.value c.put.ensures

pub returns-in-None : goal.returns-in-None
returns-in-None c = no_memory c.in-Ok.ensures.found.1 c.no_memory.ensures refl
