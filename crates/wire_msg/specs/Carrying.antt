-- What a borrowed payload carries, by its bytes.
use Rattle.bson_raw.specs.{document_bytes}
use Rattle.wire_msg.specs.declared.payloads.Payload.{Payload}
use Rattle.wire_msg.specs.Messages.{Content}
use Rattle.wire_msg.specs.Payload.{AreParts}

-- the payload carries this content
abbrev pub Carries : Payload → Content → Type 0
Carries p c = AreParts p.before.now (document_bytes p.body) p.after.now c
