-- The records of calls: what a new one is, and what a part adds.
use Rattle.std.specs.Prelude.{◌≡◌, List, [], ◌∷◌, ◌++◌, map}
use Rattle.std.proofs.Common.{ap, refl}
use Rattle.wire_msg.specs.declared.payload_buf.PayloadBuf.{PayloadBuf}
use Rattle.wire_peer.specs.{buf_content}

-- one more part is one more content
pub contents_push : (parts : List PayloadBuf) (part : PayloadBuf) → map buf_content (parts ++ part ∷ []) ≡ map buf_content parts ++ buf_content part ∷ []
contents_push [] part = refl
contents_push (p ∷ parts) part = ap (λ xs. buf_content p ∷ xs) (contents_push parts part)
