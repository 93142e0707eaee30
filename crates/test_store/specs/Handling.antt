-- How the server answers requests, and when it may stop.
use Rattle.std.specs.Prelude.{◌≡◌, ◌⊎◌, List, [], ◌∷◌}
use Rattle.bson_doc.specs.{tree_of}
use Rattle.wire_msg.specs.{Content, body_alone}
use Rattle.wire_peer.specs.declared.handlers.HandlerStop.{HandlerStop}
use Rattle.wire_peer.specs.declared.handlers.HandlerStop.TheVariants.{Failed, OutOfMemory}
use Rattle.wire_peer.specs.{Asked}
use Rattle.command_parts.specs.{IsUnanswerable, WantsMemory}
use Rattle.test_store.specs.declared.store.Store.{Store}
use Rattle.test_store.specs.Commands.{reply_to}
use Rattle.test_store.specs.Held.{store_of}

-- The request was answered out of what is held, which then changed as the request says.
abbrev pub Answered : Store → Asked → List Content → Store → Type 0
Answered s a answers s' =
    (answers ≡ body_alone (tree_of (reply_to (store_of s) a.payload).answer) ∷ [])
    × (store_of s' ≡ (reply_to (store_of s) a.payload).held)

-- The server stops as failed only if the answer can't be written. It holds then what it held after
-- the answer. If memory runs out it stops with that, where the answer could be written, or with the
-- documents that it held before.
abbrev pub StopsAt : Store → Asked → HandlerStop → Store → Type 0
StopsAt s a Failed s' =
    IsUnanswerable (tree_of (reply_to (store_of s) a.payload).answer)
    × (store_of s' ≡ (reply_to (store_of s) a.payload).held)
StopsAt s a OutOfMemory s' =
    (WantsMemory (tree_of (reply_to (store_of s) a.payload).answer)
    × (store_of s' ≡ (reply_to (store_of s) a.payload).held))
    ⊎ ((store_of s').collections ≡ (store_of s).collections)
