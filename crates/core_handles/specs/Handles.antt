-- What a handle holds, and what a call does with it.
use Rattle.std.specs.Prelude.{◌≡◌, Option, Some}
use Rattle.wire_peer.specs.{ClientSeen, ServerView}
use Rattle.wire_pool.specs.{PoolSeen}
use Rattle.core_handles.specs.declared.cores.Core.{Core}
use Rattle.core_handles.specs.declared.cores.Core.TheVariants.{Client, Server, Pool}
use Rattle.core_handles.specs.declared.handle.CoreHandle.{CoreHandle}

-- the core that a handle holds, if there is one
abbrev pub held : CoreHandle → Option Core
held h = h.handle.core

-- the call has the answer for no such core, and the handle holds what it held
abbrev pub IsLeft : {W : Type 0} → Option Core → Option Core → W → W → Type 0
IsLeft old new none answer = (answer ≡ none) × (new ≡ old)

-- A call does this with the client of a handle, which holds it afterwards too; or the handle has no
-- client, and the call has the answer for that.
abbrev pub OnClient : {W : Type 0} → Option Core → Option Core → W → W
    → (ClientSeen → ClientSeen → Type 0) → Type 0
OnClient (Some (Client k)) new none answer Does =
    (after : ClientSeen) × (new ≡ Some (Client after)) × Does k after
OnClient old new none answer Does = IsLeft old new none answer

-- A call does this with the server of a handle, which holds it afterwards too; or the handle has no
-- server, and the call has the answer for that.
abbrev pub OnServer : {W : Type 0} → Option Core → Option Core → W → W
    → (ServerView → ServerView → Type 0) → Type 0
OnServer (Some (Server s)) new none answer Does =
    (after : ServerView) × (new ≡ Some (Server after)) × Does s after
OnServer old new none answer Does = IsLeft old new none answer

-- A call does this with the pool of a handle, which holds it afterwards too; or the handle has no
-- pool, and the call has the answer for that.
abbrev pub OnPool : {W : Type 0} → Option Core → Option Core → W → W
    → (PoolSeen → PoolSeen → Type 0) → Type 0
OnPool (Some (Pool p)) new none answer Does =
    (after : PoolSeen) × (new ≡ Some (Pool after)) × Does p after
OnPool old new none answer Does = IsLeft old new none answer
