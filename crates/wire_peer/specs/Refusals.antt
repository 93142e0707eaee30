-- Why a request got no replies, by what was refused.
use Rattle.wire_peer.specs.declared.log.AskRefusal.{AskRefusal}
use Rattle.wire_peer.specs.declared.log.AskRefusal.TheVariants as asks
use Rattle.wire_peer.specs.declared.log.NoReplies.{NoReplies}
use Rattle.wire_peer.specs.declared.log.NoReplies.TheVariants.{NotAsked, Stopped, TooLarge}
use Rattle.wire_peer.specs.declared.log.NoReplies.TheVariants.{NoMemory}
use Rattle.wire_peer.specs.declared.reply_buf.ReplyRefusal.{ReplyRefusal}
use Rattle.wire_peer.specs.declared.reply_buf.ReplyRefusal.TheVariants as pushes

abbrev pub of_ask : AskRefusal → NoReplies
of_ask asks.NotAsked = NotAsked
of_ask (asks.Stopped stop) = Stopped stop

abbrev pub of_push : ReplyRefusal → NoReplies
of_push pushes.TooLarge = TooLarge
of_push pushes.OutOfMemory = NoMemory
