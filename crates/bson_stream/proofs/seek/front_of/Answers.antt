use Rattle.std.proofs.Common.{refl}
use Rattle.bson_stream.proofs.Salvages.{long_front}
use Rattle.bson_stream.proofs.seek.front_of.Goals as goal

pub returns-in-TooLong : goal.returns-in-TooLong
returns-in-TooLong c = long_front c.args.limit c.args.start c.args.ended c.args.bytes.now (c.in-TooLong.ensures.long refl)
