use Rattle.wire_stream.proofs.Readings.{header_open}
use Rattle.wire_stream.proofs.reader.MsgReader.feed.Goals as goal

pub feed_header-requires : goal.feed_header-requires
feed_header-requires c =
    header_open _ _ _ _ _ c.self.invariant.kept c.self.told c.self.invariant.state c.in-Need.is c.in-None.is
