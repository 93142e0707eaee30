-- What a borrowed query shows.
use Rattle.std.specs.Prelude.{ℕ, List}
use Rattle.wire_query.specs.declared.query.RawQuery.{RawQuery}

-- the bytes of the query
abbrev pub raw_query_bytes : RawQuery → List ℕ
raw_query_bytes q = q.bytes.now
