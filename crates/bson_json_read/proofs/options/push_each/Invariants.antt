use Rattle.std.proofs.Common.{◌≡◌, ◌==◌, ◌++◌, take}
use Rattle.std.specs.List.{filter}
use Rattle.std.specs.String.{string_bytes}
use Rattle.bson_json_read.proofs.options.push_each.Given as goal

abbrev pub invariant-loop-c : goal.invariant-loop-c
invariant-loop-c l = string_bytes l.ordered ≡ string_bytes l.initial.ordered ++ filter (λ c. c == l.code) (take l.c-index l.options)
