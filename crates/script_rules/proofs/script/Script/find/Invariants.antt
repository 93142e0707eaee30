use Rattle.std.proofs.Common.{◌≡◌, drop, option_map}
use Rattle.bson_doc.specs.Bson.{value_of}
use Rattle.script_rules.specs.Meeting.{first_met_as}
use Rattle.script_rules.proofs.Meets.{counted_from}
use Rattle.script_rules.proofs.script.Script.find.Given as goal

-- the index is that in the rules that are left, counted from here
abbrev pub invariant-loop-i : goal.invariant-loop-i
invariant-loop-i l =
    first_met_as l.name (option_map (λ v. value_of v.now) l.asked) l.self.rules.items
    ≡ counted_from l.i (first_met_as l.name (option_map (λ v. value_of v.now) l.asked) (drop l.i l.self.rules.items))
