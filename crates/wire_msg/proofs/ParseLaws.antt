-- What a reader of whole messages tells, by the message or the fault that it returns.
use Rattle.std.proofs.Common.{◌≡◌, ℕ, ◌≤◌, List, length, Result, Ok, Err, refl, ap}
use Rattle.std.specs.Prelude.{IfErr, IfOk, IsErrOf, IsOk, MatchResult}
use Rattle.bson_elem.specs.Spelling.{IsBytes}
use Rattle.wire_msg.specs.declared.fault.MsgFault.{MsgFault}
use Rattle.wire_msg.specs.declared.msg.RawMsg.{RawMsg}
use Rattle.wire_msg.specs.Faults.{FaultMsg}
use Rattle.wire_msg.specs.RawMsg.{msg_bytes}
use Rattle.wire_msg.specs.Spelling.{IsMessage}
use Rattle.wire_msg.proofs.FaultOffsets.{fault_offset}
use Rattle.wire_msg.proofs.MsgAnswers.{no_msg_fault, one_msg_fault}

pub record Parsed (limit : ℕ) (bytes : List ℕ) (r : Result RawMsg MsgFault) : Type 0 where
  pub found : IfOk r (λ m. (msg_bytes m ≡ bytes) × IsMessage limit bytes)
  pub only : IsMessage limit bytes → IsOk r
  pub fault : IfErr r (λ f. FaultMsg bytes limit f)
  pub exact : (f : MsgFault) → FaultMsg bytes limit f → IsErrOf r f
  pub inside : IfErr r (λ f. f.at ≤ length bytes)

pub parsed : (limit : ℕ) (bytes : List ℕ) (r : Result RawMsg MsgFault) → IsBytes bytes → MatchResult r (λ m. (msg_bytes m ≡ bytes) × IsMessage limit bytes) (λ f. FaultMsg bytes limit f) → Parsed limit bytes r
parsed limit bytes (Ok m) fits is = record {
  found = is;
  only = λ _. refl;
  fault = tt;
  exact = λ f fault. absurd (no_msg_fault limit is.1.1.0 bytes f fits is.1.1.1 is.1.0 fault);
  inside = tt;
}
parsed limit bytes (Err f) fits is = record {
  found = tt;
  only = λ m. absurd (no_msg_fault limit m.1.0 bytes f fits m.1.1 m.0 is);
  fault = is;
  exact = λ g fault. ap Err (one_msg_fault limit bytes f g fits is fault);
  inside = fault_offset bytes limit f fits is;
}
