-- Which fault of a text an audit tells.
use Rattle.std.proofs.Common.{◌≡◌, ◌∙◌, sym, refl, Ok, Err, Result}
use Rattle.std.specs.Result.{IsErrAnd}
use Rattle.ufs_script.specs.declared.fault.ScriptFault.{ScriptFault}
use Rattle.ufs_audit.specs.Ends.{fault_of}
use Rattle.ufs_audit.specs.declared.fault.TextFault.{TextFault}
use Rattle.ufs_audit.specs.declared.fault.TextFault.TheVariants as text_fault
use Rattle.ufs_audit.specs.declared.fault.AuditFault.{AuditFault}
use Rattle.ufs_audit.specs.declared.fault.AuditFault.TheVariants as fault
use Rattle.ufs_audit.specs.declared.verdict.Verdict.{Verdict}

-- the fault that is told is the one that the text's stands for
pub told_is : (r : Result Verdict AuditFault) (e : TextFault) → IsErrAnd r (λ x. x ≡ fault_of e) → (f : AuditFault) → r ≡ Err f → fault_of e ≡ f
told_is (Ok v) e told f is = cc
told_is (Err x) e told f is = let same : x ≡ f = cc in sym told ∙ same

pub long_of : (e : TextFault) → fault_of e ≡ fault.TextTooLong → e ≡ text_fault.TooLong
long_of text_fault.TooLong is = refl
long_of text_fault.Source is = cc
long_of (text_fault.Lack lack) is = cc

pub no_script : (e : TextFault) (broken : ScriptFault) → fault_of e ≡ fault.Script broken → ⊥
no_script text_fault.TooLong broken is = cc
no_script text_fault.Source broken is = cc
no_script (text_fault.Lack lack) broken is = cc
