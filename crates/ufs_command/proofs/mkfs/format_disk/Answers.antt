use Rattle.std.proofs.Common.{◌≡◌, ◌≤◌, List, ℕ, subst, arith, rules}
use Rattle.ufs_layout.specs.Areas.{sector_count}
use Rattle.ufs_recover.specs.Faults.{HasFaultCause}
use Rattle.ufs_recover.specs.declared.fault.FormatFault.{FormatFault}
use Rattle.ufs_command.specs.Seen.{formatting, writing}
use Rattle.ufs_command.specs.Texts.{device_line}
use Rattle.ufs_command.specs.Endings.{EndsMkfs, IsAnswer, IsLine}
use Rattle.ufs_command.specs.declared.ending.Ending.TheVariants.{DeviceFault}
use Rattle.ufs_command.proofs.AnswerLemmas.{answer_line}
use Rattle.ufs_command.proofs.MkfsLemmas.{device_told}
use Rattle.ufs_command.proofs.mkfs.format_disk.Goals as goal

pub returns-in-Err-Device-clause-answer : goal.returns-in-Err-Device-clause-answer
returns-in-Err-Device-clause-answer g c =
    let geometry = c.args.geometry.now in
    let d = formatting g.D.Disk.visible g.D.Disk.size g.D.Disk.moments g.D.Disk.faults c.args.disk.now c.format.new.disk in
    let w = writing g.K.Sink.held g.K.Sink.faults c.args.sink.now c.tell-in-Err-Device.new.sink in
    let fault = c.in-Err-Device.fault in
    let large : sector_count geometry ≤ d.sectors = omega (arith, c.sectors.ensures) in
    let same : c.as_bytes.result.now ≡ device_line fault = search rules in
    answer_line (EndsMkfs geometry d) DeviceFault (device_line fault) w c.tell-in-Err-Device.result
    (device_told geometry d fault c.requires.taken large (subst (λ (f : FormatFault). HasFaultCause d.before d.now f) c.in-Err-Device.field-0-is c.in-Err-Device.ensures.device))
    (subst (λ (l : List ℕ). IsAnswer (IsLine DeviceFault l) w c.tell-in-Err-Device.result) same c.tell-in-Err-Device.ensures.answer)
