use Rattle.std.proofs.Common.{◌≡◌, [], Some, ap, sym, ◌∙◌, rules, w64, to_z, of_z}
use Rattle.ufs_model.specs.FileCalls.{place_refusal, step_by}
use Rattle.ufs_model.specs.declared.data.Op.{Op}
use Rattle.ufs_model.specs.declared.data.Op.TheVariants as op
use Rattle.ufs_client.proofs.own.seek_own.Goals as goal

pub returns-in-Seek-clause-reply : goal.returns-in-Seek-clause-reply
returns-in-Seek-clause-reply c =
    let d = c.args.desc in
    let read : to_z w64 (of_z w64 c.in-Seek.by) ≡ c.in-Seek.by = search rules in
    let is : op.Seek c.in-Seek.fd c.in-Seek.whence (to_z w64 (of_z w64 c.in-Seek.by)) ≡ c.args.op.now = ap (op.Seek c.in-Seek.fd c.in-Seek.whence) read ∙ sym c.in-Seek.is in
    c.seek.ensures.reply c.in-Seek.fd ∙ ap (λ (o : Op). (step_by [] d o (place_refusal [] d o)).reply) is

pub returns-in-Seek-clause-desc : goal.returns-in-Seek-clause-desc
returns-in-Seek-clause-desc c =
    let d = c.args.desc in
    let read : to_z w64 (of_z w64 c.in-Seek.by) ≡ c.in-Seek.by = search rules in
    let is : op.Seek c.in-Seek.fd c.in-Seek.whence (to_z w64 (of_z w64 c.in-Seek.by)) ≡ c.args.op.now = ap (op.Seek c.in-Seek.fd c.in-Seek.whence) read ∙ sym c.in-Seek.is in
    c.seek.ensures.desc c.in-Seek.fd ∙ ap (λ (o : Op). Some (step_by [] d o (place_refusal [] d o)).desc) is
