use Rattle.std.proofs.Common.{◌≡◌, ℕ, List, None, IfOk, IfErr, ◌∙◌, subst}
use Rattle.std.proofs.lemmas.List.{append-nil}
use Rattle.ufs_disk.specs.Moments.{reads}
use Rattle.ufs_image.specs.Volume.{superblock_refusal}
use Rattle.ufs_metadata.specs.Faults.{IsRefusal}
use Rattle.ufs_metadata.specs.declared.superblock.ImageSuperblock.{ImageSuperblock}
use Rattle.ufs_metadata.specs.declared.fault.RecoverFault.{RecoverFault}
use Rattle.ufs_metadata.proofs.superblock.read_superblock.Goals as goal

pub returns-clause-taken : goal.returns-clause-taken
returns-clause-taken g c visible =
    let image = reads (g.D.Disk.moments c.args.disk.now) in
    let first : c.read_at.new.buf ≡ image 0 = c.in_ok-read_at.ensures.bytes visible ∙ append-nil (image 0) in
    subst (λ (n : ℕ). IfOk c.judge.result (λ (h : ImageSuperblock). superblock_refusal n image ≡ None)) c.sectors-sectors.ensures
    (subst (λ (b : List ℕ). IfOk c.judge.result (λ (h : ImageSuperblock). superblock_refusal c.sectors-sectors.result (λ (k : ℕ). b) ≡ None)) first c.judge.ensures.taken)

pub returns-clause-refused : goal.returns-clause-refused
returns-clause-refused g c visible =
    let image = reads (g.D.Disk.moments c.args.disk.now) in
    let first : c.read_at.new.buf ≡ image 0 = c.in_ok-read_at.ensures.bytes visible ∙ append-nil (image 0) in
    subst (λ (n : ℕ). IfErr c.judge.result (λ (f : RecoverFault). IsRefusal (superblock_refusal n image) f)) c.sectors-sectors.ensures
    (subst (λ (b : List ℕ). IfErr c.judge.result (λ (f : RecoverFault). IsRefusal (superblock_refusal c.sectors-sectors.result (λ (k : ℕ). b)) f)) first c.judge.ensures.refused)
