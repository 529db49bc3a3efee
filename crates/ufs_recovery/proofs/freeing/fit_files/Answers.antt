use Rattle.std.proofs.Common.{List, Option, sym, subst}
use Rattle.std.proofs.lemmas.Result.{IfOk-weaker}
use Rattle.ufs_base.specs.Images.{Image}
use Rattle.ufs_damage.specs.Taken.{AreTaken}
use Rattle.ufs_disk.specs.Moments.{reads}
use Rattle.ufs_disk.proofs.Runs.{started}
use Rattle.ufs_image.specs.Nodes.{sound_nodes}
use Rattle.ufs_layout.specs.InodeForm.{InodeForm}
use Rattle.ufs_recovery.specs.Fitted.{HasFitted, MayFit}
use Rattle.ufs_recovery.proofs.Fits.{is_fitted, none_extra}
use Rattle.ufs_recovery.proofs.Phases.{always_ok}
use Rattle.ufs_recovery.proofs.SuperblockPut.{kept_quietly, still_opens, still_settled}
use Rattle.ufs_recovery.proofs.freeing.fit_files.Goals as goal

pub returns-then-are_fitted-clause-fitted : goal.returns-then-are_fitted-clause-fitted
returns-then-are_fitted-clause-fitted g c visible = always_ok c.used_blocks.result (λ superblock may.
    is_fitted (g.D.Disk.size c.args.disk.now) superblock c.args.geometry.now c.args.findings.now.forms (reads (g.D.Disk.moments c.args.disk.now)) may
    (none_extra c.args.findings.now.forms c.forms.result.now _ c.forms.ensures c.requires.read (c.are_fitted.ensures.yes c.if-are_fitted.true)))

pub returns-then-are_fitted-clause-tree : goal.returns-then-are_fitted-clause-tree
returns-then-are_fitted-clause-tree g c visible settled superblock may = started _ _ _ (still_opens (g.D.Disk.size c.args.disk.now) (g.D.Disk.moments c.args.disk.now).state settled)

pub returns-in_err-fit-clause-tree : goal.returns-in_err-fit-clause-tree
returns-in_err-fit-clause-tree g c visible settled superblock may =
    let size = g.D.Disk.size c.args.disk.now in
    let first = reads (g.D.Disk.moments c.args.disk.now) in
    c.fit.ensures.tree visible settled superblock (subst (λ (fs : List (Option InodeForm)). MayFit size superblock first c.args.geometry.now fs) (sym c.forms-2.ensures) may)

pub returns-clause-settled : goal.returns-clause-settled
returns-clause-settled g c visible settled =
    always_ok c.read_used_blocks.result (still_settled _ _ _ (c.read_used_blocks.ensures.read_only visible) (c.in_ok-fit.ensures.settled visible settled))

pub returns-clause-fitted : goal.returns-clause-fitted
returns-clause-fitted g c visible = always_ok c.read_used_blocks.result (λ superblock may.
    let size = g.D.Disk.size c.args.disk.now in
    let first = reads (g.D.Disk.moments c.args.disk.now) in
    subst (HasFitted size superblock first) (sym (c.read_used_blocks.ensures.read_only visible).content)
    (c.in_ok-fit.ensures.fitted visible superblock (subst (λ (fs : List (Option InodeForm)). MayFit size superblock first c.args.geometry.now fs) (sym c.forms-2.ensures) may)))

pub returns-clause-taken : goal.returns-clause-taken
returns-clause-taken g c visible = IfOk-weaker c.read_used_blocks.result _ _
    (λ t are read. subst (λ (d : Image). AreTaken c.args.geometry.now (sound_nodes c.args.geometry.now d) t) (sym (c.read_used_blocks.ensures.read_only visible).content) are)
    (c.read_used_blocks.ensures.taken visible)

pub returns-clause-tree : goal.returns-clause-tree
returns-clause-tree g c visible settled superblock may =
    let size = g.D.Disk.size c.args.disk.now in
    let first = reads (g.D.Disk.moments c.args.disk.now) in
    kept_quietly _ size _ _ _
    (c.fit.ensures.tree visible settled superblock (subst (λ (fs : List (Option InodeForm)). MayFit size superblock first c.args.geometry.now fs) (sym c.forms-2.ensures) may)) (c.read_used_blocks.ensures.read_only visible).crash
