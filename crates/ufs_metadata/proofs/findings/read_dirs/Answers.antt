use Rattle.std.proofs.Common.{◌≡◌, ◌+◌, ◌++◌, Option, List, get_or, ap, sym, ◌∙◌, subst, arith}
use Rattle.std.specs.Option.{option_to_list}
use Rattle.std.proofs.lemmas.List.FromFn.{get_or-map-range_with_len}
use Rattle.ufs_base.specs.Images.{Image}
use Rattle.ufs_disk.specs.Moments.{reads}
use Rattle.ufs_metadata.specs.Folded.{IsFolded}
use Rattle.ufs_layout.specs.InodeForm.{InodeForm}
use Rattle.ufs_image.specs.Images.{inode_at}
use Rattle.ufs_image.specs.Nodes.{dirs_of, sound_node}
use Rattle.ufs_metadata.proofs.Rows.{nodes_more}
use Rattle.ufs_metadata.proofs.Quiet.{read_more}
use Rattle.ufs_metadata.proofs.findings.read_dirs.Goals as goal

pub returns-in_err-read_dir-clause-read_only : goal.returns-in_err-read_dir-clause-read_only
returns-in_err-read_dir-clause-read_only g c visible =
    read_more g.D.Disk.keeps (g.D.Disk.moments c.args.disk.now) (g.D.Disk.moments c.loop-i.disk) (g.D.Disk.moments c.read_dir.new.disk) (c.loop-i.invariant.read_only visible) (c.read_dir.ensures.read_only visible)

pub loop-i-preserved : goal.loop-i-preserved
loop-i-preserved g c =
    let i = c.loop-i.invariant in
    let n = c.loop-i.i in
    let geometry = c.args.geometry.now in
    record {
      dirs = λ visible image is are.
          let here = subst (λ (d : Image). IsFolded c.args.overlay.now d image) (sym (i.read_only visible).content) is in
          let there : c.index-forms-i.result ≡ inode_at geometry image (n + 1) =
          c.index-forms-i.is ∙ ap (λ (l : List (Option InodeForm)). get_or l n c.index-forms-i.result) are
          ∙ get_or-map-range_with_len (inode_at geometry image) 1 geometry.inodes n (n + 1) c.index-forms-i.result c.loop-i-test.true (omega arith) in
          c.in_ok-read_dir.ensures.dirs visible image here (sym there)
          ∙ (λ k. i.dirs visible image is are k ++ dirs_of image (option_to_list (sound_node geometry image (n + 1))))
          ∙ sym (nodes_more geometry image n);
      read_only = λ visible. read_more g.D.Disk.keeps (g.D.Disk.moments c.args.disk.now) (g.D.Disk.moments c.loop-i.disk) (g.D.Disk.moments c.read_dir.new.disk) (i.read_only visible) (c.read_dir.ensures.read_only visible);
      size = c.read_dir.ensures.size ∙ i.size;
      faults = c.in_ok-read_dir.ensures.passed ∙ i.faults;
    }
