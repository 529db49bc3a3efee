use Rattle.std.proofs.Common.{◌≡◌, ◌<◌, ◌≤◌, ◌+◌, ◌*◌, ℕ, ◌++◌, length, ap, sym, ◌∙◌, subst, arith}
use Rattle.std.specs.Prelude.{map, min}
use Rattle.std.specs.List.{range_with_len}
use Rattle.std.proofs.lemmas.List.{length-append}
use Rattle.std.proofs.lemmas.List.FromFn.{length-map-range_with_len}
use Rattle.ufs_base.specs.Images.{Image}
use Rattle.ufs_disk.specs.Moments.{reads}
use Rattle.ufs_metadata.specs.Folded.{IsFolded}
use Rattle.ufs_layout.specs.Areas.{sector_of_inode}
use Rattle.ufs_layout.specs.InodeForm.{inode_of}
use Rattle.ufs_image.specs.Images.{inode_at}
use Rattle.ufs_metadata.specs.Told.{forms_in, piece}
use Rattle.ufs_metadata.specs.Reading.{AreSectors}
use Rattle.ufs_metadata.proofs.Rows.{forms_are, map_append}
use Rattle.ufs_metadata.proofs.Quiet.{read_more}
use Rattle.ufs_metadata.proofs.forms.read_forms.Goals as goal

pub returns-in_err-read_block-clause-read_only : goal.returns-in_err-read_block-clause-read_only
returns-in_err-read_block-clause-read_only g c visible =
    read_more g.D.Disk.keeps (g.D.Disk.moments c.args.disk.now) (g.D.Disk.moments c.loop-place.disk) (g.D.Disk.moments c.read_block.new.disk) (c.loop-place.invariant.read_only visible) (c.read_block.ensures.read_only visible)

pub returns-in_err-push_forms-clause-read_only : goal.returns-in_err-push_forms-clause-read_only
returns-in_err-push_forms-clause-read_only g c visible =
    read_more g.D.Disk.keeps (g.D.Disk.moments c.args.disk.now) (g.D.Disk.moments c.loop-place.disk) (g.D.Disk.moments c.read_block.new.disk) (c.loop-place.invariant.read_only visible) (c.read_block.ensures.read_only visible)

pub loop-place-preserved : goal.loop-place-preserved
loop-place-preserved g c =
    let i = c.loop-place.invariant in
    let geometry = c.args.geometry.now in
    let place = c.loop-place.place in
    let n = c.min-count.result in
    let first = 8 * (c.first_of_inodes-start.result + place) in
    let less : 8 * place < geometry.inodes = omega (arith, c.loop-place-test.true, c.first_of_inodes-start.ensures, c.first_of_journal-end.ensures) in
    let few : n ≤ 8 = omega (arith, c.min-count.ensures) in
    let here : min (8 * place) geometry.inodes ≡ 8 * place = omega (arith, less) in
    let next : 8 * place + n ≡ min (8 * (place + 1)) geometry.inodes = omega (arith, less, c.min-count.ensures) in
    let at : (k : ℕ) → first + k ≡ sector_of_inode geometry (1 + 8 * place + k) = λ k. omega (arith, c.first_of_inodes-start.ensures) in
    let long : length (forms_in n c.read_block.new.buf) ≡ n = length-map-range_with_len (λ k. inode_of (piece c.read_block.new.buf k)) 0 n in
    record {
      count = ap length c.in_ok-push_forms.ensures ∙ length-append c.loop-place.forms.items (forms_in n c.read_block.new.buf) ∙ (λ k. (i.count ∙ here) k + long k) ∙ next;
      forms = λ visible image is.
          let are : AreSectors image first c.read_block.new.buf = c.in_ok-read_block.ensures.sectors visible image (subst (λ (d : Image). IsFolded c.args.overlay.now d image) (sym (i.read_only visible).content) is) in
          c.in_ok-push_forms.ensures
          ∙ (λ k. (i.forms visible image is ∙ ap (λ m. map (inode_at geometry image) (range_with_len 1 m)) here) k ++ forms_are geometry image c.read_block.new.buf first (1 + 8 * place) n few are at k)
          ∙ map_append (inode_at geometry image) 1 (8 * place) n
          ∙ ap (λ m. map (inode_at geometry image) (range_with_len 1 m)) next;
      read_only = λ visible. read_more g.D.Disk.keeps (g.D.Disk.moments c.args.disk.now) (g.D.Disk.moments c.loop-place.disk) (g.D.Disk.moments c.read_block.new.disk) (i.read_only visible) (c.read_block.ensures.read_only visible);
      size = c.read_block.ensures.size ∙ i.size;
      faults = c.in_ok-read_block.ensures.passed ∙ i.faults;
    }
