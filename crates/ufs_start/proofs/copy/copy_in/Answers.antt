use Rattle.std.proofs.Common.{ℕ, List, ap, sym, ◌∙◌, arith}
use Rattle.std.proofs.lemmas.Result.{err_from_is_err_and}
use Rattle.ufs_base.specs.Images.{Image}
use Rattle.ufs_metadata.proofs.Quiet.{read_more}
use Rattle.ufs_disk.specs.Bytes.{image_of}
use Rattle.ufs_disk.specs.Moments.{reads}
use Rattle.ufs_image.specs.Volume.{superblock_of, volume}
use Rattle.ufs_layout.specs.Superblock.{geometry_of}
use Rattle.ufs_front.specs.Fronts.{bytes_of}
use Rattle.ufs_start.proofs.UsedThere.{used_there}
use Rattle.ufs_start.proofs.copy.copy_in.Goals as goal

pub end_of_used-requires-clause-fields : goal.end_of_used-requires-clause-fields
end_of_used-requires-clause-fields g c = c.requires.fields ∙ sym (ap (λ (bytes : List ℕ). geometry_of (superblock_of (λ _. bytes))) c.in_ok-copy.ensures.first)

pub returns-clause-first : goal.returns-clause-first
returns-clause-first g c =
    let begins = c.first_of_data.ensures in
    c.copy_blocks.ensures.before 0 (omega (arith, begins)) ∙ ap (λ (d : Image). d 0) c.end_of_used.ensures.image ∙ c.in_ok-copy.ensures.first

pub returns-clause-same : goal.returns-clause-same
returns-clause-same g c visible first =
    let h = c.args.geometry.now in
    let disk = reads (g.D.Disk.moments c.args.disk.now) in
    let front : Image = image_of (bytes_of c.in_ok-copy.copy) in
    let own = c.requires.fields ∙ sym (ap (λ (bytes : List ℕ). geometry_of (superblock_of (λ _. bytes))) c.in_ok-copy.ensures.first) in
    let begins = c.first_of_data.ensures in
    used_there h disk front (image_of (bytes_of c.copy_blocks.new.copy)) c.in_ok-end.end
    (record {
      least = c.in_ok-end.ensures.least;
      front_is = c.in_ok-copy.ensures.same visible first;
      kept = λ s before. c.copy_blocks.ensures.before s (omega (arith, before, begins)) ∙ ap (λ (d : Image). d s) c.end_of_used.ensures.image;
      there = λ s low high. c.in_ok-copy_blocks.ensures.there visible s (omega (arith, low, begins)) high ∙ ap (λ (d : Image). d s) (c.metadata_of.ensures.read_only visible).content;
      behind = λ v e. c.in_ok-end.ensures.behind v (ap (λ n. volume n front) c.in_ok-copy.ensures.sectors ∙ e);
    })
    own

pub returns-in_err-copy_blocks-clause-read_only : goal.returns-in_err-copy_blocks-clause-read_only
returns-in_err-copy_blocks-clause-read_only g c visible =
    read_more g.D.Disk.keeps (g.D.Disk.moments c.args.disk.now) (g.D.Disk.moments c.metadata_of.new.disk) (g.D.Disk.moments c.copy_blocks.new.disk) (c.metadata_of.ensures.read_only visible) (c.copy_blocks.ensures.read_only visible)

pub returns-clause-read_only : goal.returns-clause-read_only
returns-clause-read_only g c visible =
    read_more g.D.Disk.keeps (g.D.Disk.moments c.args.disk.now) (g.D.Disk.moments c.metadata_of.new.disk) (g.D.Disk.moments c.copy_blocks.new.disk) (c.metadata_of.ensures.read_only visible) (c.copy_blocks.ensures.read_only visible)

pub returns-in_err-end-clause-outside : goal.returns-in_err-end-clause-outside
returns-in_err-end-clause-outside g c =
    let p = err_from_is_err_and c.from_residual-in_err-end.result c.from_residual-in_err-end.ensures.1 in
    rw (p.1, p.2) c.in_err-end.ensures.lack
