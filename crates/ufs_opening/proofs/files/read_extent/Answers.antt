use Rattle.std.proofs.Common.{◌+◌, ◌++◌, List, ℕ, refl, ap, sym, ◌∙◌, subst, append_assoc}
use Rattle.std.specs.Prelude.{flat_map}
use Rattle.std.specs.List.{range_with_len}
use Rattle.std.proofs.lemmas.List.{append-nil}
use Rattle.ufs_base.specs.Images.{Image}
use Rattle.ufs_metadata.specs.Folded.{IsFolded}
use Rattle.ufs_image.specs.Images.{block_at}
use Rattle.ufs_metadata.proofs.Quiet.{read_more, read_none}
use Rattle.ufs_opening.specs.Heads.{IsFrontOf}
use Rattle.ufs_opening.proofs.Rows.{flat_more}
use Rattle.ufs_opening.proofs.files.read_extent.Goals as goal

pub loop-place-init : goal.loop-place-init
loop-place-init g c = record {
  bytes = λ visible image is whole front. subst (λ (l : List ℕ). IsFrontOf c.args.enough c.args.bytes.now.items l) (sym (append-nil whole)) front;
  read_only = λ visible. read_none g.D.Disk.keeps (g.D.Disk.moments c.args.disk.now);
  size = refl;
  faults = refl;
}

pub returns-in_err-read_next-clause-read_only : goal.returns-in_err-read_next-clause-read_only
returns-in_err-read_next-clause-read_only g c visible =
    read_more g.D.Disk.keeps (g.D.Disk.moments c.args.disk.now) (g.D.Disk.moments c.loop-place.disk) (g.D.Disk.moments c.read_next.new.disk) (c.loop-place.invariant.read_only visible) (c.read_next.ensures.read_only visible)

pub loop-place-preserved : goal.loop-place-preserved
loop-place-preserved g c =
    let i = c.loop-place.invariant in
    let start = c.args.extent.now.start in
    let place = c.loop-place.place in
    record {
      bytes = λ visible image is whole front.
          let before = flat_map (block_at image) (range_with_len start place) in
          let here = subst (λ (d : Image). IsFolded c.args.overlay.now d image) (sym (i.read_only visible).content) is in
          subst (λ (l : List ℕ). IsFrontOf c.args.enough c.read_next.new.bytes.items l) (append_assoc whole before (block_at image (start + place)) ∙ ap (λ l. whole ++ l) (sym (flat_more (block_at image) start place)))
          (c.in_ok-read_next.ensures.bytes visible image here (whole ++ before) (i.bytes visible image is whole front));
      read_only = λ visible. read_more g.D.Disk.keeps (g.D.Disk.moments c.args.disk.now) (g.D.Disk.moments c.loop-place.disk) (g.D.Disk.moments c.read_next.new.disk) (i.read_only visible) (c.read_next.ensures.read_only visible);
      size = c.read_next.ensures.size ∙ i.size;
      faults = c.in_ok-read_next.ensures.passed ∙ i.faults;
    }
