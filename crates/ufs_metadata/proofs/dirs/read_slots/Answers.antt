use Rattle.std.proofs.Common.{◌≡◌, ◌<◌, [], ◌∷◌, ◌++◌, List, length, take, get_or, ap, sym, ◌∙◌, subst, arith}
use Rattle.std.specs.Prelude.{flat_map}
use Rattle.std.specs.List.{range_with_len}
use Rattle.std.proofs.lemmas.List.{append-nil, take_more}
use Rattle.ufs_base.specs.Images.{Image}
use Rattle.ufs_disk.specs.Moments.{reads}
use Rattle.ufs_metadata.specs.Folded.{IsFolded}
use Rattle.ufs_layout.specs.declared.inode.Extent.{Extent}
use Rattle.ufs_image.specs.Nodes.{leaves_data, read_block}
use Rattle.ufs_metadata.proofs.Rows.{each_not, ends_inside, few_after, few_in_all, flat_append}
use Rattle.ufs_metadata.proofs.Quiet.{read_more}
use Rattle.ufs_metadata.proofs.dirs.read_slots.Goals as goal

pub returns-in_err-read_extent-clause-read_only : goal.returns-in_err-read_extent-clause-read_only
returns-in_err-read_extent-clause-read_only g c visible =
    read_more g.D.Disk.keeps (g.D.Disk.moments c.args.disk.now) (g.D.Disk.moments c.loop-extent.disk) (g.D.Disk.moments c.read_extent.new.disk) (c.loop-extent.invariant.read_only visible) (c.read_extent.ensures.read_only visible)

pub loop-extent-preserved : goal.loop-extent-preserved
loop-extent-preserved g c =
    let i = c.loop-extent.invariant in
    let k = c.loop-extent.extent-index in
    let xs = c.args.form.now.extents in
    let none : Extent = record { start = 0; length = 0 } in
    let items : c.used_extents-extent-items.result.now ≡ xs = c.used_extents-extent-items.ensures in
    let less : k < length xs = let long = ap (length {A = Extent}) items in omega (arith, c.loop-extent-test.true, long) in
    record {
      slots = λ visible image is.
          c.in_ok-read_extent.ensures.slots visible image (subst (λ (d : Image). IsFolded c.args.overlay.now d image) (sym (i.read_only visible).content) is)
          ∙ (λ j. i.slots visible image is j ++ flat_map (read_block image) (range_with_len (get_or (items j) k none).start (get_or (items j) k none).length))
          ∙ sym (flat_append (read_block image) (flat_map (λ (e : Extent). range_with_len e.start e.length) (take k xs)) (range_with_len (get_or xs k none).start (get_or xs k none).length))
          ∙ sym (ap (flat_map (read_block image))
          (ap (flat_map (λ (e : Extent). range_with_len e.start e.length)) (take_more xs k none less)
          ∙ flat_append (λ (e : Extent). range_with_len e.start e.length) (take k xs) (get_or xs k none ∷ [])
          ∙ ap (λ l. flat_map (λ (e : Extent). range_with_len e.start e.length) (take k xs) ++ l) (append-nil (range_with_len (get_or xs k none).start (get_or xs k none).length))));
      within = omega (arith, less);
      few =
          let more = c.in_ok-read_extent.ensures.few in
          let same : (get_or c.used_extents-extent-items.result.now k none).length ≡ (get_or xs k none).length = ap (λ (es : List Extent). (get_or es k none).length) items in
          let inside = ends_inside c.args.geometry.now (get_or xs k none) (each_not (leaves_data c.args.geometry.now) xs k none less c.requires.inside) in
          few_after k (length c.loop-extent.slots.items) (get_or c.used_extents-extent-items.result.now k none).length (length c.read_extent.new.slots.items) i.few (omega (arith, same, inside, c.requires.geometry.most_blocks)) more;
      read_only = λ visible. read_more g.D.Disk.keeps (g.D.Disk.moments c.args.disk.now) (g.D.Disk.moments c.loop-extent.disk) (g.D.Disk.moments c.read_extent.new.disk) (i.read_only visible) (c.read_extent.ensures.read_only visible);
      size = c.read_extent.ensures.size ∙ i.size;
      faults = c.in_ok-read_extent.ensures.passed ∙ i.faults;
    }

pub returns-clause-few : goal.returns-clause-few
returns-clause-few g c = few_in_all c.loop-extent.extent-index (length c.args.form.now.extents) (length c.loop-extent.slots.items) c.loop-extent.invariant.within c.requires.few c.loop-extent.invariant.few
