use Rattle.std.proofs.Common.{◌≡◌, ◌<◌, ◌+◌, List, ℕ, [], ◌∷◌, ◌++◌, length, take, get_or, inl, refl, rules, ap, sym, ◌∙◌, subst, arith}
use Rattle.std.specs.Prelude.{flat_map}
use Rattle.std.specs.List.{range_with_len}
use Rattle.std.proofs.lemmas.List.{append-nil, length-take, take_more, take_all}
use Rattle.ufs_base.specs.Images.{Image}
use Rattle.ufs_layout.specs.declared.inode.Extent.{Extent}
use Rattle.ufs_metadata.specs.Folded.{IsFolded}
use Rattle.ufs_image.specs.Images.{block_at}
use Rattle.ufs_metadata.proofs.Quiet.{read_more, read_none}
use Rattle.ufs_opening.specs.Heads.{IsFrontOf}
use Rattle.ufs_opening.proofs.Rows.{flat_append}
use Rattle.ufs_opening.proofs.Fronts.{front_taken}
use Rattle.ufs_opening.proofs.files.read_front.Goals as goal

pub loop-extent-init : goal.loop-extent-init
loop-extent-init g c = record {
  bytes = λ visible image is. inl (let none : c.new-bytes.result.items ≡ [] = search rules in none);
  read_only = λ visible. read_none g.D.Disk.keeps (g.D.Disk.moments c.args.disk.now);
  size = refl;
  faults = refl;
}

pub returns-in_err-read_extent-clause-read_only : goal.returns-in_err-read_extent-clause-read_only
returns-in_err-read_extent-clause-read_only g c visible =
    read_more g.D.Disk.keeps (g.D.Disk.moments c.args.disk.now) (g.D.Disk.moments c.loop-extent.disk) (g.D.Disk.moments c.read_extent.new.disk) (c.loop-extent.invariant.read_only visible) (c.read_extent.ensures.read_only visible)

pub loop-extent-preserved : goal.loop-extent-preserved
loop-extent-preserved g c =
    let i = c.loop-extent.invariant in
    let k = c.loop-extent.extent-index in
    let xs = c.args.form.now.extents in
    let none : Extent = record { start = 0; length = 0 } in
    let items : c.used_extents-extent-items.result.now ≡ xs = c.used_extents-extent-items.ensures in
    let less : k < length xs = let long = ap (length {A = Extent}) items in omega (arith, c.loop-extent-test.true, long) in
    record {
      bytes = λ visible image is.
          let before = flat_map (λ (e : Extent). range_with_len e.start e.length) (take k xs) in
          let more : flat_map (block_at image) before ++ flat_map (block_at image) (range_with_len (get_or c.used_extents-extent-items.result.now k none).start (get_or c.used_extents-extent-items.result.now k none).length)
          ≡ flat_map (block_at image) (flat_map (λ (e : Extent). range_with_len e.start e.length) (take (k + 1) xs)) =
          (λ j. flat_map (block_at image) before ++ flat_map (block_at image) (range_with_len (get_or (items j) k none).start (get_or (items j) k none).length))
          ∙ sym (flat_append (block_at image) before (range_with_len (get_or xs k none).start (get_or xs k none).length))
          ∙ sym (ap (flat_map (block_at image))
          (ap (flat_map (λ (e : Extent). range_with_len e.start e.length)) (take_more xs k none less)
          ∙ flat_append (λ (e : Extent). range_with_len e.start e.length) (take k xs) (get_or xs k none ∷ [])
          ∙ ap (λ l. before ++ l) (append-nil (range_with_len (get_or xs k none).start (get_or xs k none).length)))) in
          subst (λ (l : List ℕ). IsFrontOf c.args.enough c.read_extent.new.bytes.items l) more
          (c.in_ok-read_extent.ensures.bytes visible image (subst (λ (d : Image). IsFolded c.args.overlay.now d image) (sym (i.read_only visible).content) is) (flat_map (block_at image) before) (i.bytes visible image is));
      read_only = λ visible. read_more g.D.Disk.keeps (g.D.Disk.moments c.args.disk.now) (g.D.Disk.moments c.loop-extent.disk) (g.D.Disk.moments c.read_extent.new.disk) (i.read_only visible) (c.read_extent.ensures.read_only visible);
      size = c.read_extent.ensures.size ∙ i.size;
      faults = c.in_ok-read_extent.ensures.passed ∙ i.faults;
    }

pub returns-clause-bytes : goal.returns-clause-bytes
returns-clause-bytes g c visible image is =
    let xs = c.args.form.now.extents in
    let k = c.loop-extent.extent-index in
    let long = ap (length {A = Extent}) c.used_extents-extent-items.ensures in
    let all : k ≡ length xs = omega (arith, long) in
    c.truncate.ensures.items
    ∙ front_taken c.args.enough c.loop-extent.bytes.items _ (c.loop-extent.invariant.bytes visible image is)
    ∙ ap (λ (l : List Extent). take c.args.enough (flat_map (block_at image) (flat_map (λ (e : Extent). range_with_len e.start e.length) l))) (ap (λ n. take n xs) all ∙ take_all (length xs) xs (omega arith))

pub returns-clause-few : goal.returns-clause-few
returns-clause-few g c =
    let most = length-take c.args.enough c.loop-extent.bytes.items in
    let same = ap length c.truncate.ensures.items in
    omega (arith, most, same)
