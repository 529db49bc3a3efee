use Rattle.std.proofs.Common.{◌≡◌, ◌++◌, length, drop, replicate, refl, sym, subst}
use Rattle.std.proofs.lemmas.List.{drop-replicate}
use Rattle.ufs_layout.specs.Words.{IsPadded, padded}
use Rattle.ufs_layout.specs.InodeForm.{no_extent}
use Rattle.ufs_layout.proofs.Extents.{IsPadded-padded}
use Rattle.ufs_layout.proofs.inode.Inode.from_extents.Goals as goal

pub invariant_of-result : goal.invariant_of-result
invariant_of-result c =
    let is : c.copy_from_slice.new.self ++ drop (length c.args.extents.now) (replicate 56 no_extent) ≡ padded no_extent 56 c.args.extents.now =
    (λ i. c.copy_from_slice.ensures.after i ++ drop-replicate (length c.args.extents.now) 56 no_extent i) in
    subst (IsPadded no_extent 56 (length c.args.extents.now)) (sym is) (IsPadded-padded no_extent 56 (length c.args.extents.now) c.args.extents.now refl c.requires)
