use Rattle.std.proofs.Common.{◌≡◌, List, Some, length, refl, ap, sym, ◌∙◌, subst}
use Rattle.std.specs.List.{slice_get}
use Rattle.std.specs.Ordering.{nat_cmp}
use Rattle.std.specs.BTreeMap.{get}
use Rattle.std.proofs.lemmas.Option.{slice_get_read}
use Rattle.ufs_image.specs.Nodes.{ReadSlot, names_of}
use Rattle.ufs_walk.specs.Found.{IsPlaceOf}
use Rattle.ufs_walk.specs.Waits.{names_found, names_of_dir}
use Rattle.ufs_walk.proofs.walk.slots_at.Goals as goal

pub returns-in-Some : goal.returns-in-Some
returns-in-Some c =
    let dirs = c.args.dirs.now in
    let d = c.index-dirs-place.result in
    let chosen : get nat_cmp c.args.index.now c.args.inode ≡ Some c.in-Some.place = sym c.get.ensures.value ∙ sym c.copied.ensures ∙ c.in-Some.is in
    let placed : IsPlaceOf dirs c.args.inode (Some c.in-Some.place) = subst (IsPlaceOf dirs c.args.inode) chosen (c.requires c.args.inode) in
    let at : slice_get dirs c.in-Some.place ≡ Some d = slice_get_read dirs (length dirs) c.in-Some.place d refl placed.0 c.index-dirs-place.is in
    ap (λ (s : List ReadSlot). names_of (record { inode = c.args.inode; slots = s })) c.slots.ensures
    ∙ ap names_of_dir (sym at)
    ∙ ap (names_found dirs) (sym chosen)
