use Rattle.std.proofs.Common.{◌≡◌, ◌+◌, ◌*◌, List, ◌∷◌, ◌++◌, length, take, drop, sym, ap, ◌∙◌, subst, replicate, arith}
use Rattle.std.specs.List.{flat_map, AllByRecursion}
use Rattle.byteorder.specs.Endian.{little_bytes}
use Rattle.ufs_layout.specs.Words.{filled_to}
use Rattle.ufs_layout.specs.Padded.{count_of-take}
use Rattle.ufs_layout.specs.InodeForm.{InodeForm, inode_bytes, inode_fields, is_inode, extent_bytes, no_extent, links_of_kind, FitsExtent}
use Rattle.ufs_layout.specs.declared.inode.Extent.{Extent}
use Rattle.ufs_layout.proofs.Spelled.{spelled-at}
use Rattle.ufs_layout.proofs.InodeForms.{inode-back, inode-laid}
use Rattle.ufs_layout.proofs.inode.put_inode.Goals as goal

pub returns : goal.returns
returns c =
    let es : List Extent = take c.value.inside.count c.value.inside.extents in
    let seen : InodeForm = record { kind = c.value.inside.kind; extents = es; size = c.value.inside.size; number = c.value.inside.number } in
    let count : length es ≡ c.value.inside.count = count_of-take no_extent 56 c.value.inside.count c.value.inside.extents c.value.invariant in
    let laid = inode-laid c.put_head.new.head c.clear.new.bytes c.put_extents.new.sector es (ap length c.put_head.ensures) (c.clear.ensures ∙ ap (λ n. replicate n 0) c.requires.sized)
    (subst (λ n. c.put_extents.new.sector ≡ take 64 (c.put_head.new.head ++ drop 64 c.clear.new.bytes) ++ flat_map extent_bytes (take n c.value.inside.extents) ++ drop (64 + 8 * length (take n c.value.inside.extents)) (c.put_head.new.head ++ drop 64 c.clear.new.bytes)) c.from.ensures c.put_extents.ensures.spelling) in
    let head : c.put_head.new.head ≡ filled_to 64 (c.value.inside.kind ∷ length es ∷ little_bytes 2 (links_of_kind c.value.inside.kind) ++ replicate 4 0 ++ little_bytes 8 c.value.inside.size ++ little_bytes 8 c.value.inside.number)
    = c.put_head.ensures ∙ ap (λ n. filled_to 64 (c.value.inside.kind ∷ n ∷ little_bytes 2 (links_of_kind c.value.inside.kind) ++ replicate 4 0 ++ little_bytes 8 c.value.inside.size ++ little_bytes 8 c.value.inside.number)) (sym count) in
    let are_seen : c.put_extents.new.sector ≡ inode_bytes seen = laid ∙ ap (λ h. h ++ filled_to 448 (flat_map extent_bytes es)) head in
    let are : c.put_extents.new.sector ≡ inode_bytes c.args.value.now = are_seen ∙ ap inode_bytes c.value.view_is in
    let in_range : AllByRecursion FitsExtent es = subst (λ n. AllByRecursion FitsExtent (take n c.value.inside.extents)) c.from.ensures c.put_extents.ensures.in_range in
    let back : inode_fields (inode_bytes seen) ≡ seen = inode-back seen (record { size = omega arith; number = omega arith; extents = in_range }) in
    record {
      spelling = are;
      read_back = spelled-at inode_fields inode_bytes is_inode c.args.value.now c.put_extents.new.sector are (subst (λ (n : InodeForm). inode_fields (inode_bytes n) ≡ n) c.value.view_is back) c.requires.form;
    }
