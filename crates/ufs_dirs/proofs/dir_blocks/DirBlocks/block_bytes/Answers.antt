use Rattle.std.proofs.Common.{◌+◌, ◌-◌, ◌*◌, List, take, drop, ap, ◌∙◌, arith, flat_map}
use Rattle.ufs_layout.specs.DentryForm.{DentryForm, dentry_bytes}
use Rattle.ufs_dirs.specs.Directory.{Directory}
use Rattle.ufs_dirs.proofs.CodecLemmas.{block_piece}
use Rattle.ufs_dirs.specs.Changes.{bytes_of_block}
use Rattle.ufs_dirs.proofs.dir_blocks.DirBlocks.block_bytes.Goals as goal

pub returns : goal.returns
returns c =
    let index = c.args.index in
    c.put_slots.ensures
    ∙ ap (λ (s : List DentryForm). flat_map dentry_bytes (take ((index + 1) * 64 - index * 64) (drop (index * 64) s))) c.deref.ensures.value
    ∙ ap (flat_map dentry_bytes) (block_piece c.self.inside.slots.items index (index * 64) ((index + 1) * 64) (omega arith) (omega arith))
    ∙ ap (λ (d : Directory). bytes_of_block d.slots index) c.self.view_is
