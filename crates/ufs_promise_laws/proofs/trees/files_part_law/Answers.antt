use Rattle.std.proofs.Common.{◌≡◌, true, false, sym, ◌∙◌}
use Rattle.ufs_image.proofs.Bits.{is_taken_block}
use Rattle.ufs_promise_laws.proofs.BlocksApart.{are_apart}
use Rattle.ufs_promise_laws.proofs.Filed.{are_files, have_inodes}
use Rattle.ufs_promise_laws.proofs.trees.files_part_law.Goals as goal

pub returns-clause-parts : goal.returns-clause-parts
returns-clause-parts c image v cat t n files is tree has of read = (are_files c.args.sectors image v cat t n files is has of read, have_inodes c.args.sectors image v cat t n files is has of read)

pub returns-clause-apart : goal.returns-clause-apart
returns-clause-apart c = are_apart c.args.sectors

pub returns-clause-free : goal.returns-clause-free
returns-clause-free c image v cat pool is free b there taken =
    let no : true ≡ false = sym (is_taken_block v.geometry v.image cat is.catalog is.sound b taken) ∙ free b there in
    absurd cc
