use Rattle.std.proofs.Common.{◌≡◌, ◌∙◌, Some, ap, subst, sym}
use Rattle.std.specs.Prelude.{slice_get}
use Rattle.ufs_extent.specs.Runs.{blocks_of}
use Rattle.ufs_file.specs.Hand.{FileState}
use Rattle.ufs_file_commits.specs.Fetching.{HasFetched}
use Rattle.ufs_file_commits.proofs.Fetched.{clean_there, fetched_one, now_there}
use Rattle.ufs_file_commits.proofs.fetching.fetch_absent.Goals as goal

pub returns-clause-fetched : goal.returns-clause-fetched
returns-clause-fetched g c =
    let s = g.D.Door.store c.args.door.now in
    let t = g.D.Door.store c.read_block.new.self in
    let f = c.args.hand.now in
    let read = c.in_ok-read_block.ensures in
    let clean = clean_there f.content c.args.place c.requires.absent (sym c.block_count-blocks.ensures.there ∙ c.block_count-blocks.ensures.marks) c.dirty_places-written.ensures.held in
    let here : slice_get (blocks_of f.extents) c.args.place ≡ Some c.in-Some.block = sym c.block_number.ensures ∙ c.in-Some.is in
    subst (HasFetched g.D.Door.visible g.D.Door.keeps s t f) (sym c.in_ok-load.ensures.ok)
    (fetched_one g.D.Door.visible g.D.Door.keeps s t f read.rest read.crash read.on_disk read.ledger c.args.place c.in-Some.block c.read_block.new.buf c.requires.absent clean c.size-size.ensures.there
    c.read_block.auto.buf here read.bytes)

pub returns-clause-there : goal.returns-clause-there
returns-clause-there g c = ap (λ (x : FileState). slice_get x.content.there c.args.place) c.in_ok-load.ensures.ok ∙ now_there c.args.hand.now c.args.place c.read_block.new.buf c.requires.absent
