use Rattle.std.proofs.Common.{Option}
use Rattle.ufs_bitmap.specs.Blocks.{BlockSet}
use Rattle.ufs_extent.specs.Runs.{blocks_of}
use Rattle.ufs_model.specs.declared.data.Desc.{Desc}
use Rattle.ufs_model.specs.declared.data.Entry.{Entry}
use Rattle.ufs_file_commits.specs.Serving.{IsApplied}
use Rattle.ufs_file_commits.specs.State.{DurableState, state_of}
use Rattle.ufs_file_commits.proofs.Requests.{Follows, follows, own_apart}
use Rattle.ufs_file_commits.proofs.serving.apply.Goals as goal
use Rattle.ufs_file_commits.proofs.serving.apply.Goals.{In-Some}

pub apply_growing-requires-clause-apart : goal.apply_growing-requires-clause-apart
apply_growing-requires-clause-apart c = own_apart c.args.pool.now (blocks_of c.args.hand.now.extents) (blocks_of c.args.commits.now.dropped) c.requires.apart

pub apply_in_place-requires-clause-apart : goal.apply_in_place-requires-clause-apart
apply_in_place-requires-clause-apart c = own_apart c.args.pool.now (blocks_of c.args.hand.now.extents) (blocks_of c.args.commits.now.dropped) c.requires.apart

-- whichever of the three it is
module _ {new : DurableState} {after : BlockSet} {entry : Entry} {desc : Option Desc} (c : In-Some)
    (applied : IsApplied (state_of c.args.hand.now c.args.commits.now) new c.args.pool.now after c.args.ask c.args.by c.args.ticket entry desc) where
  behind : Follows (state_of c.args.hand.now c.args.commits.now) new c.args.pool.now after
  behind = follows (state_of c.args.hand.now c.args.commits.now) new c.args.pool.now after c.requires.noted c.requires.apart c.args.ask c.args.by c.args.ticket entry desc c.in-Some.desc c.in-Some.is applied

-- ---- where the file takes blocks

pub returns-then-blocks-held-clause-noted : goal.returns-then-blocks-held-clause-noted
returns-then-blocks-held-clause-noted c = (behind (goal.at.returns-then-blocks-held-clause-noted c).In-Some c.apply_growing.ensures).noted

pub returns-then-blocks-held-clause-together : goal.returns-then-blocks-held-clause-together
returns-then-blocks-held-clause-together c = (behind (goal.at.returns-then-blocks-held-clause-together c).In-Some c.apply_growing.ensures).together

pub returns-then-blocks-held-clause-taken : goal.returns-then-blocks-held-clause-taken
returns-then-blocks-held-clause-taken c = (behind (goal.at.returns-then-blocks-held-clause-taken c).In-Some c.apply_growing.ensures).taken

pub returns-then-blocks-held-clause-apart : goal.returns-then-blocks-held-clause-apart
returns-then-blocks-held-clause-apart c = (behind (goal.at.returns-then-blocks-held-clause-apart c).In-Some c.apply_growing.ensures).apart

-- ---- where it drops some

pub returns-then-blocks-held-2 : goal.returns-then-blocks-held-2
returns-then-blocks-held-2 c =
    let a = c.apply_cutting.ensures c.args.pool.now in
    let next = behind (goal.at.returns-then-blocks-held-2 c).In-Some a in
    record {
      entry = a.of_ask;
      served = a.served;
      goes_on = a.goes_on;
      excused = a.excused;
      posix = a.posix;
      fits = a.fits;
      number = next.number;
      inode = next.inode;
      few = a.few;
      noted = next.noted;
      committed = next.committed;
      together = next.together;
      taken = next.taken;
      apart = next.apart;
      away = a.away;
      kept = a.kept;
      pool = a.pool;
      desc = a.same_desc;
    }

-- ---- where it keeps those that it has

pub returns-else-blocks-held-2-clause-noted : goal.returns-else-blocks-held-2-clause-noted
returns-else-blocks-held-2-clause-noted c = (behind (goal.at.returns-else-blocks-held-2-clause-noted c).In-Some c.apply_in_place.ensures).noted

pub returns-else-blocks-held-2-clause-together : goal.returns-else-blocks-held-2-clause-together
returns-else-blocks-held-2-clause-together c = (behind (goal.at.returns-else-blocks-held-2-clause-together c).In-Some c.apply_in_place.ensures).together

pub returns-else-blocks-held-2-clause-taken : goal.returns-else-blocks-held-2-clause-taken
returns-else-blocks-held-2-clause-taken c = (behind (goal.at.returns-else-blocks-held-2-clause-taken c).In-Some c.apply_in_place.ensures).taken

pub returns-else-blocks-held-2-clause-apart : goal.returns-else-blocks-held-2-clause-apart
returns-else-blocks-held-2-clause-apart c = (behind (goal.at.returns-else-blocks-held-2-clause-apart c).In-Some c.apply_in_place.ensures).apart
