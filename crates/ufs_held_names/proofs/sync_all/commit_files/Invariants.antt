use Rattle.std.proofs.Common.{◌≡◌, ◌≤◌, [], None, is_some, length}
use Rattle.ufs_turns.specs.Lent.{AreTold, Runs, StopsByFault}
use Rattle.ufs_held.specs.Committed.{HasSameCells}
use Rattle.ufs_held_names.specs.HeldNames.{HoldsNames, first_names}
use Rattle.ufs_held_names.specs.SyncAll.{AreSynced, freed_by}
use Rattle.ufs_held_names.proofs.sync_all.commit_files.Given as goal

abbrev pub invariant-loop-place : goal.invariant-loop-place
invariant-loop-place g l = record {
  held : HoldsNames l.noted l.right;
  calm : l.right.faults ≡ [];
  same : first_names l.noted l.right.names ≡ first_names l.noted l.fn.right.names;
  cells : HasSameCells l.fn.guest l.guest;
  synced : AreSynced g.N.Naming.start.is_visible l.fn.files l.files l.place;
  freed : AreTold (g.T.Turns.tells l.fn.door) (g.T.Turns.tells l.door) (λ had has. has ≡ freed_by l.place l.fn.files had);
  faults : l.guest.faults ≡ l.fn.guest.faults;
  telling : is_some (g.T.Turns.tells l.door) ≡ is_some (g.T.Turns.tells l.fn.door);
  halts : StopsByFault (g.T.Turns.tells l.fn.door) (g.T.Turns.tells l.door) None;
  ran : Runs (g.T.Turns.tells l.fn.door) (g.T.Turns.tells l.door) None l.place l.place;
  within : l.place ≤ length l.fn.files;
}
