use Rattle.ufs_promise_laws.proofs.NamesKept.{stays}
use Rattle.ufs_promise_laws.proofs.TableNames.{sound_names}
use Rattle.ufs_promise_laws.proofs.Orders.{either}
use Rattle.ufs_promise_laws.proofs.CallNames.{added, dropped, moved}
use Rattle.ufs_promise_laws.proofs.names.names_law.Goals as goal

pub returns-clause-stay : goal.returns-clause-stay
returns-clause-stay c s x sound may keeps = stays c.args.geometry.now s sound x may keeps

pub returns-clause-table : goal.returns-clause-table
returns-clause-table c s counted is well = sound_names c.args.geometry.now s counted is well

pub returns-clause-order : goal.returns-clause-order
returns-clause-order c s i j a b d e may also apart = either c.args.geometry.now s i j a b d e may also apart

pub returns-clause-adding : goal.returns-clause-adding
returns-clause-adding c s dir slot d sound may fresh no_root name none = added c.args.geometry.now s dir slot d sound may fresh no_root name none

pub returns-clause-dropping : goal.returns-clause-dropping
returns-clause-dropping c s dir slot d sound stood may = dropped c.args.geometry.now s dir slot d sound stood may

pub returns-clause-moving : goal.returns-clause-moving
returns-clause-moving c s from to old new d e sound stood inode kind name may none = moved c.args.geometry.now s from old d sound stood to new e inode kind name may none
