use Rattle.std.proofs.Common.{◌≡◌, ap}
use Rattle.ufs_store.proofs.boxed.BoxDoor.read_block.Goals as goal

-- src/boxed.rt:27:5
pub returns-clause-on_disk : goal.returns-clause-on_disk
returns-clause-on_disk g c = let at : g.D.Door.store c.deref_mut.result.now ≡ g.D.Door.store c.args.self.now.value = ap (λ d. g.D.Door.store d) c.deref_mut.ensures.value in rw (← at) c.read_block.ensures.on_disk
