use Rattle.std.proofs.Common.{◌≡◌, ap}
use Rattle.ufs_store.proofs.boxed.BoxDoor.write_block.Goals as goal

-- src/boxed.rt:31:5
pub returns-clause-stopped : goal.returns-clause-stopped
returns-clause-stopped g c = let at : g.D.Door.store c.deref_mut.result.now ≡ g.D.Door.store c.args.self.now.value = ap (λ d. g.D.Door.store d) c.deref_mut.ensures.value in rw (← at) c.write_block.ensures.stopped
