use Rattle.std.proofs.Common.{◌≡◌, ap}
use Rattle.ufs_store.proofs.boxed.BoxDoor.checkpoint.Goals as goal

-- src/boxed.rt:55:5
pub returns-clause-crash : goal.returns-clause-crash
returns-clause-crash g c = let at : g.D.Door.store c.deref_mut.result.now ≡ g.D.Door.store c.args.self.now.value = ap (λ d. g.D.Door.store d) c.deref_mut.ensures.value in rw (← at) c.checkpoint.ensures.crash

-- src/boxed.rt:55:5
pub returns-clause-ok : goal.returns-clause-ok
returns-clause-ok g c = let at : g.D.Door.store c.deref_mut.result.now ≡ g.D.Door.store c.args.self.now.value = ap (λ d. g.D.Door.store d) c.deref_mut.ensures.value in rw (← at) c.checkpoint.ensures.ok

-- src/boxed.rt:55:5
pub returns-clause-device : goal.returns-clause-device
returns-clause-device g c = let at : g.D.Door.store c.deref_mut.result.now ≡ g.D.Door.store c.args.self.now.value = ap (λ d. g.D.Door.store d) c.deref_mut.ensures.value in rw (← at) c.checkpoint.ensures.device

-- src/boxed.rt:55:5
pub returns-clause-stopped : goal.returns-clause-stopped
returns-clause-stopped g c = let at : g.D.Door.store c.deref_mut.result.now ≡ g.D.Door.store c.args.self.now.value = ap (λ d. g.D.Door.store d) c.deref_mut.ensures.value in rw (← at) c.checkpoint.ensures.stopped

pub returns-clause-lack : goal.returns-clause-lack
returns-clause-lack g c = let at : g.D.Door.store c.deref_mut.result.now ≡ g.D.Door.store c.args.self.now.value = ap (λ d. g.D.Door.store d) c.deref_mut.ensures.value in rw (← at) c.checkpoint.ensures.lack

pub returns-clause-at_end : goal.returns-clause-at_end
returns-clause-at_end g c = let at : g.D.Door.store c.deref_mut.result.now ≡ g.D.Door.store c.args.self.now.value = ap (λ d. g.D.Door.store d) c.deref_mut.ensures.value in rw (← at) c.checkpoint.ensures.at_end
