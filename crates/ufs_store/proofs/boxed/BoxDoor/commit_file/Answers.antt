use Rattle.std.proofs.Common.{◌≡◌, ap}
use Rattle.ufs_store.proofs.boxed.BoxDoor.commit_file.Goals as goal

-- src/boxed.rt:43:5
pub returns-clause-crash : goal.returns-clause-crash
returns-clause-crash g c = let at : g.D.Door.store c.deref_mut.result.now ≡ g.D.Door.store c.args.self.now.value = ap (λ d. g.D.Door.store d) c.deref_mut.ensures.value in rw (← at) c.commit_file.ensures.crash

-- src/boxed.rt:43:5
pub returns-clause-device : goal.returns-clause-device
returns-clause-device g c = let at : g.D.Door.store c.deref_mut.result.now ≡ g.D.Door.store c.args.self.now.value = ap (λ d. g.D.Door.store d) c.deref_mut.ensures.value in rw (← at) c.commit_file.ensures.device

-- src/boxed.rt:43:5
pub returns-clause-stopped : goal.returns-clause-stopped
returns-clause-stopped g c = let at : g.D.Door.store c.deref_mut.result.now ≡ g.D.Door.store c.args.self.now.value = ap (λ d. g.D.Door.store d) c.deref_mut.ensures.value in rw (← at) c.commit_file.ensures.stopped

pub returns-clause-lack : goal.returns-clause-lack
returns-clause-lack g c = let at : g.D.Door.store c.deref_mut.result.now ≡ g.D.Door.store c.args.self.now.value = ap (λ d. g.D.Door.store d) c.deref_mut.ensures.value in rw (← at) c.commit_file.ensures.lack
