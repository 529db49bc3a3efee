use Rattle.std.proofs.Common.{◌≡◌, ap}
use Rattle.ufs_store.proofs.boxed.BoxDoor.commit_names.Goals as goal

-- src/boxed.rt:39:5
pub returns-clause-crash : goal.returns-clause-crash
returns-clause-crash g c = let at : g.D.Door.store c.deref_mut.result.now ≡ g.D.Door.store c.args.self.now.value = ap (λ d. g.D.Door.store d) c.deref_mut.ensures.value in rw (← at) c.commit_names.ensures.crash

-- src/boxed.rt:39:5
pub returns-clause-device : goal.returns-clause-device
returns-clause-device g c = let at : g.D.Door.store c.deref_mut.result.now ≡ g.D.Door.store c.args.self.now.value = ap (λ d. g.D.Door.store d) c.deref_mut.ensures.value in rw (← at) c.commit_names.ensures.device

-- src/boxed.rt:39:5
pub returns-clause-stopped : goal.returns-clause-stopped
returns-clause-stopped g c = let at : g.D.Door.store c.deref_mut.result.now ≡ g.D.Door.store c.args.self.now.value = ap (λ d. g.D.Door.store d) c.deref_mut.ensures.value in rw (← at) c.commit_names.ensures.stopped

pub returns-clause-lack : goal.returns-clause-lack
returns-clause-lack g c = let at : g.D.Door.store c.deref_mut.result.now ≡ g.D.Door.store c.args.self.now.value = ap (λ d. g.D.Door.store d) c.deref_mut.ensures.value in rw (← at) c.commit_names.ensures.lack

pub returns-clause-at_end : goal.returns-clause-at_end
returns-clause-at_end g c = let at : g.D.Door.store c.deref_mut.result.now ≡ g.D.Door.store c.args.self.now.value = ap (λ d. g.D.Door.store d) c.deref_mut.ensures.value in rw (← at) c.commit_names.ensures.at_end

pub returns-clause-ok : goal.returns-clause-ok
returns-clause-ok g c = let at : g.D.Door.store c.deref_mut.result.now ≡ g.D.Door.store c.args.self.now.value = ap (λ d. g.D.Door.store d) c.deref_mut.ensures.value in rw (← at) c.commit_names.ensures.ok

pub returns-clause-memory : goal.returns-clause-memory
returns-clause-memory g c = let at : g.D.Door.store c.deref_mut.result.now ≡ g.D.Door.store c.args.self.now.value = ap (λ d. g.D.Door.store d) c.deref_mut.ensures.value in rw (← at) c.commit_names.ensures.memory
