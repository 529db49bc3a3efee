use Rattle.std.proofs.Common.{◌≡◌, ◌⊎◌, inl, inr, ℕ, true, false, Option, Some, None, is_some, Ok, Err, Result, ap, sym, subst, refl, ◌∙◌}
use Rattle.std.specs.Prelude.{IsTrue}
use Rattle.ufs_bitmap.specs.Space.{Space}
use Rattle.ufs_file_commits.specs.State.{state_of}
use Rattle.ufs_promise_laws.specs.Syncs.{HasFailed, HasWritten}
use Rattle.ufs_store.specs.Refusals.{IsTold, fault_in, fault_of, is_no_space, stop_after}
use Rattle.ufs_store.specs.State.{StoreState}
use Rattle.ufs_store.specs.declared.fault.StoreFault.{StoreFault}
use Rattle.ufs_store.specs.declared.fault.StoreFault.TheVariants as refusal
use Rattle.ufs_turns.specs.Syncs.{HasNotPassed}
use Rattle.ufs_turns.proofs.syncs.sync_store.Goals as goal

not_ok : (n : ℕ) (fault : StoreFault) (r : Result ℕ StoreFault) → r ≡ Ok n → r ≡ Err fault → ⊥
not_ok n fault r a b = let e : Ok n ≡ Err fault = sym a ∙ b in cc

none_of : (stop : Option ℕ) → ((fault : ℕ) → stop ≡ Some fault → ⊥) → stop ≡ None
none_of None never = refl
none_of (Some n) never = absurd (never n refl)

stop_stays : (stop : Option ℕ) → stop_after stop None ≡ stop
stop_stays None = refl
stop_stays (Some n) = refl

pub returns-in-Ok-clause-ok : goal.returns-in-Ok-clause-ok
returns-in-Ok-clause-ok g c = record {
  going = none_of (g.D.Door.store c.args.store.now).stop (λ fault is. not_ok c.in-Ok.number (refusal.Stopped fault) c.fsync.result c.in-Ok.is ((c.fsync.ensures.stopped fault).1 is));
  fits = c.fitting_law.ensures;
  synced = λ visible. record {
    changed = λ records delta not l has may next. c.in-Ok.ensures.ok visible records delta not l has may next;
    same = λ same l has may. c.in-Ok.ensures.empty_ok visible same l has may;
    freed = ap (λ (s : Space). s.free) c.in-Ok.ensures.freed;
    geometry = c.fsync.ensures.geometry;
  };
  stages = λ visible. record { changed = λ records delta not l has may next. c.fsync.ensures.crash visible records delta not l has may next; same = λ same l has may. c.fsync.ensures.empty_crash visible same l has may };
  freed = ap (λ (s : Space). s.free) c.in-Ok.ensures.freed;
  geometry = c.fsync.ensures.geometry;
  sectors = c.fsync.ensures.sectors;
  faults = subst (IsTold (g.D.Door.store c.args.store.now).faults (g.D.Door.store c.fsync.new.door).faults) (ap fault_in c.in-Ok.is) c.fsync.ensures.cause;
  stop = c.fsync.ensures.stop ∙ ap (stop_after (g.D.Door.store c.args.store.now).stop) (ap fault_in c.in-Ok.is) ∙ stop_stays (g.D.Door.store c.args.store.now).stop;
  committed = c.in-Ok.ensures.committed;
}

abbrev refused_by : StoreFault → Result ℕ StoreFault
refused_by fault = Err fault

same_refusal : (a b : StoreFault) → refused_by a ≡ refused_by b → a ≡ b
same_refusal a b e = cc

pub returns-in-Err-clause-err : goal.returns-in-Err-clause-err
returns-in-Err-clause-err g c fault same = subst (λ (f : StoreFault). HasNotPassed g.D.Door.visible g.D.Door.keeps (g.D.Door.store c.args.store.now) (g.D.Door.store c.fsync.new.door) (state_of c.args.file.now c.args.commits.now) (state_of c.fsync.new.hand c.fsync.new.commits) (fault_of f)) (same_refusal c.in-Err.fault fault same) (record {
  fits = c.fitting_law.ensures;
  failed = λ visible. by visible (g.D.Door.store c.args.store.now).stop refl;
  stages = λ visible. record { changed = λ records delta not l has may next. c.fsync.ensures.crash visible records delta not l has may next; same = λ same l has may. c.fsync.ensures.empty_crash visible same l has may };
  unfreed = c.in-Err.ensures.unfreed;
  geometry = c.fsync.ensures.geometry;
  sectors = c.fsync.ensures.sectors;
  cause = subst (IsTold (g.D.Door.store c.args.store.now).faults (g.D.Door.store c.fsync.new.door).faults) (ap fault_in c.in-Err.is) c.fsync.ensures.cause;
  stop = c.fsync.ensures.stop ∙ ap (stop_after (g.D.Door.store c.args.store.now).stop) (ap fault_in c.in-Err.is);
  kept = c.in-Err.ensures.kept;
})
  where
    of : IsTrue g.D.Door.visible → (g.D.Door.store c.args.store.now).stop ≡ None → (f : StoreFault) → c.in-Err.fault ≡ f
        → HasWritten (g.D.Door.store c.args.store.now) (g.D.Door.store c.fsync.new.door) (state_of c.args.file.now c.args.commits.now) ⊎ HasFailed (g.D.Door.store c.args.store.now) (g.D.Door.store c.fsync.new.door) (state_of c.args.file.now c.args.commits.now)
    of told going (refusal.Device n) e = inr (record {
      stopped = ap is_some (c.fsync.ensures.stop ∙ ap (λ o. stop_after o (fault_in c.fsync.result)) going ∙ ap fault_in (c.in-Err.is ∙ ap Err e));
      changed = λ records delta some l has may next. c.fsync.ensures.device told records delta some n (c.in-Err.is ∙ ap Err e) l has may next;
      same = λ same l has may. c.in-Err.ensures.empty_device told same l has may;
      sectors = c.fsync.ensures.sectors;
      geometry = c.fsync.ensures.geometry;
    })
    of told going (refusal.Stopped n) e = (let clash = sym going ∙ (c.fsync.ensures.stopped n).0 (c.in-Err.is ∙ ap Err e) in absurd cc)
    of told going (refusal.NoSpace need had) e = (let clash : true ≡ false = ap is_no_space (sym e) ∙ c.in-Err.ensures.refused in absurd cc)
    of told going (refusal.Lack w) e = inl (record {
      written = λ l has may. c.fsync.ensures.memory told w (c.in-Err.is ∙ ap Err e) l has may;
      unfreed = c.in-Err.ensures.unfreed;
      geometry = c.fsync.ensures.geometry;
    })

    by : IsTrue g.D.Door.visible → (stop : Option ℕ) → (g.D.Door.store c.args.store.now).stop ≡ stop
        → (g.D.Door.store c.fsync.new.door ≡ g.D.Door.store c.args.store.now) ⊎ (((g.D.Door.store c.args.store.now).stop ≡ None) × (HasWritten (g.D.Door.store c.args.store.now) (g.D.Door.store c.fsync.new.door) (state_of c.args.file.now c.args.commits.now) ⊎ HasFailed (g.D.Door.store c.args.store.now) (g.D.Door.store c.fsync.new.door) (state_of c.args.file.now c.args.commits.now)))
    by told None e = inr (e, of told e c.in-Err.fault refl)
    by told (Some n) e = inl (c.fsync.ensures.still n e)

pub returns-in-Err-clause-stopped : goal.returns-in-Err-clause-stopped
returns-in-Err-clause-stopped g c fault is =
    let was = (c.fsync.ensures.stopped fault).0 (c.in-Err.is ∙ is) in
    ap (λ (s : StoreState). s.stop) (c.fsync.ensures.still fault was) ∙ was

pub returns-in-Ok-clause-halts : goal.returns-in-Ok-clause-halts
returns-in-Ok-clause-halts g c = c.fsync.ensures.stop ∙ ap (stop_after (g.D.Door.store c.args.store.now).stop) (ap fault_in c.in-Ok.is)

pub returns-in-Err-clause-halts : goal.returns-in-Err-clause-halts
returns-in-Err-clause-halts g c = c.fsync.ensures.stop ∙ ap (stop_after (g.D.Door.store c.args.store.now).stop) (ap fault_in c.in-Err.is)

pub returns-in-Ok-clause-halted : goal.returns-in-Ok-clause-halted
returns-in-Ok-clause-halted g c fault is = sym c.in-Ok.is ∙ (c.fsync.ensures.stopped fault).1 is

pub returns-in-Err-clause-halted : goal.returns-in-Err-clause-halted
returns-in-Err-clause-halted g c fault is = sym c.in-Err.is ∙ (c.fsync.ensures.stopped fault).1 is

pub returns-in-Ok-clause-ran : goal.returns-in-Ok-clause-ran
returns-in-Ok-clause-ran g c = record { count = subst (IsTold (g.D.Door.store c.args.store.now).faults (g.D.Door.store c.fsync.new.door).faults) (ap fault_in c.in-Ok.is) c.fsync.ensures.cause; raised = c.fsync.ensures.raised }

pub returns-in-Err-clause-ran : goal.returns-in-Err-clause-ran
returns-in-Err-clause-ran g c = record { count = subst (IsTold (g.D.Door.store c.args.store.now).faults (g.D.Door.store c.fsync.new.door).faults) (ap fault_in c.in-Err.is) c.fsync.ensures.cause; raised = c.fsync.ensures.raised }
