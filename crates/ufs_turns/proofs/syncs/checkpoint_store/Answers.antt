use Rattle.std.proofs.Common.{◌≡◌, ◌⊎◌, inl, inr, ℕ, true, false, Option, Some, None, is_some, Ok, Err, Result, ap, sym, subst, refl, ◌∙◌}
use Rattle.std.specs.Prelude.{IfErr, IsTrue, OnOk}
use Rattle.ufs_joint.specs.Checkpoints.{HasBegunAnew}
use Rattle.ufs_ledger.specs.Ledger.{Ledger}
use Rattle.ufs_store.specs.Ledgers.{HasLedger, checkpointed}
use Rattle.ufs_store.specs.Refusals.{fault_in, is_no_space, stop_after}
use Rattle.ufs_store.specs.State.{StoreState}
use Rattle.ufs_store.specs.declared.fault.StoreFault.{StoreFault}
use Rattle.ufs_store.specs.declared.fault.StoreFault.TheVariants as refusal
use Rattle.ufs_turns.proofs.syncs.checkpoint_store.Goals as goal

pub checkpoint-requires : goal.checkpoint-requires
checkpoint-requires g c = record { stamped = λ stamped. absurd (c.requires.plain stamped) }

pub returns-clause-made : goal.returns-clause-made
returns-clause-made g c = record {
  made = λ visible. by visible (g.D.Door.store c.args.store.now).stop refl;
  crash = λ visible. c.checkpoint.ensures.crash visible;
  unassigned = c.checkpoint.ensures.blocks;
  geometry = c.checkpoint.ensures.geometry;
  sectors = c.checkpoint.ensures.sectors;
  cause = c.checkpoint.ensures.cause;
  stop = c.checkpoint.ensures.stop;
}
  where
    at : IsTrue g.D.Door.visible → (g.D.Door.store c.args.store.now).stop ≡ None → (r : Result (Unit {0}) StoreFault) → c.checkpoint.result ≡ r → IfErr r (λ fault. is_no_space fault ≡ false) → OnOk r ((l : Ledger) → HasLedger (g.D.Door.store c.args.store.now) l → HasLedger (g.D.Door.store c.checkpoint.new.self) (checkpointed (g.D.Door.store c.args.store.now) l))
        → (g.D.Door.store c.checkpoint.new.self ≡ g.D.Door.store c.args.store.now) ⊎ (((g.D.Door.store c.args.store.now).stop ≡ None) × HasBegunAnew (g.D.Door.store c.args.store.now) (g.D.Door.store c.checkpoint.new.self))
    at told going (Ok x) e refused ok = inr (going, inl ok)
    at told going (Err (refusal.Device n)) e refused ok = inr (going, inr (ap is_some (c.checkpoint.ensures.stop ∙ (λ i. stop_after (going i) (fault_in (e i)))), c.checkpoint.ensures.device told n e))
    at told going (Err (refusal.Stopped n)) e refused ok = (let clash = sym going ∙ (c.checkpoint.ensures.stopped n).0 e in absurd cc)
    at told going (Err (refusal.NoSpace need had)) e refused ok = (let clash : true ≡ false = refused in absurd cc)
    at told going (Err (refusal.Lack w)) e refused ok = inl (c.checkpoint.ensures.memory w e)

    by : IsTrue g.D.Door.visible → (stop : Option ℕ) → (g.D.Door.store c.args.store.now).stop ≡ stop
        → (g.D.Door.store c.checkpoint.new.self ≡ g.D.Door.store c.args.store.now) ⊎ (((g.D.Door.store c.args.store.now).stop ≡ None) × HasBegunAnew (g.D.Door.store c.args.store.now) (g.D.Door.store c.checkpoint.new.self))
    by told None e = at told e c.checkpoint.result refl c.checkpoint.ensures.refused (c.checkpoint.ensures.ok told)
    by told (Some n) e = inl (c.checkpoint.ensures.still n e)

pub returns-clause-stopped : goal.returns-clause-stopped
returns-clause-stopped g c fault is =
    let was = (c.checkpoint.ensures.stopped fault).0 is in
    ap (λ (s : StoreState). s.stop) (c.checkpoint.ensures.still fault was) ∙ was

pub returns-clause-halted : goal.returns-clause-halted
returns-clause-halted g c fault is = (c.checkpoint.ensures.stopped fault).1 is

pub returns-clause-ran : goal.returns-clause-ran
returns-clause-ran g c = record { count = c.checkpoint.ensures.cause; raised = c.checkpoint.ensures.raised }
