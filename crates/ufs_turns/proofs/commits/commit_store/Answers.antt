use Rattle.std.proofs.Common.{◌≡◌, inl, ℕ, Option, Some, None, Ok, Err, Result, ap, sym, subst, refl, ◌∙◌, arith}
use Rattle.ufs_store.specs.Refusals.{fault_of, stop_after}
use Rattle.ufs_store.specs.declared.fault.StoreFault.{StoreFault}
use Rattle.ufs_store.specs.declared.fault.StoreFault.TheVariants as refusal
use Rattle.ufs_turns.specs.NamesLent.{HaveNotPassed}
use Rattle.ufs_turns.proofs.commits.commit_store.Goals as goal

abbrev refused_by : StoreFault → Result (Unit {0}) StoreFault
refused_by fault = Err fault

same_refusal : (a b : StoreFault) → refused_by a ≡ refused_by b → a ≡ b
same_refusal a b e = cc

stop_stays : (stop : Option ℕ) → stop ≡ stop_after stop None
stop_stays None = refl
stop_stays (Some n) = refl

none_some : (stop : Option ℕ) (n : ℕ) → stop ≡ Some n → stop ≡ None → ⊥
none_some stop n a b = let e : Some n ≡ None = sym a ∙ b in cc

pub returns-in-Some-clause-err : goal.returns-in-Some-clause-err
returns-in-Some-clause-err g c fault same =
    let s = g.D.Door.store c.args.store.now in
    subst (λ (f : StoreFault). HaveNotPassed g.D.Door.visible g.D.Door.keeps s s c.args.fresh.now.items c.args.names.now.tree.noted (fault_of f)) (same_refusal (refusal.Stopped c.in-Some.fault) fault same) (record {
      failed = λ visible. inl refl;
      tried = record {
        moments = λ visible start history p have on. absurd (none_some s.stop c.in-Some.fault (sym c.stopped.ensures ∙ c.in-Some.is) on.has.going);
        unassigned = refl;
        geometry = refl;
        sectors = refl;
        cause = refl;
        stop = stop_stays s.stop;
      };
    })

pub returns-in-Some-clause-halts : goal.returns-in-Some-clause-halts
returns-in-Some-clause-halts g c = stop_stays (g.D.Door.store c.args.store.now).stop

pub returns-in-Some-clause-halted : goal.returns-in-Some-clause-halted
returns-in-Some-clause-halted g c fault is = ap stopped_at (sym c.in-Some.is ∙ c.stopped.ensures ∙ is)
  where
    stopped_at : Option ℕ → Result (Unit {0}) StoreFault
    stopped_at None = Err (refusal.Stopped 0)
    stopped_at (Some n) = Err (refusal.Stopped n)

told_stop : Result (Unit {0}) StoreFault → Option ℕ
told_stop (Ok x) = None
told_stop (Err (refusal.Stopped n)) = Some n
told_stop (Err (refusal.Device n)) = None
told_stop (Err (refusal.NoSpace need had)) = None
told_stop (Err (refusal.Lack w)) = None

pub returns-in-Some-clause-stopped : goal.returns-in-Some-clause-stopped
unfolding told_stop
returns-in-Some-clause-stopped g c fault same = sym c.stopped.ensures ∙ c.in-Some.is ∙ ap told_stop same

pub returns-in-Some-clause-ran : goal.returns-in-Some-clause-ran
returns-in-Some-clause-ran g c = record { count = refl; raised = record { epoch = omega arith; epoch_most = omega arith; number = omega arith; number_most = omega arith } }
