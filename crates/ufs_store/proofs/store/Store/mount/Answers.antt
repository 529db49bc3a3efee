use Rattle.std.proofs.Common.{◌≡◌, ℕ, refl, sym, subst, arith}
use Rattle.ufs_disk.specs.Disk.{State}
use Rattle.ufs_layout.specs.declared.geometry.Geometry.{Geometry}
use Rattle.ufs_journal.specs.Kept.{IsReady, IsUnused}
use Rattle.ufs_base.specs.declared.lack.Lack.TheVariants.{Memory}
use Rattle.ufs_store.specs.Ends.{IsMemory}
use Rattle.ufs_store.proofs.store.Store.mount.Goals as goal

pub returns-in-Err-clause-err_crash : goal.returns-in-Err-clause-err_crash
returns-in-Err-clause-err_crash g c visible is some = absurd (some _ refl)

pub returns-in-Err-clause-lack : goal.returns-in-Err-clause-lack
returns-in-Err-clause-lack g c w is = subst IsMemory (let same : Memory c.in-Err.memory ≡ w = (let both = is in cc) in same) tt

pub returns-in-Ok-mark_in_use-clause-crash : goal.returns-in-Ok-mark_in_use-clause-crash
returns-in-Ok-mark_in_use-clause-crash g c visible is = c.mark_in_use.ensures.crash visible c.args.superblock refl is

pub returns-in-Err-mark_in_use-clause-err_crash : goal.returns-in-Err-mark_in_use-clause-err_crash
returns-in-Err-mark_in_use-clause-err_crash g c visible is some = c.mark_in_use.ensures.crash visible c.args.superblock refl is

pub returns-in-Ok-mark_in_use-clause-ok : goal.returns-in-Ok-mark_in_use-clause-ok
returns-in-Ok-mark_in_use-clause-ok g c visible is =
    let j = c.in-Ok.tables.journal in
    let made = c.in-Ok.ensures.journal in
    let state : State = (g.D.Disk.moments c.mark_in_use.new.disk).state in
    let earlier = c.in-Ok-mark_in_use.ensures.earlier visible c.args.superblock refl is in
    let number = made.2 in
    record {
      going = c.in-Ok.ensures.going;
      by = record {
        is = c.in-Ok-mark_in_use.ensures.ok visible c.args.superblock refl is;
        none = refl;
        in_use = refl;
        geometry = sym made.0;
        epoch = sym made.1;
        later = omega (arith, number);
        ready = subst (λ (x : Geometry × ℕ × ℕ × ℕ). IsReady x.0 x.1 x.2 x.3 state) (λ i. (sym made.0 i, sym made.1 i, sym made.3 i, sym made.2 i)) (c.in-Ok.ensures.ready state earlier);
      };
      superblock_is = sym c.in-Ok.ensures.superblock;
      added = c.in-Ok.ensures.overlay;
      numbered = refl;
      unused = λ txn _. subst (λ (x : Geometry × ℕ). IsUnused x.0 x.1 txn state) (λ i. (sym made.0 i, sym made.1 i)) (c.in-Ok.ensures.unused state earlier txn);
      settled = λ _ _. refl;
      older = λ inode ranged. let low = is.numbers inode ranged in omega (arith, low, number);
      fits = omega (arith, number);
    }
