-- Nothing was committed, and the image is left in use.
use Rattle.std.proofs.Common.{◌≡◌, ℕ, Bool, true, false, List, Option, Some, None, Result, Err, ap, refl}
use Rattle.std.specs.Prelude.{◌↔◌}
use Rattle.ufs_base.specs.declared.lack.Lack.TheVariants as lack
use Rattle.ufs_base.specs.declared.memory.Memory.{Memory}
use Rattle.ufs_disk.specs.Moments.{Moments}
use Rattle.ufs_disk.proofs.Runs.{started}
use Rattle.ufs_brink.specs.Closes.{closing_fault}
use Rattle.ufs_brink.specs.declared.closing.CloseFault.{CloseFault}
use Rattle.ufs_brink.specs.declared.closing.CloseFault.TheVariants as cause
use Rattle.ufs_joint.specs.Cells.{FileCell, NamesCell, Start}
use Rattle.ufs_model.specs.declared.data.Entry.{Entry}
use Rattle.ufs_promise_laws.specs.OnDisk.{IsExplainedImage}
use Rattle.ufs_store.specs.State.{StoreState}
use Rattle.ufs_gathered.specs.Ended.{HasEnded}
use Rattle.ufs_gathered.specs.Finished.{EndsBy, HasFinished, left_by}

ends_left : (stop : Option ℕ) (count : ℕ) (memory : Memory) → EndsBy false stop count count (Err (left_by stop memory))
ends_left None count memory = (refl, refl)
ends_left (Some n) count memory = (refl, refl, refl)

pub tells_left : (stop : Option ℕ) (memory : Memory) (fault : ℕ) → (◌≡◌ {A = Result (Unit {0}) CloseFault} (Err (left_by stop memory)) (Err (cause.Stopped fault))) ↔ (stop ≡ Some fault)
tells_left None memory fault = (
  λ e. let lacks : ◌≡◌ {A = Result (Unit {0}) CloseFault} (Err (cause.Lack (lack.Memory memory))) (Err (cause.Stopped fault)) = e in absurd cc,
  λ e. let none : None ≡ Some fault = e in absurd cc,
)
tells_left (Some n) memory fault = (
  λ e. let same : ◌≡◌ {A = Result (Unit {0}) CloseFault} (Err (cause.Stopped n)) (Err (cause.Stopped fault)) = e in cc,
  λ e. ap (λ (m : Option ℕ). Err (left_by m memory)) e,
)

-- it tells no fault of the device
pub none_left : (stop : Option ℕ) (memory : Memory) → closing_fault (Err (left_by stop memory)) ≡ None
none_left None memory = refl
none_left (Some n) memory = refl

module _ (k : Start) (origin : Moments) (keeps : Bool) (tickets : ℕ) (lists : List (List Entry)) (names : NamesCell) (files : List FileCell) (s : StoreState) (session : HasEnded k origin keeps tickets lists names files s) (memory : Memory) where
  uncommitted : {P : Type 0} → false ≡ true → P
  uncommitted all = absurd cc

  pub left_open : HasFinished k origin keeps tickets lists (Err memory) s.sectors s.faults s.moments (Err (left_by s.stop memory))
  left_open = record {
    names = names;
    files = files;
    store = s;
    session = session;
    measured = tt;
    all = false;
    ends = ends_left s.stop s.faults memory;
    size = refl;
    moments = λ seen. started keeps (IsExplainedImage s.sectors session.start session.history) s.moments (session.crash seen);
    last = λ seen all. uncommitted all;
    sound = λ seen all. uncommitted all;
    clean = λ seen. tt;
    recovered = λ seen. tt;
  }
