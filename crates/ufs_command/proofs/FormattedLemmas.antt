-- A workload over a disk that was formatted for it.
use Rattle.std.proofs.Common.{◌≡◌, ◌≢◌, ◌<◌, ◌≤◌, ◌⊎◌, ◌∙◌, inl, inr, ℕ, List, [], None, Bool, ap, sym, subst, refl, arith}
use Rattle.std.specs.Prelude.{IsTrue}
use Rattle.ufs_base.specs.Faults.{RoseTo, raised}
use Rattle.ufs_bench.specs.Workload.{bench_geometry}
use Rattle.ufs_disk.specs.Moments.{Moments, LeavesOnly, reads}
use Rattle.ufs_promise_laws.specs.Last.{StandsForTree}
use Rattle.ufs_layout.specs.Areas.{geometry_refusal, sector_count}
use Rattle.ufs_model.specs.History.{joined, tree_after}
use Rattle.ufs_model.specs.PosixTree.{root_alone}
use Rattle.ufs_model.specs.declared.data.Entry.{Entry}
use Rattle.ufs_model.specs.declared.data.Op.{Op}
use Rattle.ufs_recover.specs.Stopped.{IsNewDisk, IsStopped}
use Rattle.ufs_recover.specs.Tables.{IsOutside}
use Rattle.ufs_recovery.specs.Recovered.{IsCleanDisk}
use Rattle.ufs_command.specs.declared.ending.Ending.{Ending}
use Rattle.ufs_command.specs.declared.ending.Ending.TheVariants.{DeviceFault, OutOfMemory, TooSmall}
use Rattle.ufs_command.specs.Bench.{EndsBench, EndsMeasured, IsOnceFormatted}
use Rattle.ufs_command.specs.Endings.{IsAnswer, IsFixed, IsLine}
use Rattle.ufs_command.specs.Left.{Benches, Formats, Plays}
use Rattle.ufs_command.specs.Seen.{Course, Formatting, Writing, course, formatting}
use Rattle.ufs_command.specs.Texts.{device_line}
use Rattle.ufs_command.proofs.AnswerLemmas.{answer_map}
use Rattle.ufs_command.proofs.BenchLemmas.{begins, may}

-- its geometry is taken
taken : geometry_refusal bench_geometry ≡ None
taken = refl

abbrev IsLarge : ℕ → Type 0
IsLarge sectors = sector_count bench_geometry ≤ sectors

-- what formatting does to a disk that is large enough
formats : {D : Type 0} (status : ℕ) (c : Course D) → IsLarge c.sectors → (IsTrue c.visible → status ≡ 0 → IsNewDisk bench_geometry c.sectors c.to.state)
    → (IsTrue c.visible → LeavesOnly c.keeps (IsStopped bench_geometry c.sectors c.from.state) c.from c.to) → (IsTrue c.visible → (s : ℕ) → IsOutside bench_geometry s → reads c.to s ≡ reads c.from s) → (status ≡ 5 → ⊥) → Formats bench_geometry status c
formats status c large made crash others other = record {
  formatted = made;
  crash = crash;
  others = others;
  refused = λ why. absurd (why taken);
  small = λ less. absurd (omega (arith, less, large));
  starved = λ five. absurd (other five);
}

-- ---- it was formatted, and then the workload was served

module _ {D : Type 0} (visible keeps : Bool) (size : D → ℕ) (moments : D → Moments) (faults : D → ℕ) (old mid new : D) where
  abbrev Crash : Type 0
  Crash = IsTrue visible → LeavesOnly keeps (IsStopped bench_geometry (size old) (moments old).state) (moments old) (moments mid)

  abbrev Others : Type 0
  Others = IsTrue visible → (s : ℕ) → IsOutside bench_geometry s → reads (moments mid) s ≡ reads (moments old) s

  abbrev d : Formatting
  d = formatting visible size moments faults old new

  -- as it is seen once it was formatted
  abbrev f : Formatting
  f = formatting visible size moments faults mid new

  abbrev whole : Course D
  whole = course visible keeps size moments faults old new

  abbrev session : Course D
  session = course visible keeps size moments faults mid new

  module _ (large : IsLarge (size old)) (sized : size mid ≡ size old) (calm : faults mid ≡ faults old) (made : IsTrue visible → IsNewDisk bench_geometry (size old) (moments mid).state) where
    once : IsOnceFormatted d f
    once = record { visible = refl; sectors = sized; before = calm; now = refl; made = made }

    pub formatted_ends : (clients : List (List Op)) (told : List (List Entry)) (w : Writing) (status : ℕ)
        → IsAnswer (EndsMeasured clients f told) w status → IsAnswer (EndsBench clients d told) w status
    formatted_ends clients told w status a =
        answer_map (EndsMeasured clients f told) (EndsBench clients d told) w status (λ ending text e. inr (large, inr (f, once, e))) a

    module _ (told : List (List Entry)) (status : ℕ) (plays : Plays told status session) where
      clean : IsTrue visible → status ≡ 0 → IsCleanDisk (size old) (moments new).state
      clean known zero = subst (λ (n : ℕ). IsCleanDisk n (moments new).state) sized (plays.clean (may d f once known) zero)

      last : IsTrue visible → status ≡ 0 → StandsForTree (size old) (tree_after root_alone (joined told)) (reads (moments new))
      last known zero = subst (λ (n : ℕ). StandsForTree n (tree_after root_alone (joined told)) (reads (moments new))) sized (plays.last (may d f once known) root_alone (begins d f once known) zero)

      played : Plays told status (record whole { old = mid; from = moments mid })
      played = subst (λ (n : ℕ). Plays told status (record session { sectors = size old; before = n })) calm (subst (λ (n : ℕ). Plays told status (record session { sectors = n })) sized plays)

      pub formatted_left : Crash → Others → Benches told status whole
      formatted_left crash others = record {
        steps = inr (mid, moments mid, formats 0 (record whole { new = mid; to = moments mid }) large (λ known zero. made known) crash others (λ five. cc), played);
        small = λ less. absurd (omega (arith, less, large));
        clean = clean;
        last = last;
      }

-- ---- a call of the disk failed while it was formatted

module _ {D : Type 0} (c : Course D) (large : IsLarge c.sectors) (status : ℕ) (is : (status ≡ 4) ⊎ (status ≡ 7)) where
  never : (n : ℕ) → status ≡ n → (n ≡ 4 → ⊥) → (n ≡ 7 → ⊥) → ⊥
  never n e four seven = elim is [ inl x ↦ four (sym e ∙ x) | inr x ↦ seven (sym e ∙ x) ]

  pub stopped_left : (told : List (List Entry)) → told ≡ [] → (IsTrue c.visible → LeavesOnly c.keeps (IsStopped bench_geometry c.sectors c.from.state) c.from c.to)
      → (IsTrue c.visible → (s : ℕ) → IsOutside bench_geometry s → reads c.to s ≡ reads c.from s) → Benches told status c
  stopped_left told none crash others = record {
    steps = inl (none, formats status c large (λ known zero. absurd (never 0 zero (λ e. cc) (λ e. cc))) crash others (λ five. never 5 five (λ e. cc) (λ e. cc)));
    small = λ less. absurd (omega (arith, less, large));
    clean = λ known zero. absurd (never 0 zero (λ e. cc) (λ e. cc));
    last = λ known zero. absurd (never 0 zero (λ e. cc) (λ e. cc));
  }

pub stopped_ends : (clients : List (List Op)) (d : Formatting) (told : List (List Entry)) (w : Writing) (status fault : ℕ) → IsLarge d.sectors → told ≡ [] → RoseTo d.before d.now fault
    → IsAnswer (IsLine DeviceFault (device_line fault)) w status → IsAnswer (EndsBench clients d told) w status
stopped_ends clients d told w status fault large none rose a =
    answer_map (IsLine DeviceFault (device_line fault)) (EndsBench clients d told) w status (λ ending text e. inr (large, inl (none, inr (rose.rose, (e.0, e.1 ∙ ap device_line rose.number))))) a

-- ---- it wasn't touched

pub small_ends : (clients : List (List Op)) (d : Formatting) (told : List (List Entry)) (w : Writing) (status : ℕ) → d.sectors < sector_count bench_geometry → told ≡ [] → d.now ≡ d.before
    → IsAnswer (IsFixed TooSmall) w status → IsAnswer (EndsBench clients d told) w status
small_ends clients d told w status less none calm a = answer_map (IsFixed TooSmall) (EndsBench clients d told) w status (λ ending text e. inl (less, none, calm, e)) a

pub lacking_ends : (clients : List (List Op)) (d : Formatting) (told : List (List Entry)) (w : Writing) (status : ℕ) → IsLarge d.sectors → told ≡ [] → d.now ≡ d.before
    → IsAnswer (IsFixed OutOfMemory) w status → IsAnswer (EndsBench clients d told) w status
lacking_ends clients d told w status large none calm a = answer_map (IsFixed OutOfMemory) (EndsBench clients d told) w status (λ ending text e. inr (large, inl (none, inl (calm, e)))) a

pub small_status : (status : ℕ) → (status ≡ 3) ⊎ (status ≡ 7) → status ≡ 0 → ⊥
small_status status (inl three) zero = omega (arith, three, zero)
small_status status (inr seven) zero = omega (arith, seven, zero)
