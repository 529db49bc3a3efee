-- Where there was no memory for the words: nothing is done, whatever they are.
use Rattle.std.proofs.Common.{◌≡◌, ◌⊎◌, inl, inr, ℕ, ◌≤◌, List, [], Option, Some, None, ap, sym, subst, refl, arith}
use Rattle.ufs_base.specs.Faults.{raised}
use Rattle.ufs_bench.specs.Workload.{bench_geometry, workload_of}
use Rattle.ufs_metadata.specs.Reading.{IsReadOnly}
use Rattle.ufs_disk.specs.Disk.{IsImage}
use Rattle.ufs_disk.specs.Moments.{Moments, reads}
use Rattle.ufs_disk.proofs.Runs.{stays, still}
use Rattle.ufs_layout.specs.declared.geometry.Geometry.{Geometry}
use Rattle.ufs_model.specs.declared.data.Entry.{Entry}
use Rattle.ufs_model.specs.declared.data.Op.{Op}
use Rattle.ufs_recover.specs.Stopped.{IsStopped}
use Rattle.ufs_recovery.specs.Home.{OpensAlike}
use Rattle.ufs_recovery.specs.Recovered.{IsProperDisk}
use Rattle.ufs_script.specs.Reading.{LongerIsAlike}
use Rattle.ufs_command.specs.declared.ending.Ending.TheVariants.{OutOfMemory}
use Rattle.ufs_command.specs.declared.words.Command.{Command}
use Rattle.ufs_command.specs.declared.words.Command.TheVariants as command
use Rattle.ufs_command.specs.Endings.{IsAnswer, IsFixed}
use Rattle.ufs_command.specs.Ends.{Ends, EndsCommand}
use Rattle.ufs_command.specs.Laws.{StandsAsBegun}
use Rattle.ufs_command.specs.Left.{ActsOn, Benches, Formats, LeavesDisk, Recovers}
use Rattle.ufs_command.specs.Seen.{Course, Formatting, Reading, Writing}
use Rattle.ufs_command.specs.Texts.{memory_line}
use Rattle.ufs_command.specs.Told.{Tells, TellsBench, TellsMkfs}
use Rattle.ufs_command.proofs.AnswerLemmas.{answer_line, answer_map}
use Rattle.ufs_command.proofs.LeftLemmas.{none_faults, unread_left}
use Rattle.ufs_command.proofs.ToldLemmas.{tells}

-- ---- the answer

pub command_ends : (words : Option Command) (r : Reading) (d : Formatting) (told : List (List Entry)) (w : Writing) (status : ℕ) → IsAnswer (EndsCommand words r d told) w status → IsAnswer (Ends words r d told) w status
command_ends words r d told w status a = answer_map (EndsCommand words r d told) (Ends words r d told) w status (λ ending text e. inl e) a

pub lacking : (words : Option Command) (r : Reading) (d : Formatting) (told : List (List Entry)) (w : Writing) (status : ℕ) → told ≡ [] → r.rest ≡ r.left → r.now ≡ r.before → d.now ≡ d.before → IsAnswer (IsFixed OutOfMemory) w status → IsAnswer (Ends words r d told) w status
lacking words r d told w status none unread silent calm a =
    answer_map (IsFixed OutOfMemory) (Ends words r d told) w status (λ ending text e. inr (none, unread, silent, calm, e)) a

-- ---- what it tells

-- the status is 5, or 7 of a sink whose count rose
pub lacking_status : (status : ℕ) → (status ≡ 5) ⊎ (status ≡ 7) → status ≡ 0 → ⊥
lacking_status status (inl five) zero = omega (arith, five, zero)
lacking_status status (inr seven) zero = omega (arith, seven, zero)

lacking_five : (w : Writing) (status : ℕ) → IsAnswer (IsFixed OutOfMemory) w status → (status ≡ 5) ⊎ (status ≡ 7) → (w.now ≡ raised w.before → ⊥) → status ≡ 5
lacking_five w status a (inl five) calm = five
lacking_five w status a (inr seven) calm = absurd (calm (a.rose seven))

module _ (alike : LongerIsAlike) (r : Reading) (d : Formatting) (told : List (List Entry)) (w : Writing) (status : ℕ) (none : told ≡ []) (unread : r.rest ≡ r.left) (silent : r.now ≡ r.before) (calm : d.now ≡ d.before) (a : IsAnswer (IsFixed OutOfMemory) w status) (is : (status ≡ 5) ⊎ (status ≡ 7)) where
  -- of a command that may lack memory in the same way
  by_command : (words : Option Command) → EndsCommand words r d told OutOfMemory memory_line → Tells words r d told w status
  by_command words may = tells alike words r d told w status (none_faults d.before d.now told none) (answer_line (EndsCommand words r d told) OutOfMemory memory_line w status may a)

  unformatted : (g : Geometry) → TellsMkfs g d w status
  unformatted g = record {
    made = λ zero. absurd (lacking_status status is zero);
    complete = λ taken large quiet. inr (lacking_five w status a is quiet.sink);
  }

  unserved : (clients : List (List Op)) → TellsBench clients d told w status
  unserved clients = record {
    done = λ zero. absurd (lacking_status status is zero);
    small = λ known three. absurd (not_five_or_seven 3 three (omega arith));
    closing = λ four. absurd (not_five_or_seven 4 four (omega arith));
    faults = none_faults d.before d.now told none;
    complete = λ known large quiet. inr (lacking_five w status a is quiet.sink);
    refused = λ less quiet. inr (lacking_five w status a is quiet);
  }
    where
      not_five_or_seven : (n : ℕ) → status ≡ n → n ≤ 4 → ⊥
      not_five_or_seven n e few = elim is [ inl five ↦ omega (arith, five, e, few) | inr seven ↦ omega (arith, seven, e, few) ]

  pub lacking_told : (words : Option Command) → Tells words r d told w status
  lacking_told None = tt
  lacking_told (Some command.NotBuilt) = tt
  lacking_told (Some (command.Play trace)) = by_command (Some (command.Play trace)) (inl (none, refl))
  lacking_told (Some command.Tree) = by_command (Some command.Tree) (calm, inl refl)
  lacking_told (Some command.Check) = by_command (Some command.Check) (calm, refl)
  lacking_told (Some command.Audit) = by_command (Some command.Audit) (inl (unread, silent, (calm, refl)))
  lacking_told (Some command.Recover) = by_command (Some command.Recover) (calm, refl)
  lacking_told (Some (command.Bench seed)) = unserved (workload_of seed)
  lacking_told (Some (command.Mkfs blocks inodes journal)) = unformatted (record { blocks = blocks; inodes = inodes; journal = journal })

-- ---- the disk is as it was

module _ {D : Type 0} (c : Course D) (untouched : c.new ≡ c.old) (same : c.to ≡ c.from) (status : ℕ) (other : status ≡ 0 → ⊥) where
  only_read : IsReadOnly c.keeps c.from c.to
  only_read = subst (IsReadOnly c.keeps c.from) (sym same) (record { content = refl; crash = stays c.keeps (IsImage c.from.state) c.from c.from refl (λ image left. left); still = still c.keeps c.from })

  formats : (g : Geometry) → Formats g status c
  formats g = record {
    formatted = λ known zero. absurd (other zero);
    crash = λ known. stays c.keeps (IsStopped g c.sectors c.from.state) c.from c.to same (λ image left. inl left);
    others = λ known s outside. ap (λ (m : Moments). reads m s) same;
    refused = λ why. untouched;
    small = λ why. untouched;
    starved = λ five. untouched;
  }

  recovers : Recovers c.keeps c.sectors status c.from c.to
  recovers = record {
    clean = λ zero. absurd (other zero);
    recovered = λ zero. absurd (other zero);
    tree = λ proper. stays c.keeps (OpensAlike c.sectors (reads c.from)) c.from c.to same (λ image left. alike proper image left);
    quiet = λ clean. only_read;
    refused = λ why is. only_read;
  }
    where
      alike : (proper : IsProperDisk c.sectors c.from.state) → (image : _) → IsImage c.from.state image → OpensAlike c.sectors (reads c.from) image
      alike proper image left = subst (OpensAlike c.sectors (reads c.from)) (sym (proper.settled image left)) (record { tree = refl; proper = λ is. is })

  -- nothing was served
  pub benches_left : (told : List (List Entry)) → told ≡ [] → Benches told status c
  benches_left told none = record {
    steps = inl (none, formats bench_geometry);
    small = λ why. untouched;
    clean = λ known zero. absurd (other zero);
    last = λ known zero. absurd (other zero);
  }

  acts : (words : Option Command) (told : List (List Entry)) → StandsAsBegun c.sectors → told ≡ [] → ActsOn words told status c
  acts None told stands none = untouched
  acts (Some command.NotBuilt) told stands none = untouched
  acts (Some (command.Play trace)) told stands none = unread_left c told status stands none untouched same other
  acts (Some command.Tree) told stands none = λ known. only_read
  acts (Some command.Check) told stands none = λ known. only_read
  acts (Some command.Audit) told stands none = λ known. only_read
  acts (Some command.Recover) told stands none = λ known. recovers
  acts (Some (command.Bench seed)) told stands none = benches_left told none
  acts (Some (command.Mkfs blocks inodes journal)) told stands none = formats (record { blocks = blocks; inodes = inodes; journal = journal })

  pub lacking_left : (words : Option Command) (told : List (List Entry)) → StandsAsBegun c.sectors → told ≡ [] → c.sectors_now ≡ c.sectors → c.now ≡ c.before → LeavesDisk words told status c
  lacking_left words told stands none size calm = record {
    acts = acts words told stands none;
    size = size;
    told = λ serves four seven. calm;
    played = λ serves four seven five silent. inl calm;
  }
