-- Rows of histories: the excuses of one have their cause, and those of the others have none.
use Rattle.std.proofs.Common.{◌≡◌, ℕ, inl, inr, arith, true, false, [], ◌∷◌, Option, Some, None, refl}
use Rattle.ufs_model.specs.declared.data.Actor.TheVariants as actor
use Rattle.ufs_model.specs.declared.data.Entry.{Entry}
use Rattle.ufs_model.specs.declared.data.Errno.TheVariants as errno
use Rattle.ufs_model.specs.declared.data.Excuse.TheVariants as excuse
use Rattle.ufs_model.specs.declared.data.Op.{Op}
use Rattle.ufs_model.specs.declared.data.Op.TheVariants as op
use Rattle.ufs_model.specs.declared.data.Reply.{Reply}
use Rattle.ufs_model.specs.declared.data.Reply.TheVariants as reply
use Rattle.ufs_told.specs.Told.{AreFaultsCaused, AreToldStop, TellsStop, reads_in}
use Rattle.ufs_hand_laws.specs.Owned.{Has}

abbrev pub row : Op → Reply → Entry
row request answer = record { ticket = 0; client = 0; seq = 0; by = actor.Primary; op = request; reply = answer }

abbrev pub opens : Entry
opens = row (op.OpenFile [] true true true false false false) (reply.Fd 0)

-- a read that fails, and is told the fault
abbrev pub fails : ℕ → Entry
fails fault = row (op.Read 0 1) (reply.Excused (excuse.Device fault))

abbrev pub writes : Entry
writes = row (op.Write 0 (1 ∷ [])) (reply.Count 1)

-- a sync at which the store stops, and one behind it
abbrev pub stops : ℕ → Entry
stops fault = row (op.Fsync 0) (reply.Excused (excuse.Device fault))

abbrev pub halts : ℕ → Entry
halts fault = row op.Sync (reply.Excused (excuse.Stopped fault))

abbrev pub refuses : Entry
refuses = row (op.Fsync 7) (reply.Refused errno.Ebadf)

-- what tells a stop
none : (k : ℕ) → TellsStop opens k → ⊥
none k (inl is) = cc
none k (inr is) = cc

none_written : (k : ℕ) → TellsStop writes k → ⊥
none_written k (inl is) = cc
none_written k (inr is) = cc

none_refused : (k : ℕ) → TellsStop refuses k → ⊥
none_refused k (inl is) = cc
none_refused k (inr is) = cc

none_read : (fault k : ℕ) → TellsStop (fails fault) k → ⊥
none_read fault k (inl is) = cc
none_read fault k (inr is) = cc

stops_at : (fault k : ℕ) → TellsStop (stops fault) k → Some fault ≡ Some k
stops_at fault k (inl is) = cc
stops_at fault k (inr is) = is.1

halts_at : (fault k : ℕ) → TellsStop (halts fault) k → Some fault ≡ Some k
halts_at fault k (inl is) = is
halts_at fault k (inr is) = cc

-- The second request's read fails, the store stops at the fourth, and reads go on behind it.
pub rows_caused : AreFaultsCaused (opens ∷ fails 1 ∷ writes ∷ stops 2 ∷ halts 2 ∷ fails 3 ∷ refuses ∷ halts 2 ∷ [])
rows_caused = record {
  asked = ((λ k is. cc), ((λ k is. cc), ((λ k is. cc), ((λ k is. cc), ((λ k is. refl), ((λ k is. cc), ((λ k is. cc), ((λ k is. refl), tt))))))));
  halted = (
    (λ k tells. absurd (none k tells)),
    (
      (λ k tells. absurd (none_read 1 k tells)),
      (
        (λ k tells. absurd (none_written k tells)),
        (
          (λ k tells. let is = stops_at 2 k tells in ((λ kind plain. is), ((λ kind plain. cc), ((λ kind plain. cc), ((λ kind plain. is), tt))))),
          (
            (λ k tells. let is = halts_at 2 k tells in ((λ kind plain. cc), ((λ kind plain. cc), ((λ kind plain. is), tt)))),
            ((λ k tells. absurd (none_read 3 k tells)), ((λ k tells. absurd (none_refused k tells)), ((λ k tells. tt), tt))),
          ),
        ),
      ),
    ),
  );
  rising = ((omega arith, (omega arith, tt)), ((omega arith, tt), (tt, tt)));
  turns = ((λ k is. cc), ((λ k is. refl), ((λ k is. cc), ((λ k is. refl), ((λ k is. cc), ((λ k is. refl), ((λ k is. cc), ((λ k is. cc), tt))))))));
}

-- ---- rows without a cause

no_some : (n : ℕ) → ◌≡◌ {A = Option ℕ} None (Some n) → ⊥
no_some n is = absurd cc

same_number : (m n : ℕ) → ◌≡◌ {A = Option ℕ} (Some m) (Some n) → m ≡ n
same_number m n is = cc

-- a write is told that the store had stopped
pub write_halted : AreFaultsCaused (row (op.Write 0 []) (reply.Excused (excuse.Stopped 1)) ∷ []) → ⊥
write_halted is = (let no : false ≡ true = is.asked.0 1 refl in cc)

-- a sync is acknowledged behind the stop
pub sync_acknowledged : AreFaultsCaused (stops 2 ∷ row op.Sync reply.Done ∷ []) → ⊥
sync_acknowledged is = no_some 2 ((is.halted.0 2 (inr (refl, refl))).0 refl refl)

-- or told that the store had stopped at another fault
pub other_stop : AreFaultsCaused (halts 2 ∷ halts 3 ∷ []) → ⊥
other_stop is = omega (arith, same_number 3 2 ((is.halted.0 2 (inl refl)).0 refl refl))

-- a fault is told again, or one before it
pub told_again : AreFaultsCaused (fails 1 ∷ fails 1 ∷ []) → ⊥
told_again is = omega (arith, is.rising.0.0)

pub told_back : AreFaultsCaused (fails 2 ∷ fails 1 ∷ []) → ⊥
told_back is = omega (arith, is.rising.0.0)

-- a `stat` is told a fault
pub stat_fails : AreFaultsCaused (row (op.Stat []) (reply.Excused (excuse.Device 1)) ∷ []) → ⊥
stat_fails is = (let no : false ≡ true = is.turns.0 1 refl in cc)

-- the fault of a read is told as that of the stop
pub read_stops : (stop : Option ℕ) → AreToldStop stop (fails 1 ∷ halts 1 ∷ []) → ((fault : ℕ) → stop ≡ Some fault → Has fault (reads_in (fails 1 ∷ halts 1 ∷ [])) → ⊥) → ⊥
read_stops stop told apart = apart 1 (told.1.0 1 (inl refl)) (inl refl)
