-- What turns without a schedule and a worker come to.
use Rattle.std.proofs.Common.{◌≡◌, ◌∙◌, ◌+◌, ◌<◌, ◌≤◌, ℕ, Bool, List, [], ◌∷◌, length, Result, Ok, Err, ap, sym, subst, arith}
use Rattle.std.specs.Prelude.{OnOk}
use Rattle.ufs_base.specs.Images.{Image}
use Rattle.ufs_base.specs.declared.memory.Memory.{Memory}
use Rattle.ufs_brink.specs.Numbers.{ClosesFrom}
use Rattle.ufs_brink.specs.declared.closing.CloseFault.{CloseFault}
use Rattle.ufs_rounds.proofs.OfCaller.{by_the_primary}
use Rattle.ufs_client.specs.Played.{IsMerged}
use Rattle.ufs_disk.specs.Moments.{Moments, reads}
use Rattle.ufs_rounds.specs.OfGathered.{ClosesBy}
use Rattle.ufs_image.specs.Volume.{superblock_of}
use Rattle.ufs_joint.specs.Cells.{Start, StoreCell, View}
use Rattle.ufs_joint.specs.Disks.{cell_of}
use Rattle.ufs_joint.specs.FirstHand.{Beginning, start_first}
use Rattle.ufs_joint.specs.Ready.{IsReady}
use Rattle.ufs_layout.specs.declared.geometry.Geometry.{Geometry}
use Rattle.ufs_model.specs.History.{joined}
use Rattle.ufs_model.specs.declared.data.Entry.{Entry}
use Rattle.ufs_model.specs.declared.data.Op.{Op}
use Rattle.ufs_msg.specs.There.{worker_count}
use Rattle.ufs_rounds.specs.Faults.{counts_in}
use Rattle.ufs_rounds.specs.Played.{AreInTurn, HasPlayed, TellsToEnd}
use Rattle.ufs_rounds.proofs.Entries.{one_history}
use Rattle.ufs_store.specs.State.{StoreState, geometry_of_store}
use Rattle.ufs_told.specs.Told.{AreFaultsTold}
use Rattle.ufs_rounds.specs.OfTurns.{tally_in}
use Rattle.ufs_engine.specs.Asked.{given}
use Rattle.ufs_engine.proofs.Ending.{HasRun}

-- The session's store is as it was mounted.
pub counts_first : (s : StoreState) (first : View) → first.store ≡ (tt, cell_of 0 [] s) ∷ [] → counts_in s first.store ≡ s
counts_first s first has = ap (counts_in s) has

-- It has the geometry of the start.
pub formed_so : (k : Start) (b : Beginning) (s : StoreState) → k ≡ start_first b s → IsReady b s → geometry_of_store s ≡ k.geometry
formed_so k b s from ready = ready.formed ∙ sym (ap (λ (x : Start). x.geometry) from)

-- Its numbers are raised from that cell's.
closes_from : (k : Start) (s : StoreState) → geometry_of_store s ≡ k.geometry → (cells : List (Unit {0} × StoreCell)) (now : Image) → ClosesBy (tally_in cells).epoch (tally_in cells).number k.geometry.inodes now → ClosesFrom (counts_in s cells) now
closes_from k s formed cells now is =
    let same : k.geometry.inodes ≡ (geometry_of_store s).inodes = sym (ap (λ (g : Geometry). g.inodes) formed) in
    record {
      epoch = is.epoch;
      epoch_most = subst (λ (n : ℕ). (superblock_of now).epoch ≤ (tally_in cells).epoch + (n + 3)) same (let most = is.epoch_most in omega (arith, most));
      number_most = subst (λ (n : ℕ). (superblock_of now).next ≤ (tally_in cells).number + (n + 2)) same (let most = is.number_most in omega (arith, most));
    }

closes_so : (k : Start) (s : StoreState) → geometry_of_store s ≡ k.geometry → (cells : List (Unit {0} × StoreCell)) (now : Image) (closed : Result (Unit {0}) CloseFault)
    → OnOk closed (ClosesBy (tally_in cells).epoch (tally_in cells).number k.geometry.inodes now) → OnOk closed (ClosesFrom (counts_in s cells) now)
closes_so k s formed cells now (Ok x) is = closes_from k s formed cells now is
closes_so k s formed cells now (Err fault) is = tt

-- a session has a client
pub some_given : (scripts : List (List Op)) → 0 < length (given scripts)
some_given [] = omega arith
some_given (script ∷ scripts) = omega arith

-- What the entries tell of the store, and so does the end, is told from the store as it was mounted.
pub has_run : (k : Start) (origin : Moments) (keeps : Bool) (asked scripts : List (List Op)) (opened : StoreState) (first : View) (tickets : ℕ) (lists : List (List Entry)) (bytes : Result ℕ Memory) (sectors faults : ℕ) (now : Moments) (closed : Result (Unit {0}) CloseFault)
    → geometry_of_store opened ≡ k.geometry → counts_in opened first.store ≡ opened → origin ≡ opened.moments → asked ≡ scripts → HasPlayed k origin keeps asked tickets lists bytes sectors faults now closed → worker_count k ≡ 0 → AreInTurn lists
    → ((history : List Entry) → IsMerged lists history → TellsToEnd k opened first history faults now closed) → HasRun k keeps scripts opened tickets lists bytes sectors faults now closed
has_run k origin keeps asked scripts opened first tickets lists bytes sectors faults now closed formed mounted from same played alone merged tells =
    of (subst (λ (x : Moments × List (List Op)). HasPlayed k x.0 keeps x.1 tickets lists bytes sectors faults now closed) (λ i. (from i, same i)) played)
  where
    of : HasPlayed k opened.moments keeps scripts tickets lists bytes sectors faults now closed → HasRun k keeps scripts opened tickets lists bytes sectors faults now closed
    of p =
        let session = p.finished.session in
        let so = tells session.history session.merged in
        record {
          finished = p.finished;
          each = p.each;
          answered = p.all;
          served = by_the_primary k alone session.start session.history session.served p.made;
          ordered = p.ordered;
          complete = p.complete;
          one_by_one = one_history lists session.history (joined lists) session.merged merged;
          before = counts_in opened so.before.store;
          told = subst (λ (s : StoreState). AreFaultsTold s (counts_in opened so.before.store) session.history) mounted so.told;
          counted = so.ends.counted;
          stopped = so.ends.stopped;
          raised = λ sees. closes_so k opened formed so.before.store (reads now) closed (so.ends.raised sees);
        }
