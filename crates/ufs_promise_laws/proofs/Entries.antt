-- One more entry.
use Rattle.std.proofs.Common.{◌≡◌, ◌<◌, ◌≤◌, ◌+◌, ℕ, true, false, Option, Some, None, List, [], ◌∷◌, ◌++◌, length, ap, sym, refl, ◌∙◌, subst, inl, arith}
use Rattle.std.proofs.lemmas.List.{length-append}
use Rattle.ufs_bitmap.specs.Blocks.{BlockSet}
use Rattle.ufs_layout.specs.Superblock.{geometry_of}
use Rattle.ufs_layout.specs.declared.geometry.Geometry.{Geometry}
use Rattle.ufs_ledger.specs.Kept.{Counts, IsLedgerKept}
use Rattle.ufs_ledger.specs.Laws.{EntriesKeep}
use Rattle.ufs_ledger.specs.Ledger.{Ledger}
use Rattle.ufs_model.specs.FileBytes.{bytes_of}
use Rattle.ufs_model.specs.History.{IsLegal, goes_on, is_excused, tree_after, tree_with}
use Rattle.ufs_model.specs.Posix.{change, posix, served}
use Rattle.ufs_model.specs.Refusals.{refusal}
use Rattle.ufs_model.specs.PosixTree.{Files, IsTree, PosixTree}
use Rattle.ufs_model.specs.declared.data.Entry.{Entry}
use Rattle.ufs_model.specs.declared.data.Errno.{Errno}
use Rattle.ufs_model.specs.declared.data.Op.{Op}
use Rattle.ufs_model.specs.declared.data.Op.TheVariants as op
use Rattle.ufs_model.specs.declared.data.Reply.{Reply}
use Rattle.ufs_model.specs.declared.data.Reply.TheVariants as reply
use Rattle.ufs_crash_laws.specs.Explained.{IsAckCovered}
use Rattle.ufs_crash_laws.specs.Steps.{is_ok, next_step}
use Rattle.ufs_crash_laws.specs.StepLaws.{OthersAcknowledgeNothing}
use Rattle.ufs_crash_laws.specs.Changes.{NameState, change_of, changes_of, name_changes}
use Rattle.ufs_crash_laws.specs.declared.data.FileChange.{FileChange}
use Rattle.ufs_crash_laws.proofs.Facts.Histories.{changes_of-push, names_after-append, tree_after-append}
use Rattle.ufs_promise_laws.specs.Laws.{leaves_tree}
use Rattle.ufs_file_commits.specs.State.{whole_of}
use Rattle.ufs_promise_laws.specs.Parts.{Parts, durable_in}
use Rattle.ufs_promise_laws.specs.Stored.{AreCounted, ArePartsOf, IsFileWhole, IsStored}

-- the promise of the ledger
pub ledger_kept : (g : Geometry) → EntriesKeep g → (l : Ledger) (start : PosixTree) (history : List Entry) (entry : Entry) (k maybe : Counts) → geometry_of l.superblock ≡ g → IsTree start → IsLegal start (history ++ entry ∷ [])
    → IsAckCovered start history entry k.names k.files → IsAckCovered start history entry maybe.names maybe.files → IsLedgerKept l start history k maybe → IsLedgerKept l start (history ++ entry ∷ []) k maybe
ledger_kept g keeps l start history entry k maybe same tree legal ack other_ack kept =
    let keep = subst EntriesKeep (sym same) keeps in
    record {
      here = keep l.blocks l.now start history entry k.names k.files k.numbers tree legal ack kept.here;
      there = λ other is. let t = kept.there other is in (t.0, keep l.blocks other.stand start history entry maybe.names maybe.files maybe.numbers tree legal other_ack t.1);
    }

-- what is counted
pub counted_still : (start : PosixTree) (history : List Entry) (entry : Entry) (k : Counts) → k.names ≤ length (name_changes start history) → AreCounted start history k → AreCounted start (history ++ entry ∷ []) k
counted_still start history entry k made c = record {
  born = λ file has. subst (λ (n : NameState). file < n.next) (sym (names_after-append start history (entry ∷ []) k.names made)) (c.born file has);
  alone = c.alone;
  made = λ file.
      let more : length (changes_of file start (history ++ entry ∷ [])) ≡ length (changes_of file start history) + length (change_of file (next_step start history entry)) =
      ap (λ (xs : List FileChange). length xs) (changes_of-push file start history entry) ∙ length-append (changes_of file start history) (change_of file (next_step start history entry)) in
      let was = c.made file in
      omega (arith, more, was);
}

pub entry_kept : (g : Geometry) → EntriesKeep g → (l : Ledger) (unassigned : BlockSet) (start : PosixTree) (history : List Entry) (entry : Entry) (k : Counts) (p : Parts) → geometry_of l.superblock ≡ g → IsLegal start (history ++ entry ∷ [])
    → IsAckCovered start history entry k.names k.files → ArePartsOf p (tree_after start (history ++ entry ∷ [])) → (tree_after start (history ++ entry ∷ [])).bytes ≡ (tree_after start history).bytes
    → IsStored l unassigned start history k p → IsStored l unassigned start (history ++ entry ∷ []) k p
entry_kept g keeps l unassigned start history entry k p same legal ack after bytes st = record {
  tree = st.tree;
  legal = legal;
  kept = ledger_kept g keeps l start history entry k k same st.tree legal ack ack st.kept;
  parts = after;
  names = st.names;
  counted = counted_still start history entry k st.kept.here.stored.made st.counted;
  noted = st.noted;
  each = λ file f here. subst (IsFileWhole l k.numbers) (sym (ap (λ (b : Files). whole_of (bytes_of b file) (durable_in p.commits f)) bytes)) (st.each file f here);
  spaced = st.spaced;
}

-- ---- an excuse

pub excuse_leaves : (t : PosixTree) (client : ℕ) (request : Op) (r : Reply) → is_excused r ≡ true → tree_with t client request r ≡ t
excuse_leaves t client request (reply.Excused x) e = refl
excuse_leaves t client request reply.Done e = absurd cc
excuse_leaves t client request (reply.Fd fd) e = absurd cc
excuse_leaves t client request (reply.Count n) e = absurd cc
excuse_leaves t client request (reply.At n) e = absurd cc
excuse_leaves t client request (reply.Got bytes) e = absurd cc
excuse_leaves t client request (reply.IsFile size) e = absurd cc
excuse_leaves t client request (reply.IsDir entries) e = absurd cc
excuse_leaves t client request (reply.Names names) e = absurd cc
excuse_leaves t client request (reply.Refused x) e = absurd cc

pub no_ok : (r : Reply) → is_excused r ≡ true → is_ok r ≡ false
no_ok (reply.Excused x) e = refl
no_ok reply.Done e = absurd cc
no_ok (reply.Fd fd) e = absurd cc
no_ok (reply.Count n) e = absurd cc
no_ok (reply.At n) e = absurd cc
no_ok (reply.Got bytes) e = absurd cc
no_ok (reply.IsFile size) e = absurd cc
no_ok (reply.IsDir entries) e = absurd cc
no_ok (reply.Names names) e = absurd cc
no_ok (reply.Refused x) e = absurd cc

pub excuse_kept : (g : Geometry) → EntriesKeep g → OthersAcknowledgeNothing → (l : Ledger) (unassigned : BlockSet) (start : PosixTree) (history : List Entry) (entry : Entry) (k : Counts) (p : Parts) → geometry_of l.superblock ≡ g
    → IsLegal start (history ++ entry ∷ []) → is_excused entry.reply ≡ true → IsStored l unassigned start history k p → IsStored l unassigned start (history ++ entry ∷ []) k p
excuse_kept g keeps others l unassigned start history entry k p same legal excused st =
    let tree : tree_after start (history ++ entry ∷ []) ≡ tree_after start history = tree_after-append start history (entry ∷ []) ∙ excuse_leaves (tree_after start history) entry.client entry.op entry.reply excused in
    entry_kept g keeps l unassigned start history entry k p same legal (others start history entry k.names k.files (inl (no_ok entry.reply excused)))
    (subst (ArePartsOf p) (sym tree) st.parts) (ap (λ (t : PosixTree). t.bytes) tree) st

-- ---- a request that changes nothing

served_leaves : (t : PosixTree) (client : ℕ) (request : Op) → change t client request ≡ t → (o : Option Errno) → (served t client request o).0 ≡ t
served_leaves t client request same (Some e) = refl
served_leaves t client request same None = same

with_leaves : (t : PosixTree) (client : ℕ) (request : Op) → (posix t client request).0 ≡ t → (r : Reply) → tree_with t client request r ≡ t
with_leaves t client request same (reply.Excused x) = refl
with_leaves t client request same reply.Done = same
with_leaves t client request same (reply.Fd fd) = same
with_leaves t client request same (reply.Count n) = same
with_leaves t client request same (reply.At n) = same
with_leaves t client request same (reply.Got bytes) = same
with_leaves t client request same (reply.IsFile size) = same
with_leaves t client request same (reply.IsDir entries) = same
with_leaves t client request same (reply.Names names) = same
with_leaves t client request same (reply.Refused x) = same

change_leaves : (t : PosixTree) (client : ℕ) (request : Op) → leaves_tree request ≡ true → change t client request ≡ t
change_leaves t client (op.OpenFile path read write creat excl trunc append) e = absurd cc
change_leaves t client (op.Close fd) e = absurd cc
change_leaves t client (op.Read fd n) e = absurd cc
change_leaves t client (op.Write fd bytes) e = absurd cc
change_leaves t client (op.Pread fd n at) e = refl
change_leaves t client (op.Pwrite fd bytes at) e = absurd cc
change_leaves t client (op.Seek fd from by) e = absurd cc
change_leaves t client (op.Trunc fd size) e = absurd cc
change_leaves t client (op.Fsync fd) e = refl
change_leaves t client op.Sync e = refl
change_leaves t client (op.Mkdir path) e = absurd cc
change_leaves t client (op.Rmdir path) e = absurd cc
change_leaves t client (op.Unlink path) e = absurd cc
change_leaves t client (op.Rename from to) e = absurd cc
change_leaves t client (op.Stat path) e = refl
change_leaves t client (op.List path) e = refl

pub tree_left : (t : PosixTree) (entry : Entry) → leaves_tree entry.op ≡ true → goes_on t entry ≡ t
tree_left t entry still =
    with_leaves t entry.client entry.op (served_leaves t entry.client entry.op (change_leaves t entry.client entry.op still) (refusal t entry.client entry.op)) entry.reply

pub still_kept : (g : Geometry) → EntriesKeep g → (l : Ledger) (unassigned : BlockSet) (start : PosixTree) (history : List Entry) (entry : Entry) (k : Counts) (p : Parts) → geometry_of l.superblock ≡ g
    → IsLegal start (history ++ entry ∷ []) → leaves_tree entry.op ≡ true → IsAckCovered start history entry k.names k.files → IsStored l unassigned start history k p → IsStored l unassigned start (history ++ entry ∷ []) k p
still_kept g keeps l unassigned start history entry k p same legal still ack st =
    let tree : tree_after start (history ++ entry ∷ []) ≡ tree_after start history = tree_after-append start history (entry ∷ []) ∙ tree_left (tree_after start history) entry still in
    entry_kept g keeps l unassigned start history entry k p same legal ack (subst (ArePartsOf p) (sym tree) st.parts) (ap (λ (t : PosixTree). t.bytes) tree) st
