-- Requests that change nothing, and hands that draw them.
use Rattle.std.proofs.Common.{◌≡◌, ℕ, ◌+◌, ◌≤◌, ◌⊎◌, inl, inr, Bool, true, false, cond, ◌&&◌, eqb, List, [], ◌∷◌, Option, Some, None, sym, refl, ap, ◌∙◌, subst, arith}
use Rattle.std.specs.Prelude.{if◌then◌else◌, is_none}
use Rattle.ufs_base.specs.Choices.{first_of, refused_if}
use Rattle.ufs_bitmap.specs.Blocks.{BlockSet}
use Rattle.ufs_model.specs.History.{goes_on, is_excused}
use Rattle.ufs_model.specs.Posix.{posix, served}
use Rattle.ufs_model.specs.PosixTree.{PosixTree, desc_at, is_number}
use Rattle.ufs_model.specs.declared.data.Desc.{Desc}
use Rattle.ufs_model.specs.declared.data.Entry.{Entry}
use Rattle.ufs_model.specs.declared.data.Errno.TheVariants.{Ebadf}
use Rattle.ufs_model.specs.declared.data.Excuse.{Excuse}
use Rattle.ufs_model.specs.declared.data.Excuse.TheVariants as excuse
use Rattle.ufs_model.specs.declared.data.Op.{Op}
use Rattle.ufs_model.specs.declared.data.Op.TheVariants as op
use Rattle.ufs_model.specs.declared.data.Reply.{Reply}
use Rattle.ufs_model.specs.declared.data.Reply.TheVariants as reply
use Rattle.ufs_crash_laws.specs.Changes.{asks_commit, change_asked, change_of, changes_names, file_changed, names_by, names_of}
use Rattle.ufs_crash_laws.specs.Steps.{is_served}
use Rattle.ufs_crash_laws.specs.declared.data.FileChange.{FileChange}
use Rattle.ufs_hand_laws.specs.Draws.{entry_of}
use Rattle.ufs_hand_laws.specs.Owned.{Has, count, one, times}
use Rattle.ufs_hand_laws.specs.Parts.{ClientPart}
use Rattle.ufs_hand_laws.specs.declared.fresh.Fresh.{Fresh}
use Rattle.ufs_promise_laws.specs.Laws.{leaves_tree}
use Rattle.ufs_promise_laws.proofs.Entries.{excuse_leaves, tree_left}
use Rattle.ufs_joint.specs.Cells.{FileCell, NamesCell, View}
use Rattle.ufs_joint.specs.FileHands.{IsFileHand}
use Rattle.ufs_joint.specs.NamesHands.{IsNamesHand}
use Rattle.ufs_joint.proofs.OneFile.{only_here}
use Rattle.ufs_joint.proofs.StillDraws.{IsStill, IsStillHand}

-- ---- hands

pub names_still : (v : View) (client : ℕ) (part : ClientPart) (names : NamesCell) (n : ℕ) (pool : BlockSet) → IsNamesHand v client part names n pool → IsStillHand v client part n pool
names_still v client part names n pool hand = record { clients = hand.clients; pools = hand.pools; files = hand.files }

pub file_still : (v : View) (client : ℕ) (part : ClientPart) (file : ℕ) (cell : FileCell) (n : ℕ) (pool : BlockSet) → IsFileHand v client part file cell n pool → IsStillHand v client part n pool
file_still v client part file cell n pool hand = record {
  clients = hand.clients;
  pools = hand.pools;
  files = record {
    once = λ other. let x = ap (count eqb other) hand.files in let y : count eqb other ((file, cell) ∷ []) ≤ 1 = at_most (eqb other file) in omega (arith, x, y);
    number = λ other c has. let x = only_here file other cell c (subst (Has (other, c)) hand.files has) in ap (λ (q : FileCell). q.value.file.file) x.1 ∙ hand.number ∙ sym x.0;
  };
}
  where
    at_most : (b : Bool) → one b + 0 ≤ 1
    at_most true = omega arith
    at_most false = omega arith

-- ---- an `fsync` that is done

unexcused : (r : Reply) → r ≡ reply.Done → is_excused r ≡ true → ⊥
unexcused r done is = let clash : false ≡ true = sym (ap is_excused done) ∙ is in cc

-- a descriptor that is open may be synced
replied_by : (t : PosixTree) (client fd : ℕ) (d : Desc) → desc_at t client fd ≡ Some d → (posix t client (op.Fsync fd)).1 ≡ reply.Done
replied_by t client fd d is = ap (λ (o : Option Desc). (served t client (op.Fsync fd) (first_of (refused_if (is_none o) Ebadf) None)).1) is

and_off : (b : Bool) → (b && false) ≡ false
and_off true = refl
and_off false = refl

-- Neither this request nor a `sync` that is done changes anything.
abbrev pub IsSyncing : Op → Type 0
IsSyncing o = (o ≡ op.Sync) ⊎ ((fd : ℕ) × (o ≡ op.Fsync fd))

module _ (v : View) (f : Fresh) (ticket : ℕ) (done : f.reply ≡ reply.Done) where
  -- the entry, by its request
  abbrev by_op : Op → Entry
  by_op o = record { ticket = ticket; client = f.client; seq = f.seq; by = f.by; op = o; reply = f.reply }

  pub done_still : IsSyncing f.op → IsStill v f ticket
  done_still (inl is) = record {
    device = λ fault e. absurd (unexcused f.reply done (ap is_excused e));
    stopped = λ fault e. absurd (unexcused f.reply done (ap is_excused e));
    committed = λ fault by e. absurd (unexcused f.reply done (ap is_excused e));
    asks = λ fault e. absurd (unexcused f.reply done (ap is_excused e));
    leaves = λ t. tree_left t (by_op f.op) (ap leaves_tree is);
    no_change = λ t file. ap (λ o. change_of file (record { before = t; entry = by_op o })) is ∙ ap (λ b. cond {A = List FileChange} b [] []) (and_off (is_served f.reply));
    no_names = λ t. ap (λ o. names_by (record { before = t; entry = by_op o })) is ∙ ap (λ b. cond b (names_of (goes_on t (by_op op.Sync)) ∷ []) []) (and_off (is_served f.reply));
  }
  done_still (inr x) = record {
    device = λ fault e. absurd (unexcused f.reply done (ap is_excused e));
    stopped = λ fault e. absurd (unexcused f.reply done (ap is_excused e));
    committed = λ fault by e. absurd (unexcused f.reply done (ap is_excused e));
    asks = λ fault e. absurd (unexcused f.reply done (ap is_excused e));
    leaves = λ t. tree_left t (by_op f.op) (ap leaves_tree x.1);
    no_change = λ t file. ap (λ o. change_of file (record { before = t; entry = by_op o })) x.1 ∙ ap (λ b. cond {A = List FileChange} b [] []) (and_off (is_served f.reply));
    no_names = λ t. ap (λ o. names_by (record { before = t; entry = by_op o })) x.1 ∙ ap (λ b. cond b (names_of (goes_on t (by_op (op.Fsync x.0))) ∷ []) []) (and_off (is_served f.reply));
  }

  -- an `fsync` of what is open is done
  pub fsync_done : (fd : ℕ) → f.op ≡ op.Fsync fd → (t : PosixTree) (d : Desc) → desc_at t f.client fd ≡ Some d → f.reply ≡ (posix t f.client f.op).1
  fsync_done fd is t d open_at = done ∙ sym (replied_by t f.client fd d open_at) ∙ sym (ap (λ o. (posix t f.client o).1) is)

-- ---- an excuse

-- what an excuse tells
abbrev pub reason_of : Reply → Excuse
reason_of (reply.Excused y) = y
reason_of _ = excuse.Memory

module _ (v : View) (f : Fresh) (ticket : ℕ) (x : Excuse) (replied : f.reply ≡ reply.Excused x) where
  unserved : is_served f.reply ≡ false
  unserved = ap is_served replied

  pub excuse_still : ((fault : ℕ) → x ≡ excuse.Device fault → 1 ≤ times fault v.faults) → ((fault : ℕ) → x ≡ excuse.Stopped fault → v.stop ≡ Some fault)
      → ((fault : ℕ) → asks_commit f.op ≡ true → x ≡ excuse.Device fault → v.stop ≡ Some fault) → ((fault : ℕ) → x ≡ excuse.Stopped fault → asks_commit f.op ≡ true) → IsStill v f ticket
  excuse_still device stopped at_commit asks_it = record {
    device = λ fault is. device fault (ap reason_of (sym replied ∙ is));
    stopped = λ fault is. stopped fault (ap reason_of (sym replied ∙ is));
    committed = λ fault by is. at_commit fault by (ap reason_of (sym replied ∙ is));
    asks = λ fault is. asks_it fault (ap reason_of (sym replied ∙ is));
    leaves = λ t. excuse_leaves t f.client f.op f.reply (ap is_excused replied);
    no_change = λ t file. ap (λ b. if b && is_number file (file_changed t f.client f.op) then change_asked t f.client f.op else []) unserved;
    no_names = λ t. ap (λ b. if b && changes_names t f.op then names_of (goes_on t (entry_of ticket f)) ∷ [] else []) unserved;
  }
