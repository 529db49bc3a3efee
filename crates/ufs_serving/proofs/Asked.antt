-- What a look tells of a request that came.
use Rattle.std.proofs.Common.{◌≡◌, ℕ, inl, true, false, List, [], ◌∷◌, Some, refl, sym, ap, ◌∙◌, subst}
use Rattle.ufs_held.specs.Asking.{Asks}
use Rattle.ufs_joint.specs.Cells.{Start, View}
use Rattle.ufs_joint.specs.Known.{Knows}
use Rattle.ufs_joint.specs.Rule.{looked_at}
use Rattle.ufs_model.specs.Asks.{fd_asked, fd_named, fd_told, is_last}
use Rattle.ufs_model.specs.FileCalls.{is_on_file}
use Rattle.ufs_model.specs.History.{tree_after}
use Rattle.ufs_model.specs.PosixTree.{Fds}
use Rattle.ufs_model.specs.declared.data.Ask.{Ask}
use Rattle.ufs_model.specs.declared.data.Op.{Op}
use Rattle.ufs_model.specs.declared.data.Op.TheVariants as op
use Rattle.ufs_model.specs.declared.data.Reply.{Reply}
use Rattle.ufs_msg.specs.Requests.{HasClientAlone, IsAsked}
use Rattle.ufs_msg.specs.There.{is_by_hint}
use Rattle.ufs_crash_laws.specs.Changes.{asks_commit}
use Rattle.ufs_hand_laws.specs.Owned.{Has}
use Rattle.ufs_hand_laws.specs.Parts.{ClientPart}

-- ---- the kinds of request that are on a file

-- what is told with them, and of their descriptor
pub record IsOnFd (o : Op) : Type 0 where
  pub fd : ℕ
  pub named : fd_named o ≡ Some fd
  pub told : (r : Reply) → fd_told o r ≡ Some fd
  pub on_file : is_on_file o ≡ true
  pub no_fd : (fds : Fds) (client : ℕ) → fd_asked fds client o ≡ 0
  pub not_last : (fds : Fds) (client : ℕ) → is_last fds client o ≡ false

pub on_fd : (o : Op) → is_on_file o ≡ true → IsOnFd o
on_fd (op.Read fd n) is = record { fd = fd; named = refl; told = λ r. refl; on_file = refl; no_fd = λ fds client. refl; not_last = λ fds client. refl }
on_fd (op.Write fd bytes) is = record { fd = fd; named = refl; told = λ r. refl; on_file = refl; no_fd = λ fds client. refl; not_last = λ fds client. refl }
on_fd (op.Pread fd n at) is = record { fd = fd; named = refl; told = λ r. refl; on_file = refl; no_fd = λ fds client. refl; not_last = λ fds client. refl }
on_fd (op.Pwrite fd bytes at) is = record { fd = fd; named = refl; told = λ r. refl; on_file = refl; no_fd = λ fds client. refl; not_last = λ fds client. refl }
on_fd (op.Seek fd from by) is = record { fd = fd; named = refl; told = λ r. refl; on_file = refl; no_fd = λ fds client. refl; not_last = λ fds client. refl }
on_fd (op.Trunc fd size) is = record { fd = fd; named = refl; told = λ r. refl; on_file = refl; no_fd = λ fds client. refl; not_last = λ fds client. refl }
on_fd (op.Fsync fd) is = record { fd = fd; named = refl; told = λ r. refl; on_file = refl; no_fd = λ fds client. refl; not_last = λ fds client. refl }
on_fd (op.OpenFile path read write creat excl trunc append) is = absurd cc
on_fd (op.Close fd) is = absurd cc
on_fd op.Sync is = absurd cc
on_fd (op.Mkdir path) is = absurd cc
on_fd (op.Rmdir path) is = absurd cc
on_fd (op.Unlink path) is = absurd cc
on_fd (op.Rename from to) is = absurd cc
on_fd (op.Stat path) is = absurd cc
on_fd (op.List path) is = absurd cc

-- all of them but an `fsync` commit nothing
pub none_committed : (o : Op) → is_on_file o ≡ true → ((fd : ℕ) → o ≡ op.Fsync fd → ⊥) → asks_commit o ≡ false
none_committed (op.Read fd n) is other = refl
none_committed (op.Write fd bytes) is other = refl
none_committed (op.Pread fd n at) is other = refl
none_committed (op.Pwrite fd bytes at) is other = refl
none_committed (op.Seek fd from by) is other = refl
none_committed (op.Trunc fd size) is other = refl
none_committed (op.Fsync fd) is other = absurd (other fd refl)
none_committed (op.OpenFile path read write creat excl trunc append) is other = absurd cc
none_committed (op.Close fd) is other = absurd cc
none_committed op.Sync is other = absurd cc
none_committed (op.Mkdir path) is other = absurd cc
none_committed (op.Rmdir path) is other = absurd cc
none_committed (op.Unlink path) is other = absurd cc
none_committed (op.Rename from to) is other = absurd cc
none_committed (op.Stat path) is other = absurd cc
none_committed (op.List path) is other = absurd cc

-- those that go by a hint are on a file
pub hint_on_file : (o : Op) → is_by_hint o ≡ true → is_on_file o ≡ true
hint_on_file (op.Read fd n) is = refl
hint_on_file (op.Write fd bytes) is = refl
hint_on_file (op.Pread fd n at) is = refl
hint_on_file (op.Pwrite fd bytes at) is = refl
hint_on_file (op.Seek fd from by) is = refl
hint_on_file (op.Trunc fd size) is = refl
hint_on_file (op.Fsync fd) is = refl
hint_on_file (op.OpenFile path read write creat excl trunc append) is = absurd cc
hint_on_file (op.Close fd) is = absurd cc
hint_on_file op.Sync is = absurd cc
hint_on_file (op.Mkdir path) is = absurd cc
hint_on_file (op.Rmdir path) is = absurd cc
hint_on_file (op.Unlink path) is = absurd cc
hint_on_file (op.Rename from to) is = absurd cc
hint_on_file (op.Stat path) is = absurd cc
hint_on_file (op.List path) is = absurd cc

pub commits_none : (o : Op) → is_by_hint o ≡ true → ((fd : ℕ) → o ≡ op.Fsync fd → ⊥) → asks_commit o ≡ false
commits_none o hinted = none_committed o (hint_on_file o hinted)

-- ---- whose the part is

abbrev first_part : ClientPart → List (ℕ × ClientPart) → ClientPart
first_part d [] = d
first_part d (p ∷ ps) = p.1

pub same_part : (client : ℕ) (one other : ClientPart) (v : View) → HasClientAlone client one v → HasClientAlone client other v → one ≡ other
same_part client one other v a b = ap (first_part one) (sym a.clients ∙ b.clients)

-- ---- behind a look

module _ (k : Start) (ask : Ask) (n : ℕ) (v : View) (asked : IsAsked k ask v) where
  abbrev pub still_asked : IsAsked k ask (looked_at v n)
  still_asked = record {
    there = asked.there;
    self = asked.self;
    alone = record { clients = asked.alone.clients; asked = asked.alone.asked; files = asked.alone.files; pools = asked.alone.pools; names = asked.alone.names; store = asked.alone.store };
    low = asked.low;
    seq = asked.seq;
    few = asked.few;
    bounded = asked.bounded;
    asked = asked.asked;
    desc = asked.desc;
    told = asked.told;
    needs = asked.needs;
    dropped = asked.dropped;
    unleased = asked.unleased;
  }

  pub asks_so : Knows k n v → is_on_file ask.op ≡ true → Asks asked.self ask
  asks_so knows on_file =
      let on = on_fd ask.op on_file in
      let t = tree_after knows.start knows.history in
      let is = asked.told t (knows.around.fds ask.client asked.self (subst (Has (ask.client, asked.self)) (sym asked.alone.clients) (inl refl))) in
      record {
        low = asked.low;
        asked = asked.asked;
        seq = asked.seq;
        told = asked.desc;
        no_fd = is.fd ∙ on.no_fd t.fds ask.client;
        not_last = is.last ∙ on.not_last t.fds ask.client;
        on_file = on.on_file;
        needs = asked.needs;
      }
