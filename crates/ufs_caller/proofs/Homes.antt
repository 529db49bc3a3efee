-- A client that is at home asks what its descriptors tell, and is at home again with its own answer.
use Rattle.std.proofs.Common.{◌≡◌, ℕ, ◌≤◌, List, [], ◌∷◌, ◌++◌, length, map, Option, Some, None, sym, refl, ap, ◌∙◌, subst}
use Rattle.std.specs.Prelude.{IsSome}
use Rattle.std.specs.FinMap as fin
use Rattle.ufs_baton.specs.Baton.{IsToldOf}
use Rattle.ufs_client.specs.Clients.{AreRanged}
use Rattle.ufs_client.specs.Own.{IsOwnAnswer}
use Rattle.ufs_client.proofs.RangeLemmas.{ranged_after}
use Rattle.ufs_fds.specs.Descriptors.{AreInRange, AreOf, Descs}
use Rattle.ufs_model.specs.Asks.{IsAsk, IsDescAfter, desc_of_fd, fd_named, fd_told}
use Rattle.ufs_model.specs.Posix.{posix}
use Rattle.ufs_model.specs.PosixTree.{Fds, PosixTree, desc_at}
use Rattle.ufs_model.specs.declared.data.Ask.{Ask}
use Rattle.ufs_model.specs.declared.data.Desc.{Desc}
use Rattle.ufs_model.specs.declared.data.Entry.{Entry}
use Rattle.ufs_model.specs.declared.data.Op.{Op}
use Rattle.ufs_model.specs.declared.data.Reply.{Reply}
use Rattle.ufs_joint.specs.Cells.{View}
use Rattle.ufs_joint.specs.FileHands.{own_desc}
use Rattle.ufs_hand_laws.specs.Parts.{AskedPart, OwnFds}
use Rattle.ufs_caller.specs.Callers.{entries_in}
use Rattle.ufs_caller.specs.Hands.{HasBoth, IsAskFor, IsHome}
use Rattle.ufs_caller.specs.Own.{IsMadeBy, with_desc}
use Rattle.ufs_caller.specs.declared.told.Told.{Told}
use Rattle.ufs_caller.proofs.OwnDraw.{with_are}

-- the transcript's entries go on as it does
pub entries_after : (told : List Told) (x : Told) → entries_in (told ++ x ∷ []) ≡ entries_in told ++ x.entry ∷ []
entries_after [] x = refl
entries_after (y ∷ told) x = ap (λ (es : List Entry). y.entry ∷ es) (entries_after told x)

pub entries_many : (told : List Told) → length (entries_in told) ≡ length told
entries_many [] = refl
entries_many (y ∷ told) = ap Rattle.std.proofs.Common.suc (entries_many told)

pub own_of : (fds : OwnFds) (t : PosixTree) (c : ℕ) → ((fd : ℕ) → fin.get fds fd ≡ desc_at t c fd) → (o : Option ℕ) → own_desc fds o ≡ desc_of_fd t.fds c o
own_of fds t c of None = refl
own_of fds t c of (Some fd) = of fd

pub own_same : (fds : OwnFds) (table : Descs) → ((fd : ℕ) → fin.get fds fd ≡ fin.get table fd) → (o : Option ℕ) → own_desc fds o ≡ own_desc table o
own_same fds table same None = refl
own_same fds table same (Some fd) = same fd

pub ranged_tree : (t : PosixTree) (c : ℕ) (table : Descs) → AreOf t.fds c table → AreInRange table → AreRanged t.fds c
ranged_tree t c table are range fd there = range fd (subst IsSome (are fd) there)

module _ (c : ℕ) (entries : List Entry) (table : Descs) (v : View) (h : IsHome c entries table v) where
  pub tree_has : AreOf h.tree.fds c table
  tree_has fd = sym (h.of fd) ∙ h.same fd

-- a hand that was told what the baton has seen is the client's still
pub home_told : (n c : ℕ) (entries : List Entry) (table : Descs) (v w : View) → IsToldOf n v w → IsHome c entries table v → IsHome c entries table w
home_told n c entries table v w told h = record {
  self = h.self;
  before = h.before;
  both = record {
    clients = told.clients ∙ h.both.clients;
    asked = told.asked ∙ h.both.asked;
    files = told.files ∙ h.both.files;
    pools = told.pools ∙ h.both.pools;
    names = told.names ∙ h.both.names;
    store = told.store ∙ h.both.store;
  };
  entries_are = h.entries_are;
  same = h.same;
  idle = h.idle;
  unleased = h.unleased;
  tree = h.tree;
  of = h.of;
}

module _ (ask : Ask) (entries : List Entry) (table : Descs) (v : View) (h : IsHome ask.client entries table v) (seq : ask.seq ≡ length entries) (next : (t : PosixTree) → AreOf t.fds ask.client table → IsAsk t ask) where
  pub ask_for : IsAskFor ask h.self
  ask_for = record {
    idle = h.idle;
    seq = seq ∙ ap (length {A = Entry}) (sym h.entries_are);
    desc = (next h.tree (tree_has ask.client entries table v h)).desc ∙ sym (own_of h.self.fds h.tree ask.client h.of (fd_named ask.op));
    told = λ t of. next t (λ fd. sym (of fd) ∙ h.same fd);
  }

  module _ (reply : Reply) (desc : Option Desc) (is : (t : PosixTree) → IsAsk t ask → IsOwnAnswer t ask.client ask.op reply desc) (range : AreInRange table)
      (entry : Entry) (made : IsMadeBy ask reply entry) (table' : Descs)
      (kept : (old new : Fds) (client : ℕ) → AreOf old client table → IsDescAfter old new client (fd_told entry.op entry.reply) desc → AreRanged old client → AreRanged new client → AreOf new client table') where
    module _ (t : PosixTree) (are : AreOf t.fds ask.client table) where
      abbrev after : PosixTree
      after = (posix t ask.client ask.op).0

      answer : IsOwnAnswer t ask.client ask.op reply desc
      answer = is t (next t are)

      ranged_new : AreRanged after.fds ask.client
      ranged_new = ranged_after t ask.client ask.op desc (subst (λ (r : Reply). IsDescAfter t.fds after.fds ask.client (fd_told ask.op r) desc) answer.replied answer.told) (ranged_tree t ask.client table are range)

      pub fds_after : AreOf after.fds ask.client table'
      fds_after = kept t.fds after.fds ask.client are (subst (λ (x : Op × Reply). IsDescAfter t.fds after.fds ask.client (fd_told x.0 x.1) desc) (λ i. (sym made.asked i, sym made.reply' i)) answer.told) (ranged_tree t ask.client table are range) ranged_new

    abbrev here : AreOf h.tree.fds ask.client table
    here = tree_has ask.client entries table v h

    pub range_after : AreInRange table'
    range_after fd there = ranged_new h.tree here fd (subst IsSome (sym (fds_after h.tree here fd)) there)

    module _ (v' : View) (after' : AskedPart) (both : HasBoth ask.client (record h.self { entries = h.self.entries ++ entry ∷ []; fds = with_desc h.self.fds (fd_told ask.op reply) desc; asked = None }) after' v') where
      pub home_after : IsHome ask.client (entries ++ entry ∷ []) table' v'
      home_after = record {
        self = record h.self { entries = h.self.entries ++ entry ∷ []; fds = with_desc h.self.fds (fd_told ask.op reply) desc; asked = None };
        before = after';
        both = both;
        entries_are = ap (λ (es : List Entry). es ++ entry ∷ []) h.entries_are;
        same = λ fd. with_are h.tree ask.client ask.op reply desc h.self.fds h.of (answer h.tree here) fd ∙ fds_after h.tree here fd;
        idle = refl;
        unleased = h.unleased;
        tree = (posix h.tree ask.client ask.op).0;
        of = with_are h.tree ask.client ask.op reply desc h.self.fds h.of (answer h.tree here);
      }
