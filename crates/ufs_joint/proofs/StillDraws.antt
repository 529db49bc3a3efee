-- A request that changes nothing may be drawn by a hand with its client, a pool and any files.
use Rattle.std.proofs.Common.{◌≡◌, ℕ, ◌+◌, ◌≤◌, inl, inr, Bool, true, false, cond, eqb, leb, List, [], ◌∷◌, ◌++◌, Option, Some, sym, refl, ap, ◌∙◌, subst, arith, append-nil}
use Rattle.std.specs.FinMap as fin
use native.Mathlib.Decide.{dec_le}
use Rattle.ufs_bitmap.specs.Blocks.{BlockSet}
use Rattle.ufs_layout.specs.declared.geometry.Geometry.{Geometry}
use Rattle.ufs_model.specs.History.{IsLegal, IsReplyTo, goes_on, tree_after}
use Rattle.ufs_model.specs.PosixTree.{PosixTree, desc_at}
use Rattle.ufs_model.specs.declared.data.Entry.{Entry}
use Rattle.ufs_model.specs.declared.data.Excuse.TheVariants as excuse
use Rattle.ufs_model.specs.declared.data.Reply.TheVariants as reply
use Rattle.ufs_model.proofs.Facts.Histories.{legal-push, tree_after-push}
use Rattle.ufs_crash_laws.specs.Changes.{asks_commit, change_of, changes_of, name_changes, names_by}
use Rattle.ufs_crash_laws.proofs.Facts.Histories.{changes_of-push, name_changes-push}
use Rattle.ufs_hand_laws.specs.Draws.{entry_of}
use Rattle.ufs_hand_laws.specs.Owned.{Has, count, find, times}
use Rattle.ufs_hand_laws.specs.Parts.{ClientPart}
use Rattle.ufs_hand_laws.specs.declared.fresh.Fresh.{Fresh}
use Rattle.ufs_hand_laws.proofs.Drawing.{tells_new}
use Rattle.ufs_hand_laws.proofs.Keys.{alike, itself}
use Rattle.ufs_hand_laws.proofs.Owning.{has_count, has_find}
use Rattle.ufs_store.specs.State.{StoreState, geometry_of_store}
use Rattle.ufs_promise_laws.specs.Known.{IsDiskKept, Known}
use Rattle.ufs_promise_laws.specs.Parts.{Parts}
use Rattle.ufs_promise_laws.specs.Stored.{ArePartsOf}
use Rattle.ufs_joint.specs.Cells.{FileCell, View}
use Rattle.ufs_joint.specs.Draws.{DrawsOnDisk, DrawsTo, IsAround, Leaves, MayDraw}
use Rattle.ufs_joint.specs.NamesHands.{AreNumberedOnce, IsNextOf, still_leaves}
use Rattle.ufs_joint.specs.Picks.{bytes_at}
use Rattle.ufs_joint.specs.Servers.{IsAlwaysServedSo}
use Rattle.ufs_joint.specs.Whole.{GoOnBy, HasCells, KnowsCells, commits_of, hand_of}
use Rattle.ufs_joint.proofs.OneFile.{only_here}

same_cond : {A : Type 0} (b : Bool) (x y : A) → x ≡ y → y ≡ cond b x y
same_cond true x y is = sym is
same_cond false x y is = refl

-- where each cell stays, so do the parts
pub still_goes : (v : View) (p : Parts) → AreNumberedOnce v.files → HasCells v p → GoOnBy v.files v.files v.names p p
still_goes v p files cells = record {
  files_by = λ file. at_file hand_of (fin.get p.files file) file (λ c has. (cells.files file c has).file_is) (dec_le 1 (count eqb file v.files));
  commits_by = λ file. at_file commits_of (fin.get p.commits file) file (λ c has. (cells.files file c has).commits_are) (dec_le 1 (count eqb file v.files));
  names_by = cells.names;
  names_stay = λ none. (refl, refl, refl);
}
  where
    at_file : {A : Type 0} (of : Option FileCell → A) (got : A) (file : ℕ) → ((c : FileCell) → Has (file, c) v.files → got ≡ of (Some c)) → Dec (1 ≤ count eqb file v.files)
        → got ≡ cond (leb 1 (count eqb file v.files + count eqb file v.files)) (of (find eqb file v.files)) got
    at_file of got file here (yes l) =
        let c = has_count eqb itself alike file v.files l in
        let found = has_find eqb itself alike file c.0 v.files (files.once file) c.1 in
        same_cond (leb 1 (count eqb file v.files + count eqb file v.files)) (of (find eqb file v.files)) got (ap of found ∙ sym (here c.0 c.1))
    at_file of got file here (no l) =
        let none : count eqb file v.files + count eqb file v.files ≡ 0 = omega (arith, l) in
        sym (ap (λ k. cond (leb 1 k) (of (find eqb file v.files)) got) none)

-- The hand has the client and a pool, and each of its files once.
pub record IsStillHand (v : View) (client : ℕ) (part : ClientPart) (n : ℕ) (pool : BlockSet) : Type 0 where
  pub clients : v.clients ≡ (client, part) ∷ []
  pub pools : v.pools ≡ (n, pool) ∷ []
  pub files : AreNumberedOnce v.files

-- What is known as committed acknowledges the request, on each history with the hand's cells.
abbrev pub Acknowledges : Geometry → Bool → View → ClientPart → Fresh → ℕ → Type 0
Acknowledges g visible v part f ticket = visible ≡ true → (s : StoreState) (start : PosixTree) (history : List Entry) (p : Parts) (known : Known) → geometry_of_store s ≡ g → IsLegal start (history ++ entry_of ticket f ∷ [])
    → ((fd : ℕ) → fin.get part.fds fd ≡ desc_at (tree_after start history) f.client fd) → HasCells v p → KnowsCells start history v known → IsDiskKept s start history p known → IsDiskKept s start (history ++ entry_of ticket f ∷ []) p known

-- A request that changes nothing, whatever the tree is. An excuse is by a fault that the hand was told, or by the stop.
pub record IsStill (v : View) (f : Fresh) (ticket : ℕ) : Type 0 where
  pub device : (fault : ℕ) → f.reply ≡ reply.Excused (excuse.Device fault) → 1 ≤ times fault v.faults
  pub stopped : (fault : ℕ) → f.reply ≡ reply.Excused (excuse.Stopped fault) → v.stop ≡ Some fault
  pub committed : (fault : ℕ) → asks_commit f.op ≡ true → f.reply ≡ reply.Excused (excuse.Device fault) → v.stop ≡ Some fault
  pub asks : (fault : ℕ) → f.reply ≡ reply.Excused (excuse.Stopped fault) → asks_commit f.op ≡ true
  pub leaves : (t : PosixTree) → goes_on t (entry_of ticket f) ≡ t
  pub no_change : (t : PosixTree) (file : ℕ) → change_of file (record { before = t; entry = entry_of ticket f }) ≡ []
  pub no_names : (t : PosixTree) → names_by (record { before = t; entry = entry_of ticket f }) ≡ []

-- on each tree that the hand may be at, its reply is due, or an excuse that fits
abbrev pub IsRepliedTo : Geometry → View → Fresh → ℕ → Type 0
IsRepliedTo g v f ticket = (start : PosixTree) (history : List Entry) (p : Parts) (rest : BlockSet) → IsAround g v ticket start history p rest → IsReplyTo (tree_after start history) (entry_of ticket f)

-- the client's descriptors are those of the tree
pub own_fds : (g : Geometry) (v : View) (client : ℕ) (part : ClientPart) (n : ℕ) (pool : BlockSet) (f : Fresh) (ticket : ℕ) → IsStillHand v client part n pool → IsNextOf client part f
    → (start : PosixTree) (history : List Entry) (p : Parts) (rest : BlockSet) → IsAround g v ticket start history p rest → (fd : ℕ) → fin.get part.fds fd ≡ desc_at (tree_after start history) f.client fd
own_fds g v client part n pool f ticket hand asked start history p rest a fd =
    a.fds client part (subst (Has (client, part)) (sym hand.clients) (inl refl)) fd ∙ ap (λ c. desc_at (tree_after start history) c fd) (sym asked.by_client)

module _ (g : Geometry) (visible : Bool) (v : View) (client : ℕ) (part : ClientPart) (n : ℕ) (pool : BlockSet) (f : Fresh) (ticket : ℕ)
    (hand : IsStillHand v client part n pool) (asked : IsNextOf client part f) (still : IsStill v f ticket) (replied : IsRepliedTo g v f ticket) (acks : Acknowledges g visible v part f ticket) (who : IsAlwaysServedSo part.fds f) where
  abbrev l : Leaves
  l = still_leaves part v

  abbrev e : Entry
  e = entry_of ticket f

  abbrev go : Parts → Parts
  go p = p

  has_part : Has (client, part) v.clients
  has_part = subst (Has (client, part)) (sym hand.clients) (inl refl)

  only_pool : (m : ℕ) (s : BlockSet) → Has (m, s) v.pools → m ≡ n
  only_pool m s has = (only_here n m pool s (subst (Has (m, s)) hand.pools has)).0

  module _ (start : PosixTree) (history : List Entry) (p : Parts) (rest : BlockSet) (a : IsAround g v ticket start history p rest) where
    abbrev t : PosixTree
    t = tree_after start history

    abbrev longer : List Entry
    longer = history ++ e ∷ []

    fds : (fd : ℕ) → fin.get part.fds fd ≡ desc_at t f.client fd
    fds = own_fds g v client part n pool f ticket hand asked start history p rest a

    same_tree : tree_after start longer ≡ t
    same_tree = tree_after-push start history e ∙ still.leaves t

    legal : IsLegal start longer
    legal = legal-push start history e a.legal (record { numbered = sym a.so_many; replied = replied start history p rest a }) (tells_new f.reply history (λ fault is. a.untold fault (still.device fault is)))

    to : DrawsTo g v f l ticket go start history p rest
    to = record {
      legal = legal;
      served = who t fds;
      fds = λ x. fds x ∙ ap (λ (u : PosixTree). desc_at u f.client x) (sym same_tree);
      others = λ c not x. ap (λ (u : PosixTree). desc_at u c x) (sym same_tree);
      parts = subst (ArePartsOf p) (sym same_tree) a.parts;
      server = a.server;
      none_lost = λ b is. is;
      away = λ file place c has absent. ((c, has, absent), ap (λ (u : PosixTree). bytes_at u file place) same_tree);
      elsewhere = λ file _ _. ap (λ (u : PosixTree). fin.get u.bytes file) same_tree;
      new = λ file none some. absurd (omega (arith, none, some));
    }

    unchanged : (file : ℕ) → changes_of file start longer ≡ changes_of file start history
    unchanged file = changes_of-push file start history e ∙ ap (λ xs. changes_of file start history ++ xs) (still.no_change t file) ∙ append-nil (changes_of file start history)

    no_name_changes : name_changes start longer ≡ name_changes start history
    no_name_changes = name_changes-push start history e ∙ ap (λ xs. name_changes start history ++ xs) (still.no_names t) ∙ append-nil (name_changes start history)

    disk : visible ≡ true → DrawsOnDisk g v f l ticket go start history p rest
    disk seen = record {
      kept = λ s known formed is_rest knows on. acks seen s start history p known formed legal fds a.cells knows on;
      files = λ file c has. inr (has, unchanged file);
      others = λ file _ _. unchanged file;
      names = λ u c has. inr (has, no_name_changes);
      no_names = λ _. no_name_changes;
    }

  pub may_draw : MayDraw g visible v f l ticket
  may_draw = record {
    self = part;
    client = subst (λ c. Has (c, part) v.clients) (sym asked.by_client) has_part;
    low = let x = asked.low in let y = asked.by_client in omega (arith, x, y);
    seq = asked.seq;
    asked = asked.asked;
    device = still.device;
    stopped = still.stopped;
    committed = still.committed;
    asks = still.asks;
    others = λ _ _. refl;
    next = go;
    goes = λ p cells _. still_goes v p hand.files cells;
    pool = λ p _ is. is;
    single = hand.files.once;
    same_names = λ u. refl;
    same_pools = λ m. refl;
    pools_apart = λ m k one other b x y _ _. only_pool m one x ∙ sym (only_pool k other y);
    fewer = λ b is. is;
    known = λ file c has. inr (c, has, refl, refl);
    names_known = λ u c has. (c, has, refl, refl);
    to = to;
    disk = λ seen start history p rest a. disk start history p rest a seen;
  }
