-- An `fsync` of a directory, or a `sync`, may be acknowledged by a hand without the store.
use Rattle.std.proofs.Common.{◌≡◌, ℕ, ◌≤◌, inl, inr, Bool, true, List, [], ◌∷◌, length, Option, Some, sym, refl, ap, ◌∙◌, subst, arith}
use Rattle.std.specs.Prelude.{IsSome, unwrap_or}
use Rattle.std.specs.FinMap as fin
use Rattle.ufs_bitmap.specs.Blocks.{BlockSet}
use Rattle.ufs_layout.specs.declared.geometry.Geometry.{Geometry}
use Rattle.ufs_model.specs.Descriptors.{closed}
use Rattle.ufs_model.specs.History.{tree_after}
use Rattle.ufs_model.specs.Posix.{posix}
use Rattle.ufs_model.specs.PosixTree.{PosixTree, desc_at}
use Rattle.ufs_model.specs.declared.data.Desc.{Desc}
use Rattle.ufs_model.specs.declared.data.Entry.{Entry}
use Rattle.ufs_names.specs.NamesPart.{NamesPart}
use Rattle.ufs_hand_laws.specs.Draws.{entry_of}
use Rattle.ufs_hand_laws.specs.Owned.{Has}
use Rattle.ufs_hand_laws.specs.Parts.{ClientPart}
use Rattle.ufs_hand_laws.specs.declared.fresh.Fresh.{Fresh}
use Rattle.ufs_promise_laws.specs.Known.{AreNamesKnown, IsAllKnown, Known}
use Rattle.ufs_promise_laws.specs.Parts.{Parts}
use Rattle.ufs_joint.specs.Acks.{AllIsAcknowledged, DirsAreAcknowledged}
use Rattle.ufs_joint.specs.Cells.{NamesCell, View}
use Rattle.ufs_joint.specs.Draws.{MayDraw}
use Rattle.ufs_joint.specs.NamesHands.{DirAcknowledgementsMayDraw, IsNamesHand, IsNextOf, MayAcknowledgeAll, MayAcknowledgeDir, SyncsMayDraw, still_leaves}
use Rattle.ufs_joint.specs.Servers.{IsAlwaysServedSo}
use Rattle.ufs_joint.specs.Whole.{HasCells, KnowsCells}
use Rattle.ufs_joint.proofs.StillDraws.{IsStillHand, may_draw, own_fds}
use Rattle.ufs_joint.proofs.StillKinds.{done_still, fsync_done, names_still}
use Rattle.ufs_joint.proofs.Takes.{fewer_before, fewer_names_before}

-- ---- what the names know

module _ (visible : Bool) (v : View) (client : ℕ) (part : ClientPart) (names : NamesCell) (n : ℕ) (pool : BlockSet) (hand : IsNamesHand v client part names n pool) where
  pub has_names : Has (tt, names) v.names
  has_names = subst (Has (tt, names)) (sym hand.names_are) (inl refl)

  -- all changes of names, where nothing changed since they were committed
  pub names_known : (start : PosixTree) (history : List Entry) (known : Known) → names.changed ≤ names.known → KnowsCells start history v known → AreNamesKnown start history known
  names_known start history known less knows =
      let x = knows.names_told tt names has_names in
      let y = fewer_names_before start history names.changed names.known less in
      let z = knows.names tt names has_names in
      omega (arith, x, y, z)

-- ---- an `fsync` of a directory

module _ (dirs : DirsAreAcknowledged) (g : Geometry) (visible : Bool) (v : View) (client : ℕ) (part : ClientPart) (names : NamesCell) (n : ℕ) (pool : BlockSet) (f : Fresh) (ticket fd : ℕ) (d : Desc)
    (hand : IsNamesHand v client part names n pool) (asked : IsNextOf client part f) (may : MayAcknowledgeDir visible part names f fd d) (who : IsAlwaysServedSo part.fds f) where
  dir_hand : IsStillHand v client part n pool
  dir_hand = names_still v client part names n pool hand

  desc : (t : PosixTree) → ((x : ℕ) → fin.get part.fds x ≡ desc_at t f.client x) → desc_at t f.client fd ≡ Some d
  desc t fds = sym (fds fd) ∙ may.is

  pub dir_may_draw : MayDraw g visible v f (still_leaves part v) ticket
  dir_may_draw = may_draw g visible v client part n pool f ticket dir_hand asked (done_still v f ticket may.done (inr (fd, may.op_is)))
      (λ start history p rest a. inl (fsync_done v f ticket may.done fd may.op_is (tree_after start history) d (desc (tree_after start history) (own_fds g v client part n pool f ticket dir_hand asked start history p rest a))))
      (λ seen s start history p known formed legal fds cells knows on.
      dirs s start history (entry_of ticket f) p known fd legal may.op_is (ap (λ (x : Option Desc). (unwrap_or x closed).file) (desc (tree_after start history) fds) ∙ may.of)
      (names_known visible v client part names n pool hand start history known (may.known seen) knows) on) who

pub dirs_may_draw : DirsAreAcknowledged → DirAcknowledgementsMayDraw
dirs_may_draw dirs g visible v client part names n pool f ticket fd d hand asked may who = dir_may_draw dirs g visible v client part names n pool f ticket fd d hand asked may who

-- ---- a `sync`

module _ (g : Geometry) (all : AllIsAcknowledged g) (visible : Bool) (v : View) (client : ℕ) (part : ClientPart) (names : NamesCell) (n : ℕ) (pool : BlockSet) (f : Fresh) (ticket : ℕ)
    (hand : IsNamesHand v client part names n pool) (asked : IsNextOf client part f) (may : MayAcknowledgeAll visible v names f) (who : IsAlwaysServedSo part.fds f) where
  known_all : visible ≡ true → (start : PosixTree) (history : List Entry) (p : Parts) (known : Known) → HasCells v p → KnowsCells start history v known → IsAllKnown start history p known
  known_all seen start history p known cells knows = record {
    names = names_known visible v client part names n pool hand start history known (may.known seen) knows;
    files = λ file live.
        let held : IsSome (fin.get names.value.held file) = subst (λ (x : NamesPart). IsSome (fin.get x.held file)) ((cells.names tt names (has_names visible v client part names n pool hand)).names) live in
        let c = may.each seen file held in
        let x = knows.files_told file c.0 c.1 in
        let y = fewer_before file start history c.0.changed c.0.known c.2 in
        let z = knows.files file c.0 c.1 in
        omega (arith, x, y, z);
  }

  pub sync_may_draw : MayDraw g visible v f (still_leaves part v) ticket
  sync_may_draw = may_draw g visible v client part n pool f ticket (names_still v client part names n pool hand) asked (done_still v f ticket may.done (inl may.op_is))
      (λ start history p rest a. inl (may.done ∙ sym (ap (λ o. (posix (tree_after start history) f.client o).1) may.op_is)))
      (λ seen s start history p known formed legal fds cells knows on. all s start history (entry_of ticket f) p known formed legal may.op_is (known_all seen start history p known cells knows) on) who

pub syncs_may_draw : (g : Geometry) → AllIsAcknowledged g → SyncsMayDraw g
syncs_may_draw g all visible v client part names n pool f ticket hand asked may who = sync_may_draw g all visible v client part names n pool f ticket hand asked may who
