-- An acknowledged `fsync` of a file may be drawn by a hand without the store.
use Rattle.std.proofs.Common.{◌≡◌, ℕ, ◌≤◌, inl, inr, Bool, true, List, [], ◌∷◌, length, Option, Some, sym, refl, ap, ◌∙◌, subst, arith}
use Rattle.std.specs.Prelude.{unwrap_or}
use Rattle.std.specs.FinMap as fin
use Rattle.ufs_bitmap.specs.Blocks.{BlockSet}
use Rattle.ufs_layout.specs.declared.geometry.Geometry.{Geometry}
use Rattle.ufs_model.specs.Descriptors.{closed}
use Rattle.ufs_model.specs.History.{tree_after}
use Rattle.ufs_model.specs.PosixTree.{PosixTree, desc_at}
use Rattle.ufs_model.specs.declared.data.Desc.{Desc}
use Rattle.ufs_model.specs.declared.data.Entry.{Entry}
use Rattle.ufs_crash_laws.specs.Changes.{changes_of}
use Rattle.ufs_hand_laws.specs.Draws.{entry_of}
use Rattle.ufs_hand_laws.specs.Owned.{Has}
use Rattle.ufs_hand_laws.specs.Parts.{ClientPart}
use Rattle.ufs_hand_laws.specs.declared.fresh.Fresh.{Fresh}
use Rattle.ufs_promise_laws.specs.Known.{Known}
use Rattle.ufs_joint.specs.Acks.{FilesAreAcknowledged}
use Rattle.ufs_joint.specs.Cells.{FileCell, View}
use Rattle.ufs_joint.specs.Draws.{Leaves, MayDraw}
use Rattle.ufs_joint.specs.FileHands.{AcknowledgementsMayDraw, IsFileHand, MayAcknowledge, same_leaves}
use Rattle.ufs_joint.specs.NamesHands.{IsNextOf, still_leaves}
use Rattle.ufs_joint.specs.Servers.{IsAlwaysServedSo}
use Rattle.ufs_joint.specs.Whole.{KnowsCells}
use Rattle.ufs_joint.proofs.StillDraws as draws
use Rattle.ufs_joint.proofs.StillDraws.{Acknowledges, IsStillHand, own_fds}
use Rattle.ufs_joint.proofs.StillKinds.{done_still, file_still, fsync_done}
use Rattle.ufs_joint.proofs.Takes.{fewer_before}

-- where all stays, what the hand has then is what it had
leaves_same : (v : View) (client : ℕ) (part : ClientPart) (file : ℕ) (cell : FileCell) (n : ℕ) (pool : BlockSet) → IsFileHand v client part file cell n pool → still_leaves part v ≡ same_leaves part file cell n pool
leaves_same v client part file cell n pool hand = λ i. record { fds = part.fds; files = hand.files i; pools = hand.pools i; names = hand.names i }

pub all_stays : (v : View) (client : ℕ) (part : ClientPart) (file : ℕ) (cell : FileCell) (n : ℕ) (pool : BlockSet) (g : Geometry) (visible : Bool) (f : Fresh) (ticket : ℕ) → IsFileHand v client part file cell n pool
    → MayDraw g visible v f (still_leaves part v) ticket → MayDraw g visible v f (same_leaves part file cell n pool) ticket
all_stays v client part file cell n pool g visible f ticket hand may = subst (λ (q : Leaves). MayDraw g visible v f q ticket) (leaves_same v client part file cell n pool hand) may

module _ (acks : FilesAreAcknowledged) (g : Geometry) (visible : Bool) (v : View) (client : ℕ) (part : ClientPart) (file : ℕ) (cell : FileCell) (n : ℕ) (pool : BlockSet) (f : Fresh) (ticket fd : ℕ) (d : Desc)
    (hand : IsFileHand v client part file cell n pool) (may : MayAcknowledge visible client part file cell f fd d) (who : IsAlwaysServedSo part.fds f) where
  has_file : Has (file, cell) v.files
  has_file = subst (Has (file, cell)) (sym hand.files) (inl refl)

  its_hand : IsStillHand v client part n pool
  its_hand = file_still v client part file cell n pool hand

  asked : IsNextOf client part f
  asked = record { low = may.low; by_client = may.by_client; asked = may.asked; seq = may.seq }

  desc : (t : PosixTree) → ((x : ℕ) → fin.get part.fds x ≡ desc_at t f.client x) → desc_at t f.client fd ≡ Some d
  desc t fds = sym (fds fd) ∙ may.is

  -- all that changed of the file is known
  all_known : visible ≡ true → (start : PosixTree) (history : List Entry) (known : Known) → KnowsCells start history v known → length (changes_of file start history) ≤ known.files file
  all_known seen start history known knows =
      let x = knows.files_told file cell has_file in
      let y = fewer_before file start history cell.changed cell.known (may.known seen) in
      let z = knows.files file cell has_file in
      omega (arith, x, y, z)

  acknowledges : Acknowledges g visible v part f ticket
  acknowledges seen s start history p known formed legal fds cells knows on =
      acks s start history (entry_of ticket f) p known fd file legal may.op_is (ap (λ (x : Option Desc). (unwrap_or x closed).file) (desc (tree_after start history) fds) ∙ may.of)
      (record { changes = all_known seen start history known knows; born = knows.born file cell has_file may.born }) on

  may_draw : MayDraw g visible v f (same_leaves part file cell n pool) ticket
  may_draw = all_stays v client part file cell n pool g visible f ticket hand
      (draws.may_draw g visible v client part n pool f ticket its_hand asked (done_still v f ticket may.done (inr (fd, may.op_is)))
      (λ start history p rest a. inl (fsync_done v f ticket may.done fd may.op_is (tree_after start history) d (desc (tree_after start history) (own_fds g v client part n pool f ticket its_hand asked start history p rest a)))) acknowledges who)

pub acknowledgements_may_draw : FilesAreAcknowledged → AcknowledgementsMayDraw
acknowledgements_may_draw acks g visible v client part file cell n pool f ticket fd d hand may who = may_draw acks g visible v client part file cell n pool f ticket fd d hand may who
