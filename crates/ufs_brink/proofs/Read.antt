-- A disk of which a server's start is read, and why no session begins with it.
use Rattle.std.proofs.Common.{◌≡◌, ℕ, [], Bool, true, false, ap, sym, refl, ◌∙◌, subst}
use Rattle.std.specs.Prelude.{Ok}
use Rattle.ufs_base.specs.Images as images
use Rattle.ufs_metadata.specs.Faults.{IsOutside, IsWhyNot}
use Rattle.ufs_metadata.specs.Reading.{IsReadOnly}
use Rattle.ufs_metadata.specs.declared.fault.RecoverFault.{RecoverFault}
use Rattle.ufs_metadata.specs.declared.fault.RecoverFault.TheVariants.{NoSuperblock, BadVersion, BadGeometry, BadRecord, BadTree, Device, Lack}
use Rattle.ufs_disk.specs.Disk.{IsImage, Leaves, State, seen}
use Rattle.ufs_disk.specs.Moments.{Moments, reads}
use Rattle.ufs_disk.proofs.Images.{seen_is_image}
use Rattle.ufs_disk.proofs.Runs.{weaker}
use Rattle.ufs_image.specs.Opens.{ImageTree, opens}
use Rattle.ufs_image.specs.Proper.{IsProperImage}
use Rattle.ufs_image.specs.Volume.{superblock_of}
use Rattle.ufs_ledger.specs.Kept.{OpensExplained, paths_of}
use Rattle.ufs_model.specs.Laws.{KeepsTrees}
use Rattle.ufs_model.specs.PosixTree.{PosixTree}
use Rattle.ufs_model.proofs.ContentLemmas.{start_has_contents}
use Rattle.ufs_model.proofs.Facts.Starts.{start_is_tree}
use Rattle.ufs_promise_laws.specs.Starts.{image_start}
use Rattle.ufs_promise_laws.proofs.Started.{image_is_tree}
use Rattle.ufs_crash_laws.proofs.Facts.Ends.{start_explained}
use Rattle.ufs_opening.specs.Told.{TellsWhy}
use Rattle.ufs_recovery.specs.Home.{KeepsTree, OpensAlike}
use Rattle.ufs_recovery.specs.Recovered.{IsCleanDisk, IsProperDisk, log_of}
use Rattle.ufs_recovery.proofs.Ends.{proper_opens}
use Rattle.ufs_recovery.proofs.SuperblockPut.{keeps_settled, kept_quietly}
use Rattle.ufs_start.specs.Refused.{TellsNoStart}
use Rattle.ufs_start.specs.declared.fault.StartFault.{StartFault}
use Rattle.ufs_start.specs.declared.fault.StartFault.TheVariants.{Image, Unreached, Unnamed, ExtraBlocks}
use Rattle.ufs_promise_laws.specs.OnDisk.{IsExplainedBetween, IsExplainedImage}
use Rattle.ufs_brink.specs.Begins.{BeginsWith, TellsNoSession, is_mended}

-- ---- a tree, and what begins with it

-- An image that opens to a tree is explained before the first request.
explained_there : KeepsTrees → (sectors : ℕ) (image : images.Image) (tree : ImageTree) → opens sectors image ≡ Ok tree → OpensExplained sectors (image_start tree) [] image
explained_there keeps sectors image tree e = record {
  tree = tree;
  opened = e;
  explained = start_explained keeps (image_start tree) (start_is_tree (paths_of tree) (image_is_tree sectors image tree e)) (paths_of tree) (start_has_contents (paths_of tree));
}

pub begins_alike : (one other : ℕ) (image home : images.Image) (start : PosixTree) → opens other home ≡ opens one image → BeginsWith one image start → BeginsWith other home start
begins_alike one other image home start same with_it = record { tree = with_it.tree; opened = same ∙ with_it.opened; start_is = with_it.start_is }

begins_explained : KeepsTrees → (sectors : ℕ) (image : images.Image) (start : PosixTree) → BeginsWith sectors image start → OpensExplained sectors start [] image
begins_explained keeps sectors image start with_it =
    subst (λ (t : PosixTree). OpensExplained sectors t [] image) (sym with_it.start_is) (explained_there keeps sectors image with_it.tree with_it.opened)

-- ---- a disk that was only read

module _ (keeps : Bool) (old new : Moments) (read : IsReadOnly keeps old new) where
  pub proper_still : (sectors : ℕ) → IsProperDisk sectors old.state → IsProperDisk sectors new.state
  proper_still sectors is = record {
    settled = λ image left. is.settled image (read.crash.after image left) ∙ sym read.content;
    proper = subst (IsProperImage sectors) (sym read.content) is.proper;
  }

  pub clean_still : (sectors : ℕ) → IsCleanDisk sectors old.state → IsCleanDisk sectors new.state
  clean_still sectors is = record {
    proper = proper_still sectors is.proper;
    clean = ap (λ (image : images.Image). (superblock_of image).clean) read.content ∙ is.clean;
    empty = ap log_of read.content ∙ is.empty;
  }

  -- a reading behind what kept the tree
  pub kept_still : (sectors : ℕ) (first : Moments) → KeepsTree keeps sectors first old → KeepsTree keeps sectors first new
  kept_still sectors first kept = kept_quietly keeps sectors first old new kept read.crash

  pub tree_still : (sectors : ℕ) → IsProperDisk sectors old.state → KeepsTree keeps sectors old new
  tree_still sectors is = keeps_settled keeps sectors old new is.settled read.crash

-- ---- of a clean disk

pub clean_explained : KeepsTrees → (sectors : ℕ) (state : State) (start : PosixTree) → IsCleanDisk sectors state → BeginsWith sectors (seen state) start → Leaves (IsExplainedImage sectors start []) state
clean_explained trees sectors state start is with_it image left =
    subst (IsExplainedImage sectors start []) (sym (is.proper.settled image left)) (record { explained = begins_explained trees sectors (seen state) start with_it; proper = is.proper.proper })

-- while it is only read
pub reading_explained : KeepsTrees → (keeps : Bool) (sectors : ℕ) (old new : Moments) (start : PosixTree) → IsReadOnly keeps old new → IsCleanDisk sectors old.state → BeginsWith sectors (reads old) start → IsExplainedBetween keeps sectors start [] old new
reading_explained trees keeps sectors old new start read is with_it =
    weaker keeps (IsImage old.state) (IsExplainedImage sectors start []) (clean_explained trees sectors old.state start is with_it) old new read.crash

-- ---- of a disk that is recovered

module _ (keeps : Bool) (sectors : ℕ) (old new : Moments) (kept : KeepsTree keeps sectors old new) where
  pub same_tree : opens sectors (reads new) ≡ opens sectors (reads old)
  same_tree = (kept.after (reads new) (seen_is_image new.state)).tree

  pub recovery_explained : KeepsTrees → (start : PosixTree) → IsProperDisk sectors old.state → BeginsWith sectors (reads old) start → IsExplainedBetween keeps sectors start [] old new
  recovery_explained trees start proper with_it =
      weaker keeps (OpensAlike sectors (reads old)) (IsExplainedImage sectors start [])
      (λ image alike. record { explained = begins_explained trees sectors image start (begins_alike sectors sectors (reads old) image start alike.tree with_it); proper = alike.proper proper.proper }) old new kept

pub proper_begins : (sectors : ℕ) (state : State) → IsProperDisk sectors state → (start : PosixTree) × BeginsWith sectors (seen state) start
proper_begins sectors state proper =
    let opened = proper_opens sectors (seen state) proper.proper in
    (image_start opened.0, record { tree = opened.0; opened = opened.1; start_is = refl })

-- ---- why no session begins

-- what no recovery mends
pub no_session : (sectors : ℕ) (image : images.Image) (fault : StartFault) → is_mended fault ≡ false → TellsNoStart sectors image fault → TellsNoSession sectors image fault
no_session sectors image (Image fault) left tells = tells
no_session sectors image (Unreached inode) left tells = let no : true ≡ false = left in cc
no_session sectors image (Unnamed inode) left tells = let no : true ≡ false = left in cc
no_session sectors image (ExtraBlocks inode) left tells = let no : true ≡ false = left in cc

outside_why : (sectors : ℕ) (image : images.Image) (fault : RecoverFault) → IsOutside fault → TellsWhy sectors image fault
outside_why sectors image NoSuperblock is = absurd is
outside_why sectors image (BadVersion found) is = absurd is
outside_why sectors image (BadGeometry number) is = absurd is
outside_why sectors image (BadRecord sector) is = absurd is
outside_why sectors image (BadTree inode) is = absurd is
outside_why sectors image (Device fault) is = tt
outside_why sectors image (Lack why) is = is

pub outside_session : (sectors : ℕ) (image : images.Image) (u : StartFault) → (fault : RecoverFault) × (u ≡ Image fault) × IsOutside fault → TellsNoSession sectors image u
outside_session sectors image u why = subst (TellsNoSession sectors image) (sym why.1) (outside_why sectors image why.0 why.2)

-- of an image that opens to the same tree
pub same_session : (sectors : ℕ) (image home : images.Image) → opens sectors home ≡ opens sectors image → (fault : StartFault) → TellsNoSession sectors home fault → TellsNoSession sectors image fault
same_session sectors image home same (Image fault) tells = subst (λ o. IsWhyNot o fault) same tells
same_session sectors image home same (Unreached inode) none = none
same_session sectors image home same (Unnamed inode) none = none
same_session sectors image home same (ExtraBlocks inode) none = none
