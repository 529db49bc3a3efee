-- What a crash leaves at each moment of a store's calls.
use Rattle.std.proofs.Common.{◌≡◌, ℕ, Bool, true, false, List, [], ◌∷◌, ap, sym, ◌∙◌, inl, inr}
use Rattle.std.specs.Prelude.{if◌then◌else◌}
use Rattle.std.specs.List.{AllByRecursion}
use Rattle.ufs_base.specs.Images.{Image}
use Rattle.ufs_disk.specs.Moments.{reads}
use Rattle.ufs_disk.proofs.Runs.{started, weaker}
use Rattle.ufs_image.specs.Images.{block_at}
use Rattle.ufs_layout.specs.Superblock.{geometry_of}
use Rattle.ufs_layout.specs.declared.geometry.Geometry.{Geometry}
use Rattle.ufs_layout.specs.declared.records.LogRecord.{LogRecord}
use Rattle.ufs_ledger.specs.Changes.{committing, home_of, settled}
use Rattle.ufs_ledger.specs.Kept.{Counts, IsLedgerKept}
use Rattle.ufs_ledger.specs.Laws.{BeginningIsKept, EmptiedIsKept, LeftIsProper, LedgersExplain}
use Rattle.ufs_ledger.specs.Ledger.{IsLeftBy, Ledger}
use Rattle.ufs_model.specs.PosixTree.{PosixTree}
use Rattle.ufs_model.specs.declared.data.Entry.{Entry}
use Rattle.ufs_store.specs.Ledgers.{IsLeftByAny, beginning_next, checkpointed, commit_stages, stages, with_room}
use Rattle.ufs_store.specs.State.{StoreState, has_room, next_commit, next_superblock}
use Rattle.ufs_promise_laws.specs.AlwaysLaws.{CheckpointImagesAreExplained, CheckpointsAreExplained, CommitImagesAreExplained, CommitsAreExplained, ImagesAreExplained, IsKeptLedger, LedgersAreExplained, RestIsExplained, StagesAreExplained}
use Rattle.ufs_promise_laws.specs.OnDisk.{IsExplainedImage}

-- what a ledger that the history keeps leaves
pub image_explained : (g : Geometry) → LedgersExplain g → LeftIsProper g → ImagesAreExplained g
image_explained g explains proper sectors image l start history is left = record {
  explained = explains sectors l image start history is.now is.maybe is.formed left is.kept;
  proper = proper sectors l image is.formed (λ other there. (is.kept.there other there).0 ∙ is.formed) left;
}

module _ (g : Geometry) (each : ImagesAreExplained g) where
  -- ..and one of several such
  pub any_explained : (sectors : ℕ) (ls : List Ledger) (start : PosixTree) (history : List Entry) → AllByRecursion (IsKeptLedger g start history) ls → (image : Image) → IsLeftByAny sectors ls image → IsExplainedImage sectors start history image
  any_explained sectors [] start history all image none = absurd none
  any_explained sectors (m ∷ ms) start history all image (inl left) = each sectors image m start history all.0 left
  any_explained sectors (m ∷ ms) start history all image (inr left) = any_explained sectors ms start history all.1 image left

  pub ledger_explained : LedgersAreExplained g
  ledger_explained keeps sectors old new l start history is run = weaker keeps (IsLeftBy sectors l) (IsExplainedImage sectors start history) (λ image. each sectors image l start history is) old new run

  pub stages_explained : StagesAreExplained g
  stages_explained keeps sectors old new ls start history all run = weaker keeps (IsLeftByAny sectors ls) (IsExplainedImage sectors start history) (any_explained sectors ls start history all) old new run

  pub rest_explained : RestIsExplained g
  rest_explained keeps s start history p same (inl go) =
      ledger_explained keeps s.sectors s.moments s.moments go.ledger start history (record { now = go.counts; maybe = go.counts; formed = go.formed ∙ same; kept = go.stored.kept })
      (started keeps (IsLeftBy s.sectors go.ledger) s.moments go.has.by.is.images)
  rest_explained keeps s start history p same (inr st) =
      ledger_explained keeps s.sectors s.moments s.moments st.ledger start history (record { now = st.now; maybe = st.maybe; formed = st.formed ∙ same; kept = st.kept })
      (started keeps (IsLeftBy s.sectors st.ledger) s.moments st.has.images)

-- ---- each stage

module _ (g : Geometry) (s : StoreState) (l : Ledger) (start : PosixTree) (history : List Entry) (k : Counts) (formed : geometry_of l.superblock ≡ g) (superblock_is : l.superblock ≡ s.superblock) (kept : IsLedgerKept l start history k k) where
  next_form : geometry_of (next_superblock s) ≡ g
  next_form = ap geometry_of (sym superblock_is) ∙ formed

  here : IsKeptLedger g start history l
  here = record { now = k; maybe = k; formed = formed; kept = kept }

  begun : BeginningIsKept g → IsKeptLedger g start history (beginning_next s l)
  begun begins = record { now = k; maybe = k; formed = formed; kept = begins l (next_superblock s) (block_at (home_of l (reads s.moments))) start history k k formed next_form kept }

  pub checkpoint_kept : BeginningIsKept g → AllByRecursion (IsKeptLedger g start history) (l ∷ beginning_next s l ∷ [])
  checkpoint_kept begins = (here, (begun begins, tt))

  done : EmptiedIsKept g → IsKeptLedger g start history (checkpointed s l)
  done empties = record { now = k; maybe = k; formed = next_form; kept = empties l (next_superblock s) (block_at (home_of l (reads s.moments))) start history k k formed next_form kept }

  pub commit_kept : BeginningIsKept g → EmptiedIsKept g → (records : List LogRecord) (next : Counts) → IsLedgerKept (committing (next_commit s records) (settled (with_room s records l))) start history k next
      → AllByRecursion (IsKeptLedger g start history) (stages s records l)
  commit_kept begins empties records next last = by (has_room s records) last
    where
      by : (b : Bool) → IsLedgerKept (committing (next_commit s records) (settled (if b then l else checkpointed s l))) start history k next
          → AllByRecursion (IsKeptLedger g start history) (if b then commit_stages (next_commit s records) l else l ∷ beginning_next s l ∷ commit_stages (next_commit s records) (checkpointed s l))
      by true last = (here, (record { now = k; maybe = next; formed = formed; kept = last }, tt))
      by false last = (here, (begun begins, (done empties, (record { now = k; maybe = next; formed = next_form; kept = last }, tt))))

-- ---- a checkpoint and a commit

module _ (g : Geometry) (each : ImagesAreExplained g) (begins : BeginningIsKept g) where
  pub checkpoint_image : CheckpointImagesAreExplained g
  checkpoint_image s image l start history counts formed superblock_is kept left =
      any_explained g each s.sectors (l ∷ beginning_next s l ∷ []) start history (checkpoint_kept g s l start history counts formed superblock_is kept begins) image left

  pub commit_image : EmptiedIsKept g → CommitImagesAreExplained g
  commit_image empties s records image l start history counts next formed superblock_is kept last left =
      any_explained g each s.sectors (stages s records l) start history (commit_kept g s l start history counts formed superblock_is kept begins empties records next last) image left

pub checkpoint_explained : (g : Geometry) → CheckpointImagesAreExplained g → CheckpointsAreExplained g
checkpoint_explained g one keeps s old new l start history counts formed superblock_is kept run =
    weaker keeps (IsLeftByAny s.sectors (l ∷ beginning_next s l ∷ [])) (IsExplainedImage s.sectors start history) (λ image. one s image l start history counts formed superblock_is kept) old new run

pub commit_explained : (g : Geometry) → CommitImagesAreExplained g → CommitsAreExplained g
commit_explained g one keeps s records old new l start history counts next formed superblock_is kept last run =
    weaker keeps (IsLeftByAny s.sectors (stages s records l)) (IsExplainedImage s.sectors start history) (λ image. one s records image l start history counts next formed superblock_is kept last) old new run
