-- A server whose names are about to be committed.
use Rattle.std.specs.Prelude.{ℕ, ◌≡◌, List, true, replicate}
use Rattle.ufs_base.specs.declared.sizes.TheConstants.{BLOCK}
use Rattle.ufs_base.specs.Images.{Image}
use Rattle.ufs_bitmap.specs.Taking.{has}
use Rattle.ufs_layout.specs.Superblock.{geometry_of}
use Rattle.ufs_ledger.specs.Kept.{Counts}
use Rattle.ufs_ledger.specs.Ledger.{Ledger}
use Rattle.ufs_model.specs.PosixTree.{PosixTree}
use Rattle.ufs_model.specs.declared.data.Entry.{Entry}
use Rattle.ufs_file_commits.specs.Standing.{IsFileBlock}
use Rattle.ufs_store.specs.Ledgers.{HasLedger}
use Rattle.ufs_store.specs.State.{StoreState, geometry_of_store}
use Rattle.ufs_promise_laws.specs.Known.{AreBorn, Covers, Known, nothing_known}
use Rattle.ufs_promise_laws.specs.OnDisk.{IsExplainedImage}
use Rattle.ufs_promise_laws.specs.Parts.{Parts}
use Rattle.ufs_promise_laws.specs.Stored.{IsSpelled, IsStored}

-- a block of zeros
abbrev pub zeros : List ℕ
zeros = replicate BLOCK 0

-- The store knows a ledger on which the server is stored, by counts that have what is known. Each block that directories took may be
-- written, and these read as zeros.
pub record HasZeros (s : StoreState) (start : PosixTree) (history : List Entry) (p : Parts) (known : Known) (done : List ℕ) : Type 0 where
  pub ledger : Ledger
  pub counts : Counts
  pub knows : HasLedger s ledger
  pub formed : geometry_of ledger.superblock ≡ geometry_of_store s
  pub stored : IsStored ledger s.unassigned.free start history counts p
  pub covers : Covers start history counts known
  pub numbered : AreBorn counts p known
  pub free : (block : ℕ) → has p.fresh block ≡ true → IsFileBlock ledger block
  pub zero : (block : ℕ) → has done block ≡ true → (ledger.blocks block).seen ≡ zeros

-- Some history, for which these blocks read as zeros, explains no image but allowed ones.
pub record ExplainsZeroed (allows : Image → Type 0) (s : StoreState) (p : Parts) (done : List ℕ) : Type 0 where
  pub start : PosixTree
  pub history : List Entry
  pub zeroed : HasZeros s start history p nothing_known done
  pub allowed : (image : Image) → IsExplainedImage s.sectors start history image → allows image

-- The store knows a ledger on which the server is stored, by such counts, and on which dentries may be set in each of these blocks.
pub record HasSpelled (s : StoreState) (start : PosixTree) (history : List Entry) (p : Parts) (known : Known) : Type 0 where
  pub ledger : Ledger
  pub counts : Counts
  pub knows : HasLedger s ledger
  pub formed : geometry_of ledger.superblock ≡ geometry_of_store s
  pub stored : IsStored ledger s.unassigned.free start history counts p
  pub covers : Covers start history counts known
  pub numbered : AreBorn counts p known
  pub ready : (block : ℕ) → has p.fresh block ≡ true → IsSpelled ledger block
