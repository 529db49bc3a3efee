-- What records do to the extents of inodes.
use Rattle.std.specs.Prelude.{◌≡◌, ℕ, ◌+◌, ◌*◌, ◌<◌, List, [], ◌∷◌, ◌++◌, length, take, slice_index_or, map, filter, flat_map, min, Bool, ◌==◌, nat_lt, if◌then◌else◌}
use Rattle.ufs_layout.specs.Areas.{is_inode_number}
use Rattle.ufs_image.specs.Journal.{FoundSector, records_in}
use Rattle.ufs_layout.specs.declared.geometry.Geometry.{Geometry}
use Rattle.ufs_layout.specs.declared.records.LogRecord.{LogRecord}
use Rattle.ufs_layout.specs.declared.records.LogRecord.TheVariants.{Delta, Place, Free}

-- The first extents are kept, and others are put behind them, by a record in a sector.
pub record Effect : Type 0 where
  pub sector : ℕ
  pub keep : ℕ
  pub added : ℕ

-- by a transaction, and on an inode
pub record Edit : Type 0 where
  pub txn : ℕ
  pub index : ℕ
  pub inode : ℕ
  pub does : Effect

abbrev pub key_of : Edit → ℕ
key_of e = e.txn * 4294967296 + e.inode

abbrev pub edit_at : FoundSector → ℕ → ℕ → ℕ → Edit
edit_at f inode keep added = record { txn = f.1.txn; index = f.1.index; inode = inode; does = record { sector = f.0; keep = keep; added = added } }

abbrev pub in_range : Geometry → Edit → List Edit
in_range g e = if is_inode_number g e.inode then e ∷ [] else []

abbrev pub edits_by : Geometry → FoundSector → LogRecord → List Edit
edits_by g f (Delta inode kind size keep extents) = in_range g (edit_at f inode keep (length extents))
edits_by g f (Place sector slot dentry) = []
edits_by g f (Free inode) = in_range g (edit_at f inode 0 0)

abbrev pub edits_in : Geometry → FoundSector → List Edit
edits_in g f = flat_map (edits_by g f) (records_in f.1.content)

abbrev pub edits_of : Geometry → List FoundSector → List Edit
edits_of g parts = flat_map (edits_in g) parts

-- It keeps more extents than there are.
abbrev pub outkeeps : ℕ → Effect → Bool
outkeeps count e = nat_lt count e.keep

abbrev pub after : ℕ → Effect → ℕ
after count e = min e.keep count + e.added

-- how many extents there are behind some, and the sectors of those that keep too many
abbrev pub edited : List Effect → ℕ → ℕ
edited [] count = count
edited (e ∷ es) count = edited es (after count e)

abbrev pub outkept : List Effect → ℕ → List ℕ
outkept [] count = []
outkept (e ∷ es) count = (if outkeeps count e then e.sector ∷ [] else []) ++ outkept es (after count e)

-- a step, with what its transaction has done up to it
pub record StepValue : Type 0 where
  pub edit : Edit
  pub kept : ℕ
  pub gained : ℕ

abbrev pub IsNet : StepValue → List Effect → Type 0
IsNet s es = (count : ℕ) → min s.kept count + s.gained ≡ edited es count

abbrev pub effects : List StepValue → List Effect
effects steps = map (λ (s : StepValue). s.edit.does) steps

abbrev pub AreNets : List StepValue → Type 0
AreNets steps = (i : ℕ) (d : StepValue) → i < length steps → IsNet (slice_index_or steps i d) (take (i + 1) (effects steps))

-- Of each transaction and inode these are the edits.
abbrev pub HasEdits : List Edit → List StepValue → Type 0
HasEdits edits steps = (key : ℕ) → filter (λ (e : Edit). key_of e == key) (map (λ (s : StepValue). s.edit) steps) ≡ filter (λ (e : Edit). key_of e == key) edits
