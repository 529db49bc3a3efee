-- Whether a session sees its disk: a test of what the disk holds, which contracts make and no code.
use Rattle.std.specs.Prelude.{ℕ, ◌&&◌, ◌==◌, Bool, true, false, List, [], ◌∷◌, Result, Ok, Err, not, nat_lt, is_none}
use Rattle.std.specs.List.{list_all, range_with_len}
use Rattle.std.specs.Str.{bytes_eq}
use Rattle.ufs_base.specs.Images.{Image}
use Rattle.ufs_disk.specs.Disk.{Cell, State, seen}
use Rattle.ufs_image.specs.Damage.{bad_tree}
use Rattle.ufs_image.specs.Images.{form_at}
use Rattle.ufs_image.specs.Journal.{epoch_in}
use Rattle.ufs_image.specs.Volume.{Refusal, Volume, damage_of, volume}
use Rattle.ufs_layout.specs.Areas.{all_inodes, journal_sectors}

abbrev pub is_nothing : {A : Type 0} → List A → Bool
is_nothing [] = true
is_nothing (x ∷ xs) = false

-- nothing is pending in the sector
abbrev pub is_still : Cell → Bool
is_still cell = list_all (λ bytes. bytes_eq bytes cell.seen) cell.older

-- nor in any
abbrev pub is_settled : ℕ → State → Bool
is_settled sectors state = list_all (λ sector. is_still (state sector)) (range_with_len 0 sectors)

-- the image is marked clean, opens to a tree, has nothing in its journal, and nothing of it is damaged
abbrev pub is_clean_volume : Image → Volume → Bool
is_clean_volume image v = v.superblock.clean
    && (is_none (bad_tree v.geometry v.image)
    && (list_all (λ s. not (nat_lt v.superblock.epoch (epoch_in (image s)))) (journal_sectors v.geometry)
    && (list_all (λ s. not (epoch_in (image s) == v.superblock.epoch)) (journal_sectors v.geometry)
    && (list_all (λ i. nat_lt (form_at v.geometry image i).number v.superblock.next) (all_inodes v.geometry)
    && is_nothing (damage_of v)))))

abbrev pub is_clean_in : Image → Result Volume Refusal → Bool
is_clean_in image (Ok v) = is_clean_volume image v
is_clean_in image (Err refusal) = false

-- `IsCleanDisk` of `ufs_recovery`, as a test
abbrev pub is_clean : ℕ → State → Bool
is_clean sectors state = is_settled sectors state && is_clean_in (seen state) (volume sectors (seen state))

-- Contracts see what the disk holds, and it is clean.
abbrev pub sees : (visible : Bool) → ℕ → State → Bool
sees visible sectors state = visible && is_clean sectors state
