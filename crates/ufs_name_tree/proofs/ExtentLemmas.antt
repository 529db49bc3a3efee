-- Extents of the first blocks of a list.
use Rattle.std.proofs.Common.{◌≡◌, ◌≢◌, ℕ, ◌+◌, ◌≤◌, ◌<◌, List, [], ◌∷◌, ◌++◌, Some, true, length, take, get_or, ap, sym, refl, ◌∙◌, arith}
use Rattle.std.specs.Prelude.{map, drop, ◌&&◌, All}
use Rattle.std.proofs.lemmas.Bool.{le-leb}
use Rattle.std.proofs.lemmas.List.{length-map}
use Rattle.std.proofs.Math.ListN.{take-append-drop}
use Rattle.ufs_extent.specs.declared.Run.{Run}
use Rattle.ufs_base.specs.declared.sizes.TheConstants.{MAX_BLOCKS}
use Rattle.ufs_extent.specs.Runs.{IsRun, next_block, appended, appended_all}
use Rattle.ufs_extent.proofs.RunLemmas.{length-appended_adds, length-appended_all}
use Rattle.ufs_layout.specs.Records.{is_record}
use Rattle.ufs_layout.specs.declared.inode.Extent.{Extent}
use Rattle.ufs_layout.specs.declared.records.LogRecord.TheVariants.{Delta}
use Rattle.ufs_dirs.specs.Directory.{Directory, IsDirectory}
use Rattle.ufs_dirs.proofs.KeptLemmas.{few_slots}
use Rattle.ufs_ilog.specs.Deltas as log
use Rattle.ufs_ilog.proofs.DeltaLemmas.{extents_form}
use Rattle.ufs_dir_tree.specs.Space.{one_block, extents_of}
use Rattle.ufs_dir_tree.proofs.SpaceLemmas.{extents-push}
use Rattle.ufs_dir_tree.proofs.GivenBlocks.{taken_next}

extents_on : (rs : List Run) (xs ys : List ℕ) → appended_all rs (map one_block (xs ++ ys)) ≡ appended_all (appended_all rs (map one_block xs)) (map one_block ys)
extents_on rs [] ys = refl
extents_on rs (x ∷ xs) ys = extents_on (appended rs (one_block x)) xs ys

-- the first blocks lie in no more extents
pub front_fewer : (i : ℕ) (blocks : List ℕ) → length (extents_of (take i blocks)) ≤ length (extents_of blocks)
front_fewer i blocks =
    let whole = ap (λ (bs : List ℕ). length (extents_of bs)) (sym (take-append-drop i blocks)) ∙ ap (λ (rs : List Run). length rs) (extents_on [] (take i blocks) (drop i blocks)) in
    omega (arith, whole, length-appended_all (extents_of (take i blocks)) (map one_block (drop i blocks)))

pub next_extent : (i : ℕ) (blocks : List ℕ) → i < length blocks → extents_of (take (i + 1) blocks) ≡ appended (extents_of (take i blocks)) (one_block (get_or blocks i 0))
next_extent i blocks inside = ap extents_of (taken_next blocks i inside) ∙ extents-push (take i blocks) (get_or blocks i 0)

-- so no block needs one more than there may be
pub no_more : (i : ℕ) (blocks : List ℕ) → i < length blocks → length (extents_of blocks) ≤ 56 → next_block (extents_of (take i blocks)) ≢ Some (get_or blocks i 0) → length (extents_of (take i blocks)) ≢ 56
no_more i blocks inside few apart full =
    let next = ap (λ (rs : List Run). length rs) (next_extent i blocks inside) ∙ length-appended_adds (extents_of (take i blocks)) (one_block (get_or blocks i 0)) apart in
    omega (arith, next, full, few, front_fewer (i + 1) blocks)

-- ---- a directory's record

pub dir_delta_form : (inode size : ℕ) (runs : List Run) → length runs ≤ 56 → All IsRun runs → is_record (Delta inode 2 size 0 (log.extents_of runs)) ≡ true
dir_delta_form inode size runs few every =
    λ i. le-leb (0 + length (log.extents_of runs)) 56 (omega (arith, few, length-map {B = Extent} runs (λ (r : Run). record { start = r.start; length = r.length }))) i && extents_form runs every i

pub few_blocks : (d : Directory) → IsDirectory d → length d.blocks ≤ MAX_BLOCKS
few_blocks d is = omega (arith, few_slots d is, is.sized)
