-- A delta is on its form.
use Rattle.std.proofs.Common.{◌≡◌, ℕ, ◌+◌, ◌≤◌, List, [], ◌∷◌, true, length, refl, arith}
use Rattle.std.specs.Prelude.{◌&&◌, All}
use Rattle.std.specs.List.{list_all}
use Rattle.std.proofs.lemmas.Bool.{le-leb}
use Rattle.std.proofs.lemmas.List.{length-map}
use Rattle.std.proofs.lemmas.List.Elements.{All-head, All-tail}
use Rattle.ufs_extent.specs.Runs.{IsRun}
use Rattle.ufs_extent.specs.declared.Run.{Run}
use Rattle.ufs_layout.specs.declared.inode.Extent.{Extent}
use Rattle.ufs_layout.specs.InodeForm.{is_extent}
use Rattle.ufs_layout.specs.Records.{is_record}
use Rattle.ufs_layout.specs.declared.records.LogRecord.TheVariants.{Delta}
use Rattle.ufs_ilog.specs.Deltas.{extents_of}

pub extents_form : (runs : List Run) → All IsRun runs → list_all is_extent (extents_of runs) ≡ true
extents_form [] every = refl
extents_form (r ∷ rs) every = λ i. le-leb 1 r.length (All-head IsRun r rs every).0 i && extents_form rs (All-tail IsRun r rs every) i

pub delta_form : (inode size keep : ℕ) (runs : List Run) → keep + length runs ≤ 56 → All IsRun runs → list_all is_record (Delta inode 1 size keep (extents_of runs) ∷ []) ≡ true
delta_form inode size keep runs few every = λ i. (le-leb (keep + length (extents_of runs)) 56 (omega (arith, few, length-map {B = Extent} runs (λ (r : Run). record { start = r.start; length = r.length }))) i && extents_form runs every i) && true
