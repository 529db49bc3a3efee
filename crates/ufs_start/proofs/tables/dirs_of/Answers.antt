use Rattle.std.proofs.Common.{◌≡◌, ◌+◌, ◌-◌, List, Bool, Option, length, ap, sym, ◌∙◌, subst, arith}
use Rattle.std.specs.Prelude.{◌&&◌, not, IsSome}
use Rattle.std.specs.List.{slice_get}
use Rattle.ufs_bitmap.specs.Space.{is_between}
use Rattle.ufs_start.specs.Tables.{is_used_in}
use Rattle.std.proofs.lemmas.List.FromFn.{length-map-range_with_len}
use Rattle.ufs_layout.specs.InodeForm.{InodeForm}
use Rattle.ufs_image.specs.Images.{inode_at}
use Rattle.ufs_image.specs.Catalog.{catalog_at}
use Rattle.ufs_image.proofs.Depth.{has_root}
use Rattle.ufs_dirs.specs.Directory.{Directory, entry_of}
use Rattle.ufs_dir_tree.specs.DirTable.{DirTable, IsReached}
use Rattle.ufs_dir_tree.specs.DirEdits.{dir_in}
use Rattle.ufs_dir_laws.specs.Tables.{IsTableOf}
use Rattle.ufs_start.specs.Starts.{IsUndamaged}
use Rattle.ufs_start.proofs.Tabled.{is_table}
use Rattle.ufs_start.proofs.SoundRead.{sound_dirs}
use Rattle.ufs_start.proofs.Reaching.{all_reached, cut_off, none_cut}
use Rattle.ufs_start.proofs.tables.dirs_of.Goals as goal

pub all_dirs-requires-clause-counted : goal.all_dirs-requires-clause-counted
all_dirs-requires-clause-counted c =
    let l = c.requires.loaded in
    ap length l.4.found.forms ∙ length-map-range_with_len (inode_at c.args.geometry.now l.3) 1 c.args.geometry.now.inodes

pub free_inodes-requires-clause-counted : goal.free_inodes-requires-clause-counted
free_inodes-requires-clause-counted c =
    let l = c.requires.loaded in
    ap length (c.forms.ensures ∙ l.4.found.forms) ∙ length-map-range_with_len (inode_at c.args.geometry.now l.3) 1 c.args.geometry.now.inodes

pub all_dirs-requires-clause-sound : goal.all_dirs-requires-clause-sound
all_dirs-requires-clause-sound c =
    let l = c.requires.loaded in
    let g = c.args.geometry.now in
    let image = l.3 in
    let is = l.4.standing.catalog in
    let sound = l.4.standing.sound in
    let undamaged : IsUndamaged g image c.args.findings.now = record { found = l.4.found; whole = (c.damage_law.ensures.whole image (catalog_at g image) is sound).1 } in
    let made = c.dir_table_law.ensures.made (catalog_at g image) in
    sound_dirs g image c.args.findings.now c.requires.geometry undamaged is sound made.0 made.1

pub unreached-requires-clause-counted : goal.unreached-requires-clause-counted
unreached-requires-clause-counted c =
    let dirs : length c.as_slice.result.now ≡ length c.in_ok-dirs.dirs.items = ap length c.as_slice.ensures.value in
    let marks : length c.as_slice-2.result.now ≡ length c.in_ok-marks.marks.items = ap length c.as_slice-2.ensures.value in
    omega (arith, dirs, marks, c.in_ok-dirs.ensures.counted, c.in_ok-marks.ensures.sized)

pub from_parts-requires-clause-table : goal.from_parts-requires-clause-table
from_parts-requires-clause-table c =
    let l = c.requires.loaded in
    let g = c.args.geometry.now in
    let image = l.3 in
    let is = l.4.standing.catalog in
    let sound = l.4.standing.sound in
    let undamaged : IsUndamaged g image c.args.findings.now = record { found = l.4.found; whole = (c.damage_law.ensures.whole image (catalog_at g image) is sound).1 } in
    let t : DirTable = record { dirs = c.in_ok-dirs.dirs.items; free = c.in_ok-free.free.free } in
    let of = is_table g image c.args.findings.now undamaged is sound t c.in_ok-dirs.ensures.counted c.in_ok-dirs.ensures.read
    (λ i. c.in_ok-free.ensures.free i ∙ ap (λ (forms : List (Option InodeForm)). is_between 2 (g.inodes + 1) i && not (is_used_in forms i)) c.forms.ensures) in
    c.dir_table_law.ensures.table image (catalog_at g image) t is sound of
    (all_reached g image (catalog_at g image) t (has_root g c.requires.geometry) is sound of c.in_ok-marks.marks.items (c.in_ok-marks.ensures.marks image undamaged.found undamaged.whole)
    (λ place name has. ap (λ (l : List Bool). slice_get l place) (sym c.as_slice-2.ensures.value)
    ∙ c.in_default.ensures.none place name (subst (λ (ds : List Directory). IsSome (entry_of (dir_in ds (place + 1)).slots name)) (sym c.as_slice.ensures.value) has)))

pub returns-clause-reached : goal.returns-clause-reached
returns-clause-reached c =
    let l = c.requires.loaded in
    let g = c.args.geometry.now in
    let image = l.3 in
    let is = l.4.standing.catalog in
    let sound = l.4.standing.sound in
    let undamaged : IsUndamaged g image c.args.findings.now = record { found = l.4.found; whole = (c.damage_law.ensures.whole image (catalog_at g image) is sound).1 } in
    let t : DirTable = record { dirs = c.in_ok-dirs.dirs.items; free = c.in_ok-free.free.free } in
    let of = is_table g image c.args.findings.now undamaged is sound t c.in_ok-dirs.ensures.counted c.in_ok-dirs.ensures.read
    (λ i. c.in_ok-free.ensures.free i ∙ ap (λ (forms : List (Option InodeForm)). is_between 2 (g.inodes + 1) i && not (is_used_in forms i)) c.forms.ensures) in
    subst (λ (d : DirTable). IsReached d) (sym c.from_parts.ensures)
    (all_reached g image (catalog_at g image) t (has_root g c.requires.geometry) is sound of c.in_ok-marks.marks.items (c.in_ok-marks.ensures.marks image undamaged.found undamaged.whole)
    (λ place name has. ap (λ (l : List Bool). slice_get l place) (sym c.as_slice-2.ensures.value)
    ∙ c.in_default.ensures.none place name (subst (λ (ds : List Directory). IsSome (entry_of (dir_in ds (place + 1)).slots name)) (sym c.as_slice.ensures.value) has)))

pub returns-clause-dirs : goal.returns-clause-dirs
returns-clause-dirs c image u =
    let g = c.args.geometry.now in
    let is = c.damage_law.ensures.catalog image u.whole in
    let sound = c.damage_law.ensures.sound image (catalog_at g image) is u.whole in
    let t : DirTable = record { dirs = c.in_ok-dirs.dirs.items; free = c.in_ok-free.free.free } in
    subst (IsTableOf g (catalog_at g image)) (sym c.from_parts.ensures)
    (is_table g image c.args.findings.now u is sound t c.in_ok-dirs.ensures.counted c.in_ok-dirs.ensures.read
    (λ i. c.in_ok-free.ensures.free i ∙ ap (λ (forms : List (Option InodeForm)). is_between 2 (g.inodes + 1) i && not (is_used_in forms i)) c.forms.ensures))

pub returns-clause-whole : goal.returns-clause-whole
returns-clause-whole c image u =
    let g = c.args.geometry.now in
    let is = c.damage_law.ensures.catalog image u.whole in
    let sound = c.damage_law.ensures.sound image (catalog_at g image) is u.whole in
    let t : DirTable = record { dirs = c.in_ok-dirs.dirs.items; free = c.in_ok-free.free.free } in
    let of = is_table g image c.args.findings.now u is sound t c.in_ok-dirs.ensures.counted c.in_ok-dirs.ensures.read
    (λ i. c.in_ok-free.ensures.free i ∙ ap (λ (forms : List (Option InodeForm)). is_between 2 (g.inodes + 1) i && not (is_used_in forms i)) c.forms.ensures) in
    none_cut g image (catalog_at g image) t (has_root g c.requires.geometry) is sound of c.in_ok-marks.marks.items (c.in_ok-marks.ensures.marks image u.found u.whole)
    (λ place name has. ap (λ (l : List Bool). slice_get l place) (sym c.as_slice-2.ensures.value)
    ∙ c.in_default.ensures.none place name (subst (λ (ds : List Directory). IsSome (entry_of (dir_in ds (place + 1)).slots name)) (sym c.as_slice.ensures.value) has))

pub returns-in-Some-clause-fault : goal.returns-in-Some-clause-fault
returns-in-Some-clause-fault c image u =
    let g = c.args.geometry.now in
    let is = c.damage_law.ensures.catalog image u.whole in
    let sound = c.damage_law.ensures.sound image (catalog_at g image) is u.whole in
    let t : DirTable = record { dirs = c.in_ok-dirs.dirs.items; free = c.in_ok-free.free.free } in
    let of = is_table g image c.args.findings.now u is sound t c.in_ok-dirs.ensures.counted c.in_ok-dirs.ensures.read
    (λ i. c.in_ok-free.ensures.free i ∙ ap (λ (forms : List (Option InodeForm)). is_between 2 (g.inodes + 1) i && not (is_used_in forms i)) c.forms.ensures) in
    let i = c.in-Some.inode in
    let named = c.in-Some.ensures.named in
    cut_off g image (catalog_at g image) t (has_root g c.requires.geometry) is sound of c.in_ok-marks.marks.items (c.in_ok-marks.ensures.marks image u.found u.whole) i named.0
    (subst (λ (ds : List Directory). IsSome (entry_of (dir_in ds i).slots named.0)) c.as_slice.ensures.value named.1)
    (ap (λ (l : List Bool). slice_get l (i - 1)) (sym c.as_slice-2.ensures.value) ∙ c.in-Some.ensures.unmarked)
