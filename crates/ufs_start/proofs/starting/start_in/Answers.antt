use Rattle.std.proofs.Common.{◌≡◌, ℕ, ◌*◌, [], true, false, length, ap, refl, ◌∙◌, arith}
use Rattle.std.specs.Prelude.{Result}
use Rattle.std.specs.FinSet as set
use Rattle.std.proofs.lemmas.Result.{err_from_is_err_and}
use Rattle.ufs_base.specs.Images.{Image}
use Rattle.ufs_bitmap.specs.Space.{is_between}
use Rattle.ufs_disk.specs.Bytes.{image_of}
use Rattle.ufs_disk.specs.Whole.{sector_within}
use Rattle.ufs_image.specs.Nodes.{is_taken, sound_nodes}
use Rattle.ufs_image.specs.Opens.{ImageTree}
use Rattle.ufs_image.specs.Volume.{Refusal}
use Rattle.ufs_layout.specs.Areas.{first_of_data, is_data_sector}
use Rattle.ufs_ledger.specs.Kept.{paths_of}
use Rattle.ufs_opening.proofs.Lengths.{file_sized}
use Rattle.ufs_one_hand.specs.OneHand.{start_with}
use Rattle.ufs_promise_laws.specs.Loaded.{AreRead, IsUntaken}
use Rattle.ufs_promise_laws.specs.Starts.{image_start}
use Rattle.ufs_start.specs.Begun.{catalog_under, image_under, tree_or, tree_under, volume_under}
use Rattle.ufs_start.specs.Files.{AreSized}
use Rattle.ufs_start.specs.Starts.{AreStartNames, IsLoaded, IsUndamaged}
use Rattle.ufs_start.proofs.Beginning.{calm_names, few_files, is_loaded, refused_file, refused_names, sized_there, untaken}
use Rattle.ufs_front.specs.Fronts.{bytes_of}
use Rattle.ufs_front.specs.Padded.{padded_sized, padded_small}
use Rattle.ufs_start.proofs.starting.start_in.Goals as goal

pub names_in-requires-clause-loaded : goal.names_in-requires-clause-loaded
names_in-requires-clause-loaded c =
    let l = c.in_ok-loaded.loaded in
    let e = c.in_ok-loaded.ensures in
    let disk : Image = image_of (bytes_of c.args.copy.now) in
    (c.args.copy.now.sectors, disk, l.volume.superblock.superblock, image_under l.volume.superblock disk, is_loaded l.volume l.findings c.args.copy.now.sectors disk (e.taken refl) (e.catalog refl) (e.sound refl) (e.found refl))

pub files_in-requires-clause-begun : goal.files_in-requires-clause-begun
files_in-requires-clause-begun c =
    let l = c.in_ok-loaded.loaded in
    let e = c.in_ok-loaded.ensures in
    let h = l.volume.superblock in
    let disk : Image = image_of (bytes_of c.args.copy.now) in
    let loaded : IsLoaded h.geometry l.findings c.args.copy.now.sectors disk h.superblock (image_under h disk) =
    is_loaded l.volume l.findings c.args.copy.now.sectors disk (e.taken refl) (e.catalog refl) (e.sound refl) (e.found refl) in
    (c.args.copy.now.sectors, disk, h.superblock, image_under h disk, loaded, c.in_ok-names.ensures.names c.args.copy.now.sectors disk h.superblock (image_under h disk) loaded)

pub returns-clause-begun : goal.returns-clause-begun
returns-clause-begun c p starts =
    let l = c.in_ok-loaded.loaded in
    let e = c.in_ok-loaded.ensures in
    let v = l.volume in
    let h = v.superblock in
    let n = c.in_ok-names.names in
    let files = c.in_ok-files.files in
    let sectors = c.args.copy.now.sectors in
    let disk : Image = image_of (bytes_of c.args.copy.now) in
    let image : Image = image_under h disk in
    let loaded : IsLoaded h.geometry l.findings sectors disk h.superblock image = is_loaded v l.findings sectors disk (e.taken refl) (e.catalog refl) (e.sound refl) (e.found refl) in
    let undamaged : IsUndamaged h.geometry image l.findings = record { found = loaded.found; whole = (c.damage_law.ensures.whole image (catalog_under h disk) loaded.standing.catalog loaded.standing.sound).1 } in
    let start : AreStartNames sectors disk h.geometry image n = c.in_ok-names.ensures.names sectors disk h.superblock image loaded in
    let long : (sector : ℕ) → is_data_sector h.geometry sector ≡ true → length (image sector) ≡ 512 = λ sector within. sized_there v sectors disk (e.taken refl) e.large
    (λ k less. (sector_within (bytes_of c.args.copy.now) k (padded_small (512 * c.args.copy.now.sectors) c.args.copy.now.held.items c.args.copy.now.small_bytes) (let long = padded_sized (512 * c.args.copy.now.sectors) c.args.copy.now.held.items c.args.copy.now.within in omega (arith, long, less))).sized) sector within in
    let sized : AreSized h.geometry image = λ inode inside file. file_sized h.geometry image long loaded.standing.sound inode inside in
    let read : AreRead image (catalog_under h disk) n files = c.in_ok-files.ensures.read sectors disk h.superblock image loaded start sized in
    let parts = c.start_files_law.ensures.parts h.geometry l.findings sectors disk h.superblock image n files loaded start read in
    let free : IsUntaken h.geometry (catalog_under h disk) l.free.free =
    c.files_part_law.ensures.free disk (volume_under h disk) (catalog_under h disk) l.free.free loaded.standing
    (λ b is. untaken (is_between (first_of_data h.geometry) h.geometry.blocks b) (is_taken h.geometry (sound_nodes h.geometry image) b) (set.contains l.free.free b) (e.free refl b) is) in
    let session : p.start ≡ start_with (paths_of (tree_under h disk)) = starts ∙ ap (λ (r : Result ImageTree Refusal). start_with (paths_of (tree_or r))) start.opened in
    record {
      standing = loaded.standing;
      sized = long;
      opened = start.opened;
      table = start.names;
      names = start.part;
      reached = c.in_ok-names.ensures.reached;
      named = c.in_ok-names.ensures.named image undamaged;
      few = c.in_ok-names.ensures.few;
      read = read;
      files = parts.0;
      inodes = parts.1;
      here = c.in_ok-files.ensures.here;
      unread = c.in_ok-files.ensures.unread image loaded.found;
      laid = c.in_ok-files.ensures.laid image loaded.found;
      first = e.first;
      blocks = e.blocks;
      free = e.free refl;
      apart = c.start_files_law.ensures.apart h.geometry l.findings sectors disk h.superblock image n files l.free.free loaded start read free;
      session = session;
      can = record { nodes = paths_of (tree_under h disk); cells = []; is_visible = false; paths = c.image_start_law.ensures.paths disk (tree_under h disk) start.opened; few = few_files n (image_start (tree_under h disk)) start.names.next c.in_ok-names.ensures.few; is = session };
    }

pub returns-in_err-files-clause-begun : goal.returns-in_err-files-clause-begun
returns-in_err-files-clause-begun c p starts =
    let q = err_from_is_err_and c.from_residual-in_err-files.result c.from_residual-in_err-files.ensures.1 in
    rw q.1 tt

pub returns-in_err-files-clause-refused : goal.returns-in_err-files-clause-refused
returns-in_err-files-clause-refused c =
    let p = err_from_is_err_and c.from_residual-in_err-files.result c.from_residual-in_err-files.ensures.1 in
    let l = c.in_ok-loaded.loaded in
    let e = c.in_ok-loaded.ensures in
    let v = l.volume in
    let disk : Image = image_of (bytes_of c.args.copy.now) in
    let loaded = is_loaded v l.findings c.args.copy.now.sectors disk (e.taken refl) (e.catalog refl) (e.sound refl) (e.found refl) in
    rw (p.1, p.2) (refused_file v c.args.copy.now.sectors disk loaded.standing c.in_err-files.field-0.0
    (c.in_err-files.ensures.refused (image_under v.superblock disk) loaded.found) c.in_err-files.ensures.named)

pub returns-in_err-names-clause-refused : goal.returns-in_err-names-clause-refused
returns-in_err-names-clause-refused c =
    let p = err_from_is_err_and c.from_residual-in_err-names.result c.from_residual-in_err-names.ensures.1 in
    let l = c.in_ok-loaded.loaded in
    let e = c.in_ok-loaded.ensures in
    let v = l.volume in
    let h = v.superblock in
    let g = h.geometry in
    let sectors = c.args.copy.now.sectors in
    let disk : Image = image_of (bytes_of c.args.copy.now) in
    let image : Image = image_under h disk in
    let loaded : IsLoaded g l.findings sectors disk h.superblock image = is_loaded v l.findings sectors disk (e.taken refl) (e.catalog refl) (e.sound refl) (e.found refl) in
    let undamaged : IsUndamaged g image l.findings = record { found = loaded.found; whole = (c.damage_law.ensures.whole image (catalog_under h disk) loaded.standing.catalog loaded.standing.sound).1 } in
    rw (p.1, p.2) (refused_names v l.findings sectors disk loaded.standing undamaged c.in_err-names.field-0.0 c.in_err-names.ensures.fault)

pub returns-in_err-names-clause-calm : goal.returns-in_err-names-clause-calm
returns-in_err-names-clause-calm c =
    let p = err_from_is_err_and c.from_residual-in_err-names.result c.from_residual-in_err-names.ensures.1 in
    let l = c.in_ok-loaded.loaded in
    rw (p.1, p.2) (calm_names l.volume.superblock.geometry l.findings c.in_err-names.field-0.0 c.in_err-names.ensures.fault)
