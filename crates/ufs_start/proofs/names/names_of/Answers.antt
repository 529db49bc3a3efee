use Rattle.std.proofs.Common.{◌≡◌, ◌≤◌, ◌^◌, ℕ, length, ap, sym, ◌∙◌, subst}
use Rattle.ufs_base.specs.Images.{Image}
use Rattle.ufs_image.specs.Catalog.{catalog_at}
use Rattle.ufs_dir_tree.specs.DirTable.{DirTable, IsReached}
use Rattle.ufs_dir_laws.specs.Tables.{IsTableOf}
use Rattle.ufs_layout.specs.declared.superblock.Super.{Super}
use Rattle.ufs_name_tree.specs.NameTable.{NameTable}
use Rattle.ufs_names.specs.Closed.{AreClosed}
use Rattle.ufs_names.specs.NamesPart.{NamesPart}
use Rattle.ufs_walk.proofs.Maps.{if_ok}
use Rattle.ufs_start.specs.Starts.{AreStartNames, IsLoaded, IsUndamaged}
use Rattle.ufs_start.proofs.Named.{if_all, name_table, start_names}
use Rattle.ufs_start.proofs.names.names_of.Goals as goal

pub from_parts-tree-requires : goal.from_parts-tree-requires
from_parts-tree-requires c t dirs_are files_are =
    let l = c.requires.loaded in
    let g = c.args.geometry.now in
    let whole = (c.damage_law.ensures.whole l.3 (catalog_at g l.3) l.4.standing.catalog l.4.standing.sound).1 in
    let undamaged : IsUndamaged g l.3 c.args.findings.now = record { found = l.4.found; whole = whole } in
    name_table g c.args.findings.now l.0 l.1 l.2 l.3 l.4 t c.args.numbers.files.items files_are
    (ap length files_are ∙ c.requires.files ∙ sym c.requires.counted ∙ ap (λ (d : DirTable). length d.dirs) (sym dirs_are))
    (c.requires.numbers l.3 undamaged)
    (subst (IsTableOf g (catalog_at g l.3)) (sym dirs_are) (c.requires.dirs l.3 undamaged))
    (subst (λ (d : DirTable). IsReached d) (sym dirs_are) c.requires.reached)

pub closed-requires-clause-counted : goal.closed-requires-clause-counted
closed-requires-clause-counted c = ap length c.from_parts-tree.ensures.files ∙ c.requires.files

pub returns-clause-reached : goal.returns-clause-reached
returns-clause-reached c =
    let tree = c.from_parts-tree.result in
    if_ok c.closed.result (λ (n : NamesPart). n.tree ≡ tree) (λ (n : NamesPart). IsReached n.tree.dirs)
    (λ n is. subst (λ (d : DirTable). IsReached d) (sym (ap (λ (t : NameTable). t.dirs) is ∙ c.from_parts-tree.ensures.dirs)) c.requires.reached)
    c.closed.ensures.tree

pub returns-clause-few : goal.returns-clause-few
returns-clause-few c =
    if_ok c.closed.result (λ (n : NamesPart). n.next ≡ c.args.numbers.next) (λ (n : NamesPart). n.next ≤ 2 ^ 30)
    (λ n is. subst (λ (k : ℕ). k ≤ 2 ^ 30) (sym is) c.requires.few)
    c.closed.ensures.next

pub returns-clause-files : goal.returns-clause-files
returns-clause-files c =
    let tree = c.from_parts-tree.result in
    if_ok c.closed.result (λ (n : NamesPart). n.tree ≡ tree) (λ (n : NamesPart). n.tree.files ≡ c.args.numbers.files.items)
    (λ n is. ap (λ (t : NameTable). t.files) is ∙ c.from_parts-tree.ensures.files)
    c.closed.ensures.tree

pub returns-clause-names : goal.returns-clause-names
returns-clause-names c =
    let g = c.args.geometry.now in
    let f = c.args.findings.now in
    let tree = c.from_parts-tree.result in
    if_all c.closed.result (λ (n : NamesPart). n.tree ≡ tree) (λ (n : NamesPart). AreClosed tree n.held) (λ (n : NamesPart). n.next ≡ c.args.numbers.next)
    (λ (n : NamesPart). (sectors : ℕ) (disk : Image) (superblock : Super) (image : Image) → IsLoaded g f sectors disk superblock image → AreStartNames sectors disk g image n)
    (λ n is closed next sectors disk superblock image l.
    let whole = (c.damage_law.ensures.whole image (catalog_at g image) l.standing.catalog l.standing.sound).1 in
    let undamaged : IsUndamaged g image f = record { found = l.found; whole = whole } in
    let files : n.tree.files ≡ c.args.numbers.files.items = ap (λ (t : NameTable). t.files) is ∙ c.from_parts-tree.ensures.files in
    let dirs : n.tree.dirs ≡ c.args.dirs = ap (λ (t : NameTable). t.dirs) is ∙ c.from_parts-tree.ensures.dirs in
    start_names g f sectors disk superblock image l n c.args.numbers.files.items files
    (ap length files ∙ c.requires.files ∙ sym c.requires.counted ∙ ap (λ (d : DirTable). length d.dirs) (sym dirs))
    (c.requires.numbers image undamaged)
    (subst (IsTableOf g (catalog_at g image)) (sym dirs) (c.requires.dirs image undamaged))
    (subst (λ (t : NameTable). AreClosed t n.held) (sym is) closed)
    (next ∙ c.requires.next image undamaged))
    c.closed.ensures.tree c.closed.ensures.closed c.closed.ensures.next
