use Rattle.std.proofs.Common.{ℕ, ◌+◌, List, Option, None, length, slice_index_or, ap, sym, ◌∙◌, subst, arith}
use Rattle.std.proofs.lemmas.Result.{err_from_is_err_and}
use Rattle.ufs_image.specs.Catalog.{catalog_at}
use Rattle.ufs_start.specs.Files.{AreSoundFiles, HasNumbers}
use Rattle.ufs_start.specs.Starts.{IsUndamaged}
use Rattle.ufs_start.proofs.Beginning.{number_there}
use Rattle.ufs_start.proofs.SoundFiles.{sound_files}
use Rattle.ufs_start.proofs.Unnumbered.{forms_counted}
use Rattle.ufs_start.proofs.starting.files_in.Goals as goal

pub numbers_of-requires-clause-sound : goal.numbers_of-requires-clause-sound
numbers_of-requires-clause-sound c =
    let b = c.requires.begun in
    let image = b.3 in
    let l = b.4 in
    (image, record { found = l.found; whole = (c.damage_law.ensures.whole image (catalog_at c.args.geometry.now image) l.standing.catalog l.standing.sound).1 })

pub files_of-requires-clause-counted : goal.files_of-requires-clause-counted
files_of-requires-clause-counted c =
    let g = c.args.geometry.now in
    let b = c.requires.begun in
    ap length c.deref.ensures.value ∙ c.in_ok-numbers.ensures.counted ∙ ap (λ n. n + 1) (sym (forms_counted g b.3 c.args.findings.now b.4.found))

pub files_of-requires-clause-few : goal.files_of-requires-clause-few
files_of-requires-clause-few c =
    let b = c.requires.begun in
    let forms = forms_counted c.args.geometry.now b.3 c.args.findings.now b.4.found in
    let most = c.requires.geometry.most_inodes in
    omega (arith, forms, most)

pub files_of-requires-clause-sound : goal.files_of-requires-clause-sound
files_of-requires-clause-sound c =
    let g = c.args.geometry.now in
    let b = c.requires.begun in
    let image = b.3 in
    let l = b.4 in
    let undamaged : IsUndamaged g image c.args.findings.now = record { found = l.found; whole = (c.damage_law.ensures.whole image (catalog_at g image) l.standing.catalog l.standing.sound).1 } in
    subst (λ (ns : List (Option ℕ)). AreSoundFiles c.args.findings.now.forms ns) (sym c.deref.ensures.value)
    (sound_files g image c.args.findings.now c.requires.geometry undamaged l.standing.catalog l.standing.sound c.args.names.now.tree.dirs b.5.names.dirs c.in_ok-numbers.numbers.files.items (c.in_ok-numbers.ensures.numbers image undamaged))

pub returns-in_err-numbers-clause-refused : goal.returns-in_err-numbers-clause-refused
returns-in_err-numbers-clause-refused c image found =
    let p = err_from_is_err_and c.from_residual.result c.from_residual.ensures.1 in
    rw (p.1, p.2) c.in_err-numbers.ensures.lack

pub returns-clause-read : goal.returns-clause-read
returns-clause-read c sectors disk superblock image l start sized =
    let g = c.args.geometry.now in
    let undamaged : IsUndamaged g image c.args.findings.now = record { found = l.found; whole = (c.damage_law.ensures.whole image (catalog_at g image) l.standing.catalog l.standing.sound).1 } in
    let has : HasNumbers c.args.names.now.tree c.in_ok-numbers.numbers.files.items =
    c.start_numbers_law.ensures sectors disk g image c.args.names.now c.in_ok-numbers.numbers.files.items start (c.in_ok-numbers.ensures.numbers image undamaged) in
    c.files_of.ensures.read g image c.args.names.now l.found (subst (λ (ns : List (Option ℕ)). HasNumbers c.args.names.now.tree ns) (sym c.deref.ensures.value) has) sized

pub returns-clause-here : goal.returns-clause-here
returns-clause-here c inode file e =
    let g = c.args.geometry.now in
    let b = c.requires.begun in
    let image = b.3 in
    let l = b.4 in
    let undamaged : IsUndamaged g image c.args.findings.now = record { found = l.found; whole = (c.damage_law.ensures.whole image (catalog_at g image) l.standing.catalog l.standing.sound).1 } in
    let there = number_there g c.args.findings.now b.0 b.1 b.2 image c.args.names.now c.in_ok-numbers.numbers.files.items c.requires.geometry l b.5
    (c.in_ok-numbers.ensures.numbers image undamaged) inode file e in
    c.files_of.ensures.here inode file there.0 (ap (λ (ns : List (Option ℕ)). slice_index_or ns inode None) c.deref.ensures.value ∙ there.1)

pub returns-clause-unread : goal.returns-clause-unread
returns-clause-unread c image found = c.files_of.ensures.unread c.args.geometry.now image found

pub returns-clause-laid : goal.returns-clause-laid
returns-clause-laid c image found = c.files_of.ensures.laid c.args.geometry.now image found

pub returns-clause-refused : goal.returns-clause-refused
returns-clause-refused c image found = c.files_of.ensures.refused c.args.geometry.now image found

pub returns-clause-named : goal.returns-clause-named
returns-clause-named c = c.files_of.ensures.named c.args.geometry.now c.requires.begun.3 c.requires.begun.4.found
