use Rattle.std.proofs.Common.{◌≡◌, Some, ap, ◌∙◌}
use Rattle.std.proofs.lemmas.Bool.{ne_eqb}
use Rattle.ufs_layout.specs.InodeForm.{InodeForm}
use Rattle.ufs_metadata.proofs.Rows.{without_file}
use Rattle.ufs_metadata.proofs.dirs.read_dir.Goals as goal

pub returns-then-found-ne-DIRECTORY-clause-dirs : goal.returns-then-found-ne-DIRECTORY-clause-dirs
returns-then-found-ne-DIRECTORY-clause-dirs g c visible image is at =
    let kind : c.found.inside.kind ≡ c.in-Some.found.kind = ap (λ (f : InodeForm). f.kind) c.found.view_is in
    without_file c.args.geometry.now image c.args.inode (Some c.in-Some.found) (at ∙ c.in-Some.is) (ne_eqb c.in-Some.found.kind 2 (λ dir. c.if-found-ne-DIRECTORY.true (kind ∙ dir))) c.args.dirs.now.items
