use Rattle.std.proofs.Common.{Some, ap, sym, ◌∙◌}
use Rattle.ufs_model.specs.Start.{is_path_dir}
use Rattle.ufs_model.specs.declared.data.PathNode.{PathNode}
use Rattle.ufs_image_paths.specs.Placed.{node_of}
use Rattle.ufs_image_paths.proofs.NamespaceLemmas.{looked_up}
use Rattle.ufs_image_paths.proofs.lookup.has_dir.Goals as goal

pub returns-in-Dir : goal.returns-in-Dir
returns-in-Dir c = sym (ap is_path_dir (looked_up c.args.entries.now c.args.path.now ∙ sym c.entry_at.ensures ∙ ap node_of c.in-Some.is ∙ ap (λ (n : PathNode). Some n) c.in-Dir.is))

pub returns-in-File : goal.returns-in-File
returns-in-File c = sym (ap is_path_dir (looked_up c.args.entries.now c.args.path.now ∙ sym c.entry_at.ensures ∙ ap node_of c.in-Some.is ∙ ap (λ (n : PathNode). Some n) c.in-File.is))

pub returns-in-None : goal.returns-in-None
returns-in-None c = sym (ap is_path_dir (looked_up c.args.entries.now c.args.path.now ∙ sym c.entry_at.ensures ∙ ap node_of c.in-None.is))
