use Rattle.ufs_name_tree.proofs.NoteChains.{notes_stay}
use Rattle.ufs_names.proofs.NotedLemmas.{one_told}
use Rattle.ufs_names.proofs.names.Names.open.Goals as goal

pub returns-in-Some-Dir-clause-noted : goal.returns-in-Some-Dir-clause-noted
returns-in-Some-Dir-clause-noted c = notes_stay c.args.self.now.tree c.args.pool.now (one_told c.args.self.now.tree c.args.self.now.held c.requires.inodes)
