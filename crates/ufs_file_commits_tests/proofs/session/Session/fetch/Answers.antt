use Rattle.std.proofs.Common.{◌∙◌, ap}
use Rattle.ufs_file_commits.specs.State.{blocks_held, state_of}
use Rattle.ufs_file.specs.Hand.{FileState}
use Rattle.ufs_store.specs.State.{StoreState, geometry_of_store}
use Rattle.ufs_file_commits_tests.proofs.Ready.{are_data_blocks, ready_read}
use Rattle.ufs_file_commits_tests.proofs.session.Session.fetch.Goals as goal

pub fetch-requires : goal.fetch-requires
fetch-requires g c = record { blocks = are_data_blocks _ _ _ c.requires }

pub returns-clause-ready : goal.returns-clause-ready
returns-clause-ready g c =
    let e = c.fetch.ensures in
    ready_read _ _ _ c.requires _ _ (ap (λ (x : StoreState). geometry_of_store x) e.store) (ap (λ (x : StoreState). x.unassigned) e.store) (ap (λ (x : FileState). x.file) e.rest ∙ c.requires.number)
    (ap (λ (x : FileState). x.inode) e.rest ∙ c.requires.inode) (ap (λ (x : FileState). blocks_held (state_of x c.args.self.now.commits)) e.rest) (e.noted _ c.requires.noted)
