use Rattle.std.proofs.Common.{◌∙◌}
use Rattle.ufs_gathered.proofs.Remaining.{files_too}
use Rattle.ufs_gathered.proofs.gathering.gather.Goals as goal

pub gather_remains-requires-clause-rest : goal.gather_remains-requires-clause-rest
gather_remains-requires-clause-rest g c = let a = c.args.actors in (a.files.items, files_too a.files.items a.pools c.gather_files.new.hand c.requires.pools c.gather_files.ensures)

pub returns-clause-all : goal.returns-clause-all
returns-clause-all g c =
    let a = c.args.actors in
    let them = c.gather_files.ensures in
    let h = c.gather_remains.ensures.all a.files.items (files_too a.files.items a.pools c.gather_files.new.hand c.requires.pools them) in
    record { clients_are = h.clients_are; files_are = h.files_are; pools_are = h.pools_are ∙ them.pools; names_are = h.names_are }
