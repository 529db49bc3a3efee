use Rattle.ufs_name_tree.proofs.NoteChains.{notes_stay}
use Rattle.std.proofs.Common.{Some}
use Rattle.ufs_names.proofs.RefusedLemmas.{served_refused}
use Rattle.ufs_names.proofs.RenameServed.{texts, rename_fits, rename_refused, rename_here, rename_may, served_rename}
use Rattle.ufs_names.proofs.NotedLemmas.{one_told}
use Rattle.ufs_names.proofs.names.Names.rename.Goals as goal

pub returns-in-Err-clause-ok : goal.returns-in-Err-clause-ok
returns-in-Err-clause-ok c t asked own =
    let p = c.requires.paths in
    let text = texts c.args.self.now t c.args.ask.now c.args.files.now asked p.0 p.1.0 p.1.1 own in
    served_refused c.args.self.now t c.args.ask.now c.args.files.now c.in-Err.e c.refused.result.reply c.refused.result.desc asked.part asked.files asked.asked
    (rename_refused c.args.self.now t c.args.ask.now c.args.files.now asked p.0 p.1.0 p.1.1 own (Some c.in-Err.e) (c.in-Err.ensures.refused t p.0 p.1.0 asked.part text.0 text.1 p.1.2 p.1.3))
    c.refused.ensures.reply c.refused.ensures.desc

pub returns-in-Err-change_rename-clause-fits : goal.returns-in-Err-change_rename-clause-fits
returns-in-Err-change_rename-clause-fits c t asked own =
    let p = c.requires.paths in
    let text = texts c.args.self.now t c.args.ask.now c.args.files.now asked p.0 p.1.0 p.1.1 own in
    let is = c.in-Err-change_rename.ensures in
    rename_fits c.args.self.now t c.args.ask.now c.args.files.now asked p.0 p.1.0 p.1.1 own c.args.from.now c.args.to.now p.1.2 p.1.3 (c.in-Ok.ensures.passed t p.0 p.1.0 asked.part text.0 text.1 p.1.2 p.1.3)
    c.in-Ok.ensures.table c.in-Ok.step.to.dir c.in-Ok.ensures.to_dir is.absent is.listed c.args.pool.now c.in-Err-change_rename.excuse is.cause

pub change_rename-requires-clause-may : goal.change_rename-requires-clause-may
change_rename-requires-clause-may c =
    let a = c.requires.asked in
    let p = c.requires.paths in
    let text = texts c.args.self.now a.0 c.args.ask.now c.args.files.now a.1 p.0 p.1.0 p.1.1 a.2 in
    rename_may c.args.self.now a.0 c.args.ask.now c.args.files.now a.1 p.0 p.1.0 p.1.1 a.2 c.args.from.now c.args.to.now p.1.2 p.1.3 (c.in-Ok.ensures.passed a.0 p.0 p.1.0 a.1.part text.0 text.1 p.1.2 p.1.3) c.in-Ok.ensures.table

pub change_rename-requires-clause-here : goal.change_rename-requires-clause-here
change_rename-requires-clause-here c other =
    let a = c.requires.asked in
    let p = c.requires.paths in
    let text = texts c.args.self.now a.0 c.args.ask.now c.args.files.now a.1 p.0 p.1.0 p.1.1 a.2 in
    rename_here c.args.self.now a.0 c.args.ask.now c.args.files.now a.1 p.0 p.1.0 p.1.1 a.2 c.args.from.now c.args.to.now p.1.2 p.1.3 (c.in-Ok.ensures.passed a.0 p.0 p.1.0 a.1.part text.0 text.1 p.1.2 p.1.3) other

pub returns-in-Ok-change_rename-clause-ok : goal.returns-in-Ok-change_rename-clause-ok
returns-in-Ok-change_rename-clause-ok c t asked own =
    let p = c.requires.paths in
    let text = texts c.args.self.now t c.args.ask.now c.args.files.now asked p.0 p.1.0 p.1.1 own in
    let done = c.in-Ok-change_rename.ensures in
    served_rename c.args.self.now t c.args.ask.now c.args.files.now asked p.0 p.1.0 p.1.1 own c.args.from.now c.args.to.now p.1.2 p.1.3 (c.in-Ok.ensures.passed t p.0 p.1.0 asked.part text.0 text.1 p.1.2 p.1.3)
    c.a_request_keeps_the_tree.ensures c.change_rename.new.self c.change_rename.new.files done.same done.same_files done.moved done.loses

pub returns-in-Err-clause-noted : goal.returns-in-Err-clause-noted
returns-in-Err-clause-noted c = notes_stay c.args.self.now.tree c.args.pool.now (one_told c.args.self.now.tree c.args.self.now.held c.requires.asked.1.part.inodes)
