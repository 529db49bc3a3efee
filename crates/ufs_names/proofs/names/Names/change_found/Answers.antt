use Rattle.ufs_name_tree.proofs.NoteChains.{notes_stay}
use Rattle.std.proofs.Common.{ℕ, List, Option, None, is_some, ap, refl, sym, ◌∙◌}
use Rattle.std.specs.Prelude.{slice_index_or}
use Rattle.std.specs.FinMap as map
use Rattle.ufs_calls.specs.Modes.{mode_asked, mode_of}
use Rattle.ufs_model.specs.Descriptors.{Mode, desc_of}
use Rattle.ufs_model.specs.declared.data.Op.TheVariants as op
use Rattle.ufs_model.proofs.Facts.Lookups.{same_some}
use Rattle.ufs_names.specs.NamesPart.{NamesPart}
use Rattle.ufs_names.proofs.CauseLemmas.{cause_mkdir}
use Rattle.ufs_names.proofs.FileLemmas.{next_absent}
use Rattle.ufs_names.proofs.PathConditions.{mkdir_may, open_may, named, rmdir_may, unlink_may}
use Rattle.ufs_names.proofs.FitsLemmas.{by_memory}
use Rattle.ufs_names.proofs.PathFits.{fits_mkdir, fits_open}
use Rattle.ufs_names.proofs.PathChanges.{emptied_here, rmdir_here, unlink_here, served_list, served_mkdir, served_open, served_rmdir, served_stat, served_unlink}
use Rattle.ufs_names.proofs.NotedLemmas.{one_told}
use Rattle.ufs_names.proofs.names.Names.change_found.Goals as goal

pub open-requires-clause-absent : goal.open-requires-clause-absent
open-requires-clause-absent c =
    let a = c.requires.allowed in
    ap (map.get c.args.files.now) a.1.all.part.next ∙ next_absent a.0 a.0 a.1.all.part.tree c.args.files.now c.args.files.now a.1.all.files

pub open-requires-clause-here : goal.open-requires-clause-here
open-requires-clause-here c cut i f at numbered =
    let a = c.requires.allowed in
    let o = c.in-OpenFile in
    let s = emptied_here c.a_request_keeps_the_tree.ensures c.args.self.now c.args.files.now a.0 c.args.ask.now c.args.path.now c.args.look.found a.1 c.args.self.now c.args.files.now o.path o.read o.write o.creat o.excl o.trunc o.append o.is i f at numbered (sym (ap (λ (m : Mode). m.trunc) (same_some (mode_of c.in-Some.mode) _ (c.in-Some.ensures ∙ ap mode_asked o.is))) ∙ cut) in
    ap is_some s.1

pub returns-in-Ok-clause-ok : goal.returns-in-Ok-clause-ok
returns-in-Ok-clause-ok c t is =
    let o = c.in-OpenFile in
    let done = c.in-Ok.ensures in
    served_open c.a_request_keeps_the_tree.ensures c.args.self.now c.args.files.now t c.args.ask.now c.args.path.now c.args.look.found is c.open.new.self c.open.new.files o.path o.read o.write o.creat o.excl o.trunc o.append o.is c.requires.client
    (mode_of c.in-Some.mode) c.in-Some.ensures done.nodes done.clients done.ok c.desc.result (c.desc.ensures ∙ ap (desc_of (mode_of c.in-Some.mode)) done.file)

pub add_dir-requires-clause-absent : goal.add_dir-requires-clause-absent
add_dir-requires-clause-absent c = let a = c.requires.allowed in (mkdir_may c.args.self.now c.args.files.now a.0 c.args.ask.now c.args.path.now c.args.look.found a.1 c.in-Mkdir.path c.in-Mkdir.is).absent

pub returns-in-Err-add_dir-clause-cause : goal.returns-in-Err-add_dir-clause-cause
returns-in-Err-add_dir-clause-cause c =
    let a = c.requires.allowed in
    let absent = (mkdir_may c.args.self.now c.args.files.now a.0 c.args.ask.now c.args.path.now c.args.look.found a.1 c.in-Mkdir.path c.in-Mkdir.is).absent in
    let at = named c.args.self.now c.args.files.now a.0 c.args.ask.now c.args.path.now c.args.look.found a.1 (op.Mkdir c.in-Mkdir.path) c.in-Mkdir.is c.in-Mkdir.path refl in
    cause_mkdir c.args.self.now.tree.dirs c.args.pool.now c.args.path.now c.in-Mkdir.path at c.in-Err-add_dir.excuse c.args.ask.now.op c.in-Mkdir.is absent c.in-Err-add_dir.ensures.cause

pub returns-in-Ok-add_dir-clause-ok : goal.returns-in-Ok-add_dir-clause-ok
returns-in-Ok-add_dir-clause-ok c t is =
    let done = c.in-Ok-add_dir.ensures in
    served_mkdir c.a_request_keeps_the_tree.ensures c.args.self.now c.args.files.now t c.args.ask.now c.args.path.now c.args.look.found is c.add_dir.new.self c.args.files.now c.in-Mkdir.path c.in-Mkdir.is done.nodes (record {
      held = ap (λ (n : NamesPart). n.held) done.ok;
      next = ap (λ (n : NamesPart). n.next) done.ok;
      stays = record { numbers = λ i. ap (λ (l : List (Option ℕ)). slice_index_or l i None) c.add_dir.ensures.files; files = refl };
    })

pub remove_name-requires-clause-stands : goal.remove_name-requires-clause-stands
remove_name-requires-clause-stands c = let a = c.requires.allowed in (rmdir_may c.args.self.now c.args.files.now a.0 c.args.ask.now c.args.path.now c.args.look.found a.1 c.in-Rmdir.path c.in-Rmdir.is).0.there

pub remove_name-requires-clause-may_go : goal.remove_name-requires-clause-may_go
remove_name-requires-clause-may_go c = let a = c.requires.allowed in (rmdir_may c.args.self.now c.args.files.now a.0 c.args.ask.now c.args.path.now c.args.look.found a.1 c.in-Rmdir.path c.in-Rmdir.is).1

pub remove_name-requires-clause-here : goal.remove_name-requires-clause-here
remove_name-requires-clause-here c = let a = c.requires.allowed in rmdir_here c.a_request_keeps_the_tree.ensures c.args.self.now c.args.files.now a.0 c.args.ask.now c.args.path.now c.args.look.found a.1 c.args.self.now c.args.files.now c.in-Rmdir.path c.in-Rmdir.is

pub remove_name-requires-in-Unlink-clause-stands : goal.remove_name-requires-in-Unlink-clause-stands
remove_name-requires-in-Unlink-clause-stands c = let a = c.requires.allowed in (unlink_may c.args.self.now c.args.files.now a.0 c.args.ask.now c.args.path.now c.args.look.found a.1 c.in-Unlink.path c.in-Unlink.is).0.there

pub remove_name-requires-in-Unlink-clause-may_go : goal.remove_name-requires-in-Unlink-clause-may_go
remove_name-requires-in-Unlink-clause-may_go c = let a = c.requires.allowed in (unlink_may c.args.self.now c.args.files.now a.0 c.args.ask.now c.args.path.now c.args.look.found a.1 c.in-Unlink.path c.in-Unlink.is).1

pub remove_name-requires-in-Unlink-clause-here : goal.remove_name-requires-in-Unlink-clause-here
remove_name-requires-in-Unlink-clause-here c = let a = c.requires.allowed in unlink_here c.a_request_keeps_the_tree.ensures c.args.self.now c.args.files.now a.0 c.args.ask.now c.args.path.now c.args.look.found a.1 c.args.self.now c.args.files.now c.in-Unlink.path c.in-Unlink.is

pub returns-in-Rmdir-clause-ok : goal.returns-in-Rmdir-clause-ok
returns-in-Rmdir-clause-ok c t is =
    served_rmdir c.a_request_keeps_the_tree.ensures c.args.self.now c.args.files.now t c.args.ask.now c.args.path.now c.args.look.found is c.remove_name.new.self c.remove_name.new.files c.remove_name.ensures.removed c.in-Rmdir.path c.in-Rmdir.is

pub returns-in-Unlink-clause-ok : goal.returns-in-Unlink-clause-ok
returns-in-Unlink-clause-ok c t is =
    served_unlink c.a_request_keeps_the_tree.ensures c.args.self.now c.args.files.now t c.args.ask.now c.args.path.now c.args.look.found is c.remove_name-in-Unlink.new.self c.remove_name-in-Unlink.new.files c.remove_name-in-Unlink.ensures.removed c.in-Unlink.path c.in-Unlink.is
    (unlink_here c.a_request_keeps_the_tree.ensures c.args.self.now c.args.files.now t c.args.ask.now c.args.path.now c.args.look.found is c.args.self.now c.args.files.now c.in-Unlink.path c.in-Unlink.is)

pub returns-in-Stat-clause-ok : goal.returns-in-Stat-clause-ok
returns-in-Stat-clause-ok c t is =
    served_stat c.a_request_keeps_the_tree.ensures c.args.self.now c.args.files.now t c.args.ask.now c.args.path.now c.args.look.found is c.args.self.now c.args.files.now c.in-Stat.path c.in-Stat.is

pub returns-in-List-clause-ok : goal.returns-in-List-clause-ok
returns-in-List-clause-ok c t is =
    served_list c.a_request_keeps_the_tree.ensures c.args.self.now c.args.files.now t c.args.ask.now c.args.path.now c.args.look.found is c.args.self.now c.args.files.now c.in-List.path c.in-List.is

pub returns-in-Err-add_dir-clause-fits : goal.returns-in-Err-add_dir-clause-fits
returns-in-Err-add_dir-clause-fits c t is =
    fits_mkdir c.args.self.now c.args.files.now t c.args.ask.now c.args.path.now c.args.look.found is c.args.look.dir
    (c.requires.dir (mkdir_may c.args.self.now c.args.files.now t c.args.ask.now c.args.path.now c.args.look.found is c.in-Mkdir.path c.in-Mkdir.is).below)
    c.args.pool.now c.in-Err-add_dir.excuse (λ not. c.in-Err-add_dir.ensures.listed) c.in-Mkdir.path c.in-Mkdir.is c.in-Err-add_dir.ensures.cause

pub returns-in-Err-clause-fits : goal.returns-in-Err-clause-fits
returns-in-Err-clause-fits c t is =
    let o = c.in-OpenFile in
    by_memory t c.args.ask.now.client c.args.ask.now.op c.in-Err.excuse (λ not.
    let absent = (c.in-Err.ensures.cause not).0 in
    fits_open c.args.self.now c.args.files.now t c.args.ask.now c.args.path.now c.args.look.found is c.args.look.dir
    (c.requires.dir (open_may c.args.self.now c.args.files.now t c.args.ask.now c.args.path.now c.args.look.found is o.path o.read o.write o.creat o.excl o.trunc o.append o.is absent).below)
    c.args.pool.now c.in-Err.excuse c.in-Err.ensures.listed o.path o.read o.write o.creat o.excl o.trunc o.append o.is c.in-Err.ensures.cause)

pub returns-in-Stat-clause-noted : goal.returns-in-Stat-clause-noted
returns-in-Stat-clause-noted c = notes_stay c.args.self.now.tree c.args.pool.now (one_told c.args.self.now.tree c.args.self.now.held c.requires.allowed.1.all.part.inodes)

pub returns-in-List-clause-noted : goal.returns-in-List-clause-noted
returns-in-List-clause-noted c = notes_stay c.args.self.now.tree c.args.pool.now (one_told c.args.self.now.tree c.args.self.now.held c.requires.allowed.1.all.part.inodes)
