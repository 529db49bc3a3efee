use Rattle.std.proofs.Common.{◌∷◌, [], List, Some, ap, sym, subst, ◌∙◌, arith}
use Rattle.std.specs.Prelude.{slice_set}
use Rattle.ufs_dirs.specs.Changes.{with_entry}
use Rattle.ufs_dirs.specs.Directory.{Directory, entry_of}
use Rattle.ufs_layout.specs.DentryForm.{DentryForm}
use Rattle.ufs_dir_tree.specs.DirTable.{DirTable, IsDirTable, IsMet, dir_at, slots_at, found_of}
use Rattle.ufs_dir_tree.specs.Steps.{Put, GoesBy}
use Rattle.ufs_dir_tree.specs.DirEdits.{IsLoose, SetsEntry}
use Rattle.ufs_dir_tree.proofs.AttachLemmas.{attached_table, attached_reached}
use Rattle.ufs_dir_tree.proofs.WalkedTables.{as_table, walked, whole_one}
use Rattle.ufs_dir_tree.proofs.MadeSteps.{named_form, put_made}
use Rattle.ufs_dir_tree.proofs.dir_tree.DirTree.attach.Goals as goal
use Rattle.ufs_dir_tree.proofs.dir_tree.DirTree.attach.Goals.{After-put_at}

sets : (c : After-put_at) → SetsEntry c.self.inside.dirs.items c.put_at.new.dirs.items c.args.dir c.args.name.now (Some (record { inode = c.args.inode; kind = c.args.kind; name = c.args.name.now }))
sets c = subst (λ (e : DentryForm). SetsEntry c.self.inside.dirs.items c.put_at.new.dirs.items c.args.dir e.name (Some e)) c.from_name.ensures c.put_at.ensures.entries

table : (c : After-put_at) → IsDirTable (record { dirs = c.put_at.new.dirs.items; free = c.self.inside.free.free })
table c =
    let t : DirTable = record { dirs = c.self.inside.dirs.items; free = c.self.inside.free.free } in
    let e : DentryForm = record { inode = c.args.inode; kind = c.args.kind; name = c.args.name.now } in
    let met = subst (λ (t : DirTable). IsMet t c.args.dir) (sym c.self.view_is) c.requires.met in
    let loose = subst (λ (t : DirTable). IsLoose t (found_of e)) (sym c.self.view_is) c.requires.loose in
    let new : DirTable = record { dirs = c.put_at.new.dirs.items; free = t.free } in
    let is = c.self.invariant.0 in
    let absent = ap (λ (t : DirTable). entry_of (slots_at t c.args.dir) c.args.name.now) c.self.view_is ∙ c.requires.absent in
    let one = sets c in
    as_table new (attached_table t new.dirs c.args.dir c.args.name.now e one (walked t is) met.0 met.1 loose c.requires.named)
    (whole_one t new c.args.dir one.one is.whole c.put_at.ensures.whole)
    (attached_reached t new.dirs c.args.dir c.args.name.now e one (walked t is) met.0 met.1 loose absent is.reached)

pub invariant_of-self : goal.invariant_of-self
invariant_of-self c = let one = sets c in (table c, c.self.invariant.1, c.self.invariant.2 ∙ sym one.one.counted, omega (arith, one.one.counted, c.self.invariant.3))

pub returns-clause-table : goal.returns-clause-table
returns-clause-table c = table c

pub returns-clause-steps : goal.returns-clause-steps
returns-clause-steps c pool =
    let t : DirTable = record { dirs = c.self.inside.dirs.items; free = c.self.inside.free.free } in
    let e : DentryForm = record { inode = c.args.inode; kind = c.args.kind; name = c.args.name.now } in
    let new : DirTable = record { dirs = c.put_at.new.dirs.items; free = c.self.inside.free.free } in
    let met = subst (λ (t : DirTable). IsMet t c.args.dir) (sym c.self.view_is) c.requires.met in
    let absent = ap (λ (t : DirTable). entry_of (slots_at t c.args.dir) c.args.name.now) c.self.view_is ∙ c.requires.absent in
    let placed = c.put_at.ensures.placed ∙ ap (λ (e : DentryForm). slice_set t.dirs c.args.dir (with_entry (dir_at t c.args.dir) c.put_at.result e)) c.from_name.ensures in
    subst (λ (t : DirTable). GoesBy t new pool pool (Put c.args.dir c.put_at.result e ∷ [])) c.self.view_is
    (put_made t new c.args.dir c.put_at.result e met (named_form e c.requires.named) c.requires.named absent c.put_at.ensures.free (ap (λ (ds : List Directory). record { dirs = ds; free = t.free }) placed) pool)
