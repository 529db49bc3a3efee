use Rattle.std.proofs.Common.{◌≡◌, ℕ, [], Some, ap, sym, refl, subst, ◌∙◌}
use Rattle.std.specs.Option.{option_map}
use Rattle.ufs_dirs.specs.Directory.{entry_of}
use Rattle.ufs_dir_tree.specs.declared.found.Found.{Found}
use Rattle.ufs_dir_tree.specs.declared.found.Found.TheVariants.{Dir}
use Rattle.ufs_layout.specs.DentryForm.{DentryForm}
use Rattle.ufs_dir_tree.specs.DirTable.{IsUsed, slots_at, found_of, inode_of}
use Rattle.ufs_dir_tree.specs.DirCalls.{IsUnmet}
use Rattle.ufs_dir_tree.proofs.DroppedEntries.{dir_found, file_found, loose_unmet}
use Rattle.ufs_dir_tree.proofs.StepLemmas.{dir_goes, file_goes}
use Rattle.ufs_dir_tree.proofs.dir_tree.DirTree.drop_entry.Goals as goal

pub free_inode-requires-clause-used : goal.free_inode-requires-clause-used
free_inode-requires-clause-used c =
    let d = c.detach-entry in
    let at = dir_found d.result.entry (sym (ap (λ (e : DentryForm). e.kind) c.entry.view_is) ∙ c.if-entry-eq-DIRECTORY.true) in
    let number : inode_of (found_of d.result.entry) ≡ c.entry.inside.inode = ap inode_of at ∙ sym (ap (λ (e : DentryForm). e.inode) c.entry.view_is) in
    subst (λ (i : ℕ). IsUsed d.new.self i) number (d.ensures.loose.met [] (found_of d.result.entry) refl)

pub free_inode-requires-clause-unmet : goal.free_inode-requires-clause-unmet
free_inode-requires-clause-unmet c =
    let d = c.detach-entry in
    let at = dir_found d.result.entry (sym (ap (λ (e : DentryForm). e.kind) c.entry.view_is) ∙ c.if-entry-eq-DIRECTORY.true) in
    let number : inode_of (found_of d.result.entry) ≡ c.entry.inside.inode = ap inode_of at ∙ sym (ap (λ (e : DentryForm). e.inode) c.entry.view_is) in
    subst (λ (i : ℕ). IsUnmet d.new.self i) number (loose_unmet d.new.self (found_of d.result.entry) d.ensures.loose)

pub returns-then-entry-eq-DIRECTORY-clause-steps : goal.returns-then-entry-eq-DIRECTORY-clause-steps
returns-then-entry-eq-DIRECTORY-clause-steps c =
    let d = c.detach-entry in
    let e = d.result.entry in
    let number = sym (ap (λ (e : DentryForm). e.inode) c.entry.view_is) in
    let at = dir_found e (sym (ap (λ (e : DentryForm). e.kind) c.entry.view_is) ∙ c.if-entry-eq-DIRECTORY.true) ∙ ap (λ (i : ℕ). Dir i) number in
    dir_goes c.args.self.now d.new.self c.free_inode.new.self c.args.dir d.result.slot (option_map found_of (entry_of (slots_at c.args.self.now c.args.dir) c.args.name.now)) c.entry.inside.inode c.args.pool.now c.free_inode.new.pool
    (ap (option_map found_of) d.ensures.was ∙ ap (λ (f : Found). Some f) at) (d.ensures.steps c.args.pool.now) c.free_inode.ensures.steps

pub returns-else-entry-eq-DIRECTORY-clause-steps : goal.returns-else-entry-eq-DIRECTORY-clause-steps
returns-else-entry-eq-DIRECTORY-clause-steps c =
    let d = c.detach-entry in
    let e = d.result.entry in
    let at = file_found e (λ kind. c.if-entry-eq-DIRECTORY.false (ap (λ (e : DentryForm). e.kind) c.entry.view_is ∙ kind)) in
    file_goes c.args.self.now d.new.self c.args.dir d.result.slot (option_map found_of (entry_of (slots_at c.args.self.now c.args.dir) c.args.name.now)) e.inode c.args.pool.now
    (ap (option_map found_of) d.ensures.was ∙ ap (λ (f : Found). Some f) at) (d.ensures.steps c.args.pool.now)
