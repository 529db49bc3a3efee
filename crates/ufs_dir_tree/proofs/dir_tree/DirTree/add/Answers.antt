use Rattle.std.proofs.Common.{◌≡◌, List, [], ◌∷◌, ◌++◌, Some, sym, ◌∙◌, subst, append_assoc}
use Rattle.ufs_layout.specs.DentryForm.{DentryForm}
use Rattle.ufs_dir_tree.specs.DirTable.{found_at}
use Rattle.ufs_dir_tree.specs.DirCalls.{names_above, last_name, code_of, SetsFound}
use Rattle.ufs_dir_tree.specs.Steps.{Step, Born, Put, GoesBy, growing}
use Rattle.ufs_dir_tree.specs.DirEdits.{IsLoose, NothingFrom}
use Rattle.ufs_dir_tree.specs.declared.found.Found.{Found}
use Rattle.ufs_dir_tree.proofs.StepLemmas.{goes_on}
use Rattle.ufs_dir_tree.proofs.FoundEdits.{last_is, met_after, entry_absent, added_found}
use Rattle.ufs_dir_tree.proofs.dir_tree.DirTree.add.Goals as goal

pub attach-slot-requires-clause-met : goal.attach-slot-requires-clause-met
attach-slot-requires-clause-met c =
    let above = names_above c.args.path.now in
    (above, met_after c.args.self.now c.make.new.self c.make.ensures.same above ∙ c.requires.dir)

pub attach-slot-requires-clause-absent : goal.attach-slot-requires-clause-absent
attach-slot-requires-clause-absent c =
    let path = c.args.path.now in
    c.make.ensures.same c.args.dir c.last.result.now
    ∙ entry_absent c.args.self.now path (names_above path) c.last.result.now c.args.dir c.last.ensures.value c.requires.dir c.requires.absent

pub attach-slot-requires-clause-loose : goal.attach-slot-requires-clause-loose
attach-slot-requires-clause-loose c = subst (λ (f : Found). IsLoose c.make.new.self f) (sym (c.code.ensures.found c.in-Ok.made.inode c.last.result.now)) c.in-Ok.ensures.loose

pub returns-in-Ok-clause-ok : goal.returns-in-Ok-clause-ok
returns-in-Ok-clause-ok c =
    let path = c.args.path.now in
    let t = c.make.new.self in
    let as_found = c.code.ensures.found c.in-Ok.made.inode c.last.result.now in
    let e : DentryForm = record { inode = c.in-Ok.made.inode; kind = c.code.result; name = c.last.result.now } in
    subst (λ (f : Found). SetsFound (found_at c.args.self.now) (found_at c.attach-slot.new.self) path (Some f)) as_found
    (added_found c.args.self.now t c.attach-slot.new.self c.args.dir (names_above path) c.last.result.now path e c.make.ensures.same c.attach-slot.ensures.entries c.make.ensures.table c.requires.dir c.last.ensures.value c.requires.absent
    (subst (λ (f : Found). IsLoose t f) (sym as_found) c.in-Ok.ensures.loose) (subst (λ (f : Found). NothingFrom t (Some f)) (sym as_found) c.in-Ok.ensures.bare))

pub returns-in-Ok-clause-steps : goal.returns-in-Ok-clause-steps
returns-in-Ok-clause-steps c =
    let path = c.args.path.now in
    let old = c.args.self.now in
    let mid = c.make.new.self in
    let new = c.attach-slot.new.self in
    let before = c.args.pool.now in
    let after = c.make.new.pool in
    let made = c.in-Ok.made in
    let slot = c.attach-slot.result in
    let code = c.code.ensures.code in
    let name = sym (last_is path (names_above path) c.last.result.now c.last.ensures.value) in
    let e : DentryForm = record { inode = made.inode; kind = c.code.result; name = c.last.result.now } in
    let d : DentryForm = record { inode = made.inode; kind = code_of c.args.kind; name = last_name path } in
    let same : e ≡ d = λ i. record { inode = made.inode; kind = code i; name = name i } in
    let put = subst (λ (d : DentryForm). GoesBy mid new after after (Put c.args.dir slot d ∷ [])) same (c.attach-slot.ensures.steps after) in
    subst (λ (xs : List Step). GoesBy old new before after xs) (append_assoc (growing c.args.dir made.grown) (Born made.inode (code_of c.args.kind) ∷ []) (Put c.args.dir slot d ∷ []))
    (goes_on old mid new before after after (growing c.args.dir made.grown ++ Born made.inode (code_of c.args.kind) ∷ []) (Put c.args.dir slot d ∷ []) c.in-Ok.ensures.steps put)
