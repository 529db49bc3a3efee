use Rattle.std.proofs.Common.{◌≡◌, ℕ, List, [], ◌∷◌, ◌++◌, Option, None, ap, sym, ◌∙◌, subst}
use Rattle.ufs_layout.specs.DentryForm.{DentryForm}
use Rattle.ufs_dirs.specs.Directory.{Directory, entry_of}
use Rattle.ufs_dirs.specs.Changes.{entry_in}
use Rattle.ufs_dir_tree.specs.DirTable.{dir_at, slots_at, found_at}
use Rattle.ufs_dir_tree.specs.DirCalls.{names_above, last_name, MovesFounds, Frees}
use Rattle.ufs_dir_tree.specs.Steps.{GoesBy, growing, moving, replacing}
use Rattle.ufs_dir_tree.specs.declared.found.Found.{Found}
use Rattle.ufs_dir_tree.proofs.MoveEdits.{ends, source_met, target_met, target_bare, may_still, moves_on}
use Rattle.ufs_dir_tree.proofs.DroppedEntries.{frees_on}
use Rattle.ufs_dir_tree.proofs.GotRoom.{gets_on, spends}
use Rattle.ufs_dir_tree.proofs.FoundEdits.{entry_may_go, entry_stands, entry_absent, path_absent, path_met}
use Rattle.ufs_dir_tree.proofs.StepLemmas.{goes_on, same_entry, none_so}
use Rattle.ufs_dir_tree.proofs.UnmetInodes.{replaced_unmet}
use Rattle.ufs_dir_tree.proofs.dir_tree.DirTree.rename.Goals as goal

pub clear_name-requires-clause-may_go : goal.clear_name-requires-clause-may_go
clear_name-requires-clause-may_go c =
    let to = c.args.to.now in
    entry_may_go c.args.self.now to (names_above to) c.last.result.now c.args.to_dir c.last.ensures.value c.requires.to_dir c.requires.may_move.replaced

pub returns-in-Err-clause-absent : goal.returns-in-Err-clause-absent
returns-in-Err-clause-absent c =
    let to = c.args.to.now in
    path_absent c.args.self.now to (names_above to) c.last.result.now c.args.to_dir c.last.ensures.value c.requires.to_dir c.in-Err.ensures.absent

pub pass-requires-clause-from_dir : goal.pass-requires-clause-from_dir
pass-requires-clause-from_dir c =
    let from = c.args.from.now in
    let to = c.args.to.now in
    let may = c.requires.may_move in
    source_met c.args.self.now from to (names_above to) c.last.result.now c.args.to_dir may c.last.ensures.value c.requires.to_dir c.clear_name.new.self c.in-Ok.ensures.ok (names_above from) (last_name from) c.args.from_dir (ends from may.from_below) c.requires.from_dir

pub pass-requires-clause-to_dir : goal.pass-requires-clause-to_dir
pass-requires-clause-to_dir c =
    let to = c.args.to.now in
    target_met c.args.self.now c.args.from.now to (names_above to) c.last.result.now c.args.to_dir c.requires.may_move c.last.ensures.value c.requires.to_dir c.clear_name.new.self c.in-Ok.ensures.ok

pub pass-requires-clause-may_move : goal.pass-requires-clause-may_move
pass-requires-clause-may_move c =
    let to = c.args.to.now in
    may_still c.args.self.now c.args.from.now to (names_above to) c.last.result.now c.args.to_dir c.requires.may_move c.last.ensures.value c.requires.to_dir c.clear_name.new.self c.in-Ok.ensures.ok

pub pass-requires-clause-absent : goal.pass-requires-clause-absent
pass-requires-clause-absent c =
    let to = c.args.to.now in
    target_bare c.args.self.now c.args.from.now to (names_above to) c.last.result.now c.args.to_dir c.requires.may_move c.last.ensures.value c.requires.to_dir c.clear_name.new.self c.in-Ok.ensures.ok

pub returns-in-Ok-clause-ok : goal.returns-in-Ok-clause-ok
returns-in-Ok-clause-ok c =
    let to = c.args.to.now in
    moves_on c.args.self.now c.args.from.now to (names_above to) c.last.result.now c.args.to_dir c.requires.may_move c.last.ensures.value c.requires.to_dir c.clear_name.new.self c.in-Ok.ensures.ok c.pass.new.self c.pass.ensures.moved

pub returns-in-Ok-clause-unmet : goal.returns-in-Ok-clause-unmet
returns-in-Ok-clause-unmet c f stood =
    let clears = c.in-Ok.ensures.ok in
    replaced_unmet c.args.self.now c.pass.new.self c.args.from.now c.args.to.now f clears.before c.requires.may_move (returns-in-Ok-clause-ok c) stood

pub returns-in-Ok-clause-replaced : goal.returns-in-Ok-clause-replaced
returns-in-Ok-clause-replaced c some =
    let to = c.args.to.now in
    let path = path_met c.args.self.now to (names_above to) c.last.result.now c.args.to_dir c.last.ensures.value c.requires.to_dir in
    let stood = entry_stands c.args.self.now to (names_above to) c.last.result.now c.args.to_dir c.last.ensures.value c.requires.to_dir some in
    let freed = subst (λ (o : Option Found). Frees c.args.self.now c.clear_name.new.self c.args.pool.now c.clear_name.new.pool o) (sym path) (c.in-Ok.ensures.freed stood) in
    frees_on c.args.self.now c.clear_name.new.self c.pass.new.self c.args.pool.now c.clear_name.new.pool (found_at c.args.self.now to) c.pass.ensures.free c.pass.ensures.blocks freed

pub returns-in-Ok-clause-block : goal.returns-in-Ok-clause-block
returns-in-Ok-clause-block c none =
    let to = c.args.to.now in
    let absent = entry_absent c.args.self.now to (names_above to) c.last.result.now c.args.to_dir c.last.ensures.value c.requires.to_dir none in
    let p = c.args.to_dir in
    let one = c.in-Ok.ensures.one absent in
    spends c.args.self.now c.pass.new.self p c.args.pool.now c.clear_name.new.pool
    (gets_on (dir_at c.args.self.now p) (dir_at c.clear_name.new.self p) (dir_at c.pass.new.self p) c.args.pool.now c.clear_name.new.pool (c.pass.ensures.blocks p) (c.in-Ok.ensures.gets absent))
    (λ i other. c.pass.ensures.blocks i ∙ ap (λ (d : Directory). d.blocks) (one.others i other))
    (names_above to) c.requires.to_dir

pub returns-in-Ok-clause-free : goal.returns-in-Ok-clause-free
returns-in-Ok-clause-free c none =
    let to = c.args.to.now in
    let absent = entry_absent c.args.self.now to (names_above to) c.last.result.now c.args.to_dir c.last.ensures.value c.requires.to_dir none in
    c.pass.ensures.free ∙ c.in-Ok.ensures.free absent

pub returns-in-Ok-clause-not_dropped : goal.returns-in-Ok-clause-not_dropped
returns-in-Ok-clause-not_dropped c =
    let to = c.args.to.now in
    none_so c.in-Ok.cleared.dropped (entry_of (slots_at c.args.self.now c.args.to_dir) c.last.result.now ≡ None) (found_at c.args.self.now to ≡ None)
    (path_absent c.args.self.now to (names_above to) c.last.result.now c.args.to_dir c.last.ensures.value c.requires.to_dir) c.in-Ok.ensures.not_dropped

pub returns-in-Ok-clause-left : goal.returns-in-Ok-clause-left
returns-in-Ok-clause-left c = c.in-Ok.ensures.places c.args.from_dir (last_name c.args.from.now) c.pass.result.left c.pass.ensures.left

pub returns-in-Ok-clause-steps : goal.returns-in-Ok-clause-steps
returns-in-Ok-clause-steps c =
    let from = c.args.from.now in
    let to = c.args.to.now in
    let y = c.last.result.now in
    let old = c.args.self.now in
    let t = c.clear_name.new.self in
    let new = c.pass.new.self in
    let before = c.args.pool.now in
    let after = c.clear_name.new.pool in
    let cleared = c.in-Ok.cleared in
    let f = c.args.from_dir in
    let slot = c.pass.result.left in
    let path = path_met old to (names_above to) y c.args.to_dir c.last.ensures.value c.requires.to_dir in
    let first = subst (λ (o : Option Found). GoesBy old t before after (replacing c.args.to_dir cleared.dropped o ++ growing c.args.to_dir cleared.grown)) (sym path) c.in-Ok.ensures.steps in
    let stands = c.pass.ensures.left in
    let stood = c.in-Ok.ensures.places f (last_name from) slot stands in
    let is = same_entry old t c.args.to_dir y f (last_name from) (entry_in (dir_at t f) slot) slot c.in-Ok.ensures.ok stands.entry stood in
    let next = subst (λ (e : DentryForm). GoesBy t new after after (moving f slot c.args.to_dir c.pass.result.taken (record e { name = last_name to }))) is (c.pass.ensures.steps after) in
    goes_on old t new before after after (replacing c.args.to_dir cleared.dropped (found_at old to) ++ growing c.args.to_dir cleared.grown) (moving f slot c.args.to_dir c.pass.result.taken (record (entry_in (dir_at old f) slot) { name = last_name to })) first next
