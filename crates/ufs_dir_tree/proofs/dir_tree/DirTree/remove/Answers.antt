use Rattle.std.proofs.Common.{ℕ, List, Option, sym, subst}
use Rattle.ufs_dir_tree.specs.DirTable.{dir_at}
use Rattle.ufs_dir_tree.specs.Steps.{GoesBy, clearing}
use Rattle.ufs_dir_tree.specs.DirCalls.{names_above, StandsAt, Frees}
use Rattle.ufs_dir_tree.specs.declared.found.Found.{Found}
use Rattle.ufs_dir_tree.proofs.FoundEdits.{last_is, entry_stands, entry_may_go, path_met, cleared}
use Rattle.ufs_dir_tree.proofs.UnmetInodes.{removed_unmet}
use Rattle.ufs_dir_tree.proofs.dir_tree.DirTree.remove.Goals as goal

pub drop_entry-requires-clause-stands : goal.drop_entry-requires-clause-stands
drop_entry-requires-clause-stands c =
    let path = c.args.path.now in
    entry_stands c.args.self.now path (names_above path) c.last.result.now c.args.dir c.last.ensures.value c.requires.dir c.requires.stands

pub drop_entry-requires-clause-may_go : goal.drop_entry-requires-clause-may_go
drop_entry-requires-clause-may_go c =
    let path = c.args.path.now in
    entry_may_go c.args.self.now path (names_above path) c.last.result.now c.args.dir c.last.ensures.value c.requires.dir c.requires.may_go

pub returns-clause-found : goal.returns-clause-found
returns-clause-found c =
    let path = c.args.path.now in
    cleared c.args.self.now c.drop_entry.new.self c.args.dir c.last.result.now c.drop_entry.ensures.clears (names_above path) c.requires.dir path c.last.ensures.value c.requires.may_go

pub returns-clause-freed : goal.returns-clause-freed
returns-clause-freed c =
    let path = c.args.path.now in
    let same = path_met c.args.self.now path (names_above path) c.last.result.now c.args.dir c.last.ensures.value c.requires.dir in
    subst (λ (o : Option Found). Frees c.args.self.now c.drop_entry.new.self c.args.pool.now c.drop_entry.new.pool o) (sym same) c.drop_entry.ensures.freed

pub returns-clause-unmet : goal.returns-clause-unmet
returns-clause-unmet c f stood =
    let path = c.args.path.now in
    let clears = c.drop_entry.ensures.clears in
    removed_unmet c.args.self.now c.drop_entry.new.self path f clears.before
    (cleared c.args.self.now c.drop_entry.new.self c.args.dir c.last.result.now clears (names_above path) c.requires.dir path c.last.ensures.value c.requires.may_go) stood

pub returns-clause-slot : goal.returns-clause-slot
returns-clause-slot c =
    let name = sym (last_is c.args.path.now (names_above c.args.path.now) c.last.result.now c.last.ensures.value) in
    subst (λ (x : List ℕ). StandsAt (dir_at c.args.self.now c.args.dir) x c.drop_entry.result) name c.drop_entry.ensures.slot

pub returns-clause-steps : goal.returns-clause-steps
returns-clause-steps c =
    let path = c.args.path.now in
    let same = path_met c.args.self.now path (names_above path) c.last.result.now c.args.dir c.last.ensures.value c.requires.dir in
    subst (λ (o : Option Found). GoesBy c.args.self.now c.drop_entry.new.self c.args.pool.now c.drop_entry.new.pool (clearing c.args.dir c.drop_entry.result o)) (sym same) c.drop_entry.ensures.steps
