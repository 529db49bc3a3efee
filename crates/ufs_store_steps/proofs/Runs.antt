-- Each state that a call passes is a step.
use Rattle.std.proofs.Common.{◌≡◌, ◌⊎◌, inl, inr, ⊎_elim, ℕ, ◌*◌, List, [], ◌∷◌, ◌++◌, Bool, ap, sym, refl, ◌∙◌, subst}
use Rattle.std.specs.Prelude.{IsTrue}
use Rattle.std.specs.List.{AllByRecursion}
use Rattle.std.proofs.lemmas.List.{append_cancel_left}
use Rattle.ufs_base.specs.Images.{Image}
use Rattle.ufs_disk.specs.Disk.{State, IsImage, IsPartlyWritten, Leaves}
use Rattle.ufs_disk.specs.Moments.{Moments, all, LeavesOnly}
use Rattle.ufs_layout.specs.declared.geometry.Geometry.{Geometry}
use Rattle.ufs_ledger.specs.Ledger.{IsLeftBy}
use Rattle.ufs_ledger.specs.Data.{KeepsData}
use Rattle.ufs_ledger.specs.Changes.{committing, settled, beginning}
use Rattle.ufs_model.specs.Start.{PathNodes}
use Rattle.ufs_hand_laws.specs.Owned.{Has}
use Rattle.ufs_hand_laws.specs.Parts.{Cells}
use Rattle.ufs_hand_laws.specs.Shown.{OpensAs}
use Rattle.ufs_hand_laws.specs.Commits.{TreesGo, TreesMayGo, IsFileCommitted, AreNamesCommitted}
use Rattle.ufs_hand_laws.specs.Meets.{AreFilesWrittenBy}
use Rattle.ufs_store_steps.specs.Cells.{cells_of}
use Rattle.ufs_store_steps.specs.Runs.{WentThrough, passed_cells, LastIsPassed, QuietRuns, CheckpointRuns, WriteRuns, FileCommitRuns, NameCommitRuns}
use Rattle.ufs_store_steps.proofs.Cells.{cells_are_there}
use Rattle.ufs_store_steps.proofs.Quiet.{quiet_calls, checkpoints}
use Rattle.ufs_store_steps.proofs.WriteSteps.{writes_go}
use Rattle.ufs_store_steps.proofs.FileSteps.{file_commits_may_go}
use Rattle.ufs_store_steps.proofs.NameSteps.{name_commits_may_go}

-- ---- the last state

last_or : State → List State → State
last_or d [] = d
last_or d (x ∷ xs) = last_or x xs

last-append : (d : State) (xs ys : List State) → last_or d (xs ++ ys) ≡ last_or (last_or d xs) ys
unfolding last_or
last-append d [] ys = refl
last-append d (x ∷ xs) ys = last-append x xs ys

last_now : (d : State) (m : Moments) → last_or d (all m) ≡ m.state
unfolding last_or
last_now d m = last-append d m.earlier (m.state ∷ [])

last_case : (sectors : ℕ) (d : State) (xs : List State) → (last_or d xs ≡ d) ⊎ Has (cells_of sectors (last_or d xs)) (passed_cells sectors xs)
unfolding last_or
last_case sectors d [] = inl refl
last_case sectors d (x ∷ xs) = inr (⊎_elim (λ e. inl (ap (cells_of sectors) e)) (λ h. inr h) (last_case sectors x xs))

pub last_is_passed : LastIsPassed
last_is_passed sectors old new passed went =
    let e : new.state ≡ last_or old.state passed = sym (last_now old.state new) ∙ ap (last_or old.state) went ∙ last-append old.state (all old) passed ∙ ap (λ s. last_or s passed) (last_now old.state old) in
    ⊎_elim (λ same. inl (ap (cells_of sectors) (e ∙ same))) (λ h. inr (subst (λ s. Has (cells_of sectors s) (passed_cells sectors passed)) (sym e) h)) (last_case sectors old.state passed)

-- ---- each state

each_passed : (P : Image → Type 0) (keeps : Bool) → IsTrue keeps → (old new : Moments) (passed : List State) → WentThrough old new passed → LeavesOnly keeps P old new → AllByRecursion (Leaves P) passed
each_passed P keeps kept old new passed went run =
    let r = run.between kept in
    subst (AllByRecursion (Leaves P)) (append_cancel_left (all old) r.inside passed (sym r.whole ∙ went)) r.each

one_passed : (P Q : State → Type 0) (sectors : ℕ) (passed : List State) (d : Cells) → Has d (passed_cells sectors passed) → AllByRecursion P passed → AllByRecursion Q passed → (state : State) × (d ≡ cells_of sectors state) × P state × Q state
one_passed P Q sectors [] d h a b = absurd h
one_passed P Q sectors (x ∷ xs) d (inl e) a b = (x, e, a.0, b.0)
one_passed P Q sectors (x ∷ xs) d (inr h) a b = one_passed P Q sectors xs d h a.1 b.1

-- what goes may go
pub may_go : (Goes : PathNodes → PathNodes → Type 0) (one other : Cells) → TreesGo Goes one other → TreesMayGo Goes one other
may_go Goes one other go image left = let g = go image left in (g.0, g.1, inr g.2)

pub quiet_runs : (g : Geometry) → QuietRuns g
quiet_runs g keeps sectors old new passed l n paths one kept is went run d h =
    let each = each_passed (IsImage old.state) keeps kept old new passed went run in
    let x = one_passed (Leaves (IsImage old.state)) (Leaves (IsImage old.state)) sectors passed d h each each in
    subst (OpensAs one) (sym x.1) (quiet_calls g sectors old.state x.0 l n paths one (cells_of sectors x.0) is (cells_are_there sectors x.0) x.2)

pub checkpoint_runs : (g : Geometry) → CheckpointRuns g
checkpoint_runs g keeps sectors old new passed l n paths one superblock home kept is went same data' run d h =
    let x = one_passed (Leaves (KeepsData g l.now.log old.state)) (Leaves (λ image. IsLeftBy sectors l image ⊎ IsLeftBy sectors (beginning superblock home l) image)) sectors passed d h
    (each_passed (KeepsData g l.now.log old.state) keeps kept old new passed went data') (each_passed (λ image. IsLeftBy sectors l image ⊎ IsLeftBy sectors (beginning superblock home l) image) keeps kept old new passed went run) in
    subst (OpensAs one) (sym x.1) (checkpoints g sectors old.state x.0 l n paths one (cells_of sectors x.0) superblock home is (cells_are_there sectors x.0) same x.2 x.3)

pub write_runs : (g : Geometry) → WriteRuns g
write_runs g keeps sectors old new passed l n paths one block bytes v s kept is went whole used may inside writes run d h =
    let each = each_passed (IsPartlyWritten (8 * block) bytes old.state) keeps kept old new passed went run in
    let x = one_passed (Leaves (IsPartlyWritten (8 * block) bytes old.state)) (Leaves (IsPartlyWritten (8 * block) bytes old.state)) sectors passed d h each each in
    subst (TreesMayGo (AreFilesWrittenBy v s paths) one) (sym x.1)
    (may_go (AreFilesWrittenBy v s paths) one (cells_of sectors x.0) (writes_go g sectors old.state x.0 l n paths one (cells_of sectors x.0) block bytes v s is (cells_are_there sectors x.0) whole used may inside writes x.2))

pub file_commit_runs : (g : Geometry) → FileCommitRuns g
file_commit_runs g keeps sectors old new passed l n paths one t file bytes kept is went c data' run d h =
    let x = one_passed (Leaves (KeepsData g l.now.log old.state)) (Leaves (λ image. IsLeftBy sectors l image ⊎ IsLeftBy sectors (committing t (settled l)) image)) sectors passed d h
    (each_passed (KeepsData g l.now.log old.state) keeps kept old new passed went data') (each_passed (λ image. IsLeftBy sectors l image ⊎ IsLeftBy sectors (committing t (settled l)) image) keeps kept old new passed went run) in
    subst (TreesMayGo (IsFileCommitted paths file bytes) one) (sym x.1) (file_commits_may_go g sectors old.state x.0 l n paths one (cells_of sectors x.0) t file bytes is (cells_are_there sectors x.0) c x.2 x.3)

pub name_commit_runs : (g : Geometry) → NameCommitRuns g
name_commit_runs g keeps sectors old new passed l n m paths next fresh one t kept is went c data' run d h =
    let x = one_passed (Leaves (KeepsData g l.now.log old.state)) (Leaves (λ image. IsLeftBy sectors l image ⊎ IsLeftBy sectors (committing t (settled l)) image)) sectors passed d h
    (each_passed (KeepsData g l.now.log old.state) keeps kept old new passed went data') (each_passed (λ image. IsLeftBy sectors l image ⊎ IsLeftBy sectors (committing t (settled l)) image) keeps kept old new passed went run) in
    subst (TreesMayGo (AreNamesCommitted fresh paths next) one) (sym x.1) (name_commits_may_go g sectors old.state x.0 l n m paths next fresh one (cells_of sectors x.0) t is (cells_are_there sectors x.0) c x.2 x.3)
