-- What a command answers that calls no leg.
use Rattle.std.proofs.Common.{◌≡◌, ℕ, true, false, IsTrue, List, Option, Some, None, refl, sym, ◌∙◌, subst, inl, inr}
use Rattle.ufs_command.specs.Endings.{IsAnswer, IsFixed}
use Rattle.ufs_command.specs.Left.{LeavesSource}
use Rattle.ufs_command.specs.Seen.{Writing}
use Rattle.ufs_command.specs.declared.ending.Ending.{Ending}
use Rattle.ufs_command.specs.declared.ending.Ending.TheVariants.{NotBuilt, OutOfMemory, Usage}
use Rattle.ufs_command.specs.declared.words.Command.{Command}
use Rattle.ufs_command.specs.declared.words.Command.TheVariants as command
use Rattle.ufs_mirror.specs.Refused.{IsMakeFault, IsOpenFault}
use Rattle.ufs_mirror.specs.declared.fault.MirrorFault.{MirrorFault}
use Rattle.ufs_mirror.specs.declared.fault.MirrorFault.TheVariants.{NoLabel}
use Rattle.ufs_process.specs.Joining.{IsJoinFault, IsMade, IsOpened, Joins, is_mkfs, works_on_disk}
use Rattle.ufs_process.specs.Mirrored.{EndsAlone}
use Rattle.ufs_process.specs.Views.{Kind, View}

no : false ≡ true → ⊥
no is = let at : false ≡ true = is in cc

-- what allows more
answer_weaker : (P Q : Ending → List ℕ → Type 0) → ((ending : Ending) (text : List ℕ) → P ending text → Q ending text) → (w : Writing) (status : ℕ) → IsAnswer P w status → IsAnswer Q w status
answer_weaker P Q leads w status a = record {
  whole = λ other. let x = a.whole other in (x.0, x.1, x.2, leads x.0 x.1 x.3, x.4);
  told = a.told;
  rose = a.rose;
  cut = λ is. let x = a.cut is in (x.0, x.1, x.2, leads x.0 x.1 x.3, x.4, x.5);
}

-- what ends a command that calls no leg
pub alone_ends : (P : Ending → List ℕ → Type 0) (words : Option Command) → ((ending : Ending) (text : List ℕ) → P ending text → EndsAlone words ending text)
    → {w w_now : Writing} {status status_now : ℕ} → w_now ≡ w → status_now ≡ status → IsAnswer P w status → IsAnswer (EndsAlone words) w_now status_now
alone_ends P words leads {w} {w_now} {status} {status_now} same same_status a =
    subst (λ v. IsAnswer (EndsAlone words) v status_now) (sym same) (subst (IsAnswer (EndsAlone words) w) (sym same_status) (answer_weaker P (EndsAlone words) leads w status a))

-- there may be no memory for any words
pub alone_starved : (words : Option Command) (ending : Ending) (text : List ℕ) → IsFixed OutOfMemory ending text → EndsAlone words ending text
alone_starved None ending text is = inr is
alone_starved (Some command.NotBuilt) ending text is = inr is
alone_starved (Some (command.Mkfs blocks inodes journal)) ending text is = is
alone_starved (Some (command.Play trace)) ending text is = is
alone_starved (Some (command.Bench seed)) ending text is = is
alone_starved (Some command.Tree) ending text is = is
alone_starved (Some command.Check) ending text is = is
alone_starved (Some command.Audit) ending text is = is
alone_starved (Some command.Recover) ending text is = is

-- a source that isn't read
pub source_unread : (words : Option Command) (status : ℕ) (left : Option (List ℕ)) (count : ℕ) → LeavesSource words status (record { left = left; rest = left; before = count; now = count })
source_unread words status left count = record { told = λ a b. refl; unread = λ other. (refl, refl) }

-- words that are none, and those that aren't built
pub alone_none : (words : Option Command) → words ≡ None → (ending : Ending) (text : List ℕ) → IsFixed Usage ending text → EndsAlone words ending text
alone_none words is ending text fixed = subst (λ (w : Option Command). EndsAlone w ending text) (sym is) (inl fixed)

pub alone_not_built : (words : Option Command) → words ≡ Some command.NotBuilt → (ending : Ending) (text : List ℕ) → IsFixed NotBuilt ending text → EndsAlone words ending text
alone_not_built words is ending text fixed = subst (λ (w : Option Command). EndsAlone w ending text) (sym is) (inl fixed)

-- ---- by the command

module _ {A B : Type 0} (one : Kind A) (other : Kind B) where
  pub made_joins : (words : Option Command) → IsTrue (is_mkfs words) → (first : A) (second : B) (m : View A B) → IsMade one other first second m → Joins one other words first second m
  made_joins (Some (command.Mkfs blocks inodes journal)) is first second m made = made
  made_joins None is first second m made = absurd (no is)
  made_joins (Some command.NotBuilt) is first second m made = absurd (no is)
  made_joins (Some (command.Play trace)) is first second m made = absurd (no is)
  made_joins (Some (command.Bench seed)) is first second m made = absurd (no is)
  made_joins (Some command.Tree) is first second m made = absurd (no is)
  made_joins (Some command.Check) is first second m made = absurd (no is)
  made_joins (Some command.Audit) is first second m made = absurd (no is)
  made_joins (Some command.Recover) is first second m made = absurd (no is)

  pub opened_joins : (words : Option Command) → is_mkfs words ≡ false → (first : A) (second : B) (m : View A B) → IsOpened one other first second m → Joins one other words first second m
  opened_joins (Some (command.Mkfs blocks inodes journal)) is first second m opened = absurd (no (sym is))
  opened_joins None is first second m opened = opened
  opened_joins (Some command.NotBuilt) is first second m opened = opened
  opened_joins (Some (command.Play trace)) is first second m opened = opened
  opened_joins (Some (command.Bench seed)) is first second m opened = opened
  opened_joins (Some command.Tree) is first second m opened = opened
  opened_joins (Some command.Check) is first second m opened = opened
  opened_joins (Some command.Audit) is first second m opened = opened
  opened_joins (Some command.Recover) is first second m opened = opened

module _ (one other one_faults one_now other_faults other_now : ℕ) (fault : MirrorFault) where
  pub made_fault : (words : Option Command) → IsTrue (is_mkfs words) → IsMakeFault one other one_faults one_now other_faults other_now fault → IsJoinFault words one other one_faults one_now other_faults other_now fault
  made_fault (Some (command.Mkfs blocks inodes journal)) is cause = cause
  made_fault None is cause = absurd (no is)
  made_fault (Some command.NotBuilt) is cause = absurd (no is)
  made_fault (Some (command.Play trace)) is cause = absurd (no is)
  made_fault (Some (command.Bench seed)) is cause = absurd (no is)
  made_fault (Some command.Tree) is cause = absurd (no is)
  made_fault (Some command.Check) is cause = absurd (no is)
  made_fault (Some command.Audit) is cause = absurd (no is)
  made_fault (Some command.Recover) is cause = absurd (no is)

  pub opened_fault : (words : Option Command) → is_mkfs words ≡ false → IsOpenFault one other one_faults one_now other_faults other_now fault → IsJoinFault words one other one_faults one_now other_faults other_now fault
  opened_fault (Some (command.Mkfs blocks inodes journal)) is cause = absurd (no (sym is))
  opened_fault None is cause = cause
  opened_fault (Some command.NotBuilt) is cause = cause
  opened_fault (Some (command.Play trace)) is cause = cause
  opened_fault (Some (command.Bench seed)) is cause = cause
  opened_fault (Some command.Tree) is cause = cause
  opened_fault (Some command.Check) is cause = cause
  opened_fault (Some command.Audit) is cause = cause
  opened_fault (Some command.Recover) is cause = cause

  -- making a mirror finds no want of a label
  pub no_label_made : IsMakeFault one other one_faults one_now other_faults other_now fault → fault ≡ NoLabel → ⊥
  no_label_made cause is = subst (IsMakeFault one other one_faults one_now other_faults other_now) is cause

-- ---- which commands work on a disk

pub works : (words : Option Command) (which : Command) → words ≡ Some which → (which ≡ command.NotBuilt → ⊥) → IsTrue (works_on_disk words)
works words command.NotBuilt is other = absurd (other refl)
works words (command.Mkfs blocks inodes journal) is other = subst (λ (w : Option Command). IsTrue (works_on_disk w)) (sym is) refl
works words (command.Play trace) is other = subst (λ (w : Option Command). IsTrue (works_on_disk w)) (sym is) refl
works words (command.Bench seed) is other = subst (λ (w : Option Command). IsTrue (works_on_disk w)) (sym is) refl
works words command.Tree is other = subst (λ (w : Option Command). IsTrue (works_on_disk w)) (sym is) refl
works words command.Check is other = subst (λ (w : Option Command). IsTrue (works_on_disk w)) (sym is) refl
works words command.Audit is other = subst (λ (w : Option Command). IsTrue (works_on_disk w)) (sym is) refl
works words command.Recover is other = subst (λ (w : Option Command). IsTrue (works_on_disk w)) (sym is) refl

pub not_made : (words : Option Command) → IsTrue (is_mkfs words) → is_mkfs words ≡ false → ⊥
not_made words is other = no (sym other ∙ is)
