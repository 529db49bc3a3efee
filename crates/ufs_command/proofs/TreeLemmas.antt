-- What the endings of `tree` tell.
use Rattle.std.proofs.Common.{◌≡◌, ◌⊎◌, inl, inr, ℕ, List, Ok, Err, ap, sym, subst, refl, ◌∙◌}
use Rattle.std.specs.Prelude.{IsTrue}
use Rattle.std.specs.Io.KnownBytes.{Appends}
use Rattle.ufs_image.specs.Opens.{ImageTree, opens}
use Rattle.ufs_image.specs.Volume.{Refusal}
use Rattle.ufs_image.specs.Volume as image
use Rattle.ufs_metadata.specs.Faults.{HasFaultCause}
use Rattle.ufs_metadata.specs.declared.fault.RecoverFault.{RecoverFault}
use Rattle.ufs_metadata.specs.declared.fault.RecoverFault.TheVariants as recover
use Rattle.ufs_opening.specs.Told.{TellsWhy}
use Rattle.ufs_command.specs.declared.ending.Ending.{Ending}
use Rattle.ufs_command.specs.declared.ending.Ending.TheVariants.{Done, Usage, BadGeometry, NotBuilt, BadScript, TooSmall, NoTree, DeviceFault, OutOfMemory, SourceFault, Damaged, Illegal}
use Rattle.ufs_command.specs.Texts.{device_line}
use Rattle.ufs_print.specs.TreeLines.{tree_lines}
use Rattle.ufs_command.specs.Seen.{Writing, Formatting}
use Rattle.ufs_command.specs.Endings.{EndsPrinting, EndsTree, StandsFor, TellsNoTree, IsAnswer, status_of, sink_status, ending_of, line_of}
use Rattle.ufs_command.specs.Told.{TellsTree}
use Rattle.ufs_command.proofs.ProperLemmas.{proper_opens}
use Rattle.ufs_command.proofs.StatusLemmas.{ByStatus, good, none, device, memory, good_told, none_told, good_end, none_end}

-- the lines of the tree are printed
pub tree_shown : (d : Formatting) (tree : ImageTree) → StandsFor d tree → d.now ≡ d.before → (ending : Ending) (text : List ℕ) → EndsPrinting (tree_lines tree) ending text → EndsTree d ending text
tree_shown d tree stands calm Done text e = (calm, tree, stands, e)
tree_shown d tree stands calm Usage text e = absurd e
tree_shown d tree stands calm (BadGeometry bad) text e = absurd e
tree_shown d tree stands calm NotBuilt text e = absurd e
tree_shown d tree stands calm BadScript text e = absurd e
tree_shown d tree stands calm TooSmall text e = absurd e
tree_shown d tree stands calm NoTree text e = absurd e
tree_shown d tree stands calm DeviceFault text e = absurd e
tree_shown d tree stands calm OutOfMemory text e = (calm, inr (tree, e.0, stands, e.1, e.2))
tree_shown d tree stands calm SourceFault text e = absurd e
tree_shown d tree stands calm Damaged text e = absurd e
tree_shown d tree stands calm Illegal text e = absurd e

-- why there is none is told
pub tree_refused : (d : Formatting) (f : RecoverFault) → HasFaultCause d.before d.now f → (IsTrue d.visible → TellsWhy d.sectors d.image f) → EndsTree d (ending_of f) (line_of f)
tree_refused d recover.NoSuperblock cause why = (cause, (image.NoSuperblock, why, refl))
tree_refused d (recover.BadVersion found) cause why = (cause, (image.BadVersion found, why, refl))
tree_refused d (recover.BadGeometry number) cause why = (cause, (image.BadGeometry number, why, refl))
tree_refused d (recover.BadRecord sector) cause why = (cause, (image.BadRecord sector, why, refl))
tree_refused d (recover.BadTree inode) cause why = (cause, (image.BadTree inode, why, refl))
tree_refused d (recover.Device fault) cause why = (cause.rose, ap device_line cause.number)
tree_refused d (recover.Lack _) cause why = (cause, inl refl)

-- only a fault of the disk that is told raises its count
pub calm_by : (before now : ℕ) (f : RecoverFault) (status : ℕ) → HasFaultCause before now f → (status ≡ status_of (ending_of f)) ⊎ (status ≡ sink_status) → (status ≡ 4 → ⊥) → (status ≡ 7 → ⊥) → now ≡ before
calm_by before now recover.NoSuperblock status cause is other sink = cause
calm_by before now (recover.BadVersion found) status cause is other sink = cause
calm_by before now (recover.BadGeometry number) status cause is other sink = cause
calm_by before now (recover.BadRecord sector) status cause is other sink = cause
calm_by before now (recover.BadTree inode) status cause is other sink = cause
calm_by before now (recover.Device fault) status cause (inl is) other sink = absurd (other is)
calm_by before now (recover.Device fault) status cause (inr is) other sink = absurd (sink is)
calm_by before now (recover.Lack _) status cause is other sink = cause

-- ---- by the status

abbrev Shown : Formatting → List ℕ → Type 0
Shown d text = (tree : ImageTree) × StandsFor d tree × (text ≡ tree_lines tree)

by_status : (d : Formatting) (status : ℕ) (ending : Ending) (text : List ℕ) → status ≡ status_of ending → EndsTree d ending text → ByStatus (Shown d) (TellsNoTree d) d status text
by_status d status Done text is e = good is (e.1, e.2, e.3)
by_status d status Usage text is e = absurd e
by_status d status (BadGeometry bad) text is e = absurd e
by_status d status NotBuilt text is e = absurd e
by_status d status BadScript text is e = absurd e
by_status d status TooSmall text is e = absurd e
by_status d status NoTree text is e = none is e.1
by_status d status DeviceFault text is e = device is e.0
by_status d status OutOfMemory text is e = memory is
by_status d status SourceFault text is e = absurd e
by_status d status Damaged text is e = absurd e
by_status d status Illegal text is e = absurd e

not_none : (d : Formatting) (tree : ImageTree) (text : List ℕ) → IsTrue d.visible → opens d.sectors d.image ≡ Ok tree → TellsNoTree d text → ⊥
not_none d tree text visible opened r = let both : Ok tree ≡ Err r.0 = sym opened ∙ r.1 visible in cc

not_shown : (d : Formatting) (refusal : Refusal) (text : List ℕ) → IsTrue d.visible → opens d.sectors d.image ≡ Err refusal → Shown d text → ⊥
not_shown d refusal text visible unopened s = let both : Err refusal ≡ Ok s.0 = sym unopened ∙ s.1 visible in cc

-- ---- of the whole answer

module _ (d : Formatting) (w : Writing) (status : ℕ) (a : IsAnswer (EndsTree d) w status) (known : IsTrue d.visible) where
  pub tree_told : TellsTree d w status
  tree_told = record {
    printed = λ zero.
        let x = good_told (EndsTree d) (Shown d) (TellsNoTree d) d w status (by_status d status) a zero in
        (x.1.0, x.1.1 known, subst (Appends w.held w.holds) x.1.2 x.2);
    no_tree = λ three.
        let x = none_told (EndsTree d) (Shown d) (TellsNoTree d) d w status (by_status d status) a three in
        (x.1.0, x.1.1 known, subst (Appends w.held w.holds) x.1.2 x.2);
    complete = λ tree opened calm. good_end (EndsTree d) (Shown d) (TellsNoTree d) d w status (by_status d status) a calm (λ text. not_none d tree text known opened);
    proper = λ proper three.
        let x = none_told (EndsTree d) (Shown d) (TellsNoTree d) d w status (by_status d status) a three in
        proper_opens d.sectors d.image proper x.1.0 (x.1.1 known);
    refused = λ refusal unopened calm. none_end (EndsTree d) (Shown d) (TellsNoTree d) d w status (by_status d status) a calm (λ text. not_shown d refusal text known unopened);
  }
