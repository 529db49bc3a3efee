-- What the endings of `recover` tell.
use Rattle.std.proofs.Common.{◌≡◌, ◌⊎◌, inl, inr, ℕ, List, Ok, Err, ap, sym, subst, refl, ◌∙◌}
use Rattle.std.specs.Prelude.{IsTrue}
use Rattle.std.specs.Io.KnownBytes.{Appends}
use Rattle.ufs_image.specs.Opens.{ImageTree, opens}
use Rattle.ufs_image.specs.Proper.{IsProperImage}
use Rattle.ufs_image.specs.Volume.{Refusal}
use Rattle.ufs_image.specs.Volume as image
use Rattle.ufs_metadata.specs.Faults.{HasFaultCause, IsOutside}
use Rattle.ufs_metadata.specs.declared.fault.RecoverFault.{RecoverFault}
use Rattle.ufs_metadata.specs.declared.fault.RecoverFault.TheVariants as recover
use Rattle.ufs_opening.specs.Told.{TellsWhy}
use Rattle.ufs_command.specs.declared.ending.Ending.{Ending}
use Rattle.ufs_command.specs.declared.ending.Ending.TheVariants.{Done, Usage, BadGeometry, NotBuilt, BadScript, TooSmall, NoTree, DeviceFault, OutOfMemory, SourceFault, Damaged, Illegal}
use Rattle.ufs_command.specs.Texts.{device_line, recovered_line}
use Rattle.ufs_command.specs.Seen.{Writing, Formatting}
use Rattle.ufs_command.specs.Endings.{EndsRecovery, HasCommitted, IsImproper, TellsNoTree, IsAnswer, status_of, sink_status, ending_of, line_of}
use Rattle.ufs_command.specs.Told.{TellsRecovery}
use Rattle.ufs_command.proofs.StatusLemmas.{ByStatus, good, none, device, memory, good_told, none_told, good_end, none_end}

-- why it isn't recovered is told
pub recovery_refused : (d : Formatting) (f : RecoverFault) → HasFaultCause d.before d.now f → (IsTrue d.visible → TellsWhy d.sectors d.image f) → (IsTrue d.visible → IsProperImage d.sectors d.image → IsOutside f) → EndsRecovery d (ending_of f) (line_of f)
recovery_refused d recover.NoSuperblock cause why outside = (cause, outside, (image.NoSuperblock, why, refl))
recovery_refused d (recover.BadVersion found) cause why outside = (cause, outside, (image.BadVersion found, why, refl))
recovery_refused d (recover.BadGeometry number) cause why outside = (cause, outside, (image.BadGeometry number, why, refl))
recovery_refused d (recover.BadRecord sector) cause why outside = (cause, outside, (image.BadRecord sector, why, refl))
recovery_refused d (recover.BadTree inode) cause why outside = (cause, outside, (image.BadTree inode, why, refl))
recovery_refused d (recover.Device fault) cause why outside = (cause.rose, ap device_line cause.number)
recovery_refused d (recover.Lack _) cause why outside = (cause, refl)

-- what isn't recovered hasn't status 0
pub refused_apart : (f : RecoverFault) (status : ℕ) → (status ≡ status_of (ending_of f)) ⊎ (status ≡ sink_status) → status ≡ 0 → ⊥
refused_apart f status (inr sink) zero = cc
refused_apart recover.NoSuperblock status (inl is) zero = cc
refused_apart (recover.BadVersion found) status (inl is) zero = cc
refused_apart (recover.BadGeometry number) status (inl is) zero = cc
refused_apart (recover.BadRecord sector) status (inl is) zero = cc
refused_apart (recover.BadTree inode) status (inl is) zero = cc
refused_apart (recover.Device fault) status (inl is) zero = cc
refused_apart (recover.Lack _) status (inl is) zero = cc

-- ---- by the status

abbrev Counted : Formatting → List ℕ → Type 0
Counted d text = (count : ℕ) × HasCommitted d count × (text ≡ recovered_line count)

abbrev Refused : Formatting → List ℕ → Type 0
Refused d text = IsImproper d × TellsNoTree d text

by_status : (d : Formatting) (status : ℕ) (ending : Ending) (text : List ℕ) → status ≡ status_of ending → EndsRecovery d ending text → ByStatus (Counted d) (Refused d) d status text
by_status d status Done text is e = good is (e.1, e.2, e.3)
by_status d status Usage text is e = absurd e
by_status d status (BadGeometry bad) text is e = absurd e
by_status d status NotBuilt text is e = absurd e
by_status d status BadScript text is e = absurd e
by_status d status TooSmall text is e = absurd e
by_status d status NoTree text is e = none is (e.1, e.2)
by_status d status DeviceFault text is e = device is e.0
by_status d status OutOfMemory text is e = memory is
by_status d status SourceFault text is e = absurd e
by_status d status Damaged text is e = absurd e
by_status d status Illegal text is e = absurd e

not_none : (d : Formatting) (tree : ImageTree) (text : List ℕ) → IsTrue d.visible → opens d.sectors d.image ≡ Ok tree → Refused d text → ⊥
not_none d tree text visible opened r = let both : Ok tree ≡ Err r.1.0 = sym opened ∙ r.1.1 visible in cc

not_counted : (d : Formatting) (refusal : Refusal) (text : List ℕ) → IsTrue d.visible → opens d.sectors d.image ≡ Err refusal → Counted d text → ⊥
not_counted d refusal text visible unopened s =
    let there = s.1.opened visible in
    let both : Err refusal ≡ Ok there.0 = sym unopened ∙ there.1 in cc

-- ---- of the whole answer

module _ (d : Formatting) (w : Writing) (status : ℕ) (a : IsAnswer (EndsRecovery d) w status) (known : IsTrue d.visible) where
  pub recovery_told : TellsRecovery d w status
  recovery_told = record {
    recovered = λ zero.
        let x = good_told (EndsRecovery d) (Counted d) (Refused d) d w status (by_status d status) a zero in
        let there = x.1.1.opened known in
        (there.0, there.1, subst (Appends w.held w.holds) (x.1.2 ∙ ap recovered_line (x.1.1.found known)) x.2);
    no_tree = λ three.
        let x = none_told (EndsRecovery d) (Counted d) (Refused d) d w status (by_status d status) a three in
        (x.1.1.0, x.1.1.1 known, subst (Appends w.held w.holds) x.1.1.2 x.2);
    complete = λ tree opened calm. good_end (EndsRecovery d) (Counted d) (Refused d) d w status (by_status d status) a calm (λ text. not_none d tree text known opened);
    refused = λ refusal unopened calm. none_end (EndsRecovery d) (Counted d) (Refused d) d w status (by_status d status) a calm (λ text. not_counted d refusal text known unopened);
    proper = λ proper three.
        let x = none_told (EndsRecovery d) (Counted d) (Refused d) d w status (by_status d status) a three in
        x.1.0 known proper;
  }
