-- What the endings of `check` tell.
use Rattle.std.proofs.Common.{◌≡◌, ◌⊎◌, inl, inr, ℕ, List, [], Ok, Err, ap, sym, subst, refl, ◌∙◌, arith}
use Rattle.std.specs.Prelude.{IsTrue, ◌≢◌}
use Rattle.std.specs.Io.KnownBytes.{Appends}
use Rattle.ufs_base.specs.Faults.{raised}
use Rattle.ufs_image.specs.Damage.{Damage}
use Rattle.ufs_image.specs.Opens.{damage_list}
use Rattle.ufs_image.specs.Volume.{Refusal}
use Rattle.ufs_image.specs.Volume as image
use Rattle.ufs_metadata.specs.Faults.{HasFaultCause, IsWhyNot}
use Rattle.ufs_metadata.specs.declared.fault.RecoverFault.{RecoverFault}
use Rattle.ufs_metadata.specs.declared.fault.RecoverFault.TheVariants as recover
use Rattle.ufs_command.specs.declared.ending.Ending.{Ending}
use Rattle.ufs_command.specs.declared.ending.Ending.TheVariants.{Done, Usage, BadGeometry, NotBuilt, BadScript, TooSmall, NoTree, DeviceFault, OutOfMemory, SourceFault, Damaged, Illegal}
use Rattle.ufs_command.specs.Texts.{device_line}
use Rattle.ufs_print.specs.TreeLines.{refusal_line}
use Rattle.ufs_print.specs.DamageLines.{clean_line, damage_lines}
use Rattle.ufs_command.specs.Seen.{Writing, Formatting}
use Rattle.ufs_command.specs.Told.{TellsCheck}
use Rattle.ufs_command.proofs.ProperLemmas.{proper_listed}
use Rattle.ufs_command.specs.Endings.{EndsListing, EndsCheck, HasDamage, IsAnswer, status_of, sink_status, ending_of, line_of}

-- the list is told
pub list_told : (d : Formatting) (list : List Damage) → HasDamage d list → d.now ≡ d.before → (ending : Ending) (text : List ℕ) → EndsListing list ending text → EndsCheck d ending text
list_told d list has calm Done text e = (calm, subst (HasDamage d) e.0 has, e.1)
list_told d list has calm Usage text e = absurd e
list_told d list has calm (BadGeometry bad) text e = absurd e
list_told d list has calm NotBuilt text e = absurd e
list_told d list has calm BadScript text e = absurd e
list_told d list has calm TooSmall text e = absurd e
list_told d list has calm NoTree text e = absurd e
list_told d list has calm DeviceFault text e = absurd e
list_told d list has calm OutOfMemory text e = absurd e
list_told d list has calm SourceFault text e = absurd e
list_told d list has calm Damaged text e = (calm, list, e.0, has, e.1)
list_told d list has calm Illegal text e = absurd e

-- why there is none is told
pub list_refused : (d : Formatting) (f : RecoverFault) → HasFaultCause d.before d.now f → (IsTrue d.visible → IsWhyNot (damage_list d.sectors d.image) f) → EndsCheck d (ending_of f) (line_of f)
list_refused d recover.NoSuperblock cause why = (cause, image.NoSuperblock, why, refl)
list_refused d (recover.BadVersion found) cause why = (cause, image.BadVersion found, why, refl)
list_refused d (recover.BadGeometry number) cause why = (cause, image.BadGeometry number, why, refl)
list_refused d (recover.BadRecord sector) cause why = (cause, image.BadRecord sector, why, refl)
list_refused d (recover.BadTree inode) cause why = (cause, image.BadTree inode, why, refl)
list_refused d (recover.Device fault) cause why = (cause.rose, ap device_line cause.number)
list_refused d (recover.Lack _) cause why = (cause, refl)

-- ---- by the status

abbrev Listed : Formatting → List ℕ → Type 0
Listed d text = (list : List Damage) × (list ≢ []) × HasDamage d list × (text ≡ damage_lines list)

abbrev Refused : Formatting → List ℕ → Type 0
Refused d text = (refusal : Refusal) × (IsTrue d.visible → damage_list d.sectors d.image ≡ Err refusal) × (text ≡ refusal_line refusal)

data ByStatus (d : Formatting) (status : ℕ) (text : List ℕ) : Type 0 where
  clean : status ≡ 0 → HasDamage d [] → text ≡ clean_line → ByStatus d status text
  damaged : status ≡ 8 → Listed d text → ByStatus d status text
  refused : status ≡ 3 → Refused d text → ByStatus d status text
  device : status ≡ 4 → d.now ≡ raised d.before → ByStatus d status text
  memory : status ≡ 5 → ByStatus d status text

by_status : (d : Formatting) (status : ℕ) (ending : Ending) (text : List ℕ) → status ≡ status_of ending → EndsCheck d ending text → ByStatus d status text
by_status d status Done text is e = clean is e.1 e.2
by_status d status Usage text is e = absurd e
by_status d status (BadGeometry bad) text is e = absurd e
by_status d status NotBuilt text is e = absurd e
by_status d status BadScript text is e = absurd e
by_status d status TooSmall text is e = absurd e
by_status d status NoTree text is e = refused is (e.1, e.2, e.3)
by_status d status DeviceFault text is e = device is e.0
by_status d status OutOfMemory text is e = memory is
by_status d status SourceFault text is e = absurd e
by_status d status Damaged text is e = damaged is (e.1, e.2, e.3, e.4)
by_status d status Illegal text is e = absurd e

clean_by : (d : Formatting) (status : ℕ) (text : List ℕ) → status ≡ 0 → ByStatus d status text → HasDamage d [] × (text ≡ clean_line)
clean_by d status text zero (clean is h t) = (h, t)
clean_by d status text zero (damaged is l) = absurd (omega (arith, zero, is))
clean_by d status text zero (refused is r) = absurd (omega (arith, zero, is))
clean_by d status text zero (device is e) = absurd (omega (arith, zero, is))
clean_by d status text zero (memory is) = absurd (omega (arith, zero, is))

damaged_by : (d : Formatting) (status : ℕ) (text : List ℕ) → status ≡ 8 → ByStatus d status text → Listed d text
damaged_by d status text eight (clean is h t) = absurd (omega (arith, eight, is))
damaged_by d status text eight (damaged is l) = l
damaged_by d status text eight (refused is r) = absurd (omega (arith, eight, is))
damaged_by d status text eight (device is e) = absurd (omega (arith, eight, is))
damaged_by d status text eight (memory is) = absurd (omega (arith, eight, is))

refused_by : (d : Formatting) (status : ℕ) (text : List ℕ) → status ≡ 3 → ByStatus d status text → Refused d text
refused_by d status text three (clean is h t) = absurd (omega (arith, three, is))
refused_by d status text three (damaged is l) = absurd (omega (arith, three, is))
refused_by d status text three (refused is r) = r
refused_by d status text three (device is e) = absurd (omega (arith, three, is))
refused_by d status text three (memory is) = absurd (omega (arith, three, is))

module _ (d : Formatting) (status : ℕ) (text : List ℕ) (visible : IsTrue d.visible) (calm : d.now ≡ raised d.before → ⊥) where
  whole_by : damage_list d.sectors d.image ≡ Ok [] → ByStatus d status text → (status ≡ 0) ⊎ (status ≡ 5)
  whole_by none (clean is h t) = inl is
  whole_by none (damaged is l) = absurd (l.1 (let both : Ok l.0 ≡ Ok [] = sym (l.2 visible) ∙ none in cc))
  whole_by none (refused is r) = let both : Ok [] ≡ Err r.0 = sym none ∙ r.1 visible in cc
  whole_by none (device is e) = absurd (calm e)
  whole_by none (memory is) = inr is

  listed_by : (list : List Damage) → (list ≡ [] → ⊥) → damage_list d.sectors d.image ≡ Ok list → ByStatus d status text → (status ≡ 8) ⊎ (status ≡ 5)
  listed_by list some has (clean is h t) = absurd (some (let both : Ok list ≡ Ok [] = sym has ∙ h visible in cc))
  listed_by list some has (damaged is l) = inl is
  listed_by list some has (refused is r) = let both : Ok list ≡ Err r.0 = sym has ∙ r.1 visible in cc
  listed_by list some has (device is e) = absurd (calm e)
  listed_by list some has (memory is) = inr is

  unlisted_by : (refusal : Refusal) → damage_list d.sectors d.image ≡ Err refusal → ByStatus d status text → (status ≡ 3) ⊎ (status ≡ 5)
  unlisted_by refusal none (clean is h t) = let both : Err refusal ≡ Ok [] = sym none ∙ h visible in cc
  unlisted_by refusal none (damaged is l) = let both : Err refusal ≡ Ok l.0 = sym none ∙ l.2 visible in cc
  unlisted_by refusal none (refused is r) = inl is
  unlisted_by refusal none (device is e) = absurd (calm e)
  unlisted_by refusal none (memory is) = inr is

-- ---- of the whole answer

module _ (d : Formatting) (w : Writing) (status : ℕ) (a : IsAnswer (EndsCheck d) w status) (visible : IsTrue d.visible) where
  told : (status ≡ sink_status → ⊥) → (text : List ℕ) × ByStatus d status text × Appends w.held w.holds text
  told other = let x = a.whole other in (x.1, by_status d status x.0 x.1 x.2 x.3, x.4)

  check_clean : status ≡ 0 → (damage_list d.sectors d.image ≡ Ok []) × Appends w.held w.holds clean_line
  check_clean zero =
      let x = told (λ e. cc) in
      let s = clean_by d status x.0 zero x.1 in
      (s.0 visible, subst (Appends w.held w.holds) s.1 x.2)

  check_damaged : status ≡ 8 → (list : List Damage) × (list ≢ []) × (damage_list d.sectors d.image ≡ Ok list) × Appends w.held w.holds (damage_lines list)
  check_damaged eight =
      let x = told (λ e. cc) in
      let s = damaged_by d status x.0 eight x.1 in
      (s.0, s.1, s.2 visible, subst (Appends w.held w.holds) s.3 x.2)

  check_refusal : status ≡ 3 → (refusal : Refusal) × (damage_list d.sectors d.image ≡ Err refusal) × Appends w.held w.holds (refusal_line refusal)
  check_refusal three =
      let x = told (λ e. cc) in
      let s = refused_by d status x.0 three x.1 in
      (s.0, s.1 visible, subst (Appends w.held w.holds) s.2 x.2)

  pub check_told : TellsCheck d w status
  check_told = record {
    clean = check_clean;
    damaged = check_damaged;
    no_list = check_refusal;
    proper = λ proper three. let x = check_refusal three in proper_listed d.sectors d.image proper x.0 x.1;
    complete_clean = λ none calm. let x = told (λ s. calm.sink (a.rose s)) in whole_by d status x.0 visible calm.disk none x.1;
    complete_damaged = λ list some has calm. let x = told (λ s. calm.sink (a.rose s)) in listed_by d status x.0 visible calm.disk list some has x.1;
    refused = λ refusal none calm. let x = told (λ s. calm.sink (a.rose s)) in unlisted_by d status x.0 visible calm.disk refusal none x.1;
  }
