-- What `play` leaves of the disk, by its status.
use Rattle.std.proofs.Common.{◌≡◌, ◌⊎◌, inl, inr, ℕ, List, [], Result, Ok, Err, ap, sym, subst, refl, ◌∙◌, arith}
use Rattle.std.specs.Prelude.{OnOk}
use Rattle.ufs_metadata.specs.declared.fault.RecoverFault.TheVariants as recover
use Rattle.ufs_engine.specs.Plays.{IsEndFault}
use Rattle.ufs_engine.specs.declared.playing.PlayFault.{PlayFault}
use Rattle.ufs_engine.specs.declared.playing.PlayFault.TheVariants as ended
use Rattle.ufs_model.specs.declared.data.Entry.{Entry}
use Rattle.ufs_told.specs.Told.{IsCountStill, devices_in}
use Rattle.ufs_start.specs.Refused.{HasStartCause}
use Rattle.ufs_start.specs.declared.fault.StartFault.{StartFault}
use Rattle.ufs_start.specs.declared.fault.StartFault.TheVariants as start
use Rattle.ufs_command.specs.declared.ending.Ending.{Ending}
use Rattle.ufs_command.specs.declared.ending.Ending.TheVariants.{Done, Usage, BadGeometry, NotBuilt, BadScript, TooSmall, NoTree, DeviceFault, OutOfMemory, SourceFault, Damaged, Illegal}
use Rattle.ufs_command.specs.Seen.{Writing}
use Rattle.ufs_command.specs.Endings.{EndsBehind, EndsPlayed, EndsPrinting, IsAnswer, status_of, start_ending}

-- the statuses with which a session ends that isn't whole
abbrev IsShort : ℕ → Type 0
IsShort status = (status ≡ 3) ⊎ ((status ≡ 4) ⊎ (status ≡ 5))

unbegun_short : (fault : StartFault) → IsShort (status_of (start_ending fault))
unbegun_short (start.Image recover.NoSuperblock) = inl refl
unbegun_short (start.Image (recover.BadVersion found)) = inl refl
unbegun_short (start.Image (recover.BadGeometry number)) = inl refl
unbegun_short (start.Image (recover.BadRecord sector)) = inl refl
unbegun_short (start.Image (recover.BadTree inode)) = inl refl
unbegun_short (start.Image (recover.Device fault)) = inr (inl refl)
unbegun_short (start.Image (recover.Lack _)) = inr (inr refl)
unbegun_short (start.Unreached inode) = inl refl
unbegun_short (start.Unnamed inode) = inl refl
unbegun_short (start.ExtraBlocks inode) = inl refl

-- ..of those behind whose replies the line of a fault stands
behind_short : (lines : List ℕ) (fault : ℕ) (ending : Ending) (text : List ℕ) → EndsBehind lines fault ending text → (status_of ending ≡ 4) ⊎ (status_of ending ≡ 5)
behind_short lines fault Done text e = absurd e
behind_short lines fault Usage text e = absurd e
behind_short lines fault (BadGeometry bad) text e = absurd e
behind_short lines fault NotBuilt text e = absurd e
behind_short lines fault BadScript text e = absurd e
behind_short lines fault TooSmall text e = absurd e
behind_short lines fault NoTree text e = absurd e
behind_short lines fault DeviceFault text e = inl refl
behind_short lines fault OutOfMemory text e = inr refl
behind_short lines fault SourceFault text e = absurd e
behind_short lines fault Damaged text e = absurd e
behind_short lines fault Illegal text e = absurd e

printed_status : (lines : List ℕ) (ending : Ending) (text : List ℕ) → EndsPrinting lines ending text → (status_of ending ≡ 0) ⊎ (status_of ending ≡ 5)
printed_status lines Done text e = inl refl
printed_status lines Usage text e = absurd e
printed_status lines (BadGeometry bad) text e = absurd e
printed_status lines NotBuilt text e = absurd e
printed_status lines BadScript text e = absurd e
printed_status lines TooSmall text e = absurd e
printed_status lines NoTree text e = absurd e
printed_status lines DeviceFault text e = absurd e
printed_status lines OutOfMemory text e = inr refl
printed_status lines SourceFault text e = absurd e
printed_status lines Damaged text e = absurd e
printed_status lines Illegal text e = absurd e

-- a session is whole, or its status is short
by_end : (result : Result (Unit {0}) PlayFault) (lines : List ℕ) (ending : Ending) (text : List ℕ) → EndsPlayed result lines ending text → ((result ≡ Ok tt) × (status_of ending ≡ 0)) ⊎ IsShort (status_of ending)
by_end (Ok x) lines ending text e = elim (printed_status lines ending text e) [ inl zero ↦ inl (refl, zero) | inr five ↦ inr (inr (inr five)) ]
by_end (Err (ended.Image fault)) lines ending text e = inr (subst (λ (x : Ending). IsShort (status_of x)) (sym e.0) (unbegun_short fault))
by_end (Err (ended.Device fault)) lines ending text e = inr (inr (behind_short lines fault ending text e))
by_end (Err (ended.Stopped fault)) lines ending text e = inr (inr (behind_short lines fault ending text e))
by_end (Err (ended.Lack _)) lines ending text e = inr (inr (inr (ap status_of e.0)))

-- where no session began, only a fault of the disk raises its count
unbegun_calm : (before now : ℕ) (fault : StartFault) → HasStartCause before now fault → (status_of (start_ending fault) ≡ 4 → ⊥) → now ≡ before
unbegun_calm before now (start.Image recover.NoSuperblock) cause other = cause
unbegun_calm before now (start.Image (recover.BadVersion found)) cause other = cause
unbegun_calm before now (start.Image (recover.BadGeometry number)) cause other = cause
unbegun_calm before now (start.Image (recover.BadRecord sector)) cause other = cause
unbegun_calm before now (start.Image (recover.BadTree inode)) cause other = cause
unbegun_calm before now (start.Image (recover.Device fault)) cause other = absurd (other refl)
unbegun_calm before now (start.Image (recover.Lack _)) cause other = cause
unbegun_calm before now (start.Unreached inode) cause other = cause
unbegun_calm before now (start.Unnamed inode) cause other = cause
unbegun_calm before now (start.ExtraBlocks inode) cause other = cause

still_end : (before now : ℕ) (history : List Entry) (result : Result (Unit {0}) PlayFault) → IsEndFault before now history result → ((fault : StartFault) → result ≡ Err (ended.Image fault) → HasStartCause before now fault)
    → (lines : List ℕ) (ending : Ending) (text : List ℕ) → EndsPlayed result lines ending text → (status_of ending ≡ 4 → ⊥) → (status_of ending ≡ 5 → ⊥) → devices_in history ≡ [] → IsCountStill before now
still_end before now history (Ok x) closing cause lines ending text e four five silent = closing.quiet silent
still_end before now history (Err (ended.Image fault)) closing cause lines ending text e four five silent = inl (unbegun_calm before now fault (cause fault refl) (λ is. four (ap status_of e.0 ∙ is)))
still_end before now history (Err (ended.Device fault)) closing cause lines ending text e four five silent = absurd (elim (behind_short lines fault ending text e) [ inl is ↦ four is | inr is ↦ five is ])
still_end before now history (Err (ended.Stopped fault)) closing cause lines ending text e four five silent = absurd (elim (behind_short lines fault ending text e) [ inl is ↦ four is | inr is ↦ five is ])
still_end before now history (Err (ended.Lack _)) closing cause lines ending text e four five silent = absurd (five (ap status_of e.0))

-- ---- of an answer

module _ (result : Result (Unit {0}) PlayFault) (lines : List ℕ) (w : Writing) (status : ℕ) (a : IsAnswer (EndsPlayed result lines) w status) where
  statuses : (status ≡ 7 → ⊥) → ((result ≡ Ok tt) × (status ≡ 0)) ⊎ IsShort status
  statuses other = let x = a.whole other in subst (λ (n : ℕ). ((result ≡ Ok tt) × (n ≡ 0)) ⊎ IsShort n) (sym x.2) (by_end result lines x.0 x.1 x.3)

  -- status 0: the session is whole
  pub whole_end : status ≡ 0 → result ≡ Ok tt
  whole_end zero = of (statuses (λ seven. cc))
    where
      of : ((result ≡ Ok tt) × (status ≡ 0)) ⊎ IsShort status → result ≡ Ok tt
      of (inl whole) = whole.0
      of (inr (inl three)) = absurd (omega (arith, zero, three))
      of (inr (inr (inl four))) = absurd (omega (arith, zero, four))
      of (inr (inr (inr five))) = absurd (omega (arith, zero, five))

  -- there is a script
  pub never_unread : (status ≡ 2) ⊎ (status ≡ 6) → ⊥
  never_unread is = of is (statuses (λ seven. apart is seven))
    where
      apart : (status ≡ 2) ⊎ (status ≡ 6) → status ≡ 7 → ⊥
      apart (inl two) seven = omega (arith, two, seven)
      apart (inr six) seven = omega (arith, six, seven)

      of : (status ≡ 2) ⊎ (status ≡ 6) → ((result ≡ Ok tt) × (status ≡ 0)) ⊎ IsShort status → ⊥
      of (inl two) (inl whole) = omega (arith, two, whole.1)
      of (inl two) (inr (inl three)) = omega (arith, two, three)
      of (inl two) (inr (inr (inl four))) = omega (arith, two, four)
      of (inl two) (inr (inr (inr five))) = omega (arith, two, five)
      of (inr six) (inl whole) = omega (arith, six, whole.1)
      of (inr six) (inr (inl three)) = omega (arith, six, three)
      of (inr six) (inr (inr (inl four))) = omega (arith, six, four)
      of (inr six) (inr (inr (inr five))) = omega (arith, six, five)

  -- any status but 4, 5 and 7 leaves the disk's count, where no reply tells a fault
  pub left_still : (before now : ℕ) (history : List Entry) → IsEndFault before now history result → ((fault : StartFault) → result ≡ Err (ended.Image fault) → HasStartCause before now fault)
      → (status ≡ 4 → ⊥) → (status ≡ 7 → ⊥) → (status ≡ 5 → ⊥) → devices_in history ≡ [] → IsCountStill before now
  left_still before now history closing cause four seven five =
      let x = a.whole seven in
      still_end before now history result closing cause lines x.0 x.1 x.3 (λ is. four (x.2 ∙ is)) (λ is. five (x.2 ∙ is))

  -- a fact of a whole session
  pub on_whole : (P : Type 0) → OnOk result P → status ≡ 0 → P
  on_whole P is zero = subst (λ (r : Result (Unit {0}) PlayFault). OnOk r P) (whole_end zero) is
