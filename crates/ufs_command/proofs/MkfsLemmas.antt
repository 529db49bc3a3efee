-- How formatting ends.
use Rattle.std.proofs.Common.{◌≡◌, ◌⊎◌, inl, inr, ◌≤◌, ℕ, List, None, ap, sym, subst, refl, ◌∙◌, arith}
use Rattle.std.specs.Io.KnownBytes.{Appends}
use Rattle.ufs_base.specs.Faults.{raised}
use Rattle.ufs_layout.specs.Areas.{geometry_refusal, sector_count}
use Rattle.ufs_layout.specs.declared.geometry.Geometry.{Geometry}
use Rattle.ufs_base.specs.Faults.{RoseTo}
use Rattle.ufs_command.specs.declared.ending.Ending.{Ending}
use Rattle.ufs_command.specs.declared.ending.Ending.TheVariants.{Done, Usage, BadGeometry, NotBuilt, BadScript, TooSmall, NoTree, DeviceFault, OutOfMemory, SourceFault, Damaged, Illegal}
use Rattle.ufs_command.specs.Texts.{device_line, made_line}
use Rattle.ufs_command.specs.Seen.{Writing, Formatting}
use Rattle.ufs_command.specs.Endings.{EndsMkfs, IsAnswer, status_of}
use Rattle.ufs_command.specs.Told.{TellsMkfs}

-- the number that is told is the disk's count
pub device_told : (g : Geometry) (d : Formatting) (fault : ℕ) → geometry_refusal g ≡ None → sector_count g ≤ d.sectors → RoseTo d.before d.now fault → EndsMkfs g d DeviceFault (device_line fault)
device_told g d fault taken large rose = (taken, large, rose.rose, ap device_line rose.number)

module _ (g : Geometry) (d : Formatting) (taken : geometry_refusal g ≡ None) (large : sector_count g ≤ d.sectors) (calm : d.now ≡ raised d.before → ⊥) where
  -- formatting that may be done ends well, or for want of memory
  ends_well : (ending : Ending) (text : List ℕ) → EndsMkfs g d ending text → (status_of ending ≡ 0) ⊎ (status_of ending ≡ 5)
  ends_well Done text e = inl refl
  ends_well Usage text e = absurd e
  ends_well (BadGeometry bad) text e = let both = sym taken ∙ e.0 in cc
  ends_well NotBuilt text e = absurd e
  ends_well BadScript text e = absurd e
  ends_well TooSmall text e = let less = e.1 in absurd (omega (arith, less, large))
  ends_well NoTree text e = absurd e
  ends_well DeviceFault text e = absurd (calm e.2)
  ends_well OutOfMemory text e = inr refl
  ends_well SourceFault text e = absurd e
  ends_well Damaged text e = absurd e
  ends_well Illegal text e = absurd e

-- the line of the numbers is told
made_by : (g : Geometry) (d : Formatting) (ending : Ending) (text : List ℕ) → status_of ending ≡ 0 → EndsMkfs g d ending text → text ≡ made_line g
made_by g d Done text zero e = e.3
made_by g d Usage text zero e = absurd e
made_by g d (BadGeometry bad) text zero e = cc
made_by g d NotBuilt text zero e = absurd e
made_by g d BadScript text zero e = absurd e
made_by g d TooSmall text zero e = cc
made_by g d NoTree text zero e = absurd e
made_by g d DeviceFault text zero e = cc
made_by g d OutOfMemory text zero e = cc
made_by g d SourceFault text zero e = absurd e
made_by g d Damaged text zero e = absurd e
made_by g d Illegal text zero e = absurd e

pub mkfs_told : (g : Geometry) (d : Formatting) (w : Writing) (status : ℕ) → IsAnswer (EndsMkfs g d) w status → TellsMkfs g d w status
mkfs_told g d w status a = record {
  made = λ zero.
      let x = a.whole (λ e. cc) in
      subst (Appends w.held w.holds) (made_by g d x.0 x.1 (sym x.2 ∙ zero) x.3) x.4;
  complete = λ taken large calm.
      let x = a.whole (λ s. calm.sink (a.rose s)) in
      elim (ends_well g d taken large calm.disk x.0 x.1 x.3) [ inl zero ↦ inl (x.2 ∙ zero) | inr five ↦ inr (x.2 ∙ five) ];
}
