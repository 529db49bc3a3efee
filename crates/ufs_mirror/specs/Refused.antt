-- When two legs make no mirror.
use Rattle.std.specs.Prelude.{◌≡◌, ◌≢◌, ◌⊎◌, ◌<◌, ◌≤◌, ℕ}
use Rattle.ufs_base.specs.Faults.{RoseTo}
use Rattle.ufs_mirror.specs.declared.fault.MirrorFault.{MirrorFault}
use Rattle.ufs_mirror.specs.declared.fault.MirrorFault.TheVariants.{NoLabel, Unequal, TooSmall, Device}

-- the legs' numbers of sectors bear it out
abbrev pub IsSizeFault : ℕ → ℕ → MirrorFault → Type 0
IsSizeFault one other NoLabel = ⊥
IsSizeFault one other (Unequal first second) = (one ≢ other) × (first ≡ one) × (second ≡ other)
IsSizeFault one other TooSmall = (one ≡ other) × (one < 2)
IsSizeFault one other (Device fault) = ⊥

-- a leg's count of faults rose, once, and this is its new one
abbrev pub IsDeviceFault : ℕ → ℕ → ℕ → ℕ → MirrorFault → Type 0
IsDeviceFault one one_now other other_now NoLabel = ⊥
IsDeviceFault one one_now other other_now (Unequal first second) = ⊥
IsDeviceFault one one_now other other_now TooSmall = ⊥
IsDeviceFault one one_now other other_now (Device fault) = RoseTo one one_now fault ⊎ RoseTo other other_now fault

-- why two legs make no mirror
abbrev pub IsMakeFault : ℕ → ℕ → ℕ → ℕ → ℕ → ℕ → MirrorFault → Type 0
IsMakeFault one other one_faults one_now other_faults other_now NoLabel = ⊥
IsMakeFault one other one_faults one_now other_faults other_now (Unequal first second) = IsSizeFault one other (Unequal first second)
IsMakeFault one other one_faults one_now other_faults other_now TooSmall = IsSizeFault one other TooSmall
IsMakeFault one other one_faults one_now other_faults other_now (Device fault) = (one ≡ other) × IsDeviceFault one_faults one_now other_faults other_now (Device fault)

-- Why two legs don't open. That neither has a label is found out only where no call failed.
abbrev pub IsOpenFault : ℕ → ℕ → ℕ → ℕ → ℕ → ℕ → MirrorFault → Type 0
IsOpenFault one other one_faults one_now other_faults other_now NoLabel = (one ≡ other) × (2 ≤ one) × (one_now ≡ one_faults) × (other_now ≡ other_faults)
IsOpenFault one other one_faults one_now other_faults other_now (Unequal first second) = IsSizeFault one other (Unequal first second)
IsOpenFault one other one_faults one_now other_faults other_now TooSmall = IsSizeFault one other TooSmall
IsOpenFault one other one_faults one_now other_faults other_now (Device fault) = (one ≡ other) × IsDeviceFault one_faults one_now other_faults other_now (Device fault)
