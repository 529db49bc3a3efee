-- Why two legs make no mirror, and which are live.
use Rattle.std.proofs.Common.{◌≡◌, ◌⊎◌, inl, inr, ℕ, refl, sym, ◌∙◌, ap, subst, arith}
use Rattle.ufs_base.specs.Faults.{RoseTo}
use Rattle.ufs_mirror.specs.Joined.{Goes, IsLegFault}
use Rattle.ufs_mirror.specs.Ready.{AreLive}
use Rattle.ufs_mirror.specs.Refused.{IsMakeFault, IsOpenFault, IsSizeFault}
use Rattle.ufs_mirror.specs.declared.fault.MirrorFault.{MirrorFault}
use Rattle.ufs_mirror.specs.declared.fault.MirrorFault.TheVariants.{NoLabel, Unequal, TooSmall, Device}
use Rattle.ufs_mirror.specs.declared.legs.Picks.{Picks}
use Rattle.ufs_mirror.specs.declared.legs.Picks.TheVariants.{Either, First, Second}
use Rattle.ufs_mirror.proofs.Lone.{first_not_either, second_not_either}

module _ (size other_size a a1 b b1 : ℕ) (same : size ≡ other_size) where
  pub first_refuses : (number : ℕ) (fault : MirrorFault) → IsLegFault number a a1 b b1 fault → IsOpenFault size other_size a a1 b b1 fault
  first_refuses number fault (inl is) = subst (IsOpenFault size other_size a a1 b b1) (sym is.1) (same, inl (record { rose = is.0; number = refl }))
  first_refuses number fault (inr is) = subst (IsOpenFault size other_size a a1 b b1) (sym is.3) (same, inr (record { rose = is.2; number = refl }))

  pub second_refuses : (number : ℕ) (fault : MirrorFault) → IsLegFault number b b1 a a1 fault → IsOpenFault size other_size a a1 b b1 fault
  second_refuses number fault (inl is) = subst (IsOpenFault size other_size a a1 b b1) (sym is.1) (same, inr (record { rose = is.0; number = refl }))
  second_refuses number fault (inr is) = subst (IsOpenFault size other_size a a1 b b1) (sym is.3) (same, inl (record { rose = is.2; number = refl }))

pub make_open : (size other_size a a1 b b1 : ℕ) (fault : MirrorFault) → IsMakeFault size other_size a a1 b b1 fault → IsOpenFault size other_size a a1 b b1 fault
make_open size other_size a a1 b b1 NoLabel is = absurd is
make_open size other_size a a1 b b1 (Unequal first second) is = is
make_open size other_size a a1 b b1 TooSmall is = is
make_open size other_size a a1 b b1 (Device fault) is = is

module _ (a a1 b b1 : ℕ) where
  pub first_lives : (picks : Picks) → (picks ≡ Second → ⊥) → Goes (picks ≡ Either) a a1 b b1 → AreLive picks a a1 b b1
  first_lives Either live goes = (goes.picked, goes.passed refl)
  first_lives First live goes = (goes.picked, goes.failed first_not_either)
  first_lives Second live goes = absurd (live refl)

  pub second_lives : (picks : Picks) → (picks ≡ First → ⊥) → Goes (picks ≡ Either) b b1 a a1 → AreLive picks a a1 b b1
  second_lives Either live goes = (goes.passed refl, goes.picked)
  second_lives First live goes = absurd (live refl)
  second_lives Second live goes = (goes.failed second_not_either, goes.picked)

abbrev kind : MirrorFault → ℕ
kind NoLabel = 0
kind (Unequal first second) = 1
kind TooSmall = 1
kind (Device fault) = 1

device_not_none : (number : ℕ) → Device number ≡ NoLabel → ⊥
device_not_none number is = let e : 1 ≡ 0 = ap kind is in omega (arith, e)

-- a leg's fault isn't the want of a label
pub is_labelled : (number a a1 b b1 : ℕ) (fault : MirrorFault) → IsLegFault number a a1 b b1 fault → fault ≡ NoLabel → ⊥
is_labelled number a a1 b b1 fault (inl it) is = device_not_none a1 (sym it.1 ∙ is)
is_labelled number a a1 b b1 fault (inr it) is = device_not_none b1 (sym it.3 ∙ is)

-- the sizes alone
pub size_make : (size other_size a b : ℕ) (fault : MirrorFault) → IsSizeFault size other_size fault → IsMakeFault size other_size a a b b fault
size_make size other_size a b NoLabel is = absurd is
size_make size other_size a b (Unequal first second) is = is
size_make size other_size a b TooSmall is = is
size_make size other_size a b (Device fault) is = absurd is

pub device_make : (size other_size a a1 b b1 number : ℕ) (fault : MirrorFault) → size ≡ other_size → fault ≡ Device number
    → RoseTo a a1 number ⊎ RoseTo b b1 number → IsMakeFault size other_size a a1 b b1 fault
device_make size other_size a a1 b b1 number fault same is rose = subst (IsMakeFault size other_size a a1 b b1) (sym is) (same, rose)
