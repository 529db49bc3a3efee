-- What a pool has behind turns that give it blocks.
use Rattle.std.proofs.Common.{◌≡◌, ℕ, ◌+◌, ◌≤◌, ◌<◌, Option, Some, None, is_some, sym, ap, ◌∙◌, subst, arith}
use Rattle.std.specs.Prelude.{IfNone, IfSome}
use Rattle.std.specs.FinSet as set
use Rattle.ufs_bitmap.specs.Blocks.{BlockSet}
use Rattle.ufs_joint.specs.Cells.{View}
use Rattle.ufs_store.specs.declared.fault.StoreFault.{StoreFault}
use Rattle.ufs_store.specs.declared.fault.StoreFault.TheVariants as refusal
use Rattle.ufs_turns.specs.Lent.{AreTold, GainsBlocks, IsBesidePools, LacksBlocks, LendsPool, free_in}
use Rattle.ufs_joint.specs.FirstHand.{HasPoolAlone}
use Rattle.ufs_serving.specs.Pools.{HasAllFree, IsWithin}
use Rattle.ufs_serving.proofs.Counting.{all_came, len_gained, stays}

pub lends : (n : ℕ) (pool : BlockSet) (v : View) → HasPoolAlone n pool v → LendsPool n pool v
lends n pool v mine = record { pools = mine.pools; away = mine.store }

pub alone_then : (n : ℕ) (pool left : BlockSet) (v w : View) → HasPoolAlone n pool v → LendsPool n left w → IsBesidePools v w → HasPoolAlone n left w
alone_then n pool left v w mine lent beside = record {
  clients = beside.clients ∙ mine.clients;
  asked = beside.asked ∙ mine.asked;
  files = beside.files ∙ mine.files;
  pools = lent.pools;
  names = beside.names ∙ mine.names;
  store = lent.away;
}

pub enough : (missing : ℕ) (had left old new : BlockSet) → GainsBlocks missing had left old new → set.len old + missing ≤ set.len new
enough missing had left old new gains =
    let sum = len_gained (missing + 64) had left old new gains.moved gains.apart in
    let there = gains.enough in
    omega (arith, sum, there)

pub few_more : (missing : ℕ) (had left old new : BlockSet) → GainsBlocks missing had left old new → set.len new ≤ set.len old + missing + 64
few_more missing had left old new gains = let sum = len_gained (missing + 64) had left old new gains.moved gains.apart in omega (arith, sum)

pub keeps : (missing : ℕ) (had left old new : BlockSet) → GainsBlocks missing had left old new → IsWithin old new
keeps missing had left old new gains = stays (missing + 64) had left old new gains.moved

pub takes_all : (missing : ℕ) (had left old new : BlockSet) → GainsBlocks missing had left old new → set.len had ≤ missing → IsWithin had new
takes_all missing had left old new gains few = all_came (missing + 64) had left old new gains.moved (omega (arith, few))

-- so it is where the blocks are told
pub told_all : (o w : Option View) (missing : ℕ) (old new : BlockSet) → AreTold o w (λ had left. GainsBlocks missing had left old new) → AreTold o w (λ had left. set.len had ≤ missing → IsWithin had new)
told_all None w missing old new a = tt
told_all (Some v) None missing old new a = tt
told_all (Some v) (Some u) missing old new a = takes_all missing (free_in v.store) (free_in u.store) old new a

-- how many there were, of a refusal that says so
abbrev pub had_of : StoreFault → ℕ
had_of (refusal.NoSpace need had) = had
had_of _ = 0

pub told_fewer : (o w : Option View) (missing had : ℕ) (fault : StoreFault) → had_of fault ≡ had → AreTold o w (λ free left. LacksBlocks missing (set.len free) fault × (left ≡ free)) → AreTold o w (λ free left. (set.len free ≡ had) × (had < missing) × (left ≡ free))
told_fewer None w missing had fault is a = tt
told_fewer (Some v) None missing had fault is a = tt
told_fewer (Some v) (Some u) missing had fault is a =
    let e : set.len (free_in v.store) ≡ had = sym (ap had_of a.0.told) ∙ is in
    let l = a.0.fewer in
    (e, omega (arith, e, l), a.1)

-- Where fewer are unassigned than are wanted, they all come.
pub all_free : (o m w : Option View) (free : ℕ) (pool : BlockSet) (r : Option ℕ) → is_some m ≡ is_some o → is_some w ≡ is_some m
    → (missing : ℕ) → AreTold o m (λ had left. (set.len had ≡ free) × (free < missing) × (left ≡ had))
    → IfNone r (AreTold m w (λ had left. set.len had ≤ free → IsWithin had pool))
    → IfSome r (λ less. AreTold m w (λ had left. (set.len had ≡ less) × (less < free) × (left ≡ had)))
    → HasAllFree o pool
all_free None m w free pool r a b missing first none some = tt
all_free (Some v) None w free pool r a b missing first none some = absurd cc
all_free (Some v) (Some u) None free pool r a b missing first none some = absurd cc
all_free (Some v) (Some u) (Some x) free pool None a b missing first none some =
    let e : free_in u.store ≡ free_in v.store = first.2 in
    let n = first.0 in
    let l = ap (λ (s : BlockSet). set.len s) e in
    subst (λ (s : BlockSet). IsWithin s pool) e (none (omega (arith, n, l)))
all_free (Some v) (Some u) (Some x) free pool (Some less) a b missing first none some =
    let e : free_in u.store ≡ free_in v.store = first.2 in
    let n = first.0 in
    let l = ap (λ (s : BlockSet). set.len s) e in
    let one = some.0 in
    let two = some.1 in
    absurd (omega (arith, n, l, one, two))
