-- How the numbers of a store go on from call to call.
use Rattle.std.proofs.Common.{◌≡◌, ◌≤◌, ◌+◌, ℕ, ap, arith}
use Rattle.ufs_journal.specs.declared.journal.Journal.{Journal}
use Rattle.ufs_layout.specs.declared.superblock.Super.{Super}
use Rattle.ufs_store.specs.Numbers.{HasRaised}
use Rattle.ufs_store.specs.State.{StoreState}

-- A call that leaves superblock and journal raises nothing.
pub raises_none : (e n : ℕ) (old new : StoreState) → new.superblock ≡ old.superblock → new.journal ≡ old.journal → HasRaised e n old new
raises_none e n old new superblock journal =
    let same : new.superblock.epoch ≡ old.superblock.epoch = ap (λ (s : Super). s.epoch) superblock in
    let number : new.journal.number ≡ old.journal.number = ap (λ (j : Journal). j.number) journal in
    record { epoch = omega (arith, same); epoch_most = omega (arith, same); number = omega (arith, number); number_most = omega (arith, number) }

-- So does one that leaves the store.
pub raises_still : (e n : ℕ) (old new : StoreState) → new ≡ old → HasRaised e n old new
raises_still e n old new same = raises_none e n old new (ap (λ (s : StoreState). s.superblock) same) (ap (λ (s : StoreState). s.journal) same)

pub raises_more : (e n f m : ℕ) (old new : StoreState) → e ≤ f → n ≤ m → HasRaised e n old new → HasRaised f m old new
raises_more e n f m old new epochs commits is =
    let a = is.epoch_most in
    let b = is.number_most in
    record { epoch = is.epoch; epoch_most = omega (arith, a, epochs); number = is.number; number_most = omega (arith, b, commits) }

-- one call after another
pub raises_then : (e n f m : ℕ) (old mid new : StoreState) → HasRaised e n old mid → HasRaised f m mid new → HasRaised (e + f) (n + m) old new
raises_then e n f m old mid new front back =
    let a = front.epoch in
    let b = back.epoch in
    let c = front.epoch_most in
    let d = back.epoch_most in
    let p = front.number in
    let q = back.number in
    let r = front.number_most in
    let s = back.number_most in
    record { epoch = omega (arith, a, b); epoch_most = omega (arith, c, d); number = omega (arith, p, q); number_most = omega (arith, r, s) }

-- a call behind it that raises nothing
pub raises_beside : (e n : ℕ) (old mid new : StoreState) → HasRaised e n old mid → new.superblock ≡ mid.superblock → new.journal ≡ mid.journal → HasRaised e n old new
raises_beside e n old mid new is superblock journal =
    let same : new.superblock.epoch ≡ mid.superblock.epoch = ap (λ (s : Super). s.epoch) superblock in
    let number : new.journal.number ≡ mid.journal.number = ap (λ (j : Journal). j.number) journal in
    let a = is.epoch in
    let b = is.epoch_most in
    let c = is.number in
    let d = is.number_most in
    record { epoch = omega (arith, a, same); epoch_most = omega (arith, b, same); number = omega (arith, c, number); number_most = omega (arith, d, number) }

-- and before it
pub raises_behind : (e n : ℕ) (old mid new : StoreState) → HasRaised 0 0 old mid → HasRaised e n mid new → HasRaised e n old new
raises_behind e n old mid new still is =
    let a = still.epoch in
    let b = still.epoch_most in
    let c = still.number in
    let d = still.number_most in
    let p = is.epoch in
    let q = is.epoch_most in
    let r = is.number in
    let s = is.number_most in
    record { epoch = omega (arith, a, p); epoch_most = omega (arith, b, q); number = omega (arith, c, r); number_most = omega (arith, d, s) }
