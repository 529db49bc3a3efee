-- The status of a command that goes by what an image stands for: done, refused, a fault of the disk, or want of memory.
use Rattle.std.proofs.Common.{◌≡◌, ◌⊎◌, inl, inr, ℕ, List, arith}
use Rattle.std.specs.Io.KnownBytes.{Appends}
use Rattle.ufs_base.specs.Faults.{raised}
use Rattle.ufs_command.specs.declared.ending.Ending.{Ending}
use Rattle.ufs_command.specs.Seen.{Writing, Formatting}
use Rattle.ufs_command.specs.Endings.{IsAnswer, status_of, sink_status}
use Rattle.ufs_command.specs.Told.{AreCalm}

-- each status with what it says of the text
pub data ByStatus (Good None : List ℕ → Type 0) (d : Formatting) (status : ℕ) (text : List ℕ) : Type 0 where
  good : status ≡ 0 → Good text → ByStatus Good None d status text
  none : status ≡ 3 → None text → ByStatus Good None d status text
  device : status ≡ 4 → d.now ≡ raised d.before → ByStatus Good None d status text
  memory : status ≡ 5 → ByStatus Good None d status text

module _ (Good None : List ℕ → Type 0) (d : Formatting) (status : ℕ) (text : List ℕ) where
  good_by : status ≡ 0 → ByStatus Good None d status text → Good text
  good_by zero (good is g) = g
  good_by zero (none is n) = absurd (omega (arith, zero, is))
  good_by zero (device is e) = absurd (omega (arith, zero, is))
  good_by zero (memory is) = absurd (omega (arith, zero, is))

  none_by : status ≡ 3 → ByStatus Good None d status text → None text
  none_by three (good is g) = absurd (omega (arith, three, is))
  none_by three (none is n) = n
  none_by three (device is e) = absurd (omega (arith, three, is))
  none_by three (memory is) = absurd (omega (arith, three, is))

  module _ (calm : d.now ≡ raised d.before → ⊥) where
    good_whole : (None text → ⊥) → ByStatus Good None d status text → (status ≡ 0) ⊎ (status ≡ 5)
    good_whole other (good is g) = inl is
    good_whole other (none is n) = absurd (other n)
    good_whole other (device is e) = absurd (calm e)
    good_whole other (memory is) = inr is

    none_whole : (Good text → ⊥) → ByStatus Good None d status text → (status ≡ 3) ⊎ (status ≡ 5)
    none_whole other (good is g) = absurd (other g)
    none_whole other (none is n) = inl is
    none_whole other (device is e) = absurd (calm e)
    none_whole other (memory is) = inr is

-- ---- of an answer

module _ (E : Ending → List ℕ → Type 0) (Good None : List ℕ → Type 0) (d : Formatting) (w : Writing) (status : ℕ)
    (by : (ending : Ending) (text : List ℕ) → status ≡ status_of ending → E ending text → ByStatus Good None d status text)
    (a : IsAnswer E w status) where
  told : (status ≡ sink_status → ⊥) → (text : List ℕ) × ByStatus Good None d status text × Appends w.held w.holds text
  told other = let x = a.whole other in (x.1, by x.0 x.1 x.2 x.3, x.4)

  pub good_told : status ≡ 0 → (text : List ℕ) × Good text × Appends w.held w.holds text
  good_told zero = let x = told (λ e. cc) in (x.0, good_by Good None d status x.0 zero x.1, x.2)

  pub none_told : status ≡ 3 → (text : List ℕ) × None text × Appends w.held w.holds text
  none_told three = let x = told (λ e. cc) in (x.0, none_by Good None d status x.0 three x.1, x.2)

  pub good_end : AreCalm d w → ((text : List ℕ) → None text → ⊥) → (status ≡ 0) ⊎ (status ≡ 5)
  good_end calm other = let x = told (λ s. calm.sink (a.rose s)) in good_whole Good None d status x.0 calm.disk (other x.0) x.1

  pub none_end : AreCalm d w → ((text : List ℕ) → Good text → ⊥) → (status ≡ 3) ⊎ (status ≡ 5)
  none_end calm other = let x = told (λ s. calm.sink (a.rose s)) in none_whole Good None d status x.0 calm.disk (other x.0) x.1
