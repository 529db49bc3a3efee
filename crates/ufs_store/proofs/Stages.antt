-- One of several ledgers.
use Rattle.std.proofs.Common.{◌⊎◌, inl, inr, ℕ, [], ◌∷◌, Bool}
use Rattle.ufs_disk.specs.Moments.{Moments, LeavesOnly}
use Rattle.ufs_disk.proofs.Runs.{weaker}
use Rattle.ufs_ledger.specs.Ledger.{Ledger, IsLeftBy}
use Rattle.ufs_store.specs.Ledgers.{AnyOf, IsLeftByAny}

pub any_two : (P : Ledger → Type 0) (l m : Ledger) → P l ⊎ P m → AnyOf P (l ∷ m ∷ [])
any_two P l m (inl here) = inl here
any_two P l m (inr there) = inr (inl there)

pub by_two : (sectors : ℕ) (keeps : Bool) (l m : Ledger) (old new : Moments) → LeavesOnly keeps (λ image. IsLeftBy sectors l image ⊎ IsLeftBy sectors m image) old new → LeavesOnly keeps (IsLeftByAny sectors (l ∷ m ∷ [])) old new
by_two sectors keeps l m old new run =
    weaker keeps (λ image. IsLeftBy sectors l image ⊎ IsLeftBy sectors m image) (IsLeftByAny sectors (l ∷ m ∷ [])) (λ image left. any_two (λ l. IsLeftBy sectors l image) l m left) old new run

pub by_one : (sectors : ℕ) (keeps : Bool) (l : Ledger) (old new : Moments) → LeavesOnly keeps (IsLeftBy sectors l) old new → LeavesOnly keeps (IsLeftByAny sectors (l ∷ [])) old new
by_one sectors keeps l old new run = weaker keeps (IsLeftBy sectors l) (IsLeftByAny sectors (l ∷ [])) (λ image left. inl left) old new run
