-- One place more of a file whose dirty blocks are written.
use Rattle.std.proofs.Common.{◌≡◌, ℕ, ◌+◌, ◌<◌, List, [], ◌∷◌, ◌++◌, Bool, ap, sym, refl, ◌∙◌, subst, length}
use Rattle.ufs_base.specs.Images.{Image}
use Rattle.ufs_disk.specs.Moments.{LeavesOnly, Moments}
use Rattle.ufs_disk.proofs.Runs.{joined}
use Rattle.ufs_file.specs.Hand.{FileState}
use Rattle.ufs_ledger.specs.Ledger.{IsLeftBy, Ledger}
use Rattle.ufs_store.specs.Ledgers.{HasLedger}
use Rattle.ufs_store.specs.State.{StoreState}
use Rattle.ufs_file_commits.specs.Writes.{BlockWrite, HasTriedOne, MayWriteAll, with_writes, write_at, writes_before, writes_of}
use Rattle.ufs_file_commits.proofs.Behind.{left_within, may_within, run_within, tried_within, writes_append}
use Rattle.ufs_file_commits.proofs.Places.{before_next, writes_behind, writes_split}

pub both_none : (xs ys : List BlockWrite) → xs ++ ys ≡ [] → (xs ≡ []) × (ys ≡ [])
both_none [] ys e = (refl, e)
both_none (x ∷ xs) ys e = let no = e in absurd cc

module _ (f : FileState) (k : ℕ) (less : k < length f.content.dirty) where
  split : writes_of f ≡ writes_before f k ++ (write_at f k ++ writes_behind f k (length f.content.dirty))
  split = writes_split f k (length f.content.dirty) less

  pub none_here : writes_of f ≡ [] → (writes_before f k ≡ []) × (write_at f k ≡ [])
  none_here e =
      let front = both_none (writes_before f k) (write_at f k ++ writes_behind f k (length f.content.dirty)) (sym split ∙ e) in
      (front.0, (both_none (write_at f k) (writes_behind f k (length f.content.dirty)) front.1).0)

  module _ (l : Ledger) where
    pub may_here : MayWriteAll l (writes_of f) → MayWriteAll (with_writes (writes_before f k) l) (write_at f k)
    may_here may = may_within l (writes_before f k) (write_at f k) (writes_behind f k (length f.content.dirty)) (subst (MayWriteAll l) split may)

    pub left_here : (sectors : ℕ) (image : Image) → IsLeftBy sectors (with_writes (write_at f k) (with_writes (writes_before f k) l)) image → IsLeftBy sectors (with_writes (writes_of f) l) image
    left_here sectors image left = left_within sectors (writes_of f) (writes_before f k) (write_at f k) (writes_behind f k (length f.content.dirty)) l image split left

    pub run_here : (keeps : Bool) (s0 s1 : StoreState) (m2 : Moments) → s1.sectors ≡ s0.sectors → LeavesOnly keeps (IsLeftBy s0.sectors (with_writes (writes_of f) l)) s0.moments s1.moments
        → LeavesOnly keeps (IsLeftBy s1.sectors (with_writes (write_at f k) (with_writes (writes_before f k) l))) s1.moments m2 → LeavesOnly keeps (IsLeftBy s0.sectors (with_writes (writes_of f) l)) s0.moments m2
    run_here keeps s0 s1 m2 same so_far run =
        joined keeps (IsLeftBy s0.sectors (with_writes (writes_of f) l)) s0.moments s1.moments m2 so_far
        (run_within s0.sectors keeps (writes_of f) (writes_before f k) (write_at f k) (writes_behind f k (length f.content.dirty)) l s1.moments m2 split
        (subst (λ n. LeavesOnly keeps (IsLeftBy n (with_writes (write_at f k) (with_writes (writes_before f k) l))) s1.moments m2) same run))

    pub tried_here : (s : StoreState) → HasTriedOne s (write_at f k) (with_writes (writes_before f k) l) → HasTriedOne s (writes_of f) l
    tried_here s one = tried_within s (writes_of f) (writes_before f k) (write_at f k) (writes_behind f k (length f.content.dirty)) l split one

    pub next_here : (s : StoreState) → HasLedger s (with_writes (write_at f k) (with_writes (writes_before f k) l)) → HasLedger s (with_writes (writes_before f (k + 1)) l)
    next_here s has = subst (HasLedger s) (sym (ap (λ ws. with_writes ws l) (before_next f k) ∙ writes_append (writes_before f k) (write_at f k) l)) has
