-- The run of calls by which a transaction is committed: a barrier, a write, a barrier.
use Rattle.std.proofs.Common.{◌≡◌, ◌⊎◌, inl, inr, ⊎_elim, ℕ, Bool, List, length, refl, ap, sym, ◌∙◌}
use Rattle.ufs_base.specs.Images.{Image}
use Rattle.ufs_disk.specs.Disk.{IsImage, IsSettled, IsPartlyWritten, put}
use Rattle.ufs_disk.specs.Moments.{Moments, LeavesOnly, reads}
use Rattle.ufs_disk.proofs.Runs.{weaker, goes_on, goes_on_quietly}
use Rattle.ufs_layout.specs.JournalSector.{JournalSector, journal_bytes}
use Rattle.ufs_journal.specs.Written.{HasSector, IsOldOrPut}
use Rattle.ufs_journal.proofs.AppendRun.{sector_put}

module _ (keeps : Bool) (at sector : ℕ) (same : at ≡ sector) (j : JournalSector) (bytes : List ℕ) (sized : length bytes ≡ 512) (spells : bytes ≡ journal_bytes j) (old mid : Moments) (barrier : LeavesOnly keeps (IsImage old.state) old mid) where
  abbrev Either : Image → Type 0
  Either = IsOldOrPut sector j old.state

  pub waited : LeavesOnly keeps Either old mid
  waited = weaker keeps (IsImage old.state) Either (λ image left. inl left) old mid barrier

  module _ (settled : IsSettled mid.state) (content : reads mid ≡ reads old) (new : Moments) (write : LeavesOnly keeps (IsPartlyWritten at bytes mid.state) mid new) where
    pub committed : LeavesOnly keeps Either old new
    committed = goes_on keeps Either (HasSector sector j mid.state) old mid new waited (sector_put keeps at sector same j bytes sized spells mid new write)
        (λ image from. ⊎_elim
        (λ is. inl (λ s. Rattle.std.proofs.Common.subst (λ (d : Image). IsImage old.state d) (sym is) (barrier.after from.before from.left) s))
        (λ is. inr (is ∙ ap (put sector (journal_bytes j)) (settled from.before from.left ∙ content)))
        from.is)

    pub waited_again : (last : Moments) → LeavesOnly keeps (IsImage new.state) new last → LeavesOnly keeps Either old last
    waited_again last again = goes_on_quietly keeps Either old new last committed again
