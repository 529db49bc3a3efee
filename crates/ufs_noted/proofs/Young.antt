-- The file that a request made has no byte.
use Rattle.std.proofs.Common.{◌≡◌, ℕ, Bool, true, false, Option, Some, None, refl, sym, ◌∙◌}
use Rattle.std.specs.Prelude.{IfSome}
use Rattle.ufs_file.specs.Hand.{FileState}
use Rattle.ufs_model.specs.History.{is_excused}
use Rattle.ufs_model.specs.declared.data.Reply.{Reply}
use Rattle.ufs_names.specs.Calls.{no_bytes}
use Rattle.ufs_noted.proofs.Maps.{none_some}

all_some : (next : ℕ) (o : Option FileState) → ((s : FileState) → o ≡ Some s → s ≡ no_bytes next s.inode) → IfSome o (λ s. s ≡ no_bytes next s.inode)
all_some next None each = tt
all_some next (Some s) each = each s refl

pub young_if : (next : ℕ) (r : Reply) (o : Option FileState) → (is_excused r ≡ true → o ≡ None) → (is_excused r ≡ false → (s : FileState) → o ≡ Some s → s ≡ no_bytes next s.inode) → IfSome o (λ s. s ≡ no_bytes next s.inode)
young_if next r o none each = by_reply (is_excused r) refl
  where
    by_reply : (b : Bool) → is_excused r ≡ b → IfSome o (λ s. s ≡ no_bytes next s.inode)
    by_reply true e = all_some next o (λ s is. absurd (none_some o s (none e) is))
    by_reply false e = all_some next o (each e)
