use Rattle.std.proofs.Common.{◌≡◌, ℕ, false, true, nat_eq}
use Rattle.std.specs.List.{list_any}
use Rattle.ufs_owner.specs.Owners.{is_primary, owner_at}
use Rattle.ufs_owner.proofs.records.Records.some_out.Given as goal

-- each file that is away is among those that are left
abbrev pub invariant-loop-file : goal.invariant-loop-file
invariant-loop-file l = (q : ℕ) → is_primary (owner_at l.self.files q) ≡ false → list_any (nat_eq q) l.file-iterator ≡ true
