-- Where the blocks of directories end.
use Rattle.std.specs.Prelude.{ℕ, ◌+◌, ◌-◌, ◌^◌, ◌==◌, min, max, List, Option, Some, None, if◌then◌else◌}
use Rattle.std.specs.List.{fold}
use Rattle.ufs_metadata.specs.declared.fault.RecoverFault.{RecoverFault}
use Rattle.ufs_metadata.specs.declared.fault.RecoverFault.TheVariants as fault
use Rattle.ufs_layout.specs.InodeForm.{InodeForm}
use Rattle.ufs_layout.specs.declared.inode.Extent.{Extent}

-- the block behind an extent, as far as 32 bits go
abbrev pub end_of_extent : Extent → ℕ
end_of_extent e = min (e.start + e.length) (2 ^ 32 - 1)

-- the highest of them; 0 where there is none
abbrev pub end_of_extents : List Extent → ℕ
end_of_extents extents = fold (λ end (e : Extent). max end (end_of_extent e)) 0 extents

-- of a directory; 0 of a file
abbrev pub end_of_form : Option InodeForm → ℕ
end_of_form None = 0
end_of_form (Some form) = if form.kind == 2 then end_of_extents form.extents else 0

abbrev pub end_of_forms : List (Option InodeForm) → ℕ
end_of_forms forms = fold (λ end (form : Option InodeForm). max end (end_of_form form)) 0 forms

-- The fault names a cause that the image has.
abbrev pub IsOfImage : RecoverFault → Type 0
IsOfImage (fault.Device number) = ⊥
IsOfImage (fault.Lack _) = ⊥
IsOfImage _ = Unit {0}
