-- Why the text of a path is refused: the first fault, in the order in which a path is looked at.
use Rattle.std.specs.Prelude.{ℕ, List, [], ◌∷◌, ◌==◌, ◌&&◌, not, nat_lt, length, Option, Some, None}
use Rattle.std.specs.List.{list_all}
use Rattle.ufs_base.specs.Choices.{first_of, refused_if}
use Rattle.ufs_model.specs.Paths.{components, has_component, ends_in_slash, in_range, is_dots}
use Rattle.ufs_model.specs.declared.data.Errno.{Errno}
use Rattle.ufs_model.specs.declared.data.Errno.TheVariants.{Enoent, Einval, Enametoolong}
use Rattle.ufs_path.specs.declared.fault.PathFault.{PathFault}
use Rattle.ufs_path.specs.declared.fault.PathFault.TheVariants.{Empty, NotAbsolute, TooLong, BadComponent, NameTooLong, TrailingSlash, Memory}

abbrev pub name_fault : List ℕ → Option PathFault
name_fault name =
    first_of (refused_if (not (list_all in_range name)) BadComponent)
    (first_of (refused_if (is_dots name) BadComponent) (refused_if (nat_lt 58 (length name)) NameTooLong))

-- of the first component from the left that has one
abbrev pub names_fault : List (List ℕ) → Option PathFault
names_fault [] = None
names_fault (name ∷ names) = first_of (name_fault name) (names_fault names)

abbrev pub first_fault : List ℕ → Option PathFault
first_fault [] = Some Empty
first_fault (b ∷ bs) =
    first_of (refused_if (not (b == 47)) NotAbsolute)
    (first_of (refused_if (nat_lt 1023 (length (b ∷ bs))) TooLong)
    (first_of (names_fault (components (b ∷ bs)))
    (refused_if (has_component (components (b ∷ bs)) && ends_in_slash bs) TrailingSlash)))

-- what a client is told of a fault; want of memory is none of the text
abbrev pub errno_of : PathFault → Option Errno
errno_of Empty = Some Enoent
errno_of NotAbsolute = Some Einval
errno_of TooLong = Some Enametoolong
errno_of BadComponent = Some Einval
errno_of NameTooLong = Some Enametoolong
errno_of TrailingSlash = Some Einval
errno_of (Memory _) = None
