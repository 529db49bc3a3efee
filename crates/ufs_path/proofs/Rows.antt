-- Rows that are worked by computation.
use Rattle.std.proofs.Common.{◌≡◌, ℕ, List, [], ◌∷◌, ◌++◌, replicate, Some, None, refl, codes}
use Rattle.ufs_model.specs.Paths.{components, whole_path}
use Rattle.ufs_path.specs.declared.fault.PathFault.TheVariants.{Empty, NotAbsolute, BadComponent, NameTooLong, TrailingSlash}
use Rattle.ufs_path.specs.Faults.{first_fault}

-- so many times `a`
letters : ℕ → List ℕ
letters n = replicate n 97

no_byte : first_fault [] ≡ Some Empty
no_byte = refl

no_slash : first_fault (codes "a/..") ≡ Some NotAbsolute
no_slash = refl

fifty_eight : first_fault (47 ∷ letters 58) ≡ None
unfolding letters
fifty_eight = refl

fifty_nine : first_fault (47 ∷ letters 59) ≡ Some NameTooLong
unfolding letters
fifty_nine = refl

-- the left component's fault comes first
left_first : first_fault ((47 ∷ letters 59) ++ codes "/..") ≡ Some NameTooLong
unfolding letters
left_first = refl

dots : first_fault (codes "/a/../") ≡ Some BadComponent
dots = refl

a_slash_at_the_end : first_fault (codes "/a/") ≡ Some TrailingSlash
a_slash_at_the_end = refl

slashes_alone : first_fault (codes "//") ≡ None
slashes_alone = refl

several_slashes : components (codes "//a///b") ≡ codes "a" ∷ codes "b" ∷ []
several_slashes = refl

joined_again : whole_path (components (codes "//a///b")) ≡ codes "/a/b"
joined_again = refl
