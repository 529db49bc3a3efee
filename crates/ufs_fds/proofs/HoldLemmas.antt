-- Whether a client holds a file by another descriptor.
use Rattle.std.proofs.Common.{◌≡◌, ◌≢◌, ℕ, ◌≤◌, ◌<◌, true, false, Option, Some, None, ap, sym, ◌∙◌, arith, refl, is_some}
use Rattle.std.proofs.lemmas.Bool.{false_from_ne_true}
use Rattle.std.specs.FinMap as map
use Rattle.ufs_model.specs.Asks.{file_in}
use Rattle.ufs_model.specs.PosixTree.{Fds, is_number, is_desc_of}
use Rattle.ufs_model.specs.Touched.{holds}
use Rattle.ufs_model.specs.declared.data.Desc.{Desc}
use Rattle.ufs_model.proofs.Facts.Orders.{fd_total, fd_same}
use Rattle.ufs_model.proofs.Facts.Lookups.{removed_else, left_was}
use Rattle.ufs_model.proofs.Facts.Held.{held, holder}
use Rattle.ufs_fds.specs.Descriptors.{Descs, AreOf, AreInRange}

-- no other descriptor below this one is of the file
abbrev pub NoneBelow : Descs → ℕ → ℕ → ℕ → Type 0
NoneBelow descs fd file end = (k : ℕ) → 3 ≤ k → k < end → k ≢ fd → is_number file (file_in (map.get descs k)) ≡ false

-- the file of a descriptor that is told
of_desc : (file : ℕ) (o : Option Desc) → is_number file (file_in o) ≡ true → (d : Desc) × (o ≡ Some d) × (is_desc_of file d ≡ true)
of_desc file None e = cc
of_desc file (Some d) e = (d, refl, e)

pub other_holds : (descs : Descs) (fds : Fds) (client fd other file : ℕ) → AreOf fds client descs → other ≢ fd → is_number file (file_in (map.get descs other)) ≡ true → holds (map.remove fds (client, fd)) client file ≡ true
other_holds descs fds client fd other file are apart e =
    let at = of_desc file (map.get descs other) e in
    held (map.remove fds (client, fd)) client file other at.0
    (removed_else fd_total fd_same fds (client, fd) (client, other) (λ is. apart (ap (λ (k : ℕ × ℕ). k.1) is)) ∙ are other ∙ at.1) at.2

pub none_holds : (descs : Descs) (fds : Fds) (client fd file : ℕ) → AreOf fds client descs → AreInRange descs → NoneBelow descs fd file 67 → holds (map.remove fds (client, fd)) client file ≡ false
none_holds descs fds client fd file are range none = false_from_ne_true _ (λ e.
    let at = holder (map.remove fds (client, fd)) client file e in
    let was = left_was fd_total fd_same fds (client, fd) (client, at.0) at.1 at.2 in
    let there : map.get descs at.0 ≡ Some at.1 = sym (are at.0) ∙ was.1 in
    let inside = range at.0 (ap is_some there) in
    let high : at.0 < 67 = omega (arith, inside.1) in
    let not = none at.0 inside.0 high (λ is. was.0 (ap (λ n. (client, n)) is)) in
    let is : is_number file (file_in (map.get descs at.0)) ≡ true = ap (λ o. is_number file (file_in o)) there ∙ at.3 in
    cc)
