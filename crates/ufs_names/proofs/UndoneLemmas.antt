-- What was put into a map is taken out again.
use Rattle.std.proofs.Common.{◌≡◌, ℕ, Bool, true, false, None, Result, Ok, Err, OnOk, OnErr, ap, ◌∙◌}
use Rattle.std.specs.Prelude.{is_err}
use Rattle.std.specs.Cmp.{nat_cmp_total}
use Rattle.std.specs.FinMap as map
use Rattle.std.specs.FinMap.{nat_cmp-IsAntisymmetric}
use Rattle.std.specs.Ordering.{nat_cmp}
use Rattle.ufs_calls.proofs.Facts.Inserts.{remove_inserted}
use Rattle.ufs_name_tree.specs.NameTable.{NameTable}
use Rattle.ufs_names.specs.NamesPart.{NamesPart, Holdings}

pub same_part : (t t' : NameTable) (h h' : Holdings) (next : ℕ) → t ≡ t' → h ≡ h' → ◌≡◌ {A = NamesPart} (record { tree = t; held = h; next = next }) (record { tree = t'; held = h'; next = next })
same_part t t' h h' next p q i = record { tree = p i; held = q i; next = next }

pub undone : {X : Type 0} (old added now : map.FinMap nat_cmp X) (k : ℕ) (v : X) → map.get old k ≡ None → added ≡ map.insert old k v → now ≡ map.remove added k → now ≡ old
undone old added now k v none add remove =
    remove ∙ ap (λ m. map.remove m k) add ∙ remove_inserted nat_cmp_total nat_cmp-IsAntisymmetric old k v none

-- what holds of an error, where there is one
pub on_is_err : {T E P : Type 0} (r : Result T E) → (b : Bool) → b ≡ is_err r → b ≡ true → OnErr r P → P
on_is_err (Ok x) b is true_of p = cc
on_is_err (Err e) b is true_of p = p

-- and where there is none
pub not_err : {T E P : Type 0} (r : Result T E) → (b : Bool) → b ≡ is_err r → b ≡ false → OnOk r P → P
not_err (Ok x) b is false_of p = p
not_err (Err e) b is false_of p = cc
