-- A client's table of descriptors follows what the tree has of the client.
use Rattle.std.proofs.Common.{◌≡◌, ◌≢◌, ℕ, ◌⊎◌, inl, inr, Option, Some, None, is_some, true, refl, ap, sym, ◌∙◌}
use Rattle.std.specs.Cmp.{nat_cmp_total}
use Rattle.std.specs.FinMap as map
use Rattle.std.specs.FinMap.{nat_cmp-IsAntisymmetric}
use Rattle.ufs_model.specs.Asks.{IsDescAfter, desc_of_fd}
use Rattle.ufs_model.specs.PosixTree.{Fds}
use Rattle.ufs_model.specs.declared.data.Desc.{Desc}
use Rattle.ufs_model.proofs.Facts.Lookups.{same_some, one_or_apart, inserted_here, inserted_else, removed_here, removed_else}
use Rattle.ufs_fds.specs.Descriptors.{Descs, AreOf}

module _ (old new : Fds) (client : ℕ) (table : Descs) (told : Option ℕ) (d : Option Desc) (are : AreOf old client table) (after : IsDescAfter old new client told d) where
  -- any other descriptor is as it was
  other : (fd : ℕ) → told ≢ Some fd → map.get new (client, fd) ≡ map.get table fd
  other fd not = after.others client fd (inr not) ∙ are fd

  module _ (k : ℕ) (is : told ≡ Some k) where
    this : map.get new (client, k) ≡ d
    this = sym (after.this ∙ ap (desc_of_fd new client) is)

    apart : (fd : ℕ) → (fd ≡ k → ⊥) → told ≢ Some fd
    apart fd not e = not (sym (same_some k fd (sym is ∙ e)))

    pub kept : (desc : Desc) → d ≡ Some desc → AreOf new client (map.insert table k desc)
    kept desc e fd = by (one_or_apart nat_cmp_total nat_cmp-IsAntisymmetric fd k)
      where
        by : (fd ≡ k) ⊎ (fd ≡ k → ⊥) → map.get new (client, fd) ≡ map.get (map.insert table k desc) fd
        by (inl same) = ap (λ (n : ℕ). map.get new (client, n)) same ∙ this ∙ e ∙ sym (ap (map.get (map.insert table k desc)) same ∙ inserted_here nat_cmp_total nat_cmp-IsAntisymmetric table k desc)
        by (inr not) = other fd (apart fd not) ∙ sym (inserted_else nat_cmp_total nat_cmp-IsAntisymmetric table k desc fd not)

    pub closed : d ≡ None → AreOf new client (map.remove table k)
    closed e fd = by (one_or_apart nat_cmp_total nat_cmp-IsAntisymmetric fd k)
      where
        by : (fd ≡ k) ⊎ (fd ≡ k → ⊥) → map.get new (client, fd) ≡ map.get (map.remove table k) fd
        by (inl same) = ap (λ (n : ℕ). map.get new (client, n)) same ∙ this ∙ e ∙ sym (ap (map.get (map.remove table k)) same ∙ removed_here nat_cmp_total nat_cmp-IsAntisymmetric table k)
        by (inr not) = other fd (apart fd not) ∙ sym (removed_else nat_cmp_total nat_cmp-IsAntisymmetric table k fd not)

    pub none : map.get new (client, k) ≡ None → map.get table k ≡ None → AreOf new client table
    none e f fd = by (one_or_apart nat_cmp_total nat_cmp-IsAntisymmetric fd k)
      where
        by : (fd ≡ k) ⊎ (fd ≡ k → ⊥) → map.get new (client, fd) ≡ map.get table fd
        by (inl same) = ap (λ (n : ℕ). map.get new (client, n)) same ∙ e ∙ sym (ap (map.get table) same ∙ f)
        by (inr not) = other fd (apart fd not)

    pub absent : d ≡ None → map.get table k ≡ None → AreOf new client table
    absent e = none (this ∙ e)

  pub untold : told ≡ None → AreOf new client table
  untold e fd = other fd (λ is. let no : None ≡ Some fd = sym e ∙ is in cc)

-- what isn't there isn't
pub not_some : {X : Type 0} (o : Option X) → (is_some o ≡ true → ⊥) → o ≡ None
not_some None not = refl
not_some (Some x) not = absurd (not refl)
