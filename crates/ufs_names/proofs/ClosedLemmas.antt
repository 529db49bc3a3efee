-- Files that no client has open, noted inode by inode.
use Rattle.std.proofs.Common.{◌≡◌, ◌≢◌, ℕ, ◌+◌, ◌<◌, ◌≤◌, eqb, true, false, Option, Some, None, length, ap, sym, ◌∙◌, subst, arith, ⊎_elim}
use Rattle.std.proofs.lemmas.Bool.{cases_lt}
use Rattle.std.proofs.lemmas.Bool.Decides.{eqb_tells}
use Rattle.std.proofs.lemmas.List.{get_or_past}
use Rattle.std.specs.FinMap as map
use Rattle.std.specs.FinMap.{get-empty, nat_cmp-IsAntisymmetric}
use Rattle.std.specs.Cmp.{nat_cmp_total}
use Rattle.std.specs.Ordering.{nat_cmp}
use Rattle.ufs_model.proofs.Facts.Lookups.{same_some, inserted_here, inserted_else}
use Rattle.ufs_name_tree.specs.NameTable.{NameTable, IsNameTable, file_at}
use Rattle.ufs_names.specs.Closed.{closed_file, AreClosed, with_closed}
use Rattle.ufs_names.specs.NamesPart.{Holdings}
use Rattle.ufs_names.specs.declared.holding.Holding.{Holding}

before : (i end : ℕ) → i < end + 1 → i ≢ end → i < end
before i end below other = ⊎_elim (λ (under : i < end). under) (λ (past : end ≤ i). absurd (other (omega (arith, below, past)))) (cases_lt i end)

-- the same of the inodes below this one
pub record AreClosedBelow (n : NameTable) (end : ℕ) (held : Holdings) : Type 0 where
  pub each : (inode file : ℕ) → inode < end → file_at n inode ≡ Some file → map.get held file ≡ Some (closed_file inode)
  pub only : (file : ℕ) (h : Holding) → map.get held file ≡ Some h → file_at n h.inode ≡ Some file

pub none_closed : (n : NameTable) (held : Holdings) → held ≡ map.empty → AreClosedBelow n 0 held
none_closed n held is = record {
  each = λ inode file below e. absurd (omega (arith, below));
  only = λ file h e. let no : Some h ≡ None = sym e ∙ ap (λ (m : Holdings). map.get m file) is ∙ get-empty nat_cmp file in absurd cc;
}

module _ (n : NameTable) (table : IsNameTable n) (end : ℕ) (held : Holdings) (so_far : AreClosedBelow n end held) where
  no_more : file_at n end ≡ None → AreClosedBelow n (end + 1) held
  no_more none = record {
    each = λ inode file below e. ⊎_elim
        (λ (same : (eqb inode end ≡ true) × (inode ≡ end)). let no : None ≡ Some file = sym none ∙ sym (ap (file_at n) same.1) ∙ e in absurd cc)
        (λ (other : (eqb inode end ≡ false) × (inode ≢ end)). so_far.each inode file (before inode end below other.1) e)
        (eqb_tells inode end);
    only = so_far.only;
  }

  one_more : (file : ℕ) → file_at n end ≡ Some file → AreClosedBelow n (end + 1) (map.insert held file (closed_file end))
  one_more file at = record {
    each = λ inode g below e. ⊎_elim
        (λ (same : (eqb inode end ≡ true) × (inode ≡ end)).
        let file_is : file ≡ g = same_some file g (sym at ∙ sym (ap (file_at n) same.1) ∙ e) in
        ap (map.get (map.insert held file (closed_file end))) (sym file_is) ∙ inserted_here nat_cmp_total nat_cmp-IsAntisymmetric held file (closed_file end) ∙ ap (λ i. Some (closed_file i)) (sym same.1))
        (λ (other : (eqb inode end ≡ false) × (inode ≢ end)).
        inserted_else nat_cmp_total nat_cmp-IsAntisymmetric held file (closed_file end) g (λ is. other.1 (table.once inode end file (e ∙ ap Some is) at))
        ∙ so_far.each inode g (before inode end below other.1) e)
        (eqb_tells inode end);
    only = λ g h e. ⊎_elim
        (λ (same : (eqb g file ≡ true) × (g ≡ file)).
        let is : closed_file end ≡ h = same_some (closed_file end) h (sym (inserted_here nat_cmp_total nat_cmp-IsAntisymmetric held file (closed_file end)) ∙ sym (ap (map.get (map.insert held file (closed_file end))) same.1) ∙ e) in
        ap (λ (k : Holding). file_at n k.inode) (sym is) ∙ at ∙ ap Some (sym same.1))
        (λ (other : (eqb g file ≡ false) × (g ≢ file)).
        so_far.only g h (sym (inserted_else nat_cmp_total nat_cmp-IsAntisymmetric held file (closed_file end) g other.1) ∙ e))
        (eqb_tells g file);
  }

  pub next_closed : (o : Option ℕ) (after : Holdings) → o ≡ file_at n end → after ≡ with_closed held o end → AreClosedBelow n (end + 1) after
  next_closed None after is e = subst (AreClosedBelow n (end + 1)) (sym e) (no_more (sym is))
  next_closed (Some file) after is e = subst (AreClosedBelow n (end + 1)) (sym e) (one_more file (sym is))

  pub all_closed : length n.files ≤ end → AreClosed n held
  all_closed long = record {
    each = λ inode file e. ⊎_elim
        (λ (under : inode < end). so_far.each inode file under e)
        (λ (past : end ≤ inode). let no : None ≡ Some file = sym (get_or_past n.files inode None (omega (arith, long, past))) ∙ e in absurd cc)
        (cases_lt inode end);
    only = so_far.only;
  }
