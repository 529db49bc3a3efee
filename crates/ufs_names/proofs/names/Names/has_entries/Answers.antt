use Rattle.std.proofs.Common.{rules, ◌≡◌, ◌↔◌, ℕ, Bool, true, false, not, Option, Some, IsTrue, ap, subst, refl}
use Rattle.ufs_dir_tree.specs.DirTable.{DirTable, slots_at}
use Rattle.ufs_dir_tree.specs.DirCalls.{IsBare}
use Rattle.ufs_dir_tree.specs.declared.found.Found.{Found}
use Rattle.ufs_dir_tree.specs.declared.found.Found.TheVariants.{Dir}
use Rattle.ufs_names.specs.NamesPart.{NamesPart}
use Rattle.ufs_names.proofs.names.Names.has_entries.Goals as goal

bare_told : (t : DirTable) (found : Option Found) (i : ℕ) → found ≡ Some (Dir i) → (b : Bool) → IsTrue b ↔ IsBare (slots_at t i)
    → (not b ≡ false) ↔ ((j : ℕ) → found ≡ Some (Dir j) → IsBare (slots_at t j))
bare_told t found i at true is = (λ e j other. let same : i ≡ j = cc in subst (λ i. IsBare (slots_at t i)) same (is.0 refl), λ all. refl)
bare_told t found i at false is = (λ e. cc, λ all. let no : IsTrue false = is.1 (all i at) in cc)

pub returns-in-Some-Dir : goal.returns-in-Some-Dir
returns-in-Some-Dir c =
    let at : c.args.found ≡ Some (Dir c.in-Some-Dir.inode) = search rules in
    let dirs = ap (λ (n : NamesPart). n.tree.dirs) c.self.view_is in
    bare_told c.args.self.now.tree.dirs c.args.found c.in-Some-Dir.inode at c.is_empty.result (subst (λ (t : DirTable). IsTrue c.is_empty.result ↔ IsBare (slots_at t c.in-Some-Dir.inode)) dirs c.is_empty.ensures)
