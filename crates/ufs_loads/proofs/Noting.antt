-- What is noted, as the hash map has it.
use Rattle.std.proofs.Common.{◌≡◌, ℕ, Bool, List, map, cond, Some, eqb, nat_eq, ap, sym, ◌∙◌}
use Rattle.std.specs.Cmp.{nat_cmp_total}
use Rattle.std.specs.FinMap as fin
use Rattle.std.specs.FinMap.{from_entries, get-from_entries, get-insert, nat_cmp-IsAntisymmetric, same_map}
use Rattle.std.specs.Map.{keys_of, lookup}
use Rattle.std.specs.Ordering.{nat_cmp}
use Rattle.std.specs.List.{IsDistinct}
use Rattle.ufs_model.specs.declared.data.Load.{Load}
use Rattle.ufs_loads.specs.Loads.{AreLoads, NotedLoads, entry_load, noted_one}
use Rattle.ufs_loads.specs.declared.noted.Noted.{Noted}
use Rattle.ufs_loads.proofs.Lists.{each_load, each_once, found, only_load, ties_back}

abbrev pub Entries : Type 0
Entries = List (ℕ × Noted)

pub get-entries : (es : Entries) (q : ℕ) → fin.get {R = nat_cmp} (from_entries es) q ≡ lookup (nat_eq q) es
get-entries es q = get-from_entries nat_cmp_total es q ∙ found q es

-- where they have the same at each number
pub same_noted : (es fs : Entries) → ((q : ℕ) → lookup (nat_eq q) fs ≡ lookup (nat_eq q) es) → from_entries {R = nat_cmp} fs ≡ from_entries es
same_noted es fs same = same_map nat_cmp_total nat_cmp-IsAntisymmetric _ _ (λ q. get-entries fs q ∙ same q ∙ sym (get-entries es q))

-- one more
pub one_noted : (es fs : Entries) (l : Load) → ((q : ℕ) → lookup (nat_eq q) fs ≡ cond (nat_eq l.file q) (Some (record { worker = l.worker; count = l.count })) (lookup (nat_eq q) es)) → from_entries fs ≡ noted_one (from_entries es) l
one_noted es fs l put =
    let n : Noted = record { worker = l.worker; count = l.count } in
    let m : NotedLoads = from_entries es in
    same_map nat_cmp_total nat_cmp-IsAntisymmetric (from_entries fs) (fin.insert m l.file n) (λ q.
    get-entries fs q ∙ put q ∙ ap (cond (eqb l.file q) (Some n)) (sym (get-entries es q)) ∙ ap (λ (b : Bool). cond b (Some n) (fin.get m q)) (sym (ties_back q l.file)) ∙ sym (get-insert nat_cmp_total m l.file n q))

-- ---- as a list

pub are_loads : (es : Entries) → IsDistinct nat_eq (keys_of es) → AreLoads (from_entries es) (map entry_load es)
are_loads es distinct = record {
  once = each_once (λ (n : Noted). n.worker) (λ (n : Noted). n.count) es distinct;
  each = λ file n is. each_load (λ (m : Noted). m.worker) (λ (m : Noted). m.count) es file n (sym (get-from_entries nat_cmp_total es file) ∙ is);
  only = λ l one.
      let x = only_load (λ (n : Noted). n.worker) (λ (n : Noted). n.count) es distinct l one in
      let e = sym x.2 in
      get-from_entries nat_cmp_total es l.file ∙ x.1 ∙ (λ i. Some (record { worker = (e i).worker; count = (e i).count }));
}
