-- A walk over all files of which something is known, for one that isn't at the primary.
use Rattle.std.proofs.Common.{◌≡◌, ◌≢◌, ℕ, List, [], ◌∷◌, Bool, true, false, not, ◌||◌, Option, Some, None, is_some, ap, sym, refl, ◌∙◌, nat_eq, arith}
use Rattle.std.specs.Prelude.{IfNone, IfSome, MatchOption, unwrap_or}
use Rattle.std.specs.List.{count_by, list_any}
use Rattle.std.specs.Cmp.{nat_cmp_total}
use Rattle.std.specs.HashMap as hash
use Rattle.std.specs.HashMap.{HashMap}
use Rattle.std.specs.FinMap as fin
use Rattle.std.specs.FinMap.{nat_cmp-IsAntisymmetric}
use Rattle.std.proofs.lemmas.Bool.{eqb-true, ltb-false}
use Rattle.slab.specs.Slab.{Slab}
use Rattle.ufs_counts.proofs.CountLemmas.{any-count}
use Rattle.ufs_model.proofs.Facts.Lookups.{passes}
use Rattle.ufs_owner.specs.declared.owner.Owner.{Owner}
use Rattle.ufs_owner.specs.declared.owner.Owner.TheVariants.{Primary, Worker, Coming, Going}
use Rattle.ufs_owner.specs.declared.owner.Standing.{Standing}
use Rattle.ufs_owner.specs.declared.records.Record.{Record}
use Rattle.ufs_owner.specs.Owners.{Files, count_out, is_primary, nothing_known, owner_at}
use Rattle.ufs_owner.specs.Records.{files_of}
use Rattle.ufs_owner.proofs.PlaceLemmas.{not_found}

-- a file that is away has a place
module _ {S : Type 0} (places : HashMap ℕ ℕ S) (records : Slab Record) (files : Files) (is : files_of places records ≡ files) where
  pub away_has_place : (q : ℕ) → is_primary (owner_at files q) ≡ false → is_some (hash.get nat_eq places q) ≡ true
  away_has_place q away = by (hash.get nat_eq places q) refl
    where
      by : (o : Option ℕ) → hash.get nat_eq places q ≡ o → is_some o ≡ true
      by (Some k) e = refl
      by None e =
          let here : is_primary (owner_at files q) ≡ true = ap (λ (fs : Files). is_primary (owner_at fs q)) (sym is) ∙ ap (λ (o : Option Standing). is_primary (unwrap_or o nothing_known).owner) (not_found places records q e) in
          let both : true ≡ false = sym here ∙ away in
          absurd cc

-- one that is away is among those that are left, behind one that isn't
pub still_left : (files : Files) (file : ℕ) (rest : List ℕ) → not (is_primary (owner_at files file)) ≡ false → (q : ℕ) → is_primary (owner_at files q) ≡ false → list_any (nat_eq q) (file ∷ rest) ≡ true → list_any (nat_eq q) rest ≡ true
still_left files file rest here q away among = by (nat_eq q file) refl
  where
    by : (b : Bool) → nat_eq q file ≡ b → list_any (nat_eq q) rest ≡ true
    by true e =
        let moved : not (is_primary (owner_at files q)) ≡ false = ap (λ (n : ℕ). not (is_primary (owner_at files n))) (eqb-true q file e) ∙ here in
        let both : true ≡ false = ap not (sym away) ∙ moved in
        absurd cc
    by false e = ap (λ (b : Bool). b || list_any (nat_eq q) rest) (sym e) ∙ among

-- where those that are away would be among none, each is at the primary
pub all_home : (files : Files) → ((q : ℕ) → is_primary (owner_at files q) ≡ false → list_any (nat_eq q) [] ≡ true) → (q : ℕ) → owner_at files q ≡ Primary
all_home files none q = by (owner_at files q) refl
  where
    by : (o : Owner) → owner_at files q ≡ o → o ≡ Primary
    by Primary e = refl
    by (Worker w) e = let some : false ≡ true = none q (ap is_primary e) in absurd cc
    by (Coming w) e = let some : false ≡ true = none q (ap is_primary e) in absurd cc
    by (Going w) e = let some : false ≡ true = none q (ap is_primary e) in absurd cc

-- then none is counted
abbrev is_away : Standing → Bool
is_away s = not (is_primary s.owner)

pub none_counted : (files : Files) → ((q : ℕ) → owner_at files q ≡ Primary) → count_out files ≡ 0
none_counted files home = by (list_any is_away (fin.values files)) refl
  where
    by : (b : Bool) → list_any is_away (fin.values files) ≡ b → count_by is_away (fin.values files) ≡ 0
    by true e =
        let one = passes nat_cmp_total nat_cmp-IsAntisymmetric is_away files e in
        let here : is_primary (owner_at files one.0) ≡ true = ap is_primary (home one.0) in
        let there : is_primary (owner_at files one.0) ≡ is_primary one.1.owner = ap (λ (o : Option Standing). is_primary (unwrap_or o nothing_known).owner) one.2 in
        let both : false ≡ true = ap not (sym here ∙ there) ∙ one.3 in
        absurd cc
    by false e =
        let few = ltb-false 0 (count_by is_away (fin.values files)) (sym (any-count is_away (fin.values files)) ∙ e) in
        omega (arith, few)

pub some_out_is : (files : Files) (r : Option ℕ) → IfSome r (λ file. is_primary (owner_at files file) ≡ false) → IfNone r ((file : ℕ) → owner_at files file ≡ Primary) → MatchOption r (count_out files ≡ 0) (λ file. owner_at files file ≢ Primary)
some_out_is files None out none = none_counted files none
some_out_is files (Some f) out none = λ e. let both : true ≡ false = sym (ap is_primary e) ∙ out in absurd cc
