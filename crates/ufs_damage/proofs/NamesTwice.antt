-- Names that stand twice in a directory, slot by slot.
use Rattle.std.proofs.Common.{◌≡◌, ℕ, zero, suc, ◌+◌, ◌≤◌, List, [], ◌∷◌, Bool, true, false, Option, Some, None, take, map, ap, sym, refl, ◌∙◌, arith}
use Rattle.std.specs.Prelude.{filter, ◌&&◌, ◌||◌, nat_lt}
use Rattle.std.specs.List.{filter_map, cons_option, enumerate_from, list_any}
use Rattle.std.specs.Str.{bytes_eq}
use Rattle.std.proofs.lemmas.Bool.Decides.{nat_tests}
use Rattle.ufs_base.specs.Choices.{some_if}
use Rattle.ufs_layout.specs.DentryForm.{DentryForm, is_named}
use Rattle.ufs_image.specs.Nodes.{ReadSlot, Dir, NamedSlot, names_of}
use Rattle.ufs_image.specs.Damage.{Damage, NameTwice, is_name_twice}
use Rattle.ufs_damage.specs.Kinds.{is_known, twice_damage, earlier_damage}
use Rattle.ufs_damage.proofs.Lists.{map_filter, then_map, then_if, if_both, filter_map_twice, filter_map_same}

-- what names a slot has
abbrev pub named_in : ℕ → Option DentryForm → Option NamedSlot
named_in place None = None
named_in place (Some d) = some_if (is_named d) (place, d)

pub names_are : (inode : ℕ) (slots : List ReadSlot) → names_of (record { inode = inode; slots = slots }) ≡ filter_map (λ (s : ReadSlot). named_in s.0 s.1) slots
names_are inode [] = refl
names_are inode ((place, None) ∷ slots) = names_are inode slots
names_are inode ((place, Some d) ∷ slots) = ap (cons_option (some_if (is_named d) (place, d))) (names_are inode slots)

module _ (inode : ℕ) (name : List ℕ) (place : ℕ) where
  earlier : NamedSlot → Bool
  earlier o = nat_lt o.0 place && bytes_eq o.1.name name

  names_from : ℕ → List (Option DentryForm) → List NamedSlot
  names_from n slots = names_of (record { inode = inode; slots = enumerate_from n slots })

  -- no slot from this place on
  none_later : (n : ℕ) (slots : List (Option DentryForm)) → place ≤ n → list_any (λ (o : NamedSlot). nat_lt o.0 place && bytes_eq o.1.name name) (names_of (record { inode = inode; slots = enumerate_from n slots })) ≡ false
  none_later n [] le = refl
  none_later n (None ∷ slots) le = none_later (n + 1) slots (omega (arith, le))
  none_later n (Some d ∷ slots) le = by (is_named d) (none_later (n + 1) slots (omega (arith, le)))
    where
      late : nat_lt n place ≡ false
      late = grind (arith, nat_tests, le)

      by : (b : Bool) → list_any (λ (o : NamedSlot). nat_lt o.0 place && bytes_eq o.1.name name) (names_of (record { inode = inode; slots = enumerate_from (n + 1) slots })) ≡ false
          → list_any (λ (o : NamedSlot). nat_lt o.0 place && bytes_eq o.1.name name) (cons_option (some_if b (n, d)) (names_of (record { inode = inode; slots = enumerate_from (n + 1) slots }))) ≡ false
      by false more = more
      by true more = ap (λ t. (t && bytes_eq d.name name) || list_any (λ (o : NamedSlot). nat_lt o.0 place && bytes_eq o.1.name name) (names_of (record { inode = inode; slots = enumerate_from (n + 1) slots }))) late ∙ more

  -- the slots before this place
  pub known_is : (n m : ℕ) (slots : List (Option DentryForm)) → place ≡ n + m → list_any (λ (o : NamedSlot). nat_lt o.0 place && bytes_eq o.1.name name) (names_of (record { inode = inode; slots = enumerate_from n slots })) ≡ is_known (take m slots) name
  known_is n zero slots at = none_later n slots (omega (arith, at))
  known_is n (suc m) [] at = refl
  known_is n (suc m) (None ∷ slots) at = known_is (n + 1) m slots (omega (arith, at))
  known_is n (suc m) (Some d ∷ slots) at = by (is_named d) (known_is (n + 1) m slots (omega (arith, at)))
    where
      soon : nat_lt n place ≡ true
      soon = grind (arith, nat_tests, at)

      by : (b : Bool) → list_any (λ (o : NamedSlot). nat_lt o.0 place && bytes_eq o.1.name name) (names_of (record { inode = inode; slots = enumerate_from (n + 1) slots })) ≡ is_known (take m slots) name
          → list_any (λ (o : NamedSlot). nat_lt o.0 place && bytes_eq o.1.name name) (cons_option (some_if b (n, d)) (names_of (record { inode = inode; slots = enumerate_from (n + 1) slots }))) ≡ ((b && bytes_eq d.name name) || is_known (take m slots) name)
      by false more = more
      by true more = ap (λ t. (t && bytes_eq d.name name) || list_any (λ (o : NamedSlot). nat_lt o.0 place && bytes_eq o.1.name name) (names_of (record { inode = inode; slots = enumerate_from (n + 1) slots }))) soon ∙ ap (λ b. bytes_eq d.name name || b) more

-- the names that stand twice in a directory
pub twice_are : (dir : Dir) (slots : List (Option DentryForm)) → enumerate_from 0 slots ≡ dir.slots
    → filter_map (earlier_damage slots dir.inode) (enumerate_from 0 slots) ≡ map (λ (n : NamedSlot). NameTwice dir.inode n.0) (filter (is_name_twice dir) (names_of dir))
twice_are dir slots are =
    filter_map_same (earlier_damage slots dir.inode) (λ (s : ReadSlot). then_map tell (named_in s.0 s.1)) (enumerate_from 0 slots) each
    ∙ sym (filter_map_twice tell (λ (s : ReadSlot). named_in s.0 s.1) (enumerate_from 0 slots))
    ∙ ap (filter_map tell) (sym (names_are dir.inode (enumerate_from 0 slots)) ∙ ap (λ ss. names_of (record { inode = dir.inode; slots = ss })) are)
    ∙ sym (map_filter (λ (n : NamedSlot). NameTwice dir.inode n.0) (is_name_twice dir) (names_of dir))
  where
    tell : NamedSlot → Option Damage
    tell n = some_if (is_name_twice dir n) (NameTwice dir.inode n.0)

    before : (place : ℕ) (d : DentryForm) → is_known (take place slots) d.name ≡ is_name_twice dir (place, d)
    before place d =
        sym (known_is dir.inode d.name place 0 place slots (omega arith))
        ∙ ap (λ ss. list_any (λ (o : NamedSlot). nat_lt o.0 place && bytes_eq o.1.name d.name) (names_of (record { inode = dir.inode; slots = ss }))) are

    on_form : (place : ℕ) (o : Option DentryForm) → twice_damage (is_known (take place slots)) dir.inode place o ≡ then_map tell (named_in place o)
    on_form place None = refl
    on_form place (Some d) =
        ap (λ b. some_if (is_named d && b) (NameTwice dir.inode place)) (before place d)
        ∙ sym (then_if tell (is_named d) (place, d) ∙ if_both (is_named d) (is_name_twice dir (place, d)) (NameTwice dir.inode place))

    each : (s : ReadSlot) → earlier_damage slots dir.inode s ≡ then_map tell (named_in s.0 s.1)
    each s = on_form s.0 s.1
