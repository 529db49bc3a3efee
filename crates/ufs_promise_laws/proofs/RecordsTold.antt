-- What the record of a step does, and the records of some steps.
use Rattle.std.proofs.Common.{◌≡◌, ◌≢◌, ℕ, ◌<◌, ◌⊎◌, inl, inr, List, [], ◌∷◌, ◌++◌, Bool, true, false, length, take, ap, sym, refl, ◌∙◌, subst, arith}
use Rattle.std.specs.Prelude.{◌==◌, ◌&&◌, ◌||◌, ◌*◌, not, flat_map, slice_set, if◌then◌else◌}
use Rattle.std.specs.FinSet as set
use Rattle.std.proofs.lemmas.Bool.Decides.{nat_tests}
use Rattle.std.proofs.lemmas.List.{get_or-set_same, get_or-set_other, length-set}
use Rattle.ufs_bitmap.proofs.SetLemmas.{has-insert, has-remove}
use Rattle.ufs_layout.specs.Areas.{is_inode_number}
use Rattle.ufs_layout.specs.InodeForm.{is_used, free_inode}
use Rattle.ufs_layout.specs.declared.inode.Extent.{Extent}
use Rattle.ufs_layout.specs.declared.geometry.Geometry.{Geometry}
use Rattle.ufs_image.specs.Fold.{after_delta}
use Rattle.ufs_image.specs.Nodes.{blocks_of}
use Rattle.ufs_image.specs.Catalog.{Catalog, IsInode}
use Rattle.ufs_image.specs.Folding.{with_form, with_dentry, is_newer_in, with_valid_in, with_records_in}
use Rattle.ufs_image.proofs.Empty.{apart_false}
use Rattle.ufs_dir_tree.specs.DirTable.{no_dir, dir_at, blocks_at}
use Rattle.ufs_dir_laws.specs.Tables.{is_free_inode}
use Rattle.ufs_ilog.specs.Deltas as log
use Rattle.ufs_dir_tree.specs.Space.{extents_of}
use Rattle.ufs_dir_tree.specs.Steps.{DirState, Step, Born, Grown, Put, Freed, after, after_all}
use Rattle.ufs_promise_laws.specs.Steps.{record_of, records_of}
use Rattle.ufs_promise_laws.specs.Held.{HasState, MayBeBorn, MayStep, MaySteps}
use Rattle.ufs_promise_laws.specs.ChangeLaws.{AreOlder}
use Rattle.ufs_promise_laws.proofs.Bare.{bare_state}
use Rattle.ufs_promise_laws.proofs.Growing.{grown_form, grown_state}
use Rattle.ufs_promise_laws.proofs.Putting.{in_range, put_state}

pub kept_none : (xs ys : List Extent) → take 0 xs ++ ys ≡ ys
kept_none [] ys = refl
kept_none (x ∷ xs) ys = refl

module _ (g : Geometry) (number : ℕ) (before : Catalog) (older : AreOlder g before number) where
  pub ranged : (i : ℕ) → IsInode g i → is_inode_number g i ≡ true
  ranged i inside = let from = inside.from_one in let most = inside.within in grind (arith, nat_tests, from, most)

  pub newer : (i : ℕ) → IsInode g i → is_newer_in number before i ≡ true
  newer i inside = let below = older i inside in grind (arith, nat_tests, below)

  -- ---- a birth

  module _ (c : Catalog) (s : DirState) (has : HasState g c s) (i kind : ℕ) (may : MayBeBorn g s i kind) where
    was_free : is_free_inode g c i ≡ true
    was_free = sym (has.table.free i) ∙ may.free

    no_kind : (c.forms i).kind ≡ 0
    no_kind = by ((c.forms i).kind == 0) refl
      where
        by : (b : Bool) → ((c.forms i).kind == 0) ≡ b → (c.forms i).kind ≡ 0
        by true e = grind (arith, nat_tests, e)
        by false e = let no : false ≡ true = sym (ap (λ b. not (not b) && is_inode_number g i) e) ∙ was_free in absurd cc

    bare_dir : dir_at s.table i ≡ no_dir
    bare_dir = λ n. record { blocks = blocks n; slots = slots n }
      where
        test : ((c.forms i).kind == 2) ≡ false
        test = ap (λ k. k == 2) no_kind

        blocks : (dir_at s.table i).blocks ≡ []
        blocks = has.table.blocks i may.in_range ∙ ap (λ b. if b then blocks_of (c.forms i) else []) test

        slots : (dir_at s.table i).slots ≡ []
        slots = has.table.slots i may.in_range ∙ ap (λ b. if b then flat_map c.slots (blocks_of (c.forms i)) else []) test

    used : not (is_used (record { kind = kind; extents = []; size = 0; number = number })) ≡ false
    used = by may.known
      where
        by : (kind ≡ 1) ⊎ (kind ≡ 2) → not (not (kind == 0)) ≡ false
        by (inl e) = ap (λ k. not (not (k == 0))) e
        by (inr e) = ap (λ k. not (not (k == 0))) e

    free_here : set.contains (set.remove s.table.free i) i ≡ false
    free_here = let t : (i == i) ≡ true = grind (arith, nat_tests) in has-remove s.table.free i i ∙ ap (λ b. not b && set.contains s.table.free i) t

    free_else : (k : ℕ) → k ≢ i → set.contains (set.remove s.table.free i) k ≡ set.contains s.table.free k
    free_else k other = has-remove s.table.free i k ∙ ap (λ b. not b && set.contains s.table.free k) (apart_false k i other)

    root : i ≡ 1 → kind ≡ 2
    root e = let dir = ap (λ n. (c.forms n).kind) e ∙ has.forms.root in absurd (omega (arith, dir, no_kind))

    -- the catalog behind the birth
    pub born : HasState g (with_form i (record { kind = kind; extents = []; size = 0; number = number }) c) (after (Born i kind) s)
    born = bare_state g c s has i (record { kind = kind; extents = []; size = 0; number = number }) s.table.dirs (set.remove s.table.free i) may.in_range refl refl root refl (λ k other. refl) bare_dir (free_here ∙ sym used) free_else

  -- ---- one record

  pub told : (c : Catalog) (s : DirState) (x : Step) → HasState g c s → MayStep g s x → HasState g (with_valid_in g number before (record_of s x) c) (after x s)
  told c s (Born i kind) has may =
      let form : after_delta (c.forms i) number kind 0 0 [] ≡ record { kind = kind; extents = []; size = 0; number = number } = λ n. record { kind = kind; extents = kept_none (c.forms i).extents [] n; size = 0; number = number } in
      let catalog : with_valid_in g number before (record_of s (Born i kind)) c ≡ with_form i (record { kind = kind; extents = []; size = 0; number = number }) c =
      λ n. if ranged i may.in_range n then (if newer i may.in_range n then with_form i (form n) c else c) else c in
      subst (λ d. HasState g d (after (Born i kind) s)) (sym catalog) (born c s has i kind may)
  told c s (Grown i block) has may =
      let form : after_delta (c.forms i) number 2 (4096 * length (blocks_at s.table i ++ block ∷ [])) 0 (log.extents_of (extents_of (blocks_at s.table i ++ block ∷ []))) ≡ grown_form g c s has i block number may =
      λ n. record { kind = 2; extents = kept_none (c.forms i).extents (log.extents_of (extents_of (blocks_at s.table i ++ block ∷ []))) n; size = 4096 * length (blocks_at s.table i ++ block ∷ []); number = number } in
      let catalog : with_valid_in g number before (record_of s (Grown i block)) c ≡ with_form i (grown_form g c s has i block number may) c =
      λ n. if ranged i may.in_range n then (if newer i may.in_range n then with_form i (form n) c else c) else c in
      subst (λ d. HasState g d (after (Grown i block) s)) (sym catalog) (grown_state g c s has i block number may)
  told c s (Put i slot d) has may =
      let catalog : with_valid_in g number before (record_of s (Put i slot d)) c ≡ with_dentry slot.sector slot.slot d c = λ n. if in_range g c s has i slot d may n then with_dentry slot.sector slot.slot d c else c in
      subst (λ x. HasState g x (after (Put i slot d) s)) (sym catalog) (put_state g c s has i slot d may)
  told c s (Freed i) has may =
      let catalog : with_valid_in g number before (record_of s (Freed i)) c ≡ with_form i (free_inode number) c = λ n. if ranged i may.in_range n then (if newer i may.in_range n then with_form i (free_inode number) c else c) else c in
      let within : i < length s.table.dirs = (let all = has.table.counted in let most = may.in_range.within in omega (arith, all, most)) in
      let t : (i == i) ≡ true = grind (arith, nat_tests) in
      let here : set.contains (set.insert s.table.free i) i ≡ true = has-insert s.table.free i i ∙ ap (λ b. b || set.contains s.table.free i) t in
      subst (λ x. HasState g x (after (Freed i) s)) (sym catalog)
      (bare_state g c s has i (free_inode number) (slice_set s.table.dirs i no_dir) (set.insert s.table.free i) may.in_range refl refl (λ e. absurd (may.no_root e))
      (length-set s.table.dirs i no_dir) (λ k other. get_or-set_other s.table.dirs i k no_dir no_dir other) (get_or-set_same s.table.dirs i no_dir no_dir within) here
      (λ k other. has-insert s.table.free i k ∙ ap (λ b. b || set.contains s.table.free k) (apart_false k i other)))

  -- ---- and all

  pub told_all : (c : Catalog) (s : DirState) (xs : List Step) → HasState g c s → MaySteps g s xs → HasState g (with_records_in g number before (records_of s xs) c) (after_all xs s)
  told_all c s [] has may = has
  told_all c s (x ∷ xs) has may = told_all (with_valid_in g number before (record_of s x) c) (after x s) xs (told c s x has may.0) may.1
