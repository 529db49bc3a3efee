-- What the records of a change of names leave of inodes and blocks.
use Rattle.std.proofs.Common.{◌≡◌, ℕ, ◌*◌, ◌/◌, ◌⊎◌, inl, inr, List, [], ◌∷◌, ◌++◌, Bool, true, false, ◌||◌, not, length, ap, sym, refl, ◌∙◌, subst, arith}
use Rattle.std.specs.Prelude.{◌==◌, if◌then◌else◌}
use Rattle.std.specs.List.{list_any}
use Rattle.std.proofs.lemmas.Bool.Decides.{nat_tests}
use Rattle.ufs_layout.specs.InodeForm.{InodeForm, free_inode}
use Rattle.ufs_layout.specs.declared.geometry.Geometry.{Geometry}
use Rattle.ufs_image.specs.Catalog.{Catalog}
use Rattle.ufs_image.specs.Fold.{after_delta}
use Rattle.ufs_image.specs.Folding.{with_form, with_records_in, with_valid_in}
use Rattle.ufs_dir_tree.specs.DirTable.{blocks_at}
use Rattle.ufs_dir_tree.specs.Space.{extents_of}
use Rattle.ufs_ilog.specs.Deltas as log
use Rattle.ufs_ledger.specs.Ledger.{is_set_in}
use Rattle.ufs_dir_tree.specs.Steps.{DirState, Step, Born, Grown, Put, Freed, after}
use Rattle.ufs_promise_laws.specs.Steps.{record_of, records_of}
use Rattle.ufs_promise_laws.specs.Held.{HasState, MayStep, MaySteps}
use Rattle.ufs_promise_laws.specs.ChangeLaws.{AreOlder}
use Rattle.ufs_name_tree.specs.Notes.{is_of, is_touched}
use Rattle.ufs_promise_laws.proofs.Covers.{Covers, covered_all, covers_catalog}
use Rattle.ufs_promise_laws.proofs.Files.{stays_all}
use Rattle.ufs_promise_laws.proofs.Forms.{form_here}
use Rattle.ufs_promise_laws.proofs.Putting.{holds, is_dir}
use Rattle.ufs_promise_laws.proofs.RecordsTold.{kept_none, newer, ranged, told}

-- what has no blocks, unless it is a directory
abbrev pub IsBareOrDir : InodeForm → Type 0
IsBareOrDir f = (f.kind ≡ 2 → ⊥) → f.extents ≡ []

off_true : (b : Bool) → not b ≡ true → b ≡ false
off_true false e = refl
off_true true e = absurd cc

module _ (g : Geometry) (number : ℕ) (before : Catalog) (older : AreOlder g before number) where
  bare_at : (c : Catalog) (i inode : ℕ) (form : InodeForm) → (i == inode) ≡ true → IsBareOrDir form → IsBareOrDir ((with_form i form c).forms inode)
  bare_at c i inode form e is =
      let same : i ≡ inode = grind (arith, nat_tests, e) in
      subst (λ n. IsBareOrDir ((with_form i form c).forms n)) same (subst IsBareOrDir (sym (form_here c i form)) is)

  touched : (c : Catalog) (s : DirState) (x : Step) (inode : ℕ) → MayStep g s x → is_of inode x ≡ true → IsBareOrDir ((with_valid_in g number before (record_of s x) c).forms inode)
  touched c s (Born i kind) inode may is =
      let form = after_delta (c.forms i) number kind 0 0 [] in
      let catalog : with_valid_in g number before (record_of s (Born i kind)) c ≡ with_form i form c = λ n. if ranged g number before older i may.in_range n then (if newer g number before older i may.in_range n then with_form i form c else c) else c in
      subst (λ (d : Catalog). IsBareOrDir (d.forms inode)) (sym catalog) (bare_at c i inode form is (λ file. kept_none (c.forms i).extents []))
  touched c s (Grown i block) inode may is =
      let form = after_delta (c.forms i) number 2 (4096 * length (blocks_at s.table i ++ block ∷ [])) 0 (log.extents_of (extents_of (blocks_at s.table i ++ block ∷ []))) in
      let catalog : with_valid_in g number before (record_of s (Grown i block)) c ≡ with_form i form c = λ n. if ranged g number before older i may.in_range n then (if newer g number before older i may.in_range n then with_form i form c else c) else c in
      subst (λ (d : Catalog). IsBareOrDir (d.forms inode)) (sym catalog) (bare_at c i inode form is (λ no_dir. absurd (no_dir refl)))
  touched c s (Put i slot d) inode may is = absurd cc
  touched c s (Freed i) inode may is =
      let catalog : with_valid_in g number before (record_of s (Freed i)) c ≡ with_form i (free_inode number) c = λ n. if ranged g number before older i may.in_range n then (if newer g number before older i may.in_range n then with_form i (free_inode number) c else c) else c in
      subst (λ (d : Catalog). IsBareOrDir (d.forms inode)) (sym catalog) (bare_at c i inode (free_inode number) is (λ free. refl))

  -- An inode that the change touches has no blocks behind it, unless it is a directory.
  pub bare_after : (c : Catalog) (s : DirState) (xs : List Step) (inode : ℕ) → MaySteps g s xs → (is_touched xs inode ≡ true) ⊎ IsBareOrDir (c.forms inode) → IsBareOrDir ((with_records_in g number before (records_of s xs) c).forms inode)
  bare_after c s [] inode may (inl off) = absurd cc
  bare_after c s [] inode may (inr is) = is
  bare_after c s (x ∷ xs) inode may was = bare_after (with_valid_in g number before (record_of s x) c) (after x s) xs inode may.1 (by (is_of inode x) refl was)
    where
      by : (b : Bool) → is_of inode x ≡ b → (is_touched (x ∷ xs) inode ≡ true) ⊎ IsBareOrDir (c.forms inode) → (is_touched xs inode ≡ true) ⊎ IsBareOrDir ((with_valid_in g number before (record_of s x) c).forms inode)
      by true e was = inr (touched c s x inode may.0 e)
      by false e (inl later) = inl (ap (λ (b : Bool). b || is_touched xs inode) (sym e) ∙ later)
      by false e (inr is) = inr (subst IsBareOrDir (sym (stays_all g number before c s (x ∷ []) inode (ap (λ (b : Bool). b || false) e))) is)

  module _ (block : ℕ) where
    abbrev pub others : ℕ → Bool
    others k = not (k == block)

    unset : (c : Catalog) (s : DirState) (x : Step) → HasState g c s → MayStep g s x → Covers g others s → is_set_in block (record_of s x) ≡ false
    unset c s (Born i kind) has may covers = refl
    unset c s (Grown i b) has may covers = refl
    unset c s (Freed i) has may covers = refl
    unset c s (Put i slot d) has may covers =
        off_true (slot.sector / 8 == block) (covers_catalog g others c s has covers (slot.sector / 8) (record { inode = i; place = _; has = holds g c s has i slot d may; dir = is_dir g c s has i slot d may }))

    -- No dentry is set in a block that no directory has or may take.
    pub unset_in : (c : Catalog) (s : DirState) (xs : List Step) → HasState g c s → MaySteps g s xs → Covers g others s → list_any (is_set_in block) (records_of s xs) ≡ false
    unset_in c s [] has may covers = refl
    unset_in c s (x ∷ xs) has may covers =
        ap (λ (b : Bool). b || list_any (is_set_in block) (records_of (after x s) xs)) (unset c s x has may.0 covers)
        ∙ unset_in (with_valid_in g number before (record_of s x) c) (after x s) xs (told g number before older c s x has may.0) may.1 (covered_all g others s (x ∷ []) (may.0, tt) covers)
