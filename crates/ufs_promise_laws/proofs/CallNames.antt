-- Calls leave the names sound.
use Rattle.std.proofs.Common.{◌≡◌, ◌≢◌, ℕ, zero, suc, ◌⊎◌, inl, inr, List, [], ◌∷◌, Bool, true, false, cond, Some, None, ap, sym, refl, ◌∙◌, subst, arith}
use Rattle.std.specs.Prelude.{◌==◌, if◌then◌else◌}
use Rattle.std.specs.List.{slice_get, find}
use Rattle.std.proofs.lemmas.Bool.Decides.{nat_tests}
use Rattle.std.proofs.lemmas.Slice.Eq.{bytes_eq-Decides}
use Rattle.ufs_layout.specs.DentryForm.{DentryForm, free_slot, is_named}
use Rattle.ufs_layout.specs.declared.geometry.Geometry.{Geometry}
use Rattle.ufs_path.specs.Names.{IsName}
use Rattle.ufs_dirs.specs.Directory.{entry_of, has_name}
use Rattle.ufs_dirs.specs.Changes.{place_of}
use Rattle.ufs_dirs.specs.declared.Slot.{Slot}
use Rattle.ufs_image.specs.Catalog.{IsInode}
use Rattle.ufs_image.proofs.Empty.{both_true}
use Rattle.ufs_dir_tree.specs.DirTable.{slots_at, blocks_at}
use Rattle.ufs_dir_tree.specs.Steps.{DirState, Born, Put, Freed, after, after_all, adding, dropping, moving}
use Rattle.ufs_promise_laws.specs.Held.{HasName, FitsName, MaySteps, HasSoundNames}
use Rattle.ufs_promise_laws.specs.Names.{IsNewName}
use Rattle.ufs_promise_laws.specs.Calls.{StandsIn}
use Rattle.ufs_promise_laws.proofs.NamesKept.{stays, set_name}
use Rattle.ufs_promise_laws.proofs.TableNames.{plain}

-- what isn't found stands at no place
none_found : {X : Type 0} (p : X → Bool) (xs : List X) (k : ℕ) (x : X) → find p xs ≡ None → slice_get xs k ≡ Some x → p x ≡ true → ⊥
none_found p [] k x none at is = cc
none_found p (y ∷ xs) zero x none at is = let same : y ≡ x = cc in let found : find p (y ∷ xs) ≡ Some y = ap (λ b. cond b (Some y) (find p xs)) (ap p same ∙ is) in cc
none_found p (y ∷ xs) (suc k) x none at is = by (p y) refl none (λ rest. none_found p xs k x rest at is)
  where
    by : (b : Bool) → p y ≡ b → cond b (Some y) (find p xs) ≡ None → (find p xs ≡ None → ⊥) → ⊥
    by true e some go = cc
    by false e rest go = go rest

module _ (g : Geometry) (s : DirState) where
  -- a name that isn't found stands nowhere
  absent : (dir p : ℕ) (d e : DentryForm) → entry_of (slots_at s.table dir) d.name ≡ None → HasName g s dir p e → e.name ≡ d.name → ⊥
  absent dir p d e none at same = none_found (has_name d.name) (slots_at s.table dir) p e none at.there (both_true _ _ at.named ((bytes_eq-Decides e.name d.name).1 same))

-- ---- a new inode

module _ (g : Geometry) (s : DirState) (dir : ℕ) (slot : Slot) (d : DentryForm) (sound : HasSoundNames g s) (may : MaySteps g s (adding dir slot d)) (fresh : s.kinds d.inode ≡ 0) (no_root : d.inode ≢ 1) (name : IsName d.name)
    (none : entry_of (slots_at s.table dir) d.name ≡ None) where
  abbrev born : DirState
  born = after (Born d.inode d.kind) s

  was : (other p : ℕ) (e : DentryForm) → HasName g born other p e → HasName g s other p e
  was other p e at = record { in_range = at.in_range; there = at.there; named = at.named }

  used : d.kind ≢ 0
  used same = by may.0.known
    where
      by : (d.kind ≡ 1) ⊎ (d.kind ≡ 2) → ⊥
      by (inl one) = omega (arith, one, same)
      by (inr two) = omega (arith, two, same)

  is_new : IsNewName g born dir slot d
  is_new = record {
    fits = record {
      plain = plain d.name name;
      in_range = may.0.in_range;
      kind = let t : (d.inode == d.inode) ≡ true = grind (arith, nat_tests) in ap (λ b. if b then d.kind else s.kinds d.inode) t;
      used = used;
      no_root = no_root;
    };
    name = λ p e at same. absurd (absent g s dir p d e none (was dir p e at) same);
    inode = λ other p e at same. absurd (let fit = sound.fit other p e (was other p e at) in fit.used (sym fit.kind ∙ ap s.kinds same ∙ fresh));
  }

  pub added : HasSoundNames g (after_all (adding dir slot d) s)
  added = stays g born (stays g s sound (Born d.inode d.kind) may.0 fresh) (Put dir slot d) may.1.0 (inr is_new)

-- ---- a name that goes

module _ (g : Geometry) (s : DirState) (dir : ℕ) (slot : Slot) (d : DentryForm) (sound : HasSoundNames g s) (stood : StandsIn g s dir slot d) (may : MaySteps g s (Put dir slot free_slot ∷ [])) where
  abbrev pub cleared : DirState
  cleared = after (Put dir slot free_slot) s

  pub left : (other p : ℕ) (e : DentryForm) → HasName g cleared other p e → HasName g s other p e × (other ≡ dir → p ≢ place_of (blocks_at s.table dir) slot)
  left other p e at = by (set_name g s dir slot free_slot may.0 other p e at)
    where
      by : ((other ≡ dir) × (p ≡ place_of (blocks_at s.table dir) slot) × (e ≡ free_slot)) ⊎ (HasName g s other p e × (other ≡ dir → p ≢ place_of (blocks_at s.table dir) slot)) → HasName g s other p e × (other ≡ dir → p ≢ place_of (blocks_at s.table dir) slot)
      by (inl now) = let clash : true ≡ false = sym at.named ∙ ap is_named now.2 in absurd cc
      by (inr old) = old

  -- no name stands for its inode any more
  pub gone : (other p : ℕ) (e : DentryForm) → HasName g cleared other p e → e.inode ≢ d.inode
  gone other p e at same =
      let old = left other p e at in
      let one = sound.inodes_once other dir p (place_of (blocks_at s.table dir) slot) e d old.0 stood same in
      old.1 one.0 one.1

  pub cleared_sound : HasSoundNames g cleared
  cleared_sound = stays g s sound (Put dir slot free_slot) may.0 (inl refl)

module _ (g : Geometry) (s : DirState) (dir : ℕ) (slot : Slot) (d : DentryForm) (sound : HasSoundNames g s) (stood : StandsIn g s dir slot d) where
  pub dropped : MaySteps g s (dropping dir slot d.inode) → HasSoundNames g (after_all (dropping dir slot d.inode) s)
  dropped may =
      let first : MaySteps g s (Put dir slot free_slot ∷ []) = (may.0, tt) in
      stays g (after (Put dir slot free_slot) s) (cleared_sound g s dir slot d sound stood first) (Freed d.inode) may.1.0 (λ other p e apart at. gone g s dir slot d sound stood first other p e at)

  pub moved : (to : ℕ) (new : Slot) (e : DentryForm) → e.inode ≡ d.inode → e.kind ≡ d.kind → IsName e.name → MaySteps g s (moving dir slot to new e)
      → entry_of (slots_at (after (Put dir slot free_slot) s).table to) e.name ≡ None → HasSoundNames g (after_all (moving dir slot to new e) s)
  moved to new e inode kind name may none =
      let first : MaySteps g s (Put dir slot free_slot ∷ []) = (may.0, tt) in
      let fit = sound.fit dir (place_of (blocks_at s.table dir) slot) d stood in
      let fits : FitsName g (after (Put dir slot free_slot) s) e = record {
        plain = plain e.name name;
        in_range = subst (λ n. IsInode g n) (sym inode) fit.in_range;
        kind = ap s.kinds inode ∙ fit.kind ∙ sym kind;
        used = λ nothing. fit.used (sym kind ∙ nothing);
        no_root = λ root. fit.no_root (sym inode ∙ root);
      } in
      stays g (after (Put dir slot free_slot) s) (cleared_sound g s dir slot d sound stood first) (Put to new e) may.1.0 (inr (record {
        fits = fits;
        name = λ p x at same. absurd (absent g (after (Put dir slot free_slot) s) to p e x none at same);
        inode = λ other p x at same. absurd (gone g s dir slot d sound stood first other p x at (same ∙ inode));
      }))
