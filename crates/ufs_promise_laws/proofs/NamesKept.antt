-- Steps that leave the names sound.
use Rattle.std.proofs.Common.{◌≡◌, ◌≢◌, ℕ, zero, suc, ◌<◌, ◌≤◌, ◌⊎◌, inl, inr, List, [], ◌∷◌, ◌++◌, true, false, Some, length, replicate, set, get_or, leb, ap, sym, refl, ◌∙◌, subst, arith}
use Rattle.std.specs.Prelude.{◌==◌, if◌then◌else◌}
use Rattle.std.specs.List.{slice_get}
use Rattle.std.proofs.lemmas.Bool.{cases_eq}
use Rattle.std.proofs.lemmas.Bool.Decides.{nat_tests, leb_tells}
use Rattle.std.proofs.lemmas.List.{get_or-set_same, get_or-set_other, get_or_past}
use Rattle.ufs_layout.specs.DentryForm.{DentryForm, free_slot, is_named}
use Rattle.ufs_layout.specs.declared.geometry.Geometry.{Geometry}
use Rattle.ufs_dirs.specs.Directory.{Directory}
use Rattle.ufs_dirs.specs.Changes.{place_of, with_entry}
use Rattle.ufs_dirs.specs.declared.Slot.{Slot}
use Rattle.ufs_dir_tree.specs.DirTable.{no_dir, dir_at, slots_at, blocks_at}
use Rattle.ufs_dir_tree.specs.Steps.{DirState, Step, Born, Grown, Put, Freed, grown, with_kind, after}
use Rattle.ufs_promise_laws.specs.Held.{HasName, FitsName, HasSoundNames, MayPut, MayStep}
use Rattle.ufs_promise_laws.specs.Names.{IsNewName, IsNameless, KeepsNames}
use Rattle.ufs_promise_laws.proofs.Covers.{set_or_same}

-- ---- what stands in a list

get_set : {X : Type 0} (xs : List X) (k p : ℕ) (x y : X) → slice_get (set xs k x) p ≡ Some y → ((p ≡ k) × (y ≡ x)) ⊎ ((p ≢ k) × (slice_get xs p ≡ Some y))
get_set [] k p x y e = let no = e in cc
get_set (z ∷ zs) zero zero x y e = inl (refl, cc)
get_set (z ∷ zs) zero (suc p) x y e = inr ((λ same. omega (arith, same)), e)
get_set (z ∷ zs) (suc k) zero x y e = inr ((λ same. omega (arith, same)), e)
get_set (z ∷ zs) (suc k) (suc p) x y e = by (get_set zs k p x y e)
  where
    by : ((p ≡ k) × (y ≡ x)) ⊎ ((p ≢ k) × (slice_get zs p ≡ Some y)) → ((suc p ≡ suc k) × (y ≡ x)) ⊎ ((suc p ≢ suc k) × (slice_get (z ∷ zs) (suc p) ≡ Some y))
    by (inl a) = inl (ap suc a.0, a.1)
    by (inr a) = inr ((λ same. a.0 (omega (arith, same))), a.1)

get_append : {X : Type 0} (xs ys : List X) (p : ℕ) (y : X) → slice_get (xs ++ ys) p ≡ Some y → (slice_get xs p ≡ Some y) ⊎ ((q : ℕ) × (slice_get ys q ≡ Some y))
get_append [] ys p y e = inr (p, e)
get_append (x ∷ xs) ys zero y e = inl e
get_append (x ∷ xs) ys (suc p) y e = get_append xs ys p y e

get_replicate : {X : Type 0} (n : ℕ) (x y : X) (q : ℕ) → slice_get (replicate n x) q ≡ Some y → y ≡ x
get_replicate zero x y q e = let no = e in cc
get_replicate (suc n) x y zero e = cc
get_replicate (suc n) x y (suc q) e = get_replicate n x y q e

-- what stands where it was set is that, also behind the end
set_none : {X : Type 0} (xs : List X) (i : ℕ) (x : X) → get_or (set xs i x) i x ≡ x
set_none [] i x = refl
set_none (y ∷ ys) zero x = refl
set_none (y ∷ ys) (suc i) x = set_none ys i x

-- a directory of which a slot is set has a place in the table
module _ (g : Geometry) (s : DirState) (i : ℕ) (slot : Slot) (d : DentryForm) (may : MayPut g s i slot d) where
  pub has_dir : i < length s.table.dirs
  has_dir = by (leb_tells (length s.table.dirs) i)
    where
      by : ((leb (length s.table.dirs) i ≡ true) × (length s.table.dirs ≤ i)) ⊎ ((leb (length s.table.dirs) i ≡ false) × (i < length s.table.dirs)) → i < length s.table.dirs
      by (inl high) =
          let none = ap (λ (x : Directory). length x.slots) (get_or_past s.table.dirs i no_dir high.1) in
          let inside = may.in_dir.in_blocks in
          absurd (omega (arith, none, inside))
      by (inr low) = low.1

  -- what stands there then: the new one in its slot, and elsewhere what stood there
  pub set_name : (dir p : ℕ) (e : DentryForm) → HasName g (after (Put i slot d) s) dir p e
      → ((dir ≡ i) × (p ≡ place_of (blocks_at s.table i) slot) × (e ≡ d)) ⊎ (HasName g s dir p e × (dir ≡ i → p ≢ place_of (blocks_at s.table i) slot))
  set_name dir p e at = by (cases_eq dir i)
    where
      here : ((p ≡ place_of (blocks_at s.table i) slot) × (e ≡ d)) ⊎ ((p ≢ place_of (blocks_at s.table i) slot) × (slice_get (slots_at s.table i) p ≡ Some e)) → dir ≡ i
          → ((dir ≡ i) × (p ≡ place_of (blocks_at s.table i) slot) × (e ≡ d)) ⊎ (HasName g s dir p e × (dir ≡ i → p ≢ place_of (blocks_at s.table i) slot))
      here (inl new) same = inl (same, new.0, new.1)
      here (inr old) same = inr (record { in_range = at.in_range; there = subst (λ n. slice_get (slots_at s.table n) p ≡ Some e) (sym same) old.1; named = at.named }, λ is. old.0)

      by : (dir ≡ i) ⊎ (dir ≢ i) → ((dir ≡ i) × (p ≡ place_of (blocks_at s.table i) slot) × (e ≡ d)) ⊎ (HasName g s dir p e × (dir ≡ i → p ≢ place_of (blocks_at s.table i) slot))
      by (inl same) =
          let now : dir_at (after (Put i slot d) s).table dir ≡ with_entry (dir_at s.table i) slot d = ap (dir_at (after (Put i slot d) s).table) same ∙ get_or-set_same s.table.dirs i (with_entry (dir_at s.table i) slot d) no_dir has_dir in
          here (get_set (slots_at s.table i) (place_of (blocks_at s.table i) slot) p d e (ap (λ (x : Directory). slice_get x.slots p) (sym now) ∙ at.there)) same
      by (inr other) = inr (record { in_range = at.in_range; there = ap (λ (x : Directory). slice_get x.slots p) (sym (get_or-set_other s.table.dirs i dir (with_entry (dir_at s.table i) slot d) no_dir other)) ∙ at.there; named = at.named }, λ is. absurd (other is))

module _ (g : Geometry) (s : DirState) (sound : HasSoundNames g s) where
  -- names that were there, with kinds that their inodes still have
  kept : (t : DirState) → ((dir p : ℕ) (e : DentryForm) → HasName g t dir p e → HasName g s dir p e × (t.kinds e.inode ≡ s.kinds e.inode)) → HasSoundNames g t
  kept t was = record {
    fit = λ dir p e at. let old = was dir p e at in let fit = sound.fit dir p e old.0 in record { plain = fit.plain; in_range = fit.in_range; kind = old.1 ∙ fit.kind; used = fit.used; no_root = fit.no_root };
    names_once = λ dir p q d e a b. sound.names_once dir p q d e (was dir p d a).0 (was dir q e b).0;
    inodes_once = λ dir other p q d e a b. sound.inodes_once dir other p q d e (was dir p d a).0 (was other q e b).0;
  }

  other_kind : (i kind k : ℕ) → k ≢ i → with_kind i kind s.kinds k ≡ s.kinds k
  other_kind i kind k other = let t : (k == i) ≡ false = grind (arith, nat_tests, other) in ap (λ b. if b then kind else s.kinds k) t

  born : (i kind : ℕ) → s.kinds i ≡ 0 → HasSoundNames g (after (Born i kind) s)
  born i kind none = kept (after (Born i kind) s) (λ dir p e at. let old : HasName g s dir p e = record { in_range = at.in_range; there = at.there; named = at.named } in (old, other_kind i kind e.inode (off dir p e old)))
    where
      off : (dir p : ℕ) (e : DentryForm) → HasName g s dir p e → e.inode ≢ i
      off dir p e at same = let fit = sound.fit dir p e at in fit.used (sym fit.kind ∙ ap s.kinds same ∙ none)

  grown_names : (i block : ℕ) → HasSoundNames g (after (Grown i block) s)
  grown_names i block = kept (after (Grown i block) s) (λ dir p e at. (old dir p e at, refl))
    where
      old : (dir p : ℕ) (e : DentryForm) → HasName g (after (Grown i block) s) dir p e → HasName g s dir p e
      old dir p e at = by (cases_eq dir i)
        where
          new : (slice_get (slots_at s.table i) p ≡ Some e) ⊎ ((q : ℕ) × (slice_get (replicate 64 free_slot) q ≡ Some e)) → slice_get (slots_at s.table i) p ≡ Some e
          new (inl there) = there
          new (inr free) = let is : e ≡ free_slot = get_replicate 64 free_slot e free.0 free.1 in let no : true ≡ false = sym at.named ∙ ap is_named is in absurd cc

          here : (dir_at (after (Grown i block) s).table i ≡ grown block (dir_at s.table i)) ⊎ (dir_at (after (Grown i block) s).table i ≡ dir_at s.table i) → slice_get (slots_at (after (Grown i block) s).table i) p ≡ Some e → slice_get (slots_at s.table i) p ≡ Some e
          here (inl set') there = new (get_append (slots_at s.table i) (replicate 64 free_slot) p e (ap (λ (d : Directory). slice_get d.slots p) (sym set') ∙ there))
          here (inr same) there = ap (λ (d : Directory). slice_get d.slots p) (sym same) ∙ there

          by : (dir ≡ i) ⊎ (dir ≢ i) → HasName g s dir p e
          by (inl same) = record {
            in_range = at.in_range;
            there = subst (λ n. slice_get (slots_at s.table n) p ≡ Some e) (sym same)
                (here (set_or_same s.table.dirs i i (grown block (dir_at s.table i)) no_dir) (subst (λ n. slice_get (slots_at (after (Grown i block) s).table n) p ≡ Some e) same at.there));
            named = at.named;
          }
          by (inr other) = record { in_range = at.in_range; there = ap (λ (d : Directory). slice_get d.slots p) (sym (get_or-set_other s.table.dirs i dir (grown block (dir_at s.table i)) no_dir other)) ∙ at.there; named = at.named }

  freed : (i : ℕ) → IsNameless g s i → HasSoundNames g (after (Freed i) s)
  freed i nameless = kept (after (Freed i) s) (λ dir p e at. let o = old dir p e at in (o.1, other_kind i 0 e.inode (nameless dir p e o.0 o.1)))
    where
      old : (dir p : ℕ) (e : DentryForm) → HasName g (after (Freed i) s) dir p e → (dir ≢ i) × HasName g s dir p e
      old dir p e at = by (cases_eq dir i)
        where
          by : (dir ≡ i) ⊎ (dir ≢ i) → (dir ≢ i) × HasName g s dir p e
          by (inl same) =
              let gone : dir_at (after (Freed i) s).table dir ≡ no_dir = ap (dir_at (after (Freed i) s).table) same ∙ set_none s.table.dirs i no_dir in
              let nothing : slice_get no_dir.slots p ≡ Some e = ap (λ (d : Directory). slice_get d.slots p) (sym gone) ∙ at.there in
              absurd cc
          by (inr other) = (other, record { in_range = at.in_range; there = ap (λ (d : Directory). slice_get d.slots p) (sym (get_or-set_other s.table.dirs i dir no_dir no_dir other)) ∙ at.there; named = at.named })

  -- ---- a slot is set

  module _ (i : ℕ) (slot : Slot) (d : DentryForm) (may : MayPut g s i slot d) where
    abbrev place : ℕ
    place = place_of (blocks_at s.table i) slot

    which : (dir p : ℕ) (e : DentryForm) → HasName g (after (Put i slot d) s) dir p e → ((dir ≡ i) × (p ≡ place) × (e ≡ d)) ⊎ HasName g s dir p e
    which dir p e at = forget (set_name g s i slot d may dir p e at)
      where
        forget : ((dir ≡ i) × (p ≡ place) × (e ≡ d)) ⊎ (HasName g s dir p e × (dir ≡ i → p ≢ place)) → ((dir ≡ i) × (p ≡ place) × (e ≡ d)) ⊎ HasName g s dir p e
        forget (inl now) = inl now
        forget (inr was) = inr was.0

    cleared : d ≡ free_slot → HasSoundNames g (after (Put i slot d) s)
    cleared free = kept (after (Put i slot d) s) (λ dir p e at. (old dir p e at (which dir p e at), refl))
      where
        old : (dir p : ℕ) (e : DentryForm) → HasName g (after (Put i slot d) s) dir p e → ((dir ≡ i) × (p ≡ place) × (e ≡ d)) ⊎ HasName g s dir p e → HasName g s dir p e
        old dir p e at (inl new) = let no : true ≡ false = sym at.named ∙ ap is_named (new.2 ∙ free) in absurd cc
        old dir p e at (inr was) = was

    named : IsNewName g s i slot d → HasSoundNames g (after (Put i slot d) s)
    named new = record {
      fit = λ dir p e at. fit dir p e (which dir p e at);
      names_once = λ dir p q a b u v same. names dir p q a b (which dir p a u) (which dir q b v) same;
      inodes_once = λ dir other p q a b u v same. inodes dir other p q a b (which dir p a u) (which other q b v) same;
    }
      where
        moved : (e : DentryForm) → FitsName g s e → FitsName g (after (Put i slot d) s) e
        moved e fits = record { plain = fits.plain; in_range = fits.in_range; kind = fits.kind; used = fits.used; no_root = fits.no_root }

        fit : (dir p : ℕ) (e : DentryForm) → ((dir ≡ i) × (p ≡ place) × (e ≡ d)) ⊎ HasName g s dir p e → FitsName g (after (Put i slot d) s) e
        fit dir p e (inl now) = moved e (subst (FitsName g s) (sym now.2) new.fits)
        fit dir p e (inr was) = moved e (sound.fit dir p e was)

        names : (dir p q : ℕ) (a b : DentryForm) → ((dir ≡ i) × (p ≡ place) × (a ≡ d)) ⊎ HasName g s dir p a → ((dir ≡ i) × (q ≡ place) × (b ≡ d)) ⊎ HasName g s dir q b → a.name ≡ b.name → p ≡ q
        names dir p q a b (inl u) (inl v) same = u.1 ∙ sym v.1
        names dir p q a b (inl u) (inr v) same = u.1 ∙ sym (new.name q b (subst (λ n. HasName g s n q b) u.0 v) (sym same ∙ ap (λ (x : DentryForm). x.name) u.2))
        names dir p q a b (inr u) (inl v) same = new.name p a (subst (λ n. HasName g s n p a) v.0 u) (same ∙ ap (λ (x : DentryForm). x.name) v.2) ∙ sym v.1
        names dir p q a b (inr u) (inr v) same = sound.names_once dir p q a b u v same

        inodes : (dir other p q : ℕ) (a b : DentryForm) → ((dir ≡ i) × (p ≡ place) × (a ≡ d)) ⊎ HasName g s dir p a → ((other ≡ i) × (q ≡ place) × (b ≡ d)) ⊎ HasName g s other q b → a.inode ≡ b.inode → (dir ≡ other) × (p ≡ q)
        inodes dir other p q a b (inl u) (inl v) same = (u.0 ∙ sym v.0, u.1 ∙ sym v.1)
        inodes dir other p q a b (inl u) (inr v) same = let at = new.inode other q b v (sym same ∙ ap (λ (x : DentryForm). x.inode) u.2) in (u.0 ∙ sym at.0, u.1 ∙ sym at.1)
        inodes dir other p q a b (inr u) (inl v) same = let at = new.inode dir p a u (same ∙ ap (λ (x : DentryForm). x.inode) v.2) in (at.0 ∙ sym v.0, at.1 ∙ sym v.1)
        inodes dir other p q a b (inr u) (inr v) same = sound.inodes_once dir other p q a b u v same

    put : (d ≡ free_slot) ⊎ IsNewName g s i slot d → HasSoundNames g (after (Put i slot d) s)
    put (inl free) = cleared free
    put (inr new) = named new

  -- ---- any step

  pub stays : (x : Step) → MayStep g s x → KeepsNames g s x → HasSoundNames g (after x s)
  stays (Born i kind) may keeps = born i kind keeps
  stays (Grown i block) may keeps = grown_names i block
  stays (Put i slot d) may keeps = put i slot d may keeps
  stays (Freed i) may keeps = freed i keeps
