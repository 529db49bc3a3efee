-- An inode gets another form: what holds then of the forms and blocks.
use Rattle.std.proofs.Common.{◌≡◌, ◌≢◌, ℕ, ◌*◌, ◌≤◌, ◌⊎◌, inl, inr, true, Some, length, ap, sym, ◌∙◌, subst, arith}
use Rattle.std.specs.Prelude.{◌==◌, if◌then◌else◌}
use Rattle.std.specs.List.{slice_get, AllByRecursion}
use Rattle.std.proofs.lemmas.Bool.{cases_eq}
use Rattle.std.proofs.lemmas.Bool.Decides.{nat_tests}
use Rattle.ufs_layout.specs.InodeForm.{InodeForm}
use Rattle.ufs_layout.specs.declared.geometry.Geometry.{Geometry}
use Rattle.ufs_image.specs.Nodes.{blocks_of}
use Rattle.ufs_image.specs.Catalog.{Catalog, HasBlock}
use Rattle.ufs_image.specs.Sound.{IsInData}
use Rattle.ufs_image.specs.Folding.{with_form}
use Rattle.ufs_image.proofs.Empty.{apart_false}
use Rattle.ufs_promise_laws.specs.Held.{HasSoundForms}

module _ (c : Catalog) (inode : ℕ) (form : InodeForm) where
  abbrev pub reformed : Catalog
  reformed = with_form inode form c

  pub form_here : reformed.forms inode ≡ form
  form_here = let t : (inode == inode) ≡ true = grind (arith, nat_tests) in ap (λ b. if b then form else c.forms inode) t

  pub form_else : (k : ℕ) → k ≢ inode → reformed.forms k ≡ c.forms k
  form_else k other = ap (λ b. if b then form else c.forms k) (apart_false k inode other)

  -- what holds of the new form, and of each other one
  pub each_form : (P : ℕ → InodeForm → Type 0) → P inode form → (k : ℕ) → P k (c.forms k) → P k (reformed.forms k)
  each_form P here k was = by (cases_eq k inode)
    where
      by : (k ≡ inode) ⊎ (k ≢ inode) → P k (reformed.forms k)
      by (inl same) = subst (λ n. P n (reformed.forms n)) (sym same) (subst (P inode) (sym form_here) here)
      by (inr other) = subst (P k) (sym (form_else k other)) was

  -- a block that is there now
  pub block_now : (g : Geometry) (k p block : ℕ) → HasBlock g reformed k p block → ((k ≡ inode) × (slice_get (blocks_of form) p ≡ Some block)) ⊎ ((k ≢ inode) × HasBlock g c k p block)
  block_now g k p block has = by (cases_eq k inode)
    where
      by : (k ≡ inode) ⊎ (k ≢ inode) → ((k ≡ inode) × (slice_get (blocks_of form) p ≡ Some block)) ⊎ ((k ≢ inode) × HasBlock g c k p block)
      by (inl same) = inl (same, ap (λ (f : InodeForm). slice_get (blocks_of f) p) (sym (ap reformed.forms same ∙ form_here)) ∙ has.there)
      by (inr other) = inr (other, record { in_range = has.in_range; there = ap (λ (f : InodeForm). slice_get (blocks_of f) p) (sym (form_else k other)) ∙ has.there })

  module _ (g : Geometry) (sound : HasSoundForms g c)
      (root : inode ≡ 1 → form.kind ≡ 2)
      (in_data : AllByRecursion (IsInData g) form.extents)
      (once : (p q block : ℕ) → slice_get (blocks_of form) p ≡ Some block → slice_get (blocks_of form) q ≡ Some block → p ≡ q)
      (apart : (p j q block : ℕ) → slice_get (blocks_of form) p ≡ Some block → HasBlock g c j q block → j ≡ inode)
      (room : form.size ≤ 4096 * length (blocks_of form))
      (whole : form.kind ≡ 2 → form.size ≡ 4096 * length (blocks_of form)) where
    now_once : (i j p q block : ℕ) → ((i ≡ inode) × (slice_get (blocks_of form) p ≡ Some block)) ⊎ ((i ≢ inode) × HasBlock g c i p block)
        → ((j ≡ inode) × (slice_get (blocks_of form) q ≡ Some block)) ⊎ ((j ≢ inode) × HasBlock g c j q block) → (i ≡ j) × (p ≡ q)
    now_once i j p q block (inl a) (inl b) = (a.0 ∙ sym b.0, once p q block a.1 b.1)
    now_once i j p q block (inl a) (inr b) = absurd (b.0 (apart p j q block a.1 b.1))
    now_once i j p q block (inr a) (inl b) = absurd (a.0 (apart q i p block b.1 a.1))
    now_once i j p q block (inr a) (inr b) = sound.blocks_once i j p q block a.1 b.1

    is_root : (reformed.forms 1).kind ≡ 2
    is_root = by (cases_eq 1 inode)
      where
        by : (1 ≡ inode) ⊎ (1 ≢ inode) → (reformed.forms 1).kind ≡ 2
        by (inl same) = ap (λ (f : InodeForm). f.kind) (ap reformed.forms same ∙ form_here) ∙ root (sym same)
        by (inr other) = ap (λ (f : InodeForm). f.kind) (form_else 1 other) ∙ sound.root

    pub kept_forms : HasSoundForms g reformed
    kept_forms = record {
      root = is_root;
      in_data = λ k inside. each_form (λ n f. AllByRecursion (IsInData g) f.extents) in_data k (sound.in_data k inside);
      blocks_once = λ i j p q block a b. now_once i j p q block (block_now g i p block a) (block_now g j q block b);
      room = λ k inside. each_form (λ n f. f.size ≤ 4096 * length (blocks_of f)) room k (sound.room k inside);
      whole = λ k inside. each_form (λ n f. f.kind ≡ 2 → f.size ≡ 4096 * length (blocks_of f)) whole k (sound.whole k inside);
    }
