-- An inode becomes one without blocks: it is born, or freed.
use Rattle.std.proofs.Common.{◌≡◌, ◌≢◌, ℕ, ◌⊎◌, inl, inr, List, [], ◌∷◌, Bool, true, false, Some, length, ap, sym, refl, ◌∙◌, subst, arith}
use Rattle.std.specs.Prelude.{◌==◌, ◌&&◌, not, flat_map, if◌then◌else◌}
use Rattle.std.specs.List.{slice_get, AllByRecursion}
use Rattle.std.specs.FinSet as set
use Rattle.std.proofs.lemmas.Bool.{cases_eq}
use Rattle.std.proofs.lemmas.Bool.Decides.{nat_tests}
use Rattle.ufs_layout.specs.Areas.{is_inode_number}
use Rattle.ufs_layout.specs.InodeForm.{InodeForm, is_used}
use Rattle.ufs_layout.specs.declared.inode.Extent.{Extent}
use Rattle.ufs_layout.specs.declared.geometry.Geometry.{Geometry}
use Rattle.ufs_image.specs.Nodes.{blocks_of}
use Rattle.ufs_image.specs.Catalog.{Catalog, IsInode, HasBlock, HasSlots, slots_in}
use Rattle.ufs_image.specs.Sound.{IsInData}
use Rattle.ufs_dirs.specs.Directory.{Directory}
use Rattle.ufs_dir_tree.specs.DirTable.{DirTable, InodeSet, no_dir, dir_at}
use Rattle.ufs_dir_laws.specs.Tables.{dir_blocks, is_free_inode}
use Rattle.ufs_dir_tree.specs.Steps.{DirState, with_kind}
use Rattle.ufs_promise_laws.specs.Held.{HasState, HasSoundForms}
use Rattle.ufs_promise_laws.proofs.Forms.{reformed, form_here, form_else, block_now, kept_forms}
use Rattle.ufs_promise_laws.proofs.Tabled.{kept_table}

-- no block at any place
none_at : (blocks : List ℕ) (p block : ℕ) → blocks ≡ [] → slice_get blocks p ≡ Some block → ⊥
none_at [] p block e at = let no = at in cc
none_at (x ∷ xs) p block e at = let no = e in cc

module _ (g : Geometry) (c : Catalog) (s : DirState) (has : HasState g c s) (inode : ℕ) (form : InodeForm) (dirs : List Directory) (free : InodeSet)
    (inside : IsInode g inode) (bare : form.extents ≡ []) (sized : form.size ≡ 0) (root : inode ≡ 1 → form.kind ≡ 2)
    (counted : length dirs ≡ length s.table.dirs)
    (others : (k : ℕ) → k ≢ inode → dir_at (record { dirs = dirs; free = free }) k ≡ dir_at s.table k)
    (here : dir_at (record { dirs = dirs; free = free }) inode ≡ no_dir)
    (free_here : set.contains free inode ≡ not (is_used form))
    (free_else : (k : ℕ) → k ≢ inode → set.contains free k ≡ set.contains s.table.free k) where
  abbrev d : Catalog
  d = reformed c inode form

  abbrev u : DirTable
  u = record { dirs = dirs; free = free }

  no_blocks : blocks_of form ≡ []
  no_blocks = ap (λ (es : List Extent). blocks_of (record { kind = form.kind; extents = es; size = form.size; number = form.number })) bare

  forms : HasSoundForms g d
  forms = kept_forms c inode form g has.forms root (subst (AllByRecursion (IsInData g)) (sym bare) tt) (λ p q block a b. absurd (none_at (blocks_of form) p block no_blocks a)) (λ p j q block a b. absurd (none_at (blocks_of form) p block no_blocks a))
      (let none = ap length no_blocks in omega (arith, sized, none)) (λ is. let none = ap length no_blocks in omega (arith, sized, none))

  slots_here : slots_in d inode ≡ []
  slots_here = ap (λ (f : InodeForm). if f.kind == 2 then flat_map c.slots (blocks_of f) else []) (form_here c inode form) ∙ ap (λ bs. if form.kind == 2 then flat_map c.slots bs else []) no_blocks ∙ by (form.kind == 2)
    where
      by : (b : Bool) → (if b then flat_map c.slots [] else []) ≡ []
      by true = refl
      by false = refl

  blocks_here : dir_blocks d inode ≡ []
  blocks_here = ap (λ (f : InodeForm). if f.kind == 2 then blocks_of f else []) (form_here c inode form) ∙ ap (λ (bs : List ℕ). if form.kind == 2 then bs else []) no_blocks ∙ by (form.kind == 2)
    where
      nothing : List ℕ
      nothing = []

      by : (b : Bool) → (if b then nothing else []) ≡ nothing
      by true = refl
      by false = refl

  inside_number : is_inode_number g inode ≡ true
  inside_number = let from = inside.from_one in let most = inside.within in grind (arith, nat_tests, from, most)

  free_now : (k : ℕ) → set.contains free k ≡ is_free_inode g d k
  free_now k = by (cases_eq k inode)
    where
      and_true : (b : Bool) → (b && true) ≡ b
      and_true true = refl
      and_true false = refl

      by : (k ≡ inode) ⊎ (k ≢ inode) → set.contains free k ≡ is_free_inode g d k
      by (inl same) = subst (λ n. set.contains free n ≡ is_free_inode g d n) (sym same)
          (free_here ∙ sym (ap (λ (f : InodeForm). not (is_used f) && is_inode_number g inode) (form_here c inode form) ∙ ap (λ b. not (is_used form) && b) inside_number ∙ and_true (not (is_used form))))
      by (inr other) = free_else k other ∙ has.table.free k ∙ sym (ap (λ (f : InodeForm). not (is_used f) && is_inode_number g k) (form_else c inode form k other))

  kinds : (k : ℕ) → IsInode g k → (d.forms k).kind ≡ with_kind inode form.kind s.kinds k
  kinds k in_range = by (cases_eq k inode)
    where
      by : (k ≡ inode) ⊎ (k ≢ inode) → (d.forms k).kind ≡ with_kind inode form.kind s.kinds k
      by (inl same) = subst (λ n. (d.forms n).kind ≡ with_kind inode form.kind s.kinds n) (sym same)
          (ap (λ (f : InodeForm). f.kind) (form_here c inode form) ∙ sym (let t : (inode == inode) ≡ true = grind (arith, nat_tests) in ap (λ b. if b then form.kind else s.kinds inode) t))
      by (inr other) = ap (λ (f : InodeForm). f.kind) (form_else c inode form k other) ∙ has.kinds k in_range
          ∙ sym (let t : (k == inode) ≡ false = grind (arith, nat_tests, other) in ap (λ b. if b then form.kind else s.kinds k) t)

  all_sized : (dir : ℕ) → (d.forms dir).kind ≡ 2 → HasSlots g d dir
  all_sized dir is block place at = by (block_now c inode form g dir place block at)
    where
      by : ((dir ≡ inode) × (slice_get (blocks_of form) place ≡ Some block)) ⊎ ((dir ≢ inode) × HasBlock g c dir place block) → length (c.slots block) ≡ 64
      by (inl now) = absurd (none_at (blocks_of form) place block no_blocks now.1)
      by (inr was) = has.sized dir (ap (λ (f : InodeForm). f.kind) (sym (form_else c inode form dir was.0)) ∙ is) block place was.1

  unheld : (block k place : ℕ) → s.zeroed block ≡ true → HasBlock g d k place block → ⊥
  unheld block k place is_zero at = by (block_now c inode form g k place block at)
    where
      by : ((k ≡ inode) × (slice_get (blocks_of form) place ≡ Some block)) ⊎ ((k ≢ inode) × HasBlock g c k place block) → ⊥
      by (inl now) = none_at (blocks_of form) place block no_blocks now.1
      by (inr was) = (has.zeroed block is_zero).unheld k place was.1

  pub bare_state : HasState g d (record { table = u; kinds = with_kind inode form.kind s.kinds; zeroed = s.zeroed })
  bare_state = record {
    forms = forms;
    table = kept_table g c d s.table u inode inside has.table counted others (ap (λ (x : Directory). x.slots) here ∙ sym slots_here) (ap (λ (x : Directory). x.blocks) here ∙ sym blocks_here)
        (λ k in_range other. ap (λ (f : InodeForm). if f.kind == 2 then flat_map c.slots (blocks_of f) else []) (form_else c inode form k other))
        (λ k other. ap (λ (f : InodeForm). if f.kind == 2 then blocks_of f else []) (form_else c inode form k other))
        free_now;
    kinds = kinds;
    sized = all_sized;
    zeroed = λ block zero. let was = has.zeroed block zero in record { from = was.from; under = was.under; slots = was.slots; unheld = λ k place. unheld block k place zero };
  }
