-- A file's new form leaves the directories as they are.
use Rattle.std.proofs.Common.{◌≡◌, ◌≢◌, ℕ, ◌⊎◌, inl, inr, [], true, false, Some, length, ap, sym, refl, ◌∙◌, subst, arith}
use Rattle.std.specs.Prelude.{◌==◌, ◌&&◌, not, flat_map, if◌then◌else◌}
use Rattle.std.specs.List.{slice_get}
use Rattle.std.proofs.lemmas.Bool.{cases_eq}
use Rattle.ufs_layout.specs.Areas.{is_inode_number}
use Rattle.ufs_layout.specs.InodeForm.{InodeForm}
use Rattle.ufs_layout.specs.declared.geometry.Geometry.{Geometry}
use Rattle.ufs_image.specs.Nodes.{blocks_of}
use Rattle.ufs_image.specs.Changes.{MayBecome}
use Rattle.ufs_image.specs.Catalog.{Catalog, HasBlock, HasSlots, slots_in}
use Rattle.ufs_dir_laws.specs.Tables.{dir_blocks}
use Rattle.ufs_dir_tree.specs.Steps.{DirState}
use Rattle.ufs_promise_laws.specs.Held.{HasState, HasSoundForms}
use Rattle.ufs_promise_laws.proofs.Forms.{reformed, form_here, form_else, block_now, kept_forms}
use Rattle.ufs_promise_laws.proofs.Tabled.{kept_table}

module _ (g : Geometry) (c : Catalog) (s : DirState) (inode : ℕ) (form : InodeForm) (has : HasState g c s) (may : MayBecome g c inode form)
    (off : (place block : ℕ) → slice_get (blocks_of form) place ≡ Some block → s.zeroed block ≡ false) where
  abbrev d : Catalog
  d = reformed c inode form

  forms : HasSoundForms g d
  forms = kept_forms c inode form g has.forms (λ root. let dir = ap (λ k. (c.forms k).kind) root ∙ has.forms.root in let file = may.was_file in absurd (omega (arith, dir, file))) may.in_data may.once may.apart may.room
      (λ dir. let file = may.file in absurd (omega (arith, dir, file)))

  kind_now : (d.forms inode).kind ≡ 1
  kind_now = ap (λ (f : InodeForm). f.kind) (form_here c inode form) ∙ may.file

  no_slots : (x : Catalog) → (x.forms inode).kind ≡ 1 → slots_in x inode ≡ []
  no_slots x file = ap (λ k. if k == 2 then flat_map x.slots (blocks_of (x.forms inode)) else []) file

  no_blocks : (x : Catalog) → (x.forms inode).kind ≡ 1 → dir_blocks x inode ≡ []
  no_blocks x file = ap (λ k. if k == 2 then blocks_of (x.forms inode) else []) file

  same_kind : (k : ℕ) → (d.forms k).kind ≡ (c.forms k).kind
  same_kind k = by (cases_eq k inode)
    where
      by : (k ≡ inode) ⊎ (k ≢ inode) → (d.forms k).kind ≡ (c.forms k).kind
      by (inl same) = subst (λ n. (d.forms n).kind ≡ (c.forms n).kind) (sym same) (kind_now ∙ sym may.was_file)
      by (inr other) = ap (λ (f : InodeForm). f.kind) (form_else c inode form k other)

  all_sized : (dir : ℕ) → (d.forms dir).kind ≡ 2 → HasSlots g d dir
  all_sized dir is block place at = by (block_now c inode form g dir place block at)
    where
      by : ((dir ≡ inode) × (slice_get (blocks_of form) place ≡ Some block)) ⊎ ((dir ≢ inode) × HasBlock g c dir place block) → length (c.slots block) ≡ 64
      by (inl now) = let file = ap (λ k. (d.forms k).kind) now.0 ∙ kind_now in absurd (omega (arith, is, file))
      by (inr was) = has.sized dir (sym (same_kind dir) ∙ is) block place was.1

  unheld : (block k place : ℕ) → s.zeroed block ≡ true → HasBlock g d k place block → ⊥
  unheld block k place is_zero at = by (block_now c inode form g k place block at)
    where
      by : ((k ≡ inode) × (slice_get (blocks_of form) place ≡ Some block)) ⊎ ((k ≢ inode) × HasBlock g c k place block) → ⊥
      by (inl now) = let clash : true ≡ false = sym is_zero ∙ off place block now.1 in cc
      by (inr was) = (has.zeroed block is_zero).unheld k place was.1

  pub file_state : HasState g d s
  file_state = record {
    forms = forms;
    table = kept_table g c d s.table s.table inode may.in_range has.table refl (λ k other. refl)
        (has.table.slots inode may.in_range ∙ no_slots c may.was_file ∙ sym (no_slots d kind_now))
        (has.table.blocks inode may.in_range ∙ no_blocks c may.was_file ∙ sym (no_blocks d kind_now))
        (λ k in_range other. ap (λ (f : InodeForm). if f.kind == 2 then flat_map c.slots (blocks_of f) else []) (form_else c inode form k other))
        (λ k other. ap (λ (f : InodeForm). if f.kind == 2 then blocks_of f else []) (form_else c inode form k other))
        (λ k. has.table.free k ∙ ap (λ kind. not (not (kind == 0)) && is_inode_number g k) (sym (same_kind k)));
    kinds = λ k in_range. same_kind k ∙ has.kinds k in_range;
    sized = all_sized;
    zeroed = λ block is_zero. let was = has.zeroed block is_zero in record { from = was.from; under = was.under; slots = was.slots; unheld = λ k place. unheld block k place is_zero };
  }
