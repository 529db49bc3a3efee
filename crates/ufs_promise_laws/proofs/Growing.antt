-- A directory takes a block behind its others.
use Rattle.std.proofs.Common.{◌≡◌, ◌≢◌, ℕ, zero, suc, ◌*◌, ◌<◌, ◌⊎◌, inl, inr, List, [], ◌∷◌, ◌++◌, Bool, true, false, Some, length, replicate, ap, sym, refl, ◌∙◌, subst, arith}
use Rattle.std.specs.Prelude.{◌==◌, ◌&&◌, not, flat_map, if◌then◌else◌}
use Rattle.std.specs.List.{slice_get}
use Rattle.std.specs.FinSet as sets
use Rattle.std.proofs.lemmas.Bool.{cases_eq}
use Rattle.std.proofs.lemmas.Bool.Decides.{nat_tests}
use Rattle.std.proofs.lemmas.Grind.{flat_map-append}
use Rattle.std.proofs.lemmas.List.{append-nil, get_or-set_same, get_or-set_other, length-set}
use Rattle.ufs_layout.specs.Areas.{is_inode_number}
use Rattle.ufs_layout.specs.DentryForm.{DentryForm, free_slot}
use Rattle.ufs_layout.specs.InodeForm.{InodeForm, is_used}
use Rattle.ufs_layout.specs.declared.geometry.Geometry.{Geometry}
use Rattle.ufs_image.specs.Nodes.{blocks_of}
use Rattle.ufs_image.specs.Catalog.{Catalog, IsInode, HasBlock, HasSlots, slots_in}
use Rattle.ufs_image.proofs.Lists.{IsIn, in_one}
use Rattle.ufs_dirs.specs.Directory.{Directory}
use Rattle.ufs_dir_tree.specs.DirTable.{DirTable, no_dir, dir_at, slots_at, blocks_at}
use Rattle.ufs_dir_tree.specs.Space.{extents_of}
use Rattle.ufs_dir_laws.specs.Tables.{dir_blocks, is_free_inode}
use Rattle.ufs_ilog.specs.Deltas as log
use Rattle.ufs_dir_tree.specs.Steps.{DirState, with_dir, without_block, grown}
use Rattle.ufs_promise_laws.specs.Held.{HasState, HasSoundForms, MayGrow, IsZeroed}
use Rattle.ufs_promise_laws.proofs.Extents.{LiesIn, blocks_are, extents_in_data, blocks_lie}
use Rattle.ufs_promise_laws.proofs.Forms.{reformed, form_here, form_else, block_now, kept_forms}
use Rattle.ufs_promise_laws.proofs.Tabled.{kept_table}

-- a place of a list with one behind it
pub split_at : (xs : List ℕ) (b p x : ℕ) → slice_get (xs ++ b ∷ []) p ≡ Some x → (slice_get xs p ≡ Some x) ⊎ ((p ≡ length xs) × (x ≡ b))
split_at [] b zero x e = inr (refl, cc)
split_at [] b (suc p) x e = let no = e in cc
split_at (y ∷ xs) b zero x e = inl e
split_at (y ∷ xs) b (suc p) x e = by (split_at xs b p x e)
  where
    by : (slice_get xs p ≡ Some x) ⊎ ((p ≡ length xs) × (x ≡ b)) → (slice_get (y ∷ xs) (suc p) ≡ Some x) ⊎ ((suc p ≡ length (y ∷ xs)) × (x ≡ b))
    by (inl a) = inl a
    by (inr a) = inr (let at = a.0 in omega (arith, at), a.1)

module _ (g : Geometry) (c : Catalog) (s : DirState) (has : HasState g c s) (inode block number : ℕ) (may : MayGrow g s inode block) where
  abbrev bs : List ℕ
  bs = blocks_at s.table inode

  abbrev more : List ℕ
  more = bs ++ block ∷ []

  abbrev pub grown_form : InodeForm
  grown_form = record { kind = 2; extents = log.extents_of (extents_of more); size = 4096 * length more; number = number }

  abbrev d : Catalog
  d = reformed c inode grown_form

  is_dir : (c.forms inode).kind ≡ 2
  is_dir = has.kinds inode may.in_range ∙ may.is_dir

  dir_test : ((c.forms inode).kind == 2) ≡ true
  dir_test = ap (λ k. k == 2) is_dir

  blocks_were : bs ≡ blocks_of (c.forms inode)
  blocks_were = has.table.blocks inode may.in_range ∙ ap (λ b. if b then blocks_of (c.forms inode) else []) dir_test

  now_blocks : blocks_of grown_form ≡ more
  now_blocks = blocks_are more

  new : IsZeroed g c block
  new = has.zeroed block may.zeroed

  had : (p x : ℕ) → slice_get bs p ≡ Some x → HasBlock g c inode p x
  had p x at = record { in_range = may.in_range; there = ap (λ xs. slice_get xs p) (sym blocks_were) ∙ at }

  -- what the new form has is one that was there, or the new one
  at_place : (p x : ℕ) → slice_get (blocks_of grown_form) p ≡ Some x → HasBlock g c inode p x ⊎ ((p ≡ length bs) × (x ≡ block))
  at_place p x at = by (split_at bs block p x (ap (λ xs. slice_get xs p) (sym now_blocks) ∙ at))
    where
      by : (slice_get bs p ≡ Some x) ⊎ ((p ≡ length bs) × (x ≡ block)) → HasBlock g c inode p x ⊎ ((p ≡ length bs) × (x ≡ block))
      by (inl was) = inl (had p x was)
      by (inr now) = inr now

  not_new : (k p x : ℕ) → HasBlock g c k p x → x ≡ block → ⊥
  not_new k p x at same = new.unheld k p (subst (HasBlock g c k p) same at)

  once : (p q x : ℕ) → slice_get (blocks_of grown_form) p ≡ Some x → slice_get (blocks_of grown_form) q ≡ Some x → p ≡ q
  once p q x a b = by (at_place p x a) (at_place q x b)
    where
      by : HasBlock g c inode p x ⊎ ((p ≡ length bs) × (x ≡ block)) → HasBlock g c inode q x ⊎ ((q ≡ length bs) × (x ≡ block)) → p ≡ q
      by (inl u) (inl v) = (has.forms.blocks_once inode inode p q x u v).1
      by (inl u) (inr v) = absurd (not_new inode p x u v.1)
      by (inr u) (inl v) = absurd (not_new inode q x v u.1)
      by (inr u) (inr v) = u.0 ∙ sym v.0

  apart : (p j q x : ℕ) → slice_get (blocks_of grown_form) p ≡ Some x → HasBlock g c j q x → j ≡ inode
  apart p j q x a b = by (at_place p x a)
    where
      by : HasBlock g c inode p x ⊎ ((p ≡ length bs) × (x ≡ block)) → j ≡ inode
      by (inl u) = (has.forms.blocks_once j inode q p x b u).0
      by (inr u) = absurd (not_new j q x b u.1)

  pub lie : (x : ℕ) → IsIn x more → LiesIn g x
  lie x is = by (in_one x bs (block ∷ []) is)
    where
      by : IsIn x bs ⊎ IsIn x (block ∷ []) → LiesIn g x
      by (inl old) = blocks_lie g (c.forms inode).extents (has.forms.in_data inode may.in_range) x (subst (IsIn x) blocks_were old)
      by (inr (inl same)) = let from = new.from in let under = new.under in record { from = omega (arith, same, from); under = omega (arith, same, under) }
      by (inr (inr none)) = absurd none

  forms : HasSoundForms g d
  forms = kept_forms c inode grown_form g has.forms (λ e. refl) (extents_in_data g more lie) once apart (omega (arith, filled)) (λ is. filled)
    where
      filled : grown_form.size ≡ 4096 * length (blocks_of grown_form)
      filled = ap (λ (xs : List ℕ). 4096 * length xs) (sym now_blocks)

  -- ---- the table

  abbrev u : DirTable
  u = with_dir inode (grown block (dir_at s.table inode)) s.table

  within : inode < length s.table.dirs
  within = let all = has.table.counted in let most = may.in_range.within in omega (arith, all, most)

  dir_here : dir_at u inode ≡ grown block (dir_at s.table inode)
  dir_here = get_or-set_same s.table.dirs inode (grown block (dir_at s.table inode)) no_dir within

  free_slots : List DentryForm
  free_slots = replicate 64 free_slot

  slots_were : slots_at s.table inode ≡ flat_map c.slots bs
  slots_were = has.table.slots inode may.in_range ∙ ap (λ b. if b then flat_map c.slots (blocks_of (c.forms inode)) else []) dir_test ∙ ap (flat_map c.slots) (sym blocks_were)

  slots_new : slots_in d inode ≡ slots_at s.table inode ++ replicate 64 free_slot
  slots_new =
      ap (λ (f : InodeForm). if f.kind == 2 then flat_map c.slots (blocks_of f) else []) (form_here c inode grown_form)
      ∙ ap (flat_map c.slots) now_blocks ∙ flat_map-append c.slots bs (block ∷ [])
      ∙ ap (λ xs. xs ++ (c.slots block ++ [])) (sym slots_were) ∙ ap (λ xs. slots_at s.table inode ++ xs) (append-nil (c.slots block) ∙ new.slots)

  blocks_new : dir_blocks d inode ≡ more
  blocks_new = ap (λ (f : InodeForm). if f.kind == 2 then blocks_of f else []) (form_here c inode grown_form) ∙ now_blocks

  free_now : (k : ℕ) → sets.contains s.table.free k ≡ is_free_inode g d k
  free_now k = by (cases_eq k inode)
    where
      by : (k ≡ inode) ⊎ (k ≢ inode) → sets.contains s.table.free k ≡ is_free_inode g d k
      by (inl same) = subst (λ n. sets.contains s.table.free n ≡ is_free_inode g d n) (sym same)
          (has.table.free inode ∙ ap (λ kind. not (not (kind == 0)) && is_inode_number g inode) is_dir ∙ sym (ap (λ (f : InodeForm). not (is_used f) && is_inode_number g inode) (form_here c inode grown_form)))
      by (inr other) = has.table.free k ∙ sym (ap (λ (f : InodeForm). not (is_used f) && is_inode_number g k) (form_else c inode grown_form k other))

  kinds : (k : ℕ) → IsInode g k → (d.forms k).kind ≡ s.kinds k
  kinds k in_range = by (cases_eq k inode)
    where
      by : (k ≡ inode) ⊎ (k ≢ inode) → (d.forms k).kind ≡ s.kinds k
      by (inl same) = subst (λ n. (d.forms n).kind ≡ s.kinds n) (sym same) (ap (λ (f : InodeForm). f.kind) (form_here c inode grown_form) ∙ sym may.is_dir)
      by (inr other) = ap (λ (f : InodeForm). f.kind) (form_else c inode grown_form k other) ∙ has.kinds k in_range

  all_sized : (dir : ℕ) → (d.forms dir).kind ≡ 2 → HasSlots g d dir
  all_sized dir is x place at = by (block_now c inode grown_form g dir place x at)
    where
      here : HasBlock g c inode place x ⊎ ((place ≡ length bs) × (x ≡ block)) → length (c.slots x) ≡ 64
      here (inl was) = has.sized inode is_dir x place was
      here (inr now) = ap (λ b. length (c.slots b)) now.1 ∙ ap (λ (xs : List DentryForm). length xs) new.slots

      by : ((dir ≡ inode) × (slice_get (blocks_of grown_form) place ≡ Some x)) ⊎ ((dir ≢ inode) × HasBlock g c dir place x) → length (c.slots x) ≡ 64
      by (inl now) = here (at_place place x now.1)
      by (inr was) = has.sized dir (ap (λ (f : InodeForm). f.kind) (sym (form_else c inode grown_form dir was.0)) ∙ is) x place was.1

  other_zeroed : (x : ℕ) → without_block block s.zeroed x ≡ true → (x ≢ block) × (s.zeroed x ≡ true)
  other_zeroed x is = by (x == block) refl is
    where
      by : (b : Bool) → (x == block) ≡ b → (if b then false else s.zeroed x) ≡ true → (x ≢ block) × (s.zeroed x ≡ true)
      by true e off = absurd cc
      by false e on = ((λ same. let t : (x == block) ≡ true = grind (arith, nat_tests, same) in let clash = sym e ∙ t in cc), on)

  unheld : (x k place : ℕ) → x ≢ block → s.zeroed x ≡ true → HasBlock g d k place x → ⊥
  unheld x k place other is_zero at = by (block_now c inode grown_form g k place x at)
    where
      here : HasBlock g c inode place x ⊎ ((place ≡ length bs) × (x ≡ block)) → ⊥
      here (inl was) = (has.zeroed x is_zero).unheld inode place was
      here (inr now) = other now.1

      by : ((k ≡ inode) × (slice_get (blocks_of grown_form) place ≡ Some x)) ⊎ ((k ≢ inode) × HasBlock g c k place x) → ⊥
      by (inl now) = here (at_place place x now.1)
      by (inr was) = (has.zeroed x is_zero).unheld k place was.1

  pub grown_state : HasState g d (record { table = u; kinds = s.kinds; zeroed = without_block block s.zeroed })
  grown_state = record {
    forms = forms;
    table = kept_table g c d s.table u inode may.in_range has.table (length-set s.table.dirs inode (grown block (dir_at s.table inode)))
        (λ k other. get_or-set_other s.table.dirs inode k (grown block (dir_at s.table inode)) no_dir other)
        (ap (λ (x : Directory). x.slots) dir_here ∙ sym slots_new) (ap (λ (x : Directory). x.blocks) dir_here ∙ sym blocks_new)
        (λ k in_range other. ap (λ (f : InodeForm). if f.kind == 2 then flat_map c.slots (blocks_of f) else []) (form_else c inode grown_form k other))
        (λ k other. ap (λ (f : InodeForm). if f.kind == 2 then blocks_of f else []) (form_else c inode grown_form k other))
        free_now;
    kinds = kinds;
    sized = all_sized;
    zeroed = λ x is. let apart = other_zeroed x is in let was = has.zeroed x apart.1 in record { from = was.from; under = was.under; slots = was.slots; unheld = λ k place. unheld x k place apart.0 apart.1 };
  }
