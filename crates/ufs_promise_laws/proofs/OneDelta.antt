-- What one file's delta leaves of a catalog.
use Rattle.std.proofs.Common.{◌≡◌, ◌≢◌, ℕ, ◌⊎◌, inl, inr, Bool, true, false, ◌&&◌, not, List, [], ◌∷◌, length, ap, sym, refl, ◌∙◌, arith}
use Rattle.std.specs.Prelude.{◌==◌, flat_map, if◌then◌else◌}
use Rattle.std.specs.List.{slice_get}
use Rattle.ufs_image.specs.Catalog.{Catalog, HasSlots, slots_in}
use Rattle.ufs_image.specs.Fold.{after_delta, is_in_range}
use Rattle.ufs_image.specs.Folding.{is_newer_in, with_committed_in, with_form}
use Rattle.ufs_image.specs.Nodes.{blocks_of}
use Rattle.ufs_image.specs.Sound.{IsSoundCatalog}
use Rattle.ufs_layout.specs.Areas.{is_inode_number}
use Rattle.ufs_layout.specs.DentryForm.{DentryForm}
use Rattle.ufs_layout.specs.InodeForm.{InodeForm}
use Rattle.ufs_layout.specs.declared.geometry.Geometry.{Geometry}
use Rattle.ufs_layout.specs.declared.inode.Extent.{Extent}
use Rattle.ufs_layout.specs.declared.records.Committed.{Committed}
use Rattle.ufs_layout.specs.declared.records.LogRecord.{LogRecord}
use Rattle.ufs_layout.specs.declared.records.LogRecord.TheVariants.{Delta}
use Rattle.ufs_dir_laws.specs.Tables.{IsTableOf, dir_blocks}
use Rattle.ufs_files.proofs.MapLemmas.{one_or_apart}
use Rattle.ufs_promise_laws.specs.Held.{HasState}
use Rattle.ufs_dir_tree.specs.Steps.{DirState}
use Rattle.ufs_image.proofs.Empty.{apart_false}

module _ (g : Geometry) (t : Committed) (inode size keep : ℕ) (extents : List Extent) (is : t.records ≡ Delta inode 1 size keep extents ∷ []) (c : Catalog) where
  abbrev plain : Committed
  plain = record { number = t.number; records = Delta inode 1 size keep extents ∷ [] }

  abbrev next : Catalog
  next = with_form inode (after_delta (c.forms inode) t.number 1 size keep extents) c

  same_plain : with_committed_in g t c ≡ with_committed_in g plain c
  same_plain = ap (λ (rs : List LogRecord). with_committed_in g (record { number = t.number; records = rs }) c) is

  pub form_else : (k : ℕ) → k ≢ inode → (with_committed_in g t c).forms k ≡ c.forms k
  form_else k other = ap (λ (d : Catalog). d.forms k) same_plain ∙ by (is_in_range g (Delta inode 1 size keep extents)) (is_newer_in t.number c inode)
    where
      by : (a b : Bool) → (if a then (if b then next else c) else c).forms k ≡ c.forms k
      by true true = ap (λ (b : Bool). if b then after_delta (c.forms inode) t.number 1 size keep extents else c.forms k) (apart_false k inode other)
      by true false = refl
      by false b = refl

  pub slots_same : (with_committed_in g t c).slots ≡ c.slots
  slots_same = ap (λ (d : Catalog). d.slots) same_plain ∙ by (is_in_range g (Delta inode 1 size keep extents)) (is_newer_in t.number c inode)
    where
      by : (a b : Bool) → (if a then (if b then next else c) else c).slots ≡ c.slots
      by true true = refl
      by true false = refl
      by false b = refl

  -- The directories stay, where the inode is a file's before and after.
  module _ (d : DirState) (has : HasState g c d) (zeroed : (b : ℕ) → d.zeroed b ≡ false) (sound : IsSoundCatalog g (with_committed_in g t c)) (was : (c.forms inode).kind ≡ 1) (file : ((with_committed_in g t c).forms inode).kind ≡ 1) where
    abbrev c2 : Catalog
    c2 = with_committed_in g t c

    kind_same : (k : ℕ) → (c2.forms k).kind ≡ (c.forms k).kind
    kind_same k = by (one_or_apart k inode)
      where
        by : (k ≡ inode) ⊎ (k ≢ inode) → (c2.forms k).kind ≡ (c.forms k).kind
        by (inl here) = ap (λ i. (c2.forms i).kind) here ∙ file ∙ sym was ∙ ap (λ i. (c.forms i).kind) (sym here)
        by (inr other) = ap (λ (f : InodeForm). f.kind) (form_else k other)

    no_dir : (e : Catalog) → (e.forms inode).kind ≡ 1 → ((e.forms inode).kind == 2) ≡ false
    no_dir e kind = ap (λ v. v == 2) kind

    in_slots : (k : ℕ) → slots_in c2 k ≡ slots_in c k
    in_slots k = by (one_or_apart k inode)
      where
        by : (k ≡ inode) ⊎ (k ≢ inode) → slots_in c2 k ≡ slots_in c k
        by (inl here) =
            ap (slots_in c2) here ∙ ap (λ (b : Bool). if b then flat_map c2.slots (blocks_of (c2.forms inode)) else []) (no_dir c2 file)
            ∙ sym (ap (slots_in c) here ∙ ap (λ (b : Bool). if b then flat_map c.slots (blocks_of (c.forms inode)) else []) (no_dir c was))
        by (inr other) =
            ap (λ (f : InodeForm). if f.kind == 2 then flat_map c2.slots (blocks_of f) else []) (form_else k other)
            ∙ ap (λ (s : ℕ → List DentryForm). if (c.forms k).kind == 2 then flat_map s (blocks_of (c.forms k)) else []) slots_same

    in_blocks : (k : ℕ) → dir_blocks c2 k ≡ dir_blocks c k
    in_blocks k = by (one_or_apart k inode)
      where
        by : (k ≡ inode) ⊎ (k ≢ inode) → dir_blocks c2 k ≡ dir_blocks c k
        by (inl here) =
            ap (dir_blocks c2) here ∙ ap (λ (b : Bool). if b then blocks_of (c2.forms inode) else []) (no_dir c2 file)
            ∙ sym (ap (dir_blocks c) here ∙ ap (λ (b : Bool). if b then blocks_of (c.forms inode) else []) (no_dir c was))
        by (inr other) = ap (λ (f : InodeForm). if f.kind == 2 then blocks_of f else []) (form_else k other)

    table : IsTableOf g c2 d.table
    table = record {
      counted = has.table.counted;
      none = has.table.none;
      slots = λ k inside. has.table.slots k inside ∙ sym (in_slots k);
      blocks = λ k inside. has.table.blocks k inside ∙ sym (in_blocks k);
      free = λ k. has.table.free k ∙ ap (λ kind. not (not (kind == 0)) && is_inode_number g k) (sym (kind_same k));
    }

    sized : (dir : ℕ) → (c2.forms dir).kind ≡ 2 → HasSlots g c2 dir
    sized dir kind block place at =
        let other : dir ≢ inode = (λ here. let one = ap (λ i. (c2.forms i).kind) here in omega (arith, one, kind, file)) in
        let same = form_else dir other in
        ap (λ (s : ℕ → List DentryForm). length (s block)) slots_same
        ∙ has.sized dir (ap (λ (f : InodeForm). f.kind) (sym same) ∙ kind) block place (record { in_range = at.in_range; there = ap (λ (f : InodeForm). slice_get (blocks_of f) place) (sym same) ∙ at.there })

    pub state_stays : HasState g c2 d
    state_stays = record {
      forms = record { root = sound.root; in_data = sound.in_data; blocks_once = sound.blocks_once; room = sound.room; whole = sound.whole };
      table = table;
      kinds = λ k inside. kind_same k ∙ has.kinds k inside;
      sized = sized;
      zeroed = λ b is. (let clash = sym is ∙ zeroed b in absurd cc);
    }
