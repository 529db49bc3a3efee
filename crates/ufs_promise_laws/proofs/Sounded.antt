-- A catalog's soundness is that of its forms and of its names.
use Rattle.std.proofs.Common.{◌≡◌, ℕ, Bool, true, ap, sym, refl, ◌∙◌}
use Rattle.std.specs.List.{slice_get}
use Rattle.ufs_layout.specs.DentryForm.{DentryForm}
use Rattle.ufs_layout.specs.declared.geometry.Geometry.{Geometry}
use Rattle.ufs_image.specs.Catalog.{Catalog, HasSlots}
use Rattle.ufs_image.specs.Sound.{IsSoundCatalog, HasDentry}
use Rattle.ufs_dir_tree.specs.DirTable.{DirTable}
use Rattle.ufs_dir_laws.specs.Tables.{IsTableOf}
use Rattle.ufs_dir_tree.specs.Steps.{DirState}
use Rattle.ufs_promise_laws.specs.Held.{HasState, IsZeroed, HasName, HasSoundNames}

module _ (g : Geometry) (c : Catalog) (s : DirState) (has : HasState g c s) (names : HasSoundNames g s) where
  name_at : (dir place : ℕ) (d : DentryForm) → HasDentry g c dir place d → HasName g s dir place d
  name_at dir place d is = record { in_range = is.in_range; there = ap (λ slots. slice_get slots place) (has.table.slots dir is.in_range) ∙ is.there; named = is.named }

  pub is_sound : IsSoundCatalog g c
  is_sound = record {
    root = has.forms.root;
    in_data = has.forms.in_data;
    blocks_once = has.forms.blocks_once;
    room = has.forms.room;
    whole = has.forms.whole;
    fit = λ dir place d is. let fit = names.fit dir place d (name_at dir place d is) in record { plain = fit.plain; in_range = fit.in_range; kind = has.kinds d.inode fit.in_range ∙ fit.kind; used = fit.used; no_root = fit.no_root };
    names_once = λ dir p q d e a b. names.names_once dir p q d e (name_at dir p d a) (name_at dir q e b);
    inodes_once = λ dir other p q d e a b. names.inodes_once dir other p q d e (name_at dir p d a) (name_at other q e b);
  }

-- ---- and back

module _ (g : Geometry) (c : Catalog) (t : DirTable) (zeroed : ℕ → Bool) (sound : IsSoundCatalog g c) (of : IsTableOf g c t)
    (sized : (dir : ℕ) → (c.forms dir).kind ≡ 2 → HasSlots g c dir) (zeros : (block : ℕ) → zeroed block ≡ true → IsZeroed g c block) where
  abbrev s : DirState
  s = record { table = t; kinds = λ inode. (c.forms inode).kind; zeroed = zeroed }

  pub has_state : HasState g c s
  has_state = record {
    forms = record { root = sound.root; in_data = sound.in_data; blocks_once = sound.blocks_once; room = sound.room; whole = sound.whole };
    table = of;
    kinds = λ inode inside. refl;
    sized = sized;
    zeroed = zeros;
  }

  dentry_at : (dir place : ℕ) (d : DentryForm) → HasName g s dir place d → HasDentry g c dir place d
  dentry_at dir place d is = record { in_range = is.in_range; there = ap (λ slots. slice_get slots place) (sym (of.slots dir is.in_range)) ∙ is.there; named = is.named }

  pub has_names : HasSoundNames g s
  has_names = record {
    fit = λ dir place d is. let fit = sound.fit dir place d (dentry_at dir place d is) in record { plain = fit.plain; in_range = fit.in_range; kind = fit.kind; used = fit.used; no_root = fit.no_root };
    names_once = λ dir p q d e a b. sound.names_once dir p q d e (dentry_at dir p d a) (dentry_at dir q e b);
    inodes_once = λ dir other p q d e a b. sound.inodes_once dir other p q d e (dentry_at dir p d a) (dentry_at other q e b);
  }
