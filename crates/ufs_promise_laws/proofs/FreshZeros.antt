-- A block of zeros is one that a directory may take.
use Rattle.std.proofs.Common.{◌≡◌, ◌≢◌, ℕ, List, [], Bool, true, false, length, replicate, ap, sym, refl, ◌∙◌, subst, arith}
use Rattle.std.specs.Prelude.{◌==◌, if◌then◌else◌}
use Rattle.std.proofs.lemmas.Bool.Decides.{nat_tests}
use Rattle.ufs_layout.specs.DentryForm.{DentryForm, free_slot}
use Rattle.ufs_layout.specs.declared.geometry.Geometry.{Geometry}
use Rattle.ufs_image.specs.Nodes.{blocks_of}
use Rattle.ufs_image.specs.Catalog.{Catalog, IsInode, HasBlock, slots_in}
use Rattle.ufs_image.proofs.Lists.{flat_map-same}
use Rattle.ufs_image.proofs.Listed.{place_of_in}
use Rattle.ufs_image.proofs.Empty.{apart_false}
use Rattle.ufs_ledger.specs.Ledger.{Stand, IsDataBlock}
use Rattle.ufs_ledger.specs.Changes.{with_free_block}
use Rattle.ufs_dir_tree.specs.Steps.{DirState}
use Rattle.ufs_promise_laws.specs.Held.{HasState, IsZeroed, with_zeroed}

module _ (g : Geometry) (s : Stand) (x : DirState) (block : ℕ) (has : HasState g s.catalog x) (lies : IsDataBlock g block) (unheld : (inode place : ℕ) → HasBlock g s.catalog inode place block → ⊥) where
  abbrev c : Catalog
  c = s.catalog

  abbrev d : Catalog
  d = (with_free_block block s).catalog

  other_slots : (b : ℕ) → b ≢ block → d.slots b ≡ c.slots b
  other_slots b other = ap (λ v. if v then replicate 64 free_slot else c.slots b) (apart_false b block other)

  here : d.slots block ≡ replicate 64 free_slot
  here = let t : (block == block) ≡ true = grind (arith, nat_tests) in ap (λ v. if v then replicate 64 free_slot else c.slots block) t

  was : (j p b : ℕ) → HasBlock g d j p b → HasBlock g c j p b
  was j p b is = record { in_range = is.in_range; there = is.there }

  off : (j p b : ℕ) → HasBlock g c j p b → b ≢ block
  off j p b is same = unheld j p (subst (HasBlock g c j p) same is)

  same_slots : (j : ℕ) → IsInode g j → slots_in d j ≡ slots_in c j
  same_slots j inside = ap (λ ys. if (c.forms j).kind == 2 then ys else []) (flat_map-same d.slots c.slots (blocks_of (c.forms j))
      (λ b is. let at = place_of_in b (blocks_of (c.forms j)) is in other_slots b (off j at.0 b (record { in_range = inside; there = at.1 }))))

  zero_now : (b : ℕ) → with_zeroed block x.zeroed b ≡ true → IsZeroed g d b
  zero_now b e = by (b == block) refl e
    where
      by : (v : Bool) → (b == block) ≡ v → (if v then true else x.zeroed b) ≡ true → IsZeroed g d b
      by true same on =
          let at : b ≡ block = grind (arith, nat_tests, same) in
          let from = lies.from in let under = lies.under in
          record { from = omega (arith, at, from); under = omega (arith, at, under); slots = ap d.slots at ∙ here; unheld = λ j p is. unheld j p (subst (HasBlock g c j p) at (was j p b is)) }
      by false apart on =
          let old = x_zeroed b on in
          let other : b ≢ block = (λ same. let t : (b == block) ≡ true = grind (arith, nat_tests, same) in let no = sym apart ∙ t in cc) in
          record { from = old.from; under = old.under; slots = other_slots b other ∙ old.slots; unheld = λ j p is. old.unheld j p (was j p b is) }
        where
          x_zeroed : (b : ℕ) → x.zeroed b ≡ true → IsZeroed g c b
          x_zeroed = has.zeroed

  pub zeros_state : HasState g d (record { table = x.table; kinds = x.kinds; zeroed = with_zeroed block x.zeroed })
  zeros_state = record {
    forms = record {
      root = has.forms.root;
      in_data = has.forms.in_data;
      blocks_once = λ i j p q b a z. has.forms.blocks_once i j p q b (was i p b a) (was j q b z);
      room = has.forms.room;
      whole = has.forms.whole;
    };
    table = record {
      counted = has.table.counted;
      none = has.table.none;
      slots = λ j inside. has.table.slots j inside ∙ sym (same_slots j inside);
      blocks = has.table.blocks;
      free = has.table.free;
    };
    kinds = has.kinds;
    sized = λ dir is b p at. ap (λ (ys : List DentryForm). length ys) (other_slots b (off dir p b (was dir p b at))) ∙ has.sized dir is b p (was dir p b at);
    zeroed = zero_now;
  }
