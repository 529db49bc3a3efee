-- The bytes of a file by its blocks.
use Rattle.std.proofs.Common.{◌≡◌, ℕ, suc, ◌*◌, ◌-◌, ◌<◌, ◌≤◌, ◌⊎◌, inl, inr, List, [], ◌∷◌, length, take, Option, Some, None, ap, sym, refl, ◌∙◌, subst, arith, length-append}
use Rattle.std.specs.Prelude.{◌/◌, ◌%◌, flat_map, false}
use Rattle.std.specs.List.{slice_get}
use Rattle.std.proofs.lemmas.List.{length-take-le}
use Rattle.std.proofs.lemmas.Bool.{cases_lt}
use Rattle.ufs_disk.specs.Disk.{Cell, possible}
use Rattle.ufs_image.specs.Nodes.{blocks_of}
use Rattle.ufs_layout.specs.declared.geometry.Geometry.{Geometry}
use Rattle.ufs_crash_laws.specs.FileChanges.{byte_at, MayShow, IsShown}
use Rattle.ufs_crash_laws.specs.declared.data.FileChange.{FileChange}
use Rattle.ufs_image.specs.Catalog.{IsInode, HasBlock}
use Rattle.ufs_image.specs.Sound.{IsSoundCatalog}
use Rattle.ufs_image.proofs.Lists.{IsIn}
use Rattle.ufs_image.proofs.Listed.{place_of_in, in_at_place}
use Rattle.ufs_image.proofs.Holders.{block_in_data}
use Rattle.ufs_ledger.specs.Ledger.{IsDataBlock, IsMixOf, is_held, Stand}
use Rattle.ufs_ledger.specs.Kept.{Shape, shape_of, AlwaysShows}
use Rattle.ufs_ledger.proofs.Mixing.{byte_front, byte_back, byte_taken}

-- one content for each block
abbrev pub Pick : Type 0
Pick = ℕ → List ℕ

abbrev pub content_of : Pick → Shape → List ℕ
content_of pick shape = take shape.size (flat_map pick shape.holds)

-- where a place's byte stands
pub record IsAt (pick : Pick) (blocks : List ℕ) (place : ℕ) : Type 0 where
  pub block : ℕ
  pub there : slice_get blocks (place / 4096) ≡ Some block
  pub is : byte_at (flat_map pick blocks) place ≡ byte_at (pick block) (place % 4096)

pub at_place : (pick : Pick) (blocks : List ℕ) → ((b : ℕ) → IsIn b blocks → length (pick b) ≡ 4096) → (place : ℕ) → place < 4096 * length blocks → IsAt pick blocks place
at_place pick [] long place less = absurd (omega (arith, less))
at_place pick (b ∷ blocks) long place less = by (cases_lt place 4096) (λ low. at_place pick blocks (λ c is. long c (inr is)) (place - 4096) (omega (arith, less, low)))
  where
    size : length (pick b) ≡ 4096
    size = long b (inl refl)

    by : (place < 4096) ⊎ (4096 ≤ place) → (4096 ≤ place → IsAt pick blocks (place - 4096)) → IsAt pick (b ∷ blocks) place
    by (inl low) more = record {
      block = b;
      there = ap (slice_get (b ∷ blocks)) (let none : place / 4096 ≡ 0 = omega (arith, low) in none);
      is = byte_front (pick b) (flat_map pick blocks) place (omega (arith, size, low)) ∙ ap (byte_at (pick b)) (let same : place ≡ place % 4096 = omega (arith, low) in same);
    }
    by (inr high) more =
        let rest = more high in
        record {
          block = rest.block;
          there = ap (slice_get (b ∷ blocks)) (let one : place / 4096 ≡ suc ((place - 4096) / 4096) = omega (arith, high) in one) ∙ rest.there;
          is = byte_back (pick b) (flat_map pick blocks) 4096 place size high ∙ rest.is ∙ ap (byte_at (pick rest.block)) (let same : (place - 4096) % 4096 ≡ place % 4096 = omega (arith, high) in same);
        }

pub blocks_length : (pick : Pick) (blocks : List ℕ) → ((b : ℕ) → IsIn b blocks → length (pick b) ≡ 4096) → length (flat_map pick blocks) ≡ 4096 * length blocks
blocks_length pick [] long = refl
blocks_length pick (b ∷ blocks) long =
    let first = long b (inl refl) in
    let rest = blocks_length pick blocks (λ c is. long c (inr is)) in
    let whole = length-append (pick b) (flat_map pick blocks) in
    omega (arith, first, rest, whole)

-- What a crash leaves in the blocks is shown.
pub shape_shown : (blocks : ℕ → Cell) (pick : Pick) (shape : Shape) (opening : List ℕ) (changes : List FileChange) (count : ℕ) → ((b : ℕ) → IsIn b shape.holds → IsMixOf (possible (blocks b)) (pick b)) → shape.size ≤ 4096 * length shape.holds
    → AlwaysShows blocks shape opening changes count → IsShown opening changes count (content_of pick shape)
shape_shown blocks pick shape opening changes count mix room always = record {
  made = always.made;
  size = counted ∙ always.size;
  each = λ place less.
      let under : place < shape.size = omega (arith, less, counted) in
      let at = at_place pick shape.holds long place (omega (arith, under, room)) in
      let is : byte_at (content_of pick shape) place ≡ byte_at (pick at.block) (place % 4096) = sym (byte_taken (flat_map pick shape.holds) shape.size place fits under) ∙ at.is in
      let in_it : (place % 4096) < 4096 = omega arith in
      subst (MayShow opening changes count place) (sym is)
      (always.each place (byte_at (pick at.block) (place % 4096)) under (record { block = at.block; there = at.there; has = (mix at.block (in_at at.block shape.holds (place / 4096) at.there)).each (place % 4096) in_it }));
}
  where
    in_at : (b : ℕ) (bs : List ℕ) (place : ℕ) → slice_get bs place ≡ Some b → IsIn b bs
    in_at b bs place e = in_at_place b bs place e

    long : (b : ℕ) → IsIn b shape.holds → length (pick b) ≡ 4096
    long b is = (mix b is).size

    fits : shape.size ≤ length (flat_map pick shape.holds)
    fits = let whole = blocks_length pick shape.holds long in omega (arith, whole, room)

    counted : length (content_of pick shape) ≡ shape.size
    counted = length-take-le shape.size (flat_map pick shape.holds) fits

-- the same of an inode of a sound catalog, in whose blocks nothing is folded
pub inode_shown : (g : Geometry) (blocks : ℕ → Cell) (s : Stand) (pick : Pick) (o : Option ℕ) (opening : List ℕ) (changes : List FileChange) (count : ℕ) → IsSoundCatalog g s.catalog
    → ((inode : ℕ) → o ≡ Some inode → IsInode g inode × ((place block : ℕ) → HasBlock g s.catalog inode place block → is_held s.log block ≡ false))
    → ((block : ℕ) → IsDataBlock g block → is_held s.log block ≡ false → IsMixOf (possible (blocks block)) (pick block))
    → AlwaysShows blocks (shape_of s.catalog o) opening changes count → IsShown opening changes count (content_of pick (shape_of s.catalog o))
inode_shown g blocks s pick None opening changes count sound its picks always = shape_shown blocks pick (shape_of s.catalog None) opening changes count (λ b is. absurd is) (omega arith) always
inode_shown g blocks s pick (Some inode) opening changes count sound its picks always =
    let ranged = (its inode refl).0 in
    shape_shown blocks pick (shape_of s.catalog (Some inode)) opening changes count
    (λ b is.
    let at = place_of_in b (blocks_of (s.catalog.forms inode)) is in
    let within = block_in_data g (s.catalog.forms inode).extents b (sound.in_data inode ranged) is in
    picks b (record { from = within.0; under = within.1 }) ((its inode refl).1 at.0 b (record { in_range = ranged; there = at.1 })))
    (sound.room inode ranged) always
