-- A file that stands on a ledger behind a request.
use Rattle.std.proofs.Common.{◌≡◌, ℕ, zero, suc, ◌-◌, ◌<◌, ◌≤◌, ◌⊎◌, inl, inr, List, [], ◌∷◌, ◌++◌, ◌||◌, Bool, true, false, Option, Some, length, take, get_or, eqb, ltb, ap, sym, refl, ◌∙◌, subst, arith}
use Rattle.std.specs.FinSet as set
use Rattle.std.specs.List.{slice_get}
use Rattle.std.proofs.lemmas.Bool.{ltb-true, ltb-false}
use Rattle.std.proofs.lemmas.Bool.Decides.{nat_tests}
use Rattle.std.proofs.lemmas.Option.{get_or_from_slice_get, slice_get-get_or}
use Rattle.ufs_bitmap.specs.Blocks.{BlockSet}
use Rattle.ufs_bitmap.specs.Taking.{has}
use Rattle.ufs_bitmap.proofs.SetLemmas.{has-insert}
use Rattle.ufs_bitmap.proofs.TakingLemmas.{takes_all}
use Rattle.ufs_disk.specs.Disk.{possible}
use Rattle.ufs_extent.specs.Runs.{blocks_of}
use Rattle.ufs_extent.proofs.PlaceLemmas.{blocks_of-first_runs}
use Rattle.ufs_file.specs.Content.{Content, block_count}
use Rattle.ufs_file.proofs.HandLemmas.{blocks_of-all}
use Rattle.ufs_ilog.specs.Deltas.{FileLog, extents_of}
use Rattle.ufs_image.specs.Catalog.{IsInode}
use Rattle.ufs_layout.specs.Superblock.{geometry_of}
use Rattle.ufs_ledger.specs.Ledger.{Ledger}
use Rattle.ufs_model.specs.FileCalls.{file_refusal}
use Rattle.ufs_model.specs.declared.data.Desc.{Desc}
use Rattle.ufs_model.specs.declared.data.Op.{Op}
use Rattle.ufs_model.specs.declared.data.Reply.{Reply}
use Rattle.ufs_file_commits.specs.Serving.{IsServedKept, TakesOnly}
use Rattle.ufs_file_commits.specs.Standing.{HaveOnly, IsFileBlock, IsReadable, ReadsAs, ReadsServed, StandsFor, StandsServed}
use Rattle.ufs_file_commits.specs.State.{DurableState, IsNoted}
use Rattle.ufs_file_commits.proofs.Still.{IsStill, still_by}

-- ---- places of lists

or_true : (b : Bool) → (b || true) ≡ true
or_true true = refl
or_true false = refl

pub has_at : (xs : List ℕ) (i b : ℕ) → slice_get xs i ≡ Some b → has xs b ≡ true
has_at [] i b e = let wrong = e in absurd cc
has_at (x ∷ xs) zero b e =
    let same : eqb b x ≡ true = (let is = e in let one : x ≡ b = cc in grind (arith, nat_tests, one)) in
    has-insert (set.from_list xs) x b ∙ ap (λ (t : Bool). t || has xs b) same
has_at (x ∷ xs) (suc i) b e = has-insert (set.from_list xs) x b ∙ ap (λ (t : Bool). eqb b x || t) (has_at xs i b e) ∙ or_true (eqb b x)

front_or_back : (xs ys : List ℕ) (i b : ℕ) → slice_get (xs ++ ys) i ≡ Some b → (slice_get xs i ≡ Some b) ⊎ ((length xs ≤ i) × (has ys b ≡ true))
front_or_back [] ys i b e = inr (omega arith, has_at ys i b e)
front_or_back (x ∷ xs) ys zero b e = inl e
front_or_back (x ∷ xs) ys (suc i) b e = by (front_or_back xs ys i b e)
  where
    by : (slice_get xs i ≡ Some b) ⊎ ((length xs ≤ i) × (has ys b ≡ true)) → (slice_get (x ∷ xs) (suc i) ≡ Some b) ⊎ ((length (x ∷ xs) ≤ suc i) × (has ys b ≡ true))
    by (inl there) = inl there
    by (inr (le, is)) = inr (omega (arith, le), is)

of_front : (n : ℕ) (xs : List ℕ) (i b : ℕ) → slice_get (take n xs) i ≡ Some b → slice_get xs i ≡ Some b
of_front zero xs i b e = let wrong = e in absurd cc
of_front (suc n) [] i b e = e
of_front (suc n) (x ∷ xs) zero b e = e
of_front (suc n) (x ∷ xs) (suc i) b e = of_front n xs i b e

module _ (f g : DurableState) (before after : BlockSet) (d : Desc) (request : Op) (reply : Reply) (desc : Option Desc) (s : IsServedKept f g before after d request reply desc) where
  abbrev count : ℕ
  count = block_count (length g.file.content.bytes)

  -- A block that the file has was there at this place, or is the pool's.
  pub place_from : (place block : ℕ) → slice_get (blocks_of g.file.extents) place ≡ Some block
      → (slice_get (blocks_of f.file.extents) place ≡ Some block) ⊎ ((length (blocks_of f.file.extents) ≤ place) × (set.contains before block ≡ true))
  place_from place block at = by (ltb count (length (blocks_of f.file.extents))) refl
    where
      took : TakesOnly f g before after (count - length (blocks_of f.file.extents))
          → (slice_get (blocks_of f.file.extents) place ≡ Some block) ⊎ ((length (blocks_of f.file.extents) ≤ place) × (set.contains before block ≡ true))
      took t = one (front_or_back (blocks_of f.file.extents) (blocks_of t.taken.runs) place block (sym (ap (λ (l : List ℕ). slice_get l place) (ap blocks_of t.taken.extents ∙ blocks_of-all f.file.extents t.taken.runs)) ∙ at))
        where
          one : (slice_get (blocks_of f.file.extents) place ≡ Some block) ⊎ ((length (blocks_of f.file.extents) ≤ place) × (has (blocks_of t.taken.runs) block ≡ true))
              → (slice_get (blocks_of f.file.extents) place ≡ Some block) ⊎ ((length (blocks_of f.file.extents) ≤ place) × (set.contains before block ≡ true))
          one (inl there) = inl there
          one (inr (le, is)) = inr (le, takes_all before (count - length (blocks_of f.file.extents)) t.taken.runs after 0 t.taken.in_turn block ∙ ap (λ (b : Bool). set.contains after block || b) is ∙ or_true (set.contains after block))

      by : (b : Bool) → ltb count (length (blocks_of f.file.extents)) ≡ b → (slice_get (blocks_of f.file.extents) place ≡ Some block) ⊎ ((length (blocks_of f.file.extents) ≤ place) × (set.contains before block ≡ true))
      by true e =
          let t = s.blocks.fewer (ltb-true count (length (blocks_of f.file.extents)) e) in
          inl (of_front count (blocks_of f.file.extents) place block (sym (ap (λ (l : List ℕ). slice_get l place) (ap blocks_of t.extents ∙ blocks_of-first_runs f.file.extents count)) ∙ at))
      by false e = took (s.blocks.more (ltb-false count (length (blocks_of f.file.extents)) e))

  module _ (noted : IsNoted f) where
    still : (place : ℕ) → slice_get g.file.content.dirty place ≡ Some false → IsStill f.file.content g.file.content place
    still place off =
        subst (λ (c : Content). IsStill f.file.content c place) (sym s.memory)
        (still_by f.file.content d request (file_refusal f.file.content.bytes d request) place
        (ap (λ (c : Content). get_or c.dirty place true) (sym s.memory) ∙ get_or_from_slice_get g.file.content.dirty place false true off))

    unmarked_within : (place : ℕ) → get_or f.file.content.dirty place true ≡ false → place < length f.file.content.dirty
    unmarked_within place off = by (ltb place (length f.file.content.dirty)) refl
      where
        past : (xs : List Bool) (i : ℕ) → length xs ≤ i → get_or xs i true ≡ false → ⊥
        past [] i le e = let wrong = e in absurd cc
        past (x ∷ xs) zero le e = absurd (omega (arith, le))
        past (x ∷ xs) (suc i) le e = past xs i (omega (arith, le)) e

        by : (b : Bool) → ltb place (length f.file.content.dirty) ≡ b → place < length f.file.content.dirty
        by true e = ltb-true place (length f.file.content.dirty) e
        by false e = absurd (past f.file.content.dirty place (ltb-false place (length f.file.content.dirty) e) off)

    -- What isn't dirty wasn't before, and is the same block.
    was_clean : (place block : ℕ) → slice_get (blocks_of g.file.extents) place ≡ Some block → slice_get g.file.content.dirty place ≡ Some false
        → (slice_get (blocks_of f.file.extents) place ≡ Some block) × (slice_get f.file.content.dirty place ≡ Some false)
    was_clean place block at off = (was (place_from place block at), slice_get-get_or f.file.content.dirty place true inside ∙ ap (λ (b : Bool). Some b) (still place off).mark)
      where
        inside : place < length f.file.content.dirty
        inside = unmarked_within place (still place off).mark

        was : (slice_get (blocks_of f.file.extents) place ≡ Some block) ⊎ ((length (blocks_of f.file.extents) ≤ place) × (set.contains before block ≡ true)) → slice_get (blocks_of f.file.extents) place ≡ Some block
        was (inl there) = there
        was (inr (le, is)) = absurd (let low = inside in let marks = noted.marks in omega (arith, low, marks, le))

    pub reads_still : (l : Ledger) → ReadsAs l f.file → ReadsAs l g.file
    reads_still l reads place block at off =
        let was = was_clean place block at off in subst (HaveOnly (possible (l.blocks block))) (sym (still place off).own) (reads place block was.0 was.1)

    pub readable_still : (l : Ledger) → IsReadable l f.file → IsReadable l g.file
    readable_still l readable = record {
      blocks = λ place block at off. let was = was_clean place block at off in readable.blocks place block was.0 was.1;
      clean = reads_still l readable.clean;
    }

  module _ (l : Ledger) (noted : IsNoted f) (stands : StandsFor l f) (may : (block : ℕ) → set.contains before block ≡ true → IsFileBlock l block) where
    file_block : (place block : ℕ) → slice_get (blocks_of g.file.extents) place ≡ Some block → IsFileBlock l block
    file_block place block at = by (place_from place block at)
      where
        by : (slice_get (blocks_of f.file.extents) place ≡ Some block) ⊎ ((length (blocks_of f.file.extents) ≤ place) × (set.contains before block ≡ true)) → IsFileBlock l block
        by (inl there) = stands.blocks place block there
        by (inr (le, is)) = may block is

    pub goes_standing : StandsFor l g
    goes_standing =
        let inode = s.same_inode in
        let committed = ap (λ (x : FileLog). x.committed) s.logged in
        record {
          in_range = subst (IsInode (geometry_of l.superblock)) (sym inode) stands.in_range;
          kind = ap (λ (i : ℕ). (l.now.catalog.forms i).kind) inode ∙ stands.kind;
          size = ap (λ (i : ℕ). (l.now.catalog.forms i).size) inode ∙ stands.size ∙ sym (ap (λ x. x.size) committed);
          extents = ap (λ (i : ℕ). (l.now.catalog.forms i).extents) inode ∙ stands.extents ∙ sym (ap (λ x. extents_of x.runs) committed);
          blocks = file_block;
          clean = reads_still noted l stands.clean;
        }

pub reads_served : ReadsServed
reads_served l f g before after d request reply desc noted readable s = readable_still f g before after d request reply desc s noted l readable

pub stands_served : StandsServed
stands_served l f g before after d request reply desc noted stands may s = goes_standing f g before after d request reply desc s l noted stands may
