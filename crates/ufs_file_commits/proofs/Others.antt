-- Files beside one that is written and committed.
use Rattle.std.proofs.Common.{◌≡◌, ℕ, zero, suc, ◌+◌, ◌<◌, ◌≤◌, ◌⊎◌, inl, inr, List, [], ◌∷◌, ◌++◌, Bool, true, false, Option, Some, length, get_or, unwrap_or, ap, sym, refl, ◌∙◌, subst, arith}
use Rattle.std.specs.Prelude.{◌==◌, flat_map, if◌then◌else◌, IsTrue}
use Rattle.std.specs.List.{AllByRecursion, list_any, range_with_len, slice_get}
use Rattle.std.proofs.lemmas.Bool.Decides.{nat_tests}
use Rattle.std.proofs.lemmas.List.{append-nil}
use Rattle.ufs_disk.specs.Disk.{Cell, possible}
use Rattle.ufs_disk.specs.Moments.{Moments, reads}
use Rattle.ufs_disk.proofs.Runs.{all_append}
use Rattle.ufs_extent.specs.Runs.{blocks_of}
use Rattle.ufs_file.specs.Content.{own_bytes}
use Rattle.ufs_ilog.specs.Deltas.{IsDelta, extents_of}
use Rattle.ufs_image.specs.Catalog.{Catalog, IsInode}
use Rattle.ufs_image.specs.Changes.{IsTakenBlock}
use Rattle.ufs_image.specs.Fold.{after_delta, is_in_range}
use Rattle.ufs_image.specs.Folding.{is_newer_in, with_committed_in, with_form}
use Rattle.ufs_image.specs.Images.{block_at}
use Rattle.ufs_image.specs.Nodes.{blocks_of as form_blocks}
use Rattle.ufs_layout.specs.Areas.{first_of_data}
use Rattle.ufs_layout.specs.InodeForm.{InodeForm}
use Rattle.ufs_layout.specs.Superblock.{geometry_of}
use Rattle.ufs_layout.specs.declared.geometry.Geometry.{Geometry}
use Rattle.ufs_layout.specs.declared.inode.Extent.{Extent}
use Rattle.ufs_layout.specs.declared.superblock.Super.{Super}
use Rattle.ufs_layout.specs.declared.records.Committed.{Committed}
use Rattle.ufs_layout.specs.declared.records.LogRecord.{LogRecord}
use Rattle.ufs_layout.specs.declared.records.LogRecord.TheVariants.{Delta}
use Rattle.ufs_ledger.specs.Changes.{committed_one, emptied, home_of, settled}
use Rattle.ufs_ledger.specs.Ledger.{IsDataBlock, Ledger, Stand, is_held, is_set_in}
use Rattle.ufs_ledger.proofs.Held.{held_after}
use Rattle.ufs_store.specs.Ledgers.{HasLedger, checkpointed}
use Rattle.ufs_store.specs.State.{StoreState, has_room, next_commit, next_superblock}
use Rattle.ufs_file_commits.specs.Committing.{HasOwnBlocks, once_committed}
use Rattle.ufs_file_commits.specs.Others.{IsOther, OwnsBehindCommit, StandsBehindBarrier, StandsBehindCheckpoint, StandsBehindCommit, StandsBehindWrites, StandsOnceCommitted}
use Rattle.ufs_file_commits.specs.Standing.{HaveOnly, StandsFor}
use Rattle.ufs_file_commits.specs.State.{DurableState, IsNoted, file_committed}
use Rattle.ufs_file_commits.specs.Writes.{BlockWrite, at_moments, with_writes, write_at, write_of, writes_of}
use Rattle.ufs_file_commits.proofs.Behind.{same_superblock, same_now}
use Rattle.ufs_file_commits.proofs.Cells.{IsElsewhere, got_back, untouched}
use Rattle.ufs_file_commits.proofs.Committing.{front_all}
use Rattle.ufs_file_commits.proofs.Fewer.{home_no_more}
use Rattle.ufs_file_commits.proofs.Fitting.{delta_is}
use Rattle.ufs_file_commits.proofs.Standing.{blocks_are, settled_has, stands_committed}

-- ---- another ledger

-- A ledger on which its inode is as before, its blocks are still a file's, and a crash leaves no more of them.
pub stands_still : (l m : Ledger) (h : DurableState) → geometry_of m.superblock ≡ geometry_of l.superblock → m.now.catalog.forms h.file.inode ≡ l.now.catalog.forms h.file.inode → m.now.dirs ≡ l.now.dirs
    → ((block : ℕ) → is_held l.now.log block ≡ false → is_held m.now.log block ≡ false)
    → ((place block : ℕ) (bytes : List ℕ) → slice_get (blocks_of h.file.extents) place ≡ Some block → is_held l.now.log block ≡ false → HaveOnly (possible (l.blocks block)) bytes → HaveOnly (possible (m.blocks block)) bytes)
    → StandsFor l h → StandsFor m h
stands_still l m h superblock form dirs unheld less stands = record {
  in_range = subst (λ (g : Geometry). IsInode g h.file.inode) (sym superblock) stands.in_range;
  kind = ap (λ (x : InodeForm). x.kind) form ∙ stands.kind;
  size = ap (λ (x : InodeForm). x.size) form ∙ stands.size;
  extents = ap (λ (x : InodeForm). x.extents) form ∙ stands.extents;
  blocks = λ place block at. let was = stands.blocks place block at in record {
    data_block = subst (λ (g : Geometry). IsDataBlock g block) (sym superblock) was.data_block;
    no_dir = subst (λ (d : ℕ → Bool). IsTrue (d block) → ⊥) (sym dirs) was.no_dir;
    unheld = unheld block was.unheld;
  };
  clean = λ place block at is. less place block (own_bytes h.file.content.bytes place) at (stands.blocks place block at).unheld (stands.clean place block at is);
}

pub behind_barrier : StandsBehindBarrier
behind_barrier l h stands = stands_still l (settled l) h refl refl refl (λ block free. free) (λ place block bytes at free only. settled_has (l.blocks block) bytes only) stands

pub behind_home : (l : Ledger) (h : DurableState) (superblock : Super) (home : ℕ → List ℕ) → geometry_of superblock ≡ geometry_of l.superblock → StandsFor l h → StandsFor (emptied superblock home l) h
behind_home l h superblock home same stands = stands_still l (emptied superblock home l) h same refl refl (λ block free. refl) (λ place block bytes at free only. home_no_more l home block free bytes only) stands

pub behind_checkpoint : StandsBehindCheckpoint
behind_checkpoint s l h has stands = behind_home l h (next_superblock s) (block_at (home_of l (reads s.moments))) (ap geometry_of (sym has.superblock_is)) stands

-- ---- another file's writes

module _ (f h : DurableState) (noted : IsNoted f) (apart : (p q block : ℕ) → slice_get (blocks_of f.file.extents) p ≡ Some block → slice_get (blocks_of h.file.extents) q ≡ Some block → ⊥) where
  off_write : (q k p : ℕ) → slice_get (blocks_of h.file.extents) q ≡ Some k → p < length f.file.content.dirty → AllByRecursion (IsElsewhere k) (write_at f.file p)
  off_write q k p at under = by (unwrap_or (slice_get f.file.content.dirty p) false)
    where
      there : slice_get (blocks_of f.file.extents) p ≡ Some (get_or (blocks_of f.file.extents) p 0)
      there = got_back (blocks_of f.file.extents) 0 p (let same = noted.marks in omega (arith, under, same))

      here : slice_get (blocks_of f.file.extents) p ≡ Some (write_of f.file p).block
      here = there ∙ ap Some (sym (ap (λ (o : Option ℕ). unwrap_or o 0) there))

      off : (b : Bool) → (k == (write_of f.file p).block) ≡ b → (k == (write_of f.file p).block) ≡ false
      off false e = e
      off true e =
          let same : k ≡ (write_of f.file p).block = grind (arith, nat_tests, e) in
          absurd (apart p q k (here ∙ ap Some (sym same)) at)

      by : (b : Bool) → AllByRecursion (IsElsewhere k) (if b then write_of f.file p ∷ [] else [])
      by true = (off (k == (write_of f.file p).block) refl, tt)
      by false = tt

  off_writes : (q k from n : ℕ) → slice_get (blocks_of h.file.extents) q ≡ Some k → from + n ≤ length f.file.content.dirty → AllByRecursion (IsElsewhere k) (flat_map (write_at f.file) (range_with_len from n))
  off_writes q k from zero at inside = tt
  off_writes q k from (suc n) at inside =
      all_append (IsElsewhere k) (write_at f.file from) (flat_map (write_at f.file) (range_with_len (from + 1) n))
      (off_write q k from at (omega (arith, inside))) (off_writes q k (from + 1) n at (omega (arith, inside)))

  pub off_all : (q k : ℕ) → slice_get (blocks_of h.file.extents) q ≡ Some k → AllByRecursion (IsElsewhere k) (writes_of f.file)
  off_all q k at = off_writes q k 0 (length f.file.content.dirty) at (omega arith)

  pub behind_writes : (l : Ledger) (before behind : List BlockWrite) → writes_of f.file ≡ before ++ behind → StandsFor l h → StandsFor (with_writes before l) h
  behind_writes l before behind whole stands =
      let now = same_now before l in
      stands_still l (with_writes before l) h (ap geometry_of (same_superblock before l)) (ap (λ (s : Stand). s.catalog.forms h.file.inode) now) (ap (λ (s : Stand). s.dirs) now)
      (λ block free. ap (λ (s : Stand). is_held s.log block) now ∙ free)
      (λ place block bytes at free only. subst (λ (c : Cell). HaveOnly (possible c) bytes)
      (sym (untouched before l block (front_all (IsElsewhere block) before behind (subst (AllByRecursion (IsElsewhere block)) whole (off_all place block at))))) only)
      stands

pub stands_behind_writes : StandsBehindWrites
stands_behind_writes l f h before behind noted other whole stands = behind_writes f h noted other.blocks l before behind whole stands

-- ---- another file's commit

-- A delta leaves the other inodes.
module _ (g : Geometry) (number inode size keep : ℕ) (extents : List Extent) (c : Catalog) (k : ℕ) (apart : (k == inode) ≡ false) where
  abbrev t : Committed
  t = record { number = number; records = Delta inode 1 size keep extents ∷ [] }

  abbrev next : Catalog
  next = with_form inode (after_delta (c.forms inode) number 1 size keep extents) c

  other_form : (with_committed_in g t c).forms k ≡ c.forms k
  other_form = by (is_in_range g (Delta inode 1 size keep extents)) (is_newer_in number c inode)
    where
      by : (a b : Bool) → (if a then (if b then next else c) else c).forms k ≡ c.forms k
      by true true = ap (λ (b : Bool). if b then after_delta (c.forms inode) number 1 size keep extents else c.forms k) apart
      by true false = refl
      by false b = refl

module _ (f : DurableState) (noted : IsNoted f) (t : Committed) (delta : IsDelta f.log.inode f.log.committed f.log.noted t.records) where
  form_else : (g : Geometry) (c : Catalog) (k : ℕ) → (k == f.file.inode) ≡ false → (with_committed_in g t c).forms k ≡ c.forms k
  form_else g c k apart =
      ap (λ (rs : List LogRecord). (with_committed_in g (record { number = t.number; records = rs }) c).forms k) (delta_is f t.records noted delta)
      ∙ other_form g t.number f.file.inode f.log.noted.size delta.keep (extents_of delta.given) c k apart

  behind_one : (l : Ledger) (h : DurableState) → IsOther f h → StandsFor l h → StandsFor (committed_one t l) h
  behind_one l h other stands =
      let apart : (h.file.inode == f.file.inode) ≡ false = (let no = other.inode in grind (arith, nat_tests, no)) in
      stands_still l (committed_one t l) h refl (form_else (geometry_of l.superblock) l.now.catalog h.file.inode apart) refl
      (λ block free. held_after l.now.log t block free (ap (list_any (is_set_in block)) (delta_is f t.records noted delta))) (λ place block bytes at free only. settled_has (l.blocks block) bytes only) stands

module _ (s : StoreState) (between : Moments) (records : List LogRecord) (l : Ledger) (f : DurableState) (has : HasLedger s l) (noted : IsNoted f) (delta : IsDelta f.log.inode f.log.committed f.log.noted records) where
  abbrev r : Ledger
  r = with_writes (writes_of f.file) l

  abbrev room : Bool → Ledger
  room b = if b then r else checkpointed (at_moments between s) r

  superblock_is : geometry_of s.superblock ≡ geometry_of r.superblock
  superblock_is = ap geometry_of (sym has.superblock_is ∙ sym (same_superblock (writes_of f.file) l))

  room_superblock : (b : Bool) → geometry_of (room b).superblock ≡ geometry_of l.superblock
  room_superblock true = ap geometry_of (same_superblock (writes_of f.file) l)
  room_superblock false = ap geometry_of (sym has.superblock_is)

  room_catalog : (b : Bool) → (room b).now.catalog ≡ l.now.catalog
  room_catalog true = ap (λ (x : Stand). x.catalog) (same_now (writes_of f.file) l)
  room_catalog false = ap (λ (x : Stand). x.catalog) (same_now (writes_of f.file) l)

  written_all : (h : DurableState) → IsOther f h → StandsFor l h → StandsFor r h
  written_all h other stands = behind_writes f h noted other.blocks l (writes_of f.file) [] (sym (append-nil (writes_of f.file))) stands

  in_room : (b : Bool) (h : DurableState) → IsOther f h → StandsFor l h → StandsFor (room b) h
  in_room true h other stands = written_all h other stands
  in_room false h other stands = behind_home r h (next_superblock s) (block_at (home_of r (reads between))) superblock_is (written_all h other stands)

  pub behind_commit : (h : DurableState) → IsOther f h → StandsFor l h → StandsFor (once_committed s between records f l) h
  behind_commit h other stands = behind_one f noted (next_commit s records) delta (room (has_room s records)) h other (in_room (has_room s records) h other stands)

  module _ (stands : StandsFor l f) where
    pub itself : StandsFor (once_committed s between records f l) (file_committed f)
    itself = stands_committed (at_moments between s) records l f noted stands delta (has.older f.file.inode stands.in_range) (room_superblock (has_room s records))

    module _ (h : DurableState) (other : IsOther f h) (own : HasOwnBlocks l h) where
      abbrev m : Ledger
      m = once_committed s between records f l

      its_blocks : form_blocks (m.now.catalog.forms f.file.inode) ≡ blocks_of f.file.extents
      its_blocks = ap (flat_map (λ (e : Extent). range_with_len e.start e.length)) itself.extents ∙ blocks_are f.log.noted.runs ∙ ap blocks_of noted.runs

      form_before : (j : ℕ) → (j == f.file.inode) ≡ false → m.now.catalog.forms j ≡ l.now.catalog.forms j
      form_before j apart =
          form_else f noted (next_commit s records) delta (geometry_of (room (has_room s records)).superblock) (room (has_room s records)).now.catalog j apart
          ∙ ap (λ (c : Catalog). c.forms j) (room_catalog (has_room s records))

      taken_before : (place block : ℕ) → slice_get (blocks_of h.file.extents) place ≡ Some block → IsTakenBlock (geometry_of m.superblock) m.now.catalog block → IsTakenBlock (geometry_of l.superblock) l.now.catalog block
      taken_before place block at (inl low) = inl (subst (λ (g : Geometry). block < first_of_data g) (room_superblock (has_room s records)) low)
      taken_before place block at (inr (j, q, had)) = by (j == f.file.inode) refl
        where
          by : (b : Bool) → (j == f.file.inode) ≡ b → IsTakenBlock (geometry_of l.superblock) l.now.catalog block
          by true e =
              let same : j ≡ f.file.inode = grind (arith, nat_tests, e) in
              let here : slice_get (blocks_of f.file.extents) q ≡ Some block = sym (ap (λ bs. slice_get bs q) (ap (λ i. form_blocks (m.now.catalog.forms i)) same ∙ its_blocks)) ∙ had.there in
              absurd (other.blocks q place block here at)
          by false e = inr (
            j,
            q,
            record {
              in_range = subst (λ (g : Geometry). IsInode g j) (room_superblock (has_room s records)) had.in_range;
              there = sym (ap (λ (x : InodeForm). slice_get (form_blocks x) q) (form_before j e)) ∙ had.there;
            },
          )

      pub owned : HasOwnBlocks m h
      owned place block at = by (own place block at)
        where
          by : (slice_get (blocks_of h.log.committed.runs) place ≡ Some block) ⊎ (IsTakenBlock (geometry_of l.superblock) l.now.catalog block → ⊥)
              → (slice_get (blocks_of h.log.committed.runs) place ≡ Some block) ⊎ (IsTakenBlock (geometry_of m.superblock) m.now.catalog block → ⊥)
          by (inl here) = inl here
          by (inr free) = inr (λ taken. free (taken_before place block at taken))

pub stands_behind_commit : StandsBehindCommit
stands_behind_commit s between records l f h has noted delta other stands = behind_commit s between records l f has noted delta h other stands

pub owns_behind_commit : OwnsBehindCommit
owns_behind_commit s between records l f h has noted stands delta other own = owned s between records l f has noted delta stands h other own

pub stands_once_committed : StandsOnceCommitted
stands_once_committed s between records l f has noted stands delta = itself s between records l f has noted delta stands
