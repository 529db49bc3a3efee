-- How a file goes on standing on its ledger.
use Rattle.std.proofs.Common.{◌≡◌, ℕ, zero, suc, ◌+◌, ◌<◌, ◌≤◌, ◌⊎◌, inl, inr, List, [], ◌∷◌, ◌++◌, Bool, true, false, Some, Option, length, take, replicate, get_or, unwrap_or, ap, sym, refl, ◌∙◌, subst, arith}
use Rattle.std.specs.Prelude.{◌==◌, ◌*◌, ◌/◌, ◌%◌, flat_map, if◌then◌else◌, IsTrue}
use Rattle.std.specs.List.{AllByRecursion, list_any, range_with_len, slice_get}
use Rattle.std.proofs.lemmas.Bool.Decides.{nat_tests}
use Rattle.std.proofs.lemmas.List.{map-append, take-map, get_or-replicate, length-replicate}
use Rattle.std.proofs.lemmas.Option.{get_or_from_slice_get, slice_get_within}
use Rattle.ufs_bitmap.proofs.TakingLemmas.{has-none}
use Rattle.ufs_disk.specs.Disk.{Cell, possible}
use Rattle.ufs_disk.specs.Moments.{reads}
use Rattle.ufs_disk.proofs.Runs.{all_append, all_map}
use Rattle.ufs_extent.specs.declared.Run.{Run}
use Rattle.ufs_extent.specs.Runs.{blocks_from, blocks_of}
use Rattle.ufs_file.specs.Content.{block_bytes, own_bytes}
use Rattle.ufs_ilog.specs.Deltas.{FileState as Noted, IsDelta, extents_of}
use Rattle.ufs_image.specs.Catalog.{IsInode}
use Rattle.ufs_image.specs.Fold.{after_delta}
use Rattle.ufs_image.specs.Folding.{is_newer_in, with_committed_in, with_form}
use Rattle.ufs_image.specs.Images.{block_at}
use Rattle.ufs_layout.specs.Areas.{is_inode_number}
use Rattle.ufs_layout.specs.InodeForm.{InodeForm}
use Rattle.ufs_layout.specs.Superblock.{geometry_of}
use Rattle.ufs_layout.specs.declared.geometry.Geometry.{Geometry}
use Rattle.ufs_layout.specs.declared.inode.Extent.{Extent}
use Rattle.ufs_layout.specs.declared.superblock.Super.{Super}
use Rattle.ufs_layout.specs.declared.records.Committed.{Committed}
use Rattle.ufs_layout.specs.declared.records.LogRecord.{LogRecord}
use Rattle.ufs_layout.specs.declared.records.LogRecord.TheVariants.{Delta}
use Rattle.ufs_ledger.specs.Changes.{committed_one, emptied, home_of, settled, settled_cell}
use Rattle.ufs_ledger.specs.Laws.{MayWrite}
use Rattle.ufs_ledger.specs.Ledger.{IsDataBlock, Ledger, Stand, is_held, is_set_in}
use Rattle.ufs_ledger.proofs.Alike.{in_range}
use Rattle.ufs_ledger.proofs.Held.{held_after}
use Rattle.ufs_ledger.proofs.Mixing.{has_byte_last}
use Rattle.ufs_crash_laws.specs.FileChanges.{byte_at}
use Rattle.ufs_file_commits.specs.State.{DurableState, IsNoted, file_committed}
use Rattle.ufs_store.specs.Ledgers.{checkpointed}
use Rattle.ufs_store.specs.State.{has_room, next_commit, next_superblock}
use Rattle.ufs_file_commits.specs.Standing.{DirtyMayBeWritten, HaveOnly, IsFileBlock, ShowsAsCommitted, ShowsTheFile, StandsCommitted, StandsFor, StandsSettled, StandsWhileWritten}
use Rattle.ufs_file_commits.specs.Writes.{BlockWrite, with_writes, write_at, write_of, writes_of}
use Rattle.ufs_file_commits.proofs.Behind.{same_superblock, same_now}
use Rattle.ufs_file_commits.proofs.Cells.{clean_cell, dirty_cell, got, got_back, length_block}
use Rattle.ufs_file_commits.proofs.Still.{byte_of_own, inside_own, own_in_block}

-- ---- its dirty blocks may be written

-- each is a whole block that a file may have
abbrev pub IsReady : Ledger → BlockWrite → Type 0
IsReady l w = IsFileBlock l w.block × (length w.bytes ≡ 4096)

module _ (l : Ledger) (f : DurableState) (noted : IsNoted f) (stands : StandsFor l f) where
  ready_at : (place : ℕ) → place < length f.file.content.dirty → AllByRecursion (IsReady l) (write_at f.file place)
  ready_at place under = by (unwrap_or (slice_get f.file.content.dirty place) false)
    where
      there : slice_get (blocks_of f.file.extents) place ≡ Some (get_or (blocks_of f.file.extents) place 0)
      there = got_back (blocks_of f.file.extents) 0 place (let same = noted.marks in omega (arith, under, same))

      here : IsFileBlock l (write_of f.file place).block
      here = subst (IsFileBlock l) (sym (ap (λ (o : Option ℕ). unwrap_or o 0) there)) (stands.blocks place (get_or (blocks_of f.file.extents) place 0) there)

      by : (b : Bool) → AllByRecursion (IsReady l) (if b then write_of f.file place ∷ [] else [])
      by true = ((here, length_block f.file.content.bytes place), tt)
      by false = tt

  ready_places : (from n : ℕ) → from + n ≤ length f.file.content.dirty → AllByRecursion (IsReady l) (flat_map (write_at f.file) (range_with_len from n))
  ready_places from zero inside = tt
  ready_places from (suc n) inside =
      all_append (IsReady l) (write_at f.file from) (flat_map (write_at f.file) (range_with_len (from + 1) n))
      (ready_at from (omega (arith, inside))) (ready_places (from + 1) n (omega (arith, inside)))

  pub writes_ready : AllByRecursion (IsReady l) (writes_of f.file)
  writes_ready = ready_places 0 (length f.file.content.dirty) (omega arith)

pub dirty_may : DirtyMayBeWritten
dirty_may l f noted stands = all_map (IsReady l) (λ (w : BlockWrite). MayWrite l w.block w.bytes)
    (λ w is. record { data_block = is.0.data_block; no_dir = is.0.no_dir; size = is.1 }) (writes_of f.file) (writes_ready l f noted stands)

-- ---- another ledger with the same stand

pub same_block : (l m : Ledger) (block : ℕ) → geometry_of m.superblock ≡ geometry_of l.superblock → m.now ≡ l.now → IsFileBlock l block → IsFileBlock m block
same_block l m block superblock now is = record {
  data_block = subst (λ (g : Geometry). IsDataBlock g block) (sym superblock) is.data_block;
  no_dir = subst (λ (s : Stand). IsTrue (s.dirs block) → ⊥) (sym now) is.no_dir;
  unheld = subst (λ (s : Stand). is_held s.log block ≡ false) (sym now) is.unheld;
}

-- ---- what its blocks have once all is settled

abbrev HaveAll : Ledger → DurableState → Type 0
HaveAll l f = (place block : ℕ) → slice_get (blocks_of f.file.extents) place ≡ Some block → HaveOnly (possible (l.blocks block)) (own_bytes f.file.content.bytes place)

pub settled_has : (cell : Cell) (bytes : List ℕ) → HaveOnly (possible cell) bytes → HaveOnly (possible (settled_cell cell)) bytes
settled_has cell bytes only at byte under (inl e) = only at byte under (has_byte_last cell.older cell.seen at byte e)
settled_has cell bytes only at byte under (inr none) = absurd none

seen_has : (cell : Cell) (bytes : List ℕ) (place : ℕ) → cell.seen ≡ block_bytes bytes place → HaveOnly (possible (settled_cell cell)) (own_bytes bytes place)
seen_has cell bytes place e at byte under (inl is) = is ∙ ap (λ b. byte_at b at) e ∙ own_in_block bytes place at under
seen_has cell bytes place e at byte under (inr none) = absurd none

module _ (l : Ledger) (f : DurableState) (noted : IsNoted f) (stands : StandsFor l f) where
  marked : (place block : ℕ) → slice_get (blocks_of f.file.extents) place ≡ Some block → (slice_get f.file.content.dirty place ≡ Some true) ⊎ (slice_get f.file.content.dirty place ≡ Some false)
  marked place block at = by (get_or f.file.content.dirty place false) (got_back f.file.content.dirty false place (let under = (got (blocks_of f.file.extents) place block at).0 in let same = noted.marks in omega (arith, under, same)))
    where
      by : (b : Bool) → slice_get f.file.content.dirty place ≡ Some b → (slice_get f.file.content.dirty place ≡ Some true) ⊎ (slice_get f.file.content.dirty place ≡ Some false)
      by true e = inl e
      by false e = inr e

  pub all_settled : HaveAll (settled (with_writes (writes_of f.file) l)) f
  all_settled place block at = by (marked place block at)
    where
      by : (slice_get f.file.content.dirty place ≡ Some true) ⊎ (slice_get f.file.content.dirty place ≡ Some false) → HaveOnly (possible (settled_cell ((with_writes (writes_of f.file) l).blocks block))) (own_bytes f.file.content.bytes place)
      by (inl dirty) = seen_has ((with_writes (writes_of f.file) l).blocks block) f.file.content.bytes place (dirty_cell f.file noted.apart.once noted.marks place block at l dirty)
      by (inr clean) =
          settled_has ((with_writes (writes_of f.file) l).blocks block) (own_bytes f.file.content.bytes place)
          (subst (λ (c : Cell). HaveOnly (possible c) (own_bytes f.file.content.bytes place)) (sym (clean_cell f.file noted.apart.once noted.marks place block at l clean)) (stands.clean place block at clean))

  pub while_written : StandsFor (with_writes (writes_of f.file) l) f
  while_written =
      let now = same_now (writes_of f.file) l in
      record {
        in_range = subst (λ (h : Super). IsInode (geometry_of h) f.file.inode) (sym (same_superblock (writes_of f.file) l)) stands.in_range;
        kind = subst (λ (s : Stand). (s.catalog.forms f.file.inode).kind ≡ 1) (sym now) stands.kind;
        size = subst (λ (s : Stand). (s.catalog.forms f.file.inode).size ≡ f.log.committed.size) (sym now) stands.size;
        extents = subst (λ (s : Stand). (s.catalog.forms f.file.inode).extents ≡ extents_of f.log.committed.runs) (sym now) stands.extents;
        blocks = λ place block at. same_block l (with_writes (writes_of f.file) l) block (ap geometry_of (same_superblock (writes_of f.file) l)) now (stands.blocks place block at);
        clean = λ place block at is. subst (λ (c : Cell). HaveOnly (possible c) (own_bytes f.file.content.bytes place)) (sym (clean_cell f.file noted.apart.once noted.marks place block at l is)) (stands.clean place block at is);
      }

  pub once_settled : f.log.noted ≡ f.log.committed → StandsFor (settled (with_writes (writes_of f.file) l)) (file_committed f)
  once_settled same =
      let now = same_now (writes_of f.file) l in
      record {
        in_range = subst (λ (h : Super). IsInode (geometry_of h) f.file.inode) (sym (same_superblock (writes_of f.file) l)) stands.in_range;
        kind = subst (λ (s : Stand). (s.catalog.forms f.file.inode).kind ≡ 1) (sym now) stands.kind;
        size = subst (λ (s : Stand). (s.catalog.forms f.file.inode).size ≡ f.log.noted.size) (sym now) (stands.size ∙ ap (λ (n : Noted). n.size) (sym same));
        extents = subst (λ (s : Stand). (s.catalog.forms f.file.inode).extents ≡ extents_of f.log.noted.runs) (sym now) (stands.extents ∙ ap (λ (n : Noted). extents_of n.runs) (sym same));
        blocks = λ place block at. same_block l (settled (with_writes (writes_of f.file) l)) block (ap geometry_of (same_superblock (writes_of f.file) l)) now (stands.blocks place block at);
        clean = λ place block at is. all_settled place block at;
      }

  -- ---- its new form is committed

  pub given_extents : (keep : ℕ) (given : List Run) → take keep f.log.committed.runs ++ given ≡ f.log.noted.runs → take keep (extents_of f.log.committed.runs) ++ extents_of given ≡ extents_of f.log.noted.runs
  given_extents keep given whole =
      let as_extent : Run → Extent = λ r. record { start = r.start; length = r.length } in
      ap (λ (es : List Extent). es ++ extents_of given) (take-map as_extent keep f.log.committed.runs) ∙ sym (map-append as_extent (take keep f.log.committed.runs) given) ∙ ap extents_of whole

  module _ (t : Committed) (delta : IsDelta f.log.inode f.log.committed f.log.noted t.records) (newer : (l.now.catalog.forms f.file.inode).number < t.number) where
    abbrev form : InodeForm
    form = after_delta (l.now.catalog.forms f.file.inode) t.number 1 f.log.noted.size delta.keep (extents_of delta.given)

    records_are : t.records ≡ Delta f.file.inode 1 f.log.noted.size delta.keep (extents_of delta.given) ∷ []
    records_are = delta.is ∙ ap (λ i. Delta i 1 f.log.noted.size delta.keep (extents_of delta.given) ∷ []) noted.inode

    form_after : (with_committed_in (geometry_of l.superblock) t l.now.catalog).forms f.file.inode ≡ form
    form_after =
        let ranged : is_inode_number (geometry_of l.superblock) f.file.inode ≡ true = in_range (geometry_of l.superblock) f.file.inode stands.in_range in
        let later : is_newer_in t.number l.now.catalog f.file.inode ≡ true = grind (arith, nat_tests, newer) in
        let self : (f.file.inode == f.file.inode) ≡ true = grind (arith, nat_tests) in
        ap (λ (rs : List LogRecord). (with_committed_in (geometry_of l.superblock) (record { number = t.number; records = rs }) l.now.catalog).forms f.file.inode) records_are
        ∙ (λ i. (if ranged i then (if later i then with_form f.file.inode form l.now.catalog else l.now.catalog) else l.now.catalog).forms f.file.inode)
        ∙ ap (λ (b : Bool). if b then form else l.now.catalog.forms f.file.inode) self

    -- behind it, on a ledger whose catalog is as before
    module _ (r : Ledger) (superblock : geometry_of r.superblock ≡ geometry_of l.superblock) (catalog : r.now.catalog ≡ l.now.catalog) (dirs : r.now.dirs ≡ l.now.dirs) (unheld : (block : ℕ) → is_held l.now.log block ≡ false → is_held r.now.log block ≡ false)
        (have : HaveAll (settled r) f) where
      same_form : (with_committed_in (geometry_of r.superblock) t r.now.catalog).forms f.file.inode ≡ form
      same_form = (λ i. (with_committed_in (superblock i) t (catalog i)).forms f.file.inode) ∙ form_after

      held_none : (block : ℕ) → list_any (is_set_in block) t.records ≡ false
      held_none block = ap (list_any (is_set_in block)) records_are

      pub committed_on : StandsFor (committed_one t r) (file_committed f)
      committed_on = record {
        in_range = subst (λ (g : Geometry). IsInode g f.file.inode) (sym superblock) stands.in_range;
        kind = ap (λ (x : InodeForm). x.kind) same_form;
        size = ap (λ (x : InodeForm). x.size) same_form;
        extents = ap (λ (x : InodeForm). x.extents) same_form ∙ ap (λ (es : List Extent). take delta.keep es ++ extents_of delta.given) stands.extents ∙ given_extents delta.keep delta.given delta.whole;
        blocks = λ place block at. let was = stands.blocks place block at in record {
          data_block = subst (λ (g : Geometry). IsDataBlock g block) (sym superblock) was.data_block;
          no_dir = subst (λ (d : ℕ → Bool). IsTrue (d block) → ⊥) (sym dirs) was.no_dir;
          unheld = held_after r.now.log t block (unheld block was.unheld) (held_none block);
        };
        clean = λ place block at is. have place block at;
      }

-- a checkpoint settles them too
module _ (l : Ledger) (f : DurableState) (noted : IsNoted f) (stands : StandsFor l f) (superblock : Super) (home : ℕ → List ℕ) where
  settled_twice : (block : ℕ) → is_held (with_writes (writes_of f.file) l).now.log block ≡ false
      → settled_cell ((emptied superblock home (with_writes (writes_of f.file) l)).blocks block) ≡ settled_cell ((with_writes (writes_of f.file) l).blocks block)
  settled_twice block free = ap (λ (b : Bool). settled_cell (if b then record { older = []; seen = home block } else settled_cell ((with_writes (writes_of f.file) l).blocks block))) free

  pub all_home : HaveAll (settled (emptied superblock home (with_writes (writes_of f.file) l))) f
  all_home place block at =
      let free = subst (λ (s : Stand). is_held s.log block ≡ false) (sym (same_now (writes_of f.file) l)) (stands.blocks place block at).unheld in
      subst (λ (c : Cell). HaveOnly (possible c) (own_bytes f.file.content.bytes place)) (sym (settled_twice block free)) (all_settled l f noted stands place block at)

pub stands_committed : StandsCommitted
stands_committed s records l f noted stands delta newer = by (has_room s records)
  where
    by : (b : Bool) → geometry_of (if b then with_writes (writes_of f.file) l else checkpointed s (with_writes (writes_of f.file) l)).superblock ≡ geometry_of l.superblock
        → StandsFor (committed_one (next_commit s records) (if b then with_writes (writes_of f.file) l else checkpointed s (with_writes (writes_of f.file) l))) (file_committed f)
    by true superblock =
        let now = same_now (writes_of f.file) l in
        committed_on l f noted stands (next_commit s records) delta newer (with_writes (writes_of f.file) l) superblock (ap (λ (x : Stand). x.catalog) now) (ap (λ (x : Stand). x.dirs) now)
        (λ block free. subst (λ (x : Stand). is_held x.log block ≡ false) (sym now) free) (all_settled l f noted stands)
    by false superblock =
        let now = same_now (writes_of f.file) l in
        committed_on l f noted stands (next_commit s records) delta newer (checkpointed s (with_writes (writes_of f.file) l)) superblock (ap (λ (x : Stand). x.catalog) now) (ap (λ (x : Stand). x.dirs) now)
        (λ block free. refl)
        (all_home l f noted stands (next_superblock s) (block_at (home_of (with_writes (writes_of f.file) l) (reads s.moments))))

pub stands_written : StandsWhileWritten
stands_written l f noted stands = while_written l f noted stands

pub stands_settled : StandsSettled
stands_settled l f noted stands same = once_settled l f noted stands same

-- ---- what a crash leaves of it

-- the blocks of a form are those of its runs
range_is : (first n : ℕ) → range_with_len first n ≡ blocks_from first n
range_is first zero = refl
range_is first (suc n) = ap (λ bs. first ∷ bs) (range_is (first + 1) n)

pub blocks_are : (runs : List Run) → flat_map (λ (e : Extent). range_with_len e.start e.length) (extents_of runs) ≡ blocks_of runs
blocks_are [] = refl
blocks_are (r ∷ rs) = λ i. range_is r.start r.length i ++ blocks_are rs i

-- the byte at a place, in the block in which it lies
pub byte_in_own : (bytes : List ℕ) (place : ℕ) → place < length bytes → (place % 4096 < length (own_bytes bytes (place / 4096))) × (byte_at (own_bytes bytes (place / 4096)) (place % 4096) ≡ byte_at bytes place)
byte_in_own bytes place under =
    let e : 4096 * (place / 4096) + place % 4096 ≡ place = omega arith in (
      inside_own bytes (place / 4096) (place % 4096) (omega arith) (omega (arith, under)),
      byte_of_own bytes (place / 4096) (place % 4096) (omega arith) ∙ ap (byte_at bytes) e,
    )

pub shows_as_committed : ShowsAsCommitted
shows_as_committed l f number keep given noted stands whole place byte under has =
    let all : take keep (l.now.catalog.forms f.file.inode).extents ++ extents_of given ≡ extents_of f.log.noted.runs =
    ap (λ (es : List Extent). take keep es ++ extents_of given) stands.extents ∙ given_extents l f noted stands keep given whole in
    let blocks : flat_map (λ (e : Extent). range_with_len e.start e.length) (take keep (l.now.catalog.forms f.file.inode).extents ++ extents_of given) ≡ blocks_of f.file.extents =
    ap (flat_map (λ (e : Extent). range_with_len e.start e.length)) all ∙ blocks_are f.log.noted.runs ∙ ap blocks_of noted.runs in
    let at : slice_get (blocks_of f.file.extents) (place / 4096) ≡ Some has.block = subst (λ bs. slice_get bs (place / 4096) ≡ Some has.block) blocks has.there in
    let own = byte_in_own f.file.content.bytes place (let same = noted.size in omega (arith, under, same)) in
    all_settled l f noted stands (place / 4096) has.block at (place % 4096) byte own.0 has.has ∙ own.1

pub shows_the_file : ShowsTheFile
shows_the_file l f noted stands same cleaned place byte under has =
    let form = l.now.catalog.forms f.file.inode in
    let whole : flat_map (λ (e : Extent). range_with_len e.start e.length) form.extents ≡ blocks_of f.file.extents =
    ap (flat_map (λ (e : Extent). range_with_len e.start e.length)) stands.extents ∙ blocks_are f.log.committed.runs ∙ ap (λ (n : Noted). blocks_of n.runs) (sym same) ∙ ap blocks_of noted.runs in
    let at : slice_get (blocks_of f.file.extents) (place / 4096) ≡ Some has.block = subst (λ bs. slice_get bs (place / 4096) ≡ Some has.block) whole has.there in
    let inside : place / 4096 < length f.file.content.dirty = (let low = (got (blocks_of f.file.extents) (place / 4096) has.block at).0 in let marks = noted.marks in omega (arith, low, marks)) in
    let off : slice_get f.file.content.dirty (place / 4096) ≡ Some false =
    got_back f.file.content.dirty false (place / 4096) inside ∙ ap Some (ap (λ (ds : List Bool). get_or ds (place / 4096) false) cleaned ∙ get_or-replicate (length f.file.content.dirty) (place / 4096) false false inside) in
    let own = byte_in_own f.file.content.bytes place under in
    stands.clean (place / 4096) has.block at off (place % 4096) byte own.0 has.has ∙ own.1

-- ---- what the type keeps

none_marked : (n place : ℕ) → slice_get (replicate n false) place ≡ Some true → ⊥
none_marked n place e =
    let less = slice_get_within (replicate n false) place true e in
    let both : false ≡ true = sym (get_or-replicate n place false false (omega (arith, less, length-replicate {A = Bool} n false))) ∙ get_or_from_slice_get (replicate n false) place true false e in
    cc

pub noted_committed : (f : DurableState) → IsNoted f → IsNoted (file_committed f)
noted_committed f noted = record {
  inode = noted.inode;
  runs = noted.runs;
  size = noted.size;
  marks = length-replicate (length f.file.content.dirty) false ∙ noted.marks;
  held = noted.held ∙ sym (length-replicate (length f.file.content.dirty) false);
  written = λ place e. absurd (none_marked (length f.file.content.dirty) place e);
  apart = record { absent = λ b is. has-none b; once = noted.apart.once };
}
