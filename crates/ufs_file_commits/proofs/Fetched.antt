-- Blocks of a file that are read from a store, one after the other.
use Rattle.std.proofs.Common.{◌≡◌, ◌∙◌, ℕ, ◌+◌, ◌-◌, ◌*◌, ◌<◌, ◌≤◌, ◌⊎◌, inl, inr, List, [], ◌∷◌, ◌++◌, Bool, true, false, Some, length, take, get_or, ap, arith, refl, subst, sym}
use Rattle.std.specs.Prelude.{IsTrue}
use Rattle.std.specs.List.{slice_get}
use Rattle.std.proofs.lemmas.Bool.{cases_lt}
use Rattle.std.proofs.lemmas.List.{ext_get_or, get_or-take, length-take}
use Rattle.std.proofs.lemmas.Option.{get_or_from_slice_get, slice_get_within}
use Rattle.ufs_disk.specs.Disk.{Cell, possible}
use Rattle.ufs_disk.specs.Moments.{LeavesOnly}
use Rattle.ufs_disk.proofs.Runs.{joined, started}
use Rattle.ufs_extent.specs.Runs.{blocks_of}
use Rattle.ufs_file.specs.Content.{Content, block_bytes, block_count, loaded, own_bytes}
use Rattle.ufs_file.specs.Hand.{FileState, whole_as}
use Rattle.ufs_file.specs.Lists.{over}
use Rattle.ufs_file.proofs.ByteLemmas.{block_byte, byte_resized, length-resized, past_end}
use Rattle.ufs_file.proofs.OverLemmas.{length-over}
use Rattle.ufs_file.proofs.SpanLemmas.{mark_there, over-before, over-inside, over-past}
use Rattle.ufs_file.proofs.UnreadLemmas.{content_itself, loaded_may, loaded_might}
use Rattle.ufs_layout.specs.Superblock.{geometry_of}
use Rattle.ufs_ledger.specs.Ledger.{HasByte, IsDataBlock, IsLedgerOf, IsLeftBy, Ledger, is_held}
use Rattle.ufs_model.specs.FileBytes.{resized}
use Rattle.ufs_crash_laws.specs.FileChanges.{byte_at}
use Rattle.ufs_store.specs.Ledgers.{HasLedger}
use Rattle.ufs_store.specs.State.{StoreState}
use Rattle.ufs_file_commits.specs.Fetching.{HasFetched}
use Rattle.ufs_file_commits.specs.Standing.{HaveOnly, IsReadable}
use Rattle.ufs_file_commits.specs.State.{CommitState, IsNoted, state_of}
use Rattle.ufs_file_commits.proofs.Cells.{got_back, length_block}
use Rattle.ufs_file_commits.proofs.Still.{inside_own, own_in_block}

-- ---- one after the other

pub fetched_none : (visible keeps : Bool) (s : StoreState) (f : FileState) → HasFetched visible keeps s s f f
fetched_none visible keeps s f = record {
  rest = refl;
  still = refl;
  marks = refl;
  kept = λ place e. e;
  fewer = λ bytes may. may;
  read = λ v l bytes is readable may. may;
  crash = λ v l is. started keeps (IsLeftBy s.sectors l) s.moments (λ image left. is.images image left);
  on_disk = λ v l is. is;
  ledger = λ v l has. has;
  store = refl;
}

pub fetched_then : (visible keeps : Bool) (s t u : StoreState) (f g h : FileState) → HasFetched visible keeps s t f g → HasFetched visible keeps t u g h → HasFetched visible keeps s u f h
fetched_then visible keeps s t u f g h a b = record {
  rest = b.rest ∙ ap (λ (x : FileState). record x { content = record (x.content) { bytes = h.content.bytes; there = h.content.there } }) a.rest;
  still = b.still ∙ a.still;
  marks = b.marks ∙ a.marks;
  kept = λ place e. b.kept place (a.kept place e);
  fewer = λ bytes may. a.fewer bytes (b.fewer bytes may);
  read = λ v l bytes is readable may. b.read v l bytes (a.on_disk v l is) (subst (λ (x : FileState). IsReadable l (whole_as bytes x)) (sym a.rest) readable) (a.read v l bytes is readable may);
  crash = λ v l is. joined keeps (IsLeftBy s.sectors l) s.moments t.moments u.moments (a.crash v l is)
      (subst (λ (n : ℕ). LeavesOnly keeps (IsLeftBy n l) t.moments u.moments) (ap (λ (x : StoreState). x.sectors) a.store) (b.crash v l (a.on_disk v l is)));
  on_disk = λ v l is. b.on_disk v l (a.on_disk v l is);
  ledger = λ v l has. b.ledger v l (a.ledger v l has);
  store = b.store ∙ ap (λ (x : StoreState). record x { moments = u.moments; faults = u.faults }) a.store;
}

-- The log notes it as before.
pub noted_fetched : (visible keeps : Bool) (s t : StoreState) (f g : FileState) → HasFetched visible keeps s t f g → (c : CommitState) → IsNoted (state_of f c) → IsNoted (state_of g c)
noted_fetched visible keeps s t f g h c noted = subst (λ (x : FileState). IsNoted (state_of x c)) (sym h.rest) (record {
  inode = noted.inode;
  runs = noted.runs;
  size = noted.size ∙ sym h.still;
  marks = noted.marks;
  held = h.marks ∙ noted.held;
  written = λ place e. h.kept place (noted.written place e);
  apart = noted.apart;
})

-- ---- one block

-- what a read of a block that has only these bytes gives
has_last : (older : List (List ℕ)) (last : List ℕ) (i : ℕ) → HasByte (older ++ last ∷ []) i (byte_at last i)
has_last [] last i = inl refl
has_last (x ∷ xs) last i = inr (has_last xs last i)

-- The block of a file is what was read, up to the file's end.
module _ (cell : Cell) (bytes : List ℕ) (place n : ℕ) (only : HaveOnly (possible cell) (own_bytes bytes place)) (long : length bytes ≡ n) where
  byte_seen : (i : ℕ) → i < 4096 → 4096 * place + i < length bytes → get_or cell.seen i 0 ≡ get_or (block_bytes bytes place) i 0
  byte_seen i low under =
      let own = inside_own bytes place i low under in
      only i (byte_at cell.seen i) own (has_last cell.older cell.seen i) ∙ sym (own_in_block bytes place i own)

  pub block_seen : block_bytes bytes place ≡ resized (take (n - 4096 * place) cell.seen) 4096
  block_seen =
      let xs : List ℕ = block_bytes bytes place in
      let ys : List ℕ = take (n - 4096 * place) cell.seen in
      ext_get_or 0 xs (resized ys 4096) (length_block bytes place ∙ sym (length-resized ys 4096)) (λ i less.
      let low : i < 4096 = omega (arith, less, length_block bytes place) in
      each i low (cases_lt i (n - 4096 * place)) ∙ sym (byte_resized ys 4096 i low))
    where
      each : (i : ℕ) → i < 4096 → (i < n - 4096 * place) ⊎ (n - 4096 * place ≤ i) → get_or (block_bytes bytes place) i 0 ≡ get_or (take (n - 4096 * place) cell.seen) i 0
      each i low (inl less) = sym (byte_seen i low (omega (arith, less, long))) ∙ sym (get_or-take (n - 4096 * place) cell.seen i 0 less)
      each i low (inr past) =
          block_byte bytes place i low ∙ past_end bytes (4096 * place + i) 0 (omega (arith, past, long))
          ∙ sym (past_end (take (n - 4096 * place) cell.seen) i 0 (omega (arith, past, length-take (n - 4096 * place) cell.seen)))

-- a block that isn't in memory isn't dirty
pub clean_there : (c : Content) (place : ℕ) → slice_get c.there place ≡ Some false → length c.there ≡ length c.dirty
    → ((p : ℕ) → slice_get c.dirty p ≡ Some true → slice_get c.there p ≡ Some true) → slice_get c.dirty place ≡ Some false
clean_there c place absent same written = by (get_or c.dirty place false) (got_back c.dirty false place (omega (arith, same, slice_get_within c.there place false absent)))
  where
    by : (b : Bool) → slice_get c.dirty place ≡ Some b → slice_get c.dirty place ≡ Some false
    by false e = e
    by true e = (let both : Some true ≡ Some false = sym (written place e) ∙ absent in cc)

-- A block that wasn't in memory is, once it is loaded, and those beside it stay.
module _ (f : FileState) (place : ℕ) (buf : List ℕ) (absent : slice_get f.content.there place ≡ Some false) where
  within : place < length f.content.there
  within = slice_get_within f.content.there place false absent

  marks_fit : place + length (true ∷ []) ≤ length f.content.there
  marks_fit = omega (arith, within)

  pub now_there : slice_get (loaded f.content place buf).there place ≡ Some true
  now_there =
      let e : 0 ≡ place - place = omega arith in
      mark_there (loaded f.content place buf).there place
      (over-inside f.content.there (true ∷ []) place place false marks_fit (omega arith) (omega arith) ∙ ap (λ (i : ℕ). get_or (true ∷ []) i false) (sym e))

  still_there : (p : ℕ) → slice_get f.content.there p ≡ Some true → slice_get (loaded f.content place buf).there p ≡ Some true
  still_there p e = mark_there (loaded f.content place buf).there p (by (cases_lt p place) (cases_lt place p))
    where
      was : get_or f.content.there p false ≡ true
      was = get_or_from_slice_get f.content.there p true false e

      by : (p < place) ⊎ (place ≤ p) → (place < p) ⊎ (p ≤ place) → get_or (over f.content.there place (true ∷ [])) p false ≡ true
      by (inl less) _ = over-before f.content.there (true ∷ []) place p false marks_fit less ∙ was
      by (inr from) (inl more) = over-past f.content.there (true ∷ []) place p false marks_fit (omega (arith, more)) ∙ was
      by (inr from) (inr to) =
          let same : place ≡ p = omega (arith, from, to) in
          let both : Some true ≡ Some false = sym e ∙ ap (slice_get f.content.there) (sym same) ∙ absent in
          cc

-- The call of the store alone.
module _ (visible keeps : Bool) (s t : StoreState) (f : FileState) (moved : t ≡ record s { moments = t.moments; faults = t.faults })
    (crash : IsTrue visible → (l : Ledger) → IsLedgerOf s.sectors s.moments.state l → LeavesOnly keeps (IsLeftBy s.sectors l) s.moments t.moments)
    (on_disk : IsTrue visible → (l : Ledger) → IsLedgerOf s.sectors s.moments.state l → IsLedgerOf t.sectors t.moments.state l)
    (ledger : IsTrue visible → (l : Ledger) → HasLedger s l → HasLedger t l) where
  pub fetched_call : HasFetched visible keeps s t f f
  fetched_call = record {
    rest = refl;
    still = refl;
    marks = refl;
    kept = λ place e. e;
    fewer = λ bytes may. may;
    read = λ v l bytes is readable may. may;
    crash = crash;
    on_disk = on_disk;
    ledger = ledger;
    store = moved;
  }

  -- Behind it the block is in memory.
  module _ (place block : ℕ) (buf : List ℕ) (absent : slice_get f.content.there place ≡ Some false) (clean : slice_get f.content.dirty place ≡ Some false)
      (count : length f.content.there ≡ block_count (length f.content.bytes)) (size : length buf ≡ 4096) (here : slice_get (blocks_of f.extents) place ≡ Some block)
      (told : IsTrue visible → (l : Ledger) → IsLedgerOf s.sectors s.moments.state l → IsDataBlock (geometry_of l.superblock) block → is_held l.now.log block ≡ false → buf ≡ (l.blocks block).seen) where
    given : (l : Ledger) (bytes : List ℕ) → IsTrue visible → IsLedgerOf s.sectors s.moments.state l → IsReadable l (whole_as bytes f) → length bytes ≡ length f.content.bytes
        → block_bytes bytes place ≡ resized (take (length f.content.bytes - 4096 * place) buf) 4096
    given l bytes v is readable long =
        let its = readable.blocks place block here clean in
        let same : buf ≡ (l.blocks block).seen = told v l is its.data_block its.unheld in
        block_seen (l.blocks block) bytes place (length f.content.bytes) (readable.clean place block here clean) long
        ∙ ap (λ (xs : List ℕ). resized (take (length f.content.bytes - 4096 * place) xs) 4096) (sym same)

    pub fetched_one : HasFetched visible keeps s t f (record f { content = loaded f.content place buf })
    fetched_one = record {
      rest = refl;
      still = (loaded_might f.content place buf absent count size (loaded f.content place buf).bytes (content_itself (loaded f.content place buf))).long;
      marks = length-over f.content.there place (true ∷ []) (marks_fit f place buf absent);
      kept = still_there f place buf absent;
      fewer = loaded_might f.content place buf absent count size;
      read = λ v l bytes is readable may. loaded_may f.content place buf absent count size bytes may (given l bytes v is readable may.long);
      crash = crash;
      on_disk = on_disk;
      ledger = ledger;
      store = moved;
    }
