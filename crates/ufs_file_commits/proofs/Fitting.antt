-- What changed of a file may be committed.
use Rattle.std.proofs.Common.{◌≡◌, ℕ, zero, suc, ◌+◌, ◌-◌, ◌<◌, ◌≤◌, ◌⊎◌, inl, inr, List, [], ◌∷◌, ◌++◌, true, Some, length, take, ap, sym, refl, ◌∙◌, subst, arith, length-append}
use Rattle.std.specs.Prelude.{All, flat_map, ◌^◌}
use Rattle.std.specs.List.{AllByRecursion, range_with_len, slice_get}
use Rattle.std.proofs.lemmas.Bool.{and_parts}
use Rattle.std.proofs.lemmas.List.{length-map, length-take-le}
use Rattle.std.proofs.lemmas.List.Elements.{All-head, All-tail}
use Rattle.ufs_disk.specs.Disk.{seen}
use Rattle.ufs_disk.proofs.Images.{seen_is_image}
use Rattle.ufs_extent.specs.declared.Run.{Run}
use Rattle.ufs_extent.specs.Runs.{IsRun, blocks_from, blocks_of}
use Rattle.ufs_ilog.specs.Deltas.{IsDelta, extents_of}
use Rattle.ufs_ilog.proofs.DeltaLemmas.{delta_form}
use Rattle.ufs_image.specs.Catalog.{HasBlock}
use Rattle.ufs_image.specs.Changes.{IsTakenBlock, MayBecome}
use Rattle.ufs_image.specs.Fold.{after_delta}
use Rattle.ufs_image.specs.Folding.{FitsCommitted, file_commit}
use Rattle.ufs_image.specs.Nodes.{blocks_of as form_blocks}
use Rattle.ufs_image.specs.Sound.{IsInData, IsSoundCatalog}
use Rattle.ufs_image.proofs.Opening.{has_geometry}
use Rattle.ufs_layout.specs.Areas.{IsGeometry}
use Rattle.ufs_layout.specs.InodeForm.{FitsExtent, InodeForm}
use Rattle.ufs_layout.specs.Records.{is_record}
use Rattle.ufs_layout.specs.Superblock.{geometry_of}
use Rattle.ufs_layout.specs.declared.geometry.Geometry.{Geometry}
use Rattle.ufs_layout.specs.declared.inode.Extent.{Extent}
use Rattle.ufs_layout.specs.declared.records.Committed.{Committed}
use Rattle.ufs_layout.specs.declared.records.LogRecord.{LogRecord}
use Rattle.ufs_layout.specs.declared.records.LogRecord.TheVariants.{Delta}
use Rattle.ufs_ledger.specs.Changes.{MayCommit}
use Rattle.ufs_ledger.specs.Laws.{MayCommitForm}
use Rattle.ufs_ledger.specs.Ledger.{CoversDirs, IsDataBlock, IsLeft, Ledger, Stand}
use Rattle.ufs_ledger.proofs.Forms.{forms_may_commit, ledgers_are_sound}
use Rattle.ufs_ledger.proofs.Opened.{same_geometry}
use Rattle.ufs_ledger.proofs.States.{on_one}
use Rattle.ufs_store.specs.Ledgers.{HasLedger}
use Rattle.ufs_store.specs.State.{StoreState, next_commit}
use Rattle.ufs_file_commits.specs.Committing.{FilesMayCommitNext, FitsInode, HasOwnBlocks}
use Rattle.ufs_file_commits.specs.Standing.{StandsFor}
use Rattle.ufs_file_commits.specs.State.{DurableState, IsNoted}
use Rattle.ufs_file_commits.specs.Writes.{BlockWrite, with_writes}
use Rattle.ufs_file_commits.proofs.Behind.{same_now}
use Rattle.ufs_file_commits.proofs.Cells.{one_place}
use Rattle.ufs_file_commits.proofs.Standing.{blocks_are, given_extents}

-- ---- runs and their blocks

run_block : (first n i : ℕ) (rest : List ℕ) → i < n → slice_get (blocks_from first n ++ rest) i ≡ Some (first + i)
run_block first zero i rest less = absurd (omega (arith, less))
run_block first (suc n) zero rest less = ap Some (let same : first ≡ first + 0 = omega arith in same)
run_block first (suc n) (suc i) rest less = run_block (first + 1) n i rest (omega (arith, less)) ∙ ap Some (let same : first + 1 + i ≡ first + suc i = omega arith in same)

behind_run : (first n i : ℕ) (rest : List ℕ) → slice_get (blocks_from first n ++ rest) (n + i) ≡ slice_get rest i
behind_run first zero i rest = ap (slice_get rest) (let same : zero + i ≡ i = omega arith in same)
behind_run first (suc n) i rest = ap (slice_get (first ∷ (blocks_from (first + 1) n ++ rest))) (let same : suc n + i ≡ suc (n + i) = omega arith in same) ∙ behind_run (first + 1) n i rest

runs_in_data : (g : Geometry) (runs : List Run) → All IsRun runs → ((place block : ℕ) → slice_get (blocks_of runs) place ≡ Some block → IsDataBlock g block) → AllByRecursion (IsInData g) (extents_of runs)
runs_in_data g [] every there = tt
runs_in_data g (r ∷ rs) every there =
    let some = (All-head IsRun r rs every).0 in
    let front = there 0 (r.start + 0) (run_block r.start r.length 0 (blocks_of rs) (omega (arith, some))) in
    let back = there (r.length - 1) (r.start + (r.length - 1)) (run_block r.start r.length (r.length - 1) (blocks_of rs) (omega (arith, some))) in
    let from = front.from in
    let under = back.under in
    (record { start = omega (arith, from); end = omega (arith, under, some) }, runs_in_data g rs (All-tail IsRun r rs every) (λ place block at. there (r.length + place) block (behind_run r.start r.length place (blocks_of rs) ∙ at)))

runs_fit : (runs : List Run) → All IsRun runs → AllByRecursion FitsExtent (extents_of runs)
runs_fit [] every = tt
runs_fit (r ∷ rs) every = let is = All-head IsRun r rs every in let low = is.0 in let high = is.1 in (record { start = omega (arith, low, high); length = omega (arith, low, high) }, runs_fit rs (All-tail IsRun r rs every))

back_all : (xs ys : List Run) → All IsRun (xs ++ ys) → All IsRun ys
back_all [] ys every = every
back_all (x ∷ xs) ys every = back_all xs ys (All-tail IsRun x (xs ++ ys) every)

-- ---- what a store knows of its disk

module _ (s : StoreState) (l : Ledger) (has : HasLedger s l) where
  left : IsLeft s.sectors l.superblock l.blocks l.now (seen s.moments.state)
  left = on_one s.sectors l (seen s.moments.state) has.by.none (has.by.is.images (seen s.moments.state) (seen_is_image s.moments.state))

  pub sound : IsSoundCatalog (geometry_of l.superblock) l.now.catalog
  sound = (ledgers_are_sound s.sectors s.moments.state l has.by.none has.by.is).0

  pub covers : CoversDirs (geometry_of l.superblock) l.now
  covers = (ledgers_are_sound s.sectors s.moments.state l has.by.none has.by.is).1

  limits : IsGeometry (geometry_of l.superblock)
  limits = subst IsGeometry (same_geometry s.sectors l.superblock l.blocks l.now (seen s.moments.state) left) (has_geometry s.sectors (seen s.moments.state) left.as_volume left.taken).0

-- ---- what is committed

-- what changed of a file, as one delta
pub delta_is : (f : DurableState) (records : List LogRecord) → IsNoted f → (delta : IsDelta f.log.inode f.log.committed f.log.noted records) → records ≡ Delta f.file.inode 1 f.log.noted.size delta.keep (extents_of delta.given) ∷ []
delta_is f records noted delta = delta.is ∙ ap (λ i. Delta i 1 f.log.noted.size delta.keep (extents_of delta.given) ∷ []) noted.inode

-- ---- whose its blocks are

module _ (s : StoreState) (l : Ledger) (f : DurableState) (has : HasLedger s l) (noted : IsNoted f) (stands : StandsFor l f) (own : HasOwnBlocks l f) where
  committed_blocks : form_blocks (l.now.catalog.forms f.file.inode) ≡ blocks_of f.log.committed.runs
  committed_blocks = ap (flat_map (λ (e : Extent). range_with_len e.start e.length)) stands.extents ∙ blocks_are f.log.committed.runs

  -- an inode that has one of them on the disk is its own, and has it at the same place
  pub own_at : (place block : ℕ) → slice_get (blocks_of f.file.extents) place ≡ Some block → (j q : ℕ) → HasBlock (geometry_of l.superblock) l.now.catalog j q block → (j ≡ f.file.inode) × (q ≡ place)
  own_at place block at j q other = by (own place block at)
    where
      by : (slice_get (blocks_of f.log.committed.runs) place ≡ Some block) ⊎ (IsTakenBlock (geometry_of l.superblock) l.now.catalog block → ⊥) → (j ≡ f.file.inode) × (q ≡ place)
      by (inl here) = (sound s l has).blocks_once j f.file.inode q place block other (record { in_range = stands.in_range; there = ap (λ bs. slice_get bs place) committed_blocks ∙ here })
      by (inr free) = absurd (free (inr (j, q, other)))

  module _ (fits : FitsInode f.file) (keep : ℕ) (given : List Run) (kept : keep ≤ length f.log.committed.runs) (whole : take keep f.log.committed.runs ++ given ≡ f.log.noted.runs) where
    abbrev pub form : InodeForm
    form = after_delta (l.now.catalog.forms f.file.inode) s.journal.number 1 f.log.noted.size keep (extents_of given)

    extents_are : form.extents ≡ extents_of f.file.extents
    extents_are = ap (λ (es : List Extent). take keep es ++ extents_of given) stands.extents ∙ given_extents l f noted stands keep given whole ∙ ap extents_of noted.runs

    pub blocks_here : form_blocks form ≡ blocks_of f.file.extents
    blocks_here = ap (flat_map (λ (e : Extent). range_with_len e.start e.length)) extents_are ∙ blocks_are f.file.extents

    at_file : (place block : ℕ) → slice_get (form_blocks form) place ≡ Some block → slice_get (blocks_of f.file.extents) place ≡ Some block
    at_file place block at = sym (ap (λ bs. slice_get bs place) blocks_here) ∙ at

    may : MayBecome (geometry_of l.superblock) l.now.catalog f.file.inode form
    may = record {
      in_range = stands.in_range;
      was_file = stands.kind;
      file = refl;
      in_data = subst (AllByRecursion (IsInData (geometry_of l.superblock))) (sym extents_are) (runs_in_data (geometry_of l.superblock) f.file.extents fits.runs (λ place block at. (stands.blocks place block at).data_block));
      room = let size = noted.size in let room = fits.room in let same : length (form_blocks form) ≡ length (blocks_of f.file.extents) = ap length blocks_here in omega (arith, size, room, same);
      once = λ p q block here there. one_place (blocks_of f.file.extents) noted.apart.once p q block (at_file p block here) (at_file q block there);
      apart = λ p j q block here there. (own_at p block (at_file p block here) j q there).0;
    }

    given_runs : All IsRun given
    given_runs = back_all (take keep f.log.committed.runs) given (subst (All IsRun) (sym (whole ∙ noted.runs)) fits.runs)

    counted : keep + length given ≤ 56
    counted =
        let few = fits.few in
        let all : length (take keep f.log.committed.runs ++ given) ≡ length f.file.extents = ap length (whole ∙ noted.runs) in
        omega (arith, few, all, length-append (take keep f.log.committed.runs) given, length-take-le keep f.log.committed.runs kept)

    on_form : is_record (Delta f.file.inode 1 f.log.noted.size keep (extents_of given)) ≡ true
    on_form = (and_parts (is_record (Delta f.file.inode 1 f.log.noted.size keep (extents_of given))) true (delta_form f.file.inode f.log.noted.size keep given counted given_runs)).0

    spelled : FitsCommitted (file_commit s.journal.number f.file.inode f.log.noted.size keep (extents_of given))
    spelled =
        let low = stands.in_range.within in
        let most = (limits s l has).most_inodes in
        let inode : f.file.inode < 2 ^ 32 = omega (arith, low, most) in
        let size : f.log.noted.size < 2 ^ 64 = let same = noted.size in let small = fits.size in omega (arith, same, small) in
        record { number = has.fits; records = ((on_form, (inode, size, runs_fit given given_runs)), tt) }

    pub may_form : MayCommitForm (geometry_of l.superblock) l.now f.file.inode s.journal.number f.log.noted.size keep (extents_of given)
    may_form = record {
      newer = has.older f.file.inode stands.in_range;
      keeps = let same : length (l.now.catalog.forms f.file.inode).extents ≡ length f.log.committed.runs = ap length stands.extents ∙ length-map {B = Extent} f.log.committed.runs (λ (r : Run). record { start = r.start; length = r.length }) in omega (arith, kept, same);
      fits = spelled;
      may = may;
    }

  -- the transaction
  module _ (records : List LogRecord) (delta : IsDelta f.log.inode f.log.committed f.log.noted records) where
    abbrev pub one : Committed
    one = file_commit s.journal.number f.file.inode f.log.noted.size delta.keep (extents_of delta.given)

    pub next_is : one ≡ next_commit s records
    next_is =
        let as_commit : List LogRecord → Committed = λ rs. record { number = s.journal.number; records = rs } in
        sym (ap as_commit (delta_is f records noted delta))

    pub may_next : FitsInode f.file → (ws : List BlockWrite) → MayCommit s.journal.geometry (next_commit s records) (with_writes ws l).now
    may_next fits ws =
        subst (λ (x : Geometry × Committed × Stand). MayCommit x.0 x.1 x.2) (λ i. (has.by.geometry i, next_is i, sym (same_now ws l) i))
        (forms_may_commit (geometry_of l.superblock) l.now f.file.inode s.journal.number f.log.noted.size delta.keep (extents_of delta.given) (sound s l has) (covers s l has)
        (may_form fits delta.keep delta.given delta.front.in_one delta.whole))

pub files_may_commit_next : FilesMayCommitNext
files_may_commit_next s records l f ws it = may_next s l f it.has it.noted it.stands it.own records it.delta it.fits ws
