-- Ledgers behind writes.
use Rattle.std.proofs.Common.{◌≡◌, ℕ, inl, inr, List, [], ◌∷◌, ◌++◌, Bool, true, false, None, ap, sym, refl, ◌∙◌, subst, append_assoc}
use Rattle.std.specs.Prelude.{◌==◌, if◌then◌else◌}
use Rattle.ufs_base.specs.Images.{Image}
use Rattle.ufs_disk.specs.Disk.{Cell, State, possible, seen}
use Rattle.ufs_disk.specs.Moments.{LeavesOnly, Moments}
use Rattle.ufs_disk.proofs.Runs.{all_map, started, weaker}
use Rattle.ufs_image.specs.Images.{block_at}
use Rattle.ufs_layout.specs.declared.superblock.Super.{Super}
use Rattle.ufs_ledger.specs.Changes.{rewritten, tried, written}
use Rattle.ufs_ledger.specs.Laws.{MayWrite}
use Rattle.ufs_ledger.specs.Ledger.{HasByte, IsLedgerOf, IsLeft, IsLeftBy, IsMixOf, Ledger, Stand, is_held}
use Rattle.ufs_ledger.proofs.Mixing.{has_byte_more}
use Rattle.ufs_ledger.proofs.States.{with_cells}
use Rattle.ufs_crash_laws.specs.FileChanges.{byte_at}
use Rattle.ufs_store.specs.State.{StoreState}
use Rattle.ufs_file_commits.specs.Writes.{BlockWrite, HasTriedOne, MayWriteAll, with_writes}

-- ---- what stays

pub same_superblock : (ws : List BlockWrite) (l : Ledger) → (with_writes ws l).superblock ≡ l.superblock
same_superblock [] l = refl
same_superblock (w ∷ ws) l = same_superblock ws (written w.block w.bytes l)

pub same_now : (ws : List BlockWrite) (l : Ledger) → (with_writes ws l).now ≡ l.now
same_now [] l = refl
same_now (w ∷ ws) l = same_now ws (written w.block w.bytes l)

pub same_maybe : (ws : List BlockWrite) (l : Ledger) → (with_writes ws l).maybe ≡ l.maybe
same_maybe [] l = refl
same_maybe (w ∷ ws) l = same_maybe ws (written w.block w.bytes l)

-- ---- one after the other

pub writes_append : (xs ys : List BlockWrite) (l : Ledger) → with_writes (xs ++ ys) l ≡ with_writes ys (with_writes xs l)
writes_append [] ys l = refl
writes_append (x ∷ xs) ys l = writes_append xs ys (written x.block x.bytes l)

pub may_front : (l : Ledger) (xs ys : List BlockWrite) → MayWriteAll l (xs ++ ys) → MayWriteAll l xs
may_front l [] ys may = tt
may_front l (x ∷ xs) ys may = (may.0, may_front l xs ys may.1)

pub may_back : (l : Ledger) (xs ys : List BlockWrite) → MayWriteAll l (xs ++ ys) → MayWriteAll l ys
may_back l [] ys may = may
may_back l (x ∷ xs) ys may = may_back l xs ys may.1

-- What may be written may be behind other writes.
pub may_behind : (ws : List BlockWrite) (l : Ledger) (ys : List BlockWrite) → MayWriteAll l ys → MayWriteAll (with_writes ws l) ys
may_behind [] l ys may = may
may_behind (w ∷ ws) l ys may =
    may_behind ws (written w.block w.bytes l) ys
    (all_map (λ (y : BlockWrite). MayWrite l y.block y.bytes) (λ (y : BlockWrite). MayWrite (written w.block w.bytes l) y.block y.bytes)
    (λ y one. record { data_block = one.data_block; no_dir = one.no_dir; size = one.size }) ys may)

-- the middle one of three parts, behind the first
pub may_within : (l : Ledger) (xs ys zs : List BlockWrite) → MayWriteAll l (xs ++ (ys ++ zs)) → MayWriteAll (with_writes xs l) ys
may_within l xs ys zs may = may_behind xs l ys (may_front l ys zs (may_back l xs (ys ++ zs) may))

-- ---- what a crash leaves

-- A write takes nothing away from what a crash may leave.
module _ (sectors : ℕ) (w : BlockWrite) where
  more_bytes : (blocks : ℕ → Cell) (k place byte : ℕ) → HasByte (possible (blocks k)) place byte → HasByte (possible (rewritten w.block w.bytes blocks k)) place byte
  more_bytes blocks k place byte has = by (k == w.block)
    where
      by : (b : Bool) → HasByte (possible (if b then record { older = possible (blocks k); seen = w.bytes } else blocks k)) place byte
      by true = has_byte_more (possible (blocks k)) (w.bytes ∷ []) place byte has
      by false = has

  more_mixes : (blocks : ℕ → Cell) (k : ℕ) (bytes : List ℕ) → IsMixOf (possible (blocks k)) bytes → IsMixOf (possible (rewritten w.block w.bytes blocks k)) bytes
  more_mixes blocks k bytes mix = record { size = mix.size; each = λ place less. more_bytes blocks k place (byte_at bytes place) (mix.each place less) }

  left_more : (superblock : Super) (blocks : ℕ → Cell) (s : Stand) (image : Image) → IsLeft sectors superblock blocks s image → IsLeft sectors superblock (rewritten w.block w.bytes blocks) s image
  left_more superblock blocks s image left = with_cells sectors superblock blocks (rewritten w.block w.bytes blocks) s image (λ block _ _ mix. more_mixes blocks block (block_at image block) mix) left

  pub left_by_one : (l : Ledger) (image : Image) → IsLeftBy sectors l image → IsLeftBy sectors (written w.block w.bytes l) image
  left_by_one l image (inl left) = inl (left_more l.superblock l.blocks l.now image left)
  left_by_one l image (inr (other, is, left)) = inr (other, is, left_more other.superblock l.blocks other.stand image left)

pub left_by_more : (sectors : ℕ) (ws : List BlockWrite) (l : Ledger) (image : Image) → IsLeftBy sectors l image → IsLeftBy sectors (with_writes ws l) image
left_by_more sectors [] l image left = left
left_by_more sectors (w ∷ ws) l image left = left_by_more sectors ws (written w.block w.bytes l) image (left_by_one sectors w l image left)

-- So the ledger behind all writes has what is left at each moment of one of them.
pub left_within : (sectors : ℕ) (all xs ys zs : List BlockWrite) (l : Ledger) (image : Image) → all ≡ xs ++ (ys ++ zs)
    → IsLeftBy sectors (with_writes ys (with_writes xs l)) image → IsLeftBy sectors (with_writes all l) image
left_within sectors all xs ys zs l image whole left =
    let same : with_writes all l ≡ with_writes zs (with_writes ys (with_writes xs l)) =
    ap (λ ws. with_writes ws l) whole ∙ writes_append xs (ys ++ zs) l ∙ writes_append ys zs (with_writes xs l) in
    subst (λ m. IsLeftBy sectors m image) (sym same) (left_by_more sectors zs (with_writes ys (with_writes xs l)) image left)

pub run_within : (sectors : ℕ) (keeps : Bool) (all xs ys zs : List BlockWrite) (l : Ledger) (old new : Moments) → all ≡ xs ++ (ys ++ zs)
    → LeavesOnly keeps (IsLeftBy sectors (with_writes ys (with_writes xs l))) old new → LeavesOnly keeps (IsLeftBy sectors (with_writes all l)) old new
run_within sectors keeps all xs ys zs l old new whole run =
    weaker keeps (IsLeftBy sectors (with_writes ys (with_writes xs l))) (IsLeftBy sectors (with_writes all l)) (λ image left. left_within sectors all xs ys zs l image whole left) old new run

-- ---- a write that failed

pub tried_within : (s : StoreState) (all xs ys zs : List BlockWrite) (l : Ledger) → all ≡ xs ++ (ys ++ zs) → HasTriedOne s ys (with_writes xs l) → HasTriedOne s all l
tried_within s all xs ys zs l whole one = record {
  before = xs ++ one.before;
  one = one.one;
  behind = one.behind ++ zs;
  whole = whole ∙ ap (λ ws. xs ++ (ws ++ zs)) one.whole ∙ ap (λ ws. xs ++ ws) (append_assoc one.before (one.one ∷ one.behind) zs) ∙ sym (append_assoc xs one.before (one.one ∷ (one.behind ++ zs)));
  reads = one.reads;
  has = subst (λ m. IsLedgerOf s.sectors s.moments.state (tried one.one.block one.one.bytes one.reads m)) (sym (writes_append xs one.before l)) one.has;
  mixed = λ free. subst (λ m. IsMixOf (possible ((written one.one.block one.one.bytes m).blocks one.one.block)) one.reads) (sym (writes_append xs one.before l))
      (one.mixed (subst (λ (t : Stand). is_held t.log one.one.block ≡ false) (sym (same_now xs l)) free));
}

-- what the block reads as then is of what it was and what was to be written
pub mixed_then : (sectors : ℕ) (l : Ledger) (block : ℕ) (bytes : List ℕ) (state : State) → l.maybe ≡ None → MayWrite l block bytes → is_held l.now.log block ≡ false → IsLeftBy sectors (written block bytes l) (seen state)
    → IsMixOf (possible ((written block bytes l).blocks block)) (block_at (seen state) block)
mixed_then sectors l block bytes state none may free (inl left) = left.contents block may.data_block free
mixed_then sectors l block bytes state none may free (inr both) = (let no = sym none ∙ both.1 in absurd cc)

-- one write alone
pub one_tried : (block k : ℕ) (bytes xs : List ℕ) → block ≡ k → bytes ≡ xs → (s : StoreState) (image : Image) (l : Ledger) → MayWrite l k xs
    → (MayWrite l block bytes → IsLedgerOf s.sectors s.moments.state (tried block bytes (block_at image block) l))
    → (MayWrite l block bytes → is_held l.now.log block ≡ false → IsMixOf (possible ((written block bytes l).blocks block)) (block_at image block)) → HasTriedOne s ((record { block = k; bytes = xs }) ∷ []) l
one_tried block k bytes xs here same s image l may has mixed = record {
  before = [];
  one = record { block = k; bytes = xs };
  behind = [];
  whole = refl;
  reads = block_at image block;
  has = subst (λ y. IsLedgerOf s.sectors s.moments.state (tried k y (block_at image block) l)) same
      (subst (λ b. IsLedgerOf s.sectors s.moments.state (tried b bytes (block_at image block) l)) here
      (has may_here));
  mixed = λ free. subst (λ y. IsMixOf (possible ((written k y l).blocks k)) (block_at image block)) same
      (subst (λ b. IsMixOf (possible ((written b bytes l).blocks b)) (block_at image block)) here (mixed may_here (subst (λ b. is_held l.now.log b ≡ false) (sym here) free)));
}
  where
    may_here : MayWrite l block bytes
    may_here = subst (λ y. MayWrite l block y) (sym same) (subst (λ b. MayWrite l b xs) (sym here) may)

-- Before the first of them nothing else is left.
pub run_begins : (sectors : ℕ) (keeps : Bool) (ws : List BlockWrite) (l : Ledger) (now : Moments) → IsLedgerOf sectors now.state l → LeavesOnly keeps (IsLeftBy sectors (with_writes ws l)) now now
run_begins sectors keeps ws l now is = started keeps (IsLeftBy sectors (with_writes ws l)) now (λ image left. left_by_more sectors ws l image (is.images image left))
