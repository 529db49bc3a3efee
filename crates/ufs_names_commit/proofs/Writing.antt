-- Zeros are written over the blocks that directories took.
use Rattle.std.proofs.Common.{◌≡◌, ℕ, Bool, true, false, List, [], ◌∷◌, ◌++◌, ap, sym, refl, ◌∙◌, subst}
use Rattle.std.specs.Prelude.{◌==◌, ◌||◌, IsSome, if◌then◌else◌}
use Rattle.std.specs.FinSet as set
use Rattle.std.proofs.lemmas.List.{length-replicate}
use Rattle.ufs_base.specs.declared.sizes.TheConstants.{BLOCK}
use Rattle.ufs_bitmap.specs.Space.{Space}
use Rattle.ufs_bitmap.specs.Taking.{has}
use Rattle.ufs_bitmap.proofs.SetLemmas.{has-insert}
use Rattle.ufs_bitmap.proofs.TakingLemmas.{has-append, has-none}
use Rattle.ufs_disk.specs.Disk.{possible}
use Rattle.ufs_disk.proofs.Runs.{started, weaker}
use Rattle.ufs_layout.specs.declared.geometry.Geometry.{Geometry}
use Rattle.ufs_ledger.specs.Changes.{tried, written}
use Rattle.ufs_ledger.specs.Laws.{MayWrite}
use Rattle.ufs_ledger.specs.Ledger.{IsLedgerOf, IsLeftBy, Ledger}
use Rattle.ufs_model.specs.PosixTree.{PosixTree}
use Rattle.ufs_model.specs.declared.data.Entry.{Entry}
use Rattle.ufs_store.specs.Ledgers.{HasLedger}
use Rattle.ufs_store.specs.State.{StoreState}
use Rattle.ufs_promise_laws.specs.AlwaysLaws.{ImagesAreExplained, LedgersAreExplained}
use Rattle.ufs_promise_laws.specs.Laws.{WrittenIsStored}
use Rattle.ufs_promise_laws.specs.Known.{IsKeptStopped, Known}
use Rattle.ufs_promise_laws.specs.OnDisk.{IsExplainedImage}
use Rattle.ufs_promise_laws.specs.OnDiskLaws.{BarriersStop, WritesStop}
use Rattle.ufs_promise_laws.specs.Parts.{Parts}
use Rattle.ufs_promise_laws.specs.Stored.{IsStored}
use Rattle.ufs_promise_laws.proofs.Known.{stopped_known}
use Rattle.ufs_names_commit.specs.Laws.{BarriersAreExplained, IsBeside, ZerosAreExplained, ZerosMayLeave, ZerosStay}
use Rattle.ufs_names_commit.specs.Ready.{HasZeros, zeros}

alone : (b : Bool) → b ≡ (b || false)
alone true = refl
alone false = refl

module _ (g : Geometry) (old new : StoreState) (start : PosixTree) (history : List Entry) (p : Parts) (known : Known) (done : List ℕ) (beside : IsBeside g old new) (z : HasZeros old start history p known done) where
  abbrev l : Ledger
  l = z.ledger

  -- what is stored beside the old store's free blocks is beside the new one's
  moved : (m : Ledger) → IsStored m old.unassigned.free start history z.counts p → IsStored m new.unassigned.free start history z.counts p
  moved m st = subst (λ (u : Space). IsStored m u.free start history z.counts p) (sym beside.unassigned) st

  may_write : (block : ℕ) → has p.fresh block ≡ true → MayWrite l block zeros
  may_write block fresh = let free = z.free block fresh in record { data_block = free.data_block; no_dir = free.no_dir; size = length-replicate {A = ℕ} BLOCK 0 }

  -- of the blocks that read as zeros
  next_zero : (block other : ℕ) → has (done ++ block ∷ []) other ≡ true → ((written block zeros l).blocks other).seen ≡ zeros
  next_zero block other is = by (other == block) refl
    where
      last : (other == block) ≡ false → has (block ∷ []) other ≡ false
      last apart = has-insert (set.from_list []) block other ∙ ap (λ (b : Bool). b || has [] other) apart ∙ has-none other

      by : (b : Bool) → (other == block) ≡ b → (if b then record { older = possible (l.blocks other); seen = zeros } else l.blocks other).seen ≡ zeros
      by true same = refl
      by false apart = z.zero other (alone (has done other) ∙ sym (ap (λ (b : Bool). has done other || b) (last apart)) ∙ sym (has-append done (block ∷ []) other) ∙ is)

  pub zeros_go_on : WrittenIsStored g → (block : ℕ) → has p.fresh block ≡ true → ((m : Ledger) → HasLedger old m → MayWrite m block zeros → HasLedger new (written block zeros m)) → HasZeros new start history p known (done ++ block ∷ [])
  zeros_go_on keeps block fresh writes = record {
    ledger = written block zeros l;
    counts = z.counts;
    knows = writes l z.knows (may_write block fresh);
    formed = z.formed ∙ beside.old_form ∙ sym beside.new_form;
    stored = moved (written block zeros l) (keeps l old.unassigned.free start history z.counts p block zeros (z.formed ∙ beside.old_form) z.knows.by.none fresh z.stored);
    covers = z.covers;
    numbered = z.numbered;
    free = λ other is. let was = z.free other is in record { data_block = was.data_block; no_dir = was.no_dir; unheld = was.unheld };
    zero = next_zero block;
  }

  pub zeros_stop : WritesStop g → (block : ℕ) (seen : List ℕ) → has p.fresh block ≡ true → IsSome new.stop
      → ((m : Ledger) → HasLedger old m → MayWrite m block zeros → IsLedgerOf new.sectors new.moments.state (tried block zeros seen m)) → IsKeptStopped new start history p known
  zeros_stop stops block seen fresh stop leaves =
      stopped_known new start history p z.counts z.counts known z.covers z.covers (stops new l start history z.counts p block zeros seen beside.new_form (z.formed ∙ beside.old_form) stop z.knows.by.none fresh (leaves l z.knows (may_write block fresh)) (moved l z.stored))

  pub barrier_fails : BarriersStop g → IsSome new.stop → ((m : Ledger) → HasLedger old m → IsLedgerOf new.sectors new.moments.state m) → IsKeptStopped new start history p known
  barrier_fails stops stop leaves = stopped_known new start history p z.counts z.counts known z.covers z.covers (stops new l start history z.counts p beside.new_form (z.formed ∙ beside.old_form) stop (leaves l z.knows) (moved l z.stored))

-- ---- meanwhile

pub zeros_may_leave : (g : Geometry) → ImagesAreExplained g → WrittenIsStored g → ZerosMayLeave g
zeros_may_leave g each stored s start history p known done block same fresh z =
    let next = stored z.ledger s.unassigned.free start history z.counts p block zeros (z.formed ∙ same) z.knows.by.none fresh z.stored in
    record {
      ledger = z.ledger;
      knows = z.knows;
      may = may_write g s s start history p known done (record { old_form = same; new_form = same; unassigned = refl }) z block fresh;
      allowed = λ image. each s.sectors image (written block zeros z.ledger) start history (record { now = z.counts; maybe = z.counts; formed = z.formed ∙ same; kept = next.kept });
    }

pub zeros_explained : (g : Geometry) → ZerosMayLeave g → ZerosAreExplained g
zeros_explained g may keeps s new start history p known done block same fresh run z =
    let told = may s start history p known done block same fresh z in
    weaker keeps (IsLeftBy s.sectors (written block zeros told.ledger)) (IsExplainedImage s.sectors start history) told.allowed s.moments new (run told.ledger told.knows told.may)

pub barrier_explained : (g : Geometry) → LedgersAreExplained g → BarriersAreExplained g
barrier_explained g explained keeps s new start history p known done same run z =
    explained keeps s.sectors s.moments new z.ledger start history (record { now = z.counts; maybe = z.counts; formed = z.formed ∙ same; kept = z.stored.kept }) (run z.ledger z.knows)

pub zeros_stay : (g : Geometry) → LedgersAreExplained g → ZerosStay g
zeros_stay g explained keeps s start history p known done same z =
    barrier_explained g explained keeps s s.moments start history p known done same (λ l knows. started keeps (IsLeftBy s.sectors l) s.moments knows.by.is.images) z
