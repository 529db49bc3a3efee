-- Blocks of a file are read from the disk, with what is known as it was.
use Rattle.std.proofs.Common.{inl, inr, ap, sym, ◌∙◌, subst}
use Rattle.std.specs.Prelude.{IsSome}
use Rattle.ufs_bitmap.specs.Space.{Space}
use Rattle.ufs_file.specs.Hand.{FileState}
use Rattle.ufs_model.specs.History.{tree_after}
use Rattle.ufs_promise_laws.specs.Fetches.{with_read}
use Rattle.ufs_promise_laws.proofs.Fetching.{parts_by_fetches, readable_read, reads, stored}
use Rattle.ufs_store.specs.State.{StoreState, geometry_of_store}
use Rattle.ufs_promise_laws.specs.OnDisk.{AreReadable}
use Rattle.ufs_promise_laws.specs.Stored.{IsStored}
use Rattle.ufs_joint.specs.Files.{FetchesStayKept}

pub fetches : FetchesStayKept
fetches visible keeps old new start history p known f g seen at told (inl k) =
    let may = reads visible keeps old new start history p f g seen told at (inl k.going) in
    inl (record {
      going = record {
        ledger = k.going.ledger;
        counts = k.going.counts;
        has = told.ledger seen k.going.ledger k.going.has;
        formed = k.going.formed ∙ ap geometry_of_store (sym told.store);
        stored = subst (λ (a : Space). IsStored k.going.ledger a.free start history k.going.counts (with_read f g p)) (ap (λ (s : StoreState). s.unassigned) (sym told.store))
            (stored visible keeps old new start history p f g seen told at k.going.ledger old.unassigned.free k.going.counts k.going.stored may);
      };
      covers = k.covers;
      numbered = k.numbered;
    })
fetches visible keeps old new start history p known f g seen at told (inr k) =
    let may = reads visible keeps old new start history p f g seen told at (inr k.stopped) in
    inr (record {
      stopped = record {
        stopped = subst IsSome (ap (λ (s : StoreState). s.stop) (sym told.store)) k.stopped.stopped;
        ledger = k.stopped.ledger;
        now = k.stopped.now;
        maybe = k.stopped.maybe;
        has = told.on_disk seen k.stopped.ledger k.stopped.has;
        formed = k.stopped.formed ∙ ap geometry_of_store (sym told.store);
        tree = k.stopped.tree;
        legal = k.stopped.legal;
        kept = k.stopped.kept;
        parts = parts_by_fetches (tree_after start history) p f g at told.rest may k.stopped.parts;
        clean = subst (λ (y : FileState). AreReadable k.stopped.ledger (tree_after start history) (with_read f y p)) (sym told.rest) (readable_read p f g.content.bytes g.content.there at k.stopped.ledger (tree_after start history) k.stopped.clean);
      };
      now = k.now;
      maybe = k.maybe;
    })
