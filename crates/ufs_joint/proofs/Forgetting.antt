-- What is known is forgotten.
use Rattle.std.proofs.Common.{◌≡◌, inl, inr, List, Option, Some, None, sym, refl, ◌∙◌, arith}
use Rattle.ufs_ledger.specs.Kept.{Counts}
use Rattle.ufs_ledger.specs.Ledger.{Standing}
use Rattle.ufs_model.specs.PosixTree.{PosixTree}
use Rattle.ufs_model.specs.declared.data.Entry.{Entry}
use Rattle.ufs_store.specs.State.{StoreState}
use Rattle.ufs_promise_laws.specs.OnDisk.{HasStopped}
use Rattle.ufs_promise_laws.specs.Parts.{Parts}
use Rattle.ufs_promise_laws.proofs.Known.{nothing_covered, nothing_going, on_disk_of}
use Rattle.ufs_joint.specs.Forgetting.{KeptIsOnDisk, LessIsKept, OnDiskIsKept}
use Rattle.ufs_promise_laws.specs.Known.{Covers, IsKeptStopped, IsMore, Known, nothing_known}

pub kept_is_on_disk : KeptIsOnDisk
kept_is_on_disk s start history p known on = on_disk_of s start history p known on

-- Where nothing else may stand there, the other counts are free.
stopped_kept : (s : StoreState) (start : PosixTree) (history : List Entry) (p : Parts) → HasStopped s start history p → IsKeptStopped s start history p nothing_known
stopped_kept s start history p st = alone st.ledger.maybe refl
  where
    alone : (o : Option Standing) → st.ledger.maybe ≡ o → IsKeptStopped s start history p nothing_known
    alone (Some other) e = record {
      stopped = st;
      now = nothing_covered start history st.now st.kept.here.stored.made;
      maybe = nothing_covered start history st.maybe (st.kept.there other e).1.stored.made;
    }
    alone None e = record {
      stopped = record {
        stopped = st.stopped;
        ledger = st.ledger;
        now = st.now;
        maybe = st.now;
        has = st.has;
        formed = st.formed;
        tree = st.tree;
        legal = st.legal;
        kept = record { here = st.kept.here; there = λ other is. (let clash = sym e ∙ is in absurd cc) };
        parts = st.parts;
        clean = st.clean;
      };
      now = nothing_covered start history st.now st.kept.here.stored.made;
      maybe = nothing_covered start history st.now st.kept.here.stored.made;
    }

pub on_disk_is_kept : OnDiskIsKept
on_disk_is_kept s start history p (inl go) = inl (nothing_going s start history p go)
on_disk_is_kept s start history p (inr st) = inr (stopped_kept s start history p st)

less_covered : (start : PosixTree) (history : List Entry) (k : Counts) (less more : Known) → IsMore less more → Covers start history k more → Covers start history k less
less_covered start history k less more is c = record {
  made = c.made;
  names = (let a = is.names in let b = c.names in omega (arith, a, b));
  files = λ file. (let a = is.files file in let b = c.files file in omega (arith, a, b));
  born = λ file e. c.born file (is.born file e);
}

pub less_is_kept : LessIsKept
less_is_kept s start history p less more is (inl k) = inl (record { going = k.going; covers = less_covered start history k.going.counts less more is k.covers; numbered = λ file e live. k.numbered file (is.born file e) live })
less_is_kept s start history p less more is (inr k) = inr (record { stopped = k.stopped; now = less_covered start history k.stopped.now less more is k.now; maybe = less_covered start history k.stopped.maybe less more is k.maybe })
