-- Files stay apart where the hand keeps its own, and the store's stop. A hand from which no file is apart has what any request
-- touches.
use Rattle.std.proofs.Common.{◌≡◌, ℕ, List, Option, Some, eqb, is_some, ap, arith}
use Rattle.std.specs.Ordering.{nat_cmp}
use Rattle.std.specs.FinMap as fin
use Rattle.ufs_model.specs.History.{tree_after}
use Rattle.ufs_model.specs.declared.data.Entry.{Entry}
use Rattle.ufs_model.specs.declared.data.Op.{Op}
use Rattle.ufs_hand_laws.specs.Owned.{count, one}
use Rattle.ufs_hand_laws.specs.Parts.{Start, View}
use Rattle.ufs_one_hand.specs.Apart.{FileViews, HasEachFile, HasTouched, IsHandOfFile}

-- a file's hand knows of no stop but the store's
hand_stays : (k : Start) (history : List Entry) (before after : Option ℕ) → ((n : ℕ) → before ≡ Some n → after ≡ Some n) → (file : ℕ) (u : View) → IsHandOfFile k history before file u → IsHandOfFile k history after file u
hand_stays k history before after stopped file u hand = record {
  part = hand.part;
  files = hand.files;
  at = hand.at;
  changes = hand.changes;
  clients = hand.clients;
  asked = hand.asked;
  pools = hand.pools;
  names = hand.names;
  store = hand.store;
  faults = hand.faults;
  shortages = hand.shortages;
  stop = λ n e. stopped n (hand.stop n e);
}

pub each_stays : (k : Start) (history : List Entry) (v w : View) → ((f : ℕ) → count eqb f w.files ≡ count eqb f v.files) → ((n : ℕ) → v.stop ≡ Some n → w.stop ≡ Some n) → (files : FileViews) → HasEachFile k history v files → HasEachFile k history w files
each_stays k history v w counts stopped files each = record {
  here = λ f. let c = counts f in let e = each.here f in omega (arith, c, e);
  apart = λ f u at. hand_stays k history v.stop w.stop stopped f u (each.apart f u at);
}

pub all_touched : (k : Start) (history : List Entry) (v : View) → HasEachFile k history v fin.empty → (client : ℕ) (request : Op) → HasTouched (tree_after k.tree history) client request v
all_touched k history v each client request f touched there =
    let e = each.here f in let z : one (is_some (fin.get fin.empty f)) ≡ 0 = ap (λ (o : Option View). one (is_some o)) (fin.get-empty nat_cmp f) in let o = ap one there in omega (arith, e, z, o)
