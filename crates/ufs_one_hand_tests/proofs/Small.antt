-- Each step of the small session may be taken.
use Rattle.std.proofs.Common.{◌≡◌, ℕ, ◌<◌, ◌≤◌, true, false, List, [], ◌∷◌, ◌++◌, length, Option, Some, None, sym, refl, ap, ◌∙◌, subst, inl, inr, arith}
use Rattle.std.specs.FinMap as fin
use Rattle.std.specs.Ordering.{nat_cmp}
use Rattle.ufs_base.specs.declared.limits.TheConstants.{MAX_CLIENTS}
use Rattle.ufs_model.specs.History.{IsReplyTo, entries_of, goes_on, tree_after}
use Rattle.ufs_model.specs.Order.{fd_cmp}
use Rattle.ufs_model.specs.PosixTree.{PosixTree, desc_at}
use Rattle.ufs_model.specs.Start.{path_root}
use Rattle.ufs_model.specs.declared.data.Entry.{Entry}
use Rattle.ufs_model.specs.declared.data.Excuse.TheVariants.{Memory, Device}
use Rattle.ufs_model.specs.declared.data.Op.TheVariants.{Sync}
use Rattle.ufs_model.specs.declared.data.Reply.TheVariants.{Done, Excused}
use Rattle.ufs_model.proofs.Facts.Starts.{root_is_tree, start_of-root}
use Rattle.ufs_one_hand.specs.Apart.{HasEachFile, HasTouched}
use Rattle.ufs_one_hand.specs.Drawn.{HasCauses, IsAcknowledged, IsAnswer, MayPass, faults_met}
use Rattle.ufs_one_hand.specs.OneHand.{HasSession, IsCoveredIn, IsStart, KnowsSynced, stamp_in}
use Rattle.ufs_one_hand.proofs.Parting.{all_touched}
use Rattle.ufs_crash_laws.specs.Changes.{asks_commit, file_synced, name_changes}
use Rattle.ufs_hand_laws.specs.Covers.{step_in}
use Rattle.ufs_hand_laws.specs.Draws.{entry_of}
use Rattle.ufs_hand_laws.specs.Owned.{Has, times}
use Rattle.ufs_hand_laws.specs.Parts.{Cells, Start, View}
use Rattle.ufs_hand_laws.specs.Visible.{IsDiskVisible}
use Rattle.ufs_hand_laws.specs.declared.fresh.Fresh.{Fresh}
use Rattle.ufs_one_hand_tests.specs.Small.{bare, done_sync, excused_sync, failed_sync, unread_sync}

pub starts : IsStart bare
starts = record {
  nodes = path_root;
  cells = [];
  is_visible = false;
  paths = root_is_tree;
  few = let e = ap (λ (t : PosixTree). t.next) start_of-root in omega (arith, e);
  is = refl;
}

unseen : (k : Start) → k ≡ bare → IsDiskVisible k → ⊥
unseen k is seen = let no : false ≡ true = sym (ap (λ (z : Start). z.is_visible) is) ∙ seen.visible in cc

-- Histories without a change of names: what one covers without a change of a file, the other does.
pub still_covered : (k : Start) (a b : List Entry) → name_changes k.tree a ≡ [] → ((f : ℕ) → file_synced f k.tree a ≡ 0) → (v w : View) → w.store ≡ v.store → IsCoveredIn k a v → IsCoveredIn k b w
still_covered k a b names files v w same covered s has =
    let c = covered s (subst (Has (tt, s)) same has) in
    let none = ap length names in
    record {
      files = λ f. let low = c.files f in let z = files f in omega arith;
      names = λ n made synced born. let low = c.made in omega arith;
      made = let low = c.made in omega arith;
    }

-- nothing is open at the start, and these requests open nothing
module _ (k : Start) (history : List Entry) (f : Fresh) (v : View) (h : HasSession k history (Some (f.client, f.op)) v) (same : tree_after k.tree history ≡ k.tree) (stays : goes_on k.tree (entry_of 0 f) ≡ k.tree) where
  none_open : (fd : ℕ) → desc_at k.tree f.client fd ≡ None
  none_open fd = ap (λ (z : Start). desc_at z.tree f.client fd) h.start.is ∙ fin.get-empty fd_cmp (f.client, fd)

  pub answers : f.client < MAX_CLIENTS → f.seq ≡ length (entries_of f.client history) → IsReplyTo k.tree (entry_of 0 f) → HasEachFile k history v fin.empty → (f.reply ≡ Done → asks_commit f.op ≡ true → KnowsSynced (step_in k.tree (entry_of 0 f)) v) → HasCauses f.reply v
      → IsAnswer k history k.tree f fin.empty v
  answers low seq replied each known causes = record {
    tree_is = sym same;
    session = h;
    low = low;
    seq = seq;
    replied = replied;
    fds = λ fd. fin.get-empty nat_cmp fd ∙ sym (ap (λ (t : PosixTree). desc_at t f.client fd) stays ∙ none_open fd);
    others = λ fd apart. ap (λ (t : PosixTree). desc_at t f.client fd) stays;
    known = known;
    touched = λ other. subst (λ (t : PosixTree). HasTouched t f.client f.op v) same (all_touched k history v each f.client f.op);
    causes = causes;
  }

-- ---- what the hand knows of each reply's cause

memory_causes : (v : View) → HasCauses (Excused Memory) v
memory_causes v = record { device = λ n e. absurd cc; stopped = λ n e. absurd cc; short = λ need had e. absurd cc }

done_causes : (v : View) → HasCauses Done v
done_causes v = record { device = λ n e. absurd cc; stopped = λ n e. absurd cc; short = λ need had e. absurd cc }

device_causes : (v : View) (fault : ℕ) → 1 ≤ times fault v.faults → HasCauses (Excused (Device fault)) v
device_causes v fault met = record {
  device = λ n e. let is : fault ≡ n = cc in subst (λ (m : ℕ). 1 ≤ times m v.faults) is met;
  stopped = λ n e. absurd cc;
  short = λ need had e. absurd cc;
}

-- ---- the four answers

pub excused_answers : (k : Start) (v : View) → HasSession k [] (Some (0, Sync)) v → HasEachFile k [] v fin.empty → IsAnswer k [] k.tree excused_sync fin.empty v
excused_answers k v h each = answers k [] excused_sync v h refl refl (omega arith) refl (inr (record { due = λ e. refl; told = tt })) each (λ e asks. absurd cc) (memory_causes v)

module _ (k : Start) (first : ℕ) (v : View) (h : HasSession k (entry_of first excused_sync ∷ []) (Some (1, Sync)) v) where
  pub done_acknowledged : k ≡ bare → IsCoveredIn k (entry_of first excused_sync ∷ []) v → IsAcknowledged k (entry_of first excused_sync ∷ []) k.tree (entry_of 1 done_sync) v
  done_acknowledged is covered = record {
    tree_is = refl;
    session = h;
    covered = still_covered k (entry_of first excused_sync ∷ []) (entry_of first excused_sync ∷ entry_of 1 done_sync ∷ []) refl (λ f. refl) v v refl covered;
    ticket = refl;
    replied = inl refl;
    done = refl;
    asks = refl;
    explained = λ visible. absurd (unseen k is visible);
  }

  -- the step goes by the request and its reply, and not by the ticket
  pub done_answers : HasEachFile k (entry_of first excused_sync ∷ []) v fin.empty → KnowsSynced (step_in k.tree (entry_of 1 done_sync)) v → IsAnswer k (entry_of first excused_sync ∷ []) k.tree done_sync fin.empty v
  done_answers each known = answers k (entry_of first excused_sync ∷ []) done_sync v h refl refl (omega arith) refl (inl refl) each (λ e asks. record { files = known.files; born = known.born; names = known.names }) (done_causes v)

module _ (k : Start) (first second : ℕ) (v : View) (h : HasSession k (entry_of first excused_sync ∷ entry_of second done_sync ∷ []) (Some (1, Sync)) v) where
  pub unread_may_pass : k ≡ bare → IsCoveredIn k (entry_of first excused_sync ∷ entry_of second done_sync ∷ []) v → stamp_in v ≡ 2 → (cells : Cells)
      → MayPass k (entry_of first excused_sync ∷ entry_of second done_sync ∷ []) (Some (1, Sync)) [] cells v
  unread_may_pass is covered fresh cells = record { session = h; fresh = fresh; covered = covered; passed = λ visible. absurd (unseen k is visible); explained = λ visible. absurd (unseen k is visible) }

  pub unread_answers : HasEachFile k (entry_of first excused_sync ∷ entry_of second done_sync ∷ []) v fin.empty → 1 ≤ times 5 v.faults → IsAnswer k (entry_of first excused_sync ∷ entry_of second done_sync ∷ []) k.tree unread_sync fin.empty v
  unread_answers each met = answers k (entry_of first excused_sync ∷ entry_of second done_sync ∷ []) unread_sync v h refl refl (omega arith) refl (inr (record { due = λ e. refl; told = tt })) each (λ e asks. absurd cc) (device_causes v 5 met)

module _ (k : Start) (first second third : ℕ) (v : View) (h : HasSession k (entry_of first excused_sync ∷ entry_of second done_sync ∷ entry_of third unread_sync ∷ []) (Some (0, Sync)) v) where
  pub failed_may_pass : k ≡ bare → IsCoveredIn k (entry_of first excused_sync ∷ entry_of second done_sync ∷ entry_of third unread_sync ∷ []) v → stamp_in v ≡ 3 → (cells : Cells)
      → MayPass k (entry_of first excused_sync ∷ entry_of second done_sync ∷ entry_of third unread_sync ∷ []) (Some (0, Sync)) [] cells v
  failed_may_pass is covered fresh cells = record { session = h; fresh = fresh; covered = covered; passed = λ visible. absurd (unseen k is visible); explained = λ visible. absurd (unseen k is visible) }

  pub failed_answers : HasEachFile k (entry_of first excused_sync ∷ entry_of second done_sync ∷ entry_of third unread_sync ∷ []) v fin.empty → 1 ≤ times 7 v.faults → IsAnswer k (entry_of first excused_sync ∷ entry_of second done_sync ∷ entry_of third unread_sync ∷ []) k.tree failed_sync fin.empty v
  failed_answers each met = answers k (entry_of first excused_sync ∷ entry_of second done_sync ∷ entry_of third unread_sync ∷ []) failed_sync v h refl refl (omega arith) refl (inr (record { due = λ e. refl; told = tt })) each (λ e asks. absurd cc) (device_causes v 7 met)

-- ---- the read's number is another than that of the call at which the store stops

pub read_met : (stop : Option ℕ) (old : List ℕ) → stop ≡ None → old ≡ [] → faults_met (Some 5) stop None ++ old ≡ 5 ∷ []
read_met stop old going none = λ i. faults_met (Some 5) (going i) None ++ none i

pub another : (n : ℕ) (old : List ℕ) → old ≡ 5 ∷ [] → Some 7 ≡ Some n → times n old ≡ 0
another n old met is = let same : 7 ≡ n = cc in subst (λ m. times m old ≡ 0) same (ap (times 7) met)
