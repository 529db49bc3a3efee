-- A disk that is explained shows what is committed.
use Rattle.std.proofs.Common.{◌≡◌, ℕ, ◌+◌, ◌<◌, ◌≤◌, ◌||◌, List, [], ◌∷◌, ◌++◌, length, None, true, false, sym, refl, ap, ◌∙◌, subst, arith}
use Rattle.ufs_model.specs.History.{IsLegal, IsReplyTo, TellsNewFault, share_fault, tree_after}
use Rattle.ufs_model.specs.Laws.{KeepsTrees}
use Rattle.ufs_model.specs.declared.data.Entry.{Entry}
use Rattle.ufs_model.specs.declared.data.Excuse.TheVariants as excuse
use Rattle.ufs_model.specs.declared.data.Reply.{Reply}
use Rattle.ufs_model.specs.declared.data.Reply.TheVariants as reply
use Rattle.ufs_model.proofs.Facts.Histories.{legal-push}
use Rattle.std.proofs.lemmas.List.{length-append}
use native.Mathlib.Decide.{dec_le}
use Rattle.ufs_crash_laws.specs.Changes.{NameState, asks_commit, is_fsync_of, name_changes, names_by}
use Rattle.ufs_crash_laws.specs.Steps.{next_step}
use Rattle.ufs_crash_laws.proofs.Facts.Between.{file_less, names_less}
use Rattle.ufs_crash_laws.proofs.Facts.Histories.{is_fsynced-push, name_changes-push, names_after-append}
use Rattle.ufs_hand_laws.specs.Covers.{CoversBirths, CoversNames}
use Rattle.ufs_hand_laws.specs.Acknowledged.{AcknowledgedShow, ExplainedShow, AreFilesAcknowledged, AreNamesAcknowledged}
use Rattle.ufs_hand_laws.specs.Parts.{Cells, Start, StorePart, View, committed}
use Rattle.ufs_hand_laws.specs.Shown.{ExplainsImages, ShowsImages}
use Rattle.ufs_one_hand.specs.OneHand.{IsCovered, IsCoveredIn, IsStart}
use Rattle.ufs_one_hand.proofs.Started.{start_tree, start_named}

-- ---- an entry more

-- a reply that isn't excused names no fault
shares_none : (r s : Reply) → s ≡ reply.Done → share_fault r s ≡ false
shares_none r s done = subst (λ (z : Reply). share_fault r z ≡ false) (sym done) (by r)
  where
    by : (r : Reply) → share_fault r reply.Done ≡ false
    by (reply.Excused (excuse.Device n)) = refl
    by _ = refl

tells_none : (h : List Entry) (e : Entry) → e.reply ≡ reply.Done → TellsNewFault h e
tells_none [] e done = tt
tells_none (x ∷ h) e done = (shares_none x.reply e.reply done, tells_none h e done)

pub legal_with : (k : Start) (h : List Entry) (e : Entry) → IsLegal k.tree h → e.ticket ≡ length h → IsReplyTo (tree_after k.tree h) e → e.reply ≡ reply.Done → IsLegal k.tree (h ++ e ∷ [])
legal_with k h e legal ticket replied done = legal-push k.tree h e legal (record { numbered = ticket; replied = replied }) (tells_none h e done)

-- ---- what is shown

module _ (keeps : KeepsTrees) (k : Start) (start : IsStart k) (h : List Entry) (c : StorePart) (cells : Cells) where
  pub explained_shows : ExplainedShow → IsCovered k h c → IsLegal k.tree h → ExplainsImages k.tree h cells → ShowsImages k.tree h (committed c) c.names None cells
  explained_shows law covered legal explained = law k.tree h (committed c) c.names cells keeps (start_tree k start) (start_named k start) legal covered.files covered.names explained

  module _ (e : Entry) (files : ℕ → ℕ) (names : ℕ) where
    pub acknowledged_shows : AcknowledgedShow → IsLegal k.tree (h ++ e ∷ []) → e.reply ≡ reply.Done → asks_commit e.op ≡ true → AreFilesAcknowledged k.tree (h ++ e ∷ []) files → AreNamesAcknowledged k.tree (h ++ e ∷ []) names
        → ExplainsImages k.tree (h ++ e ∷ []) cells → ShowsImages k.tree h files names None cells
    acknowledged_shows law legal done asks of_files of_names explained = law k.tree h e files names cells keeps (start_tree k start) (start_named k start) legal done asks of_files of_names explained

-- ---- what is covered stays covered

pub covered_push : (k : Start) (h : List Entry) (e : Entry) (c : StorePart) → IsCovered k h c → IsCovered k (h ++ e ∷ []) c
covered_push k h e c covered = record {
  files = λ f. let a = covered.files f in let b = file_less f k.tree h e in omega arith;
  names = λ n few synced born. by n (dec_le n (length (name_changes k.tree h))) synced born;
  made = let a = covered.made in let b = longer in omega arith;
}
  where
    longer : length (name_changes k.tree (h ++ e ∷ [])) ≡ length (name_changes k.tree h) + length (names_by (next_step k.tree h e))
    longer = ap length (name_changes-push k.tree h e) ∙ length-append (name_changes k.tree h) (names_by (next_step k.tree h e))

    by : (n : ℕ) → Dec (n ≤ length (name_changes k.tree h)) → CoversNames k.tree (h ++ e ∷ []) n → CoversBirths k.tree (h ++ e ∷ []) n → c.names ≤ n
    by n (yes l) synced born = covered.names n l (let a = names_less k.tree h e in omega arith)
        (λ f is. subst (λ (s : NameState). f < s.next) (names_after-append k.tree h (e ∷ []) n l) (born f (is_fsynced-push f k.tree h e ∙ ap (λ b. b || is_fsync_of f (next_step k.tree h e)) is)))
    by n (no z) synced born = let a = covered.made in omega arith

pub covered_in_push : (k : Start) (h : List Entry) (e : Entry) (v : View) → IsCoveredIn k h v → IsCoveredIn k (h ++ e ∷ []) v
covered_in_push k h e v covered s has = covered_push k h e s (covered s has)
