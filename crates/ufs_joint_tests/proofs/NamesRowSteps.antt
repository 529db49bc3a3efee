-- The steps of the worked row of the names, one by one.
use Rattle.std.proofs.Common.{◌≡◌, ◌≤◌, ◌++◌, ℕ, suc, inl, true, false, List, [], ◌∷◌, sym, refl, ap, ◌∙◌, subst, arith}
use Rattle.ufs_layout.specs.declared.geometry.Geometry.{Geometry}
use Rattle.ufs_model.specs.declared.data.PartName.TheVariants.{Names}
use Rattle.ufs_promise_laws.specs.AlwaysLaws.{RestIsExplained}
use Rattle.ufs_hand_laws.specs.Owned.{Has, only}
use Rattle.ufs_joint.specs.Cells.{NamesCell, Start, StoreCell, View, given_of, kept_of, spent}
use Rattle.ufs_joint.specs.FileHands.{FileRequestsMayDraw, served_leaves}
use Rattle.ufs_joint.specs.Laws.{DrawKeeps, HandsKnow, JoinKeeps, SplitKeeps, TellKeeps, TurnBeginKeeps, TurnEndKeeps}
use Rattle.ufs_joint.specs.NamesHands.{NamesRequestsMayDraw, names_leaves}
use Rattle.ufs_joint.specs.NamesTurns.{IsNamesSyncHand, NamesCommitsMayEnd, committed_names_turn, names_committed}
use Rattle.ufs_joint.specs.Sound.{IsSound}
use Rattle.ufs_joint.specs.Turns.{begun_at}
use Rattle.ufs_joint_tests.specs.NamesRow.{Commits, Requests, names_back, names_begun, names_ended, names_lent, names_row_end, requested}
use Rattle.ufs_joint_tests.specs.Row.{IsStoreHand, Writes, at, written}

pub record NamesLaws (g : Geometry) : Type 0 where
  pub draw : DrawKeeps
  pub join : JoinKeeps
  pub split : SplitKeeps
  pub begin : TurnBeginKeeps
  pub end : TurnEndKeeps
  pub tell : TellKeeps
  pub know : HandsKnow
  pub requests : NamesRequestsMayDraw g
  pub writes : FileRequestsMayDraw
  pub commits : NamesCommitsMayEnd
  pub rest : RestIsExplained g

only_none : {K D : Type 0} (ps : List (K × D)) → only (λ _. false) ps ≡ []
only_none [] = refl
only_none (p ∷ ps) = only_none ps

module _ (k : Start) (laws : NamesLaws k.geometry) (n : ℕ) (v u s : View) (was : StoreCell) (sound : IsSound k (at n) (v ∷ u ∷ s ∷ [])) (home : IsStoreHand k.geometry s was)
    (a : Requests v n) (b : Writes u (suc n)) (f : Commits k.is_visible (begun_at (suc n) was) a.left.names) where
  abbrev v1 : View
  v1 = requested v n a

  abbrev w : View
  w = names_lent k n v u s was a b f

  abbrev w1 : View
  w1 = names_begun k n v u s was a b f

  abbrev w2 : View
  w2 = names_ended k n v u s was a b f

  abbrev u1 : View
  u1 = written u (suc n) b

  abbrev back : View
  back = names_back k n v u s was a b f

  drew : IsSound k (at (suc n)) (v1 ∷ u ∷ s ∷ [])
  drew = laws.draw k (at n) (v ∷ u ∷ s ∷ []) 0 v a.fresh (names_leaves a.fds a.after a.number a.left) sound refl
      (laws.requests k.is_visible v a.client a.part a.number a.fresh n a.ask a.told a.fds a.after a.was a.left a.hand a.next a.serves a.who)

  parted : IsSound k (at (suc n)) (kept_of Names v1 ∷ u ∷ s ∷ given_of Names v1 ∷ [])
  parted = laws.split k (at (suc n)) (v1 ∷ u ∷ s ∷ []) 0 v1 Names drew refl

  joined : IsSound k (at (suc n)) (kept_of Names v1 ∷ u ∷ w ∷ spent ∷ [])
  joined = laws.join k (at (suc n)) (kept_of Names v1 ∷ u ∷ s ∷ given_of Names v1 ∷ []) 2 3 s (given_of Names v1) parted refl (λ e. cc) refl

  turned : IsSound k (at (suc n)) (kept_of Names v1 ∷ u ∷ w1 ∷ spent ∷ [])
  turned = laws.begin k (at (suc n)) (kept_of Names v1 ∷ u ∷ w ∷ spent ∷ []) 2 w was laws.rest joined refl (λ i. home.store i ++ only_none v.store i)

  meanwhile : IsSound k (at (suc (suc n))) (kept_of Names v1 ∷ u1 ∷ w1 ∷ spent ∷ [])
  meanwhile = laws.draw k (at (suc n)) (kept_of Names v1 ∷ u ∷ w1 ∷ spent ∷ []) 1 u b.fresh (served_leaves b.fds b.file b.cell b.next (suc n) b.number b.left) turned refl
      (laws.writes k.geometry k.is_visible u b.client b.part b.file b.cell b.number b.pool b.left b.fresh (suc n) b.ask b.server b.desc b.next b.told b.fds b.hand b.serves b.who)

  -- what is known of the names was so before
  known : k.is_visible ≡ true → a.left.names.known ≤ suc n
  known seen =
      let e = (laws.know k (at n) (v ∷ u ∷ s ∷ []) 0 v sound refl).names_known seen tt a.was.names (subst (Has (tt, a.was.names)) (sym a.hand.names_are) (inl refl)) in
      let same = ap (λ (q : NamesCell). q.known) a.serves.names_is in
      omega (arith, e, same)

  hand : IsNamesSyncHand k.is_visible w1 a.left.names (begun_at (suc n) was)
  hand = record {
    files = λ i. home.files i ++ only_none a.after i;
    names_are = λ i. home.names i ++ (tt, a.left.names) ∷ [];
    store = refl;
    changed = λ seen. let same = ap (λ (q : NamesCell). q.changed) a.serves.names_is in omega (arith, same);
    known = known;
  }

  committed : IsSound k (at (suc (suc n))) (kept_of Names v1 ∷ u1 ∷ w2 ∷ spent ∷ [])
  committed = laws.end k (at (suc (suc n))) (kept_of Names v1 ∷ u1 ∷ w1 ∷ spent ∷ []) 2 w1 (committed_names_turn a.left.names (begun_at (suc n) was) f.left f.passed) meanwhile refl
      (laws.commits k.geometry f.keeps k.is_visible w1 a.left.names (begun_at (suc n) was) f.left f.passed home.formed hand f.commits)

  returned : IsSound k (at (suc (suc n))) (back ∷ u1 ∷ kept_of Names w2 ∷ spent ∷ spent ∷ [])
  returned = laws.join k (at (suc (suc n))) (kept_of Names v1 ∷ u1 ∷ kept_of Names w2 ∷ spent ∷ given_of Names w2 ∷ []) 0 4 (kept_of Names v1) (given_of Names w2)
      (laws.split k (at (suc (suc n))) (kept_of Names v1 ∷ u1 ∷ w2 ∷ spent ∷ []) 2 w2 Names committed refl) refl (λ e. cc) refl

  pub names_row_keeps : IsSound k (at (suc (suc n))) (names_row_end k n v u s was a b f)
  names_row_keeps = laws.tell k (at (suc (suc n))) (back ∷ u1 ∷ kept_of Names w2 ∷ spent ∷ spent ∷ []) 0 back (names_committed (begun_at (suc n) was) a.left.names) returned refl refl
