-- The steps of the worked row, one by one.
use Rattle.std.proofs.Common.{◌≡◌, ◌≤◌, ◌++◌, ℕ, suc, inl, true, List, [], ◌∷◌, sym, refl, ap, ◌∙◌, subst, arith}
use Rattle.ufs_layout.specs.declared.geometry.Geometry.{Geometry}
use Rattle.ufs_model.specs.declared.data.PartName.TheVariants.{Store}
use Rattle.ufs_promise_laws.specs.AlwaysLaws.{RestIsExplained}
use Rattle.ufs_joint.specs.Cells.{FileCell, Start, StoreCell, View, spent}
use Rattle.ufs_joint.specs.FileHands.{AcknowledgementsMayDraw, FileFailuresMayEnd, FileRequestsMayDraw, IsSyncHand, failed_turn, same_leaves, served_leaves}
use Rattle.ufs_joint.specs.Laws.{DrawKeeps, HandsKnow, JoinKeeps, SplitKeeps, TurnBeginKeeps, TurnEndKeeps}
use Rattle.ufs_joint.specs.Sound.{IsSound}
use Rattle.ufs_joint.specs.Turns.{begun_at, turn_begun}
use Rattle.ufs_hand_laws.specs.Owned.{Has}
use Rattle.ufs_joint_tests.specs.Row.{Acknowledges, IsStoreHand, RowKeeps, Stops, Writes, acknowledged, at, begun, cell_written, ended, lent, row_end, written}

pub record Laws (g : Geometry) : Type 0 where
  pub draw : DrawKeeps
  pub join : JoinKeeps
  pub split : SplitKeeps
  pub begin : TurnBeginKeeps
  pub end : TurnEndKeeps
  pub know : HandsKnow
  pub requests : FileRequestsMayDraw
  pub acknowledgements : AcknowledgementsMayDraw
  pub failures : FileFailuresMayEnd g
  pub rest : RestIsExplained g

module _ (k : Start) (laws : Laws k.geometry) (n : ℕ) (v u w s : View) (was : StoreCell) (sound : IsSound k (at n) (v ∷ u ∷ w ∷ s ∷ [])) (away : v.store ≡ []) (home : IsStoreHand k.geometry s was)
    (a : Writes v n) (born : a.cell.born ≡ true) (b : Writes u (suc n)) (f : Stops k.is_visible (begun_at (suc n) was) a.next) (c : Acknowledges k.is_visible w) where
  abbrev v1 : View
  v1 = written v n a

  abbrev v2 : View
  v2 = lent k n v u w s was a b f c

  abbrev v3 : View
  v3 = begun k n v u w s was a b f c

  abbrev v4 : View
  v4 = ended k n v u w s was a b f c

  abbrev u1 : View
  u1 = written u (suc n) b

  wrote : IsSound k (at (suc n)) (v1 ∷ u ∷ w ∷ s ∷ [])
  wrote = laws.draw k (at n) (v ∷ u ∷ w ∷ s ∷ []) 0 v a.fresh (served_leaves a.fds a.file a.cell a.next n a.number a.left) sound refl
      (laws.requests k.geometry k.is_visible v a.client a.part a.file a.cell a.number a.pool a.left a.fresh n a.ask a.server a.desc a.next a.told a.fds a.hand a.serves a.who)

  joined : IsSound k (at (suc n)) (v2 ∷ u ∷ w ∷ spent ∷ [])
  joined = laws.join k (at (suc n)) (v1 ∷ u ∷ w ∷ s ∷ []) 0 3 v1 s wrote refl (λ e. cc) refl

  turned : IsSound k (at (suc n)) (v3 ∷ u ∷ w ∷ spent ∷ [])
  turned = laws.begin k (at (suc n)) (v2 ∷ u ∷ w ∷ spent ∷ []) 0 v2 was laws.rest joined refl (λ i. away i ++ home.store i)

  meanwhile : IsSound k (at (suc (suc n))) (v3 ∷ u1 ∷ w ∷ spent ∷ [])
  meanwhile = laws.draw k (at (suc n)) (v3 ∷ u ∷ w ∷ spent ∷ []) 1 u b.fresh (served_leaves b.fds b.file b.cell b.next (suc n) b.number b.left) turned refl
      (laws.requests k.geometry k.is_visible u b.client b.part b.file b.cell b.number b.pool b.left b.fresh (suc n) b.ask b.server b.desc b.next b.told b.fds b.hand b.serves b.who)

  -- what is known of the file was so before
  known : k.is_visible ≡ true → a.cell.known ≤ suc n
  known seen = (let e = ((laws.know k (at n) (v ∷ u ∷ w ∷ s ∷ []) 0 v sound refl).changed seen a.file a.cell (subst (Has (a.file, a.cell)) (sym a.hand.files) (inl refl))).1 in omega (arith, e))

  hand : IsSyncHand k.is_visible v3 a.file (cell_written v n a) (begun_at (suc n) was)
  hand = record {
    files = λ i. (a.file, cell_written v n a) ∷ home.files i;
    names = home.names;
    store = refl;
    number = a.serves.same_file;
    changed = λ seen. omega arith;
    known = known;
    born = born;
  }

  stopped : IsSound k (at (suc (suc n))) (v4 ∷ u1 ∷ w ∷ spent ∷ [])
  stopped = laws.end k (at (suc (suc n))) (v3 ∷ u1 ∷ w ∷ spent ∷ []) 0 v3 (failed_turn a.file (cell_written v n a) f.left f.passed f.told) meanwhile refl
      (laws.failures f.keeps k.is_visible v3 a.file (cell_written v n a) (begun_at (suc n) was) f.left f.passed f.told home.formed hand f.fails)

  pub keeps : IsSound k (at (suc (suc (suc n)))) (row_end k n v u w s was a b f c)
  keeps = laws.draw k (at (suc (suc n))) _ 2 w c.fresh (same_leaves c.part c.file c.cell c.number c.pool) (laws.split k (at (suc (suc n))) (v4 ∷ u1 ∷ w ∷ spent ∷ []) 0 v4 Store stopped refl) refl
      (laws.acknowledgements k.geometry k.is_visible w c.client c.part c.file c.cell c.number c.pool c.fresh (suc (suc n)) c.fd c.desc c.hand c.may c.who)
