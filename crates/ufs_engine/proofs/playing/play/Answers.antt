use Rattle.std.proofs.Common.{◌≡◌, ℕ, List, [], Result, Ok, Err, sym, subst, ◌∙◌}
use Rattle.std.specs.Prelude.{IsTrue, true}
use Rattle.std.specs.FinMap.{get-empty}
use Rattle.ufs_disk.specs.Disk.{Leaves}
use Rattle.ufs_disk.specs.Moments.{Moments, reads}
use Rattle.ufs_client.proofs.Lists.{once_rising}
use Rattle.ufs_client.specs.declared.played.EndFault.{EndFault}
use Rattle.ufs_image.specs.Opens.{opens}
use Rattle.ufs_image.specs.Volume.{Refusal}
use Rattle.ufs_joint.specs.Cells.{Start}
use Rattle.ufs_ledger.specs.Kept.{OpensExplained}
use Rattle.ufs_model.specs.History.{AreTicketsOnce, joined}
use Rattle.ufs_model.specs.Order.{fd_cmp}
use Rattle.ufs_model.specs.PosixTree.{PosixTree, root_alone}
use Rattle.ufs_model.specs.declared.data.Entry.{Entry}
use Rattle.ufs_brink.specs.Begins.{BeginsWith}
use Rattle.ufs_promise_laws.specs.OnDisk.{IsExplainedBetween}
use Rattle.ufs_store.specs.State.{StoreState}
use Rattle.ufs_store.specs.Tables.{state_of}
use Rattle.ufs_engine.specs.Played.{IsPlayedOn}
use Rattle.ufs_engine.specs.Plays.{AreFaultsOf, IsStampedThroughout, MayPlay, served_end}
use Rattle.ufs_engine.specs.Served.{IsPlayedFrom}
use Rattle.ufs_told.specs.Throughout.{IsExplainedThroughout}
use Rattle.ufs_engine.proofs.EndLemmas.{never_ended, no_faults, none_played, not_served}
use Rattle.ufs_engine.proofs.PlayedLemmas.{clean_from, closing_from, crash_from, faults_from, last_from, numbers_from, played_from, sized_from, stamped_from, throughout_from}
use Rattle.ufs_engine.proofs.StampedLemmas.{none_stamped}
use Rattle.ufs_engine.proofs.playing.play.Given.{Over}
use Rattle.ufs_engine.proofs.playing.play.Goals.{After-drop-script}
use Rattle.ufs_engine.proofs.playing.play.Goals as goal

-- ---- it was played

module _ (g : Over) (c : After-drop-script g) where
  abbrev k : Start
  k = c.in-Ok.begun.ready.opened.start

  abbrev told : List (List Entry)
  told = c.play_named.result.told

  -- the store as the session began
  abbrev opened : StoreState
  opened = let at = c.in-Ok.begun.ready.store in state_of (g.D.Disk.size at.disk) (g.D.Disk.moments at.disk) (g.D.Disk.faults at.disk) at.tables

  abbrev size : ℕ
  size = g.D.Disk.size c.args.disk

  abbrev old : Moments
  old = g.D.Disk.moments c.args.disk

  -- the disk as it was left
  abbrev left : Moments
  left = g.D.Disk.moments c.play_named.result.disk

  abbrev sectors : ℕ
  sectors = g.D.Disk.size c.play_named.result.disk

  abbrev faults : ℕ
  faults = g.D.Disk.faults c.play_named.result.disk

  is : IsPlayedOn k g.D.Disk.keeps c.args.script.clients opened told c.play_named.result.bytes c.play_named.result.ended sectors faults left
  is = c.play_named.ensures.played c.args.script.clients c.in-Ok.ensures.asked

  -- The image stood for a tree.
  stood : IsTrue g.D.Disk.visible → (refusal : Refusal) → opens size (reads old) ≡ Err refusal → ⊥
  stood visible refusal none =
      let tree = c.in-Ok.ensures.stands visible in
      let both : Ok tree.0 ≡ Err refusal = sym tree.1 ∙ none in
      cc

  module _ (may : MayPlay g.D.Disk.visible size old.state) where
    sees : k.is_visible ≡ true
    sees = c.in-Ok.ensures.visible may.is_visible may.proper

    tree_there : (start : PosixTree) → BeginsWith size (reads old) start → k.tree ≡ start
    tree_there start begins = c.in-Ok.ensures.tree may.is_visible may.proper start begins

    before : (start : PosixTree) → BeginsWith size (reads old) start → IsExplainedBetween g.D.Disk.keeps size start [] old opened.moments
    before start begins = c.in-Ok.ensures.moments may.is_visible may.proper start begins

pub returns-in-Ok-clause-legal : goal.returns-in-Ok-clause-legal
returns-in-Ok-clause-legal g c = let p = is g c in (p.start, p.closed, p.played, p.sized)

pub returns-in-Ok-clause-once : goal.returns-in-Ok-clause-once
returns-in-Ok-clause-once g c = once_rising _ (is g c).played.merged.rising

pub returns-in-Ok-clause-faults : goal.returns-in-Ok-clause-faults
returns-in-Ok-clause-faults g c = faults_from _ _ _ _ _ _ _ _ _ _ (is g c) (g.D.Disk.faults c.args.disk) c.in-Ok.ensures.passed

pub returns-in-Ok-clause-closing : goal.returns-in-Ok-clause-closing
returns-in-Ok-clause-closing g c = closing_from _ _ _ _ _ _ _ _ _ _ (is g c) (g.D.Disk.faults c.args.disk) c.in-Ok.ensures.passed

pub returns-in-Ok-clause-unserved : goal.returns-in-Ok-clause-unserved
returns-in-Ok-clause-unserved g c visible refusal none = absurd (stood g c visible refusal none)

pub returns-in-Ok-clause-stands : goal.returns-in-Ok-clause-stands
returns-in-Ok-clause-stands g c visible refusal none = absurd (stood g c visible refusal none)

pub returns-in-Ok-clause-size : goal.returns-in-Ok-clause-size
returns-in-Ok-clause-size g c = (is g c).size ∙ c.in-Ok.ensures.size

pub returns-in-Ok-clause-played : goal.returns-in-Ok-clause-played
returns-in-Ok-clause-played g c may start begins = played_from _ _ _ _ _ _ _ _ _ _ (is g c) (size g c) c.in-Ok.ensures.size (sees g c may) start (tree_there g c may start begins)

pub returns-in-Ok-clause-sized : goal.returns-in-Ok-clause-sized
returns-in-Ok-clause-sized g c may start begins = sized_from _ _ _ _ _ _ _ _ _ _ (is g c) (size g c) c.in-Ok.ensures.size (sees g c may) start (tree_there g c may start begins)

pub returns-in-Ok-clause-opened : goal.returns-in-Ok-clause-opened
returns-in-Ok-clause-opened g c may = c.begin.ensures.opened may.is_visible may.proper

pub returns-in-Ok-clause-crash : goal.returns-in-Ok-clause-crash
returns-in-Ok-clause-crash g c may start begins image here =
    (crash_from _ _ _ _ _ _ _ _ _ _ (is g c) (size g c) c.in-Ok.ensures.size (sees g c may) start (tree_there g c may start begins) image here).explained

pub returns-in-Ok-clause-proper : goal.returns-in-Ok-clause-proper
returns-in-Ok-clause-proper g c may image here =
    let from = c.begin.ensures.opened may.is_visible may.proper in
    (crash_from _ _ _ _ _ _ _ _ _ _ (is g c) (size g c) c.in-Ok.ensures.size (sees g c may) from.0 (tree_there g c may from.0 from.1) image here).proper

pub returns-in-Ok-clause-moments : goal.returns-in-Ok-clause-moments
returns-in-Ok-clause-moments g c may start begins =
    throughout_from _ _ _ _ _ _ _ _ _ _ (is g c) (size g c) c.in-Ok.ensures.size (sees g c may) start (tree_there g c may start begins) (old g c) (before g c may start begins)

pub returns-in-Ok-clause-stamped : goal.returns-in-Ok-clause-stamped
returns-in-Ok-clause-stamped g c kept may start begins =
    stamped_from _ _ _ _ _ _ _ _ _ _ (is g c) (size g c) c.in-Ok.ensures.size (sees g c may) start (tree_there g c may start begins) (old g c) (before g c may start begins) kept

pub returns-in-Ok-clause-clean : goal.returns-in-Ok-clause-clean
returns-in-Ok-clause-clean g c may =
    let from = c.begin.ensures.opened may.is_visible may.proper in
    clean_from _ _ _ _ _ _ _ _ _ _ (is g c) (size g c) c.in-Ok.ensures.size (sees g c may) from.0 (tree_there g c may from.0 from.1)

pub returns-in-Ok-clause-last : goal.returns-in-Ok-clause-last
returns-in-Ok-clause-last g c may start begins = last_from _ _ _ _ _ _ _ _ _ _ (is g c) (size g c) c.in-Ok.ensures.size (sees g c may) start (tree_there g c may start begins)

pub returns-in-Ok-clause-numbers : goal.returns-in-Ok-clause-numbers
returns-in-Ok-clause-numbers g c may =
    let from = c.begin.ensures.opened may.is_visible may.proper in
    numbers_from _ _ _ _ _ _ _ _ _ _ (is g c) (size g c) c.in-Ok.ensures.size (sees g c may) from.0 (tree_there g c may from.0 from.1) (reads (old g c)) (c.in-Ok.ensures.numbers may.is_visible may.proper)

pub returns-in-Ok-clause-why : goal.returns-in-Ok-clause-why
returns-in-Ok-clause-why g c may fault ends = absurd (c.play_named.ensures.begun fault ends)

-- ---- nothing was

pub returns-clause-legal : goal.returns-clause-legal
returns-clause-legal g c =
    let clients = c.args.script.clients in
    let ended = not_served c.unbegun_end.result c.in-Err.unbegun.fault c.unbegun_end.ensures.which in (
      root_alone,
      (λ client fd. get-empty fd_cmp (client, fd)),
      subst (λ (told : List (List Entry)). IsPlayedFrom root_alone clients told (served_end (Err c.unbegun_end.result)) (joined told)) (sym (c.from_vec.ensures ∙ c.new-in-Err.ensures.items))
          (subst (λ (r : Result (Unit {0}) EndFault). IsPlayedFrom root_alone clients [] r []) (sym ended) (none_played root_alone clients)),
      (λ ok. absurd (never_ended _ (sym ended ∙ ok))),
    )

pub returns-clause-once : goal.returns-clause-once
returns-clause-once g c = subst (λ (told : List (List Entry)). AreTicketsOnce (joined told)) (sym (c.from_vec.ensures ∙ c.new-in-Err.ensures.items)) (once_rising [] tt)

pub returns-clause-faults : goal.returns-clause-faults
returns-clause-faults g c =
    let before = g.D.Disk.faults c.args.disk in
    let now = g.D.Disk.faults c.in-Err.unbegun.disk in
    subst (λ (told : List (List Entry)). AreFaultsOf before now (joined told)) (sym (c.from_vec.ensures ∙ c.new-in-Err.ensures.items)) (no_faults before now)

pub returns-clause-opened : goal.returns-clause-opened
returns-clause-opened g c may = c.begin.ensures.opened may.is_visible may.proper

pub returns-clause-crash : goal.returns-clause-crash
returns-clause-crash g c may start begins =
    let left = (g.D.Disk.moments c.in-Err.unbegun.disk).state in
    subst (λ (told : List (List Entry)). Leaves (OpensExplained (g.D.Disk.size c.args.disk) start (joined told)) left) (sym (c.from_vec.ensures ∙ c.new-in-Err.ensures.items))
    (λ image is. ((c.in-Err.ensures.err_moments may.is_visible may.proper start begins).after image is).explained)

pub returns-clause-proper : goal.returns-clause-proper
returns-clause-proper g c may image is =
    let from = c.begin.ensures.opened may.is_visible may.proper in
    ((c.in-Err.ensures.err_moments may.is_visible may.proper from.0 from.1).after image is).proper

pub returns-clause-moments : goal.returns-clause-moments
returns-clause-moments g c may start begins =
    subst (λ (told : List (List Entry)). IsExplainedThroughout g.D.Disk.keeps (g.D.Disk.size c.args.disk) start [] (joined told) (g.D.Disk.moments c.args.disk) (g.D.Disk.moments c.in-Err.unbegun.disk))
    (sym (c.from_vec.ensures ∙ c.new-in-Err.ensures.items)) (c.in-Err.ensures.err_moments may.is_visible may.proper start begins)

pub returns-clause-stamped : goal.returns-clause-stamped
returns-clause-stamped g c kept may start begins =
    let size = g.D.Disk.size c.args.disk in
    let old = g.D.Disk.moments c.args.disk in
    let new = g.D.Disk.moments c.in-Err.unbegun.disk in
    subst (λ (told : List (List Entry)). IsStampedThroughout g.D.Disk.keeps size start (joined told) old new)
    (sym (c.from_vec.ensures ∙ c.new-in-Err.ensures.items)) (none_stamped g.D.Disk.keeps size start old new (c.in-Err.ensures.err_moments may.is_visible may.proper start begins))
