use Rattle.std.proofs.Common.{◌≡◌, ◌≤◌, ℕ, eqb, List, sym, inl, inr, ◌∙◌, subst}
use Rattle.ufs_joint.specs.Cells.{FileCell}
use Rattle.ufs_joint.specs.Disks.{cell_of}
use Rattle.ufs_joint.specs.Ends.{HoldsAll}
use Rattle.ufs_joint.specs.Turns.{turn_begun}
use Rattle.ufs_promise_laws.specs.LastLaws.{AllIsLast}
use Rattle.ufs_hand_laws.specs.Owned.{count}
use Rattle.ufs_hand_laws.proofs.Keys.{alike, itself}
use Rattle.ufs_hand_laws.proofs.Owning.{has_count}
use Rattle.ufs_promise_laws.specs.AlwaysLaws.{RestIsExplained}
use Rattle.ufs_names_commit.specs.Laws.{AllAreThere}
use Rattle.ufs_turns.specs.HeldStore.{begun_in}
use Rattle.ufs_gathered.proofs.AtEnd.{has_ended}
use Rattle.ufs_gathered.proofs.AllThere.{begun_all}
use Rattle.ufs_gathered.proofs.ending.close_gathered.Goals as goal

pub mark-requires-clause-its : goal.mark-requires-clause-its
mark-requires-clause-its g c = c.geometry-geometry.ensures.is ∙ c.requires.store.formed

pub mark-requires-clause-may : goal.mark-requires-clause-may
mark-requires-clause-may g c =
    let v = c.args.gathered.hand in
    let home = c.requires.store in
    inr (inl (record {
      store = cell_of home.stamp home.past (g.S.Door.store c.args.gathered.store);
      has = home.has;
      is = λ i n. begun_in (home.has i) v n;
    }))

pub close-tickets-requires-clause-its : goal.close-tickets-requires-clause-its
close-tickets-requires-clause-its g c = c.geometry-geometry.ensures.is ∙ c.requires.store.formed

pub close-tickets-requires-clause-all : goal.close-tickets-requires-clause-all
close-tickets-requires-clause-all g c =
    let b = c.requires.back in
    let v = c.args.gathered.hand in
    let home = c.requires.store in
    let cell = cell_of home.stamp home.past (g.S.Door.store c.args.gathered.store) in
    let n = c.mark.result in
    let is : c.mark.new.self ≡ turn_begun n cell v = c.mark.ensures.cells ∙ (λ i. begun_in (home.has i) v n) in
    subst (HoldsAll g.N.Naming.start) (sym is) (begun_all g.N.Naming.start b.0 b.1 b.2 b.3 v n cell b.5 b.4)

pub returns-clause-ended : goal.returns-clause-ended
returns-clause-ended g c names files pools clients all back lists at_home =
    let home = c.requires.store in
    let store = c.args.gathered.store in
    let form : c.geometry-geometry.result ≡ g.N.Naming.start.geometry = c.geometry-geometry.ensures.is ∙ home.formed in
    has_ended g.N.Naming.start g.N.Naming.origin g.S.Door.visible g.S.Door.keeps names files pools clients c.args.gathered.hand (g.S.Door.store store) all home
    c.mark.result c.mark.ensures.knows c.close-tickets.result c.mark.new.self c.mark.ensures.cells c.close-tickets.ensures lists at_home
    (λ file live. has_count eqb itself alike file c.args.gathered.hand.files (subst (λ (ps : List (ℕ × FileCell)). 1 ≤ count eqb file ps) (sym all.files_are) (back.files_back file live)))
    (subst RestIsExplained form c.always_law.ensures.rest) (subst AllAreThere form c.all_law.ensures) (subst AllIsLast form c.last_law.ensures)
    (λ visible. g.met.S.Door.whole visible store)
