use Rattle.std.proofs.Common.{ℕ, sym, ◌∙◌, subst}
use Rattle.std.proofs.lemmas.Result.{MatchResult-weaker, on_ok_weaker}
use Rattle.ufs_disk.specs.Moments.{reads}
use Rattle.ufs_start.specs.Begun.{IsBegun}
use Rattle.ufs_start.specs.Refused.{TellsNoStart}
use Rattle.ufs_brink.proofs.Numbers.{mended_once, mended_same}
use Rattle.ufs_brink.proofs.Read.{clean_still, kept_still, same_session, same_tree}
use Rattle.ufs_brink.proofs.Freed.{none_mended}
use Rattle.ufs_brink.proofs.starting.freed_start.Goals as goal

pub returns-in-Ok-clause-begun : goal.returns-in-Ok-clause-begun
returns-in-Ok-clause-begun g c =
    MatchResult-weaker c.start_of.result c.start_of.ensures.begun (λ s b. (b.0, subst (λ (n : ℕ). IsBegun n b.0 s) c.free_unneeded.ensures.size b.1, λ visible. b.2 visible ∙ sym (c.start_of.ensures.read_only visible).content)) (λ f none. none)

pub returns-in-Ok-clause-tree : goal.returns-in-Ok-clause-tree
returns-in-Ok-clause-tree g c visible proper =
    kept_still g.D.Disk.keeps (g.D.Disk.moments c.free_unneeded.new.disk) (g.D.Disk.moments c.start_of.new.disk) (c.start_of.ensures.read_only visible) (g.D.Disk.size c.args.disk.now) (g.D.Disk.moments c.args.disk.now)
    (c.free_unneeded.ensures.tree visible proper)

pub returns-in-Ok-clause-clean : goal.returns-in-Ok-clause-clean
returns-in-Ok-clause-clean g c visible proper =
    on_ok_weaker c.start_of.result
    (λ _. clean_still g.D.Disk.keeps (g.D.Disk.moments c.free_unneeded.new.disk) (g.D.Disk.moments c.start_of.new.disk) (c.start_of.ensures.read_only visible) (g.D.Disk.size c.args.disk.now) (c.in-Ok.ensures.clean visible proper))
    c.start_of.ensures.passed

pub returns-in-Ok-clause-refused : goal.returns-in-Ok-clause-refused
returns-in-Ok-clause-refused g c visible proper =
    let size = g.D.Disk.size c.args.disk.now in
    let old = g.D.Disk.moments c.args.disk.now in
    let new = g.D.Disk.moments c.free_unneeded.new.disk in
    MatchResult-weaker c.start_of.result (c.start_of.ensures.refused visible) (λ s none. none)
    (λ fault tells. same_session size (reads old) (reads new) (same_tree g.D.Disk.keeps size old new (c.free_unneeded.ensures.tree visible proper)) fault
    (none_mended size (reads old) new.state (c.in-Ok.ensures.recovered visible proper) (c.in-Ok.ensures.clean visible proper) fault (subst (λ (n : ℕ). TellsNoStart n (reads new) fault) c.free_unneeded.ensures.size tells)))

pub returns-in-Ok-clause-numbers : goal.returns-in-Ok-clause-numbers
returns-in-Ok-clause-numbers g c visible proper =
    let old = reads (g.D.Disk.moments c.args.disk.now) in
    let mid = reads (g.D.Disk.moments c.free_unneeded.new.disk) in
    on_ok_weaker c.start_of.result
    (λ _. mended_same 1 old mid (reads (g.D.Disk.moments c.start_of.new.disk)) (c.start_of.ensures.read_only visible).content
    (mended_once old mid (c.in-Ok.ensures.recovered visible proper) (c.in-Ok.ensures.clean visible proper).empty))
    c.start_of.ensures.passed
