use Rattle.std.proofs.Common.{◌≡◌, length, true, false, ap, sym, ◌∙◌, subst, arith}
use Rattle.std.proofs.lemmas.Result.{err_from_is_err_and}
use Rattle.ufs_base.specs.Images.{Image}
use Rattle.ufs_disk.specs.Moments.{reads}
use Rattle.ufs_image.specs.Proper.{IsProperImage}
use Rattle.ufs_image.specs.Volume.{superblock_of}
use Rattle.ufs_layout.specs.declared.records.Committed.{Committed}
use Rattle.ufs_layout.specs.declared.superblock.Super.{Super}
use Rattle.ufs_recovery.proofs.Ends.{superblock_same, log_same, none_in_clean, only_outside, opens_not, opens_there}
use Rattle.ufs_recovery.proofs.PlanLacks.{lacks_recovery, memory_for_recovery, not_at_end, numbers_by_memory, numbers_by_outside}
use Rattle.ufs_recovery.proofs.Reread.{IsReadWhole, clean_behind, kept_behind, recovered_behind}
use Rattle.ufs_recovery.proofs.SuperblockPut.{keeps_settled, still_settled}
use Rattle.ufs_metadata.proofs.Quiet.{read_more}
use Rattle.ufs_recovery.proofs.recovery.recover.Goals as goal

pub returns-in_err-opened-clause-tree : goal.returns-in_err-opened-clause-tree
returns-in_err-opened-clause-tree g c visible proper = keeps_settled _ (g.D.Disk.size c.args.disk.now) _ _ proper.settled (c.open.ensures.read_only visible).crash

pub returns-in_err-opened-clause-outside : goal.returns-in_err-opened-clause-outside
returns-in_err-opened-clause-outside g c visible proper =
    let p = err_from_is_err_and c.from_residual.result c.from_residual.ensures.1 in
    rw (p.1, p.2) (only_outside (g.D.Disk.size c.args.disk.now) (reads (g.D.Disk.moments c.args.disk.now)) proper c.in_err-opened.field-0.0 (c.in_err-opened.ensures.refused visible))

pub returns-then-opened-clause-found : goal.returns-then-opened-clause-found
returns-then-opened-clause-found g c visible =
    c.in_ok-opened.ensures.count visible ∙ ap (length {A = Committed}) (log_same (g.D.Disk.size c.args.disk.now) (reads (g.D.Disk.moments c.args.disk.now)) c.in_ok-opened.opened.volume (c.in_ok-opened.ensures.taken visible))

pub returns-then-opened-clause-clean : goal.returns-then-opened-clause-clean
returns-then-opened-clause-clean g c visible proper =
    let size = g.D.Disk.size c.args.disk.now in
    let old = g.D.Disk.moments c.args.disk.now in
    let image = reads (g.D.Disk.moments c.args.disk.now) in
    let v = c.in_ok-opened.opened.volume in
    let is = c.in_ok-opened.ensures.taken visible in
    let back = sym (c.open.ensures.read_only visible).content in
    let clean : (superblock_of image).clean ≡ true = sym (ap (λ (h : Super). h.clean) (superblock_same size image v is)) ∙ c.if-opened.true in
    record {
      proper = record {
        settled = still_settled g.D.Disk.keeps old (g.D.Disk.moments c.open.new.disk) (c.open.ensures.read_only visible) proper.settled;
        proper = subst (λ (d : Image). IsProperImage size d) back proper.proper;
      };
      clean = subst (λ (d : Image). (superblock_of d).clean ≡ true) back clean;
      empty = none_in_clean size (reads (g.D.Disk.moments c.open.new.disk)) (subst (λ (d : Image). IsProperImage size d) back proper.proper) (subst (λ (d : Image). (superblock_of d).clean ≡ true) back clean);
    }

pub returns-then-opened-clause-tree : goal.returns-then-opened-clause-tree
returns-then-opened-clause-tree g c visible proper = keeps_settled _ (g.D.Disk.size c.args.disk.now) _ _ proper.settled (c.open.ensures.read_only visible).crash

pub returns-then-opened-clause-recovered : goal.returns-then-opened-clause-recovered
returns-then-opened-clause-recovered g c visible proper used =
    let isnt : false ≡ true = sym used ∙ sym (ap (λ (h : Super). h.clean) (superblock_same (g.D.Disk.size c.args.disk.now) (reads (g.D.Disk.moments c.args.disk.now)) c.in_ok-opened.opened.volume (c.in_ok-opened.ensures.taken visible))) ∙ c.if-opened.true in
    absurd (grind (arith, isnt))

pub returns-in-Ok-clause-found : goal.returns-in-Ok-clause-found
returns-in-Ok-clause-found g c visible =
    c.in_ok-opened.ensures.count visible ∙ ap (length {A = Committed}) (log_same (g.D.Disk.size c.args.disk.now) (reads (g.D.Disk.moments c.args.disk.now)) c.in_ok-opened.opened.volume (c.in_ok-opened.ensures.taken visible))

pub returns-in-Ok-clause-clean : goal.returns-in-Ok-clause-clean
returns-in-Ok-clause-clean g c visible proper =
    let here = c.in_ok-opened.ensures in
    let is : IsReadWhole (g.D.Disk.size c.args.disk.now) (reads (g.D.Disk.moments c.args.disk.now)) c.in_ok-opened.opened.volume c.in_ok-opened.opened.findings =
    record { taken = here.taken visible; added = here.added visible; highest = here.highest visible; found = here.found visible; whole = here.whole visible } in
    clean_behind _ _ _ c.open.ensures.size (g.D.Disk.moments c.args.disk.now) (g.D.Disk.moments c.open.new.disk) (g.D.Disk.moments c.write_back.new.disk) (c.open.ensures.read_only visible) _ _ is (c.in-Ok.ensures.written visible) proper (c.in-Ok.ensures.settled visible)

pub returns-in-Ok-clause-tree : goal.returns-in-Ok-clause-tree
returns-in-Ok-clause-tree g c visible =
    let here = c.in_ok-opened.ensures in
    let is : IsReadWhole (g.D.Disk.size c.args.disk.now) (reads (g.D.Disk.moments c.args.disk.now)) c.in_ok-opened.opened.volume c.in_ok-opened.opened.findings =
    record { taken = here.taken visible; added = here.added visible; highest = here.highest visible; found = here.found visible; whole = here.whole visible } in
    kept_behind _ _ _ c.open.ensures.size (g.D.Disk.moments c.args.disk.now) (g.D.Disk.moments c.open.new.disk) (g.D.Disk.moments c.write_back.new.disk) (c.open.ensures.read_only visible) _ _ is (c.write_back.ensures.tree visible)

pub returns-in-Ok-clause-recovered : goal.returns-in-Ok-clause-recovered
returns-in-Ok-clause-recovered g c visible proper used =
    let here = c.in_ok-opened.ensures in
    let is : IsReadWhole (g.D.Disk.size c.args.disk.now) (reads (g.D.Disk.moments c.args.disk.now)) c.in_ok-opened.opened.volume c.in_ok-opened.opened.findings =
    record { taken = here.taken visible; added = here.added visible; highest = here.highest visible; found = here.found visible; whole = here.whole visible } in
    recovered_behind _ _ _ c.open.ensures.size (g.D.Disk.moments c.args.disk.now) (g.D.Disk.moments c.open.new.disk) (g.D.Disk.moments c.write_back.new.disk) (c.open.ensures.read_only visible) _ _ is (c.in-Ok.ensures.written visible) proper

pub returns-in-Ok-clause-quiet : goal.returns-in-Ok-clause-quiet
returns-in-Ok-clause-quiet g c visible clean =
    let isnt : false ≡ true = sym c.if-opened.false ∙ ap (λ (h : Super). h.clean) (superblock_same (g.D.Disk.size c.args.disk.now) (reads (g.D.Disk.moments c.args.disk.now)) c.in_ok-opened.opened.volume (c.in_ok-opened.ensures.taken visible)) ∙ clean in
    absurd (grind (arith, isnt))

pub returns-clause-tree : goal.returns-clause-tree
returns-clause-tree g c visible =
    let here = c.in_ok-opened.ensures in
    let is : IsReadWhole (g.D.Disk.size c.args.disk.now) (reads (g.D.Disk.moments c.args.disk.now)) c.in_ok-opened.opened.volume c.in_ok-opened.opened.findings =
    record { taken = here.taken visible; added = here.added visible; highest = here.highest visible; found = here.found visible; whole = here.whole visible } in
    kept_behind _ _ _ c.open.ensures.size (g.D.Disk.moments c.args.disk.now) (g.D.Disk.moments c.open.new.disk) (g.D.Disk.moments c.write_back.new.disk) (c.open.ensures.read_only visible) _ _ is (c.write_back.ensures.tree visible)

pub returns-clause-quiet : goal.returns-clause-quiet
returns-clause-quiet g c visible clean =
    let isnt : false ≡ true = sym c.if-opened.false ∙ ap (λ (h : Super). h.clean) (superblock_same (g.D.Disk.size c.args.disk.now) (reads (g.D.Disk.moments c.args.disk.now)) c.in_ok-opened.opened.volume (c.in_ok-opened.ensures.taken visible)) ∙ clean in
    absurd (grind (arith, isnt))

pub returns-then-opened-clause-opened : goal.returns-then-opened-clause-opened
returns-then-opened-clause-opened g c visible =
    opens_there (g.D.Disk.size c.args.disk.now) (reads (g.D.Disk.moments c.args.disk.now)) c.in_ok-opened.opened.volume (c.in_ok-opened.ensures.taken visible) (c.in_ok-opened.ensures.whole visible)

pub returns-in-Ok-clause-opened : goal.returns-in-Ok-clause-opened
returns-in-Ok-clause-opened g c visible =
    opens_there (g.D.Disk.size c.args.disk.now) (reads (g.D.Disk.moments c.args.disk.now)) c.in_ok-opened.opened.volume (c.in_ok-opened.ensures.taken visible) (c.in_ok-opened.ensures.whole visible)

pub returns-in-Ok-clause-unopened : goal.returns-in-Ok-clause-unopened
returns-in-Ok-clause-unopened g c visible refusal none =
    absurd (opens_not (g.D.Disk.size c.args.disk.now) (reads (g.D.Disk.moments c.args.disk.now)) c.in_ok-opened.opened.volume (c.in_ok-opened.ensures.taken visible) (c.in_ok-opened.ensures.whole visible) refusal none)

pub returns-clause-unopened : goal.returns-clause-unopened
returns-clause-unopened g c visible refusal none =
    absurd (opens_not (g.D.Disk.size c.args.disk.now) (reads (g.D.Disk.moments c.args.disk.now)) c.in_ok-opened.opened.volume (c.in_ok-opened.ensures.taken visible) (c.in_ok-opened.ensures.whole visible) refusal none)

pub returns-in_err-opened-clause-lack : goal.returns-in_err-opened-clause-lack
returns-in_err-opened-clause-lack g c visible =
    let p = err_from_is_err_and c.from_residual.result c.from_residual.ensures.1 in
    rw (p.1, p.2) (memory_for_recovery (reads (g.D.Disk.moments c.args.disk.now)) c.in_err-opened.field-0.0 c.in_err-opened.ensures.memory)

pub returns-clause-lack : goal.returns-clause-lack
returns-clause-lack g c visible =
    let here = c.in_ok-opened.ensures in
    let is : IsReadWhole (g.D.Disk.size c.args.disk.now) (reads (g.D.Disk.moments c.args.disk.now)) c.in_ok-opened.opened.volume c.in_ok-opened.opened.findings =
    record { taken = here.taken visible; added = here.added visible; highest = here.highest visible; found = here.found visible; whole = here.whole visible } in
    lacks_recovery (g.D.Disk.size c.args.disk.now) (reads (g.D.Disk.moments c.args.disk.now)) c.in_ok-opened.opened.volume c.in_ok-opened.opened.findings is c.in-Err.fault c.in-Err.ensures.lack

pub returns-clause-unasked : goal.returns-clause-unasked
returns-clause-unasked g c visible clean =
    let isnt : false ≡ true = sym c.if-opened.false ∙ ap (λ (h : Super). h.clean) (superblock_same (g.D.Disk.size c.args.disk.now) (reads (g.D.Disk.moments c.args.disk.now)) c.in_ok-opened.opened.volume (c.in_ok-opened.ensures.taken visible)) ∙ clean in
    absurd (grind (arith, isnt))

pub returns-in_err-opened-clause-early : goal.returns-in_err-opened-clause-early
returns-in_err-opened-clause-early g c visible =
    let p = err_from_is_err_and c.from_residual.result c.from_residual.ensures.1 in
    rw (p.1, p.2) (not_at_end c.in_err-opened.field-0.0 c.in_err-opened.ensures.memory)

pub returns-clause-early : goal.returns-clause-early
returns-clause-early g c visible at =
    read_more g.D.Disk.keeps (g.D.Disk.moments c.args.disk.now) (g.D.Disk.moments c.open.new.disk) (g.D.Disk.moments c.write_back.new.disk) (c.open.ensures.read_only visible) (c.in-Err.ensures.early visible at)

pub returns-in_err-opened-clause-numbers : goal.returns-in_err-opened-clause-numbers
returns-in_err-opened-clause-numbers g c =
    let p = err_from_is_err_and c.from_residual.result c.from_residual.ensures.1 in
    rw (p.1, p.2) (numbers_by_memory c.in_err-opened.field-0.0 c.in_err-opened.ensures.memory)

pub returns-clause-numbers : goal.returns-clause-numbers
returns-clause-numbers g c = numbers_by_outside c.in-Err.fault c.in-Err.ensures.outside
