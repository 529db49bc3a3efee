use Rattle.std.proofs.Common.{◌≡◌, ◌≢◌, ◌∙◌, false, inl, List, [], Option, Some, Err, ap, subst, sym}
use Rattle.std.specs.Prelude.{unwrap_or}
use Rattle.std.proofs.lemmas.Result.{on_err_weaker, on_ok_weaker}
use Rattle.ufs_base.specs.declared.lack.Lack.TheVariants.{AtEnd}
use Rattle.ufs_layout.specs.declared.records.LogRecord.{LogRecord}
use Rattle.ufs_store.specs.State.{geometry_of_store}
use Rattle.ufs_store.specs.declared.fault.StoreFault.TheVariants as refusal
use Rattle.ufs_promise_laws.specs.Known.{nothing_known}
use Rattle.ufs_names_commit.specs.Fits.{IsLackOfCommit, fit}
use Rattle.ufs_promise_laws.proofs.Known.{kept_named, nothing_going, on_disk_of}
use Rattle.ufs_names_commit.proofs.commits.commit_notes.Goals as goal

pub commit_log-requires-clause-stamped : goal.commit_log-requires-clause-stamped
commit_log-requires-clause-stamped g c stamps =
    let told = c.requires.stamped stamps in
    (told.0, told.1, told.2 ∙ sym c.in-Some.ensures.value, told.3, told.4)

pub returns-in-Some-clause-known : goal.returns-in-Some-clause-known
returns-in-Some-clause-known g c visible = on_ok_weaker c.commit_log.result (λ ok start history p known same noted table kept. ok start history p known same (noted ∙ sym c.in-Some.ensures.value) table kept) (c.commit_log.ensures.ok visible)

pub returns-in-Some-clause-still_known : goal.returns-in-Some-clause-still_known
returns-in-Some-clause-still_known g c visible = on_err_weaker c.commit_log.result (λ err start history p known same noted table kept. err start history p known same (noted ∙ sym c.in-Some.ensures.value) table kept) (c.commit_log.ensures.err visible)

pub returns-in-Some-clause-ok : goal.returns-in-Some-clause-ok
returns-in-Some-clause-ok g c visible =
    let old = g.D.Door.store c.args.door.now in
    let new = g.D.Door.store c.commit_log.new.door in
    on_ok_weaker c.commit_log.result (λ ok start history p same noted table go. kept_named new start history p nothing_known (ok start history p nothing_known same (noted ∙ sym c.in-Some.ensures.value) table (nothing_going old start history p go)))
    (c.commit_log.ensures.ok visible)

pub returns-in-Some-clause-err : goal.returns-in-Some-clause-err
returns-in-Some-clause-err g c visible =
    let old = g.D.Door.store c.args.door.now in
    let new = g.D.Door.store c.commit_log.new.door in
    on_err_weaker c.commit_log.result (λ err start history p same noted table go. on_disk_of new start history p nothing_known (err start history p nothing_known same (noted ∙ sym c.in-Some.ensures.value) table (nothing_going old start history p go)))
    (c.commit_log.ensures.err visible)

pub returns-in-Some-clause-moments : goal.returns-in-Some-clause-moments
returns-in-Some-clause-moments g c visible start history p same noted table go =
    c.commit_log.ensures.moments visible start history p nothing_known same (noted ∙ sym c.in-Some.ensures.value) table (nothing_going (g.D.Door.store c.args.door.now) start history p go)

pub returns-in-None-clause-moments : goal.returns-in-None-clause-moments
returns-in-None-clause-moments g c visible start history p same noted table go =
    c.always_law.ensures.rest g.D.Door.keeps (g.D.Door.store c.args.door.now) start history p (sym c.geometry-geometry.ensures.is) (inl go)

-- the log has these records
same_log : {before records : List LogRecord} (old : Option (List LogRecord)) → Some before ≡ old → old ≡ Some records → before ≡ records
same_log {before} old is some = ap (λ (o : Option (List LogRecord)). unwrap_or o before) (is ∙ some)

pub returns-in-Some-clause-lack : goal.returns-in-Some-clause-lack
returns-in-Some-clause-lack g c records w some is =
    subst (λ (rs : List LogRecord). IsLackOfCommit (g.D.Door.store c.args.door.now) rs w) (same_log c.args.notes.now c.in-Some.ensures.value some) (c.commit_log.ensures.lack w is)

pub returns-in-Some-clause-unfit : goal.returns-in-Some-clause-unfit
returns-in-Some-clause-unfit g c records some =
    subst (λ (rs : List LogRecord). rs ≢ [] → fit (geometry_of_store (g.D.Door.store c.args.door.now)) rs ≡ false → c.commit_log.result ≡ Err (refusal.Lack AtEnd)) (same_log c.args.notes.now c.in-Some.ensures.value some) c.commit_log.ensures.unfit
