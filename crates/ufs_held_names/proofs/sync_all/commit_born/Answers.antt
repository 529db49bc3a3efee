use Rattle.std.proofs.Common.{◌≡◌, ap, sym, subst, ◌∙◌}
use Rattle.std.specs.Prelude.{OnOk, Result, Ok, Err}
use Rattle.std.proofs.lemmas.Result.{on_err_weaker, on_ok_weaker}
use Rattle.std.specs.FinSet as set
use Rattle.ufs_bitmap.specs.Taking.{set_of}
use Rattle.ufs_file_commits.specs.State.{file_committed}
use Rattle.ufs_joint.specs.Cells.{FileCell}
use Rattle.ufs_store.specs.declared.fault.StoreFault.{StoreFault}
use Rattle.ufs_turns.specs.Lent.{AreTold}
use Rattle.ufs_held_names.proofs.sync_all.commit_born.Goals as goal

on_ok_both : {A B C : Type 0} (r : Result (Unit {0}) StoreFault) → (A → B → C) → OnOk r A → OnOk r B → OnOk r C
on_ok_both (Ok x) f a b = f a b
on_ok_both (Err e) f a b = tt

pub commit-requires : goal.commit-requires
commit-requires g c = record { born = ap (λ (q : FileCell). q.born) c.tell_committed.ensures.told }

pub returns-clause-committed : goal.returns-clause-committed
returns-clause-committed g c =
    let was = c.args.file.now in
    let now = c.commit.new.self in
    let told = c.tell_committed.ensures.told in
    let told_rest = c.commit.ensures.rest ∙ (λ i. record (told i) { value = now.value; known = now.known }) in
    let its = ap (λ (q : FileCell). q.born) told_rest in
    on_ok_both c.commit.result
    (λ value known. record { value = value ∙ ap (λ (q : FileCell). file_committed q.value) told; known = known; born = its; rest = told_rest ∙ (λ i. record was { value = now.value; known = now.known; born = sym its i }) })
    c.commit.ensures.committed c.commit.ensures.known

pub returns-clause-kept : goal.returns-clause-kept
returns-clause-kept g c = on_err_weaker c.commit.result (λ same. same ∙ c.tell_committed.ensures.told) c.commit.ensures.kept

pub returns-clause-freed : goal.returns-clause-freed
returns-clause-freed g c =
    on_ok_weaker c.commit.result
    (λ told. subst (λ (q : FileCell). AreTold (g.T.Turns.tells c.args.door.now) (g.T.Turns.tells c.commit.new.door) (λ had has. has ≡ set.union had (set_of q.value.dropped))) c.tell_committed.ensures.told told) c.commit.ensures.freed
