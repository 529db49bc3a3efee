use Rattle.std.proofs.Common.{◌≤◌, ℕ, List, arith, length, sym, subst, ◌∙◌}
use Rattle.ufs_joint.specs.Cells.{FileCell}
use Rattle.ufs_serving.proofs.Lacking.{off_pool}
use Rattle.ufs_store.specs.Refusals.{fault_in}
use Rattle.ufs_at_primary.specs.Room.{AreAllTidied}
use Rattle.ufs_at_primary.proofs.AllTold.{none_under, same_counts, synced_numbers}
use Rattle.ufs_at_primary.proofs.Births.{bare_pool, pool_beside}
use Rattle.ufs_at_primary.proofs.Rooms.{all_tidied, apart_from, may_reclaim, short_tidied}
use Rattle.ufs_at_primary.proofs.room.tidy_all.Goals as goal

pub commit_all-requires-clause-bare : goal.commit_all-requires-clause-bare
commit_all-requires-clause-bare g c = let p = c.requires.pool in bare_pool p.0 c.args.right.now p.1

pub returns-in-Err-clause-pool : goal.returns-in-Err-clause-pool
returns-in-Err-clause-pool g c = λ pool mine. pool_beside pool c.args.right.now c.commit_all.new.guest mine c.commit_all.ensures.bare c.commit_all.ensures.beside

pub returns-in-Err-clause-tidied : goal.returns-in-Err-clause-tidied
returns-in-Err-clause-tidied g c =
    let e = c.commit_all.ensures in
    let had = g.T.Turns.tells c.args.door.now in
    let has = g.T.Turns.tells c.commit_all.new.door in
    short_tidied g.N.Naming.start.is_visible had has has c.args.names.now c.commit_all.new.self c.args.files.now c.commit_all.new.files (fault_in c.commit_all.result) c.in-Err.ensures.short e.telling e.halts e.ran

pub reclaim-requires-clause-apart : goal.reclaim-requires-clause-apart
reclaim-requires-clause-apart g c =
    let p = c.requires.pool in
    let e = c.commit_all.ensures in
    let olds = c.args.files.now in
    let nows = c.commit_all.new.files in
    let numbers = synced_numbers g.N.Naming.start.is_visible olds nows (length olds) c.in_default.ensures.files in
    let all = c.requires.all in
    apart_from c.commit_all.new.guest 4294967295 p.0 nows e.bare.files (e.beside.pools ∙ p.1.pools) (same_counts 4294967295 olds nows numbers ∙ none_under 4294967295 olds (λ d has. off_pool 0 d.value.file.file (omega arith) (c.requires.low d has)))
    (λ file. subst (λ (n : ℕ). n ≤ 1) (sym (same_counts file olds nows numbers)) (all.once file))

pub reclaim-requires-clause-may : goal.reclaim-requires-clause-may
reclaim-requires-clause-may g c =
    may_reclaim g.N.Naming.start.is_visible c.args.names.now c.commit_all.new.self c.args.files.now c.commit_all.new.files c.requires.all c.in_default.ensures.names c.in_default.ensures.files

pub returns-clause-pool : goal.returns-clause-pool
returns-clause-pool g c = λ pool mine.
    let e = c.commit_all.ensures in
    let then = c.reclaim.ensures in
    pool_beside pool c.commit_all.new.guest c.reclaim.new.guest (pool_beside pool c.args.right.now c.commit_all.new.guest mine e.bare e.beside) then.bare then.beside

pub returns-clause-tidied : goal.returns-clause-tidied
returns-clause-tidied g c =
    let e = c.commit_all.ensures in
    let then = c.reclaim.ensures in
    let visible = g.N.Naming.start.is_visible in
    let had = g.T.Turns.tells c.args.door.now in
    let mid = g.T.Turns.tells c.commit_all.new.door in
    let has = g.T.Turns.tells c.reclaim.new.door in
    let olds = c.args.files.now in
    let nows = c.commit_all.new.files in
    let done = c.in_default.ensures in
    subst (λ (cs : List FileCell). AreAllTidied visible had has c.args.names.now c.reclaim.new.self olds cs) (sym then.files)
    (all_tidied visible had mid has c.args.names.now c.commit_all.new.self olds nows c.reclaim.new.self c.reclaim.result done.names done.files done.freed then.ok then.err then.back then.kept e.telling then.telling done.halts done.ran then.halts then.ran)
