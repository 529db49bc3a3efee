use Rattle.std.proofs.Common.{eqb, ap, sym, subst, arith}
use Rattle.std.specs.Prelude.{IsSome}
use Rattle.ufs_hand_laws.specs.Owned.{count}
use Rattle.ufs_primary.specs.OfHome.{HomeState}
use Rattle.ufs_primary.specs.OfHome.{files_in}
use Rattle.ufs_primary.specs.OfHome.{file_here}
use Rattle.ufs_rounds.proofs.Playing.{not_well}
use Rattle.ufs_rounds.proofs.Together.{counted, files_too}
use Rattle.ufs_rounds.proofs.ending.finish_rest.Goals as goal

pub finish-requires-clause-pools : goal.finish-requires-clause-pools
finish-requires-clause-pools g c = c.requires.back.alone

pub finish-requires-clause-back : goal.finish-requires-clause-back
finish-requires-clause-back g c =
    let b = c.requires.back in
    record {
      clients_back = b.clients_back;
      pools_back = b.pools_back;
      files_back = λ file live. let it = c.in-Ok.ensures.all file (b.files_here file live) in counted c.in-Ok.files.items it.0 file it.1 it.2;
    }

pub leave-requires-clause-back : goal.leave-requires-clause-back
leave-requires-clause-back g c =
    let b = c.requires.back in
    let home = c.lend_all.new.self in
    let joined = c.join_all.ensures.joined in (
      files_in home.places,
      files_too (files_in home.places) c.args.rest.pools c.join_all.new.hand b.alone joined,
      record {
        clients_back = b.clients_back;
        pools_back = λ n. let there = b.pools_back n in let same = ap (count eqb n) joined.pools in omega (arith, there, same);
        files_back = λ file live. c.join_all.ensures.each file (subst (λ (h : HomeState). IsSome (file_here h.places file)) (sym c.in-Err.ensures.kept) (b.files_here file live));
      },
    )

pub returns-in-Err-clause-raised : goal.returns-in-Err-clause-raised
returns-in-Err-clause-raised g c visible = not_well c.leave.result.ended _ c.leave.ensures.open
