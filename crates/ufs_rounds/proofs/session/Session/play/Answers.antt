use Rattle.std.proofs.Common.{List, Ok, Some, map, sym, subst}
use Rattle.std.specs.declared.alloc.Global.{Global}
use Rattle.std.specs.declared.vec.Vec.{Vec}
use Rattle.ufs_caller.specs.declared.told.Told.{Told}
use Rattle.ufs_client.specs.Played.{IsMerged}
use Rattle.ufs_model.specs.declared.data.Actor.{Actor}
use Rattle.ufs_model.specs.declared.data.Entry.{Entry}
use Rattle.ufs_rounds.specs.Played.{AreInTurn}
use Rattle.ufs_rounds.specs.Rest.{IsPlayed}
use Rattle.ufs_rounds.specs.View.{global_of}
use Rattle.ufs_rounds.proofs.AloneRounds.{plays_on}
use Rattle.ufs_rounds.proofs.Faults.{played_tells}
use Rattle.ufs_rounds.proofs.InTurn.{by_turns}
use Rattle.ufs_rounds.proofs.Playing.{both_maps, has_played}
use Rattle.ufs_rounds.proofs.session.Session.play.Goals as goal

pub returns-in-Ok-clause-played : goal.returns-in-Ok-clause-played
returns-in-Ok-clause-played g c =
    let told : List (Vec Told Global) = c.end.result.told.items in
    has_played _ _ _ _ _ _ (map (λ (t : Vec Told Global). t.items) told) c.play-played.new.self.clients.items _ _ _ _ _ c.end.ensures.told (both_maps (λ (t : Vec Told Global). t.items) told) c.play-played.ensures.scripts c.end.ensures.made c.end.ensures.finished
    c.play-played.ensures.first c.in-Ok.ensures.all

pub returns-in-Ok-clause-turns : goal.returns-in-Ok-clause-turns
returns-in-Ok-clause-turns g c =
    let last = global_of c.play-played.new.self (Some c.play-played.new.door.held) in
    record {
      last = last;
      played = subst (IsPlayed g.N.Naming.start c.args.schedule.now (global_of c.args.self.participants (Some c.args.self.store)) last) c.in-Ok.is c.play-played.ensures.played;
      are = c.end.ensures.told;
      end = record { stopped = c.end.ensures.stopped; counted = c.end.ensures.counted; raised = c.end.ensures.raised };
    }

pub returns-in-Err-clause-ended : goal.returns-in-Err-clause-ended
returns-in-Err-clause-ended g c alone =
    let first = global_of c.args.self.participants (Some c.args.self.store) in
    let last = global_of c.play-played.new.self (Some c.play-played.new.door.held) in
    absurd (plays_on g.N.Naming.start c.args.schedule.now first last c.in-Err.why alone c.in-Err.ensures.under_way (subst (IsPlayed g.N.Naming.start c.args.schedule.now first last) c.in-Err.is c.play-played.ensures.played))

pub returns-in-Ok-clause-in_turn : goal.returns-in-Ok-clause-in_turn
returns-in-Ok-clause-in_turn g c alone nothing none =
    let k = g.N.Naming.start in
    let first = global_of c.args.self.participants (Some c.args.self.store) in
    let last = global_of c.play-played.new.self (Some c.play-played.new.door.held) in
    let played = subst (IsPlayed k c.args.schedule.now first last) c.in-Ok.is c.play-played.ensures.played in
    subst (λ (lists : List (List Entry)). AreInTurn lists) (sym c.end.ensures.told)
    (by_turns k first alone nothing last (subst (λ (actors : List Actor). IsPlayed k actors first last (Ok tt)) none played) c.in-Ok.ensures.rest)

pub returns-in-Ok-clause-told : goal.returns-in-Ok-clause-told
returns-in-Ok-clause-told g c alone nothing s formed history merged =
    let k = g.N.Naming.start in
    let first = global_of c.args.self.participants (Some c.args.self.store) in
    let last = global_of c.play-played.new.self (Some c.play-played.new.door.held) in
    let played = subst (IsPlayed k c.args.schedule.now first last) c.in-Ok.is c.play-played.ensures.played in
    record {
      before = c.play-played.new.door.held;
      ends = record { stopped = c.end.ensures.stopped; counted = c.end.ensures.counted; raised = c.end.ensures.raised };
      told = (played_tells k s formed c.args.schedule.now first last alone nothing played c.in-Ok.ensures.rest history (subst (λ (lists : List (List Entry)). IsMerged lists history) c.end.ensures.told merged)).told;
    }
