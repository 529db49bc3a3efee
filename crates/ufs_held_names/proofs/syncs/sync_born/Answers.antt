use Rattle.std.proofs.Common.{◌≡◌, ap, sym, subst, ◌∙◌}
use Rattle.std.specs.FinSet as set
use Rattle.ufs_bitmap.specs.Taking.{set_of}
use Rattle.ufs_file_commits.specs.State.{DurableState, file_committed}
use Rattle.ufs_file.specs.Hand.{IsOf}
use Rattle.ufs_joint.specs.Cells.{FileCell}
use Rattle.ufs_turns.specs.Lent.{AreTold}
use Rattle.ufs_held_names.proofs.syncs.sync_born.Goals as goal

pub sync-entry-requires-clause-guest : goal.sync-entry-requires-clause-guest
sync-entry-requires-clause-guest g c =
    let number = ap (λ (q : FileCell). q.value.file.file) c.tell_committed.ensures.told in
    let f = c.requires.guest in
    (f.0, f.1, f.2, f.3, f.4, λ e. f.5 (e ∙ number))

pub sync-entry-requires-clause-named : goal.sync-entry-requires-clause-named
sync-entry-requires-clause-named g c = subst (IsOf c.args.ask.desc) (sym (ap (λ (q : FileCell). q.value.file.file) c.tell_committed.ensures.told)) c.requires.named

pub sync-entry-requires-clause-born : goal.sync-entry-requires-clause-born
sync-entry-requires-clause-born g c = ap (λ (q : FileCell). q.born) c.tell_committed.ensures.told

pub returns-clause-tried : goal.returns-clause-tried
returns-clause-tried g c =
    let was = c.args.file in
    let told = c.tell_committed.ensures.told in
    let value = ap (λ (q : FileCell). q.value) told in
    let number = ap (λ (q : DurableState). q.file.file) value in
    let s = c.sync-entry.ensures in
    let now = c.sync-entry.new.self in
    let rest = s.rest ∙ (λ i. record (told i) { value = now.value; known = now.known }) in
    let its = ap (λ (q : FileCell). q.born) rest in
    record {
      entry = s.entry;
      replied = s.replied;
      desc = s.desc;
      guest = λ part n pool came off. s.guest part n pool came (λ e. off (e ∙ number));
      committed = λ done. s.committed done ∙ ap file_committed value;
      known = s.known;
      born = its;
      rest = rest ∙ (λ i. record was { value = now.value; known = now.known; born = sym its i });
      kept = λ excused. s.kept excused ∙ told ∙ (λ i. record was { born = sym its i });
      faults = s.faults;
      stop = s.stop;
      freed = λ done. subst (λ (q : DurableState). AreTold (g.T.Turns.tells c.args.door.now) (g.T.Turns.tells c.sync-entry.new.door) (λ had has. has ≡ set.union had (set_of q.dropped))) value (s.freed done);
      unfreed = s.unfreed;
      telling = s.telling;
      halts = s.halts;
      halted = s.halted;
      later = s.later;
      seen = s.seen;
    }
