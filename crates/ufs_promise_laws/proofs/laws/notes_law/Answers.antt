use Rattle.ufs_promise_laws.proofs.NotesLaw.{notes_go_on}
use Rattle.ufs_promise_laws.proofs.laws.notes_law.Goals as goal

pub returns : goal.returns
returns c l unassigned start history counts p new lent pool go same counted is_lent pooled sound keeps inodes st =
    notes_go_on c.args.geometry.now c.noted_law.ensures.may c.noted_law.ensures.records c.noted_law.ensures.lead c.change_law.ensures.joined
    l unassigned start history counts p new lent pool go same counted is_lent pooled sound keeps inodes st
