use Rattle.std.proofs.Common.{◌||◌, ap, sym, subst, ◌∙◌}
use Rattle.std.specs.Prelude.{IsSome}
use Rattle.std.specs.FinMap as fin
use Rattle.std.specs.FinSet as set
use Rattle.ufs_noted.specs.Noted.{Noted}
use Rattle.ufs_held_names.specs.HeldNames.{first_names}
use Rattle.ufs_held_names.proofs.After.{first_held}
use Rattle.ufs_held_names.proofs.commits.tell_lent.Goals as goal

pub tell_born-requires-clause-names : goal.tell_born-requires-clause-names
tell_born-requires-clause-names g c = (c.requires.held.cell, c.requires.held.alone.names)

pub returns-clause-held : goal.returns-clause-held
returns-clause-held g c =
    let still = c.tell_born.ensures.still in
    let held = c.requires.held in
    record {
      cell = held.cell;
      alone = record {
        clients = still.clients ∙ held.alone.clients;
        asked = still.asked ∙ held.alone.asked;
        files = still.files ∙ held.alone.files;
        pools = still.pools ∙ held.alone.pools;
        names = still.names ∙ held.alone.names;
        store = still.store ∙ held.alone.store;
      };
      value = held.value;
    }

pub returns-clause-calm : goal.returns-clause-calm
returns-clause-calm g c = c.tell_born.ensures.still.faults ∙ c.requires.calm

pub returns-clause-same : goal.returns-clause-same
returns-clause-same g c = ap (first_names c.args.noted.now) c.tell_born.ensures.still.names

pub returns-clause-told : goal.returns-clause-told
returns-clause-told g c =
    let held = c.requires.held in
    c.tell_born.ensures.told held.cell held.alone.names
    ∙ (λ i. record (c.args.file.now) { born = c.args.file.now.born || set.contains (sym (first_held c.args.noted.now c.args.right.now held) i).named c.args.file.now.value.file.file })

pub returns-clause-live : goal.returns-clause-live
returns-clause-live g c =
    let held = c.requires.held in
    subst (λ (q : Noted). IsSome (fin.get q.names.held c.args.file.now.value.file.file)) held.value (c.tell_born.ensures.live held.cell held.alone.names)
