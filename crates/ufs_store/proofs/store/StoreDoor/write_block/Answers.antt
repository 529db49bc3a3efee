use Rattle.ufs_store.proofs.store.StoreDoor.write_block.Goals as goal

pub returns-in-Ok-clause-ok : goal.returns-in-Ok-clause-ok
returns-in-Ok-clause-ok g c visible l has may =
    let j = c.args.self.now.tables.journal in
    record {
      going = has.going;
      by = record {
        is = c.in-Ok.ensures.ok visible l has.by.is has.by.none has.by.in_use may;
        none = has.by.none;
        in_use = has.by.in_use;
        geometry = has.by.geometry;
        epoch = has.by.epoch;
        later = has.by.later;
        ready = c.write_data.ensures.ready visible j.geometry j.epoch j.used j.number c.requires.there.from has.by.ready;
      };
      superblock_is = has.superblock_is;
      added = has.added;
      numbered = has.numbered;
      unused = λ txn low. c.write_data.ensures.unused visible j.geometry j.epoch txn c.requires.there.from (has.unused txn low);
      settled = λ none block. let off = none in cc;
      older = has.older;
      fits = has.fits;
    }
