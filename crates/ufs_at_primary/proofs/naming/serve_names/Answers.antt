use Rattle.std.proofs.Common.{None, refl, ap, ◌∙◌, arith}
use Rattle.std.specs.FinSet as set
use Rattle.std.specs.Ordering.{nat_cmp}
use Rattle.ufs_bitmap.specs.Blocks.{BlockSet}
use Rattle.ufs_model.specs.History.{is_excused}
use Rattle.ufs_held.proofs.Stopping.{read_rests, rests_twice}
use Rattle.ufs_held_names.proofs.Faultless.{untold_by}
use Rattle.ufs_serving.proofs.Conserving.{none_lost}
use Rattle.ufs_at_primary.proofs.NamesTold.{free_still, left_of}
use Rattle.ufs_at_primary.proofs.naming.serve_names.Goals as goal

pub fill-requires : goal.fill-requires
fill-requires g c = record { pool = (c.args.number, c.requires.pool) }

pub lend_pool-guest-requires : goal.lend_pool-guest-requires
lend_pool-guest-requires g c =
    let a = c.requires.asked in
    let n = c.args.number in
    record { pool = (n, c.fill.new.pool, c.fill.ensures.pool n c.requires.pool); client = (c.args.ask.client, a.0, a.1) }

pub serve-entry-requires-clause-guest : goal.serve-entry-requires-clause-guest
serve-entry-requires-clause-guest g c =
    let a = c.requires.asked in
    let n = c.args.number in
    (a.0, n, c.lend_pool-guest.ensures.guest n c.fill.new.pool c.args.ask.client a.0 (c.fill.ensures.pool n c.requires.pool) a.1, a.2, c.requires.apart)

pub take_pool-guest-requires : goal.take_pool-guest-requires
take_pool-guest-requires g c =
    let a = c.requires.asked in
    let n = c.args.number in
    let came = c.lend_pool-guest.ensures.guest n c.fill.new.pool c.args.ask.client a.0 (c.fill.ensures.pool n c.requires.pool) a.1 in
    let then = c.serve-entry.ensures.guest a.0 n came c.requires.apart in
    record { none = c.lend_pool-guest.ensures.none; guest = (c.args.ask.client, then.0, c.serve-entry.new.pool, then.2) }

pub rest-requires : goal.rest-requires
rest-requires g c =
    let a = c.requires.asked in
    let n = c.args.number in
    let came = c.lend_pool-guest.ensures.guest n c.fill.new.pool c.args.ask.client a.0 (c.fill.ensures.pool n c.requires.pool) a.1 in
    let then = c.serve-entry.ensures.guest a.0 n came c.requires.apart in
    record { pool = (n, c.take_pool-guest.ensures.pool c.args.ask.client then.0 c.serve-entry.new.pool then.2) }

pub returns-clause-pool : goal.returns-clause-pool
returns-clause-pool g c =
    let a = c.requires.asked in
    let n = c.args.number in
    let came = c.lend_pool-guest.ensures.guest n c.fill.new.pool c.args.ask.client a.0 (c.fill.ensures.pool n c.requires.pool) a.1 in
    let then = c.serve-entry.ensures.guest a.0 n came c.requires.apart in
    c.rest.ensures.pool n (c.take_pool-guest.ensures.pool c.args.ask.client then.0 c.serve-entry.new.pool then.2)

pub returns-clause-client : goal.returns-clause-client
returns-clause-client g c = λ part alone.
    let n = c.args.number in
    let came = c.lend_pool-guest.ensures.guest n c.fill.new.pool c.args.ask.client part (c.fill.ensures.pool n c.requires.pool) alone in
    let then = c.serve-entry.ensures.guest part n came c.requires.apart in
    (then.0, then.1, c.take_pool-guest.ensures.client c.args.ask.client then.0 c.serve-entry.new.pool then.2)

pub returns-clause-done : goal.returns-clause-done
returns-clause-done g c =
    let e = c.serve-entry.ensures in
    let tells = g.T.Turns.tells in
    record {
      found = c.fill.new.pool;
      left = c.serve-entry.new.pool;
      own = c.fill.ensures.own;
      spare = c.fill.ensures.spare;
      rests = c.rest.ensures.rests;
      short = λ none.
          let few = ap (λ (s : BlockSet). set.len s) none ∙ set.len-empty nat_cmp in
          c.fill.ensures.short (omega (arith, few));
      served = e.served;
      conserved = none_lost (tells c.args.door.now) (tells c.fill.new.door) (tells c.fill.new.door) (tells c.rest.new.door) c.args.pool.now c.fill.new.pool c.serve-entry.new.pool c.rest.new.pool c.fill.ensures.telling refl c.fill.ensures.conserved (free_still (tells c.fill.new.door)) c.rest.ensures.conserved
          (left_of c.fill.new.pool c.serve-entry.new.pool (is_excused c.serve-entry.result.entry.reply) e.untaken (λ x. let s = e.served x in s.fewer));
      telling = c.rest.ensures.telling ∙ c.fill.ensures.telling;
      halts = read_rests (tells c.args.door.now) (tells c.rest.new.door) c.serve-entry.result.entry.reply (untold_by c.serve-entry.result.entry.reply e.faultless)
          (rests_twice (tells c.args.door.now) (tells c.fill.new.door) (tells c.rest.new.door) None c.fill.ensures.telling c.fill.ensures.still c.rest.ensures.still);
      calm = e.faultless;
      names = e.names;
      file = e.file;
      made = e.made;
      not_both = e.not_both;
      lives = e.lives;
      next = e.next;
      gone = e.gone;
      cause = e.cause;
      kept = e.kept;
      kept_file = e.kept_file;
      none_made = e.none_made;
      untaken = e.untaken;
      same_desc = e.desc;
      no_desc = e.no_desc;
    }

pub returns-clause-later : goal.returns-clause-later
returns-clause-later g c =
    let a = c.lend_pool-guest.ensures.later in
    let b = c.serve-entry.ensures.later in
    omega (arith, a, b)

pub returns-clause-seen : goal.returns-clause-seen
returns-clause-seen g c =
    let a = c.serve-entry.ensures.seen in
    let b = c.take_pool-guest.ensures.later in
    omega (arith, a, b)

pub returns-clause-telling : goal.returns-clause-telling
returns-clause-telling g c = c.rest.ensures.telling ∙ c.fill.ensures.telling
