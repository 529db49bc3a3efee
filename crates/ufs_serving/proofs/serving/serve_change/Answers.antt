use Rattle.std.proofs.Common.{◌≡◌, ◌≤◌, ◌+◌, ℕ, max, Bool, true, false, List, length, Option, Some, None, ap, arith, refl, sym, subst, ◌∙◌}
use Rattle.std.specs.FinSet as set
use Rattle.ufs_bitmap.specs.Blocks.{BlockSet}
use Rattle.ufs_file_commits.specs.Serving.{IsServedKept}
use Rattle.ufs_file_commits.specs.State.{whole_of}
use Rattle.ufs_file.specs.Content.{IsContentOf, block_count}
use Rattle.ufs_file.specs.Hand.{FileState, IsOf, missing}
use Rattle.ufs_held.specs.Asking.{IsGuest}
use Rattle.ufs_held.specs.Serving.{IsReadFor, read_as}
use Rattle.ufs_held.proofs.Stopping.{reply_within}
use Rattle.ufs_joint.specs.Cells.{FileCell}
use Rattle.ufs_model.specs.FileCalls.{file_refusal, file_step}
use Rattle.ufs_model.specs.History.{is_excused}
use Rattle.ufs_model.specs.declared.data.Ask.{Ask}
use Rattle.ufs_model.specs.declared.data.Desc.{Desc}
use Rattle.ufs_model.specs.declared.data.Entry.{Entry}
use Rattle.ufs_model.specs.declared.data.Excuse.TheVariants as excuse
use Rattle.ufs_model.proofs.Facts.Lookups.{same_some}
use Rattle.ufs_joint.specs.FirstHand.{HasPoolAlone}
use Rattle.ufs_serving.specs.Pools.{IsWithin}
use Rattle.ufs_serving.specs.Serving.{IsServedAt}
use Rattle.ufs_serving.proofs.Conserving.{left_within, none_lost}
use Rattle.ufs_serving.proofs.Lacking.{Measures, own_content, some_desc, too_few}
use Rattle.ufs_serving.proofs.serving.serve_change.Goals as goal

pub fill-requires : goal.fill-requires
fill-requires g c = record { pool = (c.args.number, c.requires.pool) }

pub lend_pool-guest-requires : goal.lend_pool-guest-requires
lend_pool-guest-requires g c =
    let a = c.requires.asked in
    let n = c.args.number in
    record { pool = (n, c.fill.new.pool, c.fill.ensures.pool n c.requires.pool); client = (c.args.ask.client, a.0, a.1) }

pub serve-entry-requires-clause-guest : goal.serve-entry-requires-clause-guest
serve-entry-requires-clause-guest g c =
    let a = c.requires.asked in
    let n = c.args.number in (
      a.0,
      n,
      c.lend_pool-guest.ensures.guest n c.fill.new.pool c.args.ask.client a.0 (c.fill.ensures.pool n c.requires.pool) a.1,
      a.2,
      λ e. c.requires.apart (e ∙ ap (λ (q : FileCell). q.value.file.file) c.measured-held.ensures.same),
    )

pub serve-entry-requires-clause-named : goal.serve-entry-requires-clause-named
serve-entry-requires-clause-named g c = subst (λ (q : FileCell). IsOf c.args.ask.desc q.value.file.file) (sym c.measured-held.ensures.same) c.requires.named

pub take_pool-guest-requires : goal.take_pool-guest-requires
take_pool-guest-requires g c =
    let a = c.requires.asked in
    let n = c.args.number in
    let came = c.lend_pool-guest.ensures.guest n c.fill.new.pool c.args.ask.client a.0 (c.fill.ensures.pool n c.requires.pool) a.1 in
    let then = c.serve-entry.ensures.guest a.0 n came (λ e. c.requires.apart (e ∙ ap (λ (q : FileCell). q.value.file.file) c.measured-held.ensures.same)) in
    record {
      none = c.lend_pool-guest.ensures.none;
      guest = (c.args.ask.client, then.0, c.serve-entry.new.pool, then.2);
    }

pub rest-requires : goal.rest-requires
rest-requires g c =
    let a = c.requires.asked in
    let n = c.args.number in
    let came = c.lend_pool-guest.ensures.guest n c.fill.new.pool c.args.ask.client a.0 (c.fill.ensures.pool n c.requires.pool) a.1 in
    let then = c.serve-entry.ensures.guest a.0 n came (λ e. c.requires.apart (e ∙ ap (λ (q : FileCell). q.value.file.file) c.measured-held.ensures.same)) in
    let back = then.2 in
    record { pool = (c.args.number, c.take_pool-guest.ensures.pool c.args.ask.client then.0 c.serve-entry.new.pool back) }

pub returns-clause-pool : goal.returns-clause-pool
returns-clause-pool g c =
    let a = c.requires.asked in
    let n = c.args.number in
    let came = c.lend_pool-guest.ensures.guest n c.fill.new.pool c.args.ask.client a.0 (c.fill.ensures.pool n c.requires.pool) a.1 in
    let then = c.serve-entry.ensures.guest a.0 n came (λ e. c.requires.apart (e ∙ ap (λ (q : FileCell). q.value.file.file) c.measured-held.ensures.same)) in
    let back = then.2 in
    c.rest.ensures.pool c.args.number (c.take_pool-guest.ensures.pool c.args.ask.client then.0 c.serve-entry.new.pool back)

pub returns-clause-client : goal.returns-clause-client
returns-clause-client g c = λ part alone.
    let n = c.args.number in
    let came = c.lend_pool-guest.ensures.guest n c.fill.new.pool c.args.ask.client part (c.fill.ensures.pool n c.requires.pool) alone in
    let then = c.serve-entry.ensures.guest part n came (λ e. c.requires.apart (e ∙ ap (λ (q : FileCell). q.value.file.file) c.measured-held.ensures.same)) in
    let back = then.2 in
    (then.0, then.1, c.take_pool-guest.ensures.client c.args.ask.client then.0 c.serve-entry.new.pool back)

pub returns-clause-desc : goal.returns-clause-desc
returns-clause-desc g c =
    let e = c.serve-entry.ensures in
    some_desc c.serve-entry.result.desc c.in-Some.desc (is_excused c.serve-entry.result.entry.reply) (λ x. e.desc x ∙ c.in-Some.is) (λ x.
    let s = e.served x c.in-Some.desc c.in-Some.is in
    let at = s.2 s.0.content.bytes (own_content s.0.content) in
    ((file_step s.0.content.bytes c.in-Some.desc c.args.ask.op).desc, at.told))

-- what the request left of the pool was of it
within : (before after : FileCell) (found left : BlockSet) (ask : Ask) (entry : Entry) (desc : Option Desc) (d : Desc) → ask.desc ≡ Some d → (is_excused entry.reply ≡ true → left ≡ found)
    → (is_excused entry.reply ≡ false → (x : Desc) → ask.desc ≡ Some x → (read : FileState) × IsReadFor before.value.file read x ask.op × ((bytes : List ℕ) → IsContentOf read.content bytes
    → IsServedKept (whole_of bytes (read_as read before.value)) (whole_of (file_step bytes x ask.op).bytes after.value) found left x ask.op entry.reply desc)) → IsWithin left found
within before after found left ask entry desc d is excused served = by (is_excused entry.reply) refl
  where
    by : (b : Bool) → is_excused entry.reply ≡ b → IsWithin left found
    by true e q has = sym (ap (λ (s : BlockSet). set.contains s q) (excused e)) ∙ has
    by false e q has =
        let s = served e d is in
        let bytes = s.0.content.bytes in
        let at = s.2 bytes (own_content s.0.content) in
        left_within (whole_of bytes (read_as s.0 before.value)) (whole_of (file_step bytes d ask.op).bytes after.value) found left (block_count (length (file_step bytes d ask.op).bytes)) at.blocks q has

pub returns-clause-done : goal.returns-clause-done
returns-clause-done g c =
    let e = c.serve-entry.ensures in
    let entry = c.serve-entry.result.entry in
    let d = c.in-Some.desc in
    let tells = g.T.Turns.tells in
    let measured = subst (λ (q : FileCell). Measures q.value.file d c.args.ask.op c.measured-held.result.1) (sym c.measured-held.ensures.same) c.measured-held.ensures.wanted in
    subst (λ (q : FileCell). IsServedAt (tells c.args.door.now) (tells c.rest.new.door) q c.serve-entry.new.self c.args.pool.now c.rest.new.pool c.args.ask entry c.serve-entry.result.desc) c.measured-held.ensures.same (record {
      found = c.fill.new.pool;
      left = c.serve-entry.new.pool;
      own = c.fill.ensures.own;
      spare = λ x is allowed.
          let one = same_some d x (sym c.in-Some.is ∙ is) in
          let file = c.measured-held.result.0.value.file in
          let wants : missing file x c.args.ask.op ≡ c.measured-held.result.1 = subst (λ (y : Desc). file_refusal file.content.bytes y c.args.ask.op ≡ None → missing file y c.args.ask.op ≡ c.measured-held.result.1) one (measured file refl refl) allowed in
          subst (λ (n : ℕ). set.len c.fill.new.pool ≤ max (set.len c.args.pool.now) (n + 64)) (sym wants) c.fill.ensures.spare;
      rests = c.rest.ensures.rests;
      conserved = none_lost (tells c.args.door.now) (tells c.fill.new.door) (tells c.serve-entry.new.door) (tells c.rest.new.door) c.args.pool.now c.fill.new.pool c.serve-entry.new.pool c.rest.new.pool c.fill.ensures.telling e.telling c.fill.ensures.conserved e.free c.rest.ensures.conserved
          (within c.measured-held.result.0 c.serve-entry.new.self c.fill.new.pool c.serve-entry.new.pool c.args.ask entry c.serve-entry.result.desc d c.in-Some.is e.untaken e.served);
      halts = reply_within (tells c.args.door.now) (tells c.fill.new.door) (tells c.serve-entry.new.door) (tells c.rest.new.door) entry.reply c.fill.ensures.telling e.telling c.fill.ensures.still e.halts c.rest.ensures.still;
      served = e.served;
      cause = e.excused;
      short = λ need had is. c.fill.ensures.short (too_few c.measured-held.result.0.value.file c.serve-entry.new.self.value.file c.fill.new.pool d c.args.ask.op need had c.measured-held.result.1
          (e.excused (excuse.Blocks need had) is d c.in-Some.is) (e.read (ap is_excused is) d c.in-Some.is) measured);
      read = e.read;
      kept = e.kept;
      untaken = e.untaken;
      same_desc = e.desc;
      changed = e.changed;
      known = e.known;
    })

pub returns-clause-number : goal.returns-clause-number
returns-clause-number g c = c.serve-entry.ensures.number ∙ ap (λ (q : FileCell). q.value.file.file) c.measured-held.ensures.same

pub returns-clause-born : goal.returns-clause-born
returns-clause-born g c = c.serve-entry.ensures.born ∙ ap (λ (q : FileCell). q.born) c.measured-held.ensures.same

pub returns-clause-later : goal.returns-clause-later
returns-clause-later g c =
    let a = c.lend_pool-guest.ensures.later in
    let b = c.serve-entry.ensures.later in
    omega (arith, a, b)

pub returns-clause-seen : goal.returns-clause-seen
returns-clause-seen g c =
    let a = c.serve-entry.ensures.seen in
    let b = c.take_pool-guest.ensures.later in
    omega (arith, a, b)

pub returns-clause-telling : goal.returns-clause-telling
returns-clause-telling g c = c.rest.ensures.telling ∙ c.serve-entry.ensures.telling ∙ c.fill.ensures.telling
