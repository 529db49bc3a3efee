use Rattle.std.proofs.Common.{◌≡◌, ◌≤◌, ap, sym, subst, ◌∙◌, arith}
use Rattle.ufs_file_commits.specs.Serving.{IsApplied}
use Rattle.ufs_file_commits.specs.State.{state_of}
use Rattle.ufs_joint.specs.Cells.{View}
use Rattle.ufs_joint.specs.Draws.{MayDraw}
use Rattle.ufs_held.specs.Drawn.{fresh_of, held_leaves}
use Rattle.ufs_hand_laws.specs.Draws.{left_faults}
use Rattle.ufs_held.proofs.Drawing.{apart, calm, may_draw, noted}
use Rattle.ufs_held.proofs.draws.draw_served.Goals as goal

pub apply-entry-requires-clause-noted : goal.apply-entry-requires-clause-noted
apply-entry-requires-clause-noted g c =
    let h = c.requires.hand in
    noted g.N.Naming.start c.look.result c.args.right.now c.look.ensures.knows h.0 h.1 h.2 (state_of c.args.file.now c.args.commits.now) c.args.pool.now c.args.ask h.3 h.4 h.5

pub apply-entry-requires-clause-apart : goal.apply-entry-requires-clause-apart
apply-entry-requires-clause-apart g c =
    let h = c.requires.hand in
    apart g.N.Naming.start c.look.result c.args.right.now c.look.ensures.knows h.0 h.1 h.2 (state_of c.args.file.now c.args.commits.now) c.args.pool.now c.args.ask h.3 h.4 h.5

pub draw_entry-ticket-requires-clause-may : goal.draw_entry-ticket-requires-clause-may
draw_entry-ticket-requires-clause-may g c n =
    let h = c.requires.hand in
    let e = c.apply-entry.ensures in
    let entry = c.apply-entry.result.entry in
    let desc = c.apply-entry.result.desc in
    let left = c.apply-entry.new.pool in
    let x = state_of c.args.file.now c.args.commits.now in
    let y = state_of c.apply-entry.new.hand c.apply-entry.new.commits in
    let applied : IsApplied x y c.args.pool.now left c.args.ask c.args.by 0 entry desc = record {
      of_ask = e.entry;
      served = e.served;
      goes_on = e.goes_on;
      excused = e.excused;
      posix = e.posix;
      fits = e.fits;
      few = e.few;
      marks = e.noted.marks;
      held = e.noted.held;
      written = e.noted.written;
      away = e.away;
      kept = e.kept;
      pool = e.pool;
      same_desc = e.desc;
    } in
    subst (λ (v : View). MayDraw g.N.Naming.start.geometry g.N.Naming.start.is_visible v (fresh_of entry) (held_leaves (fresh_of entry) v y left desc n) n) (sym c.look.ensures.cells)
    (may_draw g.N.Naming.start c.look.result c.args.right.now c.look.ensures.knows h.0 h.1 h.2 x c.args.pool.now c.args.ask h.3 h.4 h.5 y left c.args.by entry desc applied e.number e.taken c.requires.no_commit c.requires.named c.requires.server c.a_file_request_is_drawn.ensures c.an_excuse_is_drawn.ensures n)

pub returns-clause-faults : goal.returns-clause-faults
returns-clause-faults g c =
    let h = c.requires.hand in
    let e = c.apply-entry.ensures in
    let entry = c.apply-entry.result.entry in
    let desc = c.apply-entry.result.desc in
    let left = c.apply-entry.new.pool in
    let x = state_of c.args.file.now c.args.commits.now in
    let y = state_of c.apply-entry.new.hand c.apply-entry.new.commits in
    let applied : IsApplied x y c.args.pool.now left c.args.ask c.args.by 0 entry desc = record {
      of_ask = e.entry;
      served = e.served;
      goes_on = e.goes_on;
      excused = e.excused;
      posix = e.posix;
      fits = e.fits;
      few = e.few;
      marks = e.noted.marks;
      held = e.noted.held;
      written = e.noted.written;
      away = e.away;
      kept = e.kept;
      pool = e.pool;
      same_desc = e.desc;
    } in
    ap (λ (v : View). v.faults) c.draw_entry-ticket.ensures.cells
    ∙ ap (λ (v : View). left_faults entry.reply v.faults) c.look.ensures.cells
    ∙ calm g.N.Naming.start c.look.result c.args.right.now c.look.ensures.knows h.0 h.1 h.2 x c.args.pool.now c.args.ask h.3 h.4 h.5 y left c.args.by entry desc applied e.number e.taken c.requires.no_commit c.requires.named c.requires.server c.args.right.now.faults

pub returns-clause-later : goal.returns-clause-later
returns-clause-later g c =
    let a = ap (λ (v : View). v.seen) c.look.ensures.cells in
    let b = c.look.ensures.later in
    let d = c.draw_entry-ticket.ensures.later in
    omega (arith, a, b, d)
