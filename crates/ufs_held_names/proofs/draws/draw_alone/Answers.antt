use Rattle.std.proofs.Common.{◌≡◌, ◌+◌, inl, Bool, true, false, cond, is_some, None, Option, ap, sym, refl, subst, ◌∙◌, arith}
use Rattle.std.specs.Prelude.{IsSome}
use Rattle.std.specs.FinMap as map
use Rattle.ufs_file.specs.Hand.{FileState}
use Rattle.ufs_joint.specs.Cells.{View}
use Rattle.ufs_joint.specs.Draws.{MayDraw}
use Rattle.ufs_joint.specs.NamesHands.{NamesRequestsMayDraw}
use Rattle.ufs_model.specs.History.{is_excused, tree_after}
use Rattle.ufs_client.specs.Played.{tells_fault}
use Rattle.ufs_client.proofs.FaultLemmas.{names_faultless, plain_faultless}
use Rattle.ufs_held.specs.Drawn.{fresh_of}
use Rattle.ufs_hand_laws.specs.Draws.{left_faults}
use Rattle.ufs_noted.specs.Noted.{Noted, one_file}
use Rattle.ufs_held_names.specs.Drawn.{names_left, new_cells}
use Rattle.ufs_held_names.proofs.Drawing.{apart_with, asked_of, asked_with, gathered_none, may_excused, may_served, none_some_of, part_of}
use Rattle.ufs_held_names.proofs.Faultless.{calm, no_fault}
use Rattle.ufs_held_names.proofs.Files.{files_none, new_files, new_next, new_once}
use Rattle.ufs_held_names.proofs.Lives.{lives_alone, next_alone}
use Rattle.ufs_held_names.proofs.Untold.{untold}
use Rattle.ufs_held_names.proofs.draws.draw_alone.Goals as goal

by_reply : (b : Bool) (P : Type 0) → (b ≡ false → P) → (b ≡ true → P) → P
by_reply true P served excused = excused refl
by_reply false P served excused = served refl

pub apply_alone-applied-requires-clause-asked : goal.apply_alone-applied-requires-clause-asked
apply_alone-applied-requires-clause-asked g c =
    let h = c.requires.hand in
    let k = g.N.Naming.start in
    let know = c.look.ensures.knows in
    let v = c.args.right.now in
    let x = c.args.noted.now in (
      tree_after know.start know.history,
      asked_with k c.look.result v know h.0 h.1 h.2 c.args.pool.now c.args.ask h.3 x h.5 h.6 map.empty (none_some_of k c.look.result v know h.0 h.1 h.2 c.args.pool.now c.args.ask h.3 x h.5 h.6)
          (gathered_none x.names c.args.ask c.requires.needed (tree_after know.start know.history) (part_of k c.look.result v know h.0 h.1 h.2 c.args.pool.now c.args.ask h.3 x h.5 h.6) (asked_of k c.look.result v know h.0 h.1 h.2 c.args.pool.now c.args.ask h.3 x h.5 h.6)),
    )

pub apply_alone-applied-requires-clause-apart : goal.apply_alone-applied-requires-clause-apart
apply_alone-applied-requires-clause-apart g c =
    let h = c.requires.hand in
    let k = g.N.Naming.start in
    let know = c.look.ensures.knows in
    let v = c.args.right.now in
    let x = c.args.noted.now in
    apart_with k c.look.result v know h.0 h.1 h.2 c.args.pool.now c.args.ask h.3 x h.5 h.6 map.empty (none_some_of k c.look.result v know h.0 h.1 h.2 c.args.pool.now c.args.ask h.3 x h.5 h.6) c.served_names_law.ensures.lends c.lent_law.ensures.apart

pub draw_made-ticket-requires-clause-may : goal.draw_made-ticket-requires-clause-may
draw_made-ticket-requires-clause-may g c ticket =
    let h = c.requires.hand in
    let k = g.N.Naming.start in
    let know = c.look.ensures.knows in
    let v = c.args.right.now in
    let x = c.args.noted.now in
    let e = c.apply_alone-applied.ensures in
    let y = c.apply_alone-applied.new.self in
    let left = c.apply_alone-applied.new.pool in
    let entry = c.apply_alone-applied.result.applied.entry in
    let desc = c.apply_alone-applied.result.applied.desc in
    let made = c.apply_alone-applied.result.file in
    let gathered = gathered_none x.names c.args.ask c.requires.needed in
    let before = files_none v.files h.4 in
    let t = tree_after know.start know.history in
    let part = part_of k c.look.result v know h.0 h.1 h.2 c.args.pool.now c.args.ask h.3 x h.5 h.6 in
    let asked = asked_with k c.look.result v know h.0 h.1 h.2 c.args.pool.now c.args.ask h.3 x h.5 h.6 map.empty (none_some_of k c.look.result v know h.0 h.1 h.2 c.args.pool.now c.args.ask h.3 x h.5 h.6)
    (gathered t part (asked_of k c.look.result v know h.0 h.1 h.2 c.args.pool.now c.args.ask h.3 x h.5 h.6)) in
    subst (λ (q : View). MayDraw k.geometry k.is_visible q (fresh_of entry) (names_left (fresh_of entry) q y left desc (new_cells made) ticket) ticket) (sym c.look.ensures.cells)
    (by_reply (is_excused entry.reply) _
    (λ served.
    may_served k c.look.result v know h.0 h.1 h.2 c.args.pool.now c.args.ask h.3 x h.5 h.6 y left c.args.by entry desc map.empty (one_file x.names.next made) map.empty map.empty None (new_cells made) e.entry gathered before c.requires.server served ticket (e.served served)
    (new_files x.names.next ticket made e.young) (new_once x.names.next ticket made e.young) (new_next v.files h.4 x.names.next ticket made e.young) (subst NamesRequestsMayDraw c.requires.its c.a_names_request_is_drawn.ensures))
    (λ excused.
    may_excused k c.look.result v know h.0 h.1 h.2 c.args.pool.now c.args.ask h.3 x h.5 h.6 y left c.args.by entry desc map.empty (one_file x.names.next made) map.empty map.empty None (new_cells made) e.entry gathered before c.requires.server excused ticket (e.unchanged excused) (e.untaken excused)
    (λ q is fault. let caused = e.cause q is in no_fault x.names t part c.args.ask.client caused.0 c.args.ask.op q (e.fits q is t asked) caused.2 fault) e.fits c.a_names_excuse_is_drawn.ensures))

pub returns-clause-faults : goal.returns-clause-faults
returns-clause-faults g c =
    let h = c.requires.hand in
    let k = g.N.Naming.start in
    let know = c.look.ensures.knows in
    let v = c.args.right.now in
    let x = c.args.noted.now in
    let e = c.apply_alone-applied.ensures in
    let gathered = gathered_none x.names c.args.ask c.requires.needed in
    let t = tree_after know.start know.history in
    let part = part_of k c.look.result v know h.0 h.1 h.2 c.args.pool.now c.args.ask h.3 x h.5 h.6 in
    let asked = asked_with k c.look.result v know h.0 h.1 h.2 c.args.pool.now c.args.ask h.3 x h.5 h.6 map.empty (none_some_of k c.look.result v know h.0 h.1 h.2 c.args.pool.now c.args.ask h.3 x h.5 h.6)
    (gathered t part (asked_of k c.look.result v know h.0 h.1 h.2 c.args.pool.now c.args.ask h.3 x h.5 h.6)) in
    ap (λ (q : View). q.faults) c.draw_made-ticket.ensures.cells
    ∙ ap (λ (q : View). left_faults c.apply_alone-applied.result.applied.entry.reply q.faults) c.look.ensures.cells
    ∙ calm c.apply_alone-applied.result.applied.entry.reply (λ q is fault. let caused = e.cause q is in (no_fault x.names t part c.args.ask.client caused.0 c.args.ask.op q (e.fits q is t asked) caused.2 fault).0) v.faults

pub returns-clause-faultless : goal.returns-clause-faultless
returns-clause-faultless g c =
    let h = c.requires.hand in
    let k = g.N.Naming.start in
    let know = c.look.ensures.knows in
    let v = c.args.right.now in
    let x = c.args.noted.now in
    let e = c.apply_alone-applied.ensures in
    let gathered = gathered_none x.names c.args.ask c.requires.needed in
    let t = tree_after know.start know.history in
    let part = part_of k c.look.result v know h.0 h.1 h.2 c.args.pool.now c.args.ask h.3 x h.5 h.6 in
    let asked = asked_with k c.look.result v know h.0 h.1 h.2 c.args.pool.now c.args.ask h.3 x h.5 h.6 map.empty (none_some_of k c.look.result v know h.0 h.1 h.2 c.args.pool.now c.args.ask h.3 x h.5 h.6)
    (gathered t part (asked_of k c.look.result v know h.0 h.1 h.2 c.args.pool.now c.args.ask h.3 x h.5 h.6)) in
    plain_faultless c.apply_alone-applied.result.applied.entry.reply (λ q is. let caused = e.cause q is in ap tells_fault is ∙ names_faultless x.names t part c.args.ask.client caused.0 c.args.ask.op q (e.fits q is t asked) caused.2)

pub returns-clause-later : goal.returns-clause-later
returns-clause-later g c =
    let a = ap (λ (v : View). v.seen) c.look.ensures.cells in
    let b = c.look.ensures.later in
    let d = c.draw_made-ticket.ensures.later in
    omega (arith, a, b, d)

pub returns-clause-lives : goal.returns-clause-lives
returns-clause-lives g c f live =
    let h = c.requires.hand in
    let k = g.N.Naming.start in
    let know = c.look.ensures.knows in
    let v = c.args.right.now in
    let x = c.args.noted.now in
    let e = c.apply_alone-applied.ensures in
    let entry = c.apply_alone-applied.result.applied.entry in
    let gathered = gathered_none x.names c.args.ask c.requires.needed in
    let t = tree_after know.start know.history in
    let part = part_of k c.look.result v know h.0 h.1 h.2 c.args.pool.now c.args.ask h.3 x h.5 h.6 in
    let asked = asked_with k c.look.result v know h.0 h.1 h.2 c.args.pool.now c.args.ask h.3 x h.5 h.6 map.empty (none_some_of k c.look.result v know h.0 h.1 h.2 c.args.pool.now c.args.ask h.3 x h.5 h.6)
    (gathered t part (asked_of k c.look.result v know h.0 h.1 h.2 c.args.pool.now c.args.ask h.3 x h.5 h.6)) in
    by_reply (is_excused entry.reply) _
    (λ served. lives_alone t c.args.ask x c.apply_alone-applied.new.self c.apply_alone-applied.result.file c.args.pool.now c.apply_alone-applied.new.pool entry.reply c.apply_alone-applied.result.applied.desc asked (e.served served) e.young f live)
    (λ excused. inl (subst (λ (q : Noted). IsSome (map.get q.names.held f)) (e.unchanged excused) live))

pub returns-clause-next : goal.returns-clause-next
returns-clause-next g c =
    let h = c.requires.hand in
    let k = g.N.Naming.start in
    let know = c.look.ensures.knows in
    let v = c.args.right.now in
    let x = c.args.noted.now in
    let e = c.apply_alone-applied.ensures in
    let entry = c.apply_alone-applied.result.applied.entry in
    let gathered = gathered_none x.names c.args.ask c.requires.needed in
    let t = tree_after know.start know.history in
    let part = part_of k c.look.result v know h.0 h.1 h.2 c.args.pool.now c.args.ask h.3 x h.5 h.6 in
    let asked = asked_with k c.look.result v know h.0 h.1 h.2 c.args.pool.now c.args.ask h.3 x h.5 h.6 map.empty (none_some_of k c.look.result v know h.0 h.1 h.2 c.args.pool.now c.args.ask h.3 x h.5 h.6)
    (gathered t part (asked_of k c.look.result v know h.0 h.1 h.2 c.args.pool.now c.args.ask h.3 x h.5 h.6)) in
    by_reply (is_excused entry.reply) _
    (λ served. next_alone t c.args.ask x c.apply_alone-applied.new.self c.apply_alone-applied.result.file c.args.pool.now c.apply_alone-applied.new.pool entry.reply c.apply_alone-applied.result.applied.desc asked (e.served served))
    (λ excused. ap (λ (q : Noted). q.names.next) (e.unchanged excused) ∙ sym (ap (λ (o : Option FileState). cond (is_some o) (x.names.next + 1) x.names.next) (e.none excused)))

pub returns-clause-no_desc : goal.returns-clause-no_desc
returns-clause-no_desc g c =
    let h = c.requires.hand in
    let k = g.N.Naming.start in
    let know = c.look.ensures.knows in
    let v = c.args.right.now in
    let x = c.args.noted.now in
    let e = c.apply_alone-applied.ensures in
    let entry = c.apply_alone-applied.result.applied.entry in
    let gathered = gathered_none x.names c.args.ask c.requires.needed in
    let t = tree_after know.start know.history in
    let part = part_of k c.look.result v know h.0 h.1 h.2 c.args.pool.now c.args.ask h.3 x h.5 h.6 in
    let is = asked_of k c.look.result v know h.0 h.1 h.2 c.args.pool.now c.args.ask h.3 x h.5 h.6 in
    let asked = asked_with k c.look.result v know h.0 h.1 h.2 c.args.pool.now c.args.ask h.3 x h.5 h.6 map.empty (none_some_of k c.look.result v know h.0 h.1 h.2 c.args.pool.now c.args.ask h.3 x h.5 h.6) (gathered t part is) in
    untold t c.args.ask is entry e.entry.asked c.apply_alone-applied.result.applied.desc (λ served. ((e.served served).applied t asked).served.told) e.desc
