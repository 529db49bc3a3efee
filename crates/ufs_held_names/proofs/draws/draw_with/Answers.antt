use Rattle.std.proofs.Common.{◌≡◌, ℕ, inl, Bool, true, false, Some, ap, sym, refl, subst, ◌∙◌, arith}
use Rattle.std.specs.Prelude.{IsSome}
use Rattle.std.specs.FinMap as map
use Rattle.ufs_joint.specs.Cells.{FileCell, View}
use Rattle.ufs_joint.specs.Draws.{MayDraw}
use Rattle.ufs_joint.specs.NamesHands.{AreFilesOfCells, AreNumberedOnce, IsNextCell, NamesRequestsMayDraw}
use Rattle.ufs_model.specs.History.{is_excused, tree_after}
use Rattle.ufs_client.specs.Played.{tells_fault}
use Rattle.ufs_client.proofs.FaultLemmas.{names_faultless, plain_faultless}
use Rattle.ufs_held.specs.Drawn.{fresh_of}
use Rattle.ufs_crash_laws.specs.Changes.{asks_commit}
use Rattle.ufs_hand_laws.specs.Draws.{left_faults}
use Rattle.ufs_file_commits.specs.State.{DurableState, IsNoted}
use Rattle.ufs_turns.proofs.Syncing.{file_sound}
use Rattle.ufs_hand_laws.specs.Owned.{Has}
use Rattle.ufs_noted.specs.Known.{commits_in, file_in}
use Rattle.ufs_noted.specs.Noted.{Noted, one_file, one_known}
use Rattle.ufs_held_names.specs.Drawn.{names_left, next_cells}
use Rattle.ufs_held_names.proofs.Drawing.{apart_with, asked_of, asked_with, gathered_one, may_excused, may_served, one_some_of, part_of, touched_one}
use Rattle.ufs_held_names.proofs.Faultless.{calm, no_fault}
use Rattle.ufs_held_names.proofs.Files.{files_one, next_files, next_next, next_once}
use Rattle.ufs_held_names.proofs.Lives.{gone_with, lives_with, next_with}
use Rattle.ufs_held_names.proofs.Untold.{untold}
use Rattle.ufs_held_names.proofs.draws.draw_with.Goals as goal

by_reply : (b : Bool) (P : Type 0) → (b ≡ false → P) → (b ≡ true → P) → P
by_reply true P served excused = excused refl
by_reply false P served excused = served refl

pub apply_with-applied-requires-clause-asked : goal.apply_with-applied-requires-clause-asked
apply_with-applied-requires-clause-asked g c =
    let h = c.requires.hand in
    let k = g.N.Naming.start in
    let know = c.look.ensures.knows in
    let v = c.args.right.now in
    let x = c.args.noted.now in
    let file = c.args.file in (
      tree_after know.start know.history,
      asked_with k c.look.result v know h.0 h.1 h.2 c.args.pool.now c.args.ask h.4 x h.7 h.8 (one_file file.hand.file (Some file.hand)) (one_some_of k c.look.result v know h.0 h.1 h.2 c.args.pool.now c.args.ask h.4 x h.7 h.8 file.hand.file file.hand h.3 h.5 (ap (λ (q : DurableState). q.file) h.6))
          (gathered_one x.names c.args.ask file.hand.file file.hand c.requires.needed (tree_after know.start know.history) (part_of k c.look.result v know h.0 h.1 h.2 c.args.pool.now c.args.ask h.4 x h.7 h.8) (asked_of k c.look.result v know h.0 h.1 h.2 c.args.pool.now c.args.ask h.4 x h.7 h.8)),
    )

pub apply_with-applied-requires-clause-one : goal.apply_with-applied-requires-clause-one
apply_with-applied-requires-clause-one g c is = (let clash : true ≡ false = sym (ap asks_commit is) ∙ c.requires.hand.8.no_commit in cc)

pub apply_with-applied-requires-clause-apart : goal.apply_with-applied-requires-clause-apart
apply_with-applied-requires-clause-apart g c =
    let h = c.requires.hand in
    let k = g.N.Naming.start in
    let know = c.look.ensures.knows in
    let v = c.args.right.now in
    let x = c.args.noted.now in
    let file = c.args.file in
    apart_with k c.look.result v know h.0 h.1 h.2 c.args.pool.now c.args.ask h.4 x h.7 h.8 (one_file file.hand.file (Some file.hand)) (one_some_of k c.look.result v know h.0 h.1 h.2 c.args.pool.now c.args.ask h.4 x h.7 h.8 file.hand.file file.hand h.3 h.5 (ap (λ (q : DurableState). q.file) h.6)) c.served_names_law.ensures.lends c.lent_law.ensures.apart

pub apply_with-applied-requires-clause-noted : goal.apply_with-applied-requires-clause-noted
apply_with-applied-requires-clause-noted g c =
    let h = c.requires.hand in
    let file = c.args.file in
    subst IsNoted h.6 (file_sound g.N.Naming.start c.look.result c.args.right.now c.look.ensures.knows file.hand.file h.3 (subst (Has (file.hand.file, h.3)) (sym h.5) (inl refl)) (ap (λ (q : DurableState). q.file.file) h.6)).noted

pub apply_with-applied-requires-clause-touched : goal.apply_with-applied-requires-clause-touched
apply_with-applied-requires-clause-touched g c t asked = touched_one c.args.noted.now.names c.args.ask c.args.file.hand.file c.requires.needed t asked.part asked.asked

pub draw_kept_file-ticket-requires-clause-may : goal.draw_kept_file-ticket-requires-clause-may
draw_kept_file-ticket-requires-clause-may g c ticket =
    let h = c.requires.hand in
    let k = g.N.Naming.start in
    let know = c.look.ensures.knows in
    let v = c.args.right.now in
    let x = c.args.noted.now in
    let file = c.args.file in
    let e = c.apply_with-applied.ensures in
    let y = c.apply_with-applied.new.self in
    let left = c.apply_with-applied.new.pool in
    let entry = c.apply_with-applied.result.applied.entry in
    let desc = c.apply_with-applied.result.applied.desc in
    let kept = c.apply_with-applied.result.file in
    let gathered = gathered_one x.names c.args.ask file.hand.file file.hand c.requires.needed in
    let before = files_one file.hand.file h.3 file.hand file.commits refl h.6 v.files h.5 in
    let t = tree_after know.start know.history in
    let part = part_of k c.look.result v know h.0 h.1 h.2 c.args.pool.now c.args.ask h.4 x h.7 h.8 in
    let asked = asked_with k c.look.result v know h.0 h.1 h.2 c.args.pool.now c.args.ask h.4 x h.7 h.8 (one_file file.hand.file (Some file.hand)) (one_some_of k c.look.result v know h.0 h.1 h.2 c.args.pool.now c.args.ask h.4 x h.7 h.8 file.hand.file file.hand h.3 h.5 (ap (λ (q : DurableState). q.file) h.6))
    (gathered t part (asked_of k c.look.result v know h.0 h.1 h.2 c.args.pool.now c.args.ask h.4 x h.7 h.8)) in
    subst (λ (q : View). MayDraw k.geometry k.is_visible q (fresh_of entry) (names_left (fresh_of entry) q y left desc (next_cells kept q.files) ticket) ticket) (sym c.look.ensures.cells)
    (by_reply (is_excused entry.reply) _
    (λ served.
    may_served k c.look.result v know h.0 h.1 h.2 c.args.pool.now c.args.ask h.4 x h.7 h.8 y left c.args.by entry desc (one_file file.hand.file (Some file.hand)) (one_file file.hand.file (file_in kept)) (one_known file.hand.file (Some file.commits)) (one_known file.hand.file (commits_in kept)) (Some file.hand.file) (next_cells kept v.files) e.entry gathered before c.requires.server served ticket (e.served served)
    (subst (λ cs. AreFilesOfCells (next_cells kept cs ticket) (one_file file.hand.file (file_in kept)) (one_known file.hand.file (commits_in kept))) (sym h.5) (next_files file.hand.file ticket h.3 kept e.number)) (subst (λ cs. AreNumberedOnce (next_cells kept cs ticket)) (sym h.5) (next_once file.hand.file ticket h.3 kept e.number)) (subst (λ cs. (f : ℕ) (q : FileCell) → Has (f, q) (next_cells kept cs ticket) → IsNextCell v.files x.names.next ticket (Some file.hand.file) f q) (sym h.5) (next_next v.files file.hand.file ticket h.3 h.5 x.names.next kept)) (subst NamesRequestsMayDraw c.requires.its c.a_names_request_is_drawn.ensures))
    (λ excused.
    may_excused k c.look.result v know h.0 h.1 h.2 c.args.pool.now c.args.ask h.4 x h.7 h.8 y left c.args.by entry desc (one_file file.hand.file (Some file.hand)) (one_file file.hand.file (file_in kept)) (one_known file.hand.file (Some file.commits)) (one_known file.hand.file (commits_in kept)) (Some file.hand.file) (next_cells kept v.files) e.entry gathered before c.requires.server excused ticket (e.unchanged excused) (e.untaken excused)
    (λ q is fault. let caused = e.cause q is in no_fault x.names t part c.args.ask.client caused.0 c.args.ask.op q (e.fits q is t asked) caused.2 fault) e.fits c.a_names_excuse_is_drawn.ensures))

pub returns-clause-faults : goal.returns-clause-faults
returns-clause-faults g c =
    let h = c.requires.hand in
    let k = g.N.Naming.start in
    let know = c.look.ensures.knows in
    let v = c.args.right.now in
    let x = c.args.noted.now in
    let file = c.args.file in
    let e = c.apply_with-applied.ensures in
    let gathered = gathered_one x.names c.args.ask file.hand.file file.hand c.requires.needed in
    let t = tree_after know.start know.history in
    let part = part_of k c.look.result v know h.0 h.1 h.2 c.args.pool.now c.args.ask h.4 x h.7 h.8 in
    let asked = asked_with k c.look.result v know h.0 h.1 h.2 c.args.pool.now c.args.ask h.4 x h.7 h.8 (one_file file.hand.file (Some file.hand)) (one_some_of k c.look.result v know h.0 h.1 h.2 c.args.pool.now c.args.ask h.4 x h.7 h.8 file.hand.file file.hand h.3 h.5 (ap (λ (q : DurableState). q.file) h.6))
    (gathered t part (asked_of k c.look.result v know h.0 h.1 h.2 c.args.pool.now c.args.ask h.4 x h.7 h.8)) in
    ap (λ (q : View). q.faults) c.draw_kept_file-ticket.ensures.cells
    ∙ ap (λ (q : View). left_faults c.apply_with-applied.result.applied.entry.reply q.faults) c.look.ensures.cells
    ∙ calm c.apply_with-applied.result.applied.entry.reply (λ q is fault. let caused = e.cause q is in (no_fault x.names t part c.args.ask.client caused.0 c.args.ask.op q (e.fits q is t asked) caused.2 fault).0) v.faults

pub returns-clause-faultless : goal.returns-clause-faultless
returns-clause-faultless g c =
    let h = c.requires.hand in
    let k = g.N.Naming.start in
    let know = c.look.ensures.knows in
    let v = c.args.right.now in
    let x = c.args.noted.now in
    let file = c.args.file in
    let e = c.apply_with-applied.ensures in
    let gathered = gathered_one x.names c.args.ask file.hand.file file.hand c.requires.needed in
    let t = tree_after know.start know.history in
    let part = part_of k c.look.result v know h.0 h.1 h.2 c.args.pool.now c.args.ask h.4 x h.7 h.8 in
    let asked = asked_with k c.look.result v know h.0 h.1 h.2 c.args.pool.now c.args.ask h.4 x h.7 h.8 (one_file file.hand.file (Some file.hand)) (one_some_of k c.look.result v know h.0 h.1 h.2 c.args.pool.now c.args.ask h.4 x h.7 h.8 file.hand.file file.hand h.3 h.5 (ap (λ (q : DurableState). q.file) h.6))
    (gathered t part (asked_of k c.look.result v know h.0 h.1 h.2 c.args.pool.now c.args.ask h.4 x h.7 h.8)) in
    plain_faultless c.apply_with-applied.result.applied.entry.reply (λ q is. let caused = e.cause q is in ap tells_fault is ∙ names_faultless x.names t part c.args.ask.client caused.0 c.args.ask.op q (e.fits q is t asked) caused.2)

pub returns-clause-later : goal.returns-clause-later
returns-clause-later g c =
    let a = ap (λ (v : View). v.seen) c.look.ensures.cells in
    let b = c.look.ensures.later in
    let d = c.draw_kept_file-ticket.ensures.later in
    omega (arith, a, b, d)

pub returns-clause-lives : goal.returns-clause-lives
returns-clause-lives g c f live =
    let h = c.requires.hand in
    let k = g.N.Naming.start in
    let know = c.look.ensures.knows in
    let v = c.args.right.now in
    let x = c.args.noted.now in
    let file = c.args.file in
    let e = c.apply_with-applied.ensures in
    let entry = c.apply_with-applied.result.applied.entry in
    let gathered = gathered_one x.names c.args.ask file.hand.file file.hand c.requires.needed in
    let kept = c.apply_with-applied.result.file in
    let t = tree_after know.start know.history in
    let part = part_of k c.look.result v know h.0 h.1 h.2 c.args.pool.now c.args.ask h.4 x h.7 h.8 in
    let asked = asked_with k c.look.result v know h.0 h.1 h.2 c.args.pool.now c.args.ask h.4 x h.7 h.8 (one_file file.hand.file (Some file.hand)) (one_some_of k c.look.result v know h.0 h.1 h.2 c.args.pool.now c.args.ask h.4 x h.7 h.8 file.hand.file file.hand h.3 h.5 (ap (λ (q : DurableState). q.file) h.6))
    (gathered t part (asked_of k c.look.result v know h.0 h.1 h.2 c.args.pool.now c.args.ask h.4 x h.7 h.8)) in
    by_reply (is_excused entry.reply) _
    (λ served. lives_with t c.args.ask x c.apply_with-applied.new.self file kept (one_known file.hand.file (Some file.commits)) (one_known file.hand.file (commits_in kept)) c.args.pool.now c.apply_with-applied.new.pool entry.reply c.apply_with-applied.result.applied.desc asked (e.served served) f live)
    (λ excused. subst (λ (q : Noted). IsSome (map.get q.names.held f)) (e.unchanged excused) live)

pub returns-clause-gone : goal.returns-clause-gone
returns-clause-gone g c served none =
    let h = c.requires.hand in
    let k = g.N.Naming.start in
    let know = c.look.ensures.knows in
    let v = c.args.right.now in
    let x = c.args.noted.now in
    let file = c.args.file in
    let e = c.apply_with-applied.ensures in
    let entry = c.apply_with-applied.result.applied.entry in
    let gathered = gathered_one x.names c.args.ask file.hand.file file.hand c.requires.needed in
    let kept = c.apply_with-applied.result.file in
    let t = tree_after know.start know.history in
    let part = part_of k c.look.result v know h.0 h.1 h.2 c.args.pool.now c.args.ask h.4 x h.7 h.8 in
    let asked = asked_with k c.look.result v know h.0 h.1 h.2 c.args.pool.now c.args.ask h.4 x h.7 h.8 (one_file file.hand.file (Some file.hand)) (one_some_of k c.look.result v know h.0 h.1 h.2 c.args.pool.now c.args.ask h.4 x h.7 h.8 file.hand.file file.hand h.3 h.5 (ap (λ (q : DurableState). q.file) h.6))
    (gathered t part (asked_of k c.look.result v know h.0 h.1 h.2 c.args.pool.now c.args.ask h.4 x h.7 h.8)) in
    gone_with t c.args.ask x c.apply_with-applied.new.self file kept (one_known file.hand.file (Some file.commits)) (one_known file.hand.file (commits_in kept)) c.args.pool.now c.apply_with-applied.new.pool entry.reply c.apply_with-applied.result.applied.desc asked (e.served served) none

pub returns-clause-next : goal.returns-clause-next
returns-clause-next g c =
    let h = c.requires.hand in
    let k = g.N.Naming.start in
    let know = c.look.ensures.knows in
    let v = c.args.right.now in
    let x = c.args.noted.now in
    let file = c.args.file in
    let e = c.apply_with-applied.ensures in
    let entry = c.apply_with-applied.result.applied.entry in
    let gathered = gathered_one x.names c.args.ask file.hand.file file.hand c.requires.needed in
    let kept = c.apply_with-applied.result.file in
    let t = tree_after know.start know.history in
    let part = part_of k c.look.result v know h.0 h.1 h.2 c.args.pool.now c.args.ask h.4 x h.7 h.8 in
    let asked = asked_with k c.look.result v know h.0 h.1 h.2 c.args.pool.now c.args.ask h.4 x h.7 h.8 (one_file file.hand.file (Some file.hand)) (one_some_of k c.look.result v know h.0 h.1 h.2 c.args.pool.now c.args.ask h.4 x h.7 h.8 file.hand.file file.hand h.3 h.5 (ap (λ (q : DurableState). q.file) h.6))
    (gathered t part (asked_of k c.look.result v know h.0 h.1 h.2 c.args.pool.now c.args.ask h.4 x h.7 h.8)) in
    by_reply (is_excused entry.reply) _
    (λ served. next_with t c.args.ask x c.apply_with-applied.new.self file kept (one_known file.hand.file (Some file.commits)) (one_known file.hand.file (commits_in kept)) c.args.pool.now c.apply_with-applied.new.pool entry.reply c.apply_with-applied.result.applied.desc asked (e.served served))
    (λ excused. ap (λ (q : Noted). q.names.next) (e.unchanged excused))

pub returns-clause-no_desc : goal.returns-clause-no_desc
returns-clause-no_desc g c =
    let h = c.requires.hand in
    let k = g.N.Naming.start in
    let know = c.look.ensures.knows in
    let v = c.args.right.now in
    let x = c.args.noted.now in
    let file = c.args.file in
    let e = c.apply_with-applied.ensures in
    let entry = c.apply_with-applied.result.applied.entry in
    let gathered = gathered_one x.names c.args.ask file.hand.file file.hand c.requires.needed in
    let t = tree_after know.start know.history in
    let part = part_of k c.look.result v know h.0 h.1 h.2 c.args.pool.now c.args.ask h.4 x h.7 h.8 in
    let is = asked_of k c.look.result v know h.0 h.1 h.2 c.args.pool.now c.args.ask h.4 x h.7 h.8 in
    let asked = asked_with k c.look.result v know h.0 h.1 h.2 c.args.pool.now c.args.ask h.4 x h.7 h.8 (one_file file.hand.file (Some file.hand)) (one_some_of k c.look.result v know h.0 h.1 h.2 c.args.pool.now c.args.ask h.4 x h.7 h.8 file.hand.file file.hand h.3 h.5 (ap (λ (q : DurableState). q.file) h.6)) (gathered t part is) in
    untold t c.args.ask is entry e.entry.asked c.apply_with-applied.result.applied.desc (λ served. ((e.served served).applied t asked).served.told) e.desc
