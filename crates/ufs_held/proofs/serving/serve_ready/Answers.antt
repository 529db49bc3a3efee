use Rattle.std.proofs.Common.{◌≡◌, ◌++◌, ℕ, List, ap, sym, subst, ◌∙◌}
use Rattle.ufs_file_commits.specs.State.{DurableState, state_of}
use Rattle.ufs_joint.specs.Cells.{FileCell, View, given_of, kept_of}
use Rattle.ufs_joint.specs.Draws.{drawn}
use Rattle.ufs_joint.specs.FileHands.{IsFileHand}
use Rattle.ufs_hand_laws.specs.Parts.{ClientPart}
use Rattle.ufs_model.specs.declared.data.PartName.TheVariants.{File}
use Rattle.ufs_held.specs.Asking.{Asks, IsGuest}
use Rattle.ufs_held.specs.Drawn.{fresh_of, held_leaves}
use Rattle.ufs_held.specs.Held.{IsHeld, first_cell}
use Rattle.ufs_held.proofs.After.{after, answered_then, born_then, came_below, changed_then, first_held, guest_then, held_then, joined_hand, kept_then, known_then, same_part}
use Rattle.ufs_held.proofs.serving.serve_ready.Goals as goal

pub draw_served-entry-requires-clause-hand : goal.draw_served-entry-requires-clause-hand
draw_served-entry-requires-clause-hand g c =
    let f = c.requires.guest in
    let held = c.requires.held in
    let x = state_of c.args.file.now c.args.commits.now in
    let hand = joined_hand c.args.right.now c.args.guest x c.args.ask.client f.0 f.1 c.args.pool.now held f.2 in
    (f.0, held.cell, f.1, subst (λ (v : View). IsFileHand v c.args.ask.client f.0 x.file.file held.cell f.1 c.args.pool.now) (sym c.join.ensures) hand, held.value, f.3)

pub returns-clause-held : goal.returns-clause-held
returns-clause-held g c =
    let f = c.requires.guest in
    let held = c.requires.held in
    let x = state_of c.args.file.now c.args.commits.now in
    let y = state_of c.draw_served-entry.new.file c.draw_served-entry.new.commits in
    let d = c.draw_served-entry.ensures in
    let entry = c.draw_served-entry.result.entry in
    let desc = c.draw_served-entry.result.desc in
    let left = c.draw_served-entry.new.pool in
    let is = d.cells ∙ ap (λ (v : View). drawn entry.ticket (fresh_of entry) (held_leaves (fresh_of entry) v y left desc entry.ticket) v) c.join.ensures in
    let then = held_then c.args.right.now c.args.guest x c.args.ask.client f.0 f.1 c.args.pool.now held f.2 y left entry desc d.entry.client d.number d.kept c.draw_served-entry.new.right is f.4 in
    subst (IsHeld y) (sym (c.replace-guest.ensures.after ∙ c.split-own.ensures.given ∙ ap (λ (m : ℕ). given_of (File m) c.draw_served-entry.new.right) (c.file.ensures ∙ d.number))) then

pub returns-clause-guest : goal.returns-clause-guest
returns-clause-guest g c = λ part n came off.
    let f = c.requires.guest in
    let held = c.requires.held in
    let x = state_of c.args.file.now c.args.commits.now in
    let y = state_of c.draw_served-entry.new.file c.draw_served-entry.new.commits in
    let d = c.draw_served-entry.ensures in
    let entry = c.draw_served-entry.result.entry in
    let desc = c.draw_served-entry.result.desc in
    let left = c.draw_served-entry.new.pool in
    let is = d.cells ∙ ap (λ (v : View). drawn entry.ticket (fresh_of entry) (held_leaves (fresh_of entry) v y left desc entry.ticket) v) c.join.ensures in
    let z = c.draw_served-entry.new.right in
    let asks = subst (λ (p : ClientPart). Asks p c.args.ask) (same_part c.args.ask.client f.0 part f.1 n c.args.pool.now c.args.pool.now c.args.guest f.2 came) f.3 in (
      after c.args.right.now c.args.guest x c.args.ask.client part n c.args.pool.now held came y left entry desc d.entry.client d.number d.kept z is off,
      answered_then c.args.right.now c.args.guest x c.args.ask.client part n c.args.pool.now held came y left entry desc d.entry.client d.number d.kept z is off c.args.ask asks d.entry.asked d.desc,
      subst (IsGuest c.args.ask.client (after c.args.right.now c.args.guest x c.args.ask.client part n c.args.pool.now held came y left entry desc d.entry.client d.number d.kept z is off) n left)
          (sym (c.replace-guest.ensures.value ∙ c.split-own.ensures.kept ∙ ap (λ (m : ℕ). kept_of (File m) z) (c.file.ensures ∙ d.number)))
          (guest_then c.args.right.now c.args.guest x c.args.ask.client part n c.args.pool.now held came y left entry desc d.entry.client d.number d.kept z is off),
    )

pub returns-clause-kept : goal.returns-clause-kept
returns-clause-kept g c = λ excused.
    let f = c.requires.guest in
    let held = c.requires.held in
    let x = state_of c.args.file.now c.args.commits.now in
    let y = state_of c.draw_served-entry.new.file c.draw_served-entry.new.commits in
    let d = c.draw_served-entry.ensures in
    let entry = c.draw_served-entry.result.entry in
    let desc = c.draw_served-entry.result.desc in
    let left = c.draw_served-entry.new.pool in
    let is = d.cells ∙ ap (λ (v : View). drawn entry.ticket (fresh_of entry) (held_leaves (fresh_of entry) v y left desc entry.ticket) v) c.join.ensures in
    let z = c.draw_served-entry.new.right in
    ap (λ (v : View). first_cell y v.files) (c.replace-guest.ensures.after ∙ c.split-own.ensures.given ∙ ap (λ (m : ℕ). given_of (File m) z) (c.file.ensures ∙ d.number))
    ∙ kept_then c.args.right.now c.args.guest x c.args.ask.client f.0 f.1 c.args.pool.now held f.2 y left entry desc d.entry.client d.number d.kept z is f.4 excused
    ∙ sym (first_held x c.args.right.now held)

pub returns-clause-known : goal.returns-clause-known
returns-clause-known g c =
    let f = c.requires.guest in
    let held = c.requires.held in
    let x = state_of c.args.file.now c.args.commits.now in
    let y = state_of c.draw_served-entry.new.file c.draw_served-entry.new.commits in
    let d = c.draw_served-entry.ensures in
    let entry = c.draw_served-entry.result.entry in
    let desc = c.draw_served-entry.result.desc in
    let left = c.draw_served-entry.new.pool in
    let is = d.cells ∙ ap (λ (v : View). drawn entry.ticket (fresh_of entry) (held_leaves (fresh_of entry) v y left desc entry.ticket) v) c.join.ensures in
    let z = c.draw_served-entry.new.right in
    ap (λ (v : View). (first_cell y v.files).known) (c.replace-guest.ensures.after ∙ c.split-own.ensures.given ∙ ap (λ (m : ℕ). given_of (File m) z) (c.file.ensures ∙ d.number))
    ∙ known_then c.args.right.now c.args.guest x c.args.ask.client f.0 f.1 c.args.pool.now held f.2 y left entry desc d.entry.client d.number d.kept z is f.4
    ∙ ap (λ (q : FileCell). q.known) (sym (first_held x c.args.right.now held))

pub returns-clause-born : goal.returns-clause-born
returns-clause-born g c =
    let f = c.requires.guest in
    let held = c.requires.held in
    let x = state_of c.args.file.now c.args.commits.now in
    let y = state_of c.draw_served-entry.new.file c.draw_served-entry.new.commits in
    let d = c.draw_served-entry.ensures in
    let entry = c.draw_served-entry.result.entry in
    let desc = c.draw_served-entry.result.desc in
    let left = c.draw_served-entry.new.pool in
    let is = d.cells ∙ ap (λ (v : View). drawn entry.ticket (fresh_of entry) (held_leaves (fresh_of entry) v y left desc entry.ticket) v) c.join.ensures in
    let z = c.draw_served-entry.new.right in
    ap (λ (v : View). (first_cell y v.files).born) (c.replace-guest.ensures.after ∙ c.split-own.ensures.given ∙ ap (λ (m : ℕ). given_of (File m) z) (c.file.ensures ∙ d.number))
    ∙ born_then c.args.right.now c.args.guest x c.args.ask.client f.0 f.1 c.args.pool.now held f.2 y left entry desc d.entry.client d.number d.kept z is f.4
    ∙ ap (λ (q : FileCell). q.born) (sym (first_held x c.args.right.now held))

pub returns-clause-changed : goal.returns-clause-changed
returns-clause-changed g c served =
    let f = c.requires.guest in
    let held = c.requires.held in
    let x = state_of c.args.file.now c.args.commits.now in
    let y = state_of c.draw_served-entry.new.file c.draw_served-entry.new.commits in
    let d = c.draw_served-entry.ensures in
    let entry = c.draw_served-entry.result.entry in
    let desc = c.draw_served-entry.result.desc in
    let left = c.draw_served-entry.new.pool in
    let is = d.cells ∙ ap (λ (v : View). drawn entry.ticket (fresh_of entry) (held_leaves (fresh_of entry) v y left desc entry.ticket) v) c.join.ensures in
    let z = c.draw_served-entry.new.right in
    ap (λ (v : View). (first_cell y v.files).changed) (c.replace-guest.ensures.after ∙ c.split-own.ensures.given ∙ ap (λ (m : ℕ). given_of (File m) z) (c.file.ensures ∙ d.number))
    ∙ changed_then c.args.right.now c.args.guest x c.args.ask.client f.0 f.1 c.args.pool.now held f.2 y left entry desc d.entry.client d.number d.kept z is f.4 served

pub returns-clause-calm : goal.returns-clause-calm
returns-clause-calm g c = ap (λ (v : View). v.faults) (c.replace-guest.ensures.after ∙ c.split-own.ensures.given)

pub returns-clause-faults : goal.returns-clause-faults
returns-clause-faults g c =
    ap (λ (v : View). v.faults) (c.replace-guest.ensures.value ∙ c.split-own.ensures.kept)
    ∙ c.draw_served-entry.ensures.faults
    ∙ ap (λ (v : View). v.faults) c.join.ensures
    ∙ ap (λ (faults : List ℕ). faults ++ c.args.guest.faults) c.requires.calm

pub returns-clause-later : goal.returns-clause-later
returns-clause-later g c = came_below c.args.right.now c.args.guest c.join.new.self c.draw_served-entry.result.entry.ticket c.join.ensures c.draw_served-entry.ensures.later

pub returns-clause-seen : goal.returns-clause-seen
returns-clause-seen g c = ap (λ (v : View). v.seen) (c.replace-guest.ensures.value ∙ c.split-own.ensures.kept) ∙ ap (λ (v : View). v.seen) c.draw_served-entry.ensures.cells
