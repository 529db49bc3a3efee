use Rattle.std.proofs.Common.{◌≡◌, ⊎_elim, ◌*◌, ◌/◌, true, take, drop, length, sym, ◌∙◌, ap, arith, rules}
use Rattle.ufs_disk.specs.Disk.{IsImage, bytes_from, seen}
use Rattle.ufs_disk.specs.Bytes.{begun}
use Rattle.ufs_disk.specs.Calls.{after_calls}
use Rattle.ufs_disk.specs.declared.medium.Request.TheVariants.{Read}
use Rattle.ufs_disk.proofs.Flat.{read_flat}
use Rattle.ufs_disk.proofs.Runs.{stays, stays_still}
use Rattle.ufs_disk.proofs.Noted.{after_passed, after_failed, either_of, still_held, still_whole}
use Rattle.ufs_disk.proofs.medium.Medium.read.Goals as goal

pub invariant_of-self : goal.invariant_of-self
invariant_of-self c =
    let m = begun c.args.self.now.first.items in
    let old = c.args.self.now.calls.items in
    let new = c.note.new.calls.items in
    let asked = Read c.args.sector (length c.args.buf.now) in
    let same : after_calls new m ≡ after_calls old m = ⊎_elim (after_passed m old new asked) (after_failed m old new asked _ _ _) (either_of c.note.result _ _ c.note.ensures.ok c.note.ensures.err) in
    record {
      in_range = c.args.self.now.in_range;
      sized = c.args.self.now.sized;
      held = still_held (after_calls old m) (after_calls new m) same _ c.args.self.now.held;
      whole = still_whole (after_calls old m) (after_calls new m) same c.args.self.now.sectors c.args.self.now.whole;
    }

pub returns-in_err-note-clause-crash : goal.returns-in_err-note-clause-crash
returns-in_err-note-clause-crash c =
    let m = begun c.args.self.now.first.items in
    let old = c.args.self.now.calls.items in
    stays true (IsImage (after_calls old m).state) (after_calls old m) (after_calls c.note.new.calls.items m)
    (after_failed m old c.note.new.calls.items (Read c.args.sector (length c.args.buf.now)) _ _ _ c.in_err-note.ensures.err) (λ image left. left)

pub returns-clause-bytes : goal.returns-clause-bytes
returns-clause-bytes c =
    let n = length c.args.buf.now / 512 in
    let whole : length c.args.buf.now ≡ 512 * n = omega (arith, c.requires.whole) in
    let got : c.copy_out.new.buf ≡ take (512 * n) (drop (512 * c.args.sector) c.args.self.now.bytes.items) = search (rules, whole) in
    got ∙ sym (read_flat c.args.self.now.bytes.items n c.args.sector) ∙ ap (λ st. bytes_from (seen st) c.args.sector n) c.args.self.now.held

pub returns-clause-crash : goal.returns-clause-crash
returns-clause-crash c =
    let m = begun c.args.self.now.first.items in
    let old = c.args.self.now.calls.items in
    stays true (IsImage (after_calls old m).state) (after_calls old m) (after_calls c.note.new.calls.items m)
    (after_passed m old c.note.new.calls.items (Read c.args.sector (length c.args.buf.now)) c.in_ok-note.ensures.ok) (λ image left. left)

pub returns-in_err-note-clause-same : goal.returns-in_err-note-clause-same
returns-in_err-note-clause-same c =
    after_failed (begun c.args.self.now.first.items) c.args.self.now.calls.items c.note.new.calls.items (Read c.args.sector (length c.args.buf.now)) _ _ _ c.in_err-note.ensures.err

pub returns-clause-same : goal.returns-clause-same
returns-clause-same c =
    after_passed (begun c.args.self.now.first.items) c.args.self.now.calls.items c.note.new.calls.items (Read c.args.sector (length c.args.buf.now)) c.in_ok-note.ensures.ok

pub returns-in_err-note-clause-still : goal.returns-in_err-note-clause-still
returns-in_err-note-clause-still c =
    let m = begun c.args.self.now.first.items in
    let old = c.args.self.now.calls.items in
    stays_still true (after_calls old m) (after_calls c.note.new.calls.items m)
    (after_failed m old c.note.new.calls.items (Read c.args.sector (length c.args.buf.now)) _ _ _ c.in_err-note.ensures.err)

pub returns-clause-still : goal.returns-clause-still
returns-clause-still c =
    let m = begun c.args.self.now.first.items in
    let old = c.args.self.now.calls.items in
    stays_still true (after_calls old m) (after_calls c.note.new.calls.items m)
    (after_passed m old c.note.new.calls.items (Read c.args.sector (length c.args.buf.now)) c.in_ok-note.ensures.ok)
