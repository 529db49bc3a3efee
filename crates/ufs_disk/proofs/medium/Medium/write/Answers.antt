use Rattle.std.proofs.Common.{◌≡◌, ◌∷◌, [], ◌++◌, ◌+◌, ◌≤◌, ℕ, List, ◌*◌, ◌/◌, true, take, drop, sym, ◌∙◌, ap, subst, length, arith, rules}
use Rattle.ufs_disk.specs.Disk.{IsMixedFrom, sectors_of}
use Rattle.ufs_disk.specs.Moments.{Moments, LeavesOnly, reads}
use Rattle.ufs_base.specs.Images.{IsBytes}
use Rattle.ufs_disk.specs.Bytes.{begun}
use Rattle.ufs_disk.specs.Calls.{after_calls, written}
use Rattle.ufs_disk.specs.Pending.{held_state}
use Rattle.ufs_disk.specs.Whole.{pieces_whole}
use Rattle.ufs_disk.specs.declared.medium.Request.TheVariants.{Write}
use Rattle.ufs_disk.proofs.Images.{unmixed, mixes_all}
use Rattle.ufs_disk.proofs.Flat.{length-pieces}
use Rattle.ufs_disk.proofs.Runs.{started, stays}
use Rattle.ufs_disk.proofs.Written.{written_leaves, reads_written}
use Rattle.ufs_disk.proofs.Kept.{written_whole}
use Rattle.ufs_disk.proofs.Held.{held_written}
use Rattle.ufs_disk.proofs.Noted.{on_err, after_passed, after_failed, still_held, still_whole}
use Rattle.ufs_disk.proofs.medium.Medium.write.Goals as goal

pub returns-in_default-clause-crash : goal.returns-in_default-clause-crash
returns-in_default-clause-crash c = started true _ _ (unmixed c.args.sector (sectors_of c.args.bytes.now) _)

pub returns-in_default-copy_of-clause-crash : goal.returns-in_default-copy_of-clause-crash
returns-in_default-copy_of-clause-crash c = started true _ _ (unmixed c.args.sector (sectors_of c.args.bytes.now) _)

pub returns-then-is_err-clause-crash : goal.returns-then-is_err-clause-crash
returns-then-is_err-clause-crash c = started true _ _ (unmixed c.args.sector (sectors_of c.args.bytes.now) _)

pub invariant_of-self-in-Break-1 : goal.invariant_of-self-in-Break-1
invariant_of-self-in-Break-1 c =
    let m = begun c.args.self.now.first.items in
    let old = c.args.self.now.calls.items in
    let new = c.note.new.calls.items in
    let same = after_failed m old new (Write c.args.sector c.in-Ok.copy) _ _ _ c.in_err-note.ensures.err in
    record {
      in_range = c.args.self.now.in_range;
      sized = c.args.self.now.sized;
      held = still_held (after_calls old m) (after_calls new m) same _ (ap (held_state c.args.self.now.bytes.items) c.reserve.ensures.items ∙ c.args.self.now.held);
      whole = still_whole (after_calls old m) (after_calls new m) same c.args.self.now.sectors c.args.self.now.whole;
    }

pub returns-in_err-note-clause-crash : goal.returns-in_err-note-clause-crash
returns-in_err-note-clause-crash c =
    let m = begun c.args.self.now.first.items in
    let old = c.args.self.now.calls.items in
    stays true (IsMixedFrom c.args.sector (sectors_of c.args.bytes.now) (after_calls old m).state) (after_calls old m) (after_calls c.note.new.calls.items m)
    (after_failed m old c.note.new.calls.items (Write c.args.sector c.in-Ok.copy) _ _ _ c.in_err-note.ensures.err) (unmixed c.args.sector (sectors_of c.args.bytes.now) _)

-- the call passed, with these bytes
after_write : (m : Moments) (now : Moments) (copy bytes : List ℕ) (sector : ℕ) → now ≡ written sector (sectors_of copy) m → copy ≡ bytes → now ≡ written sector (sectors_of bytes) m
after_write m now copy bytes sector is same = is ∙ ap (λ (b : List ℕ). written sector (sectors_of b) m) same

pub invariant_of-self-2 : goal.invariant_of-self-2
invariant_of-self-2 c =
    let m = begun c.args.self.now.first.items in
    let old = c.args.self.now.calls.items in
    let new = c.note.new.calls.items in
    let s = c.args.sector in
    let bytes = c.args.bytes.now in
    let n = length bytes / 512 in
    let copied : c.in-Ok.copy.items ≡ bytes = search rules in
    let was : c.in-Ok-copy_of.was.items ≡ take (length bytes) (drop (512 * s) c.args.self.now.bytes.items) = search rules in
    let whole : length bytes ≡ 512 * n = omega (arith, c.requires.whole) in
    let fits : 512 * s + length bytes ≤ length c.args.self.now.bytes.items = omega (arith, c.args.self.now.sized, c.requires.inside) in
    let is : after_calls new m ≡ written s (sectors_of bytes) (after_calls old m) =
    after_write (after_calls old m) (after_calls new m) c.in-Ok.copy.items bytes s (after_passed m old new (Write s c.in-Ok.copy) c.in_ok-note.ensures.ok) copied in
    let covered : c.cover.new.covered.items ≡ c.args.self.now.covered.items ++ record { sector = s; bytes = c.in-Ok-copy_of.was } ∷ [] =
    c.cover.ensures ∙ ap (λ l. l ++ record { sector = s; bytes = c.in-Ok-copy_of.was } ∷ []) c.reserve.ensures.items in
    let small : IsBytes bytes = λ k. search (rules, c.type_inv.bytes k) in
    record {
      in_range = c.args.self.now.in_range;
      sized = c.overwrite.ensures.len ∙ c.args.self.now.sized;
      held = still_held (written s (sectors_of bytes) (after_calls old m)) (after_calls new m) is _
          ((λ i. held_state (c.overwrite.ensures.bytes i) (covered i))
          ∙ held_written c.args.self.now.bytes.items bytes c.args.self.now.covered.items (record { sector = s; bytes = c.in-Ok-copy_of.was }) n (after_calls old m) whole fits was c.args.self.now.held);
      whole = still_whole (written s (sectors_of bytes) (after_calls old m)) (after_calls new m) is c.args.self.now.sectors
          (written_whole (sectors_of bytes) c.args.self.now.sectors s (after_calls old m) (omega (arith, length-pieces n bytes, c.requires.inside)) (pieces_whole n bytes small whole) c.args.self.now.whole);
    }

pub returns-clause-ok : goal.returns-clause-ok
returns-clause-ok c =
    let m = begun c.args.self.now.first.items in
    let old = c.args.self.now.calls.items in
    let new = c.note.new.calls.items in
    let copied : c.in-Ok.copy.items ≡ c.args.bytes.now = search rules in
    let is = after_write (after_calls old m) (after_calls new m) c.in-Ok.copy.items c.args.bytes.now c.args.sector (after_passed m old new (Write c.args.sector c.in-Ok.copy) c.in_ok-note.ensures.ok) copied in
    ap reads is ∙ reads_written (sectors_of c.args.bytes.now) c.args.sector (after_calls old m)

pub returns-clause-crash : goal.returns-clause-crash
returns-clause-crash c =
    let m = begun c.args.self.now.first.items in
    let old = c.args.self.now.calls.items in
    let new = c.note.new.calls.items in
    let ps = sectors_of c.args.bytes.now in
    let copied : c.in-Ok.copy.items ≡ c.args.bytes.now = search rules in
    let is = after_write (after_calls old m) (after_calls new m) c.in-Ok.copy.items c.args.bytes.now c.args.sector (after_passed m old new (Write c.args.sector c.in-Ok.copy) c.in_ok-note.ensures.ok) copied in
    subst (LeavesOnly true (IsMixedFrom c.args.sector ps (after_calls old m).state) (after_calls old m)) (sym is) (written_leaves ps c.args.sector (after_calls old m))

pub returns-in_err-note-clause-err : goal.returns-in_err-note-clause-err
returns-in_err-note-clause-err c = on_err _ _
    (after_failed (begun c.args.self.now.first.items) c.args.self.now.calls.items c.note.new.calls.items (Write c.args.sector c.in-Ok.copy) _ _ _ c.in_err-note.ensures.err)

pub returns-clause-content : goal.returns-clause-content
returns-clause-content c =
    let m = begun c.args.self.now.first.items in
    let old = c.args.self.now.calls.items in
    let new = c.note.new.calls.items in
    let copied : c.in-Ok.copy.items ≡ c.args.bytes.now = search rules in
    let is = after_write (after_calls old m) (after_calls new m) c.in-Ok.copy.items c.args.bytes.now c.args.sector (after_passed m old new (Write c.args.sector c.in-Ok.copy) c.in_ok-note.ensures.ok) copied in
    mixes_all _ _ _ (ap reads is ∙ reads_written (sectors_of c.args.bytes.now) c.args.sector (after_calls old m))
