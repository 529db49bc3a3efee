use Rattle.std.proofs.Common.{◌≡◌, ◌+◌, ◌-◌, ◌*◌, [], ◌∷◌, ◌++◌, take, drop, arith, ap, sym, ◌∙◌, append_assoc}
use Rattle.std.proofs.lemmas.List.{append-nil}
use Rattle.ufs_layout.specs.DentryForm.{dentry_of}
use Rattle.ufs_metadata.specs.Told.{slots_in}
use Rattle.ufs_metadata.proofs.Rows.{slots_more}
use Rattle.ufs_metadata.proofs.dirs.push_slots.Goals as goal

pub loop-i-init : goal.loop-i-init
loop-i-init c = sym (append-nil c.args.slots.now.items)

pub loop-i-preserved : goal.loop-i-preserved
loop-i-preserved c =
    let i = c.loop-i.i in
    let bytes = c.args.bytes.now in
    let long : 64 * i + 64 - 64 * i ≡ 64 = omega arith in
    c.in_ok-push_slot.ensures
    ∙ (λ k. c.loop-i.invariant k ++ dentry_of (take (long k) (drop (64 * i) bytes)) ∷ [])
    ∙ append_assoc c.args.slots.now.items (slots_in i bytes) (dentry_of (take 64 (drop (64 * i) bytes)) ∷ [])
    ∙ ap (λ l. c.args.slots.now.items ++ l) (sym (slots_more i bytes))

pub returns : goal.returns
returns c =
    let all : c.loop-i.i ≡ 64 = omega arith in
    c.loop-i.invariant ∙ ap (λ n. c.args.slots.now.items ++ slots_in n c.args.bytes.now) all
