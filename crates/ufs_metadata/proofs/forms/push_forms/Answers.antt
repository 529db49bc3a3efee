use Rattle.std.proofs.Common.{◌≡◌, ◌+◌, ◌-◌, ◌*◌, [], ◌∷◌, ◌++◌, take, drop, arith, ap, sym, ◌∙◌, append_assoc}
use Rattle.std.proofs.lemmas.List.{append-nil}
use Rattle.std.proofs.lemmas.List.FromFn.{map-range_with_len_more}
use Rattle.ufs_layout.specs.InodeForm.{inode_of}
use Rattle.ufs_metadata.specs.Told.{forms_in, piece}
use Rattle.ufs_metadata.proofs.forms.push_forms.Goals as goal

pub loop-i-init : goal.loop-i-init
loop-i-init c = sym (append-nil c.args.forms.now.items)

pub loop-i-preserved : goal.loop-i-preserved
loop-i-preserved c =
    let i = c.loop-i.i in
    let bytes = c.args.bytes.now in
    let long : 512 * i + 512 - 512 * i ≡ 512 = omega arith in
    c.in_ok-push_form.ensures
    ∙ (λ k. c.loop-i.invariant k ++ inode_of (take (long k) (drop (512 * i) bytes)) ∷ [])
    ∙ append_assoc c.args.forms.now.items (forms_in i bytes) (inode_of (take 512 (drop (512 * i) bytes)) ∷ [])
    ∙ ap (λ l. c.args.forms.now.items ++ l) (sym (map-range_with_len_more (λ k. inode_of (piece bytes k)) 0 i i (omega arith)))
