use Rattle.std.proofs.Common.{ℕ, ap, sym, ◌∙◌, subst}
use Rattle.ufs_file_commits.specs.State.{state_of}
use Rattle.ufs_held.specs.Held.{IsHeld, first_cell}
use Rattle.ufs_joint.specs.Cells.{View, given_of, kept_of}
use Rattle.ufs_model.specs.declared.data.PartName.TheVariants.{File}
use Rattle.ufs_dealt.specs.Dealt.{AreApart}
use Rattle.ufs_dealt.proofs.Cutting.{only_this}
use Rattle.ufs_dealt.proofs.Hands.{file_held, file_once, kept_apart, left_file}
use Rattle.ufs_dealt.proofs.dealing.deal_file.Goals as goal

pub new-requires-clause-held : goal.new-requires-clause-held
new-requires-clause-held g c =
    let x = state_of c.args.file c.args.commits in
    let h = c.requires.has in
    subst (IsHeld x) (sym (c.split-right.ensures.given ∙ ap (λ (n : ℕ). given_of (File n) c.args.hand.now) c.file.ensures)) (file_held c.args.hand.now c.requires.apart x h.0 h.1 h.2)

pub new-requires-clause-calm : goal.new-requires-clause-calm
new-requires-clause-calm g c = ap (λ (v : View). v.faults) c.split-right.ensures.given

pub returns-clause-cell : goal.returns-clause-cell
returns-clause-cell g c cell has =
    let right = c.split-right.ensures.given ∙ ap (λ (n : ℕ). given_of (File n) c.args.hand.now) c.file.ensures in
    c.new.ensures ∙ ap (first_cell (state_of c.args.file c.args.commits)) (ap (λ (v : View). v.files) right ∙ only_this c.args.file.file cell c.args.hand.now.files has (file_once c.args.hand.now c.requires.apart c.args.file.file))

pub returns-clause-left : goal.returns-clause-left
returns-clause-left g c =
    let h = c.requires.has in
    c.split-right.ensures.kept ∙ ap (λ (n : ℕ). kept_of (File n) c.args.hand.now) c.file.ensures ∙ left_file c.args.hand.now c.requires.apart c.args.file.file h.0 h.1

pub returns-clause-apart : goal.returns-clause-apart
returns-clause-apart g c =
    let kept = c.split-right.ensures.kept ∙ ap (λ (n : ℕ). kept_of (File n) c.args.hand.now) c.file.ensures in
    subst AreApart (sym kept) (kept_apart (File c.args.file.file) c.args.hand.now c.requires.apart)
